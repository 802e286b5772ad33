-- What contracts see of the reader's own set of members.
use Rattle.class_desc.specs.ClassFile.{Key}
use Rattle.class_reader.specs.declared.member.MemberKey.{MemberKey}

abbrev pub key_seen : MemberKey → Key
key_seen key = (key.name.now, key.descriptor.now)
