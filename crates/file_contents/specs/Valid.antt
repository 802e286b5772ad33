-- That the classes which were read are classes of files (JVMS 4.1).
use Rattle.std.specs.Prelude.{List}
use Rattle.std.specs.List.{AllByRecursion}
use Rattle.class_desc.specs.ClassFile.{IsValid}
use Rattle.file_contents.specs.declared.items.Content.{Content}
use Rattle.file_contents.specs.declared.items.Item.{Item}
use Rattle.file_contents.specs.Contents.{class_in, classes}

-- some file spells the class, if it is one
abbrev pub IsValidContent : Content → Type 0
IsValidContent content = AllByRecursion IsValid (class_in content)

abbrev pub AreValid : List Item → Type 0
AreValid items = AllByRecursion IsValid (classes items)
