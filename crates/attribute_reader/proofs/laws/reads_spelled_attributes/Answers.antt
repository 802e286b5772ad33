use Rattle.class_desc.specs.declared.place.Place.TheVariants as place
use Rattle.attribute_reader.proofs.AttributeLaws.{reads_of_class, reads_of_field, reads_of_method}
use Rattle.attribute_reader.proofs.SpelledAttributes.{reads_spelled, spelled_is_read}
use Rattle.attribute_reader.proofs.laws.reads_spelled_attributes.Goals as goal

pub returns-clause-spelled : goal.returns-clause-spelled
returns-clause-spelled c = (
  reads_spelled place.Class reads_of_class,
  reads_spelled place.Field reads_of_field,
  reads_spelled place.Method reads_of_method,
)

pub returns-clause-read : goal.returns-clause-read
returns-clause-read c = (
  spelled_is_read place.Class reads_of_class,
  spelled_is_read place.Field reads_of_field,
  spelled_is_read place.Method reads_of_method,
)
