use Rattle.java_names.proofs.Inverse.{path_again}
use Rattle.java_names.proofs.laws.a_path_is_that_of_its_name.Goals as goal

pub returns : goal.returns
returns c = λ path utf8. path_again path utf8
