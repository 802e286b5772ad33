-- All words behind `ask`: options in any order, of which the questions are kept in theirs.
use Rattle.std.specs.Prelude.{ℕ, ◌&&◌, ◌||◌, Bool, List, [], is_some}
use Rattle.std.specs.Prelude.{Option, Some, None, option_map, option_and_then, if◌then◌else◌}
use Rattle.std.specs.List.{list_all, filter_map}
use Rattle.std.specs.Option.{option_map_or}
use Rattle.java_names.specs.Names.{is_text}
use Rattle.java_names.specs.Paths.{name_of_path}
use Rattle.option_words.specs.declared.workers.TheConstants.{WORKERS}
use Rattle.option_words.specs.Lists.{nonempty, each, at_most_one}
use Rattle.option_words.specs.Options.{Given, options, values}
use Rattle.option_words.specs.Paths.{paths_by}
use Rattle.option_words.specs.Workers.{are_workers}
use Rattle.questions.specs.declared.ask.TheConstants.{CLASSES, FROM, UNDER}
use Rattle.questions.specs.declared.kind.Kind.{Kind}
use Rattle.questions.specs.declared.query.Query.{Query}
use Rattle.questions.specs.Kinds.{kind_of}
use Rattle.questions.specs.Values.{query_of}

-- a question: what its option asks, its value as written, and what that stands for
pub record Question : Type 0 where
  pub kind : Kind
  pub value : List ℕ
  pub query : Query

abbrev pub question_of : Kind → List ℕ → Option Question
question_of kind value =
    option_map (λ query. record { kind = kind; value = value; query = query }) (query_of kind value)

pub record Ask : Type 0 where
  -- the roots of the classes
  pub classes : List (List ℕ)
  -- the client's package, with / between its parts
  pub package_name : List ℕ
  -- the client's superclass
  pub super_name : Option (List ℕ)
  pub questions : List Question

-- ---- the questions

-- what an option asks, if it asks, with its value
abbrev pub asked_value : Given → Option (Kind × List ℕ)
asked_value given = option_map (λ kind. (kind, given.1)) (kind_of given.0)

-- the questions among the options, in their order: none where a value hasn't its form
abbrev pub each_question : List (Kind × List ℕ) → Option (List Question)
each_question = each (λ a. question_of a.0 a.1)

abbrev pub questions_of : List Given → Option (List Question)
questions_of given = each_question (filter_map asked_value given)

-- ---- all options

abbrev pub is_setting : List ℕ → Bool
is_setting option =
    is_text option CLASSES.now || is_text option FROM.now || is_text option UNDER.now
    || is_text option WORKERS.now

abbrev pub is_option : List ℕ → Bool
is_option option = is_some (kind_of option) || is_setting option

-- The package and the superclass have no form of their own. Without one the client is in the
-- unnamed package, or has no superclass.
abbrev pub asking : Option (List (List ℕ)) → Option (Option (List ℕ)) → Option (Option (List ℕ))
    → Option (List Question) → Option Ask
asking None from under questions = None
asking (Some classes) None under questions = None
asking (Some classes) (Some from) None questions = None
asking (Some classes) (Some from) (Some under) None = None
asking (Some classes) (Some from) (Some under) (Some questions) = Some (record {
  classes = classes;
  package_name = option_map_or name_of_path from [];
  super_name = option_map name_of_path under;
  questions = questions;
})

-- one root at least, one package and one superclass at most, one question at least
abbrev pub asked_by : List Given → Option Ask
asked_by given =
    asking
    (paths_by CLASSES.now given)
    (at_most_one (values FROM.now given))
    (at_most_one (values UNDER.now given))
    (option_and_then nonempty (questions_of given))

-- no other option is given, and the number of workers as it may be
abbrev pub are_right_options : List Given → Bool
are_right_options given =
    list_all (λ o. is_option o.0) given && are_workers given

abbrev pub ask_of : List Given → Option Ask
ask_of given = if are_right_options given then asked_by given else None

-- what the words behind `ask` ask for
abbrev pub ask : List (List ℕ) → Option Ask
ask words = option_and_then ask_of (options words)
