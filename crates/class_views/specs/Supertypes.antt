-- The one fold along supertypes, whatever stands for names and for classes.
use Rattle.std.specs.Prelude.{ℕ, zero, suc, List, Option, None, option_map, option_and_then}
use Rattle.std.specs.List.{filter_map}

-- where classes are found, and the names of their supertypes
pub record Hierarchy (Name Class : Type 0) : Type 0 where
  -- the class of a name, or none where no class is there
  pub look : Name → Option Class
  pub superclass : Class → Option Name
  pub superinterfaces : Class → List Name

-- what a step makes of a class, of what it made of the superclass, if that is there, and of the
-- superinterfaces that are there, in their order
abbrev pub StepOf : Type 0 → Type 0 → Type 0
StepOf Class Made = Class → Option Made → List Made → Made

-- what a step makes of a class, if this is what it made of the names above
abbrev pub step_over : {Name Class Made : Type 0} → Hierarchy Name Class → StepOf Class Made →
    (Name → Option Made) → Class → Made
step_over h step above c =
    step c (option_and_then above (h.superclass c)) (filter_map above (h.superinterfaces c))

-- what a step makes of the class of a name, up to a depth; none where no class is there
unfoldable pub fold_at : {Name Class Made : Type 0} → Hierarchy Name Class → StepOf Class Made →
    ℕ →
    Name → Option Made
fold_at h step zero name = None
fold_at h step (suc depth) name =
    option_map (step_over h step (fold_at h step depth)) (h.look name)
