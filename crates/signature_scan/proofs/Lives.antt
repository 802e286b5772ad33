-- Each state goes on to some signature, and ends one exactly where it says so.
use Rattle.std.proofs.Common.{◌≡◌, ◌↔◌, inl, refl, ℕ, zero, suc, ◌+◌, ◌*◌, ◌≤◌, length, Bool}
use Rattle.std.proofs.Common.{true, false, ◌&&◌, ◌||◌, arith, List, [], ◌∷◌, ◌++◌}
use Rattle.std.specs.Prelude.{nat_lt}
use Rattle.std.specs.List.{list_all}
use Rattle.std.proofs.lemmas.Bool.{false≢true}
use Rattle.java_types.specs.declared.production.Production.{Production}
use Rattle.java_types.specs.declared.production.Production.TheVariants.{Element}
use Rattle.java_types.specs.declared.production.SigPlace.{SigPlace}
use Rattle.java_types.specs.declared.production.SigPlace.TheVariants.{ClassPlace, MethodPlace}
use Rattle.java_types.specs.declared.production.SigPlace.TheVariants.{FieldPlace}
use Rattle.signature_scan.specs.declared.part.Part.{Part}
use Rattle.signature_scan.specs.declared.part.Part.TheVariants as part
use Rattle.signature_scan.specs.declared.state.Around.{Around}
use Rattle.signature_scan.specs.declared.state.Around.TheVariants as around
use Rattle.signature_scan.specs.declared.state.State.{State}
use Rattle.signature_scan.specs.declared.state.State.TheVariants as state
use Rattle.signature_scan.specs.Machine.{depth_of, is_whole}
use Rattle.signature_scan.proofs.Conjunctions.{and_true, or_true}
use Rattle.signature_scan.proofs.Languages.{and_then, either, pair, same_test, cat_empty}
use Rattle.signature_scan.proofs.Languages.{star_none}
use Rattle.signature_scan.proofs.Expressions.{Expr, Byte, NameByte, Many, Maybe, Or, Both, Kind}
use Rattle.signature_scan.proofs.Expressions.{Dims, Words, Rows, AnyRow, IsKind, names, arguments}
use Rattle.signature_scan.proofs.Expressions.{can_end}
use Rattle.signature_scan.proofs.TypeLaws.{ends, goes}
use Rattle.signature_scan.proofs.States.{rows, part_row, beyond, outermost, parameter, body_row}
use Rattle.signature_scan.proofs.States.{start_row, colon_row, name_row}

-- ---- each expression has a word

abbrev sample : Expr → List ℕ
sample (Byte n) = n ∷ []
sample NameByte = 65 ∷ []
sample (Many e) = []
sample (Maybe e) = []
sample (Or e f) = sample e
sample (Both e f) = sample e ++ sample f
sample (Kind at) = 76 ∷ 65 ∷ 59 ∷ []
sample (Dims most) = 76 ∷ 65 ∷ 59 ∷ []

some_class : (at : Production) → IsKind at (76 ∷ 65 ∷ 59 ∷ [])
some_class at = (goes (Kind at) 76 (65 ∷ 59 ∷ [])).1 (inl (record {
  front = 65 ∷ [];
  rest = 59 ∷ [];
  whole = refl;
  first = record { byte = 65; is = refl; text = refl };
  second = record {
    front = [];
    rest = 59 ∷ [];
    whole = refl;
    first = star_none (Words NameByte);
    second = record {
      front = [];
      rest = 59 ∷ [];
      whole = refl;
      first = star_none (Words (Both (Both (Byte 47) NameByte) names));
      second = record {
        front = [];
        rest = 59 ∷ [];
        whole = refl;
        first = inl refl;
        second = record {
          front = [];
          rest = 59 ∷ [];
          whole = refl;
          first = star_none (Words (Both (Both (Both (Byte 46) NameByte) names) arguments));
          second = record {
            front = 59 ∷ [];
            rest = [];
            whole = refl;
            first = refl;
            second =
                refl;
          };
        };
      };
    };
  };
}))

sample_is : (e : Expr) → Words e (sample e)
sample_is (Byte n) = refl
sample_is NameByte = record { byte = 65; is = refl; text = refl }
sample_is (Many e) = star_none (Words e)
sample_is (Maybe e) = inl refl
sample_is (Or e f) = inl (sample_is e)
sample_is (Both e f) =
    record {
      front = sample e;
      rest = sample f;
      whole = refl;
      first = sample_is e;
      second = sample_is f;
    }
sample_is (Kind at) = some_class at
sample_is (Dims most) = let t = some_class Element in
    record { dims = 0; type = t.item; within = omega arith; is = t.is; text = t.whole }

abbrev row_word : List Expr → List ℕ
row_word [] = []
row_word (e ∷ es) = sample e ++ row_word es

row_is : (es : List Expr) → Rows es (row_word es)
row_is [] = refl
row_is (e ∷ es) = record {
  front = sample e;
  rest = row_word es;
  whole = refl;
  first = sample_is e;
  second = row_is es;
}

abbrev first_word : List (List Expr) → List ℕ
first_word [] = []
first_word (row ∷ more) = row_word row

-- a word that may follow in the state
abbrev pub word : State → List ℕ
word s = first_word (rows s)

pub lives : (s : State) → AnyRow (rows s) (word s)
lives (state.Start place) = inl (row_is (start_row place))
lives (state.Parameter place) = inl
    (row_is (parameter ∷ Many parameter ∷ Byte 62 ∷ body_row place))
lives (state.ParameterName place) = inl (row_is (name_row place))
lives (state.FirstBound place) = inl (row_is (colon_row place))
lives (state.ClassOrName place started) =
    inl (row_is (part_row (part.ClassName started) ++ outermost (around.Bounds place)))
lives (state.VariableOrName place started) =
    inl (row_is (part_row (part.VariableName started) ++ outermost (around.Bounds place)))
lives state.Parenthesis = inl (row_is (body_row MethodPlace))
lives (state.Behind a depth) = inl (row_is (beyond a depth))
lives (state.Within p a depth) = inl (row_is (part_row p ++ beyond a depth))

-- ---- the words are short, and of bytes

-- bytes, at most n of them
pub record AreFew (n : ℕ) (w : List ℕ) : Type 0 where
  pub few : length w ≤ n
  pub bytes : list_all (λ b. nat_lt b 256) w ≡ true

outermost_few : (a : Around) → AreFew 6 (row_word (outermost a))
outermost_few (around.Bounds ClassPlace) = record { few = omega arith; bytes = refl }
outermost_few (around.Bounds MethodPlace) = record { few = omega arith; bytes = refl }
outermost_few (around.Bounds FieldPlace) = record { few = omega arith; bytes = refl }
outermost_few around.Supertypes = record { few = omega arith; bytes = refl }
outermost_few around.Formals = record { few = omega arith; bytes = refl }
outermost_few around.Throws = record { few = omega arith; bytes = refl }
outermost_few around.Nothing = record { few = omega arith; bytes = refl }

beyond_few : (a : Around) (depth : ℕ) → AreFew (2 * depth + 6) (row_word (beyond a depth))
beyond_few a zero = outermost_few a
beyond_few a (suc depth) =
    let inner = beyond_few a depth in
    let few = inner.few in record { few = omega arith; bytes = inner.bytes }

part_few : (p : Part) (es : List Expr) (n : ℕ) → AreFew n (row_word es)
    → AreFew (n + 3) (row_word (part_row p ++ es))
part_few (part.Type w) es n h =
    let few = h.few in record { few = omega arith; bytes = h.bytes }
part_few (part.Dimensions more) es n h =
    let few = h.few in record { few = omega arith; bytes = h.bytes }
part_few (part.ClassName true) es n h =
    let few = h.few in record { few = omega arith; bytes = h.bytes }
part_few (part.ClassName false) es n h =
    let few = h.few in record { few = omega arith; bytes = h.bytes }
part_few (part.InnerName true) es n h =
    let few = h.few in record { few = omega arith; bytes = h.bytes }
part_few (part.InnerName false) es n h =
    let few = h.few in record { few = omega arith; bytes = h.bytes }
part_few (part.VariableName true) es n h =
    let few = h.few in record { few = omega arith; bytes = h.bytes }
part_few (part.VariableName false) es n h =
    let few = h.few in record { few = omega arith; bytes = h.bytes }
part_few part.Argument es n h =
    let few = h.few in record { few = omega arith; bytes = h.bytes }
part_few part.ArgumentsClosed es n h =
    let few = h.few in record { few = omega arith; bytes = h.bytes }

fewer : (n m : ℕ) (w : List ℕ) → n ≤ m → AreFew n w → AreFew m w
fewer n m w h are = let few = are.few in record { few = omega arith; bytes = are.bytes }

place_few : (place : SigPlace) → AreFew 9 (word (state.Start place))
place_few ClassPlace = record { few = omega arith; bytes = refl }
place_few MethodPlace = record { few = omega arith; bytes = refl }
place_few FieldPlace = record { few = omega arith; bytes = refl }

parameter_few : (place : SigPlace) → AreFew 9 (word (state.Parameter place))
parameter_few ClassPlace = record { few = omega arith; bytes = refl }
parameter_few MethodPlace = record { few = omega arith; bytes = refl }
parameter_few FieldPlace = record { few = omega arith; bytes = refl }

name_few : (place : SigPlace) → AreFew 9 (word (state.ParameterName place))
name_few ClassPlace = record { few = omega arith; bytes = refl }
name_few MethodPlace = record { few = omega arith; bytes = refl }
name_few FieldPlace = record { few = omega arith; bytes = refl }

pub word_few : (s : State) → AreFew (2 * depth_of s + 9) (word s)
word_few (state.Start place) = place_few place
word_few (state.Parameter place) = parameter_few place
word_few (state.ParameterName place) = name_few place
word_few (state.FirstBound place) =
    fewer 6 9 _ (omega arith) (outermost_few (around.Bounds place))
word_few (state.ClassOrName place started) =
    part_few (part.ClassName started) _ 6 (outermost_few (around.Bounds place))
word_few (state.VariableOrName place started) =
    part_few (part.VariableName started) _ 6 (outermost_few (around.Bounds place))
word_few state.Parenthesis = record { few = omega arith; bytes = refl }
word_few (state.Behind a depth) =
    fewer (2 * depth + 6) (2 * depth + 9) _ (omega arith) (beyond_few a depth)
word_few (state.Within p a depth) =
    fewer (2 * depth + 6 + 3) (2 * depth + 9) _ (omega arith)
    (part_few p (beyond a depth) (2 * depth + 6) (beyond_few a depth))

-- ---- where a signature ends

abbrev all_end : List Expr → Bool
all_end [] = true
all_end (e ∷ es) = can_end e && all_end es

abbrev any_end : List (List Expr) → Bool
any_end [] = false
any_end (row ∷ more) = all_end row || any_end more

row_end : (es : List Expr) → Rows es [] ↔ (all_end es ≡ true)
row_end [] = (λ e. refl, λ t. refl)
row_end (e ∷ es) =
    and_then (cat_empty (Words e) (Rows es))
    (and_then (pair (ends e) (row_end es)) (and_true (can_end e) (all_end es)))

rows_end : (more : List (List Expr)) → AnyRow more [] ↔ (any_end more ≡ true)
rows_end [] = (λ x. absurd x, λ t. absurd (false≢true t))
rows_end (row ∷ more) =
    and_then (either (row_end row) (rows_end more)) (or_true (all_end row) (any_end more))

part_end : (p : Part) (a : Around) (depth : ℕ) → any_end (rows (state.Within p a depth)) ≡ false
part_end (part.Type w) a depth = refl
part_end (part.Dimensions more) a depth = refl
part_end (part.ClassName true) a depth = refl
part_end (part.ClassName false) a depth = refl
part_end (part.InnerName true) a depth = refl
part_end (part.InnerName false) a depth = refl
part_end (part.VariableName true) a depth = refl
part_end (part.VariableName false) a depth = refl
part_end part.Argument a depth = refl
part_end part.ArgumentsClosed a depth = refl

state_end : (s : State) → any_end (rows s) ≡ is_whole s
state_end (state.Start ClassPlace) = refl
state_end (state.Start MethodPlace) = refl
state_end (state.Start FieldPlace) = refl
state_end (state.Parameter place) = refl
state_end (state.ParameterName place) = refl
state_end (state.FirstBound place) = refl
state_end (state.ClassOrName place true) = refl
state_end (state.ClassOrName place false) = refl
state_end (state.VariableOrName place true) = refl
state_end (state.VariableOrName place false) = refl
state_end state.Parenthesis = refl
state_end (state.Behind (around.Bounds place) zero) = refl
state_end (state.Behind around.Supertypes zero) = refl
state_end (state.Behind around.Formals zero) = refl
state_end (state.Behind around.Throws zero) = refl
state_end (state.Behind around.Nothing zero) = refl
state_end (state.Behind a (suc depth)) = refl
state_end (state.Within p a depth) = part_end p a depth

pub whole_is : (s : State) → AnyRow (rows s) [] ↔ (is_whole s ≡ true)
whole_is s = and_then (rows_end (rows s)) (same_test (any_end (rows s)) (is_whole s) (state_end s))
