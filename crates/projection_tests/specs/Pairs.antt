-- Pairs of worlds, of which the second shows less, and questions about both.
use Rattle.std.specs.Prelude.{◌≡◌, ℕ, Bool, List, [], map}
use Rattle.class_views.specs.Access.{Client}
use Rattle.class_views.specs.Query.{Query, Answer, ask, is_hidden}
use Rattle.class_views.specs.World.{World}

-- a client, a question, its answers in the full world and in the other one
abbrev pub Row : Type 0
Row = Client × Query × Answer × Answer

-- the same answer in both
abbrev pub kept : Client → Query → Answer → Row
kept client query answer = (client, query, answer, answer)

abbrev pub changed : Client → Query → Answer → Answer → Row
changed client query answer other = (client, query, answer, other)

pub record Pair : Type 0 where
  pub full : World
  pub less : World
  pub rows : List Row

abbrev pub full_answers : Pair → List Answer
full_answers p = map (λ row. ask p.full row.0 row.1) p.rows

abbrev pub answers_left : Pair → List Answer
answers_left p = map (λ row. ask p.less row.0 row.1) p.rows

-- the answers are those that stand in the rows
abbrev pub Agree : List Pair → Type 0
Agree pairs =
    (map full_answers pairs ≡ map (λ p. map (λ row. row.2) p.rows) pairs)
    × (map answers_left pairs ≡ map (λ p. map (λ row. row.3) p.rows) pairs)

-- which classes of a world were read, by their names
abbrev pub all_read : World → List (List ℕ)
all_read world = map (λ c. c.name) world

abbrev pub none_read : World → List (List ℕ)
none_read world = []

-- whether each question is hidden, where these classes were read
abbrev pub AreHidden : (World → List (List ℕ)) → Bool → List Pair → Type 0
AreHidden read hidden pairs =
    map (λ p. map (λ row. is_hidden p.full (read p.full) row.1) p.rows) pairs
    ≡ map (λ p. map (λ row. hidden) p.rows) pairs
