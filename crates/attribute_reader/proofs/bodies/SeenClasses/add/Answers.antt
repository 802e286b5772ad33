use Rattle.std.proofs.Common.{◌≡◌, ℕ, Bool, true, false, cond, not, Result, Ok, Err, refl, sym, ap}
use Rattle.std.proofs.Common.{◌∙◌, ◌++◌, ◌∷◌, List, []}
use Rattle.std.specs.List.{list_any}
use Rattle.java_names.specs.Names.{is_text}
use Rattle.pool_reader.specs.declared.fault.ClassFault.{ClassFault}
use Rattle.pool_reader.specs.declared.fault.ClassKind.TheVariants.{F9}
use Rattle.pool_reader.specs.Reading.{fault_at}
use Rattle.attribute_reader.specs.Attributes.{HaveSame}
use Rattle.attribute_reader.specs.declared.bodies.InnerKey.{InnerKey}
use Rattle.attribute_reader.proofs.Keys.{names, any_seen, with_key}
use Rattle.attribute_reader.proofs.bodies.SeenClasses.add.Goals as goal
use Rattle.attribute_reader.proofs.bodies.SeenClasses.add.Goals.{then-branch, else-branch}

abbrev Checked : Type 0
Checked = Result (Unit {0}) ClassFault

abbrev checked : ℕ → Bool → Checked
checked at there = cond there (Err (fault_at at F9)) (Ok tt)

abbrev good : Checked
good = Ok tt

abbrev bad : ℕ → Checked
bad at = Err (fault_at at F9)

-- what the check gives where the key went in, and where it was there
accepted : (at : ℕ) (there added : Bool) → added ≡ not there → added ≡ true → checked at there
    ≡ good
accepted at true added e t = absurd (let h : false ≡ true = sym e ∙ t in cc)
accepted at false added e t = refl

refused : (at : ℕ) (there added : Bool) → added ≡ not there → added ≡ false → checked at there
    ≡ bad at
refused at true added e f = refl
refused at false added e f = absurd (let h : true ≡ false = sym e ∙ f in cc)

pub returns-clause-unseen : goal.returns-clause-unseen
returns-clause-unseen c =
    let key : InnerKey = record { name = c.args.name } in
    let there = list_any (is_text c.args.name.now) c.args.self.now in
    let e : c.in_ok-insert.field-0 ≡ not there = c.in_ok-insert.ensures.added
    ∙ ap not (any_seen key c.self.inside.keys.keys
    ∙ ap (list_any (is_text c.args.name.now)) c.self.view_is) in
    elim c.if-branch.branch [
      | then-branch w ↦ rw w.result-is
          (accepted c.args.at there c.in_ok-insert.field-0 e w.if-branch.true)
      | else-branch w ↦ rw (w.result-is, w.at.ensures)
          (refused c.args.at there c.in_ok-insert.field-0 e w.if-branch.false)
    ]

pub returns-clause-seen : goal.returns-clause-seen
returns-clause-seen c =
    let key : InnerKey = record { name = c.args.name } in
    let same : HaveSame (names c.insert.new.self.keys) (c.args.self.now ++ c.args.name.now ∷ []) =
    λ text. ap (λ (keys : List InnerKey). list_any (is_text text) (names keys))
    c.in_ok-insert.ensures.keys
    ∙ with_key key c.self.inside.keys.keys text
    ∙ ap (λ (seen : List (List ℕ)). list_any (is_text text) (seen ++ c.args.name.now ∷ []))
    c.self.view_is in
    elim c.if-branch.branch [
      | then-branch w ↦ rw w.result-is same
      | else-branch w ↦ rw w.result-is tt
    ]
