use Rattle.std.proofs.Common.{◌≡◌, ℕ, Bool, true, false, cond, not, Result, Ok, Err, refl, sym, ap}
use Rattle.std.proofs.Common.{◌∙◌, ◌++◌, ◌∷◌, List, [], map}
use Rattle.std.specs.List.{list_any}
use Rattle.class_desc.specs.ClassFile.{Key, is_key}
use Rattle.pool_reader.specs.declared.fault.ClassFault.{ClassFault}
use Rattle.pool_reader.specs.declared.fault.ClassKind.TheVariants.{F9}
use Rattle.pool_reader.specs.Reading.{fault_at}
use Rattle.class_reader.specs.declared.member.MemberKey.{MemberKey}
use Rattle.class_reader.specs.Reading.{HaveSame}
use Rattle.class_reader.specs.Seen.{key_seen}
use Rattle.class_reader.proofs.Keys.{any_seen, with_key}
use Rattle.class_reader.proofs.member.SeenMembers.add.Goals as goal
use Rattle.class_reader.proofs.member.SeenMembers.add.Goals.{then-branch, else-branch}

abbrev Checked : Type 0
Checked = Result (Unit {0}) ClassFault

abbrev checked : ℕ → Bool → Checked
checked at there = cond there (Err (fault_at at F9)) (Ok tt)

abbrev good : Checked
good = Ok tt

abbrev bad : ℕ → Checked
bad at = Err (fault_at at F9)

-- what the check gives where the key went in, and where it was there
accepted : (at : ℕ) (there added : Bool) → added ≡ not there → added ≡ true → checked at there
    ≡ good
accepted at true added e t = absurd (let h : false ≡ true = sym e ∙ t in cc)
accepted at false added e t = refl

refused : (at : ℕ) (there added : Bool) → added ≡ not there → added ≡ false → checked at there
    ≡ bad at
refused at true added e f = refl
refused at false added e f = absurd (let h : true ≡ false = sym e ∙ f in cc)

pub returns-clause-unseen : goal.returns-clause-unseen
returns-clause-unseen c =
    let key : MemberKey = record { name = c.args.name; descriptor = c.args.descriptor } in
    let there = list_any (is_key (c.args.name.now, c.args.descriptor.now)) c.args.self.now in
    let e : c.in_ok-insert.field-0 ≡ not there = c.in_ok-insert.ensures.added
    ∙ ap not (any_seen key c.self.inside.keys.keys
    ∙ ap (list_any (is_key (c.args.name.now, c.args.descriptor.now))) c.self.view_is) in
    elim c.if-branch.branch [
      | then-branch w ↦ rw w.result-is
          (accepted c.args.at there c.in_ok-insert.field-0 e w.if-branch.true)
      | else-branch w ↦ rw (w.result-is, w.at.ensures)
          (refused c.args.at there c.in_ok-insert.field-0 e w.if-branch.false)
    ]

pub returns-clause-seen : goal.returns-clause-seen
returns-clause-seen c =
    let key : MemberKey = record { name = c.args.name; descriptor = c.args.descriptor } in
    let same : HaveSame (map key_seen c.insert.new.self.keys)
    (c.args.self.now ++ (c.args.name.now, c.args.descriptor.now) ∷ []) =
    λ other. ap (λ (keys : List MemberKey). list_any (is_key other) (map key_seen keys))
    c.in_ok-insert.ensures.keys
    ∙ with_key key c.self.inside.keys.keys other
    ∙ ap (λ (seen : List Key). list_any (is_key other)
    (seen ++ (c.args.name.now, c.args.descriptor.now) ∷ [])) c.self.view_is in
    elim c.if-branch.branch [
      | then-branch w ↦ rw w.result-is same
      | else-branch w ↦ rw w.result-is tt
    ]
