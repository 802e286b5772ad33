use Rattle.std.proofs.Common.{◌≡◌, ℕ, Bool, true, false, ◌||◌, List, ◌∷◌, sym, ap, ◌∙◌, rules}
use Rattle.std.specs.List.{list_any}
use Rattle.used_files.specs.Paths.{parts_of, front_of, is_meta_inf}
use Rattle.used_files.proofs.Folders.{has_folder, has_none}
use Rattle.used_files.proofs.paths.has_meta_inf.Goals as goal

-- whether one of the folders is META-INF, by the first
any_first : (folder : List ℕ) (folders : List (List ℕ)) (b : Bool) → is_meta_inf folder ≡ b
    → list_any is_meta_inf (folder ∷ folders) ≡ (b || list_any is_meta_inf folders)
any_first folder folders b e = ap (λ t. t || list_any is_meta_inf folders) e

pub returns-then-eq : goal.returns-then-eq
returns-then-eq c =
    let e = has_folder c.loop-folder.rest.now c.in-Some.folder.now c.in-Some.behind.now
    (sym c.in-Some.ensures.parts) in
    let same : is_meta_inf c.in-Some.folder.now ≡ true = sym c.eq.ensures ∙ c.if-eq.true in
    sym (any_first c.in-Some.folder.now (front_of (parts_of c.in-Some.behind.now)) true same)
    ∙ ap (list_any is_meta_inf) (sym e) ∙ c.loop-folder.invariant.1

pub loop-folder-preserved : goal.loop-folder-preserved
loop-folder-preserved c =
    let e = has_folder c.loop-folder.rest.now c.in-Some.folder.now c.in-Some.behind.now
    (sym c.in-Some.ensures.parts) in
    let other : is_meta_inf c.in-Some.folder.now ≡ false = sym c.eq.ensures ∙ c.if-eq.false in
    let same = sym
    (any_first c.in-Some.folder.now (front_of (parts_of c.in-Some.behind.now)) false other)
    ∙ ap (list_any is_meta_inf) (sym e) ∙ c.loop-folder.invariant.1 in
    (search rules, same)

pub returns : goal.returns
returns c =
    sym (ap (list_any is_meta_inf)
    (has_none c.loop-folder.rest.now (sym c.in_default.ensures.parts))) ∙ c.loop-folder.invariant.1
