-- Fronts of spelled lists of segments.
use Rattle.std.proofs.Common.{◌≡◌, refl, sym, ◌∙◌, ap, subst, ℕ, Bool, true, false, List, [], ◌∷◌}
use Rattle.std.proofs.Common.{◌++◌, inl, inr, ◌⊎◌}
use Rattle.std.proofs.lemmas.List.{append_assoc, append-nil}
use Rattle.std.proofs.lemmas.Grind.{flat_map-append}
use Rattle.std.specs.List.{flat_map, AllByRecursion}
use Rattle.java_token.specs.declared.token.Token.{Token}
use Rattle.segments.specs.declared.segment.Segment.{Segment}
use Rattle.segments.specs.declared.segment.SegEnd.TheOpen.{SegEnd-F}
use Rattle.java_ast.specs.declared.declaration.DeclKind.{DeclKind}
use Rattle.java_ast.specs.declared.declaration.DeclKind.TheVariants as declares
use Rattle.java_ast.specs.declared.declaration.TypeDecl.{TypeDecl, out-TypeDecl}
use Rattle.java_ast.specs.declared.declaration.Member.TheViews.{roll-TypeDecl, out-roll-TypeDecl}
use Rattle.java_ast.specs.declared.declaration.Member.{Member}
use Rattle.java_ast.specs.declared.declaration.EnumConst.{EnumConst}
use Rattle.java_ast.specs.declared.unit.Unit as unit
use Rattle.java_grammar.specs.declared.part.Part.TheVariants as part
use Rattle.java_grammar.specs.Marks.{Mark, Single, Group, Semi, EndLayer, end_marks, head_marks}
use Rattle.java_grammar.specs.Marks.{segment_marks}
use Rattle.java_grammar.specs.Words.{◌⨾◌, Comma, Commas, PerhapsCommas}
use Rattle.java_grammar.specs.Annotations.{AnnSpells}
use Rattle.java_grammar.specs.Members.{Semicolon}
use Rattle.java_grammar.specs.Declarations.{DeclLayer, Fits, MembersSpell, none, one_more}
use Rattle.java_grammar.specs.Declarations.{Arguments, ClassBody, ConstantSpells, Constants}
use Rattle.java_grammar.specs.Declarations.{is_skipped, end_of, EndsSkipped, EndsTail}
use Rattle.java_grammar.specs.Declarations.{EnumBodySpells, with_members, ends_in_body}
use Rattle.java_grammar.specs.Declarations.{ends_in_tail, BodySpells, DeclWithin, DeclSpells}
use Rattle.java_grammar.specs.Units.{PackageSpells, ImportSpells, Items, none as no_item, empty}
use Rattle.java_grammar.specs.Units.{item, IsUnit, IsBody, OfUnit, OfBody}
use Rattle.java_grammar.specs.Fronts.{FrontsAreSpelled}
use Rattle.java_grammar.proofs.Ungrouped.{OfToken, OfTokens, joined, of_is, of_word_on}
use Rattle.java_grammar.proofs.Ungrouped.{of_perhaps, of_row, of_annotation, of_marks}

-- ---- lists

pub data Split {X : Type 0} (before behind a b : List X) : Type 0 where
  within : (rest : List X) → a ≡ before ++ rest → behind ≡ rest ++ b → Split before behind a b
  beyond : (x : X) (more : List X) → before ≡ a ++ x ∷ more → b ≡ (x ∷ more) ++ behind
      → Split before behind a b

split_more : {X : Type 0} (x y : X) (before behind a b : List X) → x ≡ y → Split before behind a b
    → Split (x ∷ before) behind (y ∷ a) b
split_more x y before behind a b e (within rest p q) = within rest
    (ap (λ l. y ∷ l) p ∙ ap (λ z. z ∷ (before ++ rest)) (sym e)) q
split_more x y before behind a b e (beyond z more p q) = beyond z more
    (ap (λ l. x ∷ l) p ∙ ap (λ w. w ∷ (a ++ z ∷ more)) e) q

-- one list, cut in two ways
split : {X : Type 0} (before behind a b : List X) → before ++ behind ≡ a ++ b
    → Split before behind a b
split [] behind a b e = within a refl e
split (x ∷ before) behind [] b e = beyond x before refl (sym e)
split (x ∷ before) behind (y ∷ a) b e =
    let first : x ≡ y = cc in
    let others : before ++ behind ≡ a ++ b = cc in
    split_more x y before behind a b first (split before behind a b others)

all_front : {X : Type 0} (P : X → Type 0) (xs ys : List X) → AllByRecursion P (xs ++ ys)
    → AllByRecursion P xs
all_front P [] ys all = tt
all_front P (x ∷ xs) ys all = (all.0, all_front P xs ys all.1)

-- ---- members, imports and declarations, each in a segment

members_front : (N : TypeDecl → Segment → Type 0) (kind : DeclKind) (name : List ℕ)
    (before behind : List Segment) (ms : List Member)
    → MembersSpell N kind name ms (before ++ behind)
    → (fewer : List Member) × MembersSpell N kind name fewer before
members_front N kind name [] behind ms spelled = ([], none)
members_front N kind name (s ∷ before) behind ms (one_more these others t segments first rest) =
    let r = members_front N kind name before behind others rest in
    (these ++ r.0, one_more these r.0 s before first r.1)

items_front : {X : Type 0} (Spells : X → Segment → Type 0) (before behind : List Segment)
    (xs : List X)
    → Items Spells xs (before ++ behind) → (fewer : List X) × Items Spells fewer before
items_front Spells [] behind xs spelled = ([], no_item)
items_front Spells (s ∷ before) behind xs (empty others t segments e rest) =
    let r = items_front Spells before behind others rest in (r.0, empty r.0 s before e r.1)
items_front Spells (s ∷ before) behind xs (item x others t segments first rest) =
    let r = items_front Spells before behind others rest in
    (x ∷ r.0, item x r.0 s before first r.1)

-- ---- units

package_front : (names : List (List ℕ)) (before rest : List Segment)
    → PackageSpells names (before ++ rest)
    → (fewer : List (List ℕ)) × PackageSpells fewer before
package_front names [] rest spelled = ([], refl)
package_front [] (s ∷ before) rest spelled = absurd cc
package_front (w ∷ names) (s ∷ []) [] spelled = (w ∷ names, spelled)
package_front (w ∷ names) (s ∷ []) (t ∷ rest) spelled = absurd spelled
package_front (w ∷ names) (s ∷ t ∷ before) rest spelled = absurd spelled

-- before the imports' end
unit_to_imports : (u : unit.Unit) (front more behind imports declarations : List Segment)
    → PackageSpells u.package front
    → Items ImportSpells u.imports imports → Items DeclSpells u.types declarations
    → Split more behind imports declarations
    → IsUnit (front ++ more)
unit_to_imports u front more behind imports declarations named imported declared
    (within rest e f) =
    let r = items_front ImportSpells more rest u.imports
    (subst (Items ImportSpells u.imports) e imported) in
    let fewer : unit.Unit = record u { imports = r.0; types = [] } in (
      fewer,
      record {
        front = front;
        imports = more;
        declarations = [];
        whole = ap (λ l. front ++ l) (sym (append-nil more));
        package_is = named;
        imported = r.1;
        declared = no_item;
      },
    )
unit_to_imports u front more behind imports declarations named imported declared
    (beyond s others e f) =
    let r = items_front DeclSpells (s ∷ others) behind u.types
    (subst (Items DeclSpells u.types) f declared) in
    let fewer : unit.Unit = record u { types = r.0 } in (
      fewer,
      record {
        front = front;
        imports = imports;
        declarations = s ∷ others;
        whole = ap (λ l. front ++ l) e;
        package_is = named;
        imported = imported;
        declared = r.1;
      },
    )

unit_to : (u : unit.Unit) (before behind front imports declarations : List Segment)
    → PackageSpells u.package front
    → Items ImportSpells u.imports imports → Items DeclSpells u.types declarations
    → Split before behind front (imports ++ declarations) → IsUnit before
unit_to u before behind front imports declarations named imported declared (within rest e f) =
    let r = package_front u.package before rest (subst (PackageSpells u.package) e named) in
    let fewer : unit.Unit = record u { «package» = r.0; imports = []; types = [] } in (
      fewer,
      record {
        front = before;
        imports = [];
        declarations = [];
        whole = sym (append-nil before);
        package_is = r.1;
        imported = no_item;
        declared = no_item;
      },
    )
unit_to u before behind front imports declarations named imported declared (beyond s more e f) =
    subst IsUnit (sym e)
    (unit_to_imports u front (s ∷ more) behind imports declarations named imported declared
    (split (s ∷ more) behind imports declarations (sym f)))

unit_front : (before behind : List Segment) → IsUnit (before ++ behind) → IsUnit before
unit_front before behind (u, x) =
    unit_to u before behind x.front x.imports x.declarations x.package_is x.imported x.declared
    (split before behind x.front (x.imports ++ x.declarations) x.whole)

-- ---- constants of an enum: a group is the end of one

-- behind tokens alone
past : (a g x y : List Mark) → OfTokens a → a ++ g ≡ x ++ Group ∷ y
    → (m : List Mark) × (x ≡ a ++ m) × (g ≡ m ++ Group ∷ y)
past [] g x y tokens e = (x, refl, e)
past (t ∷ a) g [] y tokens e = let first : t ≡ Group = cc in absurd (subst OfToken first tokens.0)
past (t ∷ a) g (z ∷ x) y tokens e =
    let first : t ≡ z = cc in
    let others : a ++ g ≡ x ++ Group ∷ y = cc in
    let r = past a g x y tokens.1 others in
    (r.0, ap (λ l. z ∷ l) r.1 ∙ ap (λ w. w ∷ (a ++ r.0)) (sym first), r.2)

-- a constant: tokens, and a group or none
pub record Parted (c : EnumConst) (text : List Mark) : Type 0 where
  pub tokens : List Mark
  pub body : List Mark
  pub whole : text ≡ tokens ++ body
  pub plain : OfTokens tokens
  pub ends : ClassBody c.has_body body

of_arguments : (text : List Mark) → Arguments text → OfTokens text
of_arguments text x = subst OfTokens (sym x.whole) (tt, of_marks x.inside)

parted : (c : EnumConst) (text : List Mark) → ConstantSpells c text → Parted c text
parted c text x =
    let word = x.after in
    let last = word.after in
    let anns : OfTokens x.front = of_row AnnSpells of_annotation c.anns x.front x.before in
    let name : OfTokens word.front = of_word_on c.line c.name word.front word.before in
    let args : OfTokens last.front = of_perhaps Arguments of_arguments last.front last.before in
    record {
      tokens = x.front ++ (word.front ++ last.front);
      body = last.rest;
      whole = x.whole ∙ ap (λ l. x.front ++ l)
          (word.whole ∙ ap (λ l. word.front ++ l) last.whole
          ∙ sym (append_assoc word.front last.front last.rest))
          ∙ sym (append_assoc x.front (word.front ++ last.front) last.rest);
      plain = joined x.front (word.front ++ last.front) anns
          (joined word.front last.front name args);
      ends = last.after;
    }

abbrev UpTo : List Mark → Type 0
UpTo text = (cs : List EnumConst) × Commas ConstantSpells cs text

-- a group in a body is all of it
body_group : (has : Bool) (body m y : List Mark) → ClassBody has body → body ≡ m ++ Group ∷ y
    → (m ≡ []) × (y ≡ []) × (body ≡ Group ∷ [])
body_group false body m y e f = absurd (no_group m y (sym e ∙ f))
  where
    no_group : (m y : List Mark) → [] ≡ m ++ Group ∷ y → ⊥
    no_group [] y e = cc
    no_group (n ∷ m) y e = cc
body_group true body [] y e f = let rest : y ≡ [] = cc in (refl, rest, e)
body_group true body (n ∷ m) y e f = absurd (too_long m y (tail_is n m y (sym f ∙ e)))
  where
    tail_is : (n : Mark) (m y : List Mark) → (n ∷ m) ++ Group ∷ y ≡ Group ∷ []
        → m ++ Group ∷ y ≡ []
    tail_is n m y e = cc

    too_long : (m y : List Mark) → m ++ Group ∷ y ≡ [] → ⊥
    too_long [] y e = cc
    too_long (n ∷ m) y e = cc

ends_here : (tokens body m x text : List Mark) → text ≡ tokens ++ body → x ≡ tokens ++ m → m ≡ []
    → body ≡ Group ∷ [] → text ≡ x ++ Group ∷ []
ends_here tokens body m x text whole e nil group =
    whole ∙ ap (λ l. tokens ++ l) group
    ∙ sym (ap (λ l. l ++ Group ∷ []) (e ∙ ap (λ l. tokens ++ l) nil ∙ append-nil tokens))

one_constant : (c : EnumConst) (x y text : List Mark) → ConstantSpells c text
    → text ≡ x ++ Group ∷ y → ConstantSpells c (x ++ Group ∷ [])
one_constant c x y text z e =
    let p = parted c text z in
    let r = past p.tokens p.body x y p.plain (sym p.whole ∙ e) in
    let b = body_group c.has_body p.body r.0 y p.ends r.2 in
    subst (ConstantSpells c) (ends_here p.tokens p.body r.0 x text p.whole r.1 b.0 b.2) z

-- no group stands there
abbrev Ungrouped : List Mark → Type 0
Ungrouped text = (m y : List Mark) → text ≡ m ++ Group ∷ y → ⊥

nothing_ungrouped : Ungrouped []
nothing_ungrouped [] y e = cc
nothing_ungrouped (n ∷ m) y e = cc

tokens_ungrouped : (text : List Mark) → OfTokens text → Ungrouped text
tokens_ungrouped text tokens m y e =
    let r = past text [] m y tokens (append-nil text ∙ e) in nothing_ungrouped r.0 y r.2

semi_ungrouped : Ungrouped (Semi ∷ [])
semi_ungrouped [] y e = cc
semi_ungrouped (n ∷ m) y e = let others : [] ≡ m ++ Group ∷ y = cc in nothing_ungrouped m y others

in_front : (front rest x y : List Mark) → Ungrouped rest → Split x (Group ∷ y) front rest
    → (r : List Mark) × (front ≡ x ++ Group ∷ r)
in_front front rest x y plain (within [] e f) = absurd (plain [] y (sym f))
in_front front rest x y plain (within (m ∷ r) e f) =
    let first : Group ≡ m = cc in (r, e ∙ ap (λ w. x ++ w ∷ r) (sym first))
in_front front rest x y plain (beyond n more e f) = absurd (plain (n ∷ more) y f)

before_rest : (front rest x y : List Mark) → Ungrouped rest → front ++ rest ≡ x ++ Group ∷ y
    → (r : List Mark) × (front ≡ x ++ Group ∷ r)
before_rest front rest x y plain e = in_front front rest x y plain
    (split x (Group ∷ y) front rest (sym e))

add_constant : (c : EnumConst) (front x more : List Mark) (n : Mark) → ConstantSpells c front
    → Comma (n ∷ []) → x ≡ front ++ n ∷ more
    → UpTo (more ++ Group ∷ []) → UpTo (x ++ Group ∷ [])
add_constant c front x more n first comma e ([], spelled) = absurd spelled
add_constant c front x more n first comma e (d ∷ ds, spelled) = (
  c ∷ d ∷ ds,
  record {
    front = front;
    rest = n ∷ (more ++ Group ∷ []);
    whole = ap (λ l. l ++ Group ∷ []) e ∙ append_assoc front (n ∷ more) (Group ∷ []);
    before = first;
    after = record {
      front = n ∷ [];
      rest = more ++ Group ∷ [];
      whole = refl;
      before = comma;
      after = spelled;
    };
  },
)

behind_comma : (t : Token) (comma rest text more y : List Mark) (n : Mark) → text ≡ comma ++ rest
    → comma ≡ Single t ∷ [] → text ≡ (n ∷ more) ++ Group ∷ y
    → (comma ≡ n ∷ []) × (rest ≡ more ++ Group ∷ y)
behind_comma t comma rest text more y n whole e f =
    let g : Single t ∷ rest ≡ n ∷ (more ++ Group ∷ y) = sym (whole ∙ ap (λ l. l ++ rest) e) ∙ f in
    let first : Single t ≡ n = cc in
    let others : rest ≡ more ++ Group ∷ y = cc in
    (e ∙ ap (λ w. w ∷ []) first, others)

no_comma_group : (comma rest text y : List Mark) (t : Token) → text ≡ comma ++ rest
    → comma ≡ Single t ∷ [] → Group ∷ y ≡ text → ⊥
no_comma_group comma rest text y t whole e f =
    let g : Group ∷ y ≡ Single t ∷ rest = f ∙ whole ∙ ap (λ l. l ++ rest) e in cc

-- the rest of the constants, given those of the list behind the first
up_to_more : (c : EnumConst) (others : List EnumConst) (front rest x y : List Mark)
    → ((u v text : List Mark) → Commas ConstantSpells others text → text ≡ u ++ Group ∷ v
    → UpTo (u ++ Group ∷ []))
    → ConstantSpells c front → (Comma ⨾ Commas ConstantSpells others) rest
    → Split x (Group ∷ y) front rest → UpTo (x ++ Group ∷ [])
up_to_more c others front rest x y up first z (within [] e f) =
    absurd (no_comma_group z.front z.rest rest y z.before.token z.whole z.before.whole f)
up_to_more c others front rest x y up first z (within (m ∷ r) e f) =
    let group : Group ≡ m = cc in
    (c ∷ [], one_constant c x r front first (e ∙ ap (λ w. x ++ w ∷ r) (sym group)))
up_to_more c others front rest x y up first z (beyond n more e f) =
    let b = behind_comma z.before.token z.front z.rest rest more y n z.whole z.before.whole f in
    add_constant c front x more n first (subst Comma b.0 z.before) e (up more y z.rest z.after b.1)

-- the constants up to a group
up_to : (cs : List EnumConst) (x y text : List Mark) → Commas ConstantSpells cs text
    → text ≡ x ++ Group ∷ y → UpTo (x ++ Group ∷ [])
up_to [] x y text z e = absurd z
up_to (c ∷ []) x y text z e = (c ∷ [], one_constant c x y text z e)
up_to (c ∷ d ∷ cs) x y text z e =
    up_to_more c (d ∷ cs) z.front z.rest x y (up_to (d ∷ cs)) z.before z.after
    (split x (Group ∷ y) z.front z.rest (sym e ∙ z.whole))

abbrev UpToConstants : List Mark → Type 0
UpToConstants text = (cs : List EnumConst) × Constants cs text

without_comma : (text : List Mark) → UpTo text → UpToConstants text
without_comma text ([], spelled) = absurd spelled
without_comma text (c ∷ cs, spelled) = (
  c ∷ cs,
  record {
    front = text;
    rest = [];
    whole = sym (append-nil text);
    before = spelled;
    after = inl refl;
  },
)

constants_by : (cs : List EnumConst) (x r front : List Mark)
    → PerhapsCommas ConstantSpells cs front → front ≡ x ++ Group ∷ r → UpTo (x ++ Group ∷ [])
constants_by [] x r front spelled e = absurd (nothing_ungrouped x r (sym spelled ∙ e))
constants_by (c ∷ cs) x r front spelled e = up_to (c ∷ cs) x r front spelled e

constants_to : (cs : List EnumConst) (x y text : List Mark) → Constants cs text
    → text ≡ x ++ Group ∷ y → UpToConstants (x ++ Group ∷ [])
constants_to cs x y text z e =
    let plain = tokens_ungrouped z.rest (of_perhaps Comma (of_is part.Comma) z.rest z.after) in
    let r = before_rest z.front z.rest x y plain (sym z.whole ∙ e) in
    without_comma (x ++ Group ∷ []) (constants_by cs x r.0 z.front z.before r.1)

closed_to : (cs : List EnumConst) (x y text : List Mark) → (Constants cs ⨾ Semicolon) text
    → text ≡ x ++ Group ∷ y → UpToConstants (x ++ Group ∷ [])
closed_to cs x y text z e =
    let plain : Ungrouped z.rest = subst Ungrouped (sym z.after) semi_ungrouped in
    let r = before_rest z.front z.rest x y plain (sym z.whole ∙ e) in
    constants_to cs x r.0 z.front z.before r.1

-- ---- bodies of enums

ends_of : (end : EndLayer) → is_skipped end ≡ true → end_marks end ≡ Group ∷ []
ends_of SegEnd-F.Semi e = cc
ends_of (SegEnd-F.Body body) e = cc
ends_of (SegEnd-F.Skipped line) e = refl
ends_of SegEnd-F.Tail e = cc

skipped_marks : (s : Segment) → EndsSkipped s → segment_marks s ≡ head_marks s ++ Group ∷ []
skipped_marks s ends = ap (λ l. head_marks s ++ l) (ends_of (end_of s) ends.1)

abbrev LastGroup : List Segment → Type 0
LastGroup segments = (segments ≡ []) ⊎
    ((x : List Mark) × (flat_map segment_marks segments ≡ x ++ Group ∷ []))

last_group_by : (s : Segment) (more : List Segment) → EndsSkipped s → LastGroup more
    → LastGroup (s ∷ more)
last_group_by s more ends (inl none_) =
    inr (
      head_marks s,
      ap (λ l. segment_marks s ++ flat_map segment_marks l) none_
          ∙ append-nil (segment_marks s) ∙ skipped_marks s ends,
    )
last_group_by s more ends (inr (x, e)) =
    inr (
      segment_marks s ++ x,
      ap (λ l. segment_marks s ++ l) e
          ∙ sym (append_assoc (segment_marks s) x (Group ∷ [])),
    )

last_group : (segments : List Segment) → AllByRecursion EndsSkipped segments → LastGroup segments
last_group [] all = inl refl
last_group (s ∷ more) all = last_group_by s more all.0 (last_group more all.1)

abbrev changed : DeclLayer → List EnumConst → List Member → DeclLayer
changed d constants members = record d { constants = constants; members = members }

pub record BodyFront (N : TypeDecl → Segment → Type 0) (kind : DeclKind) (d : DeclLayer)
    (before : List Segment) : Type 0 where
  pub constants : List EnumConst
  pub members : List Member
  pub spelled : BodySpells N kind (changed d constants members) before

abbrev EnumFront : (TypeDecl → Segment → Type 0) → DeclLayer → List Segment → Type 0
EnumFront N d before = BodyFront N declares.Enumeration d before

no_constants : Constants [] []
no_constants = record { front = []; rest = []; whole = refl; before = refl; after = inl refl }

enum_within_by : (N : TypeDecl → Segment → Type 0) (d : DeclLayer) (before : List Segment)
    (tail : List Mark) → AllByRecursion EndsSkipped before
    → ((x y : List Mark) → flat_map segment_marks before ++ tail ≡ x ++ Group ∷ y
    → UpToConstants (x ++ Group ∷ []))
    → LastGroup before → EnumFront N d before
enum_within_by N d before tail all up (inl none_) =
    record {
      constants = [];
      members = [];
      spelled = subst (EnumBodySpells N (changed d [] [])) (sym none_)
          (ends_in_body [] tt no_constants refl);
    }
enum_within_by N d before tail all up (inr (x, e)) =
    let r = up x tail (ap (λ l. l ++ tail) e ∙ append_assoc x (Group ∷ []) tail) in
    record {
      constants = r.0;
      members = [];
      spelled = ends_in_body before all (subst (Constants r.0) (sym e) r.1) refl;
    }

-- before the end of the constants
enum_within : (N : TypeDecl → Segment → Type 0) (d : DeclLayer) (front before rest : List Segment)
    (tail : List Mark)
    → front ≡ before ++ rest → AllByRecursion EndsSkipped front
    → ((x y : List Mark) → flat_map segment_marks front ++ tail ≡ x ++ Group ∷ y
    → UpToConstants (x ++ Group ∷ []))
    → EnumFront N d before
enum_within N d front before rest tail e all up =
    let some = all_front EndsSkipped before rest (subst (AllByRecursion EndsSkipped) e all) in
    let same : flat_map segment_marks front ++ tail
    ≡ flat_map segment_marks before ++ (flat_map segment_marks rest ++ tail) =
    ap (λ l. flat_map segment_marks l ++ tail) e
    ∙ ap (λ l. l ++ tail) (flat_map-append segment_marks before rest)
    ∙ append_assoc (flat_map segment_marks before) (flat_map segment_marks rest) tail in
    enum_within_by N d before (flat_map segment_marks rest ++ tail) some
    (λ x y f. up x y (same ∙ f)) (last_group before some)

enum_with_members : (N : TypeDecl → Segment → Type 0) (d : DeclLayer) (front : List Segment)
    (s : Segment) (others before behind : List Segment)
    → AllByRecursion EndsSkipped front → Fits s
    → (Constants d.constants ⨾ Semicolon) (flat_map segment_marks front ++ segment_marks s)
    → MembersSpell N declares.Enumeration d.name d.members others
    → Split before behind front (s ∷ others) → EnumFront N d before
enum_with_members N d front s others before behind all fits constants members (within rest e f) =
    enum_within N d front before rest (segment_marks s) e all
    (λ x y g. closed_to d.constants x y _ constants g)
enum_with_members N d front s others before behind all fits constants members (beyond t more e f) =
    let first : s ≡ t = cc in
    let tail : others ≡ more ++ behind = cc in
    let r = members_front N declares.Enumeration d.name more behind d.members
    (subst (MembersSpell N declares.Enumeration d.name d.members) tail members) in
    let same : before ≡ front ++ s ∷ more = e ∙ ap (λ w. front ++ w ∷ more) (sym first) in
    record {
      constants = d.constants;
      members = r.0;
      spelled = subst (EnumBodySpells N (changed d d.constants r.0)) (sym same)
          (with_members front s more all fits constants r.1);
    }

enum_to_end : (N : TypeDecl → Segment → Type 0) (d : DeclLayer)
    (front before behind : List Segment) → AllByRecursion EndsSkipped front
    → Constants d.constants (flat_map segment_marks front) → Split before behind front []
    → EnumFront N d before
enum_to_end N d front before behind all constants (within rest e f) =
    enum_within N d front before rest [] e all
    (λ x y g. constants_to d.constants x y _ constants
    (sym (append-nil (flat_map segment_marks front)) ∙ g))
enum_to_end N d front before behind all constants (beyond t more e f) = absurd cc

nothing_left : (more behind : List Segment) → [] ≡ more ++ behind → more ≡ []
nothing_left [] behind e = refl
nothing_left (s ∷ more) behind e = absurd cc

enum_to_tail : (N : TypeDecl → Segment → Type 0) (d : DeclLayer) (front : List Segment)
    (s : Segment) (before behind : List Segment)
    → AllByRecursion EndsSkipped front → EndsTail s
    → Constants d.constants (flat_map segment_marks front ++ segment_marks s)
    → Split before behind front (s ∷ []) → EnumFront N d before
enum_to_tail N d front s before behind all tail constants (within rest e f) =
    enum_within N d front before rest (segment_marks s) e all
    (λ x y g. constants_to d.constants x y _ constants g)
enum_to_tail N d front s before behind all tail constants (beyond t more e f) =
    let first : s ≡ t = cc in
    let left : [] ≡ more ++ behind = cc in
    let same : before ≡ front ++ s ∷ [] = e ∙ ap (λ w. front ++ w ∷ more) (sym first)
    ∙ ap (λ l. front ++ s ∷ l) (nothing_left more behind left) in
    record {
      constants = d.constants;
      members = [];
      spelled = subst (EnumBodySpells N (changed d d.constants [])) (sym same)
          (ends_in_tail front s all tail constants refl);
    }

enum_front : (N : TypeDecl → Segment → Type 0) (d : DeclLayer)
    (segments before behind : List Segment) → EnumBodySpells N d segments
    → before ++ behind ≡ segments → EnumFront N d before
enum_front N d segments before behind (with_members front s others all fits constants members) e =
    enum_with_members N d front s others before behind all fits constants members
    (split before behind front (s ∷ others) e)
enum_front N d segments before behind (ends_in_body front all constants none_) e =
    enum_to_end N d front before behind all constants
    (split before behind front [] (e ∙ sym (append-nil front)))
enum_front N d segments before behind (ends_in_tail front s all tail constants none_) e =
    enum_to_tail N d front s before behind all tail constants
    (split before behind front (s ∷ []) e)

-- ---- class bodies

body_front : (N : TypeDecl → Segment → Type 0) (kind : DeclKind) (d : DeclLayer)
    (before behind : List Segment) → BodySpells N kind d (before ++ behind)
    → BodyFront N kind d before
body_front N declares.Enumeration d before behind spelled = enum_front N d
    (before ++ behind) before behind spelled refl
body_front N declares.Class d before behind spelled =
    let r = members_front N declares.Class d.name before behind d.members spelled in
    record { constants = d.constants; members = r.0; spelled = r.1 }
body_front N declares.Interface d before behind spelled =
    let r = members_front N declares.Interface d.name before behind d.members spelled in
    record { constants = d.constants; members = r.0; spelled = r.1 }
body_front N declares.Recorded d before behind spelled =
    let r = members_front N declares.Recorded d.name before behind d.members spelled in
    record { constants = d.constants; members = r.0; spelled = r.1 }
body_front N declares.Annotation d before behind spelled =
    let r = members_front N declares.Annotation d.name before behind d.members spelled in
    record { constants = d.constants; members = r.0; spelled = r.1 }

front_in_body : (kind : DeclKind) (name : List ℕ) (before behind : List Segment)
    → IsBody kind name (before ++ behind) → IsBody kind name before
front_in_body kind name before behind b =
    let d = out-TypeDecl b.declaration in
    let n = b.spelled.0 in
    let r = body_front (DeclWithin n) d.kind d before behind b.spelled.1 in
    let layer = changed d r.constants r.members in
    let out = out-roll-TypeDecl layer in
    record {
      declaration = roll-TypeDecl layer;
      same_kind = ap (λ (l : DeclLayer). l.kind) out ∙ b.same_kind;
      same_name = ap (λ (l : DeclLayer). l.name) out ∙ b.same_name;
      spelled = (
        n,
        subst (λ (l : DeclLayer). BodySpells (DeclWithin n) l.kind l before)
            (sym out) r.spelled,
      );
    }

pub fronts : FrontsAreSpelled
fronts OfUnit before behind spelled = unit_front before behind spelled
fronts (OfBody kind name) before behind spelled = front_in_body kind name before behind spelled
