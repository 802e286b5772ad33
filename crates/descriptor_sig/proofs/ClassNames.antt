-- The name of a class, byte by byte.
use Rattle.std.proofs.Common.{◌≡◌, refl, ap, sym, subst, ◌∙◌, ℕ, ◌-◌, ◌<◌, ◌≤◌, Bool, true, false}
use Rattle.std.proofs.Common.{cond, not, ◌&&◌, ◌||◌, eqb, List, [], ◌∷◌, ◌++◌, length, suc, take}
use Rattle.std.proofs.Common.{drop, get_or, Some, None, append_assoc, append-nil, length-append}
use Rattle.std.proofs.Common.{arith, inl, inr, ◌⊎◌}
use Rattle.std.specs.Prelude.{codes}
use Rattle.std.specs.List.{list_all, slice_split, onto_first}
use Rattle.std.proofs.lemmas.Bool.{eqb-true, ne_eqb, and_parts, false≢true, both_ways}
use Rattle.std.proofs.lemmas.List.{take_at, take_all}
use Rattle.java_names.specs.Names.{is_among, is_unqualified, is_class_name}
use Rattle.descriptor_sig.specs.Parts.{part_behind, NameSpells, IsRead, IsStuck, as_left}

abbrev pub is_separator : ℕ → Bool
is_separator b = is_among (codes ".;[/") b

-- whether a text ends a name of which a part has begun, or not
abbrev pub ends_name : Bool → List ℕ → Bool
ends_name begun [] = begun
ends_name begun (b ∷ bs) =
    cond (eqb b 47) (begun && ends_name false bs) (not (is_separator b) && ends_name true bs)

-- the same of its parts
abbrev end_parts : Bool → List (List ℕ) → Bool
end_parts begun [] = true
end_parts begun (first ∷ later) =
    (begun || not (eqb (length first) 0)) && list_all (λ b. not (is_separator b)) first
    && list_all is_unqualified later

suc_not_zero : (n : ℕ) → eqb (suc n) 0 ≡ false
suc_not_zero n = ne_eqb (suc n) 0 (λ e. absurd (omega arith))

regrouped : (begun z g a l : Bool) → z ≡ false → g && (a && l) ≡ ((begun || not z) && (g && a))
    && l
regrouped true z true a l e = refl
regrouped true z false a l e = refl
regrouped false false true a l e = refl
regrouped false false false a l e = refl
regrouped false true g a l e = absurd cc

onto : (begun : Bool) (b : ℕ) (parts : List (List ℕ))
    → not (is_separator b) && end_parts true parts ≡ end_parts begun (onto_first b parts)
onto begun b [] = regrouped begun (eqb (suc 0) 0) (not (is_separator b)) true true (suc_not_zero 0)
onto begun b (first ∷ later) =
    regrouped begun (eqb (suc (length first)) 0) (not (is_separator b))
    (list_all (λ x. not (is_separator x)) first) (list_all is_unqualified later)
    (suc_not_zero (length first))

new_part : (begun : Bool) (parts : List (List ℕ))
    → begun && end_parts false parts ≡ ((begun || false) && true) && list_all is_unqualified parts
new_part true [] = refl
new_part true (first ∷ later) = refl
new_part false parts = refl

parts_end : (begun : Bool) (bs : List ℕ)
    → ends_name begun bs ≡ end_parts begun (slice_split (λ b. eqb b 47) bs)
parts_end true [] = refl
parts_end false [] = refl
parts_end begun (b ∷ bs) = by (eqb b 47) (parts_end false bs) (parts_end true bs)
  where
    parts : List (List ℕ)
    parts = slice_split (λ x. eqb x 47) bs

    by : (v : Bool) → ends_name false bs ≡ end_parts false (slice_split (λ x. eqb x 47) bs)
        → ends_name true bs ≡ end_parts true (slice_split (λ x. eqb x 47) bs)
        → cond v (begun && ends_name false bs) (not (is_separator b) && ends_name true bs)
        ≡ end_parts begun (cond v ([] ∷ slice_split (λ x. eqb x 47) bs)
        (onto_first b (slice_split (λ x. eqb x 47) bs)))
    by true none some = ap (λ x. begun && x) none ∙ new_part begun (slice_split (λ x. eqb x 47) bs)
    by false none some =
        ap (λ x. not (is_separator b) && x) some ∙ onto begun b (slice_split (λ x. eqb x 47) bs)

all_parts : (parts : List (List ℕ)) → end_parts false parts ≡ list_all is_unqualified parts
all_parts [] = refl
all_parts (first ∷ later) = refl

pub class_name_ends : (bs : List ℕ) → is_class_name bs ≡ ends_name false bs
class_name_ends bs = sym (parts_end false bs ∙ all_parts (slice_split (λ b. eqb b 47) bs))

-- ---- a name has no ;

record FirstByte (b : ℕ) (bs : List ℕ) : Type 0 where
  is_no_end : b ≡ 59 → ⊥
  begun : Bool
  later : ends_name begun bs ≡ true

first_byte : (begun : Bool) (b : ℕ) (bs : List ℕ) → ends_name begun (b ∷ bs) ≡ true →
    FirstByte b bs
first_byte begun b bs h = by (eqb b 47) refl h
  where
    by : (v : Bool) → eqb b 47 ≡ v
        → cond v (begun && ends_name false bs) (not (is_separator b) && ends_name true bs) ≡ true
        → FirstByte b bs
    by true e k =
        record {
          is_no_end = λ f. absurd (omega (arith, eqb-true b 47 e));
          begun = false;
          later = (and_parts begun (ends_name false bs) k).1;
        }
    by false e k =
        let p = and_parts (not (is_separator b)) (ends_name true bs) k in
        record {
          is_no_end = λ f. false≢true (subst (λ x. not (is_separator x) ≡ true) f p.0);
          begun = true;
          later = p.1;
        }

no_end_inside : (begun : Bool) (m w : List ℕ) → ends_name begun (m ++ (59 ∷ w)) ≡ true → ⊥
no_end_inside begun [] w h = (first_byte begun 59 w h).is_no_end refl
no_end_inside begun (b ∷ m) w h = let f = first_byte begun b (m ++ (59 ∷ w)) h in
    no_end_inside f.begun m w f.later

-- ---- two ways to cut one text

pub append_meet : (a b c d : List ℕ) → a ++ b ≡ c ++ d
    → ((z : List ℕ) × (a ≡ c ++ z) × (z ++ b ≡ d)) ⊎ ((z : List ℕ) × (c ≡ a ++ z) × (b ≡ z ++ d))
append_meet [] b c d e = inr (c, refl, e)
append_meet (x ∷ a) b [] d e = inl (x ∷ a, refl, e)
append_meet (x ∷ a) b (y ∷ c) d e = by (append_meet a b c d cc) cc
  where
    by : ((z : List ℕ) × (a ≡ c ++ z) × (z ++ b ≡ d))
        ⊎ ((z : List ℕ) × (c ≡ a ++ z) × (b ≡ z ++ d))
        → x ≡ y → ((z : List ℕ) × (x ∷ a ≡ y ∷ (c ++ z)) × (z ++ b ≡ d))
        ⊎ ((z : List ℕ) × (y ∷ c ≡ x ∷ (a ++ z)) × (b ≡ z ++ d))
    by (inl (z, p, q)) h = inl (z, cc, q)
    by (inr (z, p, q)) h = inr (z, cc, q)

-- ---- what is known within a name

pub record NameSoFar (begun : Bool) (text left : List ℕ) : Type 0 where
  pub front : List ℕ
  pub whole : text ≡ front ++ left
  pub on : (more : List ℕ) → is_class_name (front ++ more) ≡ ends_name begun more

pub name_start : (text : List ℕ) → NameSoFar false text text
name_start text = record { front = []; whole = refl; on = λ more. class_name_ends more }

-- one byte on
byte_on : (begun next : Bool) (b : ℕ) → part_behind begun b ≡ Some next → (more : List ℕ)
    → ends_name begun (b ∷ more) ≡ ends_name next more
byte_on begun next b h more = by (eqb b 47) begun (is_separator b) h
  where
    by : (v g s : Bool) → cond v (cond g (Some false) None) (cond s None (Some true)) ≡ Some next
        → cond v (g && ends_name false more) (not s && ends_name true more) ≡ ends_name next more
    by true true s e = let f : false ≡ next = cc in ap (λ x. ends_name x more) f
    by true false s e = absurd cc
    by false g true e = absurd cc
    by false g false e = let f : true ≡ next = cc in ap (λ x. ends_name x more) f

byte_off : (begun : Bool) (b : ℕ) → part_behind begun b ≡ None → (more : List ℕ)
    → ends_name begun (b ∷ more) ≡ false
byte_off begun b h more = by (eqb b 47) begun (is_separator b) h
  where
    by : (v g s : Bool) → cond v (cond g (Some false) None) (cond s None (Some true)) ≡ None
        → cond v (g && ends_name false more) (not s && ends_name true more) ≡ false
    by true true s e = absurd cc
    by true false s e = refl
    by false g true e = refl
    by false g false e = absurd cc

pub name_more : (begun next : Bool) (b : ℕ) (text left : List ℕ) → NameSoFar begun text (b ∷ left)
    → part_behind begun b ≡ Some next → NameSoFar next text left
name_more begun next b text left s h = record {
  front = s.front ++ (b ∷ []);
  whole = s.whole ∙ sym (append_assoc s.front (b ∷ []) left);
  on =
      λ more. ap is_class_name (append_assoc s.front (b ∷ []) more) ∙ s.on (b ∷ more)
      ∙ byte_on begun next b h more;
}

pub name_done : (begun : Bool) (b : ℕ) (text left name : List ℕ) → NameSoFar begun text (b ∷ left)
    → begun ≡ true → b ≡ 59 → name ≡ take (length text - length (b ∷ left)) text
    → IsRead NameSpells text left name
name_done begun b text left name s g e cut =
    let n : length s.front ≡ length text - length (b ∷ left) = omega
    (arith, ap length s.whole, length-append s.front (b ∷ left)) in
    let is : name ≡ s.front = cut ∙ ap (take (length text - length (b ∷ left))) s.whole
    ∙ take_at s.front (b ∷ left) (length text - length (b ∷ left)) n in
    record {
      front = name ++ codes ";";
      whole =
          s.whole ∙ ap (λ (k : ℕ). s.front ++ (k ∷ left)) e
          ∙ ap (λ (t : List ℕ). t ++ (59 ∷ left)) (sym is)
          ∙ sym (append_assoc name (codes ";") left);
      spells = record {
        form = ap is_class_name (is ∙ sym (append-nil s.front)) ∙ s.on [] ∙ g;
        whole = refl;
      };
    }

-- no name goes on with what is left
pub record IsHalted (begun : Bool) (left : List ℕ) : Type 0 where
  pub no_part : (b : ℕ) (later : List ℕ) → left ≡ b ∷ later → part_behind begun b ≡ None
  pub no_end : (later : List ℕ) → left ≡ 59 ∷ later → begun ≡ false

halted : (begun : Bool) (z left more later : List ℕ) → IsHalted begun left
    → ends_name begun z ≡ true → z ++ (59 ∷ more) ≡ as_left left later → ⊥
halted begun [] [] more later h k e = absurd cc
halted begun [] (b ∷ left) more later h k e =
    both_ways begun (h.no_end left (let f : b ≡ 59 = cc in ap (λ (x : ℕ). x ∷ left) f)) k
halted begun (a ∷ z) [] more later h k e = absurd cc
halted begun (a ∷ z) (b ∷ left) more later h k e =
    let f : a ≡ b = cc in
    both_ways (ends_name begun (a ∷ z))
    (subst (λ (x : ℕ). ends_name begun (x ∷ z) ≡ false) (sym f)
    (byte_off begun b (h.no_part b left refl) z)) k

pub name_stuck : (begun : Bool) (text left : List ℕ) → NameSoFar begun text left
    → IsHalted begun left → IsStuck NameSpells text left
name_stuck begun text left s h = record {
  front = s.front;
  whole = s.whole;
  begun = (
    s.front ++ (97 ∷ []),
    97 ∷ 59
        ∷ [],
    record {
      form = s.on (97 ∷ []);
      whole = sym (append_assoc s.front (97 ∷ []) (codes ";"));
    },
  );
  refused =
      λ item spelled more later sp e. by item more later sp.form
      (append_meet item (59 ∷ more) s.front (as_left left later)
      (sym (append_assoc item (codes ";") more) ∙ ap (λ (t : List ℕ). t ++ more) (sym sp.whole)
      ∙ e));
}
  where
    by : (item more later : List ℕ) → is_class_name item ≡ true
        → ((z : List ℕ) × (item ≡ s.front ++ z) × (z ++ (59 ∷ more) ≡ as_left left later))
        ⊎ ((z : List ℕ) × (s.front ≡ item ++ z) × (59 ∷ more ≡ z ++ as_left left later)) → ⊥
    by item more later form (inl (z, p, q)) =
        halted begun z left more later h (sym (s.on z) ∙ ap is_class_name (sym p) ∙ form) q
    by item more later form (inr ([], p, q)) =
        halted begun [] left more later h
        (sym (s.on []) ∙ ap is_class_name (append-nil s.front ∙ p ∙ append-nil item) ∙ form) q
    by item more later form (inr (c ∷ z, p, q)) =
        let f : c ≡ 59 = cc in
        let whole : s.front ++ (97 ∷ [])
        ≡ item ++ (59 ∷ (z ++ (97 ∷ []))) =
        ap (λ (t : List ℕ). t ++ (97 ∷ [])) (p ∙ ap (λ (x : ℕ). item ++ (x ∷ z)) f)
        ∙ append_assoc item (59 ∷ z) (97 ∷ []) in
        no_end_inside false item (z ++ (97 ∷ []))
        (sym (class_name_ends (item ++ (59 ∷ (z ++ (97 ∷ []))))) ∙ ap is_class_name (sym whole)
        ∙ s.on (97 ∷ []))

-- ---- the same, at the byte that is read of a slice

abbrev pub tail_of : List ℕ → List ℕ
tail_of left = take (length left - 1) (drop 1 left)

pub opened : (left : List ℕ) → 1 ≤ length left → left ≡ get_or left 0 0 ∷ tail_of left
opened [] h = absurd (omega arith)
opened (b ∷ left) h =
    ap (λ (t : List ℕ). b ∷ t) (sym (take_all (suc (length left) - 1) left (omega arith)))

pub name_more_at : (begun next : Bool) (text left : List ℕ) → NameSoFar begun text left
    → 1 ≤ length left → part_behind begun (get_or left 0 0) ≡ Some next
    → NameSoFar next text (tail_of left)
name_more_at begun next text left s h e =
    name_more begun next (get_or left 0 0) text (tail_of left)
    (subst (λ (t : List ℕ). NameSoFar begun text t) (opened left h) s) e

pub name_done_at : (begun : Bool) (text left name : List ℕ) → NameSoFar begun text left
    → 1 ≤ length left → begun ≡ true → get_or left 0 0 ≡ 59
    → name ≡ take (length text - length left) text → IsRead NameSpells text (tail_of left) name
name_done_at begun text left name s h g e cut =
    name_done begun (get_or left 0 0) text (tail_of left) name
    (subst (λ (t : List ℕ). NameSoFar begun text t) (opened left h) s) g e
    (cut ∙ ap (λ (t : List ℕ). take (length text - length t) text) (opened left h))

pub name_stuck_at : (begun : Bool) (text left : List ℕ) → NameSoFar begun text left
    → 1 ≤ length left → part_behind begun (get_or left 0 0) ≡ None
    → (get_or left 0 0 ≡ 59 → begun ≡ false) → IsStuck NameSpells text left
name_stuck_at begun text left s h e no_end = name_stuck begun text left s (record {
  no_part =
      λ b later is. subst (λ k. part_behind begun k ≡ None) (ap (λ (t : List ℕ). get_or t 0 0) is)
      e;
  no_end = λ later is. no_end (ap (λ (t : List ℕ). get_or t 0 0) is);
})

pub name_cut_short : (begun : Bool) (text left : List ℕ) → NameSoFar begun text left
    → length left < 1 → IsStuck NameSpells text left
name_cut_short begun text left s h = name_stuck begun text left s (record {
  no_part = λ b later is. absurd (omega (arith, ap length is));
  no_end = λ later is. absurd (omega (arith, ap length is));
})
