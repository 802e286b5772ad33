-- Types as languages: what stands in a type behind its first byte.
use Rattle.std.proofs.Common.{◌≡◌, ◌↔◌, inl, inr, refl, sym, ap, ◌∙◌, ℕ, Bool, true, List, []}
use Rattle.std.proofs.Common.{◌∷◌, ◌++◌, map}
use Rattle.std.specs.Prelude.{codes}
use Rattle.std.specs.List.{list_all, flat_map, concat}
use Rattle.std.proofs.lemmas.Bool.{false≢true}
use Rattle.std.proofs.lemmas.List.Folds.{flat_map-map, list_all-map}
use Rattle.lemmas.proofs.Lists.{concat-map}
use Rattle.java_types.specs.declared.types.JType.{JType}
use Rattle.java_types.specs.declared.types.JPart.{JPart, roll-JPart, out-JPart}
use Rattle.java_types.specs.declared.types.JArg.{JArg, roll-JArg, out-JArg, roll-out-JArg}
use Rattle.java_types.specs.declared.types.JArg.TheVariants as arg
use Rattle.java_types.specs.declared.types.JArg.TheOpen.{JPart-F, JArg-F}
use Rattle.java_types.specs.Types.{type_text, part_text, arg_text, parts_text, args_text}
use Rattle.java_types.specs.declared.production.Production.TheVariants.{Reference}
use Rattle.java_types.specs.Signature.{is_part, is_arg, are_parts}
use Rattle.java_names.specs.Names.{is_identifier, is_binary_name}
use Rattle.java_types.proofs.Layers as layers
use Rattle.signature_scan.proofs.Conjunctions.{and_true}
use Rattle.signature_scan.proofs.Languages.{and_then, turned, Cat, Star, stars}
use Rattle.signature_scan.proofs.Expressions.{Expr, Byte, NameByte, Maybe, Or, Both, Words}
use Rattle.signature_scan.proofs.Expressions.{IsTextOf, IsKind, names, argument, arguments}
use Rattle.signature_scan.proofs.Expressions.{inners, parts_is}
use Rattle.signature_scan.proofs.Names.{Identifier, identifier_is, BinaryName, binary_name_is}
use Rattle.signature_scan.proofs.Items.{texts_as, list_is, behind_byte}

-- ---- type arguments

arg_to : (w : List ℕ) (a : JArg) (layer : JArg-F JArg JType JPart) → roll-JArg layer ≡ a
    → is_arg a ≡ true → w ≡ arg_text a → Words argument w
arg_to w a (JArg-F.Exact ty) r is e = let v = sym r ∙ arg.rolls-Exact ty in
    inr (record {
      front = [];
      rest = w;
      whole = refl;
      first = inl refl;
      second =
          record {
            item = ty;
            is = sym (layers.form_exact ty) ∙ ap is_arg (sym v) ∙ is;
            whole = e ∙ ap arg_text v ∙ layers.text_exact ty;
          };
    })
arg_to w a (JArg-F.Extends ty) r is e = let v = sym r ∙ arg.rolls-Extends ty in
    inr (record {
      front = 43 ∷ [];
      rest = type_text ty;
      whole = e ∙ ap arg_text v ∙ layers.text_extends ty;
      first = inr (inl refl);
      second =
          record {
            item = ty;
            is = sym (layers.form_extends ty) ∙ ap is_arg (sym v) ∙ is;
            whole = refl;
          };
    })
arg_to w a (JArg-F.Super ty) r is e = let v = sym r ∙ arg.rolls-Super ty in
    inr (record {
      front = 45 ∷ [];
      rest = type_text ty;
      whole = e ∙ ap arg_text v ∙ layers.text_super ty;
      first = inr (inr refl);
      second =
          record {
            item = ty;
            is = sym (layers.form_super ty) ∙ ap is_arg (sym v) ∙ is;
            whole = refl;
          };
    })
arg_to w a JArg-F.Any r is e = let v = sym r ∙ arg.rolls-Any in
    inl (e ∙ ap arg_text v ∙ layers.text_any)

bound_to : (w front rest : List ℕ) → w ≡ front ++ rest
    → Words (Maybe (Or (Byte 43) (Byte 45))) front → IsKind Reference rest
    → IsTextOf is_arg arg_text w
bound_to w front rest e (inl none) t = record {
  item = arg.Exact t.item;
  is = layers.form_exact t.item ∙ t.is;
  whole = e ∙ ap (λ (v : List ℕ). v ++ rest) none ∙ t.whole ∙ sym (layers.text_exact t.item);
}
bound_to w front rest e (inr (inl plus)) t = record {
  item = arg.Extends t.item;
  is = layers.form_extends t.item ∙ t.is;
  whole =
      e ∙ ap (λ (v : List ℕ). v ++ rest) plus ∙ ap (λ (v : List ℕ). 43 ∷ v) t.whole
      ∙ sym (layers.text_extends t.item);
}
bound_to w front rest e (inr (inr minus)) t = record {
  item = arg.Super t.item;
  is = layers.form_super t.item ∙ t.is;
  whole =
      e ∙ ap (λ (v : List ℕ). v ++ rest) minus ∙ ap (λ (v : List ℕ). 45 ∷ v) t.whole
      ∙ sym (layers.text_super t.item);
}

arg_back : (w : List ℕ) → Words argument w → IsTextOf is_arg arg_text w
arg_back w (inl star) =
    record { item = arg.Any; is = layers.form_any; whole = star ∙ sym layers.text_any }
arg_back w (inr c) = bound_to w c.front c.rest c.whole c.first c.second

argument_is : (w : List ℕ) → IsTextOf is_arg arg_text w ↔ Words argument w
argument_is w =
    (λ t. arg_to w t.item (out-JArg t.item) (roll-out-JArg t.item) t.is t.whole, arg_back w)

-- the arguments of a part
abbrev are_args : List JArg → Bool
are_args args = list_all (λ a. a) (map is_arg args)

abbrev text_of_args : List JArg → List ℕ
text_of_args args = args_text (map arg_text args)

later_args : (w : List ℕ) → IsTextOf are_args (λ args. concat (map arg_text args)) w
    ↔ Star (Words argument) w
later_args w =
    and_then (texts_as are_args (list_all is_arg) (λ args. concat (map arg_text args))
    (flat_map arg_text) (list_all-map (λ a. a) is_arg) (concat-map arg_text) w)
    (list_is is_arg arg_text (Words argument) argument_is w)

args_to : (w : List ℕ) (args : List JArg) → are_args args ≡ true → w ≡ text_of_args args
    → Words arguments w
args_to w [] is e = inl e
args_to w (a ∷ args) is e =
    let p = (and_true (is_arg a) (are_args args)).1 is in
    inr (record {
      front = 60 ∷ (arg_text a ++ concat (map arg_text args));
      rest = 62 ∷ [];
      whole = e;
      first = record {
        front = 60 ∷ arg_text a;
        rest = concat (map arg_text args);
        whole = refl;
        first =
            record {
              front = 60 ∷ [];
              rest = arg_text a;
              whole = refl;
              first = refl;
              second = (argument_is (arg_text a)).0 (record { item = a; is = p.0; whole = refl });
            };
        second =
            (later_args (concat (map arg_text args))).0
            (record { item = args; is = p.1; whole = refl });
      };
      second = refl;
    })

args_back : (w : List ℕ) → Words arguments w → IsTextOf are_args text_of_args w
args_back w (inl e) = record { item = []; is = refl; whole = e }
args_back w (inr c) =
    let front = c.first in
    let one = (argument_is front.first.rest).1 front.first.second in
    let more = (later_args front.rest).1 front.second in
    record {
      item = one.item ∷ more.item;
      is = (and_true (is_arg one.item) (are_args more.item)).0 (one.is, more.is);
      whole = c.whole
          ∙ ap (λ (v : List ℕ). v ++ c.rest) (front.whole
          ∙ ap (λ (v : List ℕ). v ++ front.rest)
          (front.first.whole ∙ ap (λ (v : List ℕ). v ++ front.first.rest) front.first.first
          ∙ ap (λ (v : List ℕ). 60 ∷ v) one.whole)
          ∙ ap (λ (v : List ℕ). 60 ∷ (arg_text one.item ++ v)) more.whole)
          ∙ ap (λ (v : List ℕ). 60 ∷ ((arg_text one.item ++ concat (map arg_text more.item)) ++ v))
          c.second;
    }

arguments_is : (w : List ℕ) → IsTextOf are_args text_of_args w ↔ Words arguments w
arguments_is w = (λ t. args_to w t.item t.is t.whole, args_back w)

-- ---- parts of a class

module _ (is_name : List ℕ → Bool) (N : List ℕ → Type 0)
    (name_is : (name : List ℕ) → (is_name name ≡ true) ↔ N name) where
  part_to : (w : List ℕ) (part : JPart) → is_part part is_name ≡ true → w ≡ part_text part
      → Cat N (Words arguments) w
  part_to w part is e =
      let p = (and_true (is_name (out-JPart part).name) (are_args (out-JPart part).args)).1
      (sym (layers.form_part part is_name) ∙ is) in
      record {
        front = (out-JPart part).name;
        rest = text_of_args (out-JPart part).args;
        whole = e ∙ layers.text_part part;
        first = (name_is (out-JPart part).name).0 p.0;
        second =
            (arguments_is (text_of_args (out-JPart part).args)).0
            (record { item = (out-JPart part).args; is = p.1; whole = refl });
      }

  part_back : (w : List ℕ) → Cat N (Words arguments) w
      → IsTextOf (λ part. is_part part is_name) part_text w
  part_back w c =
      let args = (arguments_is c.rest).1 c.second in
      let layer : JPart-F JArg JType JPart = record { name = c.front; args = args.item } in
      record {
        item = roll-JPart layer;
        is =
            layers.form_rolled_part layer is_name
            ∙ (and_true (is_name c.front) (are_args args.item)).0
            ((name_is c.front).1 c.first, args.is);
        whole =
            c.whole ∙ ap (λ (v : List ℕ). c.front ++ v) args.whole
            ∙ sym (layers.text_rolled_part layer);
      }

  part_is : (w : List ℕ) → IsTextOf (λ part. is_part part is_name) part_text w
      ↔ Cat N (Words arguments) w
  part_is w = (λ t. part_to w t.item t.is t.whole, part_back w)

abbrev inner : Expr
inner = Both (Byte 46) (Both (Both NameByte names) arguments)

inner_as : (w : List ℕ) → Words inner w
    ↔ Words (Both (Both (Both (Byte 46) NameByte) names) arguments) w
inner_as w =
    and_then (parts_is inner w) (turned
    (parts_is (Both (Both (Both (Byte 46) NameByte) names) arguments) w))

abbrev are_inner : List JPart → Bool
are_inner parts = list_all (λ part. part is_identifier) (map is_part parts)

abbrev inner_text : List JPart → List ℕ
inner_text parts = flat_map (λ part. codes "." ++ part) (map part_text parts)

inners_is : (w : List ℕ) → IsTextOf are_inner inner_text w ↔ Words inners w
inners_is w =
    and_then (texts_as are_inner (list_all (λ part. is_part part is_identifier)) inner_text
    (flat_map (λ part. 46 ∷ part_text part))
    (list_all-map (λ part. part is_identifier) is_part)
    (flat_map-map (λ part. codes "." ++ part) part_text) w)
    (and_then (list_is (λ part. is_part part is_identifier) (λ part. 46 ∷ part_text part)
    (Words inner)
    (behind_byte (λ part. is_part part is_identifier) part_text (Cat Identifier (Words arguments))
    (part_is is_identifier Identifier identifier_is) 46) w)
    (stars inner_as w))

-- a class without its L
abbrev pub ClassParts : List ℕ → Type 0
ClassParts = Cat (Cat BinaryName (Words arguments)) (Words inners)

pub class_to : (w : List ℕ) (parts : List JPart) → are_parts (map is_part parts) ≡ true
    → w ≡ parts_text (map part_text parts) → ClassParts w
class_to w [] is e = absurd (false≢true is)
class_to w (part ∷ parts) is e =
    let p = (and_true (is_part part is_binary_name) (are_inner parts)).1 is in
    record {
      front = part_text part;
      rest = inner_text parts;
      whole = e;
      first =
          (part_is is_binary_name BinaryName binary_name_is (part_text part)).0
          (record { item = part; is = p.0; whole = refl });
      second = (inners_is (inner_text parts)).0 (record { item = parts; is = p.1; whole = refl });
    }

pub class_back : (w : List ℕ) → ClassParts w
    → IsTextOf (λ parts. are_parts (map is_part parts)) (λ parts. parts_text (map part_text parts))
    w
class_back w c =
    let one = (part_is is_binary_name BinaryName binary_name_is c.front).1 c.first in
    let more = (inners_is c.rest).1 c.second in
    record {
      item = one.item ∷ more.item;
      is = (and_true (is_part one.item is_binary_name) (are_inner more.item)).0 (one.is, more.is);
      whole =
          c.whole ∙ ap (λ (v : List ℕ). v ++ c.rest) one.whole
          ∙ ap (λ (v : List ℕ). part_text one.item ++ v) more.whole;
    }
