use Rattle.std.proofs.Common.{◌∙◌, ap, sym, subst, [], Some, None}
use Rattle.std.specs.Option.{option_map_or}
use Rattle.class_desc.specs.ClassFile.{is_key}
use Rattle.member_index.specs.Order.{meant, keys_of, IsOrderOf}
use Rattle.member_index.specs.Places.{places_of}
use Rattle.member_index.proofs.Keys.{got}
use Rattle.member_index.proofs.range.places_in.Goals as goal

pub returns-in-Some : goal.returns-in-Some
returns-in-Some c = λ are.
    let at = got c.args.classes.now c.args.class (Some c.in-Some.desc) c.in-Some.ensures.lookup in
    c.range.ensures
    (subst (IsOrderOf (keys_of c.args.kind c.in-Some.desc.now)) (sym c.order_at.ensures)
    (are.each c.args.class c.in-Some.desc.now at))
    ∙ sym (ap (λ o. option_map_or
    (λ d. places_of (λ k. is_key k (meant c.args.key.now)) (keys_of c.args.kind d)) o []) at)

pub returns-in-None : goal.returns-in-None
returns-in-None c = λ are.
    sym (ap (λ o. option_map_or
    (λ d. places_of (λ k. is_key k (meant c.args.key.now)) (keys_of c.args.kind d)) o [])
    (got c.args.classes.now c.args.class None c.in-None.ensures.lookup))
