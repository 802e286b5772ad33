use Rattle.std.proofs.Common.{◌∙◌, ap, sym, refl, length, ◌∷◌, ◌+◌, arith}
use Rattle.java_types.specs.declared.types.JType.TheVariants as type
use Rattle.java_types.specs.Fronts.{begins_with}
use Rattle.std.proofs.lemmas.Result.{err_from_is_err_and}
use Rattle.descriptor_sig.proofs.Leading.{leads_ok, leads_err, leads_then, splits_ok, one_more}
use Rattle.descriptor_sig.proofs.Leading.{one_fails, all_done}
use Rattle.descriptor_sig.proofs.TypeSteps.{type_splits, arrayed_none, arrayed_some, no_element}
use Rattle.descriptor_sig.proofs.TypeSteps.{prim_built, named_leads, var_leads}
use Rattle.descriptor_sig.proofs.PartSteps.{head_splits, parts_lead, dot_leads, parts_end}
use Rattle.descriptor_sig.proofs.PartSteps.{part_splits, part_of}
use Rattle.descriptor_sig.proofs.ArgSteps.{any_built, extends_leads, super_leads, exact_leads}
use Rattle.descriptor_sig.proofs.ArgSteps.{args_lead, no_args, too_deep, arg_next, args_end}
use Rattle.descriptor_sig.proofs.signature_reader.SignatureReader.+reading.Goals as goal

-- ---- an argument

pub argument-returns-then-eats-clause-built : goal.argument-returns-then-eats-clause-built
argument-returns-then-eats-clause-built t c =
    any_built c.args.depth c.args.self.now c.eats.new.self c.if-eats.ensures

pub argument-returns-in_err-java_type-clause-built
    : goal.argument-returns-in_err-java_type-clause-built
argument-returns-in_err-java_type-clause-built t c =
    leads_err (extends_leads c.args.depth c.args.self.now c.eats-2.new.self
    (sym c.if-eats.ensures.1 ∙ c.if-eats-2.ensures)) c.in_err-java_type.ensures.built
    c.from_residual.result (err_from_is_err_and c.from_residual.result c.from_residual.ensures.1)

pub argument-returns-then-eats-2-clause-built : goal.argument-returns-then-eats-2-clause-built
argument-returns-then-eats-2-clause-built t c =
    leads_ok (extends_leads c.args.depth c.args.self.now c.eats-2.new.self
    (sym c.if-eats.ensures.1 ∙ c.if-eats-2.ensures)) c.in_ok-java_type.ensures.built refl

pub argument-returns-in_err-java_type-2-clause-built
    : goal.argument-returns-in_err-java_type-2-clause-built
argument-returns-in_err-java_type-2-clause-built t c =
    leads_err (super_leads c.args.depth c.args.self.now c.eats-3.new.self
    (sym (c.if-eats-2.ensures.1 ∙ c.if-eats.ensures.1) ∙ c.if-eats-3.ensures))
    c.in_err-java_type-2.ensures.built c.from_residual-in_err-java_type-2.result
    (err_from_is_err_and c.from_residual-in_err-java_type-2.result
    c.from_residual-in_err-java_type-2.ensures.1)

pub argument-returns-then-eats-3-clause-built : goal.argument-returns-then-eats-3-clause-built
argument-returns-then-eats-3-clause-built t c =
    leads_ok (super_leads c.args.depth c.args.self.now c.eats-3.new.self
    (sym (c.if-eats-2.ensures.1 ∙ c.if-eats.ensures.1) ∙ c.if-eats-3.ensures))
    c.in_ok-java_type-2.ensures.built refl

pub argument-returns-clause-built : goal.argument-returns-clause-built
argument-returns-clause-built t c =
    let same = c.if-eats.ensures.1 in
    let again = c.if-eats-2.ensures.1 ∙ same in
    leads_ok (exact_leads c.args.depth c.args.self.now c.eats-3.new.self
    (c.if-eats-3.ensures.1 ∙ again) c.if-eats.ensures.0
    (ap (begins_with 43) (sym same) ∙ c.if-eats-2.ensures.0)
    (ap (begins_with 45) (sym again) ∙ c.if-eats-3.ensures.0)) c.in_ok-java_type-3.ensures.built
    refl

pub argument-returns-in_err-java_type-3-clause-built
    : goal.argument-returns-in_err-java_type-3-clause-built
argument-returns-in_err-java_type-3-clause-built t c =
    let same = c.if-eats.ensures.1 in
    let again = c.if-eats-2.ensures.1 ∙ same in
    leads_err (exact_leads c.args.depth c.args.self.now c.eats-3.new.self
    (c.if-eats-3.ensures.1 ∙ again) c.if-eats.ensures.0
    (ap (begins_with 43) (sym same) ∙ c.if-eats-2.ensures.0)
    (ap (begins_with 45) (sym again) ∙ c.if-eats-3.ensures.0))
    c.in_err-java_type-3.ensures.built c.from_residual-in_err-java_type-3.result
    (err_from_is_err_and c.from_residual-in_err-java_type-3.result
    c.from_residual-in_err-java_type-3.ensures.1)

-- ---- arguments

pub arguments-returns-then-not-eats-clause-built :
    goal.arguments-returns-then-not-eats-clause-built
arguments-returns-then-not-eats-clause-built t c =
    no_args c.args.depth c.args.self.now c.eats.new.self c.if-not-eats.ensures c.of.result
    (c.of.ensures ∙ c.new.ensures.items)

pub arguments-returns-then-depth-ge-NESTING_LIMIT-clause-built
    : goal.arguments-returns-then-depth-ge-NESTING_LIMIT-clause-built
arguments-returns-then-depth-ge-NESTING_LIMIT-clause-built t c =
    too_deep c.args.depth c.args.self.now c.eats.new.self c.eats.new.self _ c.if-not-eats.ensures
    c.if-depth-ge-NESTING_LIMIT.true

pub arguments-loop-alloc-init : goal.arguments-loop-alloc-init
arguments-loop-alloc-init t c = record {
  built =
      args_lead c.args.depth c.args.self.now c.eats.new.self c.if-not-eats.ensures
      c.new-args.result.items c.new-args.ensures.items;
  shrinks = omega (arith, ap length c.if-not-eats.ensures);
  shallow = c.if-depth-ge-NESTING_LIMIT.false;
}

pub arguments-returns-in_err-argument-clause-built
    : goal.arguments-returns-in_err-argument-clause-built
arguments-returns-in_err-argument-clause-built t c =
    one_fails c.loop-alloc.args.items c.loop-alloc.invariant.built
    (arg_next (c.args.depth + 1) c.loop-alloc.self c.eats-in-loop-alloc.new.self
    c.loop-alloc-test.ensures) c.in_err-argument.ensures.built c.from_residual.result
    (err_from_is_err_and c.from_residual.result c.from_residual.ensures.1)

pub arguments-loop-alloc-preserved : goal.arguments-loop-alloc-preserved
arguments-loop-alloc-preserved t c = record {
  built =
      one_more c.loop-alloc.args.items c.loop-alloc.invariant.built
      (arg_next (c.args.depth + 1) c.loop-alloc.self c.eats-in-loop-alloc.new.self
      c.loop-alloc-test.ensures) c.in_ok-argument.ensures.built c.push.new.self.items
      c.in_ok-push.ensures.items;
  shrinks = omega (arith, ap length c.loop-alloc-test.ensures.1, c.in_ok-argument.ensures.shrinks);
  shallow = c.loop-alloc.invariant.shallow;
}

pub arguments-returns-clause-built : goal.arguments-returns-clause-built
arguments-returns-clause-built t c =
    all_done c.loop-alloc.invariant.built
    (args_end (c.args.depth + 1) c.loop-alloc.self c.eats-in-loop-alloc.new.self
    c.loop-alloc-test.ensures) c.of-2.result c.of-2.ensures

-- ---- an element

pub element-returns-in_err-parts-in-76-clause-built
    : goal.element-returns-in_err-parts-in-76-clause-built
element-returns-in_err-parts-in-76-clause-built t c =
    leads_err (named_leads c.args.depth c.args.self.now c.next.new.self
    (c.in-Some.ensures.taken ∙ ap (λ b. b ∷ c.next.new.self) c.in-76.is))
    c.in_err-parts-in-76.ensures.built c.from_residual.result
    (err_from_is_err_and c.from_residual.result c.from_residual.ensures.1)

pub element-returns-in_ok-parts-in-76-clause-built
    : goal.element-returns-in_ok-parts-in-76-clause-built
element-returns-in_ok-parts-in-76-clause-built t c =
    leads_ok (named_leads c.args.depth c.args.self.now c.next.new.self
    (c.in-Some.ensures.taken ∙ ap (λ b. b ∷ c.next.new.self) c.in-76.is))
    c.in_ok-parts-in-76.ensures.built refl

pub element-returns-in_err-variable-in-84-clause-built
    : goal.element-returns-in_err-variable-in-84-clause-built
element-returns-in_err-variable-in-84-clause-built t c =
    leads_err (var_leads c.args.depth c.args.self.now c.next.new.self
    (c.in-Some.ensures.taken ∙ ap (λ b. b ∷ c.next.new.self) c.in-84.is))
    c.in_err-variable-in-84.ensures.built c.from_residual-in_err-variable-in-84.result
    (err_from_is_err_and c.from_residual-in_err-variable-in-84.result
    c.from_residual-in_err-variable-in-84.ensures.1)

pub element-returns-in_ok-variable-in-84-clause-built
    : goal.element-returns-in_ok-variable-in-84-clause-built
element-returns-in_ok-variable-in-84-clause-built t c =
    leads_ok (var_leads c.args.depth c.args.self.now c.next.new.self
    (c.in-Some.ensures.taken ∙ ap (λ b. b ∷ c.next.new.self) c.in-84.is))
    c.in_ok-variable-in-84.ensures.built refl

pub element-returns-in_default-first-clause-built
    : goal.element-returns-in_default-first-clause-built
element-returns-in_default-first-clause-built t c =
    prim_built c.args.depth c.args.self.now c.next.new.self c.in-Some.first c.in-Some.ensures.taken
    (omega arith) (omega arith)

pub element-returns-in_default-clause-built : goal.element-returns-in_default-clause-built
element-returns-in_default-clause-built t c =
    no_element c.args.depth c.args.self.now c.next.new.self _ c.in_default.ensures.taken

-- ---- a type

pub java_type-returns-in_err-element-clause-built
    : goal.java_type-returns-in_err-element-clause-built
java_type-returns-in_err-element-clause-built t c =
    leads_err (splits_ok (type_splits c.args.depth c.args.self.now)
    c.dimensions-dims.ensures.count)
    c.in_err-element.ensures.built c.from_residual.result
    (err_from_is_err_and c.from_residual.result c.from_residual.ensures.1)

pub java_type-returns-then-dims-eq0-clause-built :
    goal.java_type-returns-then-dims-eq0-clause-built
java_type-returns-then-dims-eq0-clause-built t c =
    leads_ok (splits_ok (type_splits c.args.depth c.args.self.now) c.dimensions-dims.ensures.count)
    c.in_ok-element.ensures.built
    (arrayed_none c.dimensions-dims.result c.in_ok-element.element c.if-dims-eq0.true)

pub java_type-returns-clause-built : goal.java_type-returns-clause-built
java_type-returns-clause-built t c =
    leads_ok (splits_ok (type_splits c.args.depth c.args.self.now) c.dimensions-dims.ensures.count)
    c.in_ok-element.ensures.built
    (arrayed_some c.dimensions-dims.result c.in_ok-element.element
    (omega (arith, c.if-dims-eq0.false))
    ∙ ap (λ e. type.Array e c.dimensions-dims.result) (sym c.in_ok-new.ensures))

-- ---- a part

pub part-returns-in_err-args-clause-built : goal.part-returns-in_err-args-clause-built
part-returns-in_err-args-clause-built t c =
    leads_err (splits_ok (part_splits c.args.depth c.args.self.now) c.name.ensures.name)
    c.in_err-args.ensures.built c.from_residual-in_err-args.result
    (err_from_is_err_and c.from_residual-in_err-args.result c.from_residual-in_err-args.ensures.1)

pub part-returns-clause-built : goal.part-returns-clause-built
part-returns-clause-built t c =
    leads_ok (splits_ok (part_splits c.args.depth c.args.self.now) c.name.ensures.name)
    c.in_ok-args.ensures.built (ap (λ name. part_of name c.in_ok-args.args)
    (sym c.in_ok-name.ensures))

-- ---- parts

pub parts-loop-parts-init : goal.parts-loop-parts-init
parts-loop-parts-init t c = record {
  built =
      parts_lead c.args.depth c.args.self.now c.new-parts.result.items c.new-parts.ensures.items;
  shrinks = omega arith;
}

pub parts-returns-in_err-part-clause-built : goal.parts-returns-in_err-part-clause-built
parts-returns-in_err-part-clause-built t c =
    one_fails c.loop-parts.parts.items c.loop-parts.invariant.built
    (head_splits c.args.depth c.loop-parts.self) c.in_err-part.ensures.built c.from_residual.result
    (err_from_is_err_and c.from_residual.result c.from_residual.ensures.1)

pub parts-loop-parts-preserved : goal.parts-loop-parts-preserved
parts-loop-parts-preserved t c =
    let read = one_more c.loop-parts.parts.items c.loop-parts.invariant.built
    (head_splits c.args.depth c.loop-parts.self) c.in_ok-part.ensures.built
    c.push.new.self.items c.in_ok-push.ensures.items in
    record {
      built =
          leads_then read (dot_leads c.args.depth c.part.new.self c.eats.new.self
          c.if-not-eats.ensures);
      shrinks = omega (arith, ap length c.if-not-eats.ensures, c.in_ok-part.ensures.shrinks);
    }

pub parts-returns-then-not-eats-clause-built : goal.parts-returns-then-not-eats-clause-built
parts-returns-then-not-eats-clause-built t c =
    let read = one_more c.loop-parts.parts.items c.loop-parts.invariant.built
    (head_splits c.args.depth c.loop-parts.self) c.in_ok-part.ensures.built
    c.push.new.self.items c.in_ok-push.ensures.items in
    all_done read (parts_end c.args.depth c.part.new.self c.eats.new.self c.next.new.self
    c.next.result c.if-not-eats.ensures c.next.ensures.taken) c.of.result c.of.ensures
