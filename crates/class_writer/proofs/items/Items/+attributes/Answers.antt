use Rattle.std.proofs.Common.{◌∷◌, [], sym, ap, ◌∙◌}
use Rattle.std.proofs.lemmas.Result.{on_ok_weaker}
use Rattle.class_desc.specs.declared.attribute.Attr.TheOpen.{Attr-F}
use Rattle.class_desc.specs.declared.attribute.Attr.TheVariants as attr
use Rattle.class_desc.specs.Layout.{EntryNumber, class_list, counted, for_parameters}
use Rattle.class_desc.specs.Layout.{inner_class_items, parameter_items, component_items}
use Rattle.class_desc.specs.Layout.{annotation_list}
use Rattle.class_writer.proofs.AttributeLayers.{body_is, attribute_put, component_put}
use Rattle.class_writer.proofs.Putting.{puts_as, puts_none}
use Rattle.class_writer.proofs.items.Items.+attributes.Goals as goal

pub attribute-returns : goal.attribute-returns
attribute-returns t c =
    attribute_put c.args.attr.now c.name.result.now c.in_ok-begun.begun c.args.self.now
    c.begin_attribute.new.self c.body.new.self c.end_attribute.new.self c.name.ensures
    c.in_ok-begun.ensures c.in_ok-body.ensures c.end_attribute.ensures

pub component-returns : goal.component-returns
component-returns t c =
    on_ok_weaker c.attributes.result
    (component_put c.args.component.now c.items.result.now c.items.ensures
    c.in_ok-text.ensures c.in_ok-text-2.ensures) c.attributes.ensures

pub body-returns-in-ConstantValue : goal.body-returns-in-ConstantValue
body-returns-in-ConstantValue t c =
    on_ok_weaker c.push.result
    (λ h. body_is c.args.attr.now (Attr-F.ConstantValue c.in-ConstantValue.value)
    (c.in-ConstantValue.is ∙ sym (attr.rolls-ConstantValue c.in-ConstantValue.value))
    (puts_as (ap (λ n. EntryNumber n ∷ []) c.need_of.ensures) h))
    c.push.ensures

pub body-returns-in-Exceptions : goal.body-returns-in-Exceptions
body-returns-in-Exceptions t c =
    on_ok_weaker c.classes.result
    (λ h. body_is c.args.attr.now (Attr-F.Exceptions c.in-Exceptions.names)
    (c.in-Exceptions.is ∙ sym (attr.rolls-Exceptions c.in-Exceptions.names))
    (puts_as (ap (class_list) c.items.ensures) h))
    c.classes.ensures

pub body-returns-in-Signature : goal.body-returns-in-Signature
body-returns-in-Signature t c =
    on_ok_weaker c.text.result
    (λ h. body_is c.args.attr.now (Attr-F.Signature c.in-Signature.text)
    (c.in-Signature.is ∙ sym (attr.rolls-Signature c.in-Signature.text)) h)
    c.text.ensures

pub body-returns-in-Deprecated : goal.body-returns-in-Deprecated
body-returns-in-Deprecated t c =
    body_is c.args.attr.now Attr-F.Deprecated (c.in-Deprecated.is ∙ sym attr.rolls-Deprecated)
    (puts_none c.args.self.now)

pub body-returns-in-Synthetic : goal.body-returns-in-Synthetic
body-returns-in-Synthetic t c = body_is c.args.attr.now Attr-F.Synthetic
    (c.in-Synthetic.is ∙ sym attr.rolls-Synthetic) (puts_none c.args.self.now)

pub body-returns-in-InnerClasses : goal.body-returns-in-InnerClasses
body-returns-in-InnerClasses t c =
    on_ok_weaker c.inner_classes.result
    (λ h. body_is c.args.attr.now (Attr-F.InnerClasses c.in-InnerClasses.entries)
    (c.in-InnerClasses.is ∙ sym (attr.rolls-InnerClasses c.in-InnerClasses.entries))
    (puts_as (ap (counted inner_class_items) c.items-in-InnerClasses.ensures) h))
    c.inner_classes.ensures

pub body-returns-in-Components : goal.body-returns-in-Components
body-returns-in-Components t c =
    on_ok_weaker c.components.result
    (λ h. body_is c.args.attr.now (Attr-F.Components c.in-Components.components)
    (c.in-Components.is ∙ sym (attr.rolls-Components c.in-Components.components))
    (puts_as (ap (counted component_items) c.items-in-Components.ensures) h))
    c.components.ensures

pub body-returns-in-PermittedSubclasses : goal.body-returns-in-PermittedSubclasses
body-returns-in-PermittedSubclasses t c =
    on_ok_weaker c.classes-in-PermittedSubclasses.result
    (λ h. body_is c.args.attr.now (Attr-F.PermittedSubclasses c.in-PermittedSubclasses.names)
    (c.in-PermittedSubclasses.is ∙ sym
    (attr.rolls-PermittedSubclasses c.in-PermittedSubclasses.names))
    (puts_as (ap (class_list) c.items-in-PermittedSubclasses.ensures) h))
    c.classes-in-PermittedSubclasses.ensures

pub body-returns-in-AnnotationDefault : goal.body-returns-in-AnnotationDefault
body-returns-in-AnnotationDefault t c =
    on_ok_weaker c.value.result
    (λ h. body_is c.args.attr.now (Attr-F.AnnotationDefault c.in-AnnotationDefault.value)
    (c.in-AnnotationDefault.is ∙ sym
    (attr.rolls-AnnotationDefault c.in-AnnotationDefault.value)) h)
    c.value.ensures

pub body-returns-in-MethodParameters : goal.body-returns-in-MethodParameters
body-returns-in-MethodParameters t c =
    on_ok_weaker c.parameters.result
    (λ h. body_is c.args.attr.now (Attr-F.MethodParameters c.in-MethodParameters.entries)
    (c.in-MethodParameters.is ∙ sym
    (attr.rolls-MethodParameters c.in-MethodParameters.entries))
    (puts_as (ap (for_parameters parameter_items) c.items-in-MethodParameters.ensures) h))
    c.parameters.ensures

pub body-returns-in-VisibleAnns : goal.body-returns-in-VisibleAnns
body-returns-in-VisibleAnns t c =
    on_ok_weaker c.annotations.result
    (λ h. body_is c.args.attr.now (Attr-F.VisibleAnns c.in-VisibleAnns.annotations)
    (c.in-VisibleAnns.is ∙ sym (attr.rolls-VisibleAnns c.in-VisibleAnns.annotations))
    (puts_as (ap (annotation_list) c.items-in-VisibleAnns.ensures) h))
    c.annotations.ensures

pub body-returns-in-InvisibleAnns : goal.body-returns-in-InvisibleAnns
body-returns-in-InvisibleAnns t c =
    on_ok_weaker c.annotations-in-InvisibleAnns.result
    (λ h. body_is c.args.attr.now (Attr-F.InvisibleAnns c.in-InvisibleAnns.annotations)
    (c.in-InvisibleAnns.is ∙ sym (attr.rolls-InvisibleAnns c.in-InvisibleAnns.annotations))
    (puts_as (ap (annotation_list) c.items-in-InvisibleAnns.ensures) h))
    c.annotations-in-InvisibleAnns.ensures

pub body-returns-in-VisibleParamAnns : goal.body-returns-in-VisibleParamAnns
body-returns-in-VisibleParamAnns t c =
    on_ok_weaker c.annotations_of_parameters.result
    (λ h. body_is c.args.attr.now (Attr-F.VisibleParamAnns c.in-VisibleParamAnns.lists)
    (c.in-VisibleParamAnns.is ∙ sym (attr.rolls-VisibleParamAnns c.in-VisibleParamAnns.lists))
    (puts_as (ap (for_parameters annotation_list) c.items-in-VisibleParamAnns.ensures) h))
    c.annotations_of_parameters.ensures

pub body-returns-in-InvisibleParamAnns : goal.body-returns-in-InvisibleParamAnns
body-returns-in-InvisibleParamAnns t c =
    on_ok_weaker c.annotations_of_parameters-in-InvisibleParamAnns.result
    (λ h. body_is c.args.attr.now (Attr-F.InvisibleParamAnns c.in-InvisibleParamAnns.lists)
    (c.in-InvisibleParamAnns.is ∙ sym
    (attr.rolls-InvisibleParamAnns c.in-InvisibleParamAnns.lists))
    (puts_as (ap (for_parameters annotation_list) c.items-in-InvisibleParamAnns.ensures) h))
    c.annotations_of_parameters-in-InvisibleParamAnns.ensures
