-- The names of attributes, and which a description keeps, by where they stand (JVMS 4.7, tables
-- 4.7-A and 4.7-C).
use Rattle.std.specs.Prelude.{ℕ, Bool, List, find, Option, is_some}
use Rattle.java_names.specs.Names.{is_text}
use Rattle.class_desc.specs.declared.attribute.Attr.{Attr, out-Attr}
use Rattle.class_desc.specs.declared.attribute.Attr.TheOpen.{Attr-F}
use Rattle.class_desc.specs.declared.attribute_kind.AttributeKind.{AttributeKind}
use Rattle.class_desc.specs.declared.attribute_kind.AttributeKind.TheVariants as kind
use Rattle.class_desc.specs.declared.attribute_name.TheConstants.{CONSTANT_VALUE, EXCEPTIONS}
use Rattle.class_desc.specs.declared.attribute_name.TheConstants.{SIGNATURE, DEPRECATED}
use Rattle.class_desc.specs.declared.attribute_name.TheConstants.{SYNTHETIC, INNER_CLASSES}
use Rattle.class_desc.specs.declared.attribute_name.TheConstants.{RECORD, PERMITTED_SUBCLASSES}
use Rattle.class_desc.specs.declared.attribute_name.TheConstants.{ANNOTATION_DEFAULT}
use Rattle.class_desc.specs.declared.attribute_name.TheConstants.{METHOD_PARAMETERS}
use Rattle.class_desc.specs.declared.attribute_name.TheConstants.{VISIBLE_ANNOTATIONS}
use Rattle.class_desc.specs.declared.attribute_name.TheConstants.{INVISIBLE_ANNOTATIONS}
use Rattle.class_desc.specs.declared.attribute_name.TheConstants.{VISIBLE_PARAMETER_ANNOTATIONS}
use Rattle.class_desc.specs.declared.attribute_name.TheConstants.{INVISIBLE_PARAMETER_ANNOTATIONS}
use Rattle.class_desc.specs.declared.place.Place.{Place}
use Rattle.class_desc.specs.declared.place.Place.TheVariants as place
use Rattle.class_desc.specs.declared.place.TheConstants.{KEPT_OF_CLASSES, KEPT_OF_FIELDS}
use Rattle.class_desc.specs.declared.place.TheConstants.{KEPT_OF_METHODS, KEPT_OF_COMPONENTS}

-- the name of an attribute of each kind (JVMS table 4.7-A)
abbrev pub kind_name : AttributeKind → List ℕ
kind_name kind.ConstantValue = CONSTANT_VALUE.now
kind_name kind.Exceptions = EXCEPTIONS.now
kind_name kind.Signature = SIGNATURE.now
kind_name kind.Deprecated = DEPRECATED.now
kind_name kind.Synthetic = SYNTHETIC.now
kind_name kind.InnerClasses = INNER_CLASSES.now
kind_name kind.Record = RECORD.now
kind_name kind.PermittedSubclasses = PERMITTED_SUBCLASSES.now
kind_name kind.AnnotationDefault = ANNOTATION_DEFAULT.now
kind_name kind.MethodParameters = METHOD_PARAMETERS.now
kind_name kind.VisibleAnnotations = VISIBLE_ANNOTATIONS.now
kind_name kind.InvisibleAnnotations = INVISIBLE_ANNOTATIONS.now
kind_name kind.VisibleParameterAnnotations = VISIBLE_PARAMETER_ANNOTATIONS.now
kind_name kind.InvisibleParameterAnnotations = INVISIBLE_PARAMETER_ANNOTATIONS.now

abbrev pub layer_kind : {A C : Type 0} → Attr-F A C → AttributeKind
layer_kind (Attr-F.ConstantValue value) = kind.ConstantValue
layer_kind (Attr-F.Exceptions names) = kind.Exceptions
layer_kind (Attr-F.Signature text) = kind.Signature
layer_kind Attr-F.Deprecated = kind.Deprecated
layer_kind Attr-F.Synthetic = kind.Synthetic
layer_kind (Attr-F.InnerClasses entries) = kind.InnerClasses
layer_kind (Attr-F.Components components) = kind.Record
layer_kind (Attr-F.PermittedSubclasses names) = kind.PermittedSubclasses
layer_kind (Attr-F.AnnotationDefault value) = kind.AnnotationDefault
layer_kind (Attr-F.MethodParameters entries) = kind.MethodParameters
layer_kind (Attr-F.VisibleAnns annotations) = kind.VisibleAnnotations
layer_kind (Attr-F.InvisibleAnns annotations) = kind.InvisibleAnnotations
layer_kind (Attr-F.VisibleParamAnns lists) = kind.VisibleParameterAnnotations
layer_kind (Attr-F.InvisibleParamAnns lists) = kind.InvisibleParameterAnnotations

abbrev pub layer_name : {A C : Type 0} → Attr-F A C → List ℕ
layer_name layer = kind_name (layer_kind layer)

abbrev pub attribute_kind : Attr → AttributeKind
attribute_kind attr = layer_kind (out-Attr attr)

-- the name of an attribute
unfoldable pub attribute_name : Attr → List ℕ
attribute_name attr = kind_name (attribute_kind attr)

-- the kinds that a description keeps of attributes here
abbrev pub kept_kinds : Place → List AttributeKind
kept_kinds place.Class = KEPT_OF_CLASSES
kept_kinds place.Field = KEPT_OF_FIELDS
kept_kinds place.Method = KEPT_OF_METHODS
kept_kinds place.Component = KEPT_OF_COMPONENTS

-- the kind of this name, where a description keeps it here
abbrev pub kept_kind : Place → List ℕ → Option AttributeKind
kept_kind place name = find (λ kind. is_text (kind_name kind) name) (kept_kinds place)

-- whether a description keeps the attribute of this name here
abbrev pub keeps : Place → List ℕ → Bool
keeps place name = is_some (kept_kind place name)
