-- What a class says of itself: its view, constants and annotations.
use Rattle.std.specs.Prelude.{ℕ, true, false, List, [], ◌∷◌, codes, pos, Some}
use Rattle.class_desc.specs.declared.value.Value.{Value}
use Rattle.class_desc.specs.declared.value.Value.TheVariants.{Integer, Str}
use Rattle.class_desc.specs.declared.bound_annotations.Ann.{Ann}
use Rattle.class_views.specs.View.{View, MemberView}
use Rattle.class_views.specs.Query.{Query, Part, ClassQuery, SupersQuery, ConstantQuery}
use Rattle.class_views.specs.Query.{AnnotationsQuery, Whole, FieldPart, MethodPart, Answer, Found}
use Rattle.class_views.specs.Query.{ClassFound, ConstantFound, AnnotationsFound, NotFound}
use Rattle.class_views.specs.Query.{NotAccessible}
use Rattle.class_views_tests.specs.Annotations.{annotation}
use Rattle.class_views_tests.specs.Classes.{Example, stranger, of_package, call, int_field}
use Rattle.class_views_tests.specs.Classes.{method, class, type}

-- a field of type int with a constant
abbrev pub constant_field : ℕ → List ℕ → Value → MemberView
constant_field flags name value = record (int_field flags name) { constant = Some value }

abbrev pub five : Value
five = Integer (pos 5)

abbrev pub annotated : MemberView → List Ann → MemberView
annotated m annotations = record m { annotations = annotations }

abbrev pub constant_answer : Value → Answer
constant_answer value = Found (ConstantFound value)

abbrev pub constant_fields : List MemberView
constant_fields =
    constant_field 0x0019 (codes "k") five
    ∷ constant_field 0x0009 (codes "v") five
    ∷ int_field 0x0019 (codes "n")
    ∷ constant_field 0x001A (codes "h") five
    ∷ int_field 0x0019 (codes "w")
    ∷ constant_field 0x0009 (codes "w") five
    ∷ constant_field 0x0019 (codes "w") (Str (codes "t"))
    ∷ constant_field 0x0019 (codes "w") five
    ∷ []

abbrev pub of_class : List Ann
of_class = annotation true (codes "LV;") ∷ annotation false (codes "LW;") ∷ []

abbrev pub of_field : List Ann
of_field = annotation true (codes "LX;") ∷ []

abbrev pub of_method : List Ann
of_method = annotation false (codes "LM;") ∷ []

-- with two fields x, of which the second has no annotations, and a private one
abbrev pub annotated_fields : List MemberView
annotated_fields =
    annotated (int_field 0x0001 (codes "x")) of_field
    ∷ int_field 0x0001 (codes "x")
    ∷ int_field 0x0002 (codes "h")
    ∷ []

abbrev pub annotated_class : View
annotated_class =
    let methods = annotated (method 0x0001 (codes "m")) of_method ∷ [] in
    record (class (codes "A") [] annotated_fields methods) { annotations = of_class }

abbrev pub annotations_of : Part → Query
annotations_of part = AnnotationsQuery (codes "A") part

abbrev pub annotations_answer : List Ann → Answer
annotations_answer annotations = Found (AnnotationsFound annotations)

-- not public, and with supertypes that aren't there
abbrev pub in_package_p : List MemberView → List MemberView → View
in_package_p fields methods =
    type 0x0030 (codes "p/A") (Some (codes "p/Gone")) (codes "p/N" ∷ codes "p/Lost" ∷ [])
    fields methods

abbrev pub declared_examples : List Example
declared_examples =
    -- a class and its supertypes, without its members
    record {
      world = in_package_p (int_field 0x0001 (codes "x") ∷ []) (method 0x0001 (codes "m") ∷ [])
          ∷ [];
      rows = (
        of_package (codes "p"),
        ClassQuery (codes "p/A"),
        Found (ClassFound (in_package_p [] [])),
      )
          ∷ (
            of_package (codes "p"),
            SupersQuery (codes "p/A"),
            Found (ClassFound (in_package_p [] [])),
          )
          ∷ (stranger, ClassQuery (codes "p/A"), NotAccessible (codes "p/A"))
          ∷ (of_package (codes "p/q"), SupersQuery (codes "p/A"), NotAccessible (codes "p/A"))
          ∷ (stranger, ClassQuery (codes "A"), NotFound)
          ∷ (stranger, SupersQuery (codes "A"), NotFound)
          ∷ [];
    }
    -- constants: of the first field of the name that is final and has one
    ∷ record {
      world = class (codes "A") [] constant_fields [] ∷ [];
      rows =
          (stranger, ConstantQuery (codes "A") (codes "k"), constant_answer five)
          ∷ (stranger, ConstantQuery (codes "A") (codes "v"), NotFound)
          ∷ (stranger, ConstantQuery (codes "A") (codes "n"), NotFound)
          ∷ (stranger, ConstantQuery (codes "A") (codes "h"), NotAccessible (codes "A"))
          ∷ (stranger, ConstantQuery (codes "A") (codes "w"), constant_answer (Str (codes "t")))
          ∷ (stranger, ConstantQuery (codes "Gone") (codes "k"), NotFound)
          ∷ [];
    }
    -- annotations: of the class, of its first field of a name, of a method
    ∷ record {
      world = annotated_class ∷ [];
      rows =
          (stranger, annotations_of Whole, annotations_answer of_class)
          ∷ (stranger, annotations_of (FieldPart (codes "x")), annotations_answer of_field)
          ∷ (
            stranger,
            annotations_of (MethodPart (call (codes "m"))),
            annotations_answer of_method,
          )
          ∷ (stranger, annotations_of (FieldPart (codes "h")), NotAccessible (codes "A"))
          ∷ (stranger, annotations_of (FieldPart (codes "y")), NotFound)
          ∷ (stranger, annotations_of (MethodPart (call (codes "x"))), NotFound)
          ∷ (stranger, AnnotationsQuery (codes "Gone") Whole, NotFound)
          ∷ [];
    }
    ∷ []
