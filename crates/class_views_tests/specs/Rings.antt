-- Classes that reach themselves, and the order of the questions.
use Rattle.std.specs.Prelude.{List, [], ◌∷◌, codes, Some}
use Rattle.class_views.specs.Query.{ClassQuery, SupersQuery, ConstantQuery, AnnotationsQuery}
use Rattle.class_views.specs.Query.{Whole, Found, ClassFound, NotFound, NotAccessible, WrongKind}
use Rattle.class_views.specs.Query.{Cycle}
use Rattle.class_views_tests.specs.Classes.{Example, stranger, of_package, int_field, method}
use Rattle.class_views_tests.specs.Classes.{class, subclass, interface, type, field_x, member_x}
use Rattle.class_views_tests.specs.Classes.{found_x, method_m, interface_m, member_m, found_m}

abbrev pub ring_examples : List Example
ring_examples =
    -- at, above and beside the named class: the ring's first class of the world is told
    record {
      world =
          subclass (codes "S") (codes "R") [] (int_field 0x0001 (codes "x") ∷ []) []
          ∷ subclass (codes "R") (codes "S") [] [] []
          ∷ subclass (codes "C") (codes "R") [] (int_field 0x0001 (codes "x") ∷ []) []
          ∷ class (codes "D") (codes "R" ∷ []) (int_field 0x0001 (codes "x") ∷ []) []
          ∷ [];
      rows =
          (stranger, field_x (codes "S"), Cycle (codes "S"))
          ∷ (stranger, field_x (codes "R"), Cycle (codes "S"))
          ∷ (stranger, field_x (codes "C"), Cycle (codes "S"))
          ∷ (stranger, member_x (codes "C"), Cycle (codes "S"))
          ∷ (stranger, field_x (codes "D"), Cycle (codes "S"))
          ∷ (stranger, method_m (codes "D"), Cycle (codes "S"))
          ∷ (stranger, interface_m (codes "D"), Cycle (codes "S"))
          ∷ (stranger, member_m (codes "D"), Cycle (codes "S"))
          ∷ (stranger, ConstantQuery (codes "D") (codes "x"), Cycle (codes "S"))
          ∷ (stranger, AnnotationsQuery (codes "D") Whole, Cycle (codes "S"))
          ∷ (
            stranger,
            ClassQuery (codes "C"),
            Found
                (ClassFound (subclass (codes "C") (codes "R") [] [] [])),
          )
          ∷ (
            stranger,
            SupersQuery (codes "D"),
            Found
                (ClassFound (class (codes "D") (codes "R" ∷ []) [] [])),
          )
          ∷ [];
    }
    -- below the named class: a ring that leads to it
    ∷ record {
      world =
          class (codes "A") [] (int_field 0x0001 (codes "x") ∷ []) []
          ∷ subclass (codes "R") (codes "A") (codes "S" ∷ []) [] []
          ∷ subclass (codes "S") (codes "R") [] [] []
          ∷ [];
      rows =
          (stranger, field_x (codes "A"), found_x (codes "A") 0x0001)
          ∷ (stranger, member_x (codes "A"), found_x (codes "A") 0x0001)
          ∷ (stranger, field_x (codes "R"), Cycle (codes "R"))
          ∷ (stranger, field_x (codes "S"), Cycle (codes "R"))
          ∷ [];
    }
    -- its own superclass, and two rings, of which the first of the world is told
    ∷ record {
      world =
          class (codes "C") (codes "Q" ∷ codes "P" ∷ []) [] []
          ∷ interface (codes "P") (codes "P" ∷ []) [] []
          ∷ interface (codes "Q") (codes "Q" ∷ []) [] []
          ∷ [];
      rows =
          (stranger, field_x (codes "C"), Cycle (codes "P"))
          ∷ (stranger, field_x (codes "Q"), Cycle (codes "Q"))
          ∷ [];
    }
    -- a class of another package is told before its cycle, a cycle before the kind
    ∷ record {
      world =
          type 0x0020 (codes "p/H") (Some (codes "p/H")) [] [] []
          ∷ interface (codes "I") (codes "I" ∷ []) [] []
          ∷ interface (codes "N") [] [] (method 0x0401 (codes "m") ∷ [])
          ∷ class (codes "C") [] [] (method 0x0001 (codes "m") ∷ [])
          ∷ [];
      rows =
          (stranger, field_x (codes "p/H"), NotAccessible (codes "p/H"))
          ∷ (of_package (codes "p"), field_x (codes "p/H"), Cycle (codes "p/H"))
          ∷ (stranger, method_m (codes "I"), Cycle (codes "I"))
          ∷ (stranger, method_m (codes "N"), WrongKind)
          ∷ (stranger, interface_m (codes "C"), WrongKind)
          ∷ (stranger, interface_m (codes "N"), found_m (codes "N") 0x0401)
          ∷ (stranger, method_m (codes "C"), found_m (codes "C") 0x0001)
          ∷ (stranger, interface_m (codes "Gone"), NotFound)
          ∷ (stranger, method_m (codes "Gone"), NotFound)
          ∷ (stranger, member_m (codes "Gone"), NotFound)
          ∷ [];
    }
    -- of two classes of one name the first counts
    ∷ record {
      world =
          class (codes "A") [] (int_field 0x0001 (codes "x") ∷ []) []
          ∷ subclass (codes "A") (codes "A") [] (int_field 0x0002 (codes "x") ∷ []) []
          ∷ [];
      rows = (stranger, field_x (codes "A"), found_x (codes "A") 0x0001) ∷ [];
    }
    ∷ []
