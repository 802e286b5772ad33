-- Where fields are sought: resolution (JVMS 5.4.3.2) and membership (JLS 8.3).
use Rattle.std.specs.Prelude.{List, [], ◌∷◌, codes}
use Rattle.class_views.specs.Query.{FieldQuery, Found, MemberFound, NotFound, NotAccessible}
use Rattle.class_views.specs.Query.{Ambiguous}
use Rattle.class_views_tests.specs.Classes.{Example, stranger, of_package, extending, member}
use Rattle.class_views_tests.specs.Classes.{int_field, class, subclass, interface, field_x}
use Rattle.class_views_tests.specs.Classes.{member_x, found_x}

abbrev pub field_examples : List Example
field_examples =
    -- a private field of B stands between C and the one of A
    record {
      world =
          class (codes "A") [] (int_field 0x0001 (codes "x") ∷ []) []
          ∷ subclass (codes "B") (codes "A") [] (int_field 0x0002 (codes "x") ∷ []) []
          ∷ interface (codes "N") [] (int_field 0x0019 (codes "x") ∷ []) []
          ∷ subclass (codes "C") (codes "B") (codes "N" ∷ []) [] []
          ∷ [];
      rows =
          (stranger, member_x (codes "C"), found_x (codes "N") 0x0019)
          ∷ (stranger, field_x (codes "C"), found_x (codes "N") 0x0019)
          ∷ (stranger, member_x (codes "B"), NotAccessible (codes "B"))
          ∷ (stranger, field_x (codes "B"), NotAccessible (codes "B"))
          ∷ [];
    }
    -- the same without it: superinterfaces come before the superclass
    ∷ record {
      world =
          class (codes "A") [] (int_field 0x0001 (codes "x") ∷ []) []
          ∷ subclass (codes "B") (codes "A") [] [] []
          ∷ interface (codes "N") [] (int_field 0x0019 (codes "x") ∷ []) []
          ∷ subclass (codes "C") (codes "B") (codes "N" ∷ []) [] []
          ∷ [];
      rows =
          (stranger, member_x (codes "C"), Ambiguous (codes "N") (codes "A"))
          ∷ (stranger, field_x (codes "C"), found_x (codes "N") 0x0019)
          ∷ (stranger, member_x (codes "B"), found_x (codes "A") 0x0001)
          ∷ (stranger, field_x (codes "B"), found_x (codes "A") 0x0001)
          ∷ [];
    }
    -- two fields of one name
    ∷ record {
      world =
          class (codes "A") []
          (int_field 0x0001 (codes "x") ∷ member 0x0001 (codes "J") (codes "x") ∷ []) []
          ∷ subclass (codes "B") (codes "A") [] [] []
          ∷ [];
      rows =
          (stranger, member_x (codes "A"), Ambiguous (codes "A") (codes "A"))
          ∷ (stranger, member_x (codes "B"), Ambiguous (codes "A") (codes "A"))
          ∷ (stranger, field_x (codes "B"), found_x (codes "A") 0x0001)
          ∷ (
            stranger,
            FieldQuery (codes "B") (record { name = codes "x"; descriptor = codes "J" }),
            Found (MemberFound (codes "A") (member 0x0001 (codes "J") (codes "x"))),
          )
          ∷ (
            stranger,
            FieldQuery (codes "B") (record { name = codes "x"; descriptor = codes "Z" }),
            NotFound,
          )
          ∷ [];
    }
    -- two of one name and descriptor, the first of them private
    ∷ record {
      world =
          class (codes "A") [] (int_field 0x0002 (codes "x") ∷ int_field 0x0001 (codes "x") ∷ [])
          []
          ∷ subclass (codes "B") (codes "A") [] [] []
          ∷ [];
      rows =
          (stranger, field_x (codes "B"), NotAccessible (codes "A"))
          ∷ (stranger, member_x (codes "B"), found_x (codes "A") 0x0001)
          ∷ (stranger, member_x (codes "A"), Ambiguous (codes "A") (codes "A"))
          ∷ [];
    }
    -- a class reached by two ways has its field once
    ∷ record {
      world =
          interface (codes "N") [] (int_field 0x0019 (codes "x") ∷ []) []
          ∷ class (codes "A") (codes "N" ∷ []) [] []
          ∷ subclass (codes "C") (codes "A") (codes "N" ∷ []) [] []
          ∷ [];
      rows =
          (stranger, member_x (codes "C"), found_x (codes "N") 0x0019)
          ∷ (stranger, field_x (codes "C"), found_x (codes "N") 0x0019)
          ∷ [];
    }
    -- the second of the walk is found through D, but stands behind A, which declares the name
    ∷ record {
      world =
          interface (codes "X") [] (int_field 0x0019 (codes "x") ∷ []) []
          ∷ interface (codes "A") (codes "X" ∷ []) (int_field 0x0019 (codes "x") ∷ []) []
          ∷ interface (codes "B") [] (int_field 0x0019 (codes "x") ∷ []) []
          ∷ interface (codes "D") (codes "X" ∷ []) [] []
          ∷ class (codes "C") (codes "A" ∷ codes "B" ∷ codes "D" ∷ []) [] []
          ∷ class (codes "E") (codes "B" ∷ codes "A" ∷ codes "D" ∷ []) [] []
          ∷ [];
      rows =
          (stranger, member_x (codes "C"), Ambiguous (codes "A") (codes "X"))
          ∷ (stranger, field_x (codes "C"), found_x (codes "A") 0x0019)
          ∷ (stranger, member_x (codes "E"), Ambiguous (codes "B") (codes "A"))
          ∷ (stranger, member_x (codes "D"), found_x (codes "X") 0x0019)
          ∷ [];
    }
    -- supertypes that aren't there are passed over
    ∷ record {
      world =
          interface (codes "N") [] (int_field 0x0019 (codes "x") ∷ []) []
          ∷ subclass (codes "C") (codes "Gone") (codes "Lost" ∷ codes "N" ∷ []) [] []
          ∷ subclass (codes "D") (codes "Gone") (codes "Lost" ∷ []) [] []
          ∷ [];
      rows =
          (stranger, field_x (codes "C"), found_x (codes "N") 0x0019)
          ∷ (stranger, member_x (codes "C"), found_x (codes "N") 0x0019)
          ∷ (stranger, field_x (codes "D"), NotFound)
          ∷ (stranger, member_x (codes "D"), NotFound)
          ∷ (stranger, field_x (codes "Gone"), NotFound)
          ∷ (stranger, member_x (codes "Gone"), NotFound)
          ∷ [];
    }
    -- without an access flag: to the package, and through classes of the package alone
    ∷ record {
      world =
          class (codes "p/A") [] (int_field 0 (codes "x") ∷ []) []
          ∷ subclass (codes "p/B") (codes "p/A") [] [] []
          ∷ subclass (codes "q/C") (codes "p/B") [] [] []
          ∷ subclass (codes "p/D") (codes "q/C") [] [] []
          ∷ [];
      rows =
          (of_package (codes "p"), member_x (codes "p/B"), found_x (codes "p/A") 0)
          ∷ (stranger, member_x (codes "p/B"), NotAccessible (codes "p/A"))
          ∷ (of_package (codes "p"), member_x (codes "q/C"), NotFound)
          ∷ (of_package (codes "p"), member_x (codes "p/D"), NotFound)
          ∷ (of_package (codes "p"), field_x (codes "p/D"), found_x (codes "p/A") 0)
          ∷ (of_package (codes "q"), field_x (codes "q/C"), NotAccessible (codes "p/A"))
          ∷ [];
    }
    -- protected: to the package, and where the declarer is the client's superclass or above it
    ∷ record {
      world =
          class (codes "p/A") [] (int_field 0x0004 (codes "x") ∷ []) []
          ∷ subclass (codes "p/B") (codes "p/A") [] [] []
          ∷ subclass (codes "p/C") (codes "p/B") [] [] []
          ∷ subclass (codes "p/R") (codes "p/S") [] [] []
          ∷ subclass (codes "p/S") (codes "p/R") [] [] []
          ∷ [];
      rows =
          (stranger, field_x (codes "p/B"), NotAccessible (codes "p/A"))
          ∷ (of_package (codes "p"), field_x (codes "p/B"), found_x (codes "p/A") 0x0004)
          ∷ (extending (codes "p/A"), field_x (codes "p/C"), found_x (codes "p/A") 0x0004)
          ∷ (extending (codes "p/B"), field_x (codes "p/C"), found_x (codes "p/A") 0x0004)
          ∷ (extending (codes "p/C"), member_x (codes "p/B"), found_x (codes "p/A") 0x0004)
          ∷ (extending (codes "p/R"), member_x (codes "p/B"), NotAccessible (codes "p/A"))
          ∷ (extending (codes "p/Gone"), member_x (codes "p/B"), NotAccessible (codes "p/A"))
          ∷ [];
    }
    -- private comes before the other flags
    ∷ record {
      world =
          class (codes "A") [] (int_field 0x0003 (codes "x") ∷ []) []
          ∷ subclass (codes "B") (codes "A") [] [] []
          ∷ [];
      rows =
          (stranger, field_x (codes "B"), NotAccessible (codes "A"))
          ∷ (stranger, member_x (codes "A"), NotAccessible (codes "A"))
          ∷ (stranger, member_x (codes "B"), NotFound)
          ∷ [];
    }
    ∷ []
