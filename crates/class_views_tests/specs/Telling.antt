-- Where definitions that are nearly right answer something else: a question for each.
use Rattle.std.specs.Prelude.{List, [], ◌∷◌, codes, Some}
use Rattle.class_desc.specs.ClassFile.{object_name}
use Rattle.class_views.specs.Query.{NotAccessible, Ambiguous}
use Rattle.class_views_tests.specs.Classes.{Example, stranger, of_package, extending, method, type}
use Rattle.class_views_tests.specs.Classes.{object, class, interface, method_m, interface_m}
use Rattle.class_views_tests.specs.Classes.{member_m, found_m}

-- the questions are about which superinterface gives a method (JVMS 5.4.3.3, JLS 8.4.8)
abbrev pub choice_examples : List Example
choice_examples =
    -- an abstract method takes the place of the default above it
    record {
      world =
          interface (codes "I") [] [] (method 0x0001 (codes "m") ∷ [])
          ∷ interface (codes "K") (codes "I" ∷ []) [] (method 0x0401 (codes "m") ∷ [])
          ∷ class (codes "C") (codes "K" ∷ []) [] []
          ∷ [];
      rows = (stranger, method_m (codes "C"), found_m (codes "K") 0x0401) ∷ [];
    }
    -- of an abstract and two defaults the first, also where that is the abstract one
    ∷ record {
      world =
          interface (codes "N") [] [] (method 0x0401 (codes "m") ∷ [])
          ∷ interface (codes "P") [] [] (method 0x0001 (codes "m") ∷ [])
          ∷ interface (codes "Q") [] [] (method 0x0001 (codes "m") ∷ [])
          ∷ class (codes "C") (codes "N" ∷ codes "P" ∷ codes "Q" ∷ []) [] []
          ∷ [];
      rows = (stranger, method_m (codes "C"), found_m (codes "N") 0x0401) ∷ [];
    }
    -- a default that is met twice is one
    ∷ record {
      world =
          interface (codes "N") [] [] (method 0x0401 (codes "m") ∷ [])
          ∷ interface (codes "P") [] [] (method 0x0001 (codes "m") ∷ [])
          ∷ interface (codes "J") (codes "P" ∷ []) [] []
          ∷ interface (codes "K") (codes "P" ∷ []) [] []
          ∷ class (codes "C") (codes "N" ∷ codes "J" ∷ codes "K" ∷ []) [] []
          ∷ [];
      rows = (stranger, method_m (codes "C"), found_m (codes "P") 0x0001) ∷ [];
    }
    -- of three members the first two are told
    ∷ record {
      world =
          interface (codes "N") [] [] (method 0x0001 (codes "m") ∷ [])
          ∷ interface (codes "P") [] [] (method 0x0001 (codes "m") ∷ [])
          ∷ interface (codes "Q") [] [] (method 0x0001 (codes "m") ∷ [])
          ∷ class (codes "C") (codes "N" ∷ codes "P" ∷ codes "Q" ∷ []) [] []
          ∷ [];
      rows = (stranger, member_m (codes "C"), Ambiguous (codes "N") (codes "P")) ∷ [];
    }
    ∷ []

-- the questions are about access (JVMS 5.4.4)
abbrev pub access_examples : List Example
access_examples =
    -- a package is all that stands before the last `/`
    record {
      world =
          type 0x0020 (codes "p/q/A") (Some object_name) [] [] (method 0x0000 (codes "m") ∷ [])
          ∷ [];
      rows =
          (of_package (codes "p/q"), method_m (codes "p/q/A"), found_m (codes "p/q/A") 0x0000)
          ∷ (of_package (codes "p"), method_m (codes "p/q/A"), NotAccessible (codes "p/q/A"))
          ∷ [];
    }
    -- public, whatever else it is
    ∷ record {
      world = class (codes "p/A") [] [] (method 0x0005 (codes "m") ∷ []) ∷ [];
      rows = (stranger, method_m (codes "p/A"), found_m (codes "p/A") 0x0005) ∷ [];
    }
    -- protected is for what lies below by superclasses alone
    ∷ record {
      world =
          class (codes "p/A") [] [] (method 0x0004 (codes "m") ∷ [])
          ∷ class (codes "S") (codes "p/A" ∷ []) [] []
          ∷ [];
      rows = (extending (codes "S"), method_m (codes "p/A"), NotAccessible (codes "p/A")) ∷ [];
    }
    -- what java/lang/Object has and is public is found by way of an interface; that it is private
    -- too is then told
    ∷ record {
      world =
          object (method 0x0003 (codes "m") ∷ [])
          ∷ interface (codes "N") [] [] []
          ∷ [];
      rows = (stranger, interface_m (codes "N"), NotAccessible object_name) ∷ [];
    }
    ∷ []
