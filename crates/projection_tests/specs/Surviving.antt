-- Questions whose answers survive, and failures that become successes.
use Rattle.std.specs.Prelude.{List, [], ◌∷◌, codes}
use Rattle.class_views.specs.View.{MemberView}
use Rattle.class_views.specs.World.{World}
use Rattle.class_views.specs.Query.{NotAccessible, Cycle}
use Rattle.class_views_tests.specs.Classes.{int_field, method, class, subclass}
use Rattle.class_views_tests.specs.Classes.{interface, stranger}
use Rattle.class_views_tests.specs.Classes.{extending, field_x, member_x, method_m, interface_m}
use Rattle.class_views_tests.specs.Classes.{member_m, found_x, found_m}
use Rattle.projection_tests.specs.Pairs.{Pair, kept, changed}

-- C below B below A, and N beside; B with these fields
abbrev pub beside_interface : List MemberView → World
beside_interface fields =
    class (codes "A") [] (int_field 0x0001 (codes "x") ∷ []) []
    ∷ subclass (codes "B") (codes "A") [] fields []
    ∷ interface (codes "N") [] (int_field 0x0019 (codes "x") ∷ []) []
    ∷ subclass (codes "C") (codes "B") (codes "N" ∷ []) [] []
    ∷ []

-- C has P, which is below N; N with these methods
abbrev pub below_interface : List MemberView → World
below_interface methods =
    interface (codes "N") [] [] methods
    ∷ interface (codes "P") (codes "N" ∷ []) [] (method 0x0001 (codes "m") ∷ [])
    ∷ class (codes "C") (codes "P" ∷ []) [] []
    ∷ []

-- R and S stand above each other; R with these fields
abbrev pub beside_ring : List MemberView → World
beside_ring fields =
    subclass (codes "R") (codes "S") [] fields []
    ∷ subclass (codes "S") (codes "R") [] [] []
    ∷ class (codes "A") [] (int_field 0x0001 (codes "x") ∷ []) []
    ∷ []

abbrev pub surviving_pairs : List Pair
surviving_pairs =
    -- the field that a name and descriptor stand for stands in front of the private one
    record {
      full = beside_interface (int_field 0x0002 (codes "x") ∷ []);
      less = beside_interface [];
      rows =
          kept stranger (field_x (codes "C")) (found_x (codes "N") 0x0019)
          ∷ kept stranger (field_x (codes "A")) (found_x (codes "A") 0x0001)
          ∷ kept stranger (member_x (codes "N")) (found_x (codes "N") 0x0019)
          ∷ kept stranger (member_x (codes "A")) (found_x (codes "A") 0x0001)
          -- a failure becomes a success
          ∷ changed stranger (field_x (codes "B")) (NotAccessible (codes "B"))
          (found_x (codes "A") 0x0001)
          ∷ [];
    }
    -- a private field that stays
    ∷ record {
      full = beside_interface (int_field 0x0002 (codes "x") ∷ int_field 0x0002 (codes "y") ∷ []);
      less = beside_interface (int_field 0x0002 (codes "x") ∷ []);
      rows =
          kept stranger (field_x (codes "C")) (found_x (codes "N") 0x0019)
          ∷ kept stranger (field_x (codes "B")) (NotAccessible (codes "B"))
          ∷ [];
    }
    -- private and static methods of interfaces
    ∷ record {
      full =
          below_interface
          (method 0x0002 (codes "m") ∷ method 0x000A (codes "m") ∷ method 0x0009 (codes "m") ∷ []);
      less = below_interface (method 0x0009 (codes "m") ∷ []);
      rows =
          kept stranger (method_m (codes "C")) (found_m (codes "P") 0x0001)
          ∷ kept stranger (interface_m (codes "P")) (found_m (codes "P") 0x0001)
          ∷ changed stranger (interface_m (codes "N")) (NotAccessible (codes "N"))
          (found_m (codes "N") 0x0009)
          ∷ [];
    }
    -- a private method and a class initialiser beside the member that is asked for
    ∷ record {
      full =
          below_interface
          (method 0x0002 (codes "n") ∷ method 0x0001 (codes "m") ∷ method 0x0008 (codes "<clinit>")
          ∷ []);
      less = below_interface (method 0x0001 (codes "m") ∷ []);
      rows =
          kept stranger (member_m (codes "N")) (found_m (codes "N") 0x0001)
          ∷ kept stranger (member_m (codes "P")) (found_m (codes "P") 0x0001)
          ∷ kept stranger (member_m (codes "C")) (found_m (codes "P") 0x0001)
          ∷ [];
    }
    -- a ring beside the class, and above the client
    ∷ record {
      full = beside_ring (int_field 0x0002 (codes "x") ∷ []);
      less = beside_ring [];
      rows =
          kept (extending (codes "R")) (field_x (codes "A")) (found_x (codes "A") 0x0001)
          ∷ kept (extending (codes "R")) (member_x (codes "A")) (found_x (codes "A") 0x0001)
          ∷ kept stranger (field_x (codes "S")) (Cycle (codes "R"))
          ∷ [];
    }
    ∷ []
