-- For each premise of the laws a question that succeeds, and whose answer is another one where
-- that premise alone doesn't hold.
use Rattle.std.specs.Prelude.{List, [], ◌∷◌, codes, None}
use Rattle.class_desc.specs.ClassFile.{object_name}
use Rattle.class_views.specs.Query.{MethodQuery, NotFound, NotAccessible, Ambiguous}
use Rattle.class_views.specs.View.{MemberView}
use Rattle.class_views.specs.World.{World}
use Rattle.class_views_tests.specs.Classes.{int_field, method, type, object, class, subclass}
use Rattle.class_views_tests.specs.Classes.{interface, stranger, extending, call}
use Rattle.class_views_tests.specs.Classes.{field_x, member_x}
use Rattle.class_views_tests.specs.Classes.{interface_m, member_m, found_x, found_m, found_method}
use Rattle.projection_tests.specs.Pairs.{Pair, changed}
use Rattle.projection_tests.specs.Surviving.{beside_interface}

abbrev pub hiding_method : List MemberView → World
hiding_method methods =
    class (codes "A") [] [] (method 0x0001 (codes "m") ∷ [])
    ∷ subclass (codes "B") (codes "A") [] [] methods
    ∷ interface (codes "N") [] [] (method 0x0001 (codes "m") ∷ [])
    ∷ subclass (codes "C") (codes "B") (codes "N" ∷ []) [] []
    ∷ []

-- a private member of B hides what is asked for; it would not, had B not been read, and then B is
-- to be as it was
abbrev pub hidden_pairs : List Pair
hidden_pairs =
    record {
      full = beside_interface (int_field 0x0002 (codes "x") ∷ []);
      less = beside_interface [];
      rows =
          changed stranger (member_x (codes "C")) (found_x (codes "N") 0x0019)
          (Ambiguous (codes "N") (codes "A"))
          ∷ [];
    }
    ∷ record {
      full = hiding_method (method 0x0002 (codes "m") ∷ []);
      less = hiding_method [];
      rows =
          changed stranger (member_m (codes "C")) (found_m (codes "N") 0x0001)
          (found_m (codes "A") 0x0001)
          ∷ [];
    }
    ∷ []

abbrev pub initialised : List MemberView → World
initialised methods = class (codes "A") [] [] methods ∷ []

-- a member that isn't private goes
abbrev pub lost_pairs : List Pair
lost_pairs =
    record {
      full = class (codes "A") [] (int_field 0x0000 (codes "x") ∷ []) [] ∷ [];
      less = class (codes "A") [] [] [] ∷ [];
      rows = changed stranger (field_x (codes "A")) (found_x (codes "A") 0x0000) NotFound ∷ [];
    }
    ∷ []

-- a class initialiser is asked for
abbrev pub initialiser_pairs : List Pair
initialiser_pairs =
    record {
      full = initialised (method 0x0008 (codes "<clinit>") ∷ []);
      less = initialised [];
      rows =
          changed stranger (MethodQuery (codes "A") (call (codes "<clinit>")))
          (found_method (codes "A") 0x0008 (codes "<clinit>")) NotFound
          ∷ [];
    }
    ∷ []

-- a class is gone: L, but in the last pair
abbrev pub gone_pairs : List Pair
gone_pairs =
    -- the client's superclass
    record {
      full =
          class (codes "p/A") [] (int_field 0x0004 (codes "x") ∷ []) []
          ∷ subclass (codes "L") (codes "p/A") [] [] []
          ∷ [];
      less = class (codes "p/A") [] (int_field 0x0004 (codes "x") ∷ []) [] ∷ [];
      rows =
          changed (extending (codes "L")) (field_x (codes "p/A")) (found_x (codes "p/A") 0x0004)
          (NotAccessible (codes "p/A"))
          -- the class asked for
          ∷ changed (extending (codes "p/A")) (field_x (codes "L")) (found_x (codes "p/A") 0x0004)
          NotFound
          ∷ [];
    }
    -- the superclass of a class that stays
    ∷ record {
      full =
          class (codes "L") [] (int_field 0x0001 (codes "x") ∷ []) []
          ∷ subclass (codes "B") (codes "L") [] [] []
          ∷ [];
      less = subclass (codes "B") (codes "L") [] [] [] ∷ [];
      rows =
          changed stranger (field_x (codes "B")) (found_x (codes "L") 0x0001) NotFound
          ∷ [];
    }
    -- java/lang/Object, which an interface without superclass doesn't name
    ∷ record {
      full =
          object (method 0x0001 (codes "m") ∷ [])
          ∷ type 0x0601 (codes "N") None [] [] []
          ∷ [];
      less = type 0x0601 (codes "N") None [] [] [] ∷ [];
      rows =
          changed stranger (interface_m (codes "N")) (found_m object_name 0x0001) NotFound ∷ [];
    }
    ∷ []
