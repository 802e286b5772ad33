-- Where methods are sought: resolution (JVMS 5.4.3.3, 5.4.3.4) and membership (JLS 8.4.8, 9.4.1).
use Rattle.std.specs.Prelude.{List, [], ◌∷◌, codes}
use Rattle.class_desc.specs.ClassFile.{object_name}
use Rattle.class_views.specs.View.{MemberView}
use Rattle.class_views.specs.Resolution.{NameAndType}
use Rattle.class_views.specs.Query.{Query, MethodQuery, InterfaceMethodQuery, MemberMethodQuery}
use Rattle.class_views.specs.Query.{NotFound, NotAccessible, Ambiguous, WrongKind}
use Rattle.class_views_tests.specs.Classes.{Example, stranger, of_package, extending, call}
use Rattle.class_views_tests.specs.Classes.{method, object, class, subclass, interface, method_m}
use Rattle.class_views_tests.specs.Classes.{interface_m, member_m, found_m, found_method}

-- the question and the answer are about superinterfaces
abbrev pub interface_examples : List Example
interface_examples =
    -- two unrelated default methods: the first of the walk, and no one member
    record {
      world =
          interface (codes "N") [] [] (method 0x0001 (codes "m") ∷ [])
          ∷ interface (codes "P") [] [] (method 0x0001 (codes "m") ∷ [])
          ∷ class (codes "C") (codes "N" ∷ codes "P" ∷ []) [] []
          ∷ [];
      rows =
          (stranger, method_m (codes "C"), found_m (codes "N") 0x0001)
          ∷ (stranger, member_m (codes "C"), Ambiguous (codes "N") (codes "P"))
          ∷ (stranger, interface_m (codes "C"), WrongKind)
          ∷ [];
    }
    -- one below the other
    ∷ record {
      world =
          interface (codes "N") [] [] (method 0x0001 (codes "m") ∷ [])
          ∷ interface (codes "P") (codes "N" ∷ []) [] (method 0x0001 (codes "m") ∷ [])
          ∷ class (codes "C") (codes "N" ∷ codes "P" ∷ []) [] []
          ∷ [];
      rows =
          (stranger, method_m (codes "C"), found_m (codes "P") 0x0001)
          ∷ (stranger, member_m (codes "C"), found_m (codes "P") 0x0001)
          ∷ [];
    }
    -- a diamond
    ∷ record {
      world =
          interface (codes "I") [] [] (method 0x0001 (codes "m") ∷ [])
          ∷ interface (codes "J") (codes "I" ∷ []) [] []
          ∷ interface (codes "K") (codes "I" ∷ []) [] []
          ∷ class (codes "C") (codes "J" ∷ codes "K" ∷ []) [] []
          ∷ interface (codes "L") (codes "J" ∷ codes "K" ∷ []) [] []
          ∷ [];
      rows =
          (stranger, method_m (codes "C"), found_m (codes "I") 0x0001)
          ∷ (stranger, member_m (codes "C"), found_m (codes "I") 0x0001)
          ∷ (stranger, interface_m (codes "L"), found_m (codes "I") 0x0001)
          ∷ (stranger, member_m (codes "L"), found_m (codes "I") 0x0001)
          ∷ [];
    }
    -- a diamond, of which one side declares: three levels, two of them declaring
    ∷ record {
      world =
          interface (codes "I") [] [] (method 0x0001 (codes "m") ∷ [])
          ∷ interface (codes "J") (codes "I" ∷ []) [] []
          ∷ interface (codes "K") (codes "I" ∷ []) [] (method 0x0401 (codes "m") ∷ [])
          ∷ class (codes "C") (codes "J" ∷ codes "K" ∷ []) [] []
          ∷ [];
      rows =
          (stranger, method_m (codes "C"), found_m (codes "I") 0x0001)
          ∷ (stranger, member_m (codes "C"), found_m (codes "K") 0x0401)
          ∷ [];
    }
    -- two abstract methods stand for the first
    ∷ record {
      world =
          interface (codes "N") [] [] (method 0x0401 (codes "m") ∷ [])
          ∷ interface (codes "P") [] [] (method 0x0401 (codes "m") ∷ [])
          ∷ class (codes "C") (codes "P" ∷ codes "N" ∷ []) [] []
          ∷ [];
      rows =
          (stranger, method_m (codes "C"), found_m (codes "P") 0x0401)
          ∷ (stranger, member_m (codes "C"), found_m (codes "P") 0x0401)
          ∷ [];
    }
    -- an abstract and a default one
    ∷ record {
      world =
          interface (codes "N") [] [] (method 0x0401 (codes "m") ∷ [])
          ∷ interface (codes "P") [] [] (method 0x0001 (codes "m") ∷ [])
          ∷ class (codes "C") (codes "N" ∷ codes "P" ∷ []) [] []
          ∷ [];
      rows =
          (stranger, method_m (codes "C"), found_m (codes "P") 0x0001)
          ∷ (stranger, member_m (codes "C"), Ambiguous (codes "N") (codes "P"))
          ∷ [];
    }
    -- a static, a private and an abstract one beside a default one
    ∷ record {
      world =
          interface (codes "N") [] [] (method 0x0009 (codes "m") ∷ [])
          ∷ interface (codes "P") [] [] (method 0x0002 (codes "m") ∷ [])
          ∷ interface (codes "Q") [] [] (method 0x0401 (codes "m") ∷ [])
          ∷ interface (codes "R") [] [] (method 0x0001 (codes "m") ∷ [])
          ∷ class (codes "C") (codes "N" ∷ codes "P" ∷ codes "Q" ∷ codes "R" ∷ []) [] []
          ∷ class (codes "D") (codes "N" ∷ codes "P" ∷ []) [] []
          ∷ [];
      rows =
          (stranger, method_m (codes "C"), found_m (codes "R") 0x0001)
          ∷ (stranger, member_m (codes "C"), Ambiguous (codes "Q") (codes "R"))
          ∷ (stranger, method_m (codes "D"), NotFound)
          ∷ (stranger, member_m (codes "D"), NotFound)
          ∷ (stranger, interface_m (codes "N"), found_m (codes "N") 0x0009)
          ∷ (stranger, member_m (codes "N"), found_m (codes "N") 0x0009)
          ∷ (stranger, interface_m (codes "P"), NotAccessible (codes "P"))
          ∷ (stranger, member_m (codes "P"), NotAccessible (codes "P"))
          ∷ [];
    }
    -- a private one below hides nothing, nor does one in front of one that is given
    ∷ record {
      world =
          interface (codes "I") [] [] (method 0x0001 (codes "m") ∷ [])
          ∷ interface (codes "J") (codes "I" ∷ []) [] (method 0x0002 (codes "m") ∷ [])
          ∷ interface (codes "K") [] []
          (method 0x0002 (codes "m") ∷ method 0x0401 (codes "m") ∷ [])
          ∷ class (codes "C") (codes "J" ∷ []) [] []
          ∷ class (codes "D") (codes "K" ∷ []) [] []
          ∷ [];
      rows =
          (stranger, method_m (codes "C"), found_m (codes "I") 0x0001)
          ∷ (stranger, member_m (codes "C"), NotFound)
          ∷ (stranger, method_m (codes "D"), found_m (codes "K") 0x0401)
          ∷ (stranger, member_m (codes "D"), found_m (codes "K") 0x0401)
          ∷ (stranger, interface_m (codes "K"), NotAccessible (codes "K"))
          ∷ [];
    }
    -- a class in a list of interfaces is none
    ∷ record {
      world =
          class (codes "D") [] [] (method 0x0009 (codes "m") ∷ [])
          ∷ class (codes "C") (codes "D" ∷ []) [] []
          ∷ [];
      rows =
          (stranger, method_m (codes "C"), NotFound)
          ∷ (stranger, member_m (codes "C"), found_m (codes "D") 0x0009)
          ∷ [];
    }
    ∷ []

abbrev pub constructor : NameAndType
constructor = call (codes "<init>")

abbrev pub initialiser : NameAndType
initialiser = call (codes "<clinit>")

-- a public, a protected and a static method of java/lang/Object, asked of an interface
abbrev pub members_of_object : List MemberView
members_of_object =
    method 0x0001 (codes "m")
    ∷ method 0x0004 (codes "g")
    ∷ method 0x0009 (codes "s")
    ∷ []

abbrev pub interface_g : Query
interface_g = InterfaceMethodQuery (codes "N") (call (codes "g"))

abbrev pub member_g : Query
member_g = MemberMethodQuery (codes "N") (call (codes "g"))

abbrev pub interface_s : Query
interface_s = InterfaceMethodQuery (codes "N") (call (codes "s"))

abbrev pub member_s : Query
member_s = MemberMethodQuery (codes "N") (call (codes "s"))

-- superclasses beside superinterfaces
abbrev pub class_examples : List Example
class_examples =
    -- a class's method comes before a superinterface's, also where it is abstract
    record {
      world =
          class (codes "B") [] [] (method 0x0401 (codes "m") ∷ [])
          ∷ interface (codes "N") [] [] (method 0x0001 (codes "m") ∷ [])
          ∷ subclass (codes "C") (codes "B") (codes "N" ∷ []) [] []
          ∷ [];
      rows =
          (stranger, method_m (codes "C"), found_m (codes "B") 0x0401)
          ∷ (stranger, member_m (codes "C"), found_m (codes "B") 0x0401)
          ∷ [];
    }
    -- a private one of the superclass is resolved, and isn't inherited
    ∷ record {
      world =
          class (codes "B") [] [] (method 0x0002 (codes "m") ∷ [])
          ∷ interface (codes "N") [] [] (method 0x0001 (codes "m") ∷ [])
          ∷ subclass (codes "C") (codes "B") (codes "N" ∷ []) [] []
          ∷ [];
      rows =
          (stranger, method_m (codes "C"), NotAccessible (codes "B"))
          ∷ (stranger, member_m (codes "C"), found_m (codes "N") 0x0001)
          ∷ [];
    }
    -- a default method below the one that came by the superclass
    ∷ record {
      world =
          interface (codes "N") [] [] (method 0x0001 (codes "m") ∷ [])
          ∷ class (codes "B") (codes "N" ∷ []) [] []
          ∷ interface (codes "P") (codes "N" ∷ []) [] (method 0x0001 (codes "m") ∷ [])
          ∷ subclass (codes "C") (codes "B") (codes "P" ∷ []) [] []
          ∷ [];
      rows =
          (stranger, method_m (codes "C"), found_m (codes "P") 0x0001)
          ∷ (stranger, member_m (codes "C"), found_m (codes "P") 0x0001)
          ∷ (stranger, member_m (codes "B"), found_m (codes "N") 0x0001)
          ∷ [];
    }
    -- two unrelated default methods, one by the superclass
    ∷ record {
      world =
          interface (codes "N") [] [] (method 0x0001 (codes "m") ∷ [])
          ∷ class (codes "B") (codes "N" ∷ []) [] []
          ∷ interface (codes "P") [] [] (method 0x0001 (codes "m") ∷ [])
          ∷ subclass (codes "C") (codes "B") (codes "P" ∷ []) [] []
          ∷ [];
      rows =
          (stranger, method_m (codes "C"), found_m (codes "P") 0x0001)
          ∷ (stranger, member_m (codes "C"), found_m (codes "N") 0x0001)
          ∷ [];
    }
    -- one method by the superclass and by a superinterface came by the superclass
    ∷ record {
      world =
          interface (codes "N") [] [] (method 0x0401 (codes "m") ∷ [])
          ∷ interface (codes "P") [] [] (method 0x0401 (codes "m") ∷ [])
          ∷ class (codes "B") (codes "N" ∷ []) [] []
          ∷ subclass (codes "C") (codes "B") (codes "P" ∷ codes "N" ∷ []) [] []
          ∷ [];
      rows = (stranger, member_m (codes "C"), found_m (codes "N") 0x0401) ∷ [];
    }
    -- two by the superclass, of which one is overridden below
    ∷ record {
      world =
          interface (codes "N") [] [] (method 0x0001 (codes "m") ∷ [])
          ∷ interface (codes "P") [] [] (method 0x0001 (codes "m") ∷ [])
          ∷ class (codes "B") (codes "N" ∷ codes "P" ∷ []) [] []
          ∷ interface (codes "Q") (codes "N" ∷ []) [] (method 0x0001 (codes "m") ∷ [])
          ∷ subclass (codes "C") (codes "B") (codes "Q" ∷ []) [] []
          ∷ interface (codes "R") (codes "N" ∷ codes "P" ∷ []) [] (method 0x0001 (codes "m") ∷ [])
          ∷ subclass (codes "D") (codes "B") (codes "R" ∷ codes "Q" ∷ []) [] []
          ∷ [];
      rows =
          (stranger, member_m (codes "B"), Ambiguous (codes "N") (codes "P"))
          ∷ (stranger, member_m (codes "C"), found_m (codes "P") 0x0001)
          ∷ (stranger, member_m (codes "D"), Ambiguous (codes "R") (codes "Q"))
          ∷ [];
    }
    -- a method without an access flag drops an interface's, and is lost in another package
    ∷ record {
      world =
          class (codes "p/A") [] [] (method 0 (codes "m") ∷ [])
          ∷ interface (codes "N") [] [] (method 0x0001 (codes "m") ∷ [])
          ∷ subclass (codes "p/B") (codes "p/A") (codes "N" ∷ []) [] []
          ∷ subclass (codes "q/C") (codes "p/B") [] [] []
          ∷ subclass (codes "q/D") (codes "p/A") (codes "N" ∷ []) [] []
          ∷ [];
      rows =
          (of_package (codes "p"), member_m (codes "p/B"), found_m (codes "p/A") 0)
          ∷ (stranger, member_m (codes "p/B"), NotAccessible (codes "p/A"))
          ∷ (stranger, member_m (codes "q/C"), NotFound)
          ∷ (stranger, method_m (codes "q/C"), NotAccessible (codes "p/A"))
          ∷ (of_package (codes "p"), method_m (codes "q/C"), found_m (codes "p/A") 0)
          ∷ (stranger, member_m (codes "q/D"), found_m (codes "N") 0x0001)
          ∷ [];
    }
    -- constructors and the class initialiser are resolved, and are no members
    ∷ record {
      world =
          class (codes "B") [] []
          (method 0x0001 (codes "<init>") ∷ method 0x0008 (codes "<clinit>") ∷ [])
          ∷ subclass (codes "C") (codes "B") [] [] []
          ∷ [];
      rows = (
        stranger,
        MethodQuery (codes "C") constructor,
        found_method (codes "B") 0x0001 (codes "<init>"),
      )
          ∷ (stranger, MemberMethodQuery (codes "C") constructor, NotFound)
          ∷ (stranger, MemberMethodQuery (codes "B") constructor, NotFound)
          ∷ (
            stranger,
            MethodQuery (codes "B") initialiser,
            found_method (codes "B") 0x0008 (codes "<clinit>"),
          )
          ∷ (stranger, MemberMethodQuery (codes "B") initialiser, NotFound)
          ∷ [];
    }
    -- what interfaces have of java/lang/Object
    ∷ record {
      world =
          object members_of_object
          ∷ interface (codes "N") [] [] []
          ∷ interface (codes "J") [] [] (method 0x0001 (codes "m") ∷ [])
          ∷ interface (codes "K") (codes "J" ∷ []) [] []
          ∷ class (codes "C") (codes "J" ∷ []) [] []
          ∷ [];
      rows =
          (stranger, interface_m (codes "N"), found_m object_name 0x0001)
          ∷ (stranger, member_m (codes "N"), found_m object_name 0x0001)
          ∷ (stranger, interface_m (codes "K"), found_m object_name 0x0001)
          ∷ (stranger, member_m (codes "K"), found_m object_name 0x0001)
          ∷ (stranger, member_m (codes "J"), found_m (codes "J") 0x0001)
          ∷ (stranger, method_m (codes "C"), found_m object_name 0x0001)
          ∷ (stranger, member_m (codes "C"), found_m object_name 0x0001)
          ∷ (extending (codes "C"), interface_g, NotFound)
          ∷ (extending (codes "C"), member_g, found_method object_name 0x0004 (codes "g"))
          ∷ (stranger, member_g, NotAccessible object_name)
          ∷ (stranger, interface_s, NotFound)
          ∷ (stranger, member_s, found_method object_name 0x0009 (codes "s"))
          ∷ [];
    }
    ∷ []
