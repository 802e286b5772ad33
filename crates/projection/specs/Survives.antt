-- When the answer to a question survives: what succeeds in one world is answered alike in another.
use Rattle.std.specs.Prelude.{◌≡◌, ℕ, Bool, true, false, List, codes}
use Rattle.std.specs.Option.{option_map_or}
use Rattle.java_names.specs.Names.{is_text}
use Rattle.class_views.specs.Access.{Client}
use Rattle.class_views.specs.Query.{Part, MethodPart, Query, MethodQuery, InterfaceMethodQuery}
use Rattle.class_views.specs.Query.{MemberFieldQuery, MemberMethodQuery, AnnotationsQuery}
use Rattle.class_views.specs.Query.{class_asked, ask, Succeeds}
use Rattle.class_views.specs.Strip.{is_listed}
use Rattle.class_views.specs.World.{World}

-- the members of a class are asked for (JLS 8.2), and not what a name and a descriptor stand for
abbrev pub asks_members : Query → Bool
asks_members (MemberFieldQuery name field) = true
asks_members (MemberMethodQuery name sought) = true
asks_members other = false

abbrev pub is_initialiser_part : Part → Bool
is_initialiser_part (MethodPart sought) = is_text sought.name (codes "<clinit>")
is_initialiser_part other = false

-- a method of this name is no member (JVMS 2.9.2, JLS 8.2), so questions of membership never
-- find it
abbrev pub asks_initialiser : Query → Bool
asks_initialiser (MethodQuery name sought) = is_text sought.name (codes "<clinit>")
asks_initialiser (InterfaceMethodQuery name sought) = is_text sought.name (codes "<clinit>")
asks_initialiser (AnnotationsQuery name part) = is_initialiser_part part
asks_initialiser other = false

-- no class that is gone is asked for or is the client's superclass, and no class initialiser is
-- asked for
pub record IsClientQuery (gone : List (List ℕ)) (client : Client) (query : Query) : Type 0 where
  pub class_stays : is_listed gone (class_asked query) ≡ false
  pub superclass_stays : option_map_or (is_listed gone) client.super_name false ≡ false
  pub no_initialiser : asks_initialiser query ≡ false

-- failures may become successes: a private field in front of a public one is one that goes
abbrev pub Survives : World → World → Client → Query → Type 0
Survives world less client query =
    Succeeds (ask world client query) → ask less client query ≡ ask world client query
