-- The bytes that descriptors and signatures are put
-- together with, by name (JVMS 4.3.2, 4.3.3, 4.7.9.1).
use Rattle.std.specs.Prelude.{ℕ, List, [], ◌∷◌, codes}

-- the byte of a text that has one
abbrev pub sole : List ℕ → ℕ
sole [] = 0
sole (b ∷ bytes) = b

-- a class, a type variable and void begin so
abbrev pub class_letter : ℕ
class_letter = sole (codes "L")

abbrev pub variable_letter : ℕ
variable_letter = sole (codes "T")

abbrev pub void_letter : ℕ
void_letter = sole (codes "V")

-- each dimension of an array
abbrev pub bracket : ℕ
bracket = sole (codes "[")

-- around type arguments and type parameters
abbrev pub less : ℕ
less = sole (codes "<")

abbrev pub greater : ℕ
greater = sole (codes ">")

-- around the parameters of a method
abbrev pub opening : ℕ
opening = sole (codes "(")

abbrev pub closing : ℕ
closing = sole (codes ")")

-- between the names of packages and classes, between the
-- parts of a class, and behind a class or a type variable
abbrev pub slash : ℕ
slash = sole (codes "/")

abbrev pub dot : ℕ
dot = sole (codes ".")

abbrev pub semicolon : ℕ
semicolon = sole (codes ";")

-- before each bound of a type parameter, and before each type that is thrown
abbrev pub colon : ℕ
colon = sole (codes ":")

abbrev pub caret : ℕ
caret = sole (codes "^")

-- type arguments with bounds, and the one without a type
abbrev pub plus : ℕ
plus = sole (codes "+")

abbrev pub minus : ℕ
minus = sole (codes "-")

abbrev pub star : ℕ
star = sole (codes "*")
