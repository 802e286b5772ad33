-- Productions of single tokens, of ends, and those that other crates read.
use Rattle.std.specs.Prelude.{ℕ, true, false, nat_eq, if◌then◌else◌, List, [], ◌∷◌, Some, None}
use lib.Pointwise.{pointwise}
use Rattle.java_ast.specs.declared.types.TypeTree.{TypeTree}
use Rattle.java_ast.specs.declared.annotation.AnnTree.{AnnTree}
use Rattle.java_ast.specs.declared.annotation.ElemTree.{ElemTree}
use Rattle.java_grammar.specs.declared.part.Part.TheVariants as part
use Rattle.java_grammar.specs.declared.sign.Sign.{Sign}
use Rattle.java_grammar.specs.declared.sign.Sign.TheVariants as sign
use Rattle.java_grammar.specs.Signs.{sign_part}
use Rattle.java_grammar.specs.Marks.{Mark}
use Rattle.java_grammar.specs.Words.{IsOn, Word, WordOn, ClosingAngle}
use Rattle.java_grammar.specs.Reading.{is_angle, is_group, is_semi, behind_mark}
use Rattle.java_grammar.specs.Expressions.{QName}
use Rattle.java_grammar.specs.Annotations.{AnnSpells, AnyAnns, ElemSpells}
use Rattle.java_grammar.specs.Types.{TypeSpells, BareSpells, Dims}
use Rattle.java_grammar.specs.Members.{SkippedGroup, Semicolon}
use Rattle.type_expr_parser.specs.Reading.{Read, found, ◌>>=◌, many_count, front_line, sign_at}
use Rattle.type_expr_parser.specs.Reading.{word_at}
use Rattle.type_expr_parser.specs.Names.{qname_at}
use Rattle.type_expr_parser.specs.Annotations.{annotation_at, behind_annotations, value_at}
use Rattle.type_expr_parser.specs.Types.{type_at, bare_over, dimension_at}
use Rattle.productions.specs.Keys.{Fixed, Dotted, Inside, With, TheWord, Plain, AnAngle, AnEnd, any_word}
use Rattle.productions.specs.Keys.{primitives, Anything}
use Rattle.productions.specs.Productions.{Production}

-- ---- tokens

-- the token, on this line of the source
abbrev pub a_sign_on : Sign → Production ℕ
a_sign_on s = record {
  read = λ n text. sign_at s text >>= λ x. found (front_line text) x.1;
  Spells = λ line. IsOn line (sign_part s);
  begins = With (sign_part s) ∷ [];
  goes = [];
  empty = false;
}

abbrev pub name : Production (List ℕ)
name = record {
  read = λ n text. word_at text;
  Spells = Word;
  begins = any_word;
  goes = [];
  empty = false;
}

-- a name, on this line of the source
abbrev pub name_on : Production (ℕ × List ℕ)
name_on = record {
  read = λ n text. word_at text >>= λ x. found (front_line text, x.0) x.1;
  Spells = λ x. WordOn x.0 x.1;
  begins = any_word;
  goes = [];
  empty = false;
}

abbrev pub the_word_at : List ℕ → List Mark → Read (Unit {0})
the_word_at word text =
    word_at text >>= λ x. if pointwise nat_eq x.0 word then found tt x.1 else None

abbrev pub the_word : List ℕ → Production (Unit {0})
the_word word = record {
  read = λ n text. the_word_at word text;
  Spells = λ u. Word word;
  begins = TheWord word ∷ [];
  goes = [];
  empty = false;
}

abbrev pub angle : Production (Unit {0})
angle = record {
  read = λ n text. if is_angle text then found tt (behind_mark text) else None;
  Spells = λ u. ClosingAngle;
  begins = AnAngle ∷ [];
  goes = [];
  empty = false;
}

-- ---- the ends of segments

abbrev pub skipped_group : Production (Unit {0})
skipped_group = record {
  read = λ n text. if is_group text then found tt (behind_mark text) else None;
  Spells = λ u. SkippedGroup;
  begins = AnEnd ∷ [];
  goes = [];
  empty = false;
}

abbrev pub semicolon : Production (Unit {0})
semicolon = record {
  read = λ n text. if is_semi text then found tt (behind_mark text) else None;
  Spells = λ u. Semicolon;
  begins = AnEnd ∷ [];
  goes = [];
  empty = false;
}

-- ---- names, annotations, types and values

abbrev pub qualified_name : Production (List (List ℕ))
qualified_name = record {
  read = qname_at;
  Spells = QName;
  begins = any_word;
  goes = Dotted ∷ [];
  empty = false;
}

abbrev pub annotations : Production (Unit {0})
annotations = record {
  read = λ n text. found tt (behind_annotations n text);
  Spells = λ u. AnyAnns;
  begins = With part.At ∷ [];
  goes = Fixed sign.At ∷ Fixed sign.Dot ∷ Fixed sign.LeftParenthesis ∷ [];
  empty = true;
}

abbrev pub annotation : Production AnnTree
annotation = record {
  read = annotation_at;
  Spells = AnnSpells;
  begins = With part.At ∷ [];
  goes = Fixed sign.Dot ∷ Fixed sign.LeftParenthesis ∷ [];
  empty = false;
}

-- `non` alone is told from `non-sealed` by what follows
abbrev pub any_type : Production TypeTree
any_type = record {
  read = type_at;
  Spells = TypeSpells;
  begins = With part.At ∷ Plain ∷ primitives;
  goes = Fixed sign.Less ∷ Fixed sign.Dot ∷ Fixed sign.At ∷ Fixed sign.LeftBracket
      ∷ Fixed sign.Minus ∷ [];
  empty = false;
}

abbrev pub bare_type : Production TypeTree
bare_type = record {
  read = λ n. bare_over (type_at n) n;
  Spells = BareSpells;
  begins = Plain ∷ primitives;
  goes = Fixed sign.Less ∷ Fixed sign.Dot ∷ Fixed sign.At ∷ Fixed sign.LeftBracket
      ∷ Fixed sign.Minus ∷ [];
  empty = false;
}

abbrev pub dimensions : Production ℕ
dimensions = record {
  read = λ n text. Some (many_count (dimension_at n) n text);
  Spells = Dims;
  begins = With part.At ∷ With (sign_part sign.LeftBracket) ∷ [];
  goes = Fixed sign.At ∷ Fixed sign.LeftBracket ∷ [];
  empty = true;
}

-- a value ends with its segment
abbrev pub value : Production ElemTree
value = record {
  read = value_at;
  Spells = ElemSpells;
  begins = Anything ∷ [];
  goes = Inside ∷ [];
  empty = false;
}
