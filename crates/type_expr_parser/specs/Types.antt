-- Reading types (JLS 4.1 to 4.5, 10.1): as far as parts, type arguments and dimensions are whole.
use Rattle.std.specs.Prelude.{ℕ, zero, suc, Bool, false, if◌then◌else◌, List, [], ◌∷◌}
use Rattle.std.specs.Prelude.{Option, Some, None}
use Rattle.java_ast.specs.declared.types.TypeTree.{TypeTree, out-TypeTree}
use Rattle.java_ast.specs.declared.types.TypeTree.TheVariants as tree
use Rattle.java_ast.specs.declared.types.NamePart.{NamePart, out-NamePart}
use Rattle.java_ast.specs.declared.types.ArgTree.{ArgTree}
use Rattle.java_ast.specs.declared.types.ArgTree.TheVariants as arg
use Rattle.java_ast.specs.declared.types.ArgTree.TheViews.{roll-NamePart}
use Rattle.java_ast.specs.declared.types.Primitive.{Primitive}
use Rattle.java_grammar.specs.declared.part.Part.{Part}
use Rattle.java_grammar.specs.declared.part.Part.TheVariants as part
use Rattle.java_grammar.specs.Marks.{Mark}
use Rattle.java_grammar.specs.Reading.{front_part, is_angle, behind_mark}
use Rattle.java_grammar.specs.Types.{may_begin as may_begin_with, is_primitive}
use Rattle.java_grammar.specs.declared.sign.Sign.TheVariants as sign
use Rattle.type_expr_parser.specs.Reading.{Read, ◌>>=◌, step, many, prepended, many_count}
use Rattle.type_expr_parser.specs.Reading.{token_at, front_line, comes, sign_at, word_at}
use Rattle.type_expr_parser.specs.Names.{with_dims}
use Rattle.type_expr_parser.specs.Annotations.{behind_annotations}

-- how the types in one are read
abbrev pub Inner : Type 0
Inner = List Mark → Read TypeTree

-- ---- type arguments

unfoldable pub reference_over : Inner → List Mark → Read TypeTree
reference_over inner text = do
  type ← inner text
  if is_primitive (out-TypeTree type.0) then None else Some type

abbrev pub extending : Inner → List Mark → Read ArgTree
extending inner text = do
  type ← reference_over inner text
  Some (arg.Extends type.0, type.1)

abbrev pub super_of : Inner → List Mark → Read ArgTree
super_of inner text = do
  type ← reference_over inner text
  Some (arg.Super type.0, type.1)

abbrev pub bound_over : Inner → List Mark → Read ArgTree
bound_over inner text =
    if comes sign.Extends text then extending inner (behind_mark text)
    else (if comes sign.Super text then super_of inner (behind_mark text)
    else Some (arg.Any, text))

unfoldable pub wildcard_over : Inner → List Mark → Read ArgTree
wildcard_over inner text = do
  question ← sign_at sign.Question text
  bound_over inner question.1

abbrev pub exact_over : Inner → List Mark → Read ArgTree
exact_over inner text = do
  type ← reference_over inner text
  Some (arg.Exact type.0, type.1)

unfoldable pub arg_over : Inner → ℕ → List Mark → Read ArgTree
arg_over inner n text =
    if comes sign.Question (behind_annotations n text)
    then wildcard_over inner (behind_annotations n text) else exact_over inner text

unfoldable pub further_arg_over : Inner → ℕ → List Mark → Read ArgTree
further_arg_over inner n text = do
  comma ← sign_at sign.Comma text
  arg_over inner n comma.1

unfoldable pub arg_list_over : Inner → ℕ → List Mark → Read (List ArgTree)
arg_list_over inner n text = step (arg_over inner n text) (Some ([], text))
    (λ first rest. Some (prepended (first ∷ []) (many (further_arg_over inner n) n rest)))

unfoldable pub args_over : Inner → ℕ → List Mark → Read (List ArgTree)
args_over inner n text = do
  opening ← sign_at sign.Less text
  args ← arg_list_over inner n opening.1
  if is_angle args.1 then Some (args.0, behind_mark args.1) else None

-- only where they are whole
unfoldable pub any_args_over : Inner → ℕ → List Mark → Read (Option (List ArgTree))
any_args_over inner n text = step (args_over inner n text) (Some (None, text))
    (λ args rest. Some (Some args, rest))

-- ---- names

unfoldable pub part_over : Inner → ℕ → List Mark → Read NamePart
part_over inner n text = do
  name ← word_at text
  args ← any_args_over inner n name.1
  Some (roll-NamePart (record { name = name.0; args = args.0 }), args.1)

unfoldable pub further_part_over : Inner → ℕ → List Mark → Read NamePart
further_part_over inner n text = do
  dot ← sign_at sign.Dot text
  part_over inner n (behind_annotations n dot.1)

abbrev pub may_begin : List NamePart → Bool
may_begin [] = false
may_begin (first ∷ further) = may_begin_with (out-NamePart first) further

abbrev pub name_of : ℕ → List NamePart × List Mark → Read TypeTree
name_of line parts = if may_begin parts.0 then Some (tree.Named line parts.0, parts.1) else None

unfoldable pub named_over : Inner → ℕ → List Mark → Read TypeTree
named_over inner n text = do
  first ← part_over inner n text
  name_of (front_line text) (prepended (first.0 ∷ []) (many (further_part_over inner n) n first.1))

unfoldable pub primitive_at : Primitive → List Mark → Read TypeTree
primitive_at p text = do
  token ← token_at text
  Some (tree.Primitive p, token.1)

abbrev pub base_by : Inner → ℕ → Option Part → List Mark → Read TypeTree
base_by inner n (Some (part.Primitive p)) text = primitive_at p text
base_by inner n _ text = named_over inner n text

unfoldable pub base_over : Inner → ℕ → List Mark → Read TypeTree
base_over inner n text = base_by inner n (front_part text) text

-- ---- types

-- a dimension, with annotations before it (JLS 10.2)
unfoldable pub dimension_at : ℕ → List Mark → Read (Unit {0})
dimension_at n text = do
  opening ← sign_at sign.LeftBracket (behind_annotations n text)
  sign_at sign.RightBracket opening.1

-- without annotations before it
unfoldable pub bare_over : Inner → ℕ → List Mark → Read TypeTree
bare_over inner n text = do
  element ← base_over inner n text
  let dims = many_count (dimension_at n) n element.1
  Some (with_dims element.0 dims.0, dims.1)

unfoldable pub type_over : Inner → ℕ → List Mark → Read TypeTree
type_over inner n text = bare_over inner n (behind_annotations n text)

-- a type, in which at most so many stand in each other
unfoldable pub type_at : ℕ → Inner
type_at zero text = None
type_at (suc n) text = type_over (type_at n) n text
