-- What the used files hold: a class each, or a module's description.
use Rattle.std.specs.Prelude.{ℕ, List, [], ◌∷◌, Result, Ok, Err, if◌then◌else◌}
use Rattle.std.specs.List.{flat_map}
use Rattle.hdr_core.specs.declared.code.Code.{Code}
use Rattle.hdr_core.specs.declared.code.Code.TheVariants as code
use Rattle.hdr_core.specs.declared.diagnostics.Diag.{Diag}
use Rattle.java_names.specs.Paths.{name_of_path}
use Rattle.class_desc.specs.declared.class.ClassDesc.{ClassDesc}
use Rattle.pool_reader.specs.declared.fault.ClassFault.{ClassFault}
use Rattle.pool_reader.specs.declared.fault.ClassKind.{ClassKind}
use Rattle.pool_reader.specs.declared.fault.ClassKind.TheVariants as kind
use Rattle.class_reader.specs.Reading.{class_of}
use Rattle.used_files.specs.Paths.{UsedFile, part_below, is_module, stem}
use Rattle.file_contents.specs.declared.items.Content.{Content}
use Rattle.file_contents.specs.declared.items.Content.TheVariants.{Class, Module}
use Rattle.file_contents.specs.declared.items.Item.{Item}
use Rattle.file_contents.specs.Reading.{Numbered, numbered, diag_in}

-- ---- a class or a module

-- a module's description, which counts as a class named as its path below the root
abbrev pub module_content : List ℕ → List ℕ → Content
module_content below bytes = Module below (name_of_path (stem below)) bytes

abbrev pub class_content : Result ClassDesc ClassFault → Result Content ClassFault
class_content (Ok d) = Ok (Class d)
class_content (Err fault) = Err fault

-- Modules are not read. Reading a class from front to back finds it just where the bytes spell
-- one: class_reader's law `reads_what_is_spelled`.
abbrev pub content_of : UsedFile → Result Content ClassFault
content_of file =
    if is_module file.place.path
    then Ok (module_content (part_below file.place.root file.place.path) file.bytes)
    else class_content (class_of file.bytes)

-- ---- the format of class files

abbrev pub code_of_kind : ClassKind → Code
code_of_kind kind.F1 = code.F1
code_of_kind kind.F2 = code.F2
code_of_kind kind.F3 = code.F3
code_of_kind kind.F4 = code.F4
code_of_kind kind.F5 = code.F5
code_of_kind kind.F6 = code.F6
code_of_kind kind.F7 = code.F7
code_of_kind kind.F8 = code.F8
code_of_kind kind.F9 = code.F9
code_of_kind kind.F10 = code.F10
code_of_kind kind.F11 = code.F11
code_of_kind kind.F12 = code.F12
code_of_kind kind.F13 = code.F13

abbrev pub unspelled : Numbered → Result Content ClassFault → List Diag
unspelled n (Ok content) = []
unspelled n (Err fault) = diag_in n.0 n.1.place.path fault.offset (code_of_kind fault.kind) [] ∷ []

abbrev pub format_at : Numbered → List Diag
format_at n = unspelled n (content_of n.1)

-- each file that spells no class
abbrev pub format_phase : List UsedFile → List Diag
format_phase files = flat_map format_at (numbered files)

-- ---- what was read

abbrev pub item_with : Numbered → Result Content ClassFault → List Item
item_with n (Ok content) = record { file = n.0; path = n.1.place.path; content = content } ∷ []
item_with n (Err fault) = []

abbrev pub item_at : Numbered → List Item
item_at n = item_with n (content_of n.1)

-- the classes and modules, in the order of their files
abbrev pub items_of : List UsedFile → List Item
items_of files = flat_map item_at (numbered files)

-- ---- names, and the classes alone

abbrev pub content_name : Content → List ℕ
content_name (Class d) = d.name
content_name (Module below name bytes) = name

abbrev pub item_name : Item → List ℕ
item_name item = content_name item.content

abbrev pub class_in : Content → List ClassDesc
class_in (Class d) = d ∷ []
class_in (Module below name bytes) = []

abbrev pub classes : List Item → List ClassDesc
classes items = flat_map (λ item. class_in item.content) items
