-- The flags of classes, fields and methods (JVMS tables 4.1-B, 4.5-A, 4.6-A).
use Rattle.std.specs.Prelude.{ℕ, ◌==◌, Bool, not, bit_and, if◌then◌else◌}

abbrev pub has_flag : ℕ → ℕ → Bool
has_flag flag flags = not (bit_and flags flag == 0)

-- what the flags of a field or method allow
pub data Access : Type 0 where
  Private : Access
  Public : Access
  Protected : Access
  -- no access flag
  InPackage : Access

-- ACC_PRIVATE comes before every other flag
abbrev pub access_of : ℕ → Access
access_of flags =
    if has_flag 0x0002 flags then Private
    else if has_flag 0x0001 flags then Public
    else if has_flag 0x0004 flags then Protected
    else InPackage

abbrev pub is_private : ℕ → Bool
is_private flags = has_flag 0x0002 flags

abbrev pub is_static : ℕ → Bool
is_static flags = has_flag 0x0008 flags

abbrev pub is_final : ℕ → Bool
is_final flags = has_flag 0x0010 flags

abbrev pub is_interface_flags : ℕ → Bool
is_interface_flags flags = has_flag 0x0200 flags

abbrev pub is_abstract : ℕ → Bool
is_abstract flags = has_flag 0x0400 flags
