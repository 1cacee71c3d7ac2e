-- A mode as the model has it: nine bits.
use Rattle.std.specs.Prelude.{ℕ, ◌+◌, ◌*◌, ◌/◌, ◌%◌, Bool, if◌then◌else◌, List, ◌++◌}
use Rattle.std.specs.Fmt.{decimal}
use Rattle.syn_tree.specs.declared.mode.AccessRights.{AccessRights}
use Rattle.syn_tree.specs.declared.mode.Mode.{Mode}

abbrev pub bit_of : Bool → ℕ
bit_of set = if set then 1 else 0

-- reading, writing and executing
abbrev pub access_of : AccessRights → ℕ
access_of access = 4 * bit_of access.read + 2 * bit_of access.write + bit_of access.execute

-- the owner, the group and all others
abbrev pub mode_of : Mode → ℕ
mode_of mode = 64 * access_of mode.owner + 8 * access_of mode.group + access_of mode.others

-- its three octal digits
abbrev pub mode_digits : ℕ → List ℕ
mode_digits mode = decimal (mode / 64) ++ (decimal (mode / 8 % 8) ++ decimal (mode % 8))
