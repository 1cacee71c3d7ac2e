-- When two glimpses of a folder of the system are taken for the same.
use Rattle.std.specs.Prelude.{◌≡◌, ◌≤◌, length}
use Rattle.syn_folder.specs.declared.system.glimpse.Glimpse.{Glimpse}
use Rattle.syn_folder.specs.declared.system.walking.TheConstants.{MOST_LOOKED}

-- the same names were listed, and what stood there looked the same; and it was no more than is
-- compared
pub record LookSame (one other : Glimpse) : Type 0 where
  pub few : length one.looks.items ≤ MOST_LOOKED
  pub names : one.names.items ≡ other.names.items
  pub looks : one.looks.items ≡ other.looks.items
