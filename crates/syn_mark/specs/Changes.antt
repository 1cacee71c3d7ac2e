-- A change of marks that was prepared: a place, what will stand there, and the room for it.
use Rattle.std.specs.Prelude.{◌≡◌, ◌≤◌, ◌+◌, ℕ, true, false, refl, Option}
use Rattle.std.specs.Coded.{Coded, code_by, coded×, coded_ℕ, coded_list}
use Rattle.std.specs.FinMap.{entries, len}
use Rattle.syn_model.specs.Path.{Path, IsPath, is_root, parent}
use Rattle.syn_model.specs.Tree.{Tree, replace, is_directory, coded_tree}
use Rattle.syn_model.specs.Limits.{fits_archive}
use Rattle.syn_model.specs.Mark.{IsMarks}
use Rattle.syn_model.specs.Refusal.{Refusal, first_cause}
use Rattle.syn_model.specs.Archive.{record_causes}
use Rattle.syn_placed.specs.Pairs.{Pairs, under}

pub record Replacement : Type 0 where
  pub at : Path
  pub new : Tree
  pub room : ℕ

-- the pairs are the marks that will stand at and below the path
pub record ArePlaced (at : Path) (new : Tree) (pairs : Pairs) : Type 0 where
  pub path : IsPath at
  pub marks : IsMarks new
  pub placed : pairs ≡ under at (entries new)

-- it may be made in the marks, keeps the limits there, and needs no memory
pub record IsPreparedFor (marks : Tree) (change : Replacement) : Type 0 where
  pub below : is_root change.at ≡ false
  pub parent : is_directory marks (parent change.at) ≡ true
  pub fits : fits_archive (replace marks change.at change.new) ≡ true
  pub room : len marks + len change.new ≤ change.room

abbrev pub after_change : Tree → Replacement → Tree
after_change marks change = replace marks change.at change.new

-- why marks refuse a replacement
abbrev pub replace_refusal : Tree → Path → Tree → Option Refusal
replace_refusal marks path new = first_cause (record_causes marks path new)

-- what may be put somewhere within the limits is within them by itself
abbrev pub PutPartFits : Type 0
PutPartFits = (marks : Tree) (path : Path) (new : Tree)
    → fits_archive (replace marks path new) ≡ true → fits_archive new ≡ true

-- a replacement is stored as its fields
abbrev pub coded_replacement : Coded Replacement
coded_replacement = code_by (Path × (Tree × ℕ))
    (coded× (coded_list (coded_list coded_ℕ)) (coded× coded_tree coded_ℕ))
    (λ c. (c.at, (c.new, c.room))) (λ p. record { at = p.0; new = p.1.0; room = p.1.1 }) (λ _. refl)
