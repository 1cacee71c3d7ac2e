-- The tree of an image: one within all limits of a replica, and of its version.
use Rattle.std.specs.Prelude.{◌≡◌, ◌≤◌, length}
use Rattle.syn_model.specs.Version.{Version, One}
use Rattle.syn_model.specs.Tree.{Tree}
use Rattle.syn_model.specs.Spelling.{spelling_in}
use Rattle.syn_model.specs.Limits.{greatest_old_spelling}
use Rattle.syn_wire.specs.Trees.{IsWholeTreeIn}

pub record IsImageTree (version : Version) (tree : Tree) : Type 0 where
  pub whole : IsWholeTreeIn version tree
  pub old : version ≡ One → length (spelling_in One tree) ≤ greatest_old_spelling
