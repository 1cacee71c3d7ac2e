-- What a prepared change keeps.
use Rattle.std.specs.Prelude.{◌≡◌, []}
use Rattle.syn_model.specs.Path.{Path}
use Rattle.syn_placed.specs.Pairs.{Pairs}
use Rattle.syn_tree.specs.Change.{taken_from}
use Rattle.syn_mark.specs.Changes.{ArePlaced}

-- the pairs stand at the place, and nothing stands in the space yet
pub record IsSpaced (at : Path) (added space : Pairs) : Type 0 where
  pub placed : ArePlaced at (taken_from at added) added
  pub empty : space ≡ []
