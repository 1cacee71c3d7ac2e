-- Which replies can be sent.
use Rattle.std.specs.Prelude.{◌≡◌, true}
use Rattle.syn_message.specs.Listings.{IsListing}
use Rattle.syn_model.specs.Limits.{children}
use Rattle.syn_model.specs.Mark.{mark}
use Rattle.syn_model.specs.Path.{Path}
use Rattle.syn_model.specs.Tree.{Tree, is_directory}

-- what stands in a directory, by marks, is a listing that can be sent
abbrev pub ListsLawfully : Tree → Type 0
ListsLawfully tree = (path : Path) → is_directory tree path ≡ true
    → IsListing (children (mark tree) path)
