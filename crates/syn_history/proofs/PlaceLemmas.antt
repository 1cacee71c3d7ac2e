-- Where a place is found in two lists of touches, one after the other.
use Rattle.std.proofs.Common.{◌≡◌, ℕ, List, [], ◌∷◌, ◌++◌, Option, Some, None, ◌==◌, true, false}
use Rattle.std.proofs.Common.{refl, sym, Bool, if◌then◌else◌}
use Rattle.std.proofs.lemmas.Option.{none-some}
use Rattle.syn_model.specs.Path.{Path}
use Rattle.syn_model.specs.Standing.{Touch}
use Rattle.syn_history.specs.Status.{path_at}

-- what is found in the first list is found in both
found_here : (here : Bool) (first rest both : Option Path) (path : Path) →
    (Some path ≡ rest → Some path ≡ both) → Some path ≡ (if here then first else rest) →
    Some path ≡ (if here then first else both)
found_here true first rest both path later h = h
found_here false first rest both path later h = later h

pub found_before : (older newer : List Touch) (place : ℕ) (path : Path) →
    Some path ≡ path_at older place → Some path ≡ path_at (older ++ newer) place
found_before [] newer place path h = absurd (none-some path (sym h))
found_before (touch ∷ older) newer place path h =
    found_here (touch.position == place) (Some touch.path) (path_at older place)
    (path_at (older ++ newer) place) path (found_before older newer place path) h

-- and what is not is looked for in the second
found_there : (here : Bool) (path : Path) (rest newer both : Option Path) →
    (None ≡ rest → newer ≡ both) → None ≡ (if here then Some path else rest) →
    newer ≡ (if here then Some path else both)
found_there true path rest newer both later h = absurd (none-some path h)
found_there false path rest newer both later h = later h

pub found_after : (older newer : List Touch) (place : ℕ) → None ≡ path_at older place →
    path_at newer place ≡ path_at (older ++ newer) place
found_after [] newer place h = refl
found_after (touch ∷ older) newer place h =
    found_there (touch.position == place) touch.path (path_at older place) (path_at newer place)
    (path_at (older ++ newer) place) (found_after older newer place) h
