-- A list of a fixed length of which only a first part is kept.
use Rattle.std.specs.Prelude.{ℕ, ◌-◌, List, ◌++◌, length, replicate}

-- after the items stands this element up to the size
unfoldable pub padded : {X : Type 0} → List X → ℕ → X → List X
padded items size rest = items ++ replicate (size - length items) rest
