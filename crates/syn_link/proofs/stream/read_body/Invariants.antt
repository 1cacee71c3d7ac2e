use Rattle.std.proofs.Common.{◌≡◌, ℕ, List, ◌++◌}
use Rattle.std.specs.Io.KnownBytes.{Consumes}
use Rattle.syn_link.proofs.stream.read_body.Given as goal

-- what came is held after what was held
abbrev pub invariant-loop : goal.invariant-loop
invariant-loop g l =
    (came : List ℕ) × (l.framer ≡ l.initial.framer ++ came)
    × Consumes (g.R.Read.remaining l.initial.reader) (g.R.Read.remaining l.reader) came
