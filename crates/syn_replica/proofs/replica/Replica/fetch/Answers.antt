use Rattle.std.proofs.Common.{ℕ, ap, arith, length}
use Rattle.std.proofs.lemmas.List.{length-take}
use Rattle.syn_replica.proofs.replica.Replica.fetch.Goals as goal

pub returns-clause-short : goal.returns-clause-short
returns-clause-short g c =
    omega (arith, ap length c.in_ok-bytes.ensures, length-take {A = ℕ})
