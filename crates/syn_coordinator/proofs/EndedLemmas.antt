-- How a session ends that is refused for lack of memory.
use Rattle.std.proofs.Common.{◌≡◌, Result, Ok, Err, ap, subst, sym}
use Rattle.std.specs.Prelude.{IfErr, IsErrAnd, MatchResult}
use Rattle.syn_coordinator.specs.declared.session_end.SessionEnd.{SessionEnd}
use Rattle.syn_coordinator.specs.declared.session_end.SessionEnd.TheVariants.{Early}
use Rattle.syn_refusal.specs.declared.refusal.Refusal.TheVariants.{Memory}

-- the exit of a `?`
pub exit_for_memory : {T : Type 0} (result : Result T SessionEnd)
    → IsErrAnd result (λ how. how ≡ Early Memory) → result ≡ Err (Early Memory)
exit_for_memory (Ok value) is = absurd is
exit_for_memory (Err how) is = ap (λ how. Err how) is

pub memory_alone : {T : Type 0} (result : Result T SessionEnd)
    → IsErrAnd result (λ how. how ≡ Early Memory) → IfErr result (λ how. how ≡ Early Memory)
memory_alone (Ok value) is = absurd is
memory_alone (Err how) is = is

pub match_of_memory : {T : Type 0} (result : Result T SessionEnd) (P : T → Type 0)
    (Q : SessionEnd → Type 0) → IsErrAnd result (λ how. how ≡ Early Memory) → Q (Early Memory)
    → MatchResult result P Q
match_of_memory result P Q is holds =
    subst (λ r. MatchResult r P Q) (sym (exit_for_memory result is)) holds
