-- What a log of sessions says of a session's plan.
use Rattle.std.proofs.Common.{◌≡◌, ◌≢◌, ℕ, suc, true, false, ◌==◌, [], ◌∷◌, ◌++◌, refl, ap, Some}
use Rattle.std.proofs.Common.{arith, if◌then◌else◌, slice_get}
use Rattle.std.specs.Prelude.{Contains, All}
use Rattle.std.proofs.lemmas.Bool.Decides.{nat_tests}
use Rattle.std.proofs.lemmas.List.Elements.{All-head, All-tail}
use Rattle.std.proofs.lemmas.Option.{none-some}
use Rattle.syn_machine.specs.Network.{Sent}
use Rattle.syn_machine.specs.Planning.{Planned, SessionPlan, Log, IsPlanOf}
use Rattle.syn_runs.proofs.Invariant.{plan_in, Scans, IsPlanFrom}

-- a session's plan that has items is that of its entry
pub entry_of : (log : Log) (session item : ℕ) (planned : Planned) →
    slice_get (plan_in log session) item ≡ Some planned → (made : SessionPlan) × Contains log made
    × (made.session ≡ session) × (made.plan ≡ plan_in log session)
entry_of [] session item planned e = absurd (none-some _ e)
entry_of (first ∷ log) session item planned e =
    elim (first.session == session) as (λ b. (first.session == session) ≡ b →
    slice_get (if b then first.plan else plan_in log session) item ≡ Some planned →
    (made : SessionPlan) × Contains (first ∷ log) made × (made.session ≡ session)
    × (made.plan ≡ (if b then first.plan else plan_in log session))) [
      | true ↦ λ same e. (first, (0, omega arith, refl), grind (arith, nat_tests), refl)
      | false ↦ λ _ e. let rest = entry_of log session item planned e in let within = rest.1.1 in
          (rest.0, (suc rest.1.0, omega (arith, within), rest.1.2), rest.2, rest.3)
    ] refl e

-- a session that made none has none
pub no_plan : (log : Log) (session : ℕ) → All (λ made. made.session ≢ session) log →
    plan_in log session ≡ []
no_plan [] session all = refl
no_plan (first ∷ log) session all =
    elim (first.session == session) as (λ b. (first.session == session) ≡ b →
    (if b then first.plan else plan_in log session) ≡ []) [
      | true ↦ λ same. absurd
          (All-head (λ made. made.session ≢ session) first log all (grind (arith, nat_tests)))
      | false ↦ λ _. no_plan log session (All-tail (λ made. made.session ≢ session) first log all)
    ] refl

-- an entry that is added is that of its session, and of no other
pub plan_in-push : (log : Log) (made : SessionPlan) →
    All (λ earlier. earlier.session ≢ made.session) log → (session : ℕ) →
    plan_in (log ++ made ∷ []) session
    ≡ (if session == made.session then made.plan else plan_in log session)
plan_in-push [] made once session =
    ap (λ b. if b then made.plan else []) (same_test made.session session)
  where
    same_test : (m n : ℕ) → (m == n) ≡ (n == m)
    same_test m n = grind (arith, nat_tests)
plan_in-push (first ∷ log) made once session =
    elim (first.session == session) as (λ b. (first.session == session) ≡ b →
    (if b then first.plan else plan_in (log ++ made ∷ []) session) ≡ (if session == made.session
    then made.plan else (if b then first.plan else plan_in log session))) [
      | true ↦ λ same.
          let other : first.session ≢ made.session =
          All-head (λ earlier. earlier.session ≢ made.session) first log once in
          elim (session == made.session)
          as (λ c. (session == made.session) ≡ c →
          first.plan ≡ (if c then made.plan else first.plan)) [
            | true ↦ λ here. absurd (other (grind (arith, nat_tests)))
            | false ↦ λ _. refl
          ] refl
      | false ↦ λ _. plan_in-push log made
          (All-tail (λ earlier. earlier.session ≢ made.session) first log once) session
    ] refl

-- what an entry was made of
abbrev pub scans_of : SessionPlan → Scans
scans_of made = record { preference = made.preference; scan = made.scan; since = made.since }

pub plan_from : (sent : Sent) (made : SessionPlan) → IsPlanOf sent made →
    IsPlanFrom sent made.session made.archive (scans_of made) made.plan
plan_from sent made is =
    record {
      begun = is.begun;
      scanned = is.scanned;
      ordered = is.ordered;
      items = is.items;
      seen = is.seen;
    }
