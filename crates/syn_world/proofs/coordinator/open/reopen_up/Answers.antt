use Rattle.std.proofs.Common.{[], ◌∷◌, ◌∙◌, Err, None, Some, ap, arith, inl, inr, refl, sym, subst}
use Rattle.syn_archive.specs.Refusals.{refusal_of}
use Rattle.syn_coordinator.specs.Coordinators.{Does, ReopensNot, heard}
use Rattle.syn_journal.proofs.Spent.{counted}
use Rattle.syn_world.proofs.CoordinatorOpenLemmas.{never_less, not_nine, which_nine}
use Rattle.syn_world.proofs.CoordinatorReopenLemmas.{reopened_so, still_heard}
use Rattle.syn_coordinator.proofs.DueLemmas.{device_or_other}
use Rattle.syn_world.proofs.coordinator.open.reopen_up.Goals as goal

pub returns-in-Ok : goal.returns-in-Ok
returns-in-Ok g c pair machine stands =
    reopened_so c.args.coordinator c.reopen.new.self pair machine stands c.settle_found.result
    c.in-Ok.found None c.settle_found.ensures (λ status. []) (λ status goes. refl)
    (omega (arith, c.in-Ok.ensures.failures)) (λ nine. absurd (not_nine nine))
    (c.in-Ok.ensures.ok pair machine stands)

pub returns-in-Err : goal.returns-in-Err
returns-in-Err g c pair machine stands =
    let e = c.in-Err.error in
    let refused : Does c.args.coordinator c.reopen.new.self pair
    (ReopensNot pair machine (refusal_of e)) [] [] =
    elim (device_or_other e) [
      | inl device ↦ subst (λ e. Does c.args.coordinator c.reopen.new.self pair
          (ReopensNot pair machine (refusal_of e)) [] []) (sym device)
          (c.reopen.ensures.device pair machine stands (c.in-Err.is ∙ ap Err device))
      | inr other ↦ let memory = c.in-Err.ensures.memory pair machine stands other in
          subst (λ e. Does c.args.coordinator c.reopen.new.self pair
          (ReopensNot pair machine (refusal_of e)) [] []) (sym memory.0) memory.1
    ] in
    reopened_so c.args.coordinator c.reopen.new.self pair machine stands
    c.settle_found-in-Err.result None (Some c.refusal.result) c.settle_found-in-Err.ensures
    (λ status. heard status (refusal_of e ∷ []))
    (λ status goes. still_heard status (refusal_of e ∷ []) goes
    ∙ ap (λ r. r ∷ []) (sym c.refusal.ensures))
    (never_less (refusal_of e) _ _ c.in-Err.ensures.failures)
    (λ nine. counted (refusal_of e) _ _ (sym c.refusal.ensures
    ∙ which_nine _ nine) c.in-Err.ensures.failures) refused
