use Rattle.std.proofs.Common.{true≢false, Err, Some, sym, ap, subst, ◌∙◌, arith}
use Rattle.syn_journal.specs.Refusals.{refusal_of}
use Rattle.syn_journal.specs.Journaled.{Compacts, journal_of, state_of}
use Rattle.syn_journal.proofs.Endings.{not_begun, not_compacted}
use Rattle.syn_journal.proofs.journaled.Journaled.checkpoint_journal.Goals as goal

pub returns-in_default-clause-journal : goal.returns-in_default-clause-journal
returns-in_default-clause-journal g c =
    not_begun g.met.D.Disk.only_now (journal_of c.args.self.now) _
    (λ halted. true≢false (sym (c.is_halted.ensures.halted.1 halted) ∙ c.if-is_halted.false))
    (λ last. omega (
      arith,
      c.if-generation-eq18446744073709551615.false,
      c.generation.ensures,
      last,
    ))
    _ c.refused-in_default.ensures.why

pub returns-clause-journal : goal.returns-clause-journal
returns-clause-journal g c =
    let refused = c.in-Err.ensures in
    let spelled = c.deref.ensures.value ∙ c.in-Some.ensures in
    subst (λ r. Compacts (journal_of c.args.self.now) c.checkpoint.new.self
    (g.S.State.spelling (state_of c.args.self.now)) (Some r))
    (sym c.refused-in-Err.ensures.why)
    (subst (λ i. Compacts (journal_of c.args.self.now) c.checkpoint.new.self i
    (Some (refusal_of c.in-Err.error))) spelled
    (not_compacted (journal_of c.args.self.now) c.checkpoint.new.self c.deref.result.now
    (λ halted. true≢false (sym (c.is_halted.ensures.halted.1 halted) ∙ c.if-is_halted.false))
    (λ last. omega (
      arith,
      c.if-generation-eq18446744073709551615.false,
      c.generation.ensures,
      last,
    ))
    c.in-Err.error refused.any_moment
    (λ is. refused.halted.0 (ap (λ x. Err x) is))
    (λ is. (refused.full.0 (ap (λ x. Err x) is)).1) (λ is. refused.halts (ap (λ x. Err x) is))
    refused.refusals refused.unchanged refused.failures refused.calls refused.generation
    refused.gate))
