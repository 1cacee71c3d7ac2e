use Rattle.std.proofs.Common.{sym, ap, ◌∙◌}
use Rattle.std.specs.Option.{option_map}
use Rattle.syn_history.specs.Events.{token_of}
use Rattle.syn_history.specs.Past.{past_with, past_after}
use Rattle.syn_history.proofs.TouchLemmas.{began_past}
use Rattle.syn_history.proofs.trail.Trail.record.Goals as goal

pub returns-in-Began : goal.returns-in-Began
returns-in-Began c event e =
    let old = c.self.inside in
    began_past (past_with old.position old.floor old.touches.items old.session
    (option_map token_of old.token)) c.in-Began.session event c.self.invariant.0.count
    (sym c.in-Began.is ∙ e)
    ∙ ap (λ past. past_after past event) c.self.view_is
