use Rattle.std.proofs.Common.{sym, ◌∙◌, arith}
use Rattle.std.specs.Option.{option_map}
use Rattle.syn_history.specs.Events.{token_of}
use Rattle.syn_history.specs.Past.{past_with}
use Rattle.syn_history.proofs.TouchLemmas.{lawful_past, passes}
use Rattle.syn_history.proofs.trail.are_lawful.Goals as goal

pub returns-clause-lawful : goal.returns-clause-lawful
returns-clause-lawful c b =
    let past = past_with c.args.position c.args.floor c.args.touches.now c.args.session
    (option_map token_of c.args.token.now) in
    let rising = c.are_rising.ensures.value in
    lawful_past past (omega (arith, c.ranges.position.fits)) (omega (arith, c.ranges.session.fits))
    c.is_of_session.ensures.lawful (c.are_rising.ensures.paths c.if-not-are_rising.false)
    (passes past (omega (arith, c.if-position-floor.false))
    (omega (arith, c.if-touches-gt-MOST_TOUCHES.false)) (sym rising ∙ c.if-not-are_rising.false)
    (sym c.is_of_session.ensures.value ∙ b))
