use Rattle.std.proofs.Common.{◌∙◌, sym}
use Rattle.syn_model.specs.Event.{Began}
use Rattle.syn_replica.specs.Replica.{pair_of, standing_shown}
use Rattle.syn_replica.proofs.RoomLemmas.{room_aside}
use Rattle.syn_replica.proofs.SessionLemmas.{begins_again, other_pair, rest_at}
use Rattle.syn_replica.proofs.replica.Replica.check_begin.Goals as goal

-- ---- the cause

pub returns-then-pair-clause-refusal : goal.returns-then-pair-clause-refusal
returns-then-pair-clause-refusal g c room fits running =
    sym (other_pair room (pair_of c.args.self.now) (standing_shown c.args.self.now) c.args.pair
    c.args.session (λ same. c.if-pair.true (same ∙ sym c.pair.ensures)))

pub returns-then-session-last_session-clause-refusal :
    goal.returns-then-session-last_session-clause-refusal
returns-then-session-last_session-clause-refusal g c room fits running =
    sym (begins_again room (pair_of c.args.self.now) (standing_shown c.args.self.now) c.args.pair
    c.args.session (c.if-pair.false ∙ c.pair.ensures)
    (c.if-session-last_session.true ∙ c.last_session.ensures))

pub returns-else-session-last_session-clause-refusal :
    goal.returns-else-session-last_session-clause-refusal
returns-else-session-last_session-clause-refusal g c room fits running =
    let standing = standing_shown c.args.self.now in
    c.check.ensures ∙ (room_aside room standing (Began c.args.session) fits
    ∙ sym (rest_at room (pair_of c.args.self.now) standing c.args.pair c.args.session
    (c.if-pair.false ∙ c.pair.ensures)
    (λ same. c.if-session-last_session.false (same ∙ sym c.last_session.ensures))))
