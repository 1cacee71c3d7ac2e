use Rattle.std.proofs.Common.{ap, inr, sym, ◌∙◌}
use Rattle.std.proofs.lemmas.Result.{err_from_is_err_and}
use Rattle.syn_replica.specs.Edits.{event_by}
use Rattle.syn_replica.specs.ErrorRefusals.{refusal_in}
use Rattle.syn_replica.proofs.StandingLemmas.{early_at}
use Rattle.syn_replica.proofs.RoomLemmas.{refused_at}
use Rattle.syn_replica.proofs.replica.batch.add_one.Goals as goal

pub returns-in_err-check-clause-refused : goal.returns-in_err-check-clause-refused
returns-in_err-check-clause-refused c =
    let p = err_from_is_err_and c.from_residual.result c.from_residual.ensures.1 in
    let event = event_by c.args.user c.args.edit in
    rw (p.1, p.2) (inr (refused_at c.args.room c.args.standing.now event _
    (early_at c.args.standing.now event _ (sym c.in_err-check.ensures))))

pub encode_event-requires : goal.encode_event-requires
encode_event-requires c =
    c.opening_laws.ensures.short c.args.standing.now (event_by c.args.user c.args.edit)
    (sym c.check.ensures ∙ ap refusal_in c.in_ok-check.was)

pub returns-clause-made : goal.returns-clause-made
returns-clause-made c =
    c.make.ensures (event_by c.args.user c.args.edit) c.in_ok-update.ensures.gives
