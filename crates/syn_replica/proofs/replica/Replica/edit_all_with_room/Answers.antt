use Rattle.std.proofs.Common.{IfErr, MatchResult, inl, inr, map, subst, sym}
use Rattle.std.proofs.lemmas.Result.{IfErr-weaker, MatchResult-weaker}
use Rattle.syn_model.proofs.ExitLemmas.{exit_is}
use Rattle.syn_replica.proofs.WithRoomLemmas.{Leaves, made_in_turn, none_yet}
use Rattle.syn_replica.specs.Disks.{DiskStands}
use Rattle.syn_replica.specs.Edits.{event_by}
use Rattle.syn_replica.specs.ErrorRefusals.{refusal_of}
use Rattle.syn_replica.specs.Replica.{disk_of, pair_of}
use Rattle.syn_replica.specs.WithRoom.{IsUnmade, NoneOrAll}
use Rattle.syn_replica.proofs.replica.Replica.edit_all_with_room.Goals as goal

pub returns-in_err-with_room-clause-any_moment : goal.returns-in_err-with_room-clause-any_moment
returns-in_err-with_room-clause-any_moment g c history stands =
    let old = c.args.self in
    let refused = c.in_err-with_room.field-0.0 in
    let events = map (event_by c.args.user) c.args.edits.items in
    let P = NoneOrAll (pair_of old) history events in
    subst (λ result. MatchResult result (λ new. Leaves old (disk_of new) P)
    (λ failed. Leaves old failed.1 P))
    (sym (exit_is c.from_residual.result refused c.from_residual.ensures.1))
    (none_yet old refused.1 history events (c.in_err-with_room.ensures.any_moment history stands))

pub returns-in_err-with_room-clause-unmade : goal.returns-in_err-with_room-clause-unmade
returns-in_err-with_room-clause-unmade g c history stands =
    let old = c.args.self in
    let refused = c.in_err-with_room.field-0.0 in
    subst (λ result. IfErr result (λ r. IsUnmade old history (refusal_of r.0) r.1))
    (sym (exit_is c.from_residual.result refused c.from_residual.ensures.1))
    (inr (c.in_err-with_room.ensures.any_moment history stands))

pub returns-clause-acknowledged : goal.returns-clause-acknowledged
returns-clause-acknowledged g c history stands =
    c.edit_all.ensures.acknowledged history (c.in_ok-with_room.ensures.made history stands)

pub returns-clause-any_moment : goal.returns-clause-any_moment
returns-clause-any_moment g c history stands =
    let old = c.args.self in
    let mid = c.in_ok-with_room.field-0 in
    let events = map (event_by c.args.user) c.args.edits.items in
    let room = c.in_ok-with_room.ensures.any_moment history stands in
    let pair = c.in_ok-with_room.ensures.pair in
    MatchResult-weaker c.edit_all.result
    (c.edit_all.ensures.any_moment history (c.in_ok-with_room.ensures.made history stands))
    (λ new leaves. made_in_turn old mid (disk_of new) history events pair room leaves)
    (λ refused leaves. made_in_turn old mid refused.1 history events pair room leaves)

pub returns-clause-unmade : goal.returns-clause-unmade
returns-clause-unmade g c history stands =
    let old = c.args.self in
    IfErr-weaker c.edit_all.result _ _ (λ refused is. elim is [
      | inl device ↦ inl device
      | inr same ↦ inr (subst (λ left. Leaves old left
          (λ bytes. DiskStands (pair_of old) bytes history)) (sym same)
          (c.in_ok-with_room.ensures.any_moment history stands))
    ]) c.edit_all.ensures.unchanged
