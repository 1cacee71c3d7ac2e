use Rattle.std.proofs.Common.{Ok}
use Rattle.syn_image.specs.Archives.{kept_for}
use Rattle.syn_refusal.specs.declared.refusal.Refusal.TheVariants as refusal
use Rattle.syn_coordinator.specs.RecordOutcome.{Settles}
use Rattle.syn_coordinator.specs.declared.due.RecordOutcome.TheVariants.{Ends}
use Rattle.syn_coordinator.specs.inner.Recording.{MakesRoomNow, has_made}
use Rattle.syn_coordinator.proofs.DueLemmas.{before_room, ready_for_memory, ready_without_room}
use Rattle.syn_coordinator.proofs.DueLemmas.{settled, settled_after, still_no_room, without_room}
use Rattle.syn_coordinator.proofs.due.keep_due.Goals as goal

pub returns-in-Some-clause-settles : goal.returns-in-Some-clause-settles
returns-in-Some-clause-settles g c pair machine is =
    settled c.record.new.archive pair machine (kept_for c.args.item_record.now) c.in-Some.outcome
    (c.in-Some.ensures.records pair machine is)

pub returns-in-Err-clause-settles : goal.returns-in-Err-clause-settles
returns-in-Err-clause-settles g c pair machine is =
    let kept = kept_for c.args.item_record.now in
    let none = c.in_default.ensures.records pair machine is in
    let was = before_room c.make_room.new.archive pair machine kept none in
    without_room c.make_room.new.archive pair machine kept none c.in-Err.outcome
    (c.in-Err.ensures.room pair machine was.0 was.1)

pub returns-in-Some-record-clause-settles : goal.returns-in-Some-record-clause-settles
returns-in-Some-record-clause-settles g c pair machine is =
    let kept = kept_for c.args.item_record.now in
    let none = c.in_default.ensures.records pair machine is in
    let was = before_room c.make_room.new.archive pair machine kept none in
    by (c.in_default-make_room.ensures.room pair machine was.0 was.1)
  where
    by : MakesRoomNow c.make_room.new.archive pair machine (Ok tt) → Settles c.record-2.new.archive
        pair machine (kept_for c.args.item_record.now) c.in-Some-record.outcome
    by (has_made between less compacts up now) =
        settled_after c.record-2.new.archive pair machine (kept_for c.args.item_record.now)
        (c.in_default.ensures.records pair machine is) between less compacts up
        c.in-Some-record.outcome (c.in-Some-record.ensures.records pair between now)

pub returns-in-None-clause-settles : goal.returns-in-None-clause-settles
returns-in-None-clause-settles g c pair machine is =
    let kept = kept_for c.args.item_record.now in
    let none = c.in_default.ensures.records pair machine is in
    let was = before_room c.make_room.new.archive pair machine kept none in
    by (c.in_default-make_room.ensures.room pair machine was.0 was.1)
  where
    by : MakesRoomNow c.make_room.new.archive pair machine (Ok tt) → Settles c.record-2.new.archive
        pair machine (kept_for c.args.item_record.now) (Ends refusal.JournalFull)
    by (has_made between less compacts up now) =
        still_no_room c.record-2.new.archive pair machine (kept_for c.args.item_record.now)
        (c.in_default.ensures.records pair machine is) between less compacts up
        (c.in-None.ensures.records pair between now)

pub returns-in-Some-clause-memory : goal.returns-in-Some-clause-memory
returns-in-Some-clause-memory g c pair machine is memory =
    ready_for_memory c.record.new.archive pair machine (kept_for c.args.item_record.now)
    c.in-Some.outcome
    (c.in-Some.ensures.records pair machine is) memory

pub returns-in-Err-clause-memory : goal.returns-in-Err-clause-memory
returns-in-Err-clause-memory g c pair machine is memory =
    ready_without_room c.record.new.archive pair machine (kept_for c.args.item_record.now)
    (c.in_default.ensures.records pair machine is)

pub returns-in-Some-record-clause-memory : goal.returns-in-Some-record-clause-memory
returns-in-Some-record-clause-memory g c pair machine is memory =
    ready_without_room c.record.new.archive pair machine (kept_for c.args.item_record.now)
    (c.in_default.ensures.records pair machine is)

pub returns-in-None-clause-memory : goal.returns-in-None-clause-memory
returns-in-None-clause-memory g c pair machine is memory =
    ready_without_room c.record.new.archive pair machine (kept_for c.args.item_record.now)
    (c.in_default.ensures.records pair machine is)
