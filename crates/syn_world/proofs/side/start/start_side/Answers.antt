use Rattle.std.proofs.Common.{◌∙◌, inl, inr, sym}
use Rattle.syn_replica.specs.Replica.{standing_shown}
use Rattle.syn_world.proofs.StartLemmas.{as_wanted, side_starts, stands_for}
use Rattle.syn_journal.proofs.Spent.{read_all, read_broke}
use Rattle.syn_replica.specs.ErrorRefusals.{refusal_of}
use Rattle.syn_world.proofs.side.start.start_side.Goals as goal

pub returns-in-Ok-clause-starts : goal.returns-in-Ok-clause-starts
returns-in-Ok-clause-starts g c number history fits can =
    side_starts g.D.Disk number c.args.disk history fits can c.in-Ok.replica c.new-agent.result
    c.in-Ok.ensures.device.untouched c.in-Ok.ensures.each c.opening_laws.ensures
    c.in-Ok.ensures.device.arms c.new-agent.ensures (c.machine_laws.ensures number)

pub returns-in-Ok-clause-holds : goal.returns-in-Ok-clause-holds
returns-in-Ok-clause-holds g c = record {
  standing = standing_shown c.in-Ok.replica;
  gives = c.in-Ok.ensures.given;
}

pub returns-in-Err-clause-cause : goal.returns-in-Err-clause-cause
returns-in-Err-clause-cause g c = record {
  error = c.in-Err.error;
  is = c.refusal.ensures;
  cause = c.in-Err.ensures.refusals;
}

pub returns-in-Err-clause-failures : goal.returns-in-Err-clause-failures
returns-in-Err-clause-failures g c = record {
  grew = λ device. (read_broke (refusal_of c.in-Err.error) c.args.disk _
      (sym c.refusal.ensures ∙ device) c.in-Err.ensures.device).0;
  same = λ other. (read_all (refusal_of c.in-Err.error) c.args.disk _
      (λ device. other (c.refusal.ensures ∙ device)) c.in-Err.ensures.device).0;
}

pub returns-in-Err-clause-refused : goal.returns-in-Err-clause-refused
returns-in-Err-clause-refused g c number history fits wanted can =
    let bytes = g.D.Disk.seen c.args.disk in
    elim (c.disk_laws.ensures number bytes history c.in-Err.error fits
    (stands_for g.D.Disk number c.args.disk history fits can)
    (as_wanted c.in-Err.error c.args.pair number bytes wanted c.in-Err.ensures.refusals)) [
      | inl device ↦ inl (c.refusal.ensures ∙ device)
      | inr memory ↦ inr (c.refusal.ensures ∙ memory)
    ]
