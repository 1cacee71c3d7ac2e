use Rattle.syn_witness.proofs.FailureLemmas.{halted_after_failure}
use Rattle.syn_witness.proofs.StopLemmas.{stay_without_stop, armed_calls_come, stops_as_armed}
use Rattle.syn_witness.proofs.ForbiddenLemmas.{starts_fresh, begins_once, faults_alone}
use Rattle.syn_witness.proofs.ForbiddenLemmas.{unstable_is_incomplete, failure_ends}
use Rattle.syn_witness.proofs.TurnLemmas.{lists_after_begun, refused_is_passed, kept_is_due}
use Rattle.syn_witness.proofs.RoomLemmas.{records_after_room, checkpoints_are_needed}
use Rattle.syn_witness.proofs.RoomLemmas.{checkpoints_are_for_records, full_after_checkpoint}
use Rattle.syn_witness.proofs.DeviceLemmas.{refused_after_failure, ends_after_failure}
use Rattle.syn_witness.proofs.forbidden.Goals as goal

pub returns-clause-up : goal.returns-clause-up
returns-clause-up c = stay_without_stop

pub returns-clause-armed : goal.returns-clause-armed
returns-clause-armed c = armed_calls_come

pub returns-clause-fresh : goal.returns-clause-fresh
returns-clause-fresh c = starts_fresh

pub returns-clause-begins : goal.returns-clause-begins
returns-clause-begins c = begins_once

pub returns-clause-faults : goal.returns-clause-faults
returns-clause-faults c = faults_alone

pub returns-clause-unstable : goal.returns-clause-unstable
returns-clause-unstable c = unstable_is_incomplete

pub returns-clause-fails : goal.returns-clause-fails
returns-clause-fails c = failure_ends

pub returns-clause-halted : goal.returns-clause-halted
returns-clause-halted c = halted_after_failure

pub returns-clause-room : goal.returns-clause-room
returns-clause-room c = records_after_room

pub returns-clause-checkpoints : goal.returns-clause-checkpoints
returns-clause-checkpoints c = checkpoints_are_for_records

pub returns-clause-full : goal.returns-clause-full
returns-clause-full c = full_after_checkpoint

pub returns-clause-lists : goal.returns-clause-lists
returns-clause-lists c = lists_after_begun

pub returns-clause-refuses : goal.returns-clause-refuses
returns-clause-refuses c = refused_is_passed

pub returns-clause-keeps : goal.returns-clause-keeps
returns-clause-keeps c = kept_is_due

pub returns-clause-needed : goal.returns-clause-needed
returns-clause-needed c = checkpoints_are_needed

pub returns-clause-stops : goal.returns-clause-stops
returns-clause-stops c = stops_as_armed

pub returns-clause-refused : goal.returns-clause-refused
returns-clause-refused c = refused_after_failure

pub returns-clause-ended : goal.returns-clause-ended
returns-clause-ended c = ends_after_failure
