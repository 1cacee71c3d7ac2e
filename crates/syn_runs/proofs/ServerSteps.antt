-- What a server does by itself its side does as a machine of the world.
use Rattle.std.proofs.Common.{◌≤◌, ℕ, zero, suc, List, [], ◌∷◌, ◌++◌, refl}
use Rattle.std.proofs.Common.{Option, arith, inr}
use Rattle.syn_model.proofs.HistoryLemmas.{first_cause-none, none-append}
use Rattle.syn_model.specs.Refusal.{Refusal}
use Rattle.syn_model.specs.Refusal as why
use Rattle.syn_model.specs.Event.{Event}
use Rattle.syn_model.specs.History.{IsAllowed, event_causes, last_session}
use Rattle.syn_machine.specs.Machine.{Writes, idle, written, unwritten, Compacts}
use Rattle.syn_machine.specs.Machine.{compacted, not_compacted, Opens, opened, recovered}
use Rattle.syn_machine.specs.MachineSteps.{MachineCall, Checkpoint, Fail, Stop, Open, Reopen, Does}
use Rattle.syn_machine.specs.MachineSteps.{is_down, is_done, refuses, makes, checkpoints, is_open}
use Rattle.syn_machine.specs.MachineSteps.{opens, open_fails, no_memory_to_open, reopens}
use Rattle.syn_machine.specs.MachineSteps.{reopen_fails, reopen_is_cut, no_memory_to_reopen, arming}
use Rattle.syn_machine.specs.MachineSteps.{is_halted}
use Rattle.syn_machine.specs.Side.{Staging, room_causes}
use Rattle.syn_machine.specs.SideMachine.{causes_of, has_room_for}
use Rattle.syn_machine.specs.SideMachine.{SideMachine, UserEdits, side_kind, side_layout, edits}
use Rattle.syn_machine.specs.SideMachine as alone
use Rattle.syn_machine.specs.Server.{Server, ServerEdits, server_kind, with_journal}
use Rattle.syn_machine.specs.Server as served
use Rattle.syn_runs.proofs.GrownLemmas.{session_grows}
use Rattle.syn_runs.proofs.SameSteps.{Journal, machine_with}

opens_grows : (pair : ℕ) (journal : Journal) (calls : ℕ) (new : Journal) (events : List Event) →
    Opens (side_layout pair) IsAllowed journal calls new events →
    last_session journal.value ≤ last_session new.value
opens_grows pair journal calls _ _ (opened room generation arms meets left) = omega arith
opens_grows pair journal calls _ _ (recovered arms event meets was allowed) =
    session_grows journal.value (journal.value ++ event ∷ []) (inr (event, allowed, refl))

compacts_grows : (pair : ℕ) (journal new : Journal) → Compacts (side_layout pair) journal new →
    last_session journal.value ≤ last_session new.value
compacts_grows pair journal _ (compacted arms meets) = omega arith
compacts_grows pair journal _ (not_compacted status arms failed left meets) = omega arith

writes_grows : (pair : ℕ) (journal new : Journal) (event : Event) (events : List Event) →
    IsAllowed journal.value event → Writes (side_layout pair) journal event new events →
    last_session journal.value ≤ last_session new.value
writes_grows pair journal _ event _ allowed (idle is) =
    session_grows journal.value (journal.value ++ event ∷ []) (inr (event, allowed, refl))
writes_grows pair journal _ event _ allowed (written arms is meets) =
    session_grows journal.value (journal.value ++ event ∷ []) (inr (event, allowed, refl))
writes_grows pair journal _ event _ allowed (unwritten status arms failed is left meets) =
    omega arith

-- the side of the world goes on with the same journal
module _ (pair : ℕ) (server : Server) (staging : Option Staging) where
  abbrev machine : SideMachine
  machine = machine_with server.journal staging

  -- it stays, or is left with a journal
  pub data Leaves : Server → SideMachine → Type 0 where
    stays : Leaves server machine
    leaves : (journal : Journal) → last_session server.journal.value ≤ last_session journal.value →
        Leaves (with_journal server journal) (alone.with_journal machine journal)

  pub record DoesSo (call : MachineCall) (new : Server) (events : List Event)
      (refusals : List Refusal) : Type 0 where
    pub side : SideMachine
    pub does : Does (side_kind pair) machine call side events refusals
    pub left : Leaves new side

  same : last_session server.journal.value ≤ last_session server.journal.value
  same = omega arith

  pub does_so : (call : MachineCall) (new : Server) (events : List Event)
      (refusals : List Refusal) → Does (server_kind pair) server call new events refusals →
      DoesSo call new events refusals
  does_so Checkpoint _ _ _ (is_down down) =
      record { side = machine; does = is_down down; left = stays }
  does_so Checkpoint _ _ _ (is_done _ _ _ up (refuses reason some)) = record {
    side = machine;
    does = is_done machine [] (reason ∷ []) up (refuses reason some);
    left = stays;
  }
  does_so Checkpoint _ _ _ (is_done _ _ _ up (makes _ _ none (checkpoints journal compacts))) =
      record {
        side = alone.with_journal machine journal;
        does = is_done _ _ _ up (makes _ _ none (checkpoints journal compacts));
        left = leaves journal (compacts_grows pair server.journal journal compacts);
      }
  does_so (Fail number) _ _ _ (is_down down) =
      record { side = machine; does = is_down down; left = stays }
  does_so (Fail number) _ _ _ (is_done _ _ _ up arming) =
      record { side = _; does = is_done _ _ _ up arming; left = leaves _ same }
  does_so (Stop zero) _ _ _ (is_down down) =
      record { side = machine; does = is_down down; left = stays }
  does_so (Stop zero) _ _ _ (is_done _ _ _ up arming) =
      record { side = _; does = is_done _ _ _ up arming; left = leaves _ same }
  does_so (Stop (suc calls)) _ _ _ (is_down down) =
      record { side = machine; does = is_down down; left = stays }
  does_so (Stop (suc calls)) _ _ _ (is_done _ _ _ up arming) =
      record { side = _; does = is_done _ _ _ up arming; left = leaves _ same }
  does_so Open _ _ _ (is_open up) =
      record { side = machine; does = is_open up; left = stays }
  does_so Open _ _ _ (opens calls journal kept down gives) = record {
    side = alone.with_journal machine journal;
    does = opens calls journal kept down gives;
    left = leaves journal (opens_grows pair server.journal calls journal kept gives);
  }
  does_so Open _ _ _ (open_fails calls arms failed down meets) =
      record { side = _; does = open_fails calls arms failed down meets; left = leaves _ same }
  does_so Open _ _ _ (no_memory_to_open down) =
      record { side = machine; does = no_memory_to_open down; left = stays }
  does_so Reopen _ _ _ (is_down down) =
      record { side = machine; does = is_down down; left = stays }
  does_so Reopen _ _ _ (is_done _ _ _ up (reopens calls journal kept some gives)) = record {
    side = alone.with_journal machine journal;
    does = is_done _ _ _ up (reopens calls journal kept some gives);
    left = leaves journal (opens_grows pair server.journal calls journal kept gives);
  }
  does_so Reopen _ _ _ (is_done _ _ _ up (reopen_fails calls arms failed meets)) = record {
    side = _;
    does = is_done _ _ _ up (reopen_fails calls arms failed meets);
    left = leaves _ same;
  }
  does_so Reopen _ _ _ (is_done _ _ _ up (reopen_is_cut calls arms failed meets)) = record {
    side = _;
    does = is_done _ _ _ up (reopen_is_cut calls arms failed meets);
    left = leaves _ same;
  }
  does_so Reopen _ _ _ (is_done _ _ _ up (no_memory_to_reopen calls arms failed meets)) = record {
    side = _;
    does = is_done _ _ _ up (no_memory_to_reopen calls arms failed meets);
    left = leaves _ same;
  }

  pub record EditsSo (event : Event) (new : Server) (events : List Event)
      (refusals : List Refusal) : Type 0 where
    pub side : SideMachine
    pub edits : UserEdits pair machine event side events refusals
    pub left : Leaves new side

  pub edits_so : (event : Event) (new : Server) (events : List Event) (refusals : List Refusal) →
      ServerEdits pair server event new events refusals → EditsSo event new events refusals
  edits_so event _ _ _ (is_down down) =
      record { side = machine; edits = is_down down; left = stays }
  edits_so event _ _ _ (is_done _ _ _ up (refuses reason some)) = record {
    side = machine;
    edits = is_done machine [] (reason ∷ []) up (refuses reason some);
    left = stays;
  }
  edits_so event _ _ _
      (is_done _ _ _ up (makes _ _ none (served.edits journal events lawful writes))) =
      let first = first_cause-none (is_halted server.journal.status, why.Halted)
      (causes_of pair machine event) none in
      record {
        side = alone.with_journal machine journal;
        edits = is_done _ _ _ up (makes _ _ none (alone.edits journal events lawful writes));
        left = leaves journal (writes_grows pair server.journal journal event events (record {
          lawful = lawful;
          not_refused = (none-append (event_causes server.journal.value event)
              (room_causes (has_room_for pair machine) event) first.1).0;
        }) writes);
      }
