-- The end of the session over one file: its record has room, or needs a checkpoint first.
use Rattle.std.proofs.Common.{◌≡◌, ◌∷◌, nat_le, map, [], refl, ap, ap₂, arith, None, true, ℕ, ◌∙◌}
use Rattle.std.proofs.Common.{Option}
use Rattle.std.proofs.lemmas.List.Elements.{All-nil, All-cons}
use Rattle.syn_model.specs.Tree.{empty_directory, subtree}
use Rattle.syn_model.specs.Event.{Edited, Replaced}
use Rattle.syn_model.specs.History.{tree_of}
use Rattle.syn_model.specs.Mark.{mark}
use Rattle.syn_model.specs.Archive.{Archive, Kept, Recorded, new_archive, Session}
use Rattle.syn_model.specs.MarkSpelling.{kept_spelling}
use Rattle.syn_model.proofs.TreeLemmas.{subtree-replace}
use Rattle.syn_machine.specs.Machine.{Journaled, unarmed, compacted, with_image, record_size}
use Rattle.syn_machine.specs.Side.{Replace, Done, token_of}
use Rattle.syn_machine.specs.Network.{Right, Left, Which}
use Rattle.syn_machine.specs.Coordinator.{Walk, Exchange, Advances, checkpoints, making_room}
use Rattle.syn_machine.specs.Coordinator.{start_of, stays, done, archive_layout}
use Rattle.syn_runs.specs.Headline.{IsQuietSession, IsNoEdit, formatted}
use Rattle.syn_runs.specs.Runs.{stores_of}
use Rattle.syn_runs.specs.World.{World, Edits, Start, Deliver, Steps}
use Rattle.syn_witness.specs.Witness.{FileIsCarried, RoomIsMade, opened_with, a_path, put_one, one}
use Rattle.syn_witness.specs.Witness.{new_archive_room, carried_report, CarriesFile}
use Rattle.syn_witness.proofs.WitnessFiles.{no_marks, mark_size}
use Rattle.syn_witness.proofs.WitnessSteps.{meets_unarmed, took, keeps_so, recorded, ends_so}
use Rattle.syn_witness.proofs.WitnessSteps.{runs_on_from}
use Rattle.syn_witness.proofs.WitnessPlan.{right_done, acks, plan, planned, recorded_archive}
use Rattle.syn_witness.proofs.WitnessPlan.{right_replaces, made}
use Rattle.syn_witness.proofs.WitnessSession.{replaced, run_to_done}
use Rattle.syn_witness.proofs.WitnessAnswers.{left_one, can_record}
use Rattle.syn_witness.proofs.WitnessScans.{left_history}

abbrev what_is_due : Kept
what_is_due = Recorded a_path (mark one)

abbrev last_answer : Exchange
last_answer = took Right 3 (Replace 0 a_path 1 8) Done

-- the world once the archive's journal was left so
abbrev carried : Option Which → ℕ → Journaled Archive Kept → World
carried preference room journal = record (replaced preference room) {
  coordinator = record { journal = journal; running = None };
  acknowledged = acks;
  reports = (carried_report, 6) ∷ [];
}

-- the session found the file on the left, and nothing on the right
quiet : (preference : Option Which) (room : ℕ) (journal : Journaled Archive Kept) →
    journal.value ≡ recorded_archive →
    IsQuietSession formatted acks (carried preference room journal).reports carried_report
    (record { left = Edited 1 put_one ∷ []; right = []; archive = new_archive })
    (stores_of (carried preference room journal))
quiet preference room journal value = record {
  acks = 6;
  reported = (0, omega arith, refl);
  complete = refl;
  at_end = ap (λ archive. record {
    left = left_history;
    right = right_done.history;
    archive = archive;
  }) value;
  left_side = record { later = []; begun = refl; no_edit = All-nil IsNoEdit };
  right_side = record {
    later = Replaced (token_of 1 0) a_path 1 one ∷ [];
    begun = refl;
    no_edit = All-cons IsNoEdit (Replaced (token_of 1 0) a_path 1 one) [] tt (All-nil IsNoEdit);
  };
  started = 1;
  archive = refl;
  taken = refl;
}

right_one : subtree (tree_of right_done.history) a_path ≡ one
unfolding tree_of
right_one = subtree-replace empty_directory a_path one

-- the whole session, once its last answer is taken
carries : (preference : Option Which) (room : ℕ) (journal : Journaled Archive Kept) →
    nat_le (record_size (kept_spelling (Session 1))) room ≡ true →
    journal.value ≡ recorded_archive →
    Steps (replaced preference room) (Deliver 13) (carried preference room journal) →
    CarriesFile preference room journal.generation
carries preference room journal fits value ends = record {
  world = carried preference room journal;
  runs =
      runs_on_from (opened_with room) (replaced preference room) (carried preference room journal)
      (Edits Left 1 put_one ∷ Start preference ∷ map Deliver
      (0 ∷ 1 ∷ 2 ∷ 3 ∷ 4 ∷ 5 ∷ 6 ∷ 7 ∷ 8 ∷ 9 ∷ 10 ∷ 11 ∷ 12 ∷ [])) (Deliver 13 ∷ [])
      (run_to_done preference room fits) (carried preference room journal, ends, refl);
  sent = refl;
  acknowledged = refl;
  reported = refl;
  left = left_one;
  right = right_one;
  archive =
      ap (λ (archive : Archive). subtree archive.marks a_path) value
      ∙ subtree-replace empty_directory a_path (mark one);
  quiet = quiet preference room journal value;
  plans = record {
    made = made preference;
    logged = (0, omega arith, refl);
    of_session = refl;
    prefers = refl;
  };
  generation_then = refl;
}

abbrev walk : Option Which → ℕ → Walk
walk preference room =
    start_of (replaced preference room).coordinator (right_replaces preference)

-- The record has room

pub file_is_carried : FileIsCarried
file_is_carried preference =
    let room = new_archive_room in
    let later = recorded 7 (walk preference room) what_is_due in
    carries preference room later.journal refl refl
    (ends_so (replaced preference room) (right_replaces preference) Right 3 (Replace 0 a_path 1 8)
    Done plan [] later (what_is_due ∷ []) refl refl refl stays
    (keeps_so 7 plan last_answer (walk preference room) what_is_due planned refl
    (done a_path 1 8 refl refl refl) can_record refl refl refl
    (ap (λ size. nat_le size 4194252) mark_size)) refl refl)

-- It has none

abbrev compacted_journal : Journaled Archive Kept
compacted_journal = with_image (archive_layout 7) (walk None 50).journal unarmed

room_is : compacted_journal.room ≡ new_archive_room
room_is = rw no_marks refl

makes_room : (preference : Option Which) →
    Advances 7 plan last_answer (walk preference 50) (what_is_due ∷ [])
    (recorded 7 (making_room (walk preference 50) compacted_journal) what_is_due)
makes_room preference =
    let walk = walk preference 50 in
    let roomy = making_room walk compacted_journal in
    checkpoints walk (recorded 7 roomy what_is_due) (what_is_due ∷ []) what_is_due
    compacted_journal refl
    (record {
      to_keep = record {
        planned = planned;
        at = refl;
        due = done a_path 1 8 refl refl refl;
        can = can_record;
        up = refl;
      };
      no_room = ap (λ size. nat_le size 36) mark_size;
    })
    refl (compacted unarmed (meets_unarmed 6)) refl
    (keeps_so 7 plan last_answer roomy what_is_due planned refl (done a_path 1 8 refl refl refl)
    can_record refl refl refl (ap₂ nat_le mark_size room_is))

pub room_is_made : RoomIsMade
room_is_made preference =
    let later = recorded 7 (making_room (walk preference 50) compacted_journal) what_is_due in
    carries preference 50 later.journal refl refl
    (ends_so (replaced preference 50) (right_replaces preference) Right 3 (Replace 0 a_path 1 8)
    Done plan [] later (what_is_due ∷ []) refl refl refl stays (makes_room preference) refl refl)
