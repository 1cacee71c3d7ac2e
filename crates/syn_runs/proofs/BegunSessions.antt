-- What a run keeps of the sessions that were begun, as the world's machines have it.
use Rattle.std.proofs.Common.{◌≡◌, ◌≤◌, ℕ, List, refl, subst, Some}
use Rattle.std.specs.Prelude.{Contains}
use Rattle.syn_model.specs.Path.{Bytes}
use Rattle.syn_model.specs.History.{last_session}
use Rattle.syn_machine.specs.Side.{Request, Stage, IsLawfulRequest}
use Rattle.syn_machine.specs.Network.{Which, Left, Right, Asks}
use Rattle.syn_machine.specs.Coordinator.{Running}
use Rattle.syn_runs.specs.World.{World, Step, Runs, side_of}
use Rattle.syn_runs.specs.Runs.{IsStart, picture_of, session_picture}
use Rattle.syn_runs.specs.Picture.{RunsOver}
use Rattle.syn_runs.proofs.FineRuns.{follows, start_view}
use Rattle.syn_runs.proofs.Invariant.{IsKept, Plans, histories_of, plan_in}
use Rattle.syn_runs.proofs.GrownLemmas.{made}
use Rattle.syn_runs.proofs.PlanLemmas.{fenced}
use Rattle.syn_runs.proofs.WholeRuns.{no_plans, start_kept, run_kept}
use Rattle.std.proofs.Common.{option_map}

abbrev pub last_on : World → Which → ℕ
last_on world side = last_session (side_of world side).journal.value

-- No side begins a session that the coordinator did not start, and that is the one that runs. What
-- is asked is lawful, and what is staged is for a session that the side has begun
pub record BeginsInOrder (world : World) : Type 0 where
  pub begun : (side : Which) →
      last_on world side ≤ world.coordinator.journal.value.last_session
  pub running : (running : Running) → world.coordinator.running ≡ Some running →
      running.session ≡ world.coordinator.journal.value.last_session
  pub lawful : (side : Which) (session number : ℕ) (request : Request) →
      Contains world.sent (Asks side session number request) → IsLawfulRequest session request
  pub staged : (side : Which) (session number item offset : ℕ) (bytes : Bytes) →
      Contains world.sent (Asks side session number (Stage item offset bytes)) →
      session ≤ last_on world side

value_on : (world : World) (side : Which) →
    last_session (histories_of (picture_of world) side) ≡ last_on world side
value_on world Left = refl
value_on world Right = refl

pub begin_in_order : (first world : World) (steps : List Step) → IsStart first →
    Runs first steps world → BeginsInOrder world
begin_in_order first world steps s g = record {
  begun = λ side. subst (λ n. n ≤ world.coordinator.journal.value.last_session)
      (value_on world side) (kept.1.sound.begun side);
  running = λ running runs. (subst (λ o. RunsOver world.sent world.coordinator.journal.value
      (option_map session_picture o)) runs kept.1.coordinator.runs_over).0;
  lawful = λ side session number request asked.
      (kept.1.sound.asked side session number request asked).lawful;
  staged = λ side session number item offset bytes asked.
      let was = kept.1.sound.asked side session number (Stage item offset bytes) asked in
      let histories = histories_of (picture_of world) in
      let archive = world.coordinator.journal.value in
      let is = made kept.0 histories archive world.sent kept.1.sound session item was.by_plan.0
      was.by_plan.1 in
      subst (λ n. session ≤ n) (value_on world side)
      (fenced kept.0 histories archive world.sent kept.1.sound session is.0 is.1
      (plan_in kept.0 session) is.2 side);
}
  where
    kept : (plans : Plans) × IsKept plans (picture_of world)
    kept = run_kept no_plans (picture_of first) (picture_of world) (start_kept (picture_of first)
        (start_view first s)) (follows first world steps s g).follows
