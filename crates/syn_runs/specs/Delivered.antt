-- What becomes of two kinds of message as a run delivers them.
use Rattle.std.specs.Prelude.{ℕ, ◌≡◌, Bool, true, false, [], ◌∷◌, ◌++◌, slice_get, Option, Some}
use Rattle.std.specs.Prelude.{None, IfSome, List}
use Rattle.syn_model.specs.Path.{Path}
use Rattle.syn_model.specs.Tree.{Tree}
use Rattle.syn_model.specs.Event.{Replaced}
use Rattle.syn_model.specs.History.{History}
use Rattle.syn_model.specs.Refusal as why
use Rattle.syn_machine.specs.Machine.{Status, Up, Halted, Down}
use Rattle.syn_machine.specs.Side.{Request, Replace, Reply, Done, Refused, is_last_token, token_of}
use Rattle.syn_machine.specs.SideMachine.{side_now}
use Rattle.syn_machine.specs.Network.{Which, Asks, Answers}
use Rattle.syn_machine.specs.Coordinator.{Running, asked_of}
use Rattle.syn_runs.specs.World.{World, Step, Deliver, Steps, Runs, side_of, says, side_goes}
use Rattle.syn_runs.specs.Runs.{IsStart}

-- An answer that a session of a run waits for is taken: then its request waits no more, or the
-- session is over
abbrev pub TakesExpected : Type 0
TakesExpected = (start old new : World) (steps : List Step) (message : ℕ) (from : Which)
    (number : ℕ) (reply : Reply) (running : Running) (request : Request) → IsStart start →
    Runs start steps old → old.coordinator.running ≡ Some running →
    asked_of running from number ≡ Some request →
    slice_get old.sent message ≡ Some (Answers from running.session number reply) →
    Steps old (Deliver message) new →
    IfSome new.coordinator.running (λ later. (later.session ≡ running.session)
    × (asked_of later from number ≡ None))

-- what a side says to a replacement that its history has, by whether no later one has another
-- token: it is done, or old; a halted side refuses it, and one that is down says nothing
abbrev pub repeat_reply : Status → Bool → Option Reply
repeat_reply Up true = Some Done
repeat_reply Up false = Some (Refused why.OldSession)
repeat_reply Halted is_last = Some (Refused why.Halted)
repeat_reply Down is_last = None

-- A replacement that a side's history has may be asked for again, at any moment of a run. The side
-- says just that to it, even where memory is refused, and stays as it is
abbrev pub RepeatsAreAnswered : Type 0
RepeatsAreAnswered = (start old new : World) (steps : List Step) (message : ℕ) (to : Which)
    (session number item : ℕ) (path : Path) (since size : ℕ) (earlier later : History) (at : Path)
    (from : ℕ) (part : Tree) → IsStart start → Runs start steps old →
    slice_get old.sent message ≡ Some (Asks to session number (Replace item path since size)) →
    let side = side_of old to in
    side.journal.value ≡ earlier ++ Replaced (token_of session item) at from part ∷ later →
    Steps old (Deliver message) new →
    new ≡ side_goes old to side (says to session number (repeat_reply side.journal.status
    (is_last_token (side_now side) (token_of session item)))) []
