-- Over which connection a session was begun.
use Rattle.std.specs.Prelude.{◌≡◌, ◌≢◌, ◌⊎◌, ℕ, Option, Some}
use Rattle.syn_agent.specs.Answers.{Adds}
use Rattle.syn_disk.specs.declared.disk.Disk.{Ghosts}
use Rattle.syn_machine.specs.Side.{Request, Begin, Reply, Begun}
use Rattle.syn_model.specs.Event.{Began}
use Rattle.syn_model.specs.History.{History}
use Rattle.syn_replica.specs.Replica.{IsHalted, Stands, pair_of, standing_shown}
use Rattle.syn_replica.specs.declared.replica.Replica.{Replica}
use Rattle.syn_serve.specs.Messages.{Answers, Response, Tells}

-- the replica runs, and the session was begun on it last: its Begin is answered, and adds nothing
pub record HasBegun {D : Type 0} {disk : Ghosts D} (replica : Replica D disk) (session pair : ℕ)
    : Type 0 where
  pub runs : ¬ IsHalted replica
  pub own : pair ≡ pair_of replica
  pub last : session ≡ (standing_shown replica).session

-- the Begin of such a session comes, and it is not the one that was begun last over this connection
pub record IsBegunElsewhere {D : Type 0} {disk : Ghosts D} (begun : Option ℕ) (session : ℕ)
    (request : Request) (replica : Replica D disk) : Type 0 where
  pub pair : ℕ
  pub asks : request ≡ Begin pair
  pub has : HasBegun replica session pair
  pub other : begun ≢ Some session

-- where a session is begun, it was begun over this connection before, or its event is added now
abbrev pub BeginsOnce : {D : Type 0} → {disk : Ghosts D} → Option ℕ → ℕ → Reply → Replica D disk
    → Replica D disk → Type 0
BeginsOnce begun session (Begun position) found left = (begun ≡ Some session)
    ⊎ ((history : History) → Stands found history → Adds found left history (Began session))
BeginsOnce begun session _ found left = Unit {0}

-- the session that was begun over a connection last, after a response
abbrev pub begun_by : Option ℕ → ℕ → Reply → Option ℕ
begun_by begun session (Begun position) = Some session
begun_by begun session _ = begun

abbrev pub begun_after : Option ℕ → Response → Option ℕ
begun_after begun (Answers answered) = begun_by begun answered.session answered.reply
begun_after begun (Tells answered) = begun
