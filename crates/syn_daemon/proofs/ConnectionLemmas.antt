-- What a worker's serving says of the connection that it was given.
use Rattle.std.proofs.Common.{◌≡◌, ◌∙◌, [], ap, subst, sym}
use Rattle.std.specs.Prelude.{IsSomeAnd, MatchOption, Option, Some, None, Result, Ok, Err}
use Rattle.syn_agent.specs.Agents.{staging_of}
use Rattle.syn_daemon.specs.inner.Connections.{WasServedWhole}
use Rattle.syn_disk.specs.declared.disk.Disk.{Ghosts}
use Rattle.syn_link.specs.Frames.{Bytes}
use Rattle.syn_lock.specs.declared.error.LockError.{LockError}
use Rattle.syn_lock.specs.declared.error.LockError.TheVariants.{Busy, Memory, NoSeat}
use Rattle.syn_serve.specs.States.{ConnectionState}
use Rattle.syn_serve.specs.Servings.{WasServed}
use Rattle.syn_serve.specs.declared.error.ServeError.{ServeError}
use Rattle.syn_shared.specs.Workers.{IsDone, IsNotDone}

-- of the state that the connection was at first
pub record IsFirst (given written : Option Bytes) (state : ConnectionState) : Type 0 where
  pub given_first : state.given ≡ given
  pub held_first : state.held ≡ []
  pub staged_first : staging_of state.agent ≡ None
  pub written_first : state.written ≡ written

module _ (D : Type 0) (disk : Ghosts D) (given written : Option Bytes) where
  whole : (first last : ConnectionState) (answer : Option (Result Unit ServeError))
      → IsFirst given written first → WasServed D disk first last answer
      → IsSomeAnd answer (WasServedWhole D disk given written)
  whole first last answer fresh served =
      let P : Option (Result Unit ServeError) → Type 0 =
      λ a. IsSomeAnd a (WasServedWhole D disk given written) in
      let Q : Option (Result Unit ServeError) → Type 0 = λ a. WasServed D disk first last a in
      subst P (sym served.ended_so) (record {
        first = first;
        last = last;
        given_first = fresh.given_first;
        held_first = fresh.held_first;
        staged_first = fresh.staged_first;
        written_first = fresh.written_first;
        served = subst Q served.ended_so served;
      })

  module _ {W : Type 0} (state : W → ConnectionState) (ended : W → Option (Result Unit ServeError))
      (old new : W) where
    abbrev pub Serves : W → W → Type 0
    Serves a b = WasServed D disk (state a) (state b) (ended b)

    done : (r : Result Unit LockError) → IsFirst given written (state old)
        → IsDone Serves old new r → IsSomeAnd (ended new) (WasServedWhole D disk given written)
    done (Ok x) fresh served = whole (state old) (state new) (ended new) fresh served
    done (Err Memory) fresh served = whole (state old) (state new) (ended new) fresh served
    done (Err NoSeat) fresh served = absurd served
    done (Err Busy) fresh served = absurd served

    not_done : (r : Result Unit LockError) → ended old ≡ None → IsNotDone old new r
        → ended new ≡ None
    not_done (Ok x) none same = absurd same
    not_done (Err Memory) none same = absurd same
    not_done (Err NoSeat) none same = ap ended same ∙ none
    not_done (Err Busy) none same = absurd same

    pub served_whole : {P : Type 0} (drawn : Option P) (r : Result Unit LockError)
        (answer : Option (Result Unit ServeError)) → answer ≡ ended new → ended old ≡ None
        → IsFirst given written (state old)
        → MatchOption drawn (IsNotDone old new r) (λ p. IsDone Serves old new r)
        → MatchOption drawn (answer ≡ None)
        (λ p. IsSomeAnd answer (WasServedWhole D disk given written))
    served_whole None r answer is none fresh went = is ∙ not_done r none went
    served_whole (Some p) r answer is none fresh went =
        let P : Option (Result Unit ServeError) → Type 0 =
        λ a. IsSomeAnd a (WasServedWhole D disk given written) in
        subst P (sym is) (done r fresh went)
