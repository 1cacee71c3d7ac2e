-- A hold that begins a session adds its event, where the session was not begun before.
use Rattle.std.proofs.Common.{◌≡◌, ◌≢◌, ◌∙◌, ℕ, Bool, true, false, [], ◌∷◌, ◌++◌, Option}
use Rattle.std.proofs.Common.{Some, None, ap, arith, inl, inr, length, refl, subst, sym, true≢false}
use Rattle.std.proofs.lemmas.Bool.{eqb-false, eqb-true}
use Rattle.std.proofs.lemmas.List.{append_cancel_left, length-append}
use Rattle.std.specs.Prelude.{◌==◌}
use Rattle.syn_agent.specs.Agents.{side_of}
use Rattle.syn_agent.specs.Answers.{Adds, Answers, adds, breaks, keeps, room_for}
use Rattle.syn_agent.specs.declared.agent.Agent.{Agent}
use Rattle.syn_disk.specs.declared.disk.Disk.{Ghosts}
use Rattle.syn_machine.specs.Side.{Request, Reply, Begun, Listed, NotDir, Piece, Staged, Done}
use Rattle.syn_machine.specs.Side.{Refused}
use Rattle.syn_model.specs.Event.{Event, Began}
use Rattle.syn_model.specs.History.{History}
use Rattle.syn_model.specs.Refusal.{Device}
use Rattle.syn_replica.specs.Replica.{Stands, pair_of}
use Rattle.syn_replica.specs.declared.replica.Replica.{Replica}
use Rattle.syn_serve.proofs.BeginLemmas.{IsAgain, only_begins}
use Rattle.syn_serve.specs.Begins.{BeginsOnce, IsBegunElsewhere}

-- no history is one with an event more
no_more : (history : History) (event : Event) → history ≡ history ++ event ∷ [] → ⊥
no_more history event is =
    omega (arith, ap length is, length-append history (event ∷ []))

head_same : (a b : Event) → ◌≡◌ {A = History} (a ∷ []) (b ∷ []) → a ≡ b
head_same a b is = cc

same_last : (history : History) (a b : Event) → history ++ a ∷ [] ≡ history ++ b ∷ [] → a ≡ b
same_last history a b is = head_same a b (append_cancel_left history (a ∷ []) (b ∷ []) is)

no_device : (position : ℕ) → Refused Device ≡ Begun position → ⊥
no_device position is = cc

module _ {D : Type 0} {disk : Ghosts D} (old new : Replica D disk) (agent after : Agent)
    (session : ℕ) (request : Request) where
  -- the hold adds the event of the session
  adds_it : (history : History) (reply : Reply) (position : ℕ)
      → Answers old new agent after history session request reply → reply ≡ Begun position
      → (IsAgain (pair_of old) (side_of history agent) session request → ⊥)
      → Adds old new history (Began session)
  adds_it history _ position (keeps served serves side same still) is never =
      absurd (elim (only_begins (pair_of old) (room_for old) (side_of history agent) session request
      served position serves is) [
        | inl again ↦ never again
        | inr added ↦ no_more history (Began session) (ap (λ s. s.history) (sym side ∙ added))
      ])
  adds_it history _ position (adds served event serves side staged adding) is never =
      elim (only_begins (pair_of old) (room_for old) (side_of history agent) session request served
      position serves is) as (λ _. Adds old new history (Began session)) [
        | inl again ↦ absurd (never again)
        | inr added ↦ subst (λ e. Adds old new history e)
            (same_last history event (Began session) (ap (λ s. s.history) (sym side ∙ added)))
            adding
      ]
  adds_it history _ position (breaks served event serves side staged off) is never =
      absurd (no_device position is)

  -- a session that the replica has begun last, and over this connection another one
  elsewhere : (begun : Option ℕ) (history : History) → Stands old history → begun ≢ Some session
      → IsAgain (pair_of old) (side_of history agent) session request
      → IsBegunElsewhere begun session request old
  elsewhere begun history stands other again = record {
    pair = again.pair;
    asks = again.asks;
    has = record {
      runs = λ halted. true≢false (sym halted ∙ stands.runs.running);
      own = again.is_own;
      last = again.last ∙ sym (ap (λ s. s.session) stands.remembers.standing);
    };
    other = other;
  }

  pub begins_once : (begun : Option ℕ) (reply : Reply)
      → ((history : History) → Stands old history
      → Answers old new agent after history session request reply)
      → (IsBegunElsewhere begun session request old → ⊥) → BeginsOnce begun session reply old new
  begins_once begun (Begun position) answers not = by begun refl
    where
      fresh : begun ≢ Some session → BeginsOnce begun session (Begun position) old new
      fresh other = inr (λ history stands. adds_it history (Begun position) position
          (answers history stands) refl
          (λ again. not (elsewhere begun history stands other again)))

      none_other : begun ≡ None → begun ≢ Some session
      none_other is same = let k : None ≡ Some session = sym is ∙ same in cc

      some_other : (last : ℕ) → begun ≡ Some last → (last == session) ≡ false
          → begun ≢ Some session
      some_other last is differs same =
          eqb-false last session differs (let k : Some last ≡ Some session = sym is ∙ same in cc)

      told : (last : ℕ) → begun ≡ Some last → (b : Bool) → (last == session) ≡ b
          → BeginsOnce begun session (Begun position) old new
      told last is true same = inl (is ∙ ap (λ n. Some n) (eqb-true last session same))
      told last is false differs = fresh (some_other last is differs)

      by : (b : Option ℕ) → begun ≡ b → BeginsOnce begun session (Begun position) old new
      by None is = fresh (none_other is)
      by (Some last) is = told last is (last == session) refl
  begins_once begun (Listed position entries) answers not = tt
  begins_once begun (NotDir position) answers not = tt
  begins_once begun (Piece total bytes) answers not = tt
  begins_once begun Staged answers not = tt
  begins_once begun Done answers not = tt
  begins_once begun (Refused why) answers not = tt
