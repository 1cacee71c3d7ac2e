-- Exchanges, one after another.
use Rattle.std.proofs.Common.{◌≡◌, ◌∙◌, ◌<◌, Err, Option, Some, ap, arith, inl, length, refl}
use Rattle.std.proofs.Common.{subst, sym}
use Rattle.syn_agent.specs.declared.agent.Agent.{Agent}
use Rattle.syn_disk.specs.declared.disk.Disk.{Ghosts}
use Rattle.syn_link.specs.Frames.{AppendsSome, Bytes, IsBody, frame_of}
use Rattle.syn_link.specs.Streams.{Comes, ComesAtFault}
use Rattle.syn_link.specs.declared.error.LinkError.{LinkError}
use Rattle.syn_link.specs.declared.error.LinkError.TheVariants as link
use Rattle.syn_lock.specs.declared.own.Pass.{Pass}
use Rattle.syn_replica.specs.declared.replica.Replica.{Replica}
use Rattle.syn_serve.specs.Begins.{begun_after}
use Rattle.syn_serve.specs.Exchanges.{Exchanges, IsAnswered, declines, moment}
use Rattle.syn_serve.specs.Holds.{DeclinesMessage, Responds}
use Rattle.syn_serve.specs.States.{BreaksOff, ClosesFor, IsSilent, ConnectionState}
use Rattle.syn_serve.specs.Messages.{Message, Response, message_spelling}
use Rattle.syn_serve.specs.declared.error.ServeError.TheVariants.{BegunElsewhere}
use Rattle.syn_serve.specs.inner.Parts.{ReceivesMessage, of_link}
use Rattle.syn_shared.specs.declared.shared.SharedReplica.{SharedReplica}

-- a frame that is refused broke off in its writing
pub breaks_off : (error : LinkError) (old new : Option Bytes) (body : Bytes) → IsBody body
    → (error ≡ link.BadFrame → length body ≡ 0) → (error ≡ link.TooLarge → 65536 < length body)
    → ¬ (error ≡ link.Memory) → AppendsSome old new (frame_of body)
    → BreaksOff (of_link error) old new body
breaks_off link.BadFrame old new body is bad large memory some =
    let none = bad refl in absurd (omega (arith, none, is.0))
breaks_off link.TooLarge old new body is bad large memory some =
    let more = large refl in absurd (omega (arith, more, is.1))
breaks_off link.Device old new body is bad large memory some = some
breaks_off link.Memory old new body is bad large memory some = absurd (memory refl)

-- a frame's fault closes a connection
pub closes_for : (error : LinkError) (old new : ConnectionState)
    → ComesAtFault old.given new.given old.held new.held error → ClosesFor (of_link error) old new
closes_for link.BadFrame old new fault = fault
closes_for link.TooLarge old new fault = fault
closes_for link.Device old new fault = fault
closes_for link.Memory old new fault = inl fault

module _ {D : Type 0} {disk : Ghosts D} (shared : SharedReplica D disk) where
  -- what came was answered by a hold, and then at most the reply was written
  pub answered_so : (old came new : ConnectionState) (after : Agent)
      (first last : Pass (Replica D disk))
      (message : Message) (response : Response) → ReceivesMessage old came message
      → IsSilent old came → Responds shared first last came.begun came.agent after message response
      → new.given ≡ came.given → new.held ≡ came.held → new.agent ≡ after
      → new.begun ≡ begun_after came.begun response
      → IsAnswered shared (moment old first) (moment new last) message response
  answered_so old came new after first last message response receives silent responds given held
      agent begun = record {
        lawful = receives.lawful;
        came = subst (λ g. Comes old.given g old.held new.held (Some (message_spelling message)))
            (sym given)
            (subst (λ h. Comes old.given came.given old.held h (Some (message_spelling message)))
            (sym held) receives.came);
        held = subst (λ x. Responds shared first last old.begun old.agent x message response)
            (sym agent)
            (subst (λ x. Responds shared first last old.begun x after message response) silent.0
            (subst (λ b. Responds shared first last b came.agent after message response) silent.2
            responds));
        begun = begun ∙ ap (λ b. begun_after b response) silent.2;
      }

  -- what came was declined by a hold, which left the agent as it was
  pub declined_so : (old came : ConnectionState) (after : Agent)
      (first last : Pass (Replica D disk)) (message : Message) → ReceivesMessage old came message
      → IsSilent old came → DeclinesMessage shared first last came.begun message
      → after ≡ came.agent
      → Exchanges shared (moment old first) (moment (record came { agent = after }) last)
      (Err BegunElsewhere)
  declined_so old came after first last message receives silent declined same =
      declines message (record {
        lawful = receives.lawful;
        came = receives.came;
        held = subst (λ b. DeclinesMessage shared first last b message) silent.2 declined;
      })
      (same ∙ silent.0, silent.1, silent.2)
