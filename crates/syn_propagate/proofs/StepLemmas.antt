-- What a step answers, by what it waited for.
use Rattle.std.proofs.Common.{◌≡◌, ◌⊎◌, ◌∙◌, ℕ, Option, Some, None, Result, Ok, Err, ap}
use Rattle.std.proofs.Common.{MatchResult, subst, sym}
use Rattle.std.specs.Option.{unwrap_or}
use Rattle.syn_machine.specs.Network.{Which}
use Rattle.syn_machine.specs.Session.{fault_of}
use Rattle.syn_machine.specs.Side.{Request, Fetch, Reply, Piece, Staged}
use Rattle.syn_machine.specs.Side as model
use Rattle.syn_message.specs.declared.reply.Reply.{Reply as Answer}
use Rattle.syn_model.specs.Path.{Bytes}
use Rattle.syn_model.specs.Refusal.{Refusal}
use Rattle.syn_propagate.proofs.AskLemmas.{carried, goes_on, staged}
use Rattle.syn_propagate.specs.Carrying.{Exchanges, WasCarried, source_of}
use Rattle.syn_propagate.specs.Refusals.{refusal_of}
use Rattle.syn_propagate.specs.Transfers.{Follows, FollowsAny, with_answer}
use Rattle.syn_propagate.specs.inner.TransferStates.{HasReached, HasStagedTo, WaitsForPiece}
use Rattle.syn_propagate.specs.inner.TransferStates.{WaitsForReplacement, WaitsForStage}
use Rattle.syn_propagate.specs.declared.transfer_spec.TransferSpec.{TransferSpec}
use Rattle.syn_propagate.specs.declared.error.TransferError.{TransferError}
use Rattle.syn_propagate.specs.declared.error.TransferError.TheVariants.{Memory}
use Rattle.syn_propagate.specs.declared.next.Next.{Next}
use Rattle.syn_propagate.specs.declared.transfer.Transfer.{Transfer}

-- what is answered where this was asked, and that came
abbrev pub Answers : Transfer → Exchanges → Which → ℕ → Request → Reply → Result Next TransferError
    → Type 0
Answers transfer taken to number request reply result =
    MatchResult result
    (λ next. (fault_of taken to request reply ≡ None)
    × Follows transfer (with_answer taken to number request reply) reply next)
    (λ e. (e ≡ Memory) ⊎ (fault_of taken to request reply ≡ Some (refusal_of e)))

-- what was answered is what the code saw
pub same_answer : (given : Option Answer) (a b : Answer) → given ≡ Some a → given ≡ Some b → a ≡ b
same_answer given a b first second = ap (λ o. unwrap_or o a) (sym first ∙ second)

for_any : (transfer : Transfer) (taken : Exchanges) (fault : Option Refusal) (reply : Reply)
    (result : Result Next TransferError)
    → MatchResult result (λ next. (fault ≡ None) × FollowsAny transfer taken next)
    (λ e. (e ≡ Memory) ⊎ (fault ≡ Some (refusal_of e)))
    → MatchResult result (λ next. (fault ≡ None) × Follows transfer taken reply next)
    (λ e. (e ≡ Memory) ⊎ (fault ≡ Some (refusal_of e)))
for_any transfer taken fault reply (Ok next) is = (is.0, is.1 reply)
for_any transfer taken fault reply (Err e) is = is

module _ (c : TransferSpec) (transfer : Transfer) (taken : Exchanges) (to : Which) (number : ℕ)
    (request : Request) (result : Result Next TransferError) where
  pub after_piece : (offset total : ℕ) (known : Option ℕ) (bytes : Bytes)
      → WaitsForPiece c taken offset known to request
      → (HasReached c taken offset known
      → MatchResult result
      (λ next. (fault_of taken (source_of c) (Fetch c.path c.source_since offset)
      (Piece total bytes) ≡ None) × FollowsAny transfer (with_answer taken (source_of c) number
      (Fetch c.path c.source_since offset) (Piece total bytes)) next)
      (λ e. (e ≡ Memory) ⊎ (fault_of taken (source_of c) (Fetch c.path c.source_since offset)
      (Piece total bytes) ≡ Some (refusal_of e))))
      → Answers transfer taken to number request (Piece total bytes) result
  after_piece offset total known bytes waits goes =
      subst (λ t. Answers transfer taken t number request (Piece total bytes) result)
      (sym waits.of)
      (subst (λ r. Answers transfer taken (source_of c) number r (Piece total bytes) result)
      (sym waits.asked)
      (for_any transfer _ _ (Piece total bytes) result (goes waits.reached)))

  pub after_staged : (end total : ℕ) → WaitsForStage c taken end total to request
      → (HasStagedTo c (with_answer taken to number request Staged) end total
      → MatchResult result (FollowsAny transfer (with_answer taken to number request Staged))
      (λ e. e ≡ Memory))
      → Answers transfer taken to number request Staged result
  after_staged end total waits goes =
      for_any transfer _ _ Staged result
      (goes_on _ _ result (ap (λ r. fault_of taken to r Staged) waits.asked)
      (goes (staged c taken number end total to request waits)))

  pub after_done : WaitsForReplacement c taken to request
      → (fault_of taken to request model.Done ≡ None)
      × WasCarried c (with_answer taken to number request model.Done)
  after_done waits = (
    ap (λ r. fault_of taken to r model.Done) waits.asked,
    carried c taken number to request waits,
  )
