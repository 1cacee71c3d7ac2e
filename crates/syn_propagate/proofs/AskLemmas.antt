-- What a transfer asks, it may ask.
use Rattle.std.proofs.Common.{◌≡◌, ◌+◌, ◌<◌, ◌≤◌, ◌∙◌, ℕ, suc, true, ◌++◌, length}
use Rattle.std.proofs.Common.{Option, Some, None, Result, Ok, Err, ◌⊎◌, inl, ap, arith}
use Rattle.std.proofs.Common.{refl, subst, sym, MatchResult, length-append}
use Rattle.syn_machine.specs.Network.{Which}
use Rattle.syn_machine.specs.Session.{WasTaken, fault_of, fits_piece, is_wanted, piece_total}
use Rattle.syn_machine.specs.Side.{Request, Fetch, Stage, Replace, IsLawfulBody, Piece, Staged}
use Rattle.syn_machine.specs.Side as model
use Rattle.syn_model.specs.Path.{Bytes}
use Rattle.syn_model.specs.Refusal.{Refusal, BadMessage}
use Rattle.std.specs.Prelude.{not, if◌then◌else◌}
use Rattle.syn_propagate.proofs.CarryLemmas.{earlier_more, fetched_kept, fits_means, has_come}
use Rattle.syn_propagate.proofs.CarryLemmas.{is_staged, last, new_fetch, new_replace, new_stage}
use Rattle.syn_propagate.proofs.CarryLemmas.{so_far, staged_kept, told, untold, whole_kept}
use Rattle.syn_propagate.specs.Carrying.{Exchanges, IsStagedTo, IsUnreplaced, IsWhole, WasCarried}
use Rattle.syn_propagate.specs.Carrying.{IsEarlier, WasFetched, piece, source_of, target_of}
use Rattle.syn_propagate.specs.Transfers.{Asks, FollowsAny, with_answer}
use Rattle.syn_propagate.specs.inner.TransferStates.{HasReached, HasStagedTo, WaitsForStage}
use Rattle.syn_propagate.specs.inner.TransferStates.{WaitsForReplacement}
use Rattle.syn_propagate.specs.declared.transfer_spec.TransferSpec.{TransferSpec}
use Rattle.syn_propagate.specs.Refusals.{refusal_of}
use Rattle.syn_propagate.specs.declared.error.TransferError.{TransferError}
use Rattle.syn_propagate.specs.declared.error.TransferError.TheVariants.{Memory}
use Rattle.syn_propagate.specs.Asking.{AsksFor}
use Rattle.syn_propagate.specs.declared.next.Next.{Next}
use Rattle.syn_propagate.specs.declared.next.Next.TheVariants.{Ask, Done, Refused}
use Rattle.syn_message.specs.Requests.{request_of}
use Rattle.syn_propagate.specs.declared.transfer.TransferState.TheVariants.{Fetching, Staging}
use Rattle.syn_propagate.specs.declared.transfer.TransferState.TheVariants.{Replacing}
use Rattle.syn_propagate.specs.declared.transfer.Transfer.{Transfer}

module _ (c : TransferSpec) (taken : Exchanges) where
  pub asks_fetch : (offset : ℕ) (known : Option ℕ) → HasReached c taken offset known
      → IsLawfulBody (Fetch c.path c.source_since offset)
      → Asks (record { spec = c; state = Fetching offset known }) taken (source_of c)
      (Fetch c.path c.source_since offset)
  asks_fetch offset known reached lawful =
      let come = has_come c taken known offset reached.come in
      record {
        may = (
          refl,
          refl,
          refl,
          come.0,
          subst (λ o. is_wanted offset o ≡ true) (sym reached.told) come.1,
        );
        new = new_fetch c taken offset offset reached.earlier;
        lawful = lawful;
        waits = record { of = refl; asked = refl; reached = reached };
      }

  pub asks_replace : (total : ℕ) → IsWhole c taken total → IsUnreplaced c taken
      → IsLawfulBody (Replace c.item c.path c.target_since total)
      → Asks (record { spec = c; state = Replacing }) taken (target_of c)
      (Replace c.item c.path c.target_since total)
  asks_replace total whole unreplaced lawful = record {
    may = (
      refl,
      refl,
      refl,
      refl,
      subst (IsStagedTo c taken) whole.complete
          (is_staged c taken total whole.bytes whole.staged),
      whole,
    );
    new = new_replace c taken unreplaced.0 unreplaced.1 total unreplaced.2;
    lawful = lawful;
    waits = record { total = total; of = refl; asked = refl; whole = whole };
  }

  pub asks_stage : (number offset total end : ℕ) (known : Option ℕ) (bytes : Bytes)
      → HasReached c taken offset known → fits_piece known offset total (length bytes) ≡ true
      → 1 ≤ length bytes → IsLawfulBody (Stage c.item offset bytes)
      → end ≡ offset + length bytes
      → Asks (record { spec = c; state = Staging end total })
      (with_answer taken (source_of c) number (Fetch c.path c.source_since offset)
      (Piece total bytes)) (target_of c) (Stage c.item offset bytes)
  asks_stage number offset total end known bytes reached fits some lawful ends =
      let means = fits_means known offset total (length bytes) fits in
      let request = Fetch c.path c.source_since offset in
      let reply = Piece total bytes in
      let more = with_answer taken (source_of c) number request reply in
      let fetched = last taken (source_of c) number request reply in
      let earlier = earlier_more c taken offset offset (suc offset) offset (source_of c) number
      request reply reached.earlier (omega arith) (omega arith) (λ same. omega arith) in
      let come = so_far c taken known offset total reached.come means.0 in
      record {
        may = (refl, refl, total, fetched);
        new = new_stage c more (suc offset) offset bytes earlier;
        lawful = lawful;
        waits = record {
          offset = offset;
          bytes = bytes;
          of = refl;
          asked = refl;
          some = some;
          ends = ends;
          within = omega (arith, means.1, means.2, ends);
          told = told taken c.path (source_of c) number c.source_since offset total bytes known
              reached.told means.0;
          come = record {
            bytes = come.bytes;
            staged = staged_kept c taken _ total come.bytes come.staged;
            count = come.count;
          };
          fetched = fetched;
          earlier = earlier;
        };
      }

  -- a whole of no bytes has come with its first piece
  pub whole_of_none : (number offset total : ℕ) (known : Option ℕ) (bytes : Bytes)
      → HasReached c taken offset known → fits_piece known offset total (length bytes) ≡ true
      → length bytes ≡ 0
      → let more = with_answer taken (source_of c) number (Fetch c.path c.source_since offset)
      (Piece total bytes) in
      IsWhole c more total × IsUnreplaced c more
  whole_of_none number offset total known bytes reached fits none =
      let means = fits_means known offset total (length bytes) fits in
      let request = Fetch c.path c.source_since offset in
      let reply = Piece total bytes in
      let come = so_far c taken known offset total reached.come means.0 in
      let earlier = earlier_more c taken offset offset (suc offset) offset (source_of c) number
      request reply reached.earlier (omega arith) (omega arith) (λ same. omega arith) in (
        record {
          bytes = come.bytes;
          staged = staged_kept c taken _ total come.bytes come.staged;
          complete = omega (arith, come.count, means.1, means.2, none);
          offset = offset;
          last = bytes;
          said = last taken (source_of c) number request reply;
        },
        (suc offset, offset, earlier),
      )

  -- once all is staged, the whole is there
  pub whole_of_staged : (end total : ℕ) → total ≤ end → HasStagedTo c taken end total
      → IsWhole c taken total × IsUnreplaced c taken
  whole_of_staged end total all has = (
    record {
      bytes = has.come.bytes;
      staged = has.come.staged;
      complete = omega (arith, has.come.count, has.within, all);
      offset = has.offset;
      last = has.bytes;
      said = has.fetched;
    },
    (end, end, has.earlier),
  )

  -- while there is more, the next piece is to come
  pub reached_of_staged : (end total : ℕ) → end < total → HasStagedTo c taken end total
      → HasReached c taken end (Some total)
  reached_of_staged end total more has =
      record { told = has.told; come = (more, has.come); earlier = has.earlier }

  -- a piece that was sent is staged
  pub staged : (number end total : ℕ) (to : Which) (request : Request)
      → WaitsForStage c taken end total to request
      → HasStagedTo c (with_answer taken to number request Staged) end total
  staged number end total to request waits =
      let more = with_answer taken to number request Staged in
      let had = waits.come in
      let same : length had.bytes ≡ waits.offset = had.count in
      let said = subst (λ r. WasTaken more to r Staged) waits.asked
      (last taken to number request Staged) in
      let whole = piece had.bytes waits.bytes
      (staged_kept c taken _ total had.bytes had.staged)
      (subst (λ n. WasFetched c more total n waits.bytes) (sym same)
      (fetched_kept c taken _ total waits.offset waits.bytes waits.fetched))
      (subst (λ n. WasTaken more (target_of c) (Stage c.item n waits.bytes) Staged) (sym same)
      (subst (λ t. WasTaken more t (Stage c.item waits.offset waits.bytes) Staged) waits.of
      said)) in
      record {
        within = waits.within;
        told = untold taken c.path to number request Staged
            (ap (λ r. piece_total c.path r Staged) waits.asked) ∙ waits.told;
        come = record {
          bytes = had.bytes ++ waits.bytes;
          staged = whole;
          count = length-append had.bytes waits.bytes ∙ omega (arith, same, waits.ends);
        };
        offset = waits.offset;
        bytes = waits.bytes;
        fetched = fetched_kept c taken _ total waits.offset waits.bytes waits.fetched;
        earlier = earlier_more c taken (suc waits.offset) waits.offset end end to number request
            Staged waits.earlier (omega (arith, waits.some, waits.ends))
            (omega (arith, waits.some, waits.ends))
            (subst (IsEarlier c end end) (sym waits.asked)
            (λ same. omega (arith, waits.some, waits.ends)));
      }

  -- the replacement is done
  pub carried : (number : ℕ) (to : Which) (request : Request)
      → WaitsForReplacement c taken to request
      → WasCarried c (with_answer taken to number request model.Done)
  carried number to request waits =
      let more = with_answer taken to number request model.Done in
      record {
        total = waits.total;
        whole = whole_kept c taken _ waits.total waits.whole;
        done = subst (λ t. WasTaken more t (Replace c.item c.path c.target_since waits.total)
            model.Done) waits.of (subst (λ r. WasTaken more to r model.Done) waits.asked
            (last taken to number request model.Done));
      }

  -- a piece that fits ends nothing
  pub no_fault : (offset total : ℕ) (known : Option ℕ) (bytes : Bytes)
      → HasReached c taken offset known → fits_piece known offset total (length bytes) ≡ true
      → fault_of taken (source_of c) (Fetch c.path c.source_since offset) (Piece total bytes)
      ≡ None
  no_fault offset total known bytes reached fits =
      let fits' = ap (λ o. fits_piece o offset total (length bytes)) reached.told ∙ fits in
      ap (λ b. if not b then Some BadMessage else None) fits'

-- what goes on, and is no fault
pub goes_on : (fault : Option Refusal) (P : Next → Type 0) (result : Result Next TransferError)
    → fault ≡ None → MatchResult result P (λ e. e ≡ Memory)
    → MatchResult result (λ next. (fault ≡ None) × P next)
    (λ e. (e ≡ Memory) ⊎ (fault ≡ Some (refusal_of e)))
goes_on fault P (Ok next) none follows = (none, follows)
goes_on fault P (Err e) none memory = inl memory

-- what is asked for follows, if it may be asked
pub asked : (transfer : Transfer) (taken : Exchanges) (to : Which) (request : Request) (next : Next)
    → AsksFor next to request → Asks transfer taken to request → FollowsAny transfer taken next
asked transfer taken to request (Ask wanted) is asks reply =
    subst (λ t. Asks transfer taken t (request_of wanted.request)) (sym is.0)
    (subst (λ r. Asks transfer taken to r) (sym is.1) asks)
asked transfer taken to request Done is asks reply = absurd is
asked transfer taken to request (Refused why) is asks reply = absurd is
