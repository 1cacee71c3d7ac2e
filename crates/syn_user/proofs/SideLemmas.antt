-- What was asked of a side, and what came.
use Rattle.std.proofs.Common.{◌≡◌, ◌+◌, ◌++◌, ◌∷◌, ℕ, [], length, Option, refl, sym, ap, ap₂, ◌∙◌}
use Rattle.std.proofs.Common.{◌⊎◌, inl, inr, subst, append-nil, zero-add, add-zero, add_assoc}
use Rattle.std.proofs.Common.{length-append}
use Rattle.std.proofs.lemmas.Grind.{flat_map-append}
use Rattle.std.proofs.lemmas.Result.{IfOk-weaker}
use Rattle.std.specs.Io.KnownBytes.{Appends}
use Rattle.std.specs.Prelude.{Result, Ok, Err, IfErr, IfOk}
use Rattle.syn_machine.specs.Side.{ListAt, Piece, Refused, Request}
use Rattle.syn_link.specs.Frames.{Bytes, frame_of}
use Rattle.syn_message.specs.Replies.{reply_of}
use Rattle.syn_message.specs.Requests.{IsLawfulRequestMessage, request_spelling}
use Rattle.syn_message.specs.declared.reply.Reply.{Reply}
use Rattle.syn_message.specs.declared.reply.Reply.TheVariants as told
use Rattle.syn_model.specs.Refusal.{Touched}
use Rattle.syn_model.specs.Spelling.{spelling}
use Rattle.syn_model.specs.Tree.{Tree}
use Rattle.syn_refusal.specs.declared.refusal.Refusal.{Refusal}
use Rattle.syn_user.specs.Sides.{ArePiecesOf, AreFetched, AreOfNoTree, IsHeard, IsNoListing}
use Rattle.syn_user.specs.Sides.{IsNoPiece, IsReplied, IsTouchedSince, IsUnanswered, IsUnheard}
use Rattle.syn_user.specs.Sides.{IsListing, NoPiece, NoPieces, NoPosition, Pieces, SideState}
use Rattle.syn_user.specs.Sides.{message_at, bytes_of, no_memory, no_piece, no_tree, root_from}
use Rattle.syn_user.specs.Sides.{rootless, unheard}
use Rattle.syn_user.specs.declared.error.UserError.{UserError}
use Rattle.syn_user.specs.declared.error.UserError.TheVariants as has

-- the state with all of it but the next number
abbrev pub state_with : SideState → Option Bytes → Bytes → Option Bytes → SideState
state_with state given held written = record {
  given = given;
  held = held;
  written = written;
  next = state.next;
}

-- the state once a request was written
abbrev pub sent_state : SideState → Option Bytes → SideState
sent_state state = state_with state state.given state.held

-- nothing was read as it was written
pub sent_from : (old : SideState) (given : Option Bytes) (held : Bytes) (written : Option Bytes)
    → given ≡ old.given → held ≡ old.held
    → state_with old given held written ≡ sent_state old written
sent_from old given held written = ap₂ (λ g h. state_with old g h written)

-- a request that was written is replied to by what is heard then
pub replied_so : (old new : SideState) (request : Request) (written : Option Bytes)
    → IsLawfulRequestMessage (message_at old request)
    → Appends old.written written (frame_of (request_spelling (message_at old request)))
    → new.written ≡ written → (r : Result Reply UserError)
    → IfOk r (λ reply. IsHeard (sent_state old written) new (reply_of reply))
    → IfOk r (λ reply. IsReplied old new request (reply_of reply))
replied_so old new request written lawful adds same r =
    IfOk-weaker r (λ reply. IsHeard (sent_state old written) new (reply_of reply))
    (λ reply. IsReplied old new request (reply_of reply)) (λ reply heard. record {
      asked = record {
        lawful = lawful;
        written = subst (λ w. Appends old.written w
            (frame_of (request_spelling (message_at old request)))) (sym same) adds;
      };
      heard = record { lawful = heard.lawful; came = heard.came; next = heard.next };
    })

unheard_before : (old new : SideState) (written : Option Bytes) (error : UserError)
    → IsUnheard (sent_state old written) new error → IsUnheard old new error
unheard_before old new written (has.Refused why) is = is
unheard_before old new written has.Device is = is
unheard_before old new written has.Memory is = is
unheard_before old new written has.BadFrame is = is
unheard_before old new written has.TooLarge is = is
unheard_before old new written has.BadMessage is = is

-- and where nothing is heard then, it is not answered
pub unanswered_so : (old new : SideState) (request : Request) (written : Option Bytes)
    → IsLawfulRequestMessage (message_at old request)
    → Appends old.written written (frame_of (request_spelling (message_at old request)))
    → new.written ≡ written → (r : Result Reply UserError)
    → IfErr r (IsUnheard (sent_state old written) new)
    → IfErr r (IsUnanswered old new request)
unanswered_so old new request written lawful adds same (Ok reply) is = is
unanswered_so old new request written lawful adds same (Err error) is = unheard
    (record {
      lawful = lawful;
      written = subst (λ w. Appends old.written w
          (frame_of (request_spelling (message_at old request)))) (sym same) adds;
    }) (unheard_before old new written error is)

-- a reply that no listing is answered with
pub foreign_reply : (reply : Reply)
    → ((position : _) (entries : _) → reply ≡ told.Listed position entries → ⊥)
    → ((position : _) → reply ≡ told.NotDir position → ⊥)
    → ((why : Refusal) → reply ≡ told.Refused why → ⊥) → IsNoListing (reply_of reply)
foreign_reply (told.Begun position) no_list no_directory no_refusal = tt
foreign_reply (told.Listed position entries) no_list no_directory no_refusal =
    absurd (no_list position entries refl)
foreign_reply (told.NotDir position) no_list no_directory no_refusal =
    absurd (no_directory position refl)
foreign_reply (told.Piece total bytes) no_list no_directory no_refusal = tt
foreign_reply told.Staged no_list no_directory no_refusal = tt
foreign_reply told.Done no_list no_directory no_refusal = tt
foreign_reply (told.Refused why) no_list no_directory no_refusal = absurd (no_refusal why refl)

-- the root is listed as no directory, where the reply to its listing has no names
pub rootless_so : (old new : SideState) (reply : Reply) → IsListing (reply_of reply)
    → ((position : _) (entries : _) → reply ≡ told.Listed position entries → ⊥)
    → IsReplied old new (ListAt []) (reply_of reply) → NoPosition old new has.BadMessage
rootless_so old new (told.Begun position) lists no_list is = absurd lists
rootless_so old new (told.Listed position entries) lists no_list is =
    absurd (no_list position entries refl)
rootless_so old new (told.NotDir position) lists no_list is = rootless position is
rootless_so old new (told.Piece total bytes) lists no_list is = absurd lists
rootless_so old new told.Staged lists no_list is = absurd lists
rootless_so old new told.Done lists no_list is = absurd lists
rootless_so old new (told.Refused why) lists no_list is = absurd lists

-- and one that no fetching of a piece is answered with
pub foreign_to_piece : (reply : Reply)
    → ((total : _) (bytes : _) → reply ≡ told.Piece total bytes → ⊥)
    → ((why : Refusal) → reply ≡ told.Refused why → ⊥) → IsNoPiece (reply_of reply)
foreign_to_piece (told.Begun position) no_piece_is no_refusal = tt
foreign_to_piece (told.Listed position entries) no_piece_is no_refusal = tt
foreign_to_piece (told.NotDir position) no_piece_is no_refusal = tt
foreign_to_piece (told.Piece total bytes) no_piece_is no_refusal =
    absurd (no_piece_is total bytes refl)
foreign_to_piece told.Staged no_piece_is no_refusal = tt
foreign_to_piece told.Done no_piece_is no_refusal = tt
foreign_to_piece (told.Refused why) no_piece_is no_refusal = absurd (no_refusal why refl)

-- one piece more, from where those before it ended
pub fetched_more : (position offset end : ℕ) (a b c : SideState) (pieces : Pieces)
    (piece : ℕ × Bytes) → offset + length (bytes_of pieces) ≡ end
    → AreFetched position a offset pieces b
    → IsReplied b c (root_from position end) (Piece piece.0 piece.1)
    → AreFetched position a offset (pieces ++ piece ∷ []) c
fetched_more position offset end a b c [] piece ends came is =
    let at : end ≡ offset = sym ends ∙ add-zero offset in (
      c,
      subst (λ n. IsReplied a c (root_from position n) (Piece piece.0 piece.1)) at
          (subst (λ l. IsReplied l c (root_from position end) (Piece piece.0 piece.1)) came is),
      refl,
    )
fetched_more position offset end a b c (first ∷ more) piece ends (between, replied, came) is =
    let on : (offset + length first.1) + length (bytes_of more) ≡ end =
    add_assoc offset (length first.1) (length (bytes_of more))
    ∙ (ap (λ n. offset + n) (sym (length-append first.1 (bytes_of more))) ∙ ends) in (
      between,
      replied,
      fetched_more position (offset + length first.1) end between b c more piece
          on came is,
    )

-- pieces that came, and what they are one after the other
abbrev pub Gathers : ℕ → SideState → SideState → Bytes → Type 0
Gathers position a b bytes = (pieces : Pieces) × AreFetched position a 0 pieces b
    × (bytes_of pieces ≡ bytes)

-- a piece that was asked for from where those before it ended, and the refusal where it was touched
module _ (position : ℕ) (a b c : SideState) (bytes : Bytes) (offset : ℕ)
    (ends : offset ≡ length bytes) where
  abbrev pub piece_gathered : (more : Bytes) (total : ℕ) → Gathers position a b bytes
      → IsReplied b c (root_from position offset) (Piece total more)
      → Gathers position a c (bytes ++ more)
  piece_gathered more total (pieces, came, same) is =
      let piece : ℕ × Bytes = (total, more) in (
        pieces ++ piece ∷ [],
        fetched_more position 0 offset a b c pieces piece
            (zero-add (length (bytes_of pieces)) ∙ (ap length same ∙ sym ends)) came is,
        flat_map-append (λ (p : ℕ × Bytes). p.1) pieces (piece ∷ [])
            ∙ ap₂ (λ x y. x ++ y) same (append-nil more),
      )

  pub touched_so : Gathers position a b bytes
      → IsReplied b c (root_from position offset) (Refused Touched)
      → IsTouchedSince position a c
  touched_so (pieces, came, same) is = record {
    pieces = pieces;
    between = b;
    came = came;
    touched = subst (λ n. IsReplied b c (root_from position n) (Refused Touched))
        (ends ∙ ap length (sym same)) is;
  }

  pub no_piece_so : (error : UserError) → Gathers position a b bytes
      → NoPiece position offset b c error → NoPieces position a c error
  no_piece_so error (pieces, came, same) is = no_piece pieces b error came
      (subst (λ n. NoPiece position n b c error) (ends ∙ ap length (sym same)) is)

-- no tree comes of the pieces, which are of none, or for which memory is wanting
pub refused_so : (position : ℕ) (a b : SideState) (pieces : Pieces) (error : UserError)
    → AreFetched position a 0 pieces b
    → ((error ≡ has.BadMessage) × AreOfNoTree pieces) ⊎ (error ≡ has.Memory)
    → NoPieces position a b error
refused_so position a b pieces error came (inl (is, none)) =
    subst (NoPieces position a b) (sym is) (no_tree pieces came none)
refused_so position a b pieces error came (inr is) =
    subst (NoPieces position a b) (sym is) (no_memory pieces came)

pub pieces_of : (position : ℕ) (a b : SideState) (bytes : Bytes) (tree : Tree)
    → Gathers position a b bytes → spelling tree ≡ bytes → ArePiecesOf position a b tree
pieces_of position a b bytes tree (pieces, came, same) spells =
    record { pieces = pieces; came = came; spells = same ∙ sym spells }
