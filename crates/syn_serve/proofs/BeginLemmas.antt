-- What a side that answers Begun was asked, and what it adds.
use Rattle.std.proofs.Common.{◌≡◌, ◌⊎◌, ◌∙◌, ◌+◌, ℕ, Bool, true, false, [], ◌∷◌, ◌++◌, Option, Some}
use Rattle.std.proofs.Common.{None, ap, inl, inr, length, not, refl, subst, sym}
use Rattle.std.proofs.lemmas.Bool.{eqb-true}
use Rattle.std.specs.Prelude.{◌==◌, ◌&&◌, nat_le, nat_lt, bytes_eq, if◌then◌else◌, take, drop}
use Rattle.syn_machine.specs.Side.{Request, Begin, ListAt, Fetch, Stage, Replace, Reply, Begun}
use Rattle.syn_machine.specs.Side.{Listed, NotDir, Piece, Staged, Done, Refused, Side, Staging}
use Rattle.syn_machine.specs.Side.{Served, Serves, add_event, answer, begin, fetch, first_causes}
use Rattle.syn_machine.specs.Side.{is_last_token, list_at, replace_at, replace_causes}
use Rattle.syn_machine.specs.Side.{replace_with, room_causes, serve, set_staging, since_causes}
use Rattle.syn_machine.specs.Side.{stage, stage_first, stage_more, token_causes, token_of}
use Rattle.syn_machine.specs.Side.{unless_refused}
use Rattle.syn_model.specs.Event.{Event, Began, Token, Replaced, is_below, is_same_token}
use Rattle.syn_model.specs.History.{last_session, position_causes, tree_of}
use Rattle.syn_model.specs.Limits.{children, greatest_piece, greatest_spelling}
use Rattle.syn_model.specs.Mark.{mark}
use Rattle.syn_model.specs.Path.{Bytes, Path}
use Rattle.syn_model.specs.Refusal.{Refusal, BadStage, Memory, OldSession, WrongPair, first_cause}
use Rattle.syn_model.specs.Spelling.{spelling}
use Rattle.syn_model.specs.Tree.{Tree, is_directory, subtree}

-- a begin of the session that was begun last, for the pair of its own
pub record IsAgain (own : ℕ) (side : Side) (session : ℕ) (request : Request) : Type 0 where
  pub pair : ℕ
  pub asks : request ≡ Begin pair
  pub is_own : pair ≡ own
  pub last : session ≡ last_session side.history

-- it says of no session that it has begun
abbrev IsOther : Reply → Type 0
IsOther reply = (position : ℕ) → reply ≡ Begun position → ⊥

refused : (why : Refusal) → IsOther (Refused why)
refused why position is = cc

staged : IsOther Staged
staged position is = cc

done : IsOther Done
done position is = cc

a_piece : (total : ℕ) (bytes : Bytes) → IsOther (Piece total bytes)
a_piece total bytes position is = cc

unless : (side : Side) (why : Option Refusal) (served : Served) → IsOther served.reply
    → IsOther (unless_refused side why served).reply
unless side None served other = other
unless side (Some why) served other = refused why

listed : (side : Side) (path : Path) → IsOther (list_at side path).reply
listed side path = by (is_directory (tree_of side.history) path)
  where
    by : (b : Bool) → IsOther (if b then Listed (length side.history)
        (children (mark (tree_of side.history)) path) else NotDir (length side.history))
    by true position is = cc
    by false position is = cc

fetched : (side : Side) (path : Path) (since offset : ℕ)
    → IsOther (fetch side path since offset).reply
fetched side path since offset =
    let bytes = spelling (subtree (tree_of side.history) path) in
    let part = take greatest_piece (drop offset bytes) in
    unless side (first_cause (since_causes side.history path since))
    (answer side (Piece (length bytes) part)) (a_piece (length bytes) part)

first_piece : (side : Side) (token : Token) (offset : ℕ) (bytes : Bytes)
    → IsOther (stage_first side token offset bytes).reply
first_piece side token offset bytes = unless side (first_cause (first_causes offset bytes))
    (answer (set_staging side (record { token = token; bytes = bytes })) Staged) staged

further_piece : (goes before : Bool) (side new : Side) → IsOther (if goes then answer new Staged
    else if before then answer side Staged else answer side (Refused BadStage)).reply
further_piece true before side new = staged
further_piece false true side new = staged
further_piece false false side new = refused BadStage

piece : (side : Side) (staging : Option Staging) (token : Token) (offset : ℕ) (bytes : Bytes)
    → IsOther (stage side staging token offset bytes).reply
piece side None token offset bytes = first_piece side token offset bytes
piece side (Some staging) token offset bytes =
    by (is_below token staging.token) (is_same_token token staging.token)
  where
    by : (below same : Bool) → IsOther (if below then answer side (Refused OldSession)
        else if same then stage_more side token staging.bytes offset bytes
        else stage_first side token offset bytes).reply
    by true same = refused OldSession
    by false true = further_piece (offset == length staging.bytes
        && nat_le (length staging.bytes + length bytes) greatest_spelling)
        (bytes_eq (take (length bytes) (drop offset staging.bytes)) bytes
        && nat_le (offset + length bytes) (length staging.bytes)) side
        (set_staging side (record { token = token; bytes = staging.bytes ++ bytes }))
    by false false = first_piece side token offset bytes

put : (has_room : Event → Bool) (side : Side) (token : Token) (path : Path) (since : ℕ)
    (read : Option Tree) → IsOther (replace_with has_room side token path since read).reply
put has_room side token path since None = refused BadStage
put has_room side token path since (Some new) =
    unless side (first_cause (replace_causes has_room side token path since new))
    (answer (add_event side (Replaced token path since new)) Done) done

replaced : (has_room : Event → Bool) (side : Side) (token : Token) (path : Path) (since size : ℕ)
    (read : Option Tree) → IsOther (replace_at has_room side token path since size read).reply
replaced has_room side token path since size read = by (is_last_token side token)
  where
    by : (again : Bool) → IsOther (if again then answer side Done
        else unless_refused side (first_cause (token_causes side token size))
        (replace_with has_room side token path since read)).reply
    by true = done
    by false = unless side (first_cause (token_causes side token size))
        (replace_with has_room side token path since read)
        (put has_room side token path since read)

module _ (own : ℕ) (has_room : Event → Bool) (side : Side) (session : ℕ) where
  -- it is the session that was begun last, or its event is added
  abbrev pub Begins : Request → Served → Type 0
  Begins request served =
      IsAgain own side session request ⊎ (served.side ≡ add_event side (Began session))

  begins : (pair position : ℕ) → (begin own has_room side session pair).reply ≡ Begun position
      → Begins (Begin pair) (begin own has_room side session pair)
  begins pair position is = by (pair == own) refl (nat_lt session (last_session side.history))
      (session == last_session side.history) refl (first_cause (position_causes side.history
      ++ room_causes has_room (Began session))) is
    where
      made : Bool → Bool → Bool → Option Refusal → Served
      made same old again why =
          unless_refused side (first_cause ((not same, WrongPair) ∷ (old, OldSession) ∷ []))
          (if again then answer side (Begun (length side.history))
          else unless_refused side why
          (answer (add_event side (Began session)) (Begun (length side.history + 1))))

      by : (same : Bool) → (pair == own) ≡ same → (old again : Bool)
          → (session == last_session side.history) ≡ again → (why : Option Refusal)
          → (made same old again why).reply ≡ Begun position
          → Begins (Begin pair) (made same old again why)
      by false p old again q why is = absurd (refused WrongPair position is)
      by true p true again q why is = absurd (refused OldSession position is)
      by true p false true q why is = inl (record {
        pair = pair;
        asks = refl;
        is_own = eqb-true pair own p;
        last = eqb-true session (last_session side.history) q;
      })
      by true p false false q None is = inr refl
      by true p false false q (Some why) is = absurd (refused why position is)

  served_so : (read : Option Tree) (request : Request) (position : ℕ)
      → (serve own has_room read side session request).reply ≡ Begun position
      → Begins request (serve own has_room read side session request)
  served_so read (Begin pair) position is = begins pair position is
  served_so read (ListAt path) position is = absurd (listed side path position is)
  served_so read (Fetch path since offset) position is =
      absurd (fetched side path since offset position is)
  served_so read (Stage item offset bytes) position is =
      absurd (piece side side.staging (token_of session item) offset bytes position is)
  served_so read (Replace item path since size) position is = absurd
      (replaced has_room side (token_of session item) path since size read position is)

  pub only_begins : (request : Request) (served : Served) (position : ℕ)
      → Serves own has_room side session request served → served.reply ≡ Begun position
      → Begins request served
  only_begins request served position (inl (read, reads, same)) is =
      subst (λ s. Begins request s) (sym same)
      (served_so read request position (sym (ap (λ s. s.reply) same) ∙ is))
  only_begins request served position (inr (takes, none)) is =
      absurd (refused Memory position (sym (ap (λ s. s.reply) none) ∙ is))
