-- Why a replacement is refused, as it is found out step by step.
use Rattle.std.proofs.Common.{◌≡◌, ◌≢◌, ◌==◌, ◌⊎◌, inr, ℕ, Bool, false, true, not, nat_lt, nat_le}
use Rattle.std.proofs.Common.{if◌then◌else◌, List, [], ◌∷◌, ◌++◌, length, refl, sym, ap, ap₂, ◌∙◌}
use Rattle.std.proofs.Common.{Option, Some, None, append_assoc, arith, ◌+◌, Result, Ok, Err}
use Rattle.std.specs.Prelude.{IfOk, IfErr, IsErrAnd}
use Rattle.std.proofs.lemmas.List.{length-append}
use Rattle.std.proofs.lemmas.Bool.{eq-eqb, eqb-true}
use Rattle.std.proofs.lemmas.Bool.Decides.{nat_tests}
use Rattle.std.proofs.lemmas.Option.{none-some, same_Some}
use Rattle.syn_model.proofs.ExitLemmas.{if_err_of_exit, is_err_of_exit}
use Rattle.syn_model.specs.Path.{Path}
use Rattle.syn_model.specs.Tree.{Tree, replace}
use Rattle.syn_model.specs.Event.{Token, Event, Began, Replaced}
use Rattle.syn_model.specs.Refusal.{Refusal, JournalFull, OldSession, WrongPair, Cause}
use Rattle.syn_model.specs.Refusal.{first_cause}
use Rattle.syn_model.specs.Spelling.{event_spelling}
use Rattle.syn_model.specs.Standing.{Standing, causes_at, is_old, place_causes, full_causes}
use Rattle.syn_model.specs.Standing.{full_position, refusal_at}
use Rattle.syn_model.specs.History.{History, standing_of, tree_of, is_old_token, last_session}
use Rattle.syn_model.specs.History.{position_causes}
use Rattle.syn_replica.specs.Refusals.{IsOneOf, outside_refusals}
use Rattle.syn_replica.specs.Steps.{add_refusal, room_causes, replace_refusal, begin_refusal}
use Rattle.syn_replica.specs.Steps.{begin_refusal_at}
use Rattle.syn_replica.specs.Steps.{is_done, replaced, begun}
use Rattle.syn_replica.specs.inner.Additions.{add_refusal_at}
use Rattle.syn_replica.specs.Causes.{since_causes}
use Rattle.syn_replica.specs.ErrorRefusals.{refusal_of}
use Rattle.syn_tree.specs.Lists.{replace_refusal as tree_refusal}
use Rattle.syn_replica.specs.declared.error.ReplicaError.{ReplicaError}
use Rattle.syn_model.proofs.HistoryLemmas.{first_skips, first_stays}
use Rattle.syn_replica.proofs.RoomLemmas.{last_false}
use Rattle.syn_replica.proofs.SinceLemmas.{first_false}

-- ---- the causes of a replacement in a row

module _ (room : ℕ) (history : History) (token : Token) (path : Path) (since : ℕ) (new : Tree) where
  rest_causes : List Cause
  rest_causes =
      place_causes (tree_of history) path ++ (full_causes (replace (tree_of history) path new)
      ++ (position_causes history ++ room_causes room (Replaced token path since new)))

  not_old : is_old_token history token ≡ false → replace_refusal room history token path since new
      ≡ first_cause (since_causes history path since ++ rest_causes)
  unfolding rest_causes
  not_old current =
      first_false (is_old_token history token) OldSession
      (since_causes history path since ++ rest_causes) current

  untouched : is_old_token history token ≡ false →
      first_cause (since_causes history path since) ≡ None →
      replace_refusal room history token path since new ≡ first_cause rest_causes
  untouched current none =
      not_old current ∙ first_skips (since_causes history path since) rest_causes none

  -- where the token and the path stand as they should, what is left is why the event is not added
  replaced_rest : is_old_token history token ≡ false →
      first_cause (since_causes history path since) ≡ None →
      replace_refusal room history token path since new
      ≡ add_refusal room history (Replaced token path since new)
  unfolding rest_causes
  replaced_rest current none =
      let place = place_causes (tree_of history) path in
      let full = full_causes (replace (tree_of history) path new) in
      let position = position_causes history in
      let last = room_causes room (Replaced token path since new) in
      untouched current none
      ∙ (ap first_cause (sym (append_assoc place full (position ++ last)) ∙ (sym (append_assoc
      (place ++ full) position last) ∙ ap (λ xs. xs ++ last) (append_assoc place full position)))
      ∙ sym (first_false (is_old_token history token) OldSession
      ((place ++ (full ++ position)) ++ last) current))

  -- and so of what a replica remembers, with a copy of the path
  pub replaced_as : (standing : Standing) (copy : Path) → standing ≡ standing_of history →
      copy ≡ path → is_old standing.session standing.token token ≡ false →
      first_cause (since_causes history path since) ≡ None →
      add_refusal_at room standing (Replaced token copy since new)
      ≡ replace_refusal room history token path since new
  replaced_as standing copy same is current none =
      ap (λ s. add_refusal_at room s (Replaced token copy since new)) same
      ∙ (ap (λ q. add_refusal room history (Replaced token q since new)) is
      ∙ sym (replaced_rest (ap (λ s. is_old s.session s.token token) (sym same) ∙ current) none))

  -- where the tree refuses what is put, that is answered
  refused_place : is_old_token history token ≡ false →
      first_cause (since_causes history path since) ≡ None → (refusal : Refusal) →
      tree_refusal (tree_of history) path new ≡ Some refusal →
      replace_refusal room history token path since new ≡ Some refusal
  unfolding rest_causes
  refused_place current none refusal e =
      let place = place_causes (tree_of history) path in
      let full = full_causes (replace (tree_of history) path new) in
      let rest = position_causes history ++ room_causes room (Replaced token path since new) in
      untouched current none ∙ (ap first_cause (sym (append_assoc place full rest))
      ∙ first_stays (place ++ full) rest refusal e)

  pub refused_part : {X : Type 0} (r : Result X ReplicaError) (e : ReplicaError)
      (standing : Standing) (tree : Tree) (old : Bool) → IsErrAnd r (λ x. x ≡ e) →
      standing ≡ standing_of history → old ≡ is_old standing.session standing.token token →
      old ≡ false → None ≡ first_cause (since_causes history path since) → tree ≡ standing.tree →
      tree_refusal tree path new ≡ Some (refusal_of e) →
      IfErr r (λ e. replace_refusal room history token path since new ≡ Some (refusal_of e))
  refused_part r e standing tree old same is tests current none there refused =
      if_err_of_exit r e
      (λ e. replace_refusal room history token path since new ≡ Some (refusal_of e)) same
      (refused_place (ap (λ s. is_old s.session s.token token) (sym is)
      ∙ (sym tests ∙ current)) (sym none) (refusal_of e)
      (ap (λ t. tree_refusal t path new) (ap (λ s. s.tree) (sym is) ∙ sym there) ∙ refused))

-- ---- the causes at a begin

not_other : (m n : ℕ) → m ≡ n → not (m == n) ≡ false
not_other m n same = grind (arith, nat_tests)

less_or_same : (m n : ℕ) → m ≢ n → nat_lt m n ≡ nat_le m n
less_or_same m n other = grind (arith, nat_tests)

not_less : (m n : ℕ) → m ≡ n → nat_lt m n ≡ false
not_less m n same = grind (arith, nat_tests)

differs : (m n : ℕ) → m ≢ n → (m == n) ≡ false
differs m n other = grind (arith, nat_tests)

pub begun_size : (session : ℕ) → length (event_spelling (Began session)) ≡ 9
begun_size session = refl

module _ (room own : ℕ) (standing : Standing) (pair session : ℕ) where
  abbrev answer : Option Refusal
  answer = begin_refusal_at room own standing pair session

  abbrev later : List Cause
  later = (nat_lt session standing.session, OldSession)
      ∷ (if session == standing.session then []
      else full_position standing.position ++ room_causes room (Began session))

  pub other_pair : pair ≢ own → answer ≡ Some WrongPair
  other_pair other =
      ap (λ b. first_cause ((not b, WrongPair) ∷ later)) (differs pair own other)

  -- the session begun last begins again
  pub begins_again : pair ≡ own → session ≡ standing.session → answer ≡ None
  begins_again own_pair last =
      first_false (not (pair == own)) WrongPair later (not_other pair own own_pair)
      ∙ ap₂ (λ b c. first_cause ((b, OldSession) ∷ (if c then []
      else full_position standing.position ++ room_causes room (Began session))))
      (not_less session standing.session last) (eq-eqb session standing.session last)

  -- where the pair is the replica's and the session was not begun last, what is left is why the
  -- event is not added
  pub rest_at : pair ≡ own → session ≢ standing.session →
      answer ≡ add_refusal_at room standing (Began session)
  rest_at same other =
      first_false (not (pair == own)) WrongPair later (not_other pair own same)
      ∙ ap₂ (λ b c. first_cause ((b, OldSession) ∷ (if c then []
      else full_position standing.position ++ room_causes room (Began session))))
      (less_or_same session standing.session other)
      (differs session standing.session other)

  module _ {X : Type 0} (r : Result X ReplicaError) (e : ReplicaError) (history : History)
      (at_exit : IsErrAnd r (λ x. x ≡ e)) (is : standing ≡ standing_of history)
      (told : answer ≡ Some (refusal_of e)) where
    answered : begin_refusal room own history pair session ≡ Some (refusal_of e)
    answered = ap (λ s. begin_refusal_at room own s pair session) (sym is) ∙ told

    pub begin_cause : IfErr r (λ e. IsOneOf outside_refusals e
        ⊎ (begin_refusal room own history pair session ≡ Some (refusal_of e)))
    begin_cause =
        if_err_of_exit r e (λ e. IsOneOf outside_refusals e
        ⊎ (begin_refusal room own history pair session ≡ Some (refusal_of e))) at_exit
        (inr answered)

    pub begin_refused : (why : Refusal) → begin_refusal room own history pair session ≡ Some why →
        IsErrAnd r (λ e. refusal_of e ≡ why)
    begin_refused why cause =
        is_err_of_exit r e (λ e. refusal_of e ≡ why) at_exit (same_Some _ _ (sym answered ∙ cause))

-- with room for its event, a session is refused for what stands against it alone
module _ (own : ℕ) (standing : Standing) (pair session : ℕ) where
  abbrev with_room : Option Refusal
  with_room = begin_refusal_at 9 own standing pair session

  abbrev early : List Cause
  early = (not (pair == own), WrongPair) ∷ (nat_lt session standing.session, OldSession) ∷ []

  -- what stands against it is answered whatever the room
  pub any_room : (room : ℕ) (why : Refusal) → with_room ≡ Some why →
      begin_refusal_at room own standing pair session ≡ Some why
  any_room room why told = by (session == standing.session) told
    where
      by : (again : Bool) → first_cause (early ++ (if again then []
          else full_position standing.position ++ room_causes 9 (Began session))) ≡ Some why →
          first_cause (early ++ (if again then []
          else full_position standing.position ++ room_causes room (Began session))) ≡ Some why
      by true told = told
      by false told =
          let causes : List Cause = early ++ full_position standing.position in
          first_stays causes (room_causes room (Began session)) why
          (sym (last_false causes JournalFull) ∙ told)

  pub own_pair : with_room ≡ None → pair ≡ own
  own_pair none = by (pair == own) refl none
    where
      by : (b : Bool) → (pair == own) ≡ b → first_cause ((not b, WrongPair)
          ∷ later 9 own standing pair session) ≡ None → pair ≡ own
      by true same none = eqb-true pair own same
      by false same none = absurd (none-some _ (sym none))

  -- nothing stands against its event
  pub event_free : with_room ≡ None → session ≢ standing.session →
      refusal_at standing (Began session) ≡ None
  event_free none other =
      sym (last_false (causes_at standing (Began session)) JournalFull)
      ∙ (sym (rest_at 9 own standing pair session (own_pair none) other) ∙ none)

-- ---- what is answered

pub one_longer : (r : Result ℕ ReplicaError) (history : History) (event : Event) (P : Type 0) →
    IfOk r (λ position. (position ≡ length history + 1) × P) →
    IfOk r (λ position. (position ≡ length (history ++ event ∷ [])) × P)
one_longer (Ok x) history event P h = (h.0 ∙ sym (length-append history (event ∷ [])), h.1)
one_longer (Err x) history event P h = h

-- a token that is not done goes on by its event
pub not_done : (history : History) (token : Token) (path : Path) (since : ℕ) (new : Tree) →
    is_done history token ≡ false →
    replaced history token path since new ≡ history ++ Replaced token path since new ∷ []
not_done history token path since new e =
    ap (λ b. if b then history else history ++ Replaced token path since new ∷ []) e

-- a session that was not begun last goes on by its event
pub not_begun : (history : History) (session : ℕ) → session ≢ last_session history →
    begun history session ≡ history ++ Began session ∷ []
not_begun history session other =
    ap (λ b. if b then history else history ++ Began session ∷ [])
    (differs session (last_session history) other)
