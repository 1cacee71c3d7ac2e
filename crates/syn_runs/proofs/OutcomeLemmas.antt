-- What a side answers to a request, case by case.
use Rattle.std.proofs.Common.{◌≡◌, ◌≢◌, ◌<◌, ◌^◌, ◌≤◌, ℕ, Bool, true, false, not, ◌||◌, ◌&&◌, ◌==◌}
use Rattle.std.proofs.Common.{nat_lt, nat_le, [], ◌∷◌, List, ◌++◌, length, take, drop, bytes_eq}
use Rattle.std.proofs.Common.{if◌then◌else◌, refl, sym, ap, ◌∙◌, subst, Option, Some, None, inl}
use Rattle.std.proofs.Common.{inr, arith, ◌+◌}
use Rattle.std.specs.Option.{option_map_or}
use Rattle.std.proofs.lemmas.Bool.Decides.{nat_tests}
use Rattle.std.proofs.lemmas.Bool.{and_parts, eqb-true, not-false}
use Rattle.syn_model.specs.Path.{Path, Bytes, IsPath}
use Rattle.syn_model.specs.Tree.{Tree, replace, subtree, is_directory}
use Rattle.syn_model.specs.Limits.{children, greatest_spelling}
use Rattle.syn_model.specs.Mark.{mark}
use Rattle.syn_model.specs.Spelling.{spelling}
use Rattle.syn_model.specs.Refusal.{Refusal, first_cause, Memory, OldSession, WrongPair}
use Rattle.syn_model.specs.Refusal.{NotStaged, BadStage, BelowFloor, Touched, Cause}
use Rattle.syn_model.specs.Refusal as why
use Rattle.syn_model.specs.Event.{IsLawfulToken, is_below, is_same_token, Event, Began, Replaced}
use Rattle.syn_model.specs.History.{History, tree_of, IsAllowed, last_session, last_token}
use Rattle.syn_model.specs.History.{position_causes, is_quiet, floor}
use Rattle.syn_model.specs.Standing.{place_causes, full_causes}
use Rattle.syn_machine.specs.Side.{Side, Served, Staging, Request, Begin, ListAt, Fetch, Stage}
use Rattle.syn_machine.specs.Side.{Replace, Begun, Listed, NotDir, Piece, Staged, Done, Refused}
use Rattle.syn_machine.specs.Side.{IsLawfulRequest, answer, add_event, set_staging, unless_refused}
use Rattle.syn_machine.specs.Side.{first_causes, stage, stage_first, replace_with, replace_causes}
use Rattle.syn_machine.specs.Side.{room_causes, since_causes, is_dead_token, serve, Serves}
use Rattle.syn_machine.specs.Side.{token_of, Reads, is_staged, staged_bytes}
use Rattle.syn_runs.specs.Laws.{PiecesAreUntouched}
use Rattle.syn_machine.specs.Machine.{Status, Up, Halted, Down}
use Rattle.syn_machine.specs.SideMachine.{serve_halted, CannotStage, ServesAs}
use Rattle.syn_model.proofs.HistoryLemmas.{first_cause-none, none-append}
use Rattle.syn_runs.proofs.Invariant.{belongs}
use Rattle.syn_runs.proofs.SideLemmas.{IsOfStaged, began_allowed, replaced_allowed, served_so}

pub data Outcome (side : Side) (session : ℕ) : Request → Served → Type 0 where
  refuses : (request : Request) (reason : Refusal) → belongs reason ≡ true →
      Outcome side session request (answer side (Refused reason))
  begins_again : (pair : ℕ) → session ≡ last_session side.history →
      Outcome side session (Begin pair) (answer side (Begun (length side.history)))
  begins : (pair : ℕ) → IsAllowed side.history (Began session) → Outcome side session (Begin pair)
      (answer (add_event side (Began session)) (Begun (length side.history + 1)))
  lists : (path : Path) → is_directory (tree_of side.history) path ≡ true →
      Outcome side session (ListAt path)
      (answer side (Listed (length side.history) (children (mark (tree_of side.history)) path)))
  lists_none : (path : Path) → is_directory (tree_of side.history) path ≡ false →
      Outcome side session (ListAt path) (answer side (NotDir (length side.history)))
  fetches : (path : Path) (since offset : ℕ) → since ≤ length side.history →
      is_quiet side.history since (length side.history) path ≡ true →
      Outcome side session (Fetch path since offset)
      (answer side (Piece (length (spelling (subtree (tree_of side.history) path)))
      (take 32768 (drop offset (spelling (subtree (tree_of side.history) path))))))
  stages_first : (item offset : ℕ) (bytes : Bytes) → offset ≡ 0 →
      Outcome side session (Stage item offset bytes)
      (answer (set_staging side (record { token = token_of session item; bytes = bytes })) Staged)
  stages_more : (item offset : ℕ) (bytes : Bytes) (staging : Staging) →
      side.staging ≡ Some staging → is_same_token (token_of session item) staging.token ≡ true →
      offset ≡ length staging.bytes →
      Outcome side session (Stage item offset bytes) (answer (set_staging side
      (record { token = token_of session item; bytes = staging.bytes ++ bytes })) Staged)
  stages_again : (item offset : ℕ) (bytes : Bytes) →
      Outcome side session (Stage item offset bytes) (answer side Staged)
  done_again : (item : ℕ) (path : Path) (since size : ℕ) → option_map_or
      (λ last. is_same_token last (token_of session item)) (last_token side.history) false ≡ true →
      Outcome side session (Replace item path since size) (answer side Done)
  replaces : (item : ℕ) (path : Path) (since size : ℕ) (new : Tree) →
      Reads (staged_bytes side.staging) (Some new) →
      is_staged side.staging (token_of session item) ≡ true →
      length (staged_bytes side.staging) ≡ size → since ≤ length side.history →
      is_quiet side.history since (length side.history) path ≡ true →
      IsAllowed side.history (Replaced (token_of session item) path since new) →
      Outcome side session (Replace item path since size)
      (answer (add_event side (Replaced (token_of session item) path since new)) Done)

unless : (P : Served → Type 0) (side : Side) (reason : Option Refusal) (served : Served) →
    ((r : Refusal) → P (answer side (Refused r))) → (reason ≡ None → P served) →
    P (unless_refused side reason served)
unless P side None served h k = k refl
unless P side (Some r) served h k = h r

-- none of these causes is that a message belongs to nothing
abbrev all_belong : List Cause → Bool
all_belong [] = true
all_belong (cause ∷ causes) = belongs cause.1 && all_belong causes

unless_any : (P : Served → Type 0) (side : Side) (causes : List Cause) (served : Served) →
    all_belong causes ≡ true →
    ((r : Refusal) → belongs r ≡ true → P (answer side (Refused r))) →
    (first_cause causes ≡ None → P served) → P (unless_refused side (first_cause causes) served)
unless_any P side [] served known h k = k refl
unless_any P side (cause ∷ causes) served known h k =
    let each = and_parts (belongs cause.1) (all_belong causes) known in
    elim cause.0 as (λ b. ((if b then Some cause.1 else first_cause causes) ≡ None → P served)
    → P (unless_refused side (if b then Some cause.1 else first_cause causes) served)) [
      | true ↦ λ _. h cause.1 each.0
      | false ↦ λ rest. unless_any P side causes served each.1 h rest
    ] k

choose : (P : Served → Type 0) (b : Bool) (x y : Served) → (b ≡ true → P x) → (b ≡ false → P y) →
    P (if b then x else y)
choose P true x y h k = h refl
choose P false x y h k = k refl

not_above : (a b c : ℕ) → (nat_lt a b || nat_lt c a) ≡ false → a ≤ c
not_above a b c h = grind (arith, nat_tests)

since_holds : (history : History) (path : Path) (since : ℕ) →
    first_cause (since_causes history path since) ≡ None →
    (since ≤ length history) × (is_quiet history since (length history) path ≡ true)
since_holds history path since e =
    let one = first_cause-none (
      nat_lt since (floor history) || nat_lt (length history) since,
      BelowFloor,
    ) ((not (is_quiet history since (length history) path), Touched) ∷ []) e in
    let two = first_cause-none (not (is_quiet history since (length history) path), Touched)
    [] one.1 in
    (not_above since (floor history) (length history) one.0, not-false _ two.0)

first_outcome : (side : Side) (session item offset : ℕ) (bytes : Bytes) → Outcome side session
    (Stage item offset bytes) (stage_first side (token_of session item) offset bytes)
first_outcome side session item offset bytes =
    unless_any (Outcome side session (Stage item offset bytes)) side
    (first_causes offset bytes) _ refl (refuses _) (λ e.
    stages_first item offset bytes
    (eqb-true offset 0 (not-false _ (first_cause-none (not (offset == 0), NotStaged)
    ((not (nat_le (length bytes) greatest_spelling), BadStage) ∷ []) e).0)))

stage_outcome : (side : Side) (o : Option Staging) (session item offset : ℕ) (bytes : Bytes) →
    side.staging ≡ o → Outcome side session (Stage item offset bytes)
    (stage side o (token_of session item) offset bytes)
stage_outcome side None session item offset bytes e = first_outcome side session item offset bytes
stage_outcome side (Some staging) session item offset bytes e =
    let P = Outcome side session (Stage item offset bytes) in
    let token = token_of session item in
    choose P (is_below token staging.token) _ _ (λ _. refuses _ OldSession refl) (λ _.
    choose P (is_same_token token staging.token) _ _
    (λ same. choose P
    (offset == length staging.bytes && nat_le (length staging.bytes + length bytes) 526336) _ _
    (λ fits. stages_more item offset bytes staging e same
    (eqb-true offset (length staging.bytes) (and_parts (offset == length staging.bytes)
    (nat_le (length staging.bytes + length bytes) 526336) fits).0))
    (λ _. choose P (bytes_eq (take (length bytes) (drop offset staging.bytes)) bytes
    && nat_le (offset + length bytes) (length staging.bytes)) _ _
    (λ _. stages_again item offset bytes) (λ _. refuses _ BadStage refl)))
    (λ _. first_outcome side session item offset bytes))

with_outcome : (has_room : Event → Bool) (side : Side) (session item : ℕ) (path : Path)
    (since size : ℕ) (read : Option Tree) →
    IsLawfulToken (token_of session item) × IsPath path × (since < 2 ^ 64) →
    IsOfStaged (staged_bytes side.staging) read → option_map_or
    (λ last. is_same_token last (token_of session item)) (last_token side.history) false ≡ false →
    is_dead_token side (token_of session item) ≡ false →
    is_staged side.staging (token_of session item) ≡ true →
    length (staged_bytes side.staging) ≡ size → Outcome side session (Replace item path since size)
    (replace_with has_room side (token_of session item) path since read)
with_outcome has_room side session item path since size None lawful reads fresh alive staged long =
    refuses _ BadStage refl
with_outcome has_room side session item path since size
    (Some new) lawful reads fresh alive staged long =
    let token = token_of session item in
    unless_any (Outcome side session (Replace item path since size)) side
    (replace_causes has_room side token path since new) _ refl (refuses _) (λ e.
    let tree = tree_of side.history in
    let s = since_holds side.history path since (none-append (since_causes side.history path since)
    (place_causes tree path ++ (full_causes (replace tree path new) ++ (position_causes
    side.history ++ room_causes has_room (Replaced token path since new)))) e).0 in
    replaces item path since size new reads staged long s.0 s.1
    (replaced_allowed has_room side token path since new lawful reads.0 fresh alive e))

-- a piece comes from a path that nothing touched since
pub pieces_are_untouched : PiecesAreUntouched
pieces_are_untouched pair has_room side session path since offset served total bytes (inr none) is =
    absurd (let x : Refused Memory ≡ Piece total bytes = sym (ap (λ s. s.reply) none.1) ∙ is in cc)
pieces_are_untouched pair has_room side session path since offset served total bytes (inl s) is =
    unless (λ served. served.reply ≡ Piece total bytes → (since ≤ length side.history)
    × (is_quiet side.history since (length side.history) path ≡ true)) side
    (first_cause (since_causes side.history path since)) _
    (λ why e. absurd (let x : Refused why ≡ Piece total bytes = e in cc))
    (λ e _. since_holds side.history path since e) (sym (ap (λ s. s.reply) s.2) ∙ is)

serve_outcome : (pair : ℕ) (has_room : Event → Bool) (side : Side) (session : ℕ) (request : Request)
    (read : Option Tree) → IsOfStaged (staged_bytes side.staging) read →
    IsLawfulRequest session request →
    Outcome side session request (serve pair has_room read side session request)
serve_outcome pair has_room side session (ListAt path) read reads lawful =
    elim (is_directory (tree_of side.history) path)
    as (λ b. is_directory (tree_of side.history) path ≡ b →
    Outcome side session (ListAt path) (answer side (if b then Listed (length side.history)
    (children (mark (tree_of side.history)) path) else NotDir (length side.history))))
    [ true ↦ λ there. lists path there | false ↦ λ none. lists_none path none ] refl
serve_outcome pair has_room side session (Fetch path since offset) read reads lawful =
    unless_any (Outcome side session (Fetch path since offset)) side
    (since_causes side.history path since) _ refl (refuses _)
    (λ e. let s = since_holds side.history path since e in fetches path since offset s.0 s.1)
serve_outcome pair has_room side session (Stage item offset bytes) read reads lawful =
    stage_outcome side side.staging session item offset bytes refl
serve_outcome pair has_room side session (Begin asked) read reads lawful =
    let P = Outcome side session (Begin asked) in
    unless_any P side ((not (asked == pair), WrongPair)
    ∷ (nat_lt session (last_session side.history), OldSession) ∷ []) _ refl (refuses _) (λ e.
    choose P (session == last_session side.history) _ _
    (λ k. begins_again asked (eqb-true session (last_session side.history) k)) (λ k.
    unless_any P side
    (position_causes side.history ++ room_causes has_room (Began session)) _ refl (refuses _) (λ f.
    let second = first_cause-none (nat_lt session (last_session side.history), OldSession)
    [] (first_cause-none (not (asked == pair), WrongPair)
    ((nat_lt session (last_session side.history), OldSession) ∷ []) e).1 in
    begins asked (began_allowed side.history session lawful.0 second.0 k
    (none-append (position_causes side.history) (room_causes has_room (Began session)) f).0))))
serve_outcome pair has_room side session (Replace item path since size) read reads lawful =
    let token = token_of session item in
    let P = Outcome side session (Replace item path since size) in
    choose P (option_map_or (λ last. is_same_token last token) (last_token side.history) false) _ _
    (done_again item path since size) (λ fresh.
    unless_any P side
    ((is_dead_token side token, OldSession) ∷ (not (is_staged side.staging token), NotStaged)
    ∷ (not (length (staged_bytes side.staging) == size), BadStage) ∷ []) _ refl (refuses _) (λ e.
    let one = first_cause-none (is_dead_token side token, OldSession)
    ((not (is_staged side.staging token), NotStaged)
    ∷ (not (length (staged_bytes side.staging) == size), BadStage) ∷ []) e in
    let two = first_cause-none (not (is_staged side.staging token), NotStaged)
    ((not (length (staged_bytes side.staging) == size), BadStage) ∷ []) one.1 in
    let three = first_cause-none (not (length (staged_bytes side.staging) == size), BadStage)
    [] two.1 in
    with_outcome has_room side session item path since size read
    ((lawful.0, lawful.1.0), lawful.1.1, lawful.1.2) reads fresh one.0 (not-false _ two.0)
    (eqb-true (length (staged_bytes side.staging)) size (not-false _ three.0))))

-- what a side answers while no device fails
pub outcome : (pair : ℕ) (has_room : Event → Bool) (side : Side) (session : ℕ) (request : Request)
    (served : Served) → IsLawfulRequest session request →
    Serves pair has_room side session request served → Outcome side session request served
outcome pair has_room side session request served lawful (inl s) =
    let so = served_so pair has_room side session request served s.0 s.1 s.2 in
    subst (Outcome side session request) (sym so.2)
    (serve_outcome pair has_room side session request so.0 so.1 lawful)
outcome pair has_room side session request served lawful (inr none) =
    subst (Outcome side session request) (sym none.1) (refuses request why.Memory refl)

pub halted_outcome : (side : Side) (session : ℕ) (request : Request) →
    Outcome side session request (serve_halted side session request)
halted_outcome side session (Stage item offset bytes) =
    stage_outcome side side.staging session item offset bytes refl
halted_outcome side session (Begin pair) = refuses _ why.Halted refl
halted_outcome side session (ListAt path) = refuses _ why.Halted refl
halted_outcome side session (Fetch path since offset) = refuses _ why.Halted refl
halted_outcome side session (Replace item path since size) = refuses _ why.Halted refl

-- lack of memory to stage changes nothing
cannot_stage : (side : Side) (request : Request) (served : Served) →
    CannotStage side request served → served ≡ answer side (Refused why.Memory)
cannot_stage side (Stage item offset bytes) served none = none
cannot_stage side (Begin pair) served none = absurd none
cannot_stage side (ListAt path) served none = absurd none
cannot_stage side (Fetch path since offset) served none = absurd none
cannot_stage side (Replace item path since size) served none = absurd none

-- what it answers, halted or not; an event is added only where it is up
pub any_outcome : (status : Status) (pair : ℕ) (has_room : Event → Bool) (side : Side) (session : ℕ)
    (request : Request) (served : Served) → IsLawfulRequest session request →
    ServesAs status pair has_room side session request served → Outcome side session request served
any_outcome Up pair has_room side session request served lawful s =
    outcome pair has_room side session request served lawful s
any_outcome Halted pair has_room side session request served lawful (inl s) =
    subst (Outcome side session request) (sym s) (halted_outcome side session request)
any_outcome Halted pair has_room side session request served lawful (inr none) =
    subst (Outcome side session request) (sym (cannot_stage side request served none))
    (refuses request why.Memory refl)
any_outcome Down pair has_room side session request served lawful s = absurd s

-- a side that is not up adds no event
stage_same : (side : Side) (session item offset : ℕ) (bytes : List ℕ) (served : Served) →
    Outcome side session (Stage item offset bytes) served → served.side.history ≡ side.history
stage_same side session item offset bytes _ (refuses _ reason known) = refl
stage_same side session item offset bytes _ (stages_first _ _ _ z) = refl
stage_same side session item offset bytes _ (stages_more _ _ _ staging s t at) = refl
stage_same side session item offset bytes _ (stages_again _ _ _) = refl

halted_same : (side : Side) (session : ℕ) (request : Request) →
    (serve_halted side session request).side.history ≡ side.history
halted_same side session (Begin pair) = refl
halted_same side session (ListAt path) = refl
halted_same side session (Fetch path since offset) = refl
halted_same side session (Stage item offset bytes) =
    stage_same side session item offset bytes _
    (halted_outcome side session (Stage item offset bytes))
halted_same side session (Replace item path since size) = refl

pub unless_up_same : (status : Status) → status ≢ Up → (pair : ℕ) (has_room : Event → Bool)
    (side : Side) (session : ℕ) (request : Request) (served : Served) →
    ServesAs status pair has_room side session request served → served.side.history ≡ side.history
unless_up_same Up h pair has_room side session request served s = absurd (h refl)
unless_up_same Halted h pair has_room side session request served (inl s) =
    ap (λ x. x.side.history) s ∙ halted_same side session request
unless_up_same Halted h pair has_room side session request served (inr none) =
    ap (λ x. x.side.history) (cannot_stage side request served none)
unless_up_same Down h pair has_room side session request served s = absurd s
