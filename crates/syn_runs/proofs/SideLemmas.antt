-- A side adds only allowed events.
use Rattle.std.proofs.Common.{◌≡◌, ◌<◌, ◌^◌, ℕ, Bool, true, false, not, ◌||◌, ◌&&◌, ◌==◌, nat_lt}
use Rattle.std.proofs.Common.{nat_le, ◌⊎◌, [], ◌∷◌, ◌++◌, length, take, drop, bytes_eq}
use Rattle.std.proofs.Common.{if◌then◌else◌, refl, sym, ap, ◌∙◌, subst, Option, Some, None, inl}
use Rattle.std.proofs.Common.{inr, arith, ◌+◌}
use Rattle.std.specs.Option.{option_map_or}
use Rattle.std.proofs.lemmas.Bool.Decides.{nat_tests}
use Rattle.std.proofs.lemmas.Bool.{or_from, or_parts}
use Rattle.syn_model.specs.Path.{Path, Bytes, IsPath}
use Rattle.syn_model.specs.Version.{current_version}
use Rattle.syn_model.specs.Tree.{Tree, IsPart, replace}
use Rattle.syn_model.specs.Refusal.{Refusal, first_cause, OldSession, WrongPair, NotStaged}
use Rattle.syn_model.specs.Refusal.{BadStage}
use Rattle.syn_model.specs.Event.{Token, IsLawfulToken, is_below, is_same_token, Event, Began}
use Rattle.syn_model.specs.Event.{Replaced}
use Rattle.syn_model.specs.History.{History, tree_of, IsAllowed, last_session, last_token}
use Rattle.syn_model.specs.History.{position_causes}
use Rattle.syn_model.specs.Standing.{place_causes, full_causes}
use Rattle.syn_machine.specs.Side.{Side, Served, Staging, Request, Begin, ListAt, Fetch, Stage}
use Rattle.syn_machine.specs.Side.{Replace, IsLawfulRequest, unless_refused, stage, stage_first}
use Rattle.syn_machine.specs.Side.{replace_with, replace_causes, since_causes, room_causes}
use Rattle.syn_machine.specs.Side.{is_dead_token, serve, token_of, Reads, IsUnread, is_staged}
use Rattle.syn_machine.specs.Side.{staged_bytes}
use Rattle.syn_runs.specs.Laws.{AddsAllowed, ServesAllowed, ServesByReading}
use Rattle.syn_model.proofs.HistoryLemmas.{first_cause-none, none-append, append-none}
use Rattle.syn_model.proofs.ToldSpellings.{spelling_tells}

-- what is answered unless a cause stands adds what it adds where none stands
unless : (old : History) (side : Side) (why : Option Refusal) (served : Served) →
    side.history ≡ old → (why ≡ None → AddsAllowed old served.side.history) →
    AddsAllowed old (unless_refused side why served).side.history
unless old side None served e h = h refl
unless old side (Some why) served e h = inl e

choose : (old : History) (b : Bool) (x y : Served) → (b ≡ true → AddsAllowed old x.side.history) →
    (b ≡ false → AddsAllowed old y.side.history) → AddsAllowed old (if b then x else y).side.history
choose old true x y h k = h refl
choose old false x y h k = k refl

above_last_session : (m n : ℕ) → nat_lt m n ≡ false → (m == n) ≡ false → nat_le m n ≡ false
above_last_session m n h k = grind (arith, nat_tests)

later_numbers : (s i t j : ℕ) → (nat_lt s t || (s == t && nat_lt i j)) ≡ false →
    (t == s && j == i) ≡ false → (nat_lt t s || (t == s && nat_lt j i)) ≡ true
later_numbers s i t j h k = grind (arith, nat_tests)

later_token : (a b : Token) → is_below a b ≡ false → is_same_token b a ≡ false → is_below b a ≡ true
later_token a b h k = later_numbers a.session a.item b.session b.item h k

pub began_allowed : (history : History) (session : ℕ) → session < 2 ^ 64 →
    nat_lt session (last_session history) ≡ false → (session == last_session history) ≡ false →
    first_cause (position_causes history) ≡ None → IsAllowed history (Began session)
began_allowed history session lawful h k p = record {
  lawful = lawful;
  not_refused =
      ap (λ b. if b then Some OldSession else first_cause (position_causes history))
      (above_last_session session (last_session history) h k) ∙ p;
}

-- a token that is not dead and not the last is above the last
old_token : (history : History) (token : Token) (o : Option Token) →
    option_map_or (λ last. is_same_token last token) o false ≡ false →
    option_map_or (λ last. is_below token last) o false ≡ false →
    option_map_or (λ last. not (is_below last token)) o false ≡ false
old_token history token None h k = refl
old_token history token (Some last) h k = ap not (later_token token last k h)

pub replaced_allowed : (has_room : Event → Bool) (side : Side) (token : Token) (path : Path)
    (since : ℕ) (new : Tree) → IsLawfulToken token × IsPath path × (since < 2 ^ 64) → IsPart new →
    option_map_or (λ last. is_same_token last token) (last_token side.history) false ≡ false →
    is_dead_token side token ≡ false →
    first_cause (replace_causes has_room side token path since new) ≡ None →
    IsAllowed side.history (Replaced token path since new)
replaced_allowed has_room side token path since new lawful part fresh alive e =
    let tree = tree_of side.history in
    let one = none-append (since_causes side.history path since)
    (place_causes tree path ++ (full_causes (replace tree path new)
    ++ (position_causes side.history ++ room_causes has_room (Replaced token path since new)))) e
    in
    let two = none-append (place_causes tree path) (full_causes (replace tree path new)
    ++ (position_causes side.history ++ room_causes has_room (Replaced token path since new)))
    one.1 in
    let three = none-append (full_causes (replace tree path new)) (position_causes side.history
    ++ room_causes has_room (Replaced token path since new)) two.1 in
    let four = none-append (position_causes side.history)
    (room_causes has_room (Replaced token path since new)) three.1 in
    let staged = or_parts (token.session == 0 || not (token.session == last_session side.history)
    || option_map_or (λ last. is_below token last) (last_token side.history) false)
    (option_map_or (λ staging. is_below token staging.token) side.staging false) alive in
    let last = or_parts (token.session == 0 || not (token.session == last_session side.history))
    (option_map_or (λ last. is_below token last) (last_token side.history) false) staged.0 in
    record {
      lawful = (lawful.0, lawful.1, lawful.2, part);
      not_refused =
          ap (λ b. if b then Some OldSession else first_cause (place_causes tree path
          ++ (full_causes (replace tree path new) ++ position_causes side.history)))
          (or_from (token.session == 0 || not (token.session == last_session side.history)) _ last.0
          (old_token side.history token (last_token side.history) fresh last.1))
          ∙ append-none (place_causes tree path)
          (full_causes (replace tree path new) ++ position_causes side.history) two.0 (append-none
          (full_causes (replace tree path new)) (position_causes side.history) three.0 four.0);
    }

first_keeps : (side : Side) (token : Token) (offset : ℕ) (bytes : Bytes) →
    AddsAllowed side.history (stage_first side token offset bytes).side.history
first_keeps side token offset bytes = unless side.history side _ _ refl (λ _. inl refl)

stage_keeps : (side : Side) (o : Option Staging) (token : Token) (offset : ℕ) (bytes : Bytes) →
    AddsAllowed side.history (stage side o token offset bytes).side.history
stage_keeps side None token offset bytes = first_keeps side token offset bytes
stage_keeps side (Some staging) token offset bytes =
    choose side.history (is_below token staging.token) _ _ (λ _. inl refl) (λ _.
    choose side.history (is_same_token token staging.token) _ _
    (λ _. choose side.history (offset == length staging.bytes
    && nat_le (length staging.bytes + length bytes) 526336) _ _ (λ _. inl refl) (λ _.
    choose side.history (bytes_eq (take (length bytes) (drop offset staging.bytes)) bytes && nat_le
    (offset + length bytes) (length staging.bytes)) _ _ (λ _. inl refl) (λ _. inl refl)))
    (λ _. first_keeps side token offset bytes))

-- a part that is read is the staged one
abbrev pub IsOfStaged : Bytes → Option Tree → Type 0
IsOfStaged bytes None = Unit {0}
IsOfStaged bytes (Some tree) = Reads bytes (Some tree)

with_keeps : (has_room : Event → Bool) (side : Side) (token : Token) (path : Path) (since : ℕ)
    (read : Option Tree) (bytes : Bytes) →
    IsLawfulToken token × IsPath path × (since < 2 ^ 64) → IsOfStaged bytes read →
    option_map_or (λ last. is_same_token last token) (last_token side.history) false ≡ false →
    is_dead_token side token ≡ false →
    AddsAllowed side.history (replace_with has_room side token path since read).side.history
with_keeps has_room side token path since None bytes lawful reads fresh alive = inl refl
with_keeps has_room side token path since (Some new) bytes lawful reads fresh alive =
    unless side.history side
    (first_cause (replace_causes has_room side token path since new)) _ refl (λ e.
    inr (
      Replaced token path since new,
      replaced_allowed has_room side token path since new lawful reads.0 fresh alive e,
      refl,
    ))

by_request : (pair : ℕ) (has_room : Event → Bool) (side : Side) (session : ℕ) (request : Request)
    (read : Option Tree) → IsOfStaged (staged_bytes side.staging) read →
    IsLawfulRequest session request →
    AddsAllowed side.history (serve pair has_room read side session request).side.history
by_request pair has_room side session (ListAt path) read reads lawful = inl refl
by_request pair has_room side session (Fetch path since offset) read reads lawful =
    unless side.history side _ _ refl (λ _. inl refl)
by_request pair has_room side session (Stage item offset bytes) read reads lawful =
    stage_keeps side side.staging (token_of session item) offset bytes
by_request pair has_room side session (Begin asked) read reads lawful =
    unless side.history side (first_cause ((not (asked == pair), WrongPair)
    ∷ (nat_lt session (last_session side.history), OldSession) ∷ [])) _ refl (λ e.
    choose side.history (session == last_session side.history) _ _ (λ _. inl refl) (λ k.
    unless side.history side (first_cause
    (position_causes side.history ++ room_causes has_room (Began session))) _ refl (λ f.
    let second = first_cause-none (nat_lt session (last_session side.history), OldSession)
    [] (first_cause-none (not (asked == pair), WrongPair)
    ((nat_lt session (last_session side.history), OldSession) ∷ []) e).1 in
    inr (
      Began session,
      began_allowed side.history session lawful.0 second.0 k (none-append
          (position_causes side.history) (room_causes has_room (Began session)) f).0,
      refl,
    ))))
by_request pair has_room side session (Replace item path since size) read reads lawful =
    let token = token_of session item in
    choose side.history (option_map_or (λ last. is_same_token last token)
    (last_token side.history) false) _ _ (λ _. inl refl) (λ fresh.
    unless side.history side _ _ refl (λ e.
    with_keeps has_room side token path since read (staged_bytes side.staging)
    ((lawful.0, lawful.1.0), lawful.1.1, lawful.1.2) reads fresh
    (first_cause-none (is_dead_token side token, OldSession) ((
      not (is_staged side.staging token),
      NotStaged,
    ) ∷ (not (length (staged_bytes side.staging) == size), BadStage) ∷ []) e).0))

of_staged : (bytes : Bytes) (read : Option Tree) → Reads bytes read → IsOfStaged bytes read
of_staged bytes None reads = tt
of_staged bytes (Some tree) reads = reads

-- what is served by the staged part, or by none where it plays no part
pub served_so : (pair : ℕ) (has_room : Event → Bool) (side : Side) (session : ℕ) (request : Request)
    (served : Served) (read : Option Tree) →
    Reads (staged_bytes side.staging) read ⊎ IsUnread pair has_room side session request →
    served ≡ serve pair has_room read side session request → (by : Option Tree) × IsOfStaged
    (staged_bytes side.staging) by × (served ≡ serve pair has_room by side session request)
served_so pair has_room side session request served read (inl reads) is =
    (read, of_staged (staged_bytes side.staging) read reads, is)
served_so pair has_room side session request served read (inr unread) is =
    (None, tt, is ∙ unread read None)

-- a step of a side adds one allowed event at most
pub serves_allowed : ServesAllowed
serves_allowed pair has_room side session request served lawful (inr none) =
    inl (ap (λ s. s.side.history) none.1)
serves_allowed pair has_room side session request served lawful (inl s) =
    let so = served_so pair has_room side session request served s.0 s.1 s.2 in
    subst (λ x. AddsAllowed side.history x.side.history) (sym so.2)
    (by_request pair has_room side session request so.0 so.1 lawful)

-- two readings of the same bytes are one
one_reading : (bytes : Bytes) (a b : Option Tree) → Reads bytes a → Reads bytes b → a ≡ b
one_reading bytes None None ra rb = refl
one_reading bytes None (Some u) ra rb = absurd (ra u rb.0 rb.1 rb.2 rb.3)
one_reading bytes (Some t) None ra rb = absurd (rb t ra.0 ra.1 ra.2 ra.3)
one_reading bytes (Some t) (Some u) ra rb =
    ap (λ x. Some x)
    (spelling_tells current_version t u [] [] ra.0 rb.0 ra.1 rb.1
    (ap (λ s. s ++ []) (ra.3 ∙ sym rb.3))).0

-- so a step is the one that the staged bytes spell
pub serves_by_reading : ServesByReading
serves_by_reading pair has_room side session request served read reads (inr none) = inr none.1
serves_by_reading pair has_room side session request served read reads (inl (other, inl also, is)) =
    inl (is ∙ ap (λ r. serve pair has_room r side session request)
    (one_reading (staged_bytes side.staging) other read also reads))
serves_by_reading pair has_room side session request served read reads
    (inl (other, inr unread, is)) =
    inl (is ∙ unread other read)
