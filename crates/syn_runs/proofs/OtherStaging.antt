-- A side that has something else staged answers the same: to what does not look at what is staged,
-- and to what is staged or put under a token that neither staging is of.
use Rattle.std.proofs.Common.{◌≡◌, ◌<◌, ◌≤◌, inl, inr, ℕ, Bool, true, false, not, ◌||◌}
use Rattle.std.proofs.Common.{◌&&◌, ◌==◌, nat_lt, if◌then◌else◌, [], ◌∷◌, length}
use Rattle.std.proofs.Common.{refl, sym, ap, ◌∙◌, Option, Some, None, arith, true≢false}
use Rattle.std.specs.Option.{option_map_or}
use Rattle.std.proofs.lemmas.Bool.Decides.{nat_tests}
use Rattle.std.proofs.lemmas.Option.{none-some}
use Rattle.syn_model.specs.Path.{Path}
use Rattle.syn_model.specs.Tree.{Tree}
use Rattle.syn_model.specs.Refusal.{Refusal, Cause, OldSession, NotStaged, Memory, first_cause}
use Rattle.syn_model.specs.Refusal as why
use Rattle.syn_model.specs.Event.{Token, is_below, is_same_token, Event, Began}
use Rattle.syn_model.specs.History.{History, last_session, last_token}
use Rattle.syn_machine.specs.Side.{Side, Served, Staging, Request, Begin, ListAt, Fetch, Stage}
use Rattle.syn_machine.specs.Side.{Replace, Reply, Begun, Done, Refused, answer, add_event}
use Rattle.syn_machine.specs.Side.{unless_refused, replace_at, replace_with}
use Rattle.syn_machine.specs.Side.{token_causes, is_last_token, is_staged, token_of}
use Rattle.syn_machine.specs.Side.{staged_bytes, serve, Serves, IsUnread, TakesMemory}

-- the side with this staging
abbrev pub having : History → Option Staging → Side
having history staging = record { history = history; staging = staging }

-- and what was served, by one with that staging
abbrev pub restaged : Option Staging → Served → Served
restaged staging served = answer (having served.side.history staging) served.reply

-- what is staged is of an earlier session, or nothing is
abbrev pub IsPast : ℕ → Option Staging → Type 0
IsPast session None = Unit {0}
IsPast session (Some staging) = staging.token.session < session

-- or of no later one
abbrev pub IsUpTo : ℕ → Option Staging → Type 0
IsUpTo session None = Unit {0}
IsUpTo session (Some staging) = staging.token.session ≤ session

module _ (history : History) (a b : Option Staging) where
  begin_by : (event : Event) (first : Option Refusal) (again : Bool) (full : Option Refusal)
      (position next : ℕ) →
      unless_refused (having history b) first (if again
      then answer (having history b) (Begun position)
      else unless_refused (having history b) full
      (answer (add_event (having history b) event) (Begun next)))
      ≡ restaged b (unless_refused (having history a) first (if again
      then answer (having history a) (Begun position)
      else unless_refused (having history a) full
      (answer (add_event (having history a) event) (Begun next))))
  begin_by event (Some reason) again full position next = refl
  begin_by event None true full position next = refl
  begin_by event None false None position next = refl
  begin_by event None false (Some reason) position next = refl

  begin_kept : (event : Event) (first : Option Refusal) (again : Bool) (full : Option Refusal)
      (position next : ℕ) →
      (unless_refused (having history a) first (if again
      then answer (having history a) (Begun position)
      else unless_refused (having history a) full
      (answer (add_event (having history a) event) (Begun next)))).side.staging ≡ a
  begin_kept event (Some reason) again full position next = refl
  begin_kept event None true full position next = refl
  begin_kept event None false None position next = refl
  begin_kept event None false (Some reason) position next = refl

  answer_by : (first : Option Refusal) (reply : Reply) →
      unless_refused (having history b) first (answer (having history b) reply)
      ≡ restaged b (unless_refused (having history a) first (answer (having history a) reply))
  answer_by None reply = refl
  answer_by (Some reason) reply = refl

  answer_kept : (first : Option Refusal) (reply : Reply) →
      (unless_refused (having history a) first (answer (having history a) reply)).side.staging ≡ a
  answer_kept None reply = refl
  answer_kept (Some reason) reply = refl

-- a replacement leaves what is staged
module _ (has_room : Event → Bool) (side : Side) (token : Token) (path : Path) (since : ℕ) where
  put_kept : (causes : Option Refusal) (new : Tree) (done : Served) →
      done.side.staging ≡ side.staging →
      (unless_refused side causes done).side.staging ≡ side.staging
  put_kept None new done kept = kept
  put_kept (Some reason) new done kept = refl

  with_kept : (read : Option Tree) →
      (replace_with has_room side token path since read).side.staging ≡ side.staging
  with_kept None = refl
  with_kept (Some new) = put_kept _ new _ refl

  replace_kept : (again : Bool) (first : Option Refusal) (read : Option Tree) →
      (if again then answer side Done else unless_refused side first
      (replace_with has_room side token path since read)).side.staging ≡ side.staging
  replace_kept true first read = refl
  replace_kept false None read = with_kept read
  replace_kept false (Some reason) read = refl

-- a request that stages nothing
abbrev pub IsNoStage : Request → Type 0
IsNoStage (Stage item offset bytes) = ⊥
IsNoStage _ = Unit {0}

-- leaves what is staged
pub serve_kept : (pair : ℕ) (has_room : Event → Bool) (read : Option Tree) (history : History)
    (a : Option Staging) (session : ℕ) (request : Request) → IsNoStage request →
    (serve pair has_room read (having history a) session request).side.staging ≡ a
serve_kept pair has_room read history a session (Begin asked) free =
    begin_kept history a a (Began session) _ (session == last_session history) _ _ _
serve_kept pair has_room read history a session (ListAt path) free = refl
serve_kept pair has_room read history a session (Fetch path since offset) free =
    answer_kept history a a _ _
serve_kept pair has_room read history a session (Stage item offset bytes) free = absurd free
serve_kept pair has_room read history a session (Replace item path since size) free =
    replace_kept has_room (having history a) (token_of session item) path since _ _ read

-- A replacement that is done, or refused for its token whatever is read
abbrev IsRefusedAs : History → Option Staging → Token → ℕ → Refusal → Type 0
IsRefusedAs history staging token size reason =
    first_cause (token_causes (having history staging) token size) ≡ Some reason

abbrev told_again : History → Token → Refusal → Reply
told_again history token reason = if is_last_token (having history None) token then Done
    else Refused reason

module _ (has_room : Event → Bool) (history : History) (staging : Option Staging) (token : Token)
    (path : Path) (since size : ℕ) (reason : Refusal) (read : Option Tree) where
  refused_by : (again : Bool) (first : Option Refusal) → first ≡ Some reason →
      (if again then answer (having history staging) Done
      else unless_refused (having history staging) first
      (replace_with has_room (having history staging) token path since read))
      ≡ answer (having history staging) (if again then Done else Refused reason)
  refused_by true first is = refl
  refused_by false first is =
      ap (λ o. unless_refused (having history staging) o
      (replace_with has_room (having history staging) token path since read)) is

  refused_so : IsRefusedAs history staging token size reason →
      replace_at has_room (having history staging) token path since size read
      ≡ answer (having history staging) (told_again history token reason)
  refused_so is = refused_by (is_last_token (having history None) token) _ is

-- the part of a dead token that the history tells
abbrev is_dead_in : History → Token → Bool
is_dead_in history token =
    token.session == 0 || not (token.session == last_session history)
    || option_map_or (λ last. is_below token last) (last_token history) false

dead_by : (dead rest : Bool) (size : Bool) → dead ≡ true →
    first_cause ((dead || rest, OldSession) ∷ (size, NotStaged) ∷ []) ≡ Some OldSession
dead_by true rest size e = refl
dead_by false rest size e = absurd (true≢false (sym e))

of_another : (zero_session same below : Bool) → same ≡ false →
    (zero_session || not same || below) ≡ true
of_another true same below e = ap (λ s. true) e
of_another false true below e = absurd (true≢false e)
of_another false false below e = refl

-- a token of another session than the one begun last
pub dead_elsewhere : (history : History) (staging : Option Staging) (token : Token) (size : ℕ) →
    (token.session == last_session history) ≡ false →
    IsRefusedAs history staging token size OldSession
dead_elsewhere history staging token size other =
    by (is_dead_in history token) (of_another (token.session == 0)
    (token.session == last_session history) _ other)
    (option_map_or (λ s. is_below token s.token) staging false)
  where
    by : (dead : Bool) → dead ≡ true → (rest : Bool) → first_cause ((dead || rest, OldSession)
        ∷ (not (is_staged staging token), NotStaged)
        ∷ (not (length (staged_bytes staging) == size), why.BadStage) ∷ []) ≡ Some OldSession
    by true e rest = refl
    by false e rest = absurd (true≢false (sym e))

not_below : (s i t j : ℕ) → t < s → (nat_lt s t || (s == t && nat_lt i j)) ≡ false
not_below s i t j h = grind (arith, nat_tests)

not_same : (s i t j : ℕ) → t < s → (s == t && i == j) ≡ false
not_same s i t j h = grind (arith, nat_tests)

not_same_back : (s i t j : ℕ) → t < s → (t == s && j == i) ≡ false
not_same_back s i t j h = grind (arith, nat_tests)

pub past_not_below : (token : Token) (staging : Option Staging) → IsPast token.session staging →
    option_map_or (λ s. is_below token s.token) staging false ≡ false
past_not_below token None past = refl
past_not_below token (Some s) past = not_below token.session token.item s.token.session s.token.item
    past

pub past_not_staged : (token : Token) (staging : Option Staging) → IsPast token.session staging →
    is_staged staging token ≡ false
past_not_staged token None past = refl
past_not_staged token (Some s) past =
    not_same_back token.session token.item s.token.session s.token.item past

pub past_not_same : (token : Token) (staging : Staging) → staging.token.session < token.session →
    is_same_token token staging.token ≡ false
past_not_same token staging past =
    not_same token.session token.item staging.token.session staging.token.item past

-- a token of which nothing is staged
pub nothing_staged : (history : History) (staging : Option Staging) (token : Token) (size : ℕ) →
    IsPast token.session staging → IsRefusedAs history staging token size
    (if is_dead_in history token then OldSession else NotStaged)
nothing_staged history staging token size past =
    by (is_dead_in history token) (option_map_or (λ s. is_below token s.token) staging false)
    (past_not_below token staging past) (is_staged staging token) (past_not_staged token staging
    past)
  where
    by : (dead rest : Bool) → rest ≡ false → (staged : Bool) → staged ≡ false →
        first_cause ((dead || rest, OldSession) ∷ (not staged, NotStaged)
        ∷ (not (length (staged_bytes staging) == size), why.BadStage) ∷ [])
        ≡ Some (if dead then OldSession else NotStaged)
    by true rest e staged f = refl
    by false true e staged f = absurd (true≢false e)
    by false false e true f = absurd (true≢false f)
    by false false e false f = refl

-- A replacement does not look at either staging
pub data IsBlind (history : History) (a b : Option Staging) (session : ℕ) : Request → Type 0 where
  begins : (pair : ℕ) → IsBlind history a b session (Begin pair)
  lists : (path : Path) → IsBlind history a b session (ListAt path)
  fetches : (path : Path) (since offset : ℕ) → IsBlind history a b session (Fetch path since offset)
  replaces : (item : ℕ) (path : Path) (since size : ℕ) (reason : Refusal) →
      IsRefusedAs history a (token_of session item) size reason →
      IsRefusedAs history b (token_of session item) size reason →
      IsBlind history a b session (Replace item path since size)

pub serve_blind : (pair : ℕ) (has_room : Event → Bool) (read : Option Tree) (history : History)
    (a b : Option Staging) (session : ℕ) (request : Request) → IsBlind history a b session request →
    serve pair has_room read (having history b) session request
    ≡ restaged b (serve pair has_room read (having history a) session request)
serve_blind pair has_room read history a b session _ (begins asked) =
    begin_by history a b (Began session) _ (session == last_session history) _ _ _
serve_blind pair has_room read history a b session _ (lists path) = refl
serve_blind pair has_room read history a b session _ (fetches path since offset) =
    answer_by history a b _ _
serve_blind pair has_room read history a b session _ (replaces item path since size reason x y) =
    refused_so has_room history b (token_of session item) path since size reason read y
    ∙ sym (ap (restaged b)
    (refused_so has_room history a (token_of session item) path since size reason read x))

pub blind_unread : (pair : ℕ) (has_room : Event → Bool) (history : History)
    (a b : Option Staging) (session : ℕ) (request : Request) → IsBlind history a b session request →
    IsUnread pair has_room (having history b) session request
blind_unread pair has_room history a b session _ (begins asked) = λ x y. refl
blind_unread pair has_room history a b session _ (lists path) = λ x y. refl
blind_unread pair has_room history a b session _ (fetches path since offset) = λ x y. refl
blind_unread pair has_room history a b session _ (replaces item path since size reason x y) =
    λ r s. refused_so has_room history b (token_of session item) path since size reason r y
    ∙ sym (refused_so has_room history b (token_of session item) path since size reason s y)

pub blind_memory : (pair : ℕ) (has_room : Event → Bool) (history : History)
    (a b : Option Staging) (session : ℕ) (request : Request) → IsBlind history a b session request →
    TakesMemory pair has_room (having history a) session request →
    TakesMemory pair has_room (having history b) session request
blind_memory pair has_room history a b session _ (begins asked) takes =
    begin_by history a b (Began session) _ (session == last_session history) _ _ _
    ∙ ap (restaged b) takes
blind_memory pair has_room history a b session _ (lists path) takes = takes
blind_memory pair has_room history a b session _ (fetches path since offset) takes = takes
blind_memory pair has_room history a b session _ (replaces item path since size reason x y) takes =
    absurd (none-some _ (sym takes.1 ∙ x))

-- so it is served the same
pub serves_blind : (pair : ℕ) (has_room : Event → Bool) (history : History)
    (a b : Option Staging) (session : ℕ) (request : Request) (served : Served) →
    IsBlind history a b session request →
    Serves pair has_room (having history a) session request served →
    Serves pair has_room (having history b) session request (restaged b served)
serves_blind pair has_room history a b session request served blind (inl (read, reads, is)) =
    inl (
      read,
      inr (blind_unread pair has_room history a b session request blind),
      ap (restaged b) is
          ∙ sym (serve_blind pair has_room read history a b session request blind),
    )
serves_blind pair has_room history a b session request served blind (inr (takes, is)) =
    inr (
      blind_memory pair has_room history a b session request blind takes,
      ap (restaged b) is,
    )
