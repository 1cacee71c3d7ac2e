-- A step of a side that has something else staged: the same reply, events and journal.
use Rattle.std.proofs.Common.{◌≡◌, ◌≢◌, ◌≤◌, ◌⊎◌, inl, inr, ℕ, Bool, true, false, ◌||◌}
use Rattle.std.proofs.Common.{◌&&◌, ◌==◌, ◌+◌, nat_lt, nat_le, if◌then◌else◌, List, [], ◌∷◌, ◌++◌}
use Rattle.std.proofs.Common.{length, take, drop, bytes_eq}
use Rattle.std.proofs.Common.{refl, sym, ap, ◌∙◌, subst, Option, Some, None, arith, true≢false}
use Rattle.std.proofs.lemmas.Bool.Decides.{nat_tests}
use Rattle.syn_model.specs.Path.{Bytes}
use Rattle.syn_model.specs.Tree.{Tree}
use Rattle.syn_model.specs.Refusal.{Refusal, OldSession, BadStage, Memory, first_cause}
use Rattle.syn_model.specs.Event.{Token, is_below, is_same_token, Event}
use Rattle.syn_model.specs.History.{History, last_session}
use Rattle.syn_machine.specs.Machine.{Status, Up, Halted, Down, Journaled, Writes, idle, written}
use Rattle.syn_machine.specs.Machine.{unwritten}
use Rattle.syn_machine.specs.Side.{Side, Served, Staging, Request, Begin, ListAt, Fetch, Stage}
use Rattle.syn_machine.specs.Side.{Replace, Reply, Staged, Refused, answer, unless_refused}
use Rattle.syn_machine.specs.Side.{token_of, serve, Serves, stage, stage_first, stage_more}
use Rattle.syn_machine.specs.Side.{set_staging, first_causes, IsLawfulRequest}
use Rattle.syn_machine.specs.SideMachine.{SideMachine, SideTakes, answers, adds, side_layout}
use Rattle.syn_machine.specs.SideMachine.{staging_after, has_room_for, ServesAs, ServesHalted}
use Rattle.syn_machine.specs.SideMachine.{serve_halted, CannotStage}
use Rattle.syn_runs.specs.Laws.{AddsAllowed}
use Rattle.syn_runs.proofs.SideLemmas.{serves_allowed}
use Rattle.syn_runs.proofs.GrownLemmas.{session_grows}
use Rattle.syn_runs.proofs.View.{longer}
use Rattle.syn_runs.proofs.OtherStaging.{having, restaged, IsPast, IsUpTo, IsNoStage, serve_kept}
use Rattle.syn_runs.proofs.OtherStaging.{IsBlind, serves_blind, begins, lists, fetches, replaces}
use Rattle.syn_runs.proofs.OtherStaging.{past_not_staged, past_not_below, past_not_same}

abbrev pub Journal : Type 0
Journal = Journaled History Event

abbrev pub machine_with : Journal → Option Staging → SideMachine
machine_with journal staging = record { journal = journal; staging = staging }

-- two stagings that are the same to a session: one, or both of earlier ones
abbrev pub AreAlike : ℕ → Option Staging → Option Staging → Type 0
AreAlike session a b = (a ≡ b) ⊎ (IsPast session a × IsPast session b)

halted_kept : (side : Side) (session : ℕ) (request : Request) → IsNoStage request →
    (serve_halted side session request).side.staging ≡ side.staging
halted_kept side session (Begin asked) free = refl
halted_kept side session (ListAt path) free = refl
halted_kept side session (Fetch path since offset) free = refl
halted_kept side session (Stage item offset bytes) free = absurd free
halted_kept side session (Replace item path since size) free = refl

stages_all : (side : Side) (request : Request) (served : Served) → IsNoStage request →
    CannotStage side request served → ⊥
stages_all side (Begin asked) served free cannot = cannot
stages_all side (ListAt path) served free cannot = cannot
stages_all side (Fetch path since offset) served free cannot = cannot
stages_all side (Stage item offset bytes) served free cannot = absurd free
stages_all side (Replace item path since size) served free cannot = cannot

module _ (pair : ℕ) (journal : Journal) (a : Option Staging) (session : ℕ) (request : Request) where
  abbrev Takes : SideMachine → Option Reply → List Event → Type 0
  Takes = SideTakes pair (machine_with journal a) session request

  -- a step that stages nothing leaves what is staged, unless the side stops
  pub takes_kept : IsNoStage request → (machine : SideMachine) (reply : Option Reply)
      (events : List Event) → Takes machine reply events →
      machine.staging ≡ staging_after machine.journal.status a
  takes_kept free _ _ _ (answers served serves same) = by journal.status serves
    where
      by : (status : Status) → ServesAs status pair (has_room_for pair (machine_with journal a))
          (having journal.value a) session request served →
          served.side.staging ≡ staging_after status a
      by Up (inl (read, reads, is)) =
          ap (λ s. s.side.staging) is
          ∙ serve_kept pair (has_room_for pair (machine_with journal a)) read journal.value a
          session request free
      by Up (inr (takes, is)) = ap (λ s. s.side.staging) is
      by Halted (inl is) =
          ap (λ s. s.side.staging) is ∙ halted_kept (having journal.value a) session request free
      by Halted (inr cannot) =
          absurd (stages_all (having journal.value a) request served free cannot)
      by Down none = absurd none
  takes_kept free _ _ _ (adds served event new events up serves same writes) = refl

  -- no session is begun that is below the last
  pub takes_grows : IsLawfulRequest session request → (machine : SideMachine)
      (reply : Option Reply) (events : List Event) → Takes machine reply events →
      last_session journal.value ≤ last_session machine.journal.value
  takes_grows lawful _ _ _ (answers served serves same) = omega arith
  takes_grows lawful _ _ _ (adds served event new events up serves same writes) =
      by new events writes
    where
      grown : last_session journal.value ≤ last_session (journal.value ++ event ∷ [])
      grown =
          session_grows journal.value (journal.value ++ event ∷ [])
          (subst (AddsAllowed journal.value) same
          (serves_allowed pair (has_room_for pair (machine_with journal a))
          (having journal.value a) session request served lawful serves))

      by : (new : Journal) (events : List Event) →
          Writes (side_layout pair) journal event new events →
          last_session journal.value ≤ last_session new.value
      by _ _ (idle is) = grown
      by _ _ (written arms is meets) = grown
      by _ _ (unwritten status arms failed is down meets) = omega arith

  -- it answers the same where it does not look at what is staged
  pub takes_blind : (b : Option Staging) → IsBlind journal.value a b session request →
      (machine : SideMachine) (reply : Option Reply) (events : List Event) →
      Takes machine reply events →
      SideTakes pair (machine_with journal b) session request
      (machine_with machine.journal (staging_after machine.journal.status b)) reply events
  takes_blind b blind _ _ _ (answers served serves same) =
      let so = by journal.status serves in
      subst (λ staging. SideTakes pair (machine_with journal b) session request
      (machine_with journal staging) (Some served.reply) []) (sym so.1)
      (answers (restaged b served) so.0 same)
    where
      halted : (request : Request) → IsBlind journal.value a b session request →
          ServesHalted (having journal.value a) session request served →
          ServesHalted (having journal.value b) session request (restaged b served)
      halted _ (begins asked) (inl is) = inl (ap (restaged b) is)
      halted _ (begins asked) (inr cannot) = absurd cannot
      halted _ (lists path) (inl is) = inl (ap (restaged b) is)
      halted _ (lists path) (inr cannot) = absurd cannot
      halted _ (fetches path since offset) (inl is) = inl (ap (restaged b) is)
      halted _ (fetches path since offset) (inr cannot) = absurd cannot
      halted _ (replaces item path since size reason x y) (inl is) = inl (ap (restaged b) is)
      halted _ (replaces item path since size reason x y) (inr cannot) = absurd cannot

      by : (status : Status) → ServesAs status pair (has_room_for pair (machine_with journal a))
          (having journal.value a) session request served →
          ServesAs status pair (has_room_for pair (machine_with journal b))
          (having journal.value b) session request (restaged b served)
          × (staging_after status b ≡ b)
      by Up serves = (
        serves_blind pair (has_room_for pair (machine_with journal a)) journal.value a b session
            request served blind serves,
        refl,
      )
      by Halted serves = (halted request blind serves, refl)
      by Down none = absurd none
  takes_blind b blind _ _ _ (adds served event new events up serves same writes) =
      adds (restaged b served) event new events up
      (serves_blind pair (has_room_for pair (machine_with journal a)) journal.value a b session
      request served blind serves) same writes

-- Listings and fetches change nothing

abbrev pub IsRead : Request → Type 0
IsRead (ListAt path) = Unit {0}
IsRead (Fetch path since offset) = Unit {0}
IsRead _ = ⊥

kept_history : (side : Side) (first : Option Refusal) (reply : Reply) →
    (unless_refused side first (answer side reply)).side.history ≡ side.history
kept_history side None reply = refl
kept_history side (Some reason) reply = refl

read_history : (pair : ℕ) (has_room : Event → Bool) (read : Option Tree) (side : Side)
    (session : ℕ) (request : Request) → IsRead request →
    (serve pair has_room read side session request).side.history ≡ side.history
read_history pair has_room read side session (Begin asked) is = absurd is
read_history pair has_room read side session (ListAt path) is = refl
read_history pair has_room read side session (Fetch path since offset) is = kept_history side _ _
read_history pair has_room read side session (Stage item offset bytes) is = absurd is
read_history pair has_room read side session (Replace item path since size) is = absurd is

-- What a request that adds nothing leaves
pub record AddsNothing (journal : Journal) (machine : SideMachine) (events : List Event) :
    Type 0 where
  pub journal_is : machine.journal ≡ journal
  pub not_down : journal.status ≢ Down
  pub no_event : events ≡ []

module _ (pair : ℕ) (journal : Journal) (a : Option Staging) (session : ℕ) (request : Request)
    (same_history : (has_room : Event → Bool) (read : Option Tree) →
    (serve pair has_room read (having journal.value a) session request).side.history
    ≡ journal.value) where
  nothing_down : (served : Served) (status : Status) →
      ServesAs status pair (has_room_for pair (machine_with journal a)) (having journal.value a)
      session request served → status ≢ Down
  nothing_down served Up serves down = let x : Up ≡ Down = down in cc
  nothing_down served Halted serves down = let x : Halted ≡ Down = down in cc
  nothing_down served Down none down = absurd none

  pub adds_nothing : (machine : SideMachine) (reply : Option Reply) (events : List Event) →
      SideTakes pair (machine_with journal a) session request machine reply events →
      AddsNothing journal machine events
  adds_nothing _ _ _ (answers served serves same) = record {
    journal_is = refl;
    not_down = nothing_down served journal.status serves;
    no_event = refl;
  }
  adds_nothing _ _ _ (adds served event new events up serves more writes) =
      absurd (longer journal.value event (sym (by serves) ∙ more))
    where
      by : Serves pair (has_room_for pair (machine_with journal a)) (having journal.value a) session
          request served → served.side.history ≡ journal.value
      by (inl (read, reads, is)) =
          ap (λ s. s.side.history) is
          ∙ same_history (has_room_for pair (machine_with journal a)) read
      by (inr (takes, is)) = ap (λ s. s.side.history) is

pub reads_nothing : (pair : ℕ) (journal : Journal) (a : Option Staging) (session : ℕ)
    (request : Request) → IsRead request → (machine : SideMachine) (reply : Option Reply)
    (events : List Event) →
    SideTakes pair (machine_with journal a) session request machine reply events →
    AddsNothing journal machine events
reads_nothing pair journal a session request is =
    adds_nothing pair journal a session request
    (λ has_room read. read_history pair has_room read (having journal.value a) session request is)

-- A piece that is staged

-- what is staged stays, or is of this session from now on, and was of no later one
abbrev pub StagesFor : ℕ → Option Staging → Option Staging → Type 0
StagesFor session old new = (new ≡ old) ⊎ (IsUpTo session old × IsUpTo session new)

not_later : (s i t j : ℕ) → (nat_lt s t || (s == t && nat_lt i j)) ≡ false → t ≤ s
not_later s i t j h = grind (arith, nat_tests)

module _ (side : Side) (token : Token) (offset : ℕ) (bytes : Bytes) where
  first_stages : IsUpTo token.session side.staging → (cause : Option Refusal) →
      StagesFor token.session side.staging (unless_refused side cause
      (answer (set_staging side (record { token = token; bytes = bytes })) Staged)).side.staging
  first_stages earlier None = inr (earlier, omega arith)
  first_stages earlier (Some reason) = inl refl

  more_stages : (had : Bytes) (goes_on again : Bool) → IsUpTo token.session side.staging →
      StagesFor token.session side.staging (if goes_on
      then answer (set_staging side (record { token = token; bytes = had ++ bytes })) Staged
      else if again then answer side Staged else answer side (Refused BadStage)).side.staging
  more_stages had true again earlier = inr (earlier, omega arith)
  more_stages had false true earlier = inl refl
  more_stages had false false earlier = inl refl

stages_by : (history : History) (staging : Staging) (token : Token) (offset : ℕ) (bytes : Bytes)
    (below same : Bool) → is_below token staging.token ≡ below →
    is_same_token token staging.token ≡ same →
    StagesFor token.session (Some staging) (if below
    then answer (having history (Some staging)) (Refused OldSession)
    else if same
    then stage_more (having history (Some staging)) token staging.bytes offset bytes
    else stage_first (having history (Some staging)) token offset bytes).side.staging
stages_by history staging token offset bytes true same is_below is_same = inl refl
stages_by history staging token offset bytes false true is_below is_same =
    more_stages (having history (Some staging)) token offset bytes staging.bytes _ _
    (not_later token.session token.item staging.token.session staging.token.item is_below)
stages_by history staging token offset bytes false false is_below is_same =
    first_stages (having history (Some staging)) token offset bytes
    (not_later token.session token.item staging.token.session staging.token.item is_below) _

stages : (history : History) (a : Option Staging) (token : Token) (offset : ℕ) (bytes : Bytes) →
    StagesFor token.session a (stage (having history a) a token offset bytes).side.staging
stages history None token offset bytes =
    first_stages (having history None) token offset bytes tt _
stages history (Some staging) token offset bytes =
    stages_by history staging token offset bytes _ _ refl refl

-- and the history
choose_history : (b : Bool) (x y : Served) (h : History) → x.side.history ≡ h →
    y.side.history ≡ h → (if b then x else y).side.history ≡ h
choose_history true x y h e f = e
choose_history false x y h e f = f

first_history : (side : Side) (token : Token) (offset : ℕ) (bytes : Bytes)
    (cause : Option Refusal) → (unless_refused side cause
    (answer (set_staging side (record { token = token; bytes = bytes })) Staged)).side.history
    ≡ side.history
first_history side token offset bytes None = refl
first_history side token offset bytes (Some reason) = refl

stage_history : (history : History) (a : Option Staging) (token : Token) (offset : ℕ)
    (bytes : Bytes) → (stage (having history a) a token offset bytes).side.history ≡ history
stage_history history None token offset bytes =
    first_history (having history None) token offset bytes _
stage_history history (Some staging) token offset bytes =
    choose_history (is_below token staging.token) _ _ history refl
    (choose_history (is_same_token token staging.token) _ _ history
    (choose_history (offset == length staging.bytes
    && nat_le (length staging.bytes + length bytes) 526336) _ _ history refl
    (choose_history (bytes_eq (take (length bytes) (drop offset staging.bytes)) bytes && nat_le
    (offset + length bytes) (length staging.bytes)) _ _ history refl refl))
    (first_history (having history (Some staging)) token offset bytes _))

pub stages_nothing : (pair : ℕ) (journal : Journal) (a : Option Staging) (session item offset : ℕ)
    (bytes : Bytes) (machine : SideMachine) (reply : Option Reply) (events : List Event) →
    SideTakes pair (machine_with journal a) session (Stage item offset bytes) machine reply events →
    AddsNothing journal machine events
stages_nothing pair journal a session item offset bytes =
    adds_nothing pair journal a session (Stage item offset bytes)
    (λ has_room read. stage_history journal.value a (token_of session item) offset bytes)

pub stages_for : (pair : ℕ) (journal : Journal) (a : Option Staging) (session item offset : ℕ)
    (bytes : Bytes) (machine : SideMachine) (reply : Option Reply) (events : List Event) →
    SideTakes pair (machine_with journal a) session (Stage item offset bytes) machine reply events →
    StagesFor session a machine.staging
stages_for pair journal a session item offset bytes _ _ _ (answers served serves same) =
    by journal.status serves
  where
    moved : served ≡ stage (having journal.value a) a (token_of session item) offset bytes →
        StagesFor session a served.side.staging
    moved is =
        subst (λ s. StagesFor session a s.side.staging) (sym is)
        (stages journal.value a (token_of session item) offset bytes)

    by : (status : Status) → ServesAs status pair (has_room_for pair (machine_with journal a))
        (having journal.value a) session (Stage item offset bytes) served →
        StagesFor session a served.side.staging
    by Up (inl (read, reads, is)) = moved is
    by Up (inr (takes, is)) = inl (ap (λ s. s.side.staging) is)
    by Halted (inl is) = moved is
    by Halted (inr is) = inl (ap (λ s. s.side.staging) is)
    by Down none = absurd none
stages_for pair journal a session item offset bytes _ _ _
    (adds served event new events up serves more writes) =
    absurd (longer journal.value event (sym (by serves) ∙ more))
  where
    by : Serves pair (has_room_for pair (machine_with journal a)) (having journal.value a) session
        (Stage item offset bytes) served → served.side.history ≡ journal.value
    by (inl (read, reads, is)) =
        ap (λ s. s.side.history) is
        ∙ stage_history journal.value a (token_of session item) offset bytes
    by (inr (takes, is)) = ap (λ s. s.side.history) is

-- the first piece of a session's item, whatever was staged for earlier sessions
module _ (history : History) (token : Token) (offset : ℕ) (bytes : Bytes) where
  as_first : (a : Option Staging) → IsPast token.session a →
      stage (having history a) a token offset bytes
      ≡ stage_first (having history a) token offset bytes
  as_first None past = refl
  as_first (Some staging) past =
      by (is_below token staging.token) (past_not_below token (Some staging) past)
      (is_same_token token staging.token) (past_not_same token staging past)
    where
      by : (below : Bool) → below ≡ false → (same : Bool) → same ≡ false → (if below
          then answer (having history (Some staging)) (Refused OldSession) else if same
          then stage_more (having history (Some staging)) token staging.bytes offset bytes
          else stage_first (having history (Some staging)) token offset bytes)
          ≡ stage_first (having history (Some staging)) token offset bytes
      by true e same f = absurd (true≢false e)
      by false e true f = absurd (true≢false f)
      by false e false f = refl

  alike_first : (a b : Option Staging) → IsPast token.session a → IsPast token.session b →
      (cause : Option Refusal) →
      let at : Option Staging → Served = λ staging. unless_refused (having history staging) cause
      (answer (set_staging (having history staging) (record { token = token; bytes = bytes }))
      Staged) in
      ((at b).reply ≡ (at a).reply) × AreAlike token.session (at a).side.staging (at b).side.staging
  alike_first a b past also None = (refl, inl refl)
  alike_first a b past also (Some reason) = (refl, inr (past, also))

  pub stage_alike : (a b : Option Staging) → IsPast token.session a → IsPast token.session b →
      let at : Option Staging → Served = λ staging. stage (having history staging) staging token
      offset bytes in
      ((at b).reply ≡ (at a).reply) × AreAlike token.session (at a).side.staging (at b).side.staging
  stage_alike a b past also =
      let first = alike_first a b past also (first_cause (first_causes offset bytes)) in (
        ap (λ s. s.reply) (as_first b also) ∙ (first.0 ∙ sym (ap (λ s. s.reply) (as_first a past))),
        subst (λ s. AreAlike token.session s.side.staging
            (stage (having history b) b token offset bytes).side.staging) (sym (as_first a past))
            (subst (λ s. AreAlike token.session
            (stage_first (having history a) token offset bytes).side.staging s.side.staging)
            (sym (as_first b also)) first.1),
      )

-- so it is staged in the same way over a staging that is the same to its session
pub record TakesAlike (pair : ℕ) (journal : Journal) (b : Option Staging) (session : ℕ)
    (request : Request) (machine : SideMachine) (reply : Option Reply) (events : List Event) :
    Type 0 where
  pub staging : Option Staging
  pub takes : SideTakes pair (machine_with journal b) session request
      (machine_with machine.journal staging) reply events
  pub alike : AreAlike session machine.staging staging

abbrev AnswersAlike : ℕ → Journal → Option Staging → ℕ → Request → Status → Served → Type 0
AnswersAlike pair journal b session request status served =
    (other : Served)
    × ServesAs status pair (has_room_for pair (machine_with journal b)) (having journal.value b)
    session request other
    × (other.reply ≡ served.reply) × (other.side.history ≡ journal.value)
    × AreAlike session served.side.staging other.side.staging

pub stage_takes : (pair : ℕ) (journal : Journal) (a b : Option Staging) (session item offset : ℕ)
    (bytes : Bytes) → AreAlike session a b → (machine : SideMachine) (reply : Option Reply)
    (events : List Event) →
    SideTakes pair (machine_with journal a) session (Stage item offset bytes) machine reply events →
    TakesAlike pair journal b session (Stage item offset bytes) machine reply events
stage_takes pair journal a b session item offset bytes (inl same) machine reply events takes =
    record {
      staging = machine.staging;
      takes = subst (λ s. SideTakes pair (machine_with journal s) session (Stage item offset bytes)
          machine reply events) same takes;
      alike = inl refl;
    }
stage_takes pair journal a b session item offset bytes (inr (past, also)) _ _ _
    (answers served serves same) =
    let so = by journal.status serves in
    record {
      staging = so.0.side.staging;
      takes = subst (λ reply. SideTakes pair (machine_with journal b) session
          (Stage item offset bytes) (machine_with journal so.0.side.staging) (Some reply) []) so.2
          (answers so.0 so.1 so.3);
      alike = so.4;
    }
  where
    by : (status : Status) → ServesAs status pair (has_room_for pair (machine_with journal a))
        (having journal.value a) session (Stage item offset bytes) served →
        AnswersAlike pair journal b session (Stage item offset bytes) status served
    by Up (inl (read, reads, is)) =
        let so = stage_alike journal.value (token_of session item) offset bytes a b past also in (
          stage (having journal.value b) b (token_of session item) offset bytes,
          inl (read, inr (λ x y. refl), refl),
          so.0 ∙ ap (λ s. s.reply) (sym is),
          stage_history journal.value b (token_of session item) offset bytes,
          subst (λ s. AreAlike session s.side.staging
              (stage (having journal.value b) b (token_of session item) offset bytes).side.staging)
              (sym is) so.1,
        )
    by Up (inr (goes_after, is)) =
        absurd (true≢false (sym goes_after.0
        ∙ past_not_staged (token_of session item) a past))
    by Halted (inl is) =
        let so = stage_alike journal.value (token_of session item) offset bytes a b past also in (
          stage (having journal.value b) b (token_of session item) offset bytes,
          inl refl,
          so.0 ∙ ap (λ s. s.reply) (sym is),
          stage_history journal.value b (token_of session item) offset bytes,
          subst (λ s. AreAlike session s.side.staging
              (stage (having journal.value b) b (token_of session item) offset bytes).side.staging)
              (sym is) so.1,
        )
    by Halted (inr is) = (
      answer (having journal.value b) (Refused Memory),
      inr refl,
      ap (λ s. s.reply) (sym is),
      refl,
      subst (λ s. AreAlike session s.side.staging b) (sym is) (inr (past, also)),
    )
    by Down none = absurd none
stage_takes pair journal a b session item offset bytes (inr (past, also)) _ _ _
    (adds served event new events up serves more writes) =
    absurd (longer journal.value event (sym (by serves) ∙ more))
  where
    by : Serves pair (has_room_for pair (machine_with journal a)) (having journal.value a) session
        (Stage item offset bytes) served → served.side.history ≡ journal.value
    by (inl (read, reads, is)) =
        ap (λ s. s.side.history) is
        ∙ stage_history journal.value a (token_of session item) offset bytes
    by (inr (takes, is)) = ap (λ s. s.side.history) is
