-- What a side says of itself: a replacement that it says is done stands in its history, and where
-- it says that a path is no directory the session had begun there.
use Rattle.std.proofs.Common.{◌≡◌, ◌⊎◌, ◌∙◌, ℕ, zero, suc, List, [], ◌∷◌, ◌++◌, Option, Some, None}
use Rattle.std.proofs.Common.{refl, sym, ap, subst, inl, inr, arith, append-nil, fold, true}
use Rattle.std.proofs.Common.{false}
use Rattle.std.specs.Prelude.{Contains}
use Rattle.std.specs.Option.{option_map_or}
use Rattle.std.proofs.lemmas.List.Elements.{Contains-append_left, Contains-append_right}
use Rattle.std.proofs.lemmas.List.Elements.{Contains-append_cases, Contains-push}
use Rattle.std.proofs.lemmas.Option.{none-some, same_Some}
use Rattle.syn_model.specs.Path.{Path}
use Rattle.syn_model.specs.Refusal.{Refusal, Device}
use Rattle.syn_model.specs.Event.{Token, Event, Edited, Began, Replaced, is_same_token}
use Rattle.syn_model.specs.History.{History, IsAllowed, last_session, last_token}
use Rattle.syn_model.specs.Standing.{token_after}
use Rattle.syn_model.specs.Archive.{Kept}
use Rattle.syn_machine.specs.Side.{Side, Served, Request, Begin, ListAt, Fetch, Stage, Replace}
use Rattle.syn_machine.specs.Side.{Reply, Begun, Listed, NotDir, Piece, Staged, Done, Refused}
use Rattle.syn_machine.specs.Side.{token_of}
use Rattle.syn_machine.specs.Network.{Which, Left, Right, other, Message, Asks, Answers, Sent}
use Rattle.syn_runs.specs.World.{Step}
use Rattle.syn_machine.specs.Planning.{Log}
use Rattle.syn_runs.specs.Acknowledged.{Ack}
use Rattle.syn_runs.specs.Picture.{Picture, SidePicture, SessionPicture, Follows, TakesRequest}
use Rattle.syn_runs.specs.Picture.{CoordinatorGoes, side_of, set_side, AllOfSession}
use Rattle.syn_runs.specs.Picture.{IsOfSession}
use Rattle.syn_runs.specs.Picture as picture
use Rattle.syn_runs.specs.Headline.{IsStart}
use Rattle.syn_runs.proofs.OutcomeLemmas.{Outcome, refuses, begins_again, begins, lists}
use Rattle.syn_runs.proofs.OutcomeLemmas.{lists_none, fetches, stages_first, stages_more}
use Rattle.syn_runs.proofs.OutcomeLemmas.{stages_again, done_again, replaces, any_outcome}
use Rattle.syn_runs.proofs.Invariant.{Plans, IsKept, IsSoundEvent, histories_of, plan_in}
use Rattle.syn_runs.specs.Picture.{IsOfPlan}
use Rattle.std.proofs.lemmas.List.{length-append, take-append-le}
use Rattle.std.proofs.Math.Seq.{take-length}
use Rattle.std.proofs.Common.{◌≤◌, length, take}
use Rattle.syn_machine.proofs.Heard.{sent_at}
use Rattle.syn_runs.proofs.StagedLemmas.{Moves, same_token}
use Rattle.syn_runs.proofs.AdvanceLemmas.{step_advances}
use Rattle.syn_promise.specs.Records.{HasPut}

-- so also after more events
pub put_more : (history more : History) (token : Token) → HasPut history token →
    HasPut (history ++ more) token
put_more history more token put = record {
  path = put.path;
  since = put.since;
  new = put.new;
  replaced = Contains-append_left history more _ put.replaced;
}

put_later : (event : Event) (history : History) (token : Token) → HasPut history token →
    HasPut (event ∷ history) token
put_later event history token put = record {
  path = put.path;
  since = put.since;
  new = put.new;
  replaced = Contains-append_right (event ∷ []) history _ put.replaced;
}

-- the last token of a history is that of a replacement in it
last_put_from : (was : Option Token) (events : History) (token : Token) →
    fold token_after was events ≡ Some token → (was ≡ Some token) ⊎ HasPut events token
last_put_from was [] token e = inl e
last_put_from was (Edited user edit ∷ events) token e =
    later (last_put_from was events token e)
  where
    later : (was ≡ Some token) ⊎ HasPut events token →
        (was ≡ Some token) ⊎ HasPut (Edited user edit ∷ events) token
    later (inl same) = inl same
    later (inr put) = inr (put_later (Edited user edit) events token put)
last_put_from was (Began session ∷ events) token e =
    later (last_put_from was events token e)
  where
    later : (was ≡ Some token) ⊎ HasPut events token →
        (was ≡ Some token) ⊎ HasPut (Began session ∷ events) token
    later (inl same) = inl same
    later (inr put) = inr (put_later (Began session) events token put)
last_put_from was (Replaced used path since new ∷ events) token e =
    later (last_put_from (Some used) events token e)
  where
    later : (Some used ≡ Some token) ⊎ HasPut events token →
        (was ≡ Some token) ⊎ HasPut (Replaced used path since new ∷ events) token
    later (inl same) = inr (record {
      path = path;
      since = since;
      new = new;
      replaced = (
        zero,
        omega arith,
        ap (λ t. Replaced t path since new) (same_Some used token same),
      );
    })
    later (inr put) = inr (put_later (Replaced used path since new) events token put)

last_put : (history : History) (token : Token) → last_token history ≡ Some token →
    HasPut history token
last_put history token e = by (last_put_from None history token e)
  where
    by : (None ≡ Some token) ⊎ HasPut history token → HasPut history token
    by (inl none) = absurd (none-some _ none)
    by (inr put) = put

last_is : (o : Option Token) (token : Token) →
    option_map_or (λ last. is_same_token last token) o false ≡ true → o ≡ Some token
last_is None token e = cc
last_is (Some last) token e = ap Some (same_token last token e)

set_history : (old : Picture) (which : Which) (machine : SidePicture) (sent : Sent)
    (acks : List Ack) (new : Picture) → new ≡ record (set_side old which machine)
    { sent = sent; acknowledged = acks } → histories_of new which ≡ machine.side.history
set_history old Left machine sent acks new e = ap (λ w. w.left.side.history) e
set_history old Right machine sent acks new e = ap (λ w. w.right.side.history) e

-- What a side says of itself: that a replacement is done, or that a path was no directory at a
-- position, by which the session had begun there
abbrev pub IsSaid : History → ℕ → Reply → Request → Type 0
IsSaid history session Done (Replace item path since size) =
    HasPut history (token_of session item)
IsSaid history session (NotDir position) (ListAt path) = (position ≤ length history)
    × (session ≤ last_session (take position history))
IsSaid history session reply request = Unit {0}

abbrev pub AllSaid : Picture → Type 0
AllSaid world = (from : Which) (session number : ℕ) (request : Request) (reply : Reply) →
    Contains world.sent (Answers from session number reply) →
    Contains world.sent (Asks from session number request) →
    IsSaid (histories_of world from) session reply request

said_more : (history more : History) (session : ℕ) (reply : Reply) (request : Request) →
    IsSaid history session reply request → IsSaid (history ++ more) session reply request
said_more history more session Done (Replace item path since size) said =
    put_more history more (token_of session item) said
said_more history more session (NotDir position) (ListAt path) (reached, begun) = (
  (let longer = length-append history more in omega (arith, reached, longer)),
  subst (λ h. session ≤ last_session h) (sym (take-append-le position history more reached)) begun,
)
said_more history more session Done (Begin pair) said = tt
said_more history more session Done (ListAt path) said = tt
said_more history more session Done (Fetch path since offset) said = tt
said_more history more session Done (Stage item offset bytes) said = tt
said_more history more session (NotDir position) (Begin pair) said = tt
said_more history more session (NotDir position) (Fetch path since offset) said = tt
said_more history more session (NotDir position) (Stage item offset bytes) said = tt
said_more history more session (NotDir position) (Replace item path since size) said = tt
said_more history more session (Begun position) request said = tt
said_more history more session (Listed position entries) request said = tt
said_more history more session (Piece total bytes) request said = tt
said_more history more session Staged request said = tt
said_more history more session (Refused why) request said = tt

-- what it answers
said_so : (side : Side) (session : ℕ) (request : Request) (served : Served) →
    Outcome side session request served →
    ((path : Path) → request ≡ ListAt path → session ≤ last_session side.history) →
    IsSaid served.side.history session served.reply request
said_so side session request _ (refuses _ reason _) begun = tt
said_so side session _ _ (begins_again pair last) begun = tt
said_so side session _ _ (begins pair allowed) begun = tt
said_so side session _ _ (lists at there) begun = tt
said_so side session _ _ (lists_none at none) begun = (
  omega arith,
  subst (λ h. session ≤ last_session h) (sym (take-length side.history)) (begun at refl),
)
said_so side session _ _ (fetches at from offset within quiet) begun = tt
said_so side session _ _ (stages_first at offset bytes first) begun = tt
said_so side session _ _ (stages_more at offset bytes staging has same on) begun = tt
said_so side session _ _ (stages_again at offset bytes) begun = tt
said_so side session _ _ (done_again at there from long last) begun =
    last_put side.history (token_of session at)
    (last_is (last_token side.history) (token_of session at) last)
said_so side session _ _
    (replaces at there from long new reads staged whole within quiet allowed) begun =
    record {
      path = there;
      since = from;
      new = new;
      replaced = Contains-push side.history (Replaced (token_of session at) there from new);
    }

no_message : (message : Message) → Contains [] message → ⊥
no_message message c = omega (arith, c.1)

one_message : (one message : Message) → Contains (one ∷ []) message → one ≡ message
one_message one message (zero, within, e) = e
one_message one message (suc i, within, e) = absurd (omega (arith, within))

module _ (plans later : Plans) (old : Picture) (k : IsKept plans old) (was : AllSaid old)
    (new : Picture) (kn : IsKept later new) (messages : Sent)
    (sends : new.sent ≡ old.sent ++ messages)
    (grows : (side : Which) → (more : History)
    × (histories_of new side ≡ histories_of old side ++ more)) where
  still_said : (side : Which) (session : ℕ) (reply : Reply) (request : Request) →
      IsSaid (histories_of old side) session reply request →
      IsSaid (histories_of new side) session reply request
  still_said side session reply request said =
      let more = grows side in
      subst (λ h. IsSaid h session reply request) (sym more.1)
      (said_more (histories_of old side) more.0 session reply request said)

  -- what was answered before was asked before
  asked_before : (from : Which) (session number : ℕ) (request : Request) (reply : Reply) →
      Contains old.sent (Answers from session number reply) →
      Contains new.sent (Asks from session number request) →
      Contains old.sent (Asks from session number request)
  asked_before from session number request reply answered asked =
      let known = k.sound.known from session number reply answered in
      subst (λ r. Contains old.sent (Asks from session number r))
      (kn.sound.numbers from session number known.0 request
      (subst (λ s. Contains s (Asks from session number known.0)) (sym sends)
      (Contains-append_left old.sent messages _ known.1)) asked) known.1

  -- so only what is said now is to be looked at
  all_said : ((from : Which) (session number : ℕ) (request : Request) (reply : Reply) →
      Contains messages (Answers from session number reply) →
      Contains new.sent (Asks from session number request) →
      IsSaid (histories_of new from) session reply request) → AllSaid new
  all_said now from session number request reply answered asked =
      by (Contains-append_cases old.sent messages (Answers from session number reply)
      (subst (λ s. Contains s (Answers from session number reply)) sends answered))
    where
      by : Contains old.sent (Answers from session number reply)
          ⊎ Contains messages (Answers from session number reply) →
          IsSaid (histories_of new from) session reply request
      by (inl before) = still_said from session reply request (was from session number request
          reply before (asked_before from session number request reply before asked))
      by (inr said) = now from session number request reply said asked

  none_said : messages ≡ [] → AllSaid new
  none_said none = all_said (λ from session number request reply said asked.
      absurd (no_message _ (subst (λ m. Contains m (Answers from session number reply)) none
      said)))

  -- a side says this to a request
  one_said : (which : Which) (session number : ℕ) (request : Request) (reply : Reply) →
      Contains old.sent (Asks which session number request) →
      messages ≡ Answers which session number reply ∷ [] →
      IsSaid (histories_of new which) session reply request → AllSaid new
  one_said which session number request reply asked is said = all_said
      (λ from s n other answer one asked_now. by from s n other answer asked_now
      (one_message (Answers which session number reply) (Answers from s n answer)
      (subst (λ m. Contains m (Answers from s n answer)) is one)))
    where
      by : (from : Which) (s n : ℕ) (other : Request) (answer : Reply) →
          Contains new.sent (Asks from s n other) →
          Answers which session number reply ≡ Answers from s n answer →
          IsSaid (histories_of new from) s answer other
      by from s n other answer asked_now same =
          let to : which ≡ from = cc in
          let of_session : session ≡ s = cc in
          let numbered : number ≡ n = cc in
          let said_is : reply ≡ answer = cc in
          let before : Contains new.sent (Asks which session number request) =
          subst (λ m. Contains m (Asks which session number request)) (sym sends)
          (Contains-append_left old.sent messages _ asked) in
          let here : Contains new.sent (Asks which session number other) =
          subst (λ w. Contains new.sent (Asks w session number other)) (sym to)
          (subst (λ t. Contains new.sent (Asks from t number other)) (sym of_session)
          (subst (λ m. Contains new.sent (Asks from s m other)) (sym numbered) asked_now)) in
          subst (λ w. IsSaid (histories_of new w) s answer other) to
          (subst (λ t. IsSaid (histories_of new which) t answer other) of_session
          (subst (λ r. IsSaid (histories_of new which) session r other) said_is
          (subst (IsSaid (histories_of new which) session reply)
          (kn.sound.numbers which session number request other before here) said)))

  -- a side is listed once it has begun the session
  listed_begun : (which : Which) (session number : ℕ) (request : Request) →
      Contains old.sent (Asks which session number request) → (path : Path) →
      request ≡ ListAt path → session ≤ last_session (histories_of old which)
  listed_begun which session number request asked path is =
      let of_request = k.sound.asked which session number request asked in
      let begun = subst (IsOfPlan of_request.pair old.sent session (plan_in plans session) which) is
      of_request.by_plan in
      k.sound.answered which session begun.begun.number (Begun begun.position) (Begin begun.pair)
      begun.begun.answered begun.begun.asked

  answer_said : (which : Which) (session number : ℕ) (request : Request) →
      Contains old.sent (Asks which session number request) →
      (a : picture.AnswersRequest old which session number request new) →
      messages ≡ Answers which session number a.served.reply ∷ [] → AllSaid new
  answer_said which session number request asked a is =
      one_said which session number request a.served.reply asked is
      (subst (λ h. IsSaid h session a.served.reply request) (sym (set_history old which
      (record (side_of old which) { side = a.served.side }) _ _ new a.result))
      (said_so (side_of old which).side session request a.served
      (any_outcome (side_of old which).status old.pair a.has_room (side_of old which).side
      session request a.served (k.sound.asked which session number request asked).lawful a.serves)
      (listed_begun which session number request asked)))

  -- the coordinator says nothing
  asks_said : (pair : ℕ) (sent : Sent) (running : Option SessionPicture) →
      AllOfSession pair sent running messages → AllSaid new
  asks_said pair sent None none = none_said none
  asks_said pair sent (Some r) all = all_said (λ from s n request reply said asked.
      absurd (subst (IsOfSession pair sent r) said.2 (all said.0 _ said.1)))

-- each history grows
pub grows_by : (plans : Plans) (old new : Picture) (which : Which) →
    Moves plans old.coordinator.archive (histories_of old) (histories_of new) which →
    (side : Which) → (more : History) × (histories_of new side ≡ histories_of old side ++ more)
grows_by plans old new which moves side = by which side moves.here moves.there
  where
    same : (side : Which) → histories_of new side ≡ histories_of old side →
        (more : History) × (histories_of new side ≡ histories_of old side ++ more)
    same side is = ([], is ∙ sym (append-nil (histories_of old side)))

    here : (side : Which) → (histories_of new side ≡ histories_of old side) ⊎ ((event : Event)
        × IsAllowed (histories_of old side) event
        × IsSoundEvent plans (histories_of old) old.coordinator.archive side event
        × (histories_of new side ≡ histories_of old side ++ event ∷ [])) →
        (more : History) × (histories_of new side ≡ histories_of old side ++ more)
    here side (inl is) = same side is
    here side (inr (event, allowed, sound, more)) = (event ∷ [], more)

    by : (which side : Which) → (histories_of new which ≡ histories_of old which)
        ⊎ ((event : Event) × IsAllowed (histories_of old which) event
        × IsSoundEvent plans (histories_of old) old.coordinator.archive which event
        × (histories_of new which ≡ histories_of old which ++ event ∷ [])) →
        histories_of new (other which) ≡ histories_of old (other which) →
        (more : History) × (histories_of new side ≡ histories_of old side ++ more)
    by Left Left at there = here Left at
    by Left Right at there = same Right there
    by Right Left at there = same Left there
    by Right Right at there = here Right at

set_sent : (old : Picture) (which : Which) (machine : SidePicture) →
    (set_side old which machine).sent ≡ old.sent
set_sent old Left machine = refl
set_sent old Right machine = refl

module _ (plans later : Plans) (old : Picture) (k : IsKept plans old) (was : AllSaid old)
    (new : Picture) (kn : IsKept later new) (grows : (side : Which) → (more : History)
    × (histories_of new side ≡ histories_of old side ++ more)) where
  silent_said : new.sent ≡ old.sent → AllSaid new
  silent_said same = none_said plans later old k was new kn []
      (same ∙ sym (append-nil old.sent)) grows refl

  says_nothing : new.sent ≡ old.sent ++ [] → AllSaid new
  says_nothing same = none_said plans later old k was new kn [] same grows refl

  request_said : (which : Which) (session number : ℕ) (request : Request) →
      Contains old.sent (Asks which session number request) →
      TakesRequest old which session number request new → AllSaid new
  request_said which session number request asked (picture.answered a) =
      answer_said plans later old k was new kn _ (ap (λ w. w.sent) a.result) grows which session
      number request asked a refl
  request_said which session number request asked (picture.request_failed event would e) =
      one_said plans later old k was new kn _ (ap (λ w. w.sent) e) grows which session number
      request (Refused Device) asked refl tt
  request_said which session number request asked (picture.request_cut event would e) =
      silent_said (ap (λ w. w.sent) e ∙ set_sent old which _)

  coordinator_said : (logged : Log) (D : Kept → Type 0) (R : Option SessionPicture → Type 0) →
      CoordinatorGoes old logged D R new → AllSaid new
  coordinator_said logged D R g = asks_said plans later old k was new kn g.messages
      (ap (λ w. w.sent) g.result) grows old.pair old.sent g.machine.running g.of_session

  goes_said : {step : Step} {told : List Refusal} → Follows old new step told → AllSaid new
  goes_said (picture.same step told idle e) = silent_said (ap (λ w. w.sent) e)
  goes_said (picture.edits which user edit machine events allowed up w e) =
      says_nothing (ap (λ w. w.sent) e)
  goes_said (picture.opens which step machine events by opens e) =
      says_nothing (ap (λ w. w.sent) e)
  goes_said (picture.changes which step status told settles e) =
      silent_said (ap (λ w. w.sent) e ∙ set_sent old which _)
  goes_said (picture.serves message which session number request at takes) =
      request_said which session number request (sent_at old.sent message _ at) takes
  goes_said (picture.starts_session preference up none g some reports) =
      coordinator_said [] _ _ g
  goes_said (picture.ticks_once running is g reports status again) = coordinator_said [] _ _ g
  goes_said (picture.takes_answer message from session number reply plan logged at expected made g
      reports heard) =
      coordinator_said logged _ _ g
  goes_said (picture.archive_changes step status told settles e) =
      silent_said (ap (λ w. w.sent) e)
  goes_said (picture.archive_opens step by e) = silent_said (ap (λ w. w.sent) e)
  goes_said (picture.archive_recovers step kept by writing can e) =
      silent_said (ap (λ w. w.sent) e)

pub step_said : (plans : Plans) (old : Picture) → IsKept plans old → AllSaid old → (new : Picture)
    {step : Step} {told : List Refusal} → Follows old new step told → AllSaid new
step_said plans old k was new g =
    let a = step_advances plans old k new g in
    goes_said plans a.later old k was new a.kept (grows_by plans old new a.which a.moves) g

pub start_said : (old : Picture) → IsStart old → AllSaid old
start_said old s from session number request reply answered asked =
    absurd (no_message _ (subst (λ m. Contains m (Answers from session number reply))
    s.nothing_yet.0 answered))
