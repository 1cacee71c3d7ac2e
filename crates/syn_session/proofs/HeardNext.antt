-- What is heard where an answer is refused, where a listing goes on, and of which request it is.
use Rattle.std.proofs.Common.{◌≡◌, ◌⊎◌, ℕ, None, refl, sym, subst, inl, inr}
use Rattle.std.specs.Prelude.{Contains, IfOk, IsErrAnd, MatchResult, Result, Ok, Err}
use Rattle.syn_machine.specs.Coordinator.{Running, hearing}
use Rattle.syn_machine.specs.Network.{Which}
use Rattle.syn_machine.specs.Session.{BothBegun, fault_of}
use Rattle.syn_machine.specs.Side.{Begin, Fetch, ListAt, Replace, Request, Stage}
use Rattle.syn_machine.specs.Side as model
use Rattle.syn_message.specs.Requests.{request_of}
use Rattle.syn_message.specs.declared.request.Request.{Request as Asked}
use Rattle.syn_message.specs.declared.request.Request.TheVariants as has
use Rattle.syn_model.specs.Path.{Path}
use Rattle.syn_session.specs.Scanning.{WaitsFor}
use Rattle.syn_session.specs.declared.hearing.Heard.{Heard}
use Rattle.syn_session.specs.declared.session.Session.{Session}
use Rattle.syn_session.specs.Answering.{exchange_of}
use Rattle.syn_session.specs.inner.Listing.{KeepsFound, ScansNext}
use Rattle.syn_session.specs.Hearing.{EndsHearing, HasHeard, Hears, afterwards}
use Rattle.syn_refusal.specs.declared.refusal.Refusal.{Refusal as Why}
use Rattle.syn_refusal.specs.declared.refusal.Refusal.TheVariants.{Memory}
use Rattle.syn_session.specs.Stages.{IsToList, peer_of, requests_on}
use Rattle.syn_session.proofs.HearLemmas.{heard_new, scans_next}
use Rattle.syn_session.proofs.TellingLemmas.{tells_heard}

-- where it is refused
pub hears_refused : (session : Session) (running : Running) (side : Which) (number : ℕ)
    (request : Request) (reply : model.Reply) (result : Result Heard Why) (why : Why) →
    IsErrAnd result (λ e. e ≡ why) →
    EndsHearing session running (exchange_of side number request reply) why →
    Hears session running side number request reply result
hears_refused session running side number request reply (Ok next) why e ends = absurd e
hears_refused session running side number request reply (Err is) why e ends =
    subst (λ w. EndsHearing session running (exchange_of side number request reply) w) (sym e) ends

-- what is listed next is what comes of an answer, or that memory is refused for it
pub hears_next : {E : Type 0} (old new : Session) (running : Running) (side : Which) (number : ℕ)
    (request : Request) (reply : model.Reply) →
    let heard = hearing running (exchange_of side number request reply) in
    fault_of running.taken side request reply ≡ None → HasHeard old heard →
    BothBegun heard.taken →
    ((on : Which) → IsToList old on) →
    ((on : Which) (path : Path) → WaitsFor (peer_of old on).scan path →
    Contains (requests_on (peer_of old on)) (ListAt path)) → KeepsFound old new →
    (went : Result Heard E) → IfOk went (ScansNext old new) → (result : Result Heard Why) →
    MatchResult went (λ next. result ≡ Ok next) (λ _. IsErrAnd result (λ why. why ≡ Memory)) →
    Hears new running side number request reply result
hears_next old new running side number request reply fine has both lines out keeps (Ok next)
    is_next result is =
    let heard = hearing running (exchange_of side number request reply) in
    subst (Hears new running side number request reply) (sym is) (
      fine,
      heard_new old new heard has both lines out keeps,
      scans_next old new heard has both lines out keeps next is_next,
    )
hears_next old new running side number request reply fine has both lines out keeps (Err e)
    is_next result is =
    let heard = hearing running (exchange_of side number request reply) in
    hears_refused new running side number request reply result Memory is
    (afterwards fine refl (tells_heard new heard
    (heard_new old new heard has both lines out keeps)))

pub swapped : {A B : Type 0} → A ⊎ B → B ⊎ A
swapped (inl a) = inr a
swapped (inr b) = inl b

-- which requests these are
pub no_begin_in : (asked : Asked) (pair : ℕ) → ((x : ℕ) → asked ≡ has.Begin x → ⊥) →
    request_of asked ≡ Begin pair → ⊥
no_begin_in (has.Begin x) pair no_such e = no_such x refl
no_begin_in (has.List path) pair no_such e = cc
no_begin_in (has.Fetch path since offset) pair no_such e = cc
no_begin_in (has.Stage item offset bytes) pair no_such e = cc
no_begin_in (has.Replace item path since size) pair no_such e = cc

pub no_list_in : (asked : Asked) (path : Path) → ((x : Path) → asked ≡ has.List x → ⊥) →
    request_of asked ≡ ListAt path → ⊥
no_list_in (has.Begin x) path no_such e = cc
no_list_in (has.List at) path no_such e = no_such at refl
no_list_in (has.Fetch at since offset) path no_such e = cc
no_list_in (has.Stage item offset bytes) path no_such e = cc
no_list_in (has.Replace item at since size) path no_such e = cc
