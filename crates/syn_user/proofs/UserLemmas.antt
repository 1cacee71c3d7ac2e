-- One request of a user and its reply.
use Rattle.std.proofs.Common.{◌≡◌, ℕ, Bool, true, false, refl, sym, ap, ap₂, ◌∙◌, Option, subst}
use Rattle.std.specs.Io.KnownBytes.{Appends}
use Rattle.std.specs.Prelude.{Result, Ok, Err, IfErr, IfOk}
use Rattle.syn_link.specs.Frames.{frame_of}
use Rattle.syn_message.specs.UserReplies.{user_reply_of}
use Rattle.syn_message.specs.Users.{IsLawfulUserRequestMessage, UserRequest, UserRequestMessage}
use Rattle.syn_message.specs.Users.{user_request_spelling}
use Rattle.syn_message.specs.declared.user_reply.UserReply.{UserReply}
use Rattle.syn_model.specs.Path.{Bytes}
use Rattle.syn_user.specs.Exchanges as failed
use Rattle.syn_user.specs.Exchanges.{BreaksOff, Fails, IsHeard, IsSent, IsUnheard}
use Rattle.syn_user.specs.Exchanges.{goes_on_after, number_after, request_at}
use Rattle.syn_user.specs.States.{IsUnread, ConnectionState}
use Rattle.syn_user.specs.declared.error.UserError.{UserError}
use Rattle.syn_user.specs.declared.error.UserError.TheVariants.{BadFrame, BadMessage, Device}
use Rattle.syn_user.specs.declared.error.UserError.TheVariants.{Memory, Refused, TooLarge}
use Rattle.syn_user.specs.inner.Parts as part
use Rattle.syn_user.specs.inner.Parts.{Breaks, HasNoBody, IsAnswered, IsSilent, is_refusal}

-- the state with another word on whether it goes on
abbrev pub with_goes : ConnectionState → Bool → ConnectionState
with_goes state goes = record {
  given = state.given;
  held = state.held;
  written = state.written;
  goes = goes;
  next = state.next;
}

-- what is left of a reply that may be refused
if_ok : {A E : Type 0} → (P Q : A → Type 0) (r : Result A E) → ((a : A) → P a → Q a) → IfOk r P
    → IfOk r Q
if_ok P Q (Ok a) to holds = to a holds
if_ok P Q (Err e) to holds = holds

if_err : {A E : Type 0} → (P Q : E → Type 0) (r : Result A E) → ((e : E) → P e → Q e) → IfErr r P
    → IfErr r Q
if_err P Q (Ok a) to holds = holds
if_err P Q (Err e) to holds = to e holds

-- the state with all of it but whether it goes on
abbrev pub state_with : ConnectionState → Option Bytes → Bytes → Option Bytes → ℕ → ConnectionState
state_with state given held written next = record {
  given = given;
  held = held;
  written = written;
  goes = state.goes;
  next = next;
}

-- the state after a request that was written
abbrev pub sent_state : ConnectionState → Option Bytes → ℕ → ConnectionState
sent_state state = state_with state state.given state.held

-- nothing was read as it was written
pub sent_from : (old : ConnectionState) (given : Option Bytes) (held : Bytes)
    (written : Option Bytes)
    (next : ℕ) → given ≡ old.given → held ≡ old.held
    → state_with old given held written next ≡ sent_state old written next
sent_from old given held written next = ap₂ (λ g h. state_with old g h written next)

module _ (old new : ConnectionState) (asked : UserRequestMessage) (written : Option Bytes)
    (next : ℕ)
    (lawful : IsLawfulUserRequestMessage asked)
    (adds : Appends old.written written (frame_of (user_request_spelling asked)))
    (follows : next ≡ number_after asked.number)
    (silent : IsSilent (sent_state old written next) new) where
  sent_whole : IsSent old new asked
  sent_whole = record {
    lawful = lawful;
    written = subst (λ w. Appends old.written w (frame_of (user_request_spelling asked)))
        (sym silent.0) adds;
    next = silent.2 ∙ follows;
  }

  -- it was sent, and a reply to it came
  pub answered_so : (r : Result UserReply UserError)
      → IfOk r (λ reply. IsHeard (sent_state old written next) new asked (user_reply_of reply))
      → IfOk r (λ reply. IsAnswered old new asked (user_reply_of reply))
  answered_so r = if_ok
      (λ reply. IsHeard (sent_state old written next) new asked (user_reply_of reply))
      (λ reply. IsAnswered old new asked (user_reply_of reply)) r
      (λ reply heard. record {
        sent = sent_whole;
        heard = record { answers = heard.answers; lawful = heard.lawful; came = heard.came };
      })

  unheard_before : (why : UserError) → IsUnheard (sent_state old written next) new asked why
      → IsUnheard old new asked why
  unheard_before (Refused why) unheard = unheard
  unheard_before Device unheard = unheard
  unheard_before Memory unheard = unheard
  unheard_before BadFrame unheard = unheard
  unheard_before TooLarge unheard = unheard
  unheard_before BadMessage unheard = unheard

  -- it was sent, and none came
  pub unanswered_so : (r : Result UserReply UserError)
      → IfErr r (λ why. IsUnheard (sent_state old written next) new asked why)
      → IfErr r (λ why. Breaks old new asked why)
  unanswered_so r = if_err (λ why. IsUnheard (sent_state old written next) new asked why)
      (λ why. Breaks old new asked why) r
      (λ why unheard. part.unheard why sent_whole (unheard_before why unheard))

-- a request that has no body was not sent
pub no_body : (state : ConnectionState) (asked : UserRequestMessage) (why : UserError)
    → HasNoBody asked why
    → Breaks state state asked why
no_body state asked why (part.too_long long) = part.too_long long refl
no_body state asked why part.wanting = part.unsent Memory refl (refl, refl)

sent_with : (old new : ConnectionState) (asked : UserRequestMessage) (goes : Bool)
    → IsSent old new asked
    → IsSent old (with_goes new goes) asked
sent_with old new asked goes sent =
    record { lawful = sent.lawful; written = sent.written; next = sent.next }

unsent_of : (old new : ConnectionState) (request : UserRequest) (why : UserError) → old.goes ≡ true
    → BreaksOff old new (request_at old request) why → IsUnread old new
    → Fails old (with_goes new (is_refusal why)) request why
unsent_of old new request (Refused why) was broken unread = absurd broken
unsent_of old new request Device was broken unread = failed.unsent Device was broken unread refl
unsent_of old new request Memory was broken unread = failed.unsent Memory was broken unread refl
unsent_of old new request BadFrame was broken unread = absurd broken
unsent_of old new request TooLarge was broken unread = absurd broken
unsent_of old new request BadMessage was broken unread = absurd broken

unheard_of : (old new : ConnectionState) (request : UserRequest) (why : UserError) → old.goes ≡ true
    → IsSent old new (request_at old request) → IsUnheard old new (request_at old request) why
    → Fails old (with_goes new (is_refusal why)) request why
unheard_of old new request (Refused why) was sent unheard = absurd unheard
unheard_of old new request Device was sent unheard =
    failed.unheard Device was (sent_with old new _ false sent) unheard refl
unheard_of old new request Memory was sent unheard =
    failed.unheard Memory was (sent_with old new _ false sent) unheard refl
unheard_of old new request BadFrame was sent unheard =
    failed.unheard BadFrame was (sent_with old new _ false sent) unheard refl
unheard_of old new request TooLarge was sent unheard =
    failed.unheard TooLarge was (sent_with old new _ false sent) unheard refl
unheard_of old new request BadMessage was sent unheard =
    failed.unheard BadMessage was (sent_with old new _ false sent) unheard refl

-- what breaks an exchange closes a connection that is open, but where the request was too long
pub fails_so : (old new : ConnectionState) (request : UserRequest) (why : UserError) → old.goes
    ≡ true
    → Breaks old new (request_at old request) why
    → Fails old (with_goes new (is_refusal why)) request why
fails_so old new request why was (part.too_long long is) =
    failed.too_long was long (ap (λ l. with_goes l true) is ∙ ap (with_goes old) (sym was))
fails_so old new request why was (part.unsent error broken unread) =
    unsent_of old new request error was broken unread
fails_so old new request why was (part.unheard error sent unheard) =
    unheard_of old new request error was sent unheard

module _ (A : Type 0) (old new : ConnectionState) (request : UserRequest) where
  unsent_goes : (why : UserError) → BreaksOff old new (request_at old request) why
      → new.goes ≡ false → new.goes ≡ goes_on_after {A = A} (Err why)
  unsent_goes (Refused why) broken shut = absurd broken
  unsent_goes Device broken shut = shut
  unsent_goes Memory broken shut = shut
  unsent_goes BadFrame broken shut = shut
  unsent_goes TooLarge broken shut = shut
  unsent_goes BadMessage broken shut = shut

  unheard_goes : (why : UserError) → IsUnheard old new (request_at old request) why
      → new.goes ≡ false → new.goes ≡ goes_on_after {A = A} (Err why)
  unheard_goes (Refused why) unheard shut = absurd unheard
  unheard_goes Device unheard shut = shut
  unheard_goes Memory unheard shut = shut
  unheard_goes BadFrame unheard shut = shut
  unheard_goes TooLarge unheard shut = shut
  unheard_goes BadMessage unheard shut = shut

  -- it goes on after a refusal of the replica alone
  pub fails_goes : (why : UserError) → Fails old new request why
      → new.goes ≡ goes_on_after {A = A} (Err why)
  fails_goes why (failed.refused refusal told) = told.goes
  fails_goes why (failed.too_long was long is) = ap (λ l. l.goes) is ∙ was
  fails_goes why (failed.closed shut is) = ap (λ l. l.goes) is ∙ shut
  fails_goes why (failed.unsent error was broken unread shut) = unsent_goes error broken shut
  fails_goes why (failed.unheard error was sent unheard shut) = unheard_goes error unheard shut

  -- on a closed connection 9 is answered
  pub fails_closed : (why : UserError) → old.goes ≡ false → Fails old new request why → why ≡ Device
  fails_closed why shut (failed.refused refusal told) = let went = told.went in absurd cc
  fails_closed why shut (failed.too_long was long is) = absurd cc
  fails_closed why shut (failed.closed is same) = refl
  fails_closed why shut (failed.unsent error was broken unread closed) = absurd cc
  fails_closed why shut (failed.unheard error was sent unheard closed) = absurd cc
