-- What becomes of a repeated replacement.
use Rattle.std.proofs.Common.{◌≡◌, ℕ, Bool, true, false, not, ◌==◌, ◌&&◌, ◌||◌, nat_lt}
use Rattle.std.proofs.Common.{if◌then◌else◌, [], ◌∷◌, ◌++◌, length, refl, sym, ap, ◌∙◌, subst, Some}
use Rattle.std.proofs.Common.{None, Option, append_assoc, append-nil, arith, inl, inr}
use Rattle.std.proofs.lemmas.Bool.Decides.{nat_tests}
use Rattle.std.proofs.lemmas.Option.{none-some, same_Some}
use Rattle.std.specs.Option.{option_map_or}
use Rattle.std.proofs.lemmas.Bool.{eq-eqb, false≢true}
use Rattle.syn_model.specs.Path.{Path}
use Rattle.syn_model.specs.Refusal.{OldSession, NotStaged, BadStage, first_cause}
use Rattle.syn_model.specs.Event.{Event, Token, is_below, is_same_token, Edited, Began, Replaced}
use Rattle.syn_model.specs.History.{History, IsHistory, AllAllowed, last_session, last_token}
use Rattle.syn_model.specs.Tree.{Tree}
use Rattle.syn_machine.specs.Side.{Side, Served, Serves, Replace, Refused, Done, answer, token_of}
use Rattle.syn_machine.specs.Side.{is_last_token, is_dead_token, is_staged, staged_bytes}
use Rattle.syn_machine.specs.Side.{unless_refused, replace_with}
use Rattle.syn_runs.specs.Laws.{RepeatsAreDone, LaterAreOld, DeadAreOld}
use Rattle.syn_runs.proofs.StagedLemmas.{token_one}
use Rattle.syn_runs.proofs.TokenLemmas.{above_last, after_front}

itself : (token : Token) → is_same_token token token ≡ true
itself token = rw (eq-eqb token.session token.session refl, eq-eqb token.item token.item refl) refl

-- what a replacement is answered before what is staged is read
abbrev at_token : (has_room : Event → Bool) (side : Side) (token : Token) (path : Path)
    (since size : ℕ) (read : Option Tree) (done dead : Bool) → Served
at_token has_room side token path since size read done dead =
    if done then answer side Done
    else unless_refused side
    (first_cause ((dead, OldSession) ∷ (not (is_staged side.staging token), NotStaged)
    ∷ (not (length (staged_bytes side.staging) == size), BadStage) ∷ []))
    (replace_with has_room side token path since read)

-- the last token is done
pub last_is_done : (pair : ℕ) (has_room : Event → Bool) (side : Side) (session item : ℕ)
    (path : Path) (since size : ℕ) (served : Served) →
    is_last_token side (token_of session item) ≡ true →
    Serves pair has_room side session (Replace item path since size) served →
    served ≡ answer side Done
last_is_done pair has_room side session item path since size served is_last (inr (takes, _)) =
    absurd (false≢true (sym takes.0 ∙ is_last))
last_is_done pair has_room side session item path since size served is_last (inl (read, _, is)) =
    is ∙ ap (λ done. at_token has_room side (token_of session item) path since size read done
    (is_dead_token side (token_of session item))) is_last

pub repeats_are_done : RepeatsAreDone
repeats_are_done pair has_room side session item path since size served last serves =
    last_is_done pair has_room side session item path since size served
    (ap (λ o. option_map_or (λ last. is_same_token last (token_of session item)) o false) last
    ∙ itself (token_of session item)) serves

pub dead_are_old : DeadAreOld
dead_are_old pair has_room side session item path since size served differs dead serves =
    by serves
  where
    refused : (b : Bool) → b ≡ true → first_cause ((b, OldSession)
        ∷ (not (is_staged side.staging (token_of session item)), NotStaged)
        ∷ (not (length (staged_bytes side.staging) == size), BadStage) ∷ []) ≡ Some OldSession
    refused true is = refl
    refused false is = absurd (false≢true is)

    by : Serves pair has_room side session (Replace item path since size) served →
        served ≡ answer side (Refused OldSession)
    by (inr (takes, _)) = absurd (none-some OldSession (sym takes.1
        ∙ refused (is_dead_token side (token_of session item)) dead))
    by (inl (read, _, is)) =
        is ∙ (ap (λ done. at_token has_room side (token_of session item) path since size read done
        (is_dead_token side (token_of session item))) differs
        ∙ ap (λ dead. at_token has_room side (token_of session item) path since size read false
        dead) dead)

-- Tokens rise

not_above : (us ui ls li ts ti : ℕ) →
    ((us == ls && ui == li) || (nat_lt us ls || (us == ls && nat_lt ui li))) ≡ true →
    (nat_lt ls ts || (ls == ts && nat_lt li ti)) ≡ true →
    ((us == ts && ui == ti) || (nat_lt us ts || (us == ts && nat_lt ui ti))) ≡ true
not_above us ui ls li ts ti h k = grind (arith, nat_tests)

below_unless_same : (us ui ls li : ℕ) →
    ((us == ls && ui == li) || (nat_lt us ls || (us == ls && nat_lt ui li))) ≡ true →
    (ls == us && li == ui) ≡ false → (nat_lt us ls || (us == ls && nat_lt ui li)) ≡ true
below_unless_same us ui ls li h k = grind (arith, nat_tests)

-- a token is not above another
abbrev IsUpTo : Token → Token → Type 0
IsUpTo a b = (is_same_token a b || is_below a b) ≡ true

tokens_rise : (done events : History) (token last final : Token) → last_token done ≡ Some last →
    IsUpTo token last → AllAllowed done events → last_token (done ++ events) ≡ Some final →
    IsUpTo token final
tokens_rise done [] token last final e up all f =
    subst (IsUpTo token) (same_Some _ _ (sym e ∙ (ap last_token (sym (append-nil done)) ∙ f))) up
tokens_rise done (Edited user edit ∷ events) token last final e up all f =
    tokens_rise (done ++ Edited user edit ∷ []) events token last final
    (token_one None done (Edited user edit) ∙ e) up all.1
    (ap last_token (append_assoc done (Edited user edit ∷ []) events) ∙ f)
tokens_rise done (Began session ∷ events) token last final e up all f =
    tokens_rise (done ++ Began session ∷ []) events token last final
    (token_one None done (Began session) ∙ e) up all.1
    (ap last_token (append_assoc done (Began session ∷ []) events) ∙ f)
tokens_rise done (Replaced used path since new ∷ events) token last final e up all f =
    tokens_rise (done ++ Replaced used path since new ∷ []) events token used final
    (token_one None done (Replaced used path since new))
    (not_above token.session token.item last.session last.item used.session used.item up
    (above_last done last used path since new e all.0)) all.1
    (ap last_token (append_assoc done (Replaced used path since new ∷ []) events) ∙ f)

in_the_middle : (a b d : Bool) → (a || b || true || d) ≡ true
in_the_middle true b d = refl
in_the_middle false true d = refl
in_the_middle false false d = refl

pub later_are_old : LaterAreOld
later_are_old pair has_room side session item path since size served earlier later at from new last
    lawful is last_is differs serves =
    let token = token_of session item in
    let event = Replaced token at from new in
    let rest = after_front [] earlier (event ∷ later) (subst IsHistory is lawful) in
    let up = tokens_rise (earlier ++ event ∷ []) later token token last
    (token_one None earlier event) (ap (λ b. b || is_below token token) (itself token)) rest.1
    (ap last_token (append_assoc earlier (event ∷ []) later) ∙ (ap last_token (sym is) ∙ last_is))
    in
    let below : is_below token last ≡ true =
    below_unless_same token.session token.item last.session last.item up differs in
    let dead : is_dead_token side token ≡ true =
    ap (λ o. session == 0 || not (session == last_session side.history)
    || option_map_or (λ last. is_below token last) o false
    || option_map_or (λ staging. is_below token staging.token) side.staging false) last_is
    ∙ (ap (λ b. session == 0 || not (session == last_session side.history) || b
    || option_map_or (λ staging. is_below token staging.token) side.staging false) below
    ∙ in_the_middle (session == 0) (not (session == last_session side.history))
    (option_map_or (λ staging. is_below token staging.token) side.staging false)) in
    dead_are_old pair has_room side session item path since size served (ap
    (λ o. option_map_or (λ last. is_same_token last token) o false) last_is ∙ differs) dead serves

-- a history with a replacement has a last token
has_last : (done events : History) (token : Token) → last_token done ≡ Some token →
    (last : Token) × (last_token (done ++ events) ≡ Some last)
has_last done [] token is = (token, ap last_token (append-nil done) ∙ is)
has_last done (Edited user edit ∷ events) token is =
    let more = has_last (done ++ Edited user edit ∷ []) events token
    (token_one None done (Edited user edit) ∙ is) in
    (more.0, ap last_token (sym (append_assoc done (Edited user edit ∷ []) events)) ∙ more.1)
has_last done (Began session ∷ events) token is =
    let more = has_last (done ++ Began session ∷ []) events token
    (token_one None done (Began session) ∙ is) in
    (more.0, ap last_token (sym (append_assoc done (Began session ∷ []) events)) ∙ more.1)
has_last done (Replaced used path since new ∷ events) token is =
    let more = has_last (done ++ Replaced used path since new ∷ []) events used
    (token_one None done (Replaced used path since new)) in (
      more.0,
      ap last_token (sym (append_assoc done (Replaced used path since new ∷ []) events))
          ∙ more.1,
    )

-- so where a history has the token's replacement and its last token is another, it is old
pub replaced_is_old : (pair : ℕ) (has_room : Event → Bool) (side : Side) (session item : ℕ)
    (path : Path) (since size : ℕ) (served : Served) (earlier later : History) (at : Path)
    (from : ℕ) (new : Tree) → IsHistory side.history →
    side.history ≡ earlier ++ Replaced (token_of session item) at from new ∷ later →
    is_last_token side (token_of session item) ≡ false →
    Serves pair has_room side session (Replace item path since size) served →
    served ≡ answer side (Refused OldSession)
replaced_is_old pair has_room side session item path since size served earlier later at from new
    lawful is differs serves =
    let event = Replaced (token_of session item) at from new in
    let last = has_last (earlier ++ event ∷ []) later (token_of session item)
    (token_one None earlier event) in
    let last_is : last_token side.history ≡ Some last.0 =
    ap last_token (is ∙ sym (append_assoc earlier (event ∷ []) later)) ∙ last.1 in
    later_are_old pair has_room side session item path since size served earlier later at from new
    last.0 lawful is last_is
    (sym (ap (λ o. option_map_or (λ last. is_same_token last (token_of session item)) o false)
    last_is) ∙ differs) serves
