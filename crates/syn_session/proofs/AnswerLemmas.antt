-- A session whose answer has come.
use Rattle.std.proofs.Common.{◌≡◌, ◌≤◌, ◌<◌, ◌^◌, ◌+◌, ◌==◌, ℕ, not, cond}
use Rattle.std.proofs.Common.{List, [], ◌∷◌, ◌++◌, length, Some, refl, sym, ap, ap₂, ◌∙◌, Option}
use Rattle.std.proofs.Common.{subst, inl, inr, arith, option_map}
use Rattle.std.specs.Prelude.{All}
use Rattle.std.specs.List.{count_by}
use Rattle.std.proofs.lemmas.List.Elements.{All-filter, Contains-push_cases}
use Rattle.std.proofs.lemmas.List.Sums.{sum_by-append}
use Rattle.syn_machine.specs.Coordinator.{AreRising, MayWait, Running, outstanding}
use Rattle.syn_machine.specs.Coordinator.{asked_in, hearing, without}
use Rattle.syn_machine.specs.Network.{Which, Left, Right, other, is_side}
use Rattle.syn_machine.specs.Session.{Exchange, WasAsked}
use Rattle.syn_machine.specs.Side.{Request}
use Rattle.syn_machine.specs.Side as model
use Rattle.syn_machine.proofs.WaitingLemmas.{asked_waits}
use Rattle.syn_machine.proofs.Rising.{one_less, without-rising}
use Rattle.syn_model.specs.Archive as archive
use Rattle.syn_session.specs.declared.session.Session.{Session}
use Rattle.syn_session.specs.Answering.{IsAnswering, IsHeard, exchange_of}
use Rattle.syn_session.specs.Sessions.{IsPeer, IsSession}
use Rattle.syn_session.specs.Stages.{AreOfSession, peer_of, waiting_of}
use Rattle.syn_session.proofs.WaitingLemmas.{in_filter, may_less}
use Rattle.syn_path.specs.Sides.{which_of}
use Rattle.syn_path.specs.declared.side.Side.{Side}

count_then : (side : Which) (taken : List Exchange) (exchange : Exchange) →
    count_by (λ one. is_side side one.side) (taken ++ exchange ∷ [])
    ≡ count_by (λ one. is_side side one.side) taken + (0 + cond (is_side side exchange.side) 1 0)
count_then side taken exchange =
    sum_by-append (λ one. cond (is_side side one.side) 1 0) taken (exchange ∷ [])

module _ (kept : archive.Archive) (old new : Session) (running : Running) (side : Which)
    (number : ℕ) (request : Request) (reply : model.Reply) (is : IsSession kept old running)
    (answers : IsAnswering old new side number request) where
  abbrev exchange_now : Exchange
  exchange_now = exchange_of side number request reply

  -- what waits on the side then
  left_now : waiting_of (peer_of new side) ≡ without number (waiting_of (peer_of old side))
  left_now = answers.taken.waits (is.peer side).rising

  own : (on : Which) → on ≡ side → (waits :
      outstanding (hearing running exchange_now) on ≡ without number (outstanding running on)) →
      (count : count_by (λ one. is_side on one.side) (running.taken ++ exchange_now ∷ [])
      ≡ count_by (λ one. is_side on one.side) running.taken + 1) →
      IsPeer (peer_of new on) (hearing running exchange_now) on
  own on e waits count =
      let answered =
      subst (λ s. (asked_in (waiting_of (peer_of old s)) number ≡ Some request)
      × (waiting_of (peer_of new s) ≡ without number (waiting_of (peer_of old s)))
      × ((peer_of new s).next_number ≡ (peer_of old s).next_number))
      (sym e) (answers.asked, left_now, answers.count) in
      let now = waits ∙ (ap (without number) (is.peer on).waits ∙ sym answered.1) in
      let less = one_less (waiting_of (peer_of old on)) number request (is.peer on).rising
      answered.0 in
      let long = ap length now in
      let left = ap length answered.1 in
      let was = ap length (is.peer on).waits in
      let all = (is.peer on).count in
      let same = answered.2 in
      record {
        waits = now;
        count = omega (arith, count, long, left, less, was, all, same);
        few = subst (λ n. n ≤ 2 ^ 32) (sym answered.2) (is.peer on).few;
        of_session =
            subst (λ s. AreOfSession running.session (peer_of old s)
            → AreOfSession running.session (peer_of new s)) (sym e)
            (answers.taken.of_session running.session) (is.peer on).of_session;
        rising =
            subst AreRising (sym answered.1)
            (without-rising number (waiting_of (peer_of old on)) (is.peer on).rising);
        below =
            subst (λ w. All (λ one. one.number < (peer_of new on).next_number) w) (sym answered.1)
            (subst (λ n. All (λ one. one.number < n) (without number (waiting_of (peer_of old on))))
            (sym answered.2) (All-filter (λ one. not (one.number == number))
            (λ one. one.number < (peer_of old on).next_number) (waiting_of (peer_of old on))
            (is.peer on).below));
        may =
            subst MayWait (sym answered.1)
            (may_less number (waiting_of (peer_of old on)) (is.peer on).may);
      }

  across : (on : Which) → on ≡ other side →
      (waits : outstanding (hearing running exchange_now) on ≡ outstanding running on) →
      (count : count_by (λ one. is_side on one.side) (running.taken ++ exchange_now ∷ [])
      ≡ count_by (λ one. is_side on one.side) running.taken) →
      IsPeer (peer_of new on) (hearing running exchange_now) on
  across on e waits count =
      let same = subst (λ s. peer_of new s ≡ peer_of old s) (sym e) answers.across in record {
        waits = waits ∙ ((is.peer on).waits ∙ ap waiting_of (sym same));
        count =
            ap₂ (λ a b. a + b) count (ap length waits)
            ∙ ((is.peer on).count ∙ ap (λ l. l.next_number) (sym same));
        few = subst (λ n. n ≤ 2 ^ 32) (ap (λ l. l.next_number) (sym same)) (is.peer on).few;
        of_session =
            subst (AreOfSession running.session) (sym same) (is.peer on).of_session;
        rising = subst (λ l. AreRising (waiting_of l)) (sym same) (is.peer on).rising;
        below =
            subst (λ l. All (λ one. one.number < l.next_number) (waiting_of l)) (sym same)
            (is.peer on).below;
        may = subst (λ l. MayWait (waiting_of l)) (sym same) (is.peer on).may;
      }

more : (n : ℕ) → n + (0 + 1) ≡ n + 1
more n = omega arith

none_more : (n : ℕ) → n + (0 + 0) ≡ n
none_more n = omega arith

module _ (kept : archive.Archive) (old new : Session) (running : Running) (number : ℕ)
    (request : Request) (reply : model.Reply) (is : IsSession kept old running) where
  heard_on : (side : Which) → IsAnswering old new side number request → (on : Which) →
      IsPeer (peer_of new on) (hearing running (exchange_of side number request reply)) on
  heard_on Left answers Left =
      own kept old new running Left number request reply is answers Left refl refl
      (count_then Left running.taken _ ∙ more _)
  heard_on Left answers Right =
      across kept old new running Left number request reply is answers Right refl refl
      (count_then Right running.taken _ ∙ none_more _)
  heard_on Right answers Right =
      own kept old new running Right number request reply is answers Right refl refl
      (count_then Right running.taken _ ∙ more _)
  heard_on Right answers Left =
      across kept old new running Right number request reply is answers Left refl refl
      (count_then Left running.taken _ ∙ none_more _)

  -- what was asked before was asked
  was_asked : (side : Which) → IsAnswering old new side number request → (on : Which) (n : ℕ)
      (a : Request) → WasAsked (hearing running (exchange_of side number request reply)) on n a →
      WasAsked running on n a
  was_asked side answers on n a (inl (said, has)) =
      elim (Contains-push_cases running.taken _ _ has) as (λ _. WasAsked running on n a) [
        | inl before ↦ inl (said, before)
        | inr now ↦
            let waited = asked_waits (outstanding running side) number request
            (ap (λ l. asked_in l number) (is.peer side).waits ∙ answers.asked) in
            let here : WasAsked running side number request =
            subst (λ r. WasAsked running side number r) waited.3
            (subst (λ m. WasAsked running side m waited.0.request) waited.2
            (inr (waited.0.resent, waited.1))) in
            subst (λ (e : Exchange). WasAsked running e.side e.number e.request) now here
      ]
  was_asked Left answers Left n a (inr (k, has)) =
      inr (k, (in_filter (λ one. not (one.number == number)) running.left _ has).0)
  was_asked Left answers Right n a (inr (k, has)) = inr (k, has)
  was_asked Right answers Right n a (inr (k, has)) =
      inr (k, (in_filter (λ one. not (one.number == number)) running.right _ has).0)
  was_asked Right answers Left n a (inr (k, has)) = inr (k, has)

  -- it has taken the answer
  pub heard_so : (side : Which) → IsAnswering old new side number request →
      IsHeard new (hearing running (exchange_of side number request reply))
  heard_so side answers = record {
    number = is.number ∙ sym answers.number_is;
    preference =
        is.preference
        ∙ sym (ap (λ (p : Option Side). option_map which_of p) answers.preference_is);
    lawful = subst (λ n. n < 2 ^ 64) (sym answers.number_is) is.lawful;
    peer = heard_on side answers;
    once =
        λ on m n a b was_m was_n repeat. is.once on m n a b (was_asked side answers on m a was_m)
        (was_asked side answers on n b was_n) repeat;
  }
