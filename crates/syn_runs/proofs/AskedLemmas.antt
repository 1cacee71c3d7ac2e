-- A request whose answer was heard waits no more, whatever the session asks next.
use Rattle.std.proofs.Common.{◌≡◌, ◌<◌, ℕ, suc, Bool, true, false, not, ◌==◌, List, [], ◌∷◌, ◌++◌}
use Rattle.std.proofs.Common.{refl, sym, ap, ◌∙◌, subst, Some, None, if◌then◌else◌, arith}
use Rattle.std.proofs.Common.{inl}
use Rattle.std.proofs.lemmas.Bool.Decides.{nat_tests}
use Rattle.std.proofs.lemmas.List.Elements.{Contains-push}
use Rattle.std.proofs.lemmas.Option.{none-some}
use Rattle.syn_machine.specs.Side.{Request, Reply}
use Rattle.syn_machine.specs.Network.{Which, Left, Right, Sent}
use Rattle.syn_machine.specs.Coordinator.{Outstanding, Running, Exchange, asked_in, asked_of}
use Rattle.syn_machine.specs.Coordinator.{asked_count, asking, hearing, numbered, without}
use Rattle.syn_runs.proofs.Remembers.{Remembers}

-- it is not among the others
none_without : (number : ℕ) (waiting : List Outstanding) →
    asked_in (without number waiting) number ≡ None
none_without number [] = refl
none_without number (one ∷ more) = by (none_without number more) (one.number == number) refl
  where
    by : asked_in (without number more) number ≡ None → (b : Bool) → (one.number == number) ≡ b →
        asked_in (if not b then one ∷ without number more else without number more) number ≡ None
    by rest true is = rest
    by rest false is =
        ap (λ c. if c then Some one.request else asked_in (without number more) number) is ∙ rest

-- nor among what is asked next
none_numbered : (number from : ℕ) (requests : List Request) → number < from →
    asked_in (numbered from requests) number ≡ None
none_numbered number from [] below = refl
none_numbered number from (request ∷ more) below =
    let differs : (from == number) ≡ false = grind (arith, nat_tests) in
    ap (λ b. if b then Some request else asked_in (numbered (suc from) more) number) differs
    ∙ none_numbered number (suc from) more (omega (arith, below))

none_in_both : (number : ℕ) (first second : List Outstanding) →
    asked_in first number ≡ None → asked_in second number ≡ None →
    asked_in (first ++ second) number ≡ None
none_in_both number [] second none rest = rest
none_in_both number (one ∷ first) second none rest =
    by (λ is. none_in_both number first second is rest) (one.number == number) none
  where
    by : (asked_in first number ≡ None → asked_in (first ++ second) number ≡ None) → (b : Bool) →
        (if b then Some one.request else asked_in first number) ≡ None →
        (if b then Some one.request else asked_in (first ++ second) number) ≡ None
    by more true is = absurd (none-some _ (sym is))
    by more false is = more is

waits_no_more : (number : ℕ) (waiting : List Outstanding) (from : ℕ) (requests : List Request) →
    number < from → asked_in (without number waiting ++ numbered from requests) number ≡ None
waits_no_more number waiting from requests below =
    none_in_both number (without number waiting) (numbered from requests)
    (none_without number waiting) (none_numbered number from requests below)

-- the session goes on with what it asks next
module _ (sent : Sent) (running : Running) (from : Which) (number : ℕ) (request : Request)
    (reply : Reply) (remembers : Remembers sent (hearing running (record {
      side = from;
      number = number;
      request = request;
      reply = reply;
    }))) where
  abbrev pub taken : Exchange
  taken = record { side = from; number = number; request = request; reply = reply }

  below : number < asked_count (hearing running taken) from
  below = remembers.below from number request (inl (reply, Contains-push running.taken taken))

  pub asked_no_more : (side : Which) → side ≡ from → (later : Running) (left right : List Request) →
      later.left ≡ (hearing running taken).left → later.right ≡ (hearing running taken).right →
      later.taken ≡ (hearing running taken).taken →
      asked_of (asking later left right) side number ≡ None
  asked_no_more Left is later left right same_left same_right same_taken =
      let heard = subst (λ s. number < asked_count (hearing running taken) s) (sym is) below in
      let now : later.left ≡ without number running.left = same_left ∙ sides is in
      subst (λ waiting. asked_in (waiting ++ numbered (asked_count later Left) left) number ≡ None)
      (sym now) (waits_no_more number running.left (asked_count later Left) left
      (subst (λ w. number < asked_count (record later { left = w }) Left) (sym same_left)
      (subst (λ t. number < asked_count (record (hearing running taken) { taken = t }) Left)
      (sym same_taken) heard)))
    where
      sides : Left ≡ from → (hearing running taken).left ≡ without number running.left
      sides e = ap (λ s. (hearing running (record taken { side = s })).left) (sym e)
  asked_no_more Right is later left right same_left same_right same_taken =
      let heard = subst (λ s. number < asked_count (hearing running taken) s) (sym is) below in
      let now : later.right ≡ without number running.right = same_right ∙ sides is in
      subst (λ waiting. asked_in (waiting ++ numbered (asked_count later Right) right) number
      ≡ None) (sym now) (waits_no_more number running.right (asked_count later Right) right
      (subst (λ w. number < asked_count (record later { right = w }) Right) (sym same_right)
      (subst (λ t. number < asked_count (record (hearing running taken) { taken = t }) Right)
      (sym same_taken) heard)))
    where
      sides : Right ≡ from → (hearing running taken).right ≡ without number running.right
      sides e = ap (λ s. (hearing running (record taken { side = s })).right) (sym e)
