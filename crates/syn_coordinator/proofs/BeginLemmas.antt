-- A session that has made its plan, or goes on in it, after an answer.
use Rattle.std.proofs.Common.{◌≡◌, ℕ, false, ◌&&◌, if◌then◌else◌, List, [], ◌∷◌, ◌++◌, Option, Some}
use Rattle.std.proofs.Common.{None, refl}
use Rattle.std.proofs.Common.{sym, ap, ◌∙◌, subst, ◌≤◌, arith, length, map}
use Rattle.std.specs.Prelude.{Contains, MatchResult, Result, Ok, Err}
use Rattle.std.proofs.lemmas.List.{length-map}
use Rattle.std.proofs.lemmas.List.Elements.{Contains-push}
use Rattle.std.proofs.lemmas.Option.{none-some}
use Rattle.syn_disk.specs.declared.disk.Disk.{Ghosts}
use Rattle.syn_machine.specs.Coordinator.{Exchange, HasPlan, Running, fault_of, hearing}
use Rattle.syn_machine.specs.Coordinator.{Outstanding, entries_in, is_not_dir, makes, stays}
use Rattle.syn_machine.specs.Network.{Left, Right, Which, is_side, other}
use Rattle.syn_machine.specs.Side.{Begin, Fetch, Listed, ListAt, NotDir, Replace, Request, Stage}
use Rattle.syn_machine.specs.Side as said
use Rattle.syn_model.specs.Plan as planning
use Rattle.syn_propagate.specs.Transfers.{IsForItem, WaitsFor, WaitsForItem, spec_of}
use Rattle.syn_propagate.specs.declared.transfer_spec.TransferSpec.{TransferSpec}
use Rattle.syn_recon.specs.Items.{items_of}
use Rattle.syn_refusal.specs.declared.refusal.Refusal.TheVariants as refusal
use Rattle.syn_model.specs.Dirty.{IsScanBy}
use Rattle.syn_scan.specs.Found.{Found, position_of, scan_of}
use Rattle.syn_coordinator.specs.PlanRunners.{written}
use Rattle.syn_coordinator.specs.Machines.{IsMachine, Journal}
use Rattle.syn_model.specs.Path.{Path}
use Rattle.syn_session.specs.Scanning.{IsFoundIn, WasListedAt, WasNoDirectoryAt, found_of}
use Rattle.syn_coordinator.specs.declared.plan_runner.PlanRunner.{PlanRunner}
use Rattle.syn_session.specs.declared.plan_progress.PlanProgress.{PlanProgress}
use Rattle.syn_session.specs.declared.peer.PeerState.{PeerState}
use Rattle.syn_coordinator.specs.declared.session_end.SessionEnd.{SessionEnd}
use Rattle.syn_coordinator.specs.declared.session_end.SessionEnd.TheVariants.{Early}
use Rattle.syn_session.specs.declared.session.Session.{Session}
use Rattle.syn_session.specs.Answering.{IsAnswering, IsHeard, exchange_of}
use Rattle.syn_coordinator.specs.inner.Taking.{TakesEnd, TakesOn, TakesSo}
use Rattle.syn_session.specs.declared.session.Asks.{Asks}
use Rattle.syn_coordinator.specs.inner.Carrying.{CarriesOn, EndsCarrying}
use Rattle.syn_coordinator.specs.inner.Carrying as ending
use Rattle.syn_session.specs.Hearing.{HasHeard, IsScanned, afterwards}
use Rattle.syn_session.specs.Plans.{Plan}
use Rattle.syn_session.specs.Sessions.{IsPeer, IsSession, IsStage, Tells}
use Rattle.syn_coordinator.specs.inner.Settling.{AsksSo, EndsSo, IsQuiet}
use Rattle.syn_session.specs.Stages.{Carries, IsAskedBefore, IsCarrying, IsFoundOnBoth, IsOfScan}
use Rattle.syn_session.specs.Stages.{IsPlanProgress, Reached, found_on, peer_of, plan_in}
use Rattle.syn_session.specs.Stages.{reached_by, requests_on, waiting_of}
use Rattle.syn_coordinator.specs.inner.Taking as taking
use Rattle.syn_coordinator.specs.inner.Walking.{ComesToAsk, Ends, IsAtItem}
use Rattle.syn_session.specs.Passing.{first_reached}
use Rattle.syn_session.proofs.AnswerLemmas.{heard_so}
use Rattle.syn_session.proofs.HearLemmas.{found_still}
use Rattle.syn_coordinator.proofs.CarryLemmas.{asks_progress, ends_progress}
use Rattle.syn_session.proofs.TellingLemmas.{either_nothing, scans_further}
use Rattle.syn_session.proofs.TellingLemmas.{tells_heard}
use Rattle.syn_coordinator.proofs.MakingLemmas.{made_of, makes_plan}
use Rattle.syn_session.proofs.WaitingLemmas.{alone_is, asked_has}
use Rattle.syn_coordinator.proofs.TakeLemmas.{hears_end}
use Rattle.syn_coordinator.proofs.TriedLemmas.{tries_none}
use Rattle.syn_model.proofs.BaseLemmas.{and_false, contains_one, contains_none}
use Rattle.syn_machine.proofs.NetworkLemmas.{on_both}

-- ---- whatever its plan, a session is heard alike

heard_with : (session : Session) (progress : Option PlanProgress) (heard : Running) →
    IsHeard session heard → IsHeard (record session { progress = progress }) heard
heard_with session progress heard h =
    record {
      number = h.number;
      preference = h.preference;
      lawful = h.lawful;
      peer = peer;
      once = h.once;
    }
  where
    peer : (side : Which) → IsPeer (peer_of (record session { progress = progress }) side) heard
        side
    peer Left = h.peer Left
    peer Right = h.peer Right

found_with : (session : Session) (progress : Option PlanProgress) {taken : List Exchange} →
    IsFoundOnBoth session taken → IsFoundOnBoth (record session { progress = progress }) taken
found_with session progress found Left = found Left
found_with session progress found Right = found Right

silent_with : (session : Session) (progress : Option PlanProgress) →
    ((side : Which) → waiting_of (peer_of session side) ≡ []) → (side : Which) →
    waiting_of (peer_of (record session { progress = progress }) side) ≡ []
silent_with session progress silent Left = silent Left
silent_with session progress silent Right = silent Right

-- ---- its plan is made

-- a begin or a listing is for no item
scanned_before : (plan : Plan) (cursor : ℕ) (request : Request) → IsOfScan request →
    IsAskedBefore plan cursor request
scanned_before plan cursor (Begin pair) this = tt
scanned_before plan cursor (ListAt path) this = tt
scanned_before plan cursor (Fetch path since offset) this = absurd this
scanned_before plan cursor (Stage item offset bytes) this = absurd this
scanned_before plan cursor (Replace item path since size) this = absurd this

module _ {D : Type 0} {disk : Ghosts D} (old : PlanRunner D disk) (pair : ℕ) (journal : Journal)
    (running : Running) (taken : Exchange) (session : Session)
    (is_machine : IsMachine old.archive pair journal)
    (fault : fault_of running.taken taken.side taken.request taken.reply ≡ None)
    (heard : HasHeard session (hearing running taken))
    (scanned : IsScanned session (hearing running taken)) (nothing : written old ≡ []) where
  -- there is no memory for it
  pub no_plan : IsQuiet old journal → TakesEnd old.archive old.tried pair journal running taken
      session (written old) (Early refusal.Memory)
  no_plan quiet =
      hears_end old.archive pair journal running taken session is_machine old.tried
      (tries_none old.tried journal quiet.0 quiet.1) (written old) nothing refusal.Memory
      (afterwards fault refl (tells_heard session (hearing running taken) heard))

  module _ (made : PlanProgress) (left right : Found) (same_left : left ≡ found_on session Left)
      (same_right : right ≡ found_on session Right)
      (progress_is : IsPlanProgress made left right (first_reached (plan_in made left right))) where
    abbrev first : Reached
    first = first_reached (plan_in made left right)

    pub at_first : IsAtItem made left right (running.taken ++ taken ∷ []) first
    at_first = record {
      progress_is = progress_is;
      asked =
          λ exchange has. scanned_before (plan_in made left right) made.cursor exchange.request
          (heard.of_scan exchange has);
    }

    module _ (items : items_of made.items.items
        ≡ planning.plan running.preference (scan_of left) (scan_of right) journal.value.marks)
        (on_left : IsScanBy (WasListedAt (running.taken ++ taken ∷ []) Left)
        (WasNoDirectoryAt (running.taken ++ taken ∷ []) Left) (scan_of left) (position_of left))
        (on_right : IsScanBy (WasListedAt (running.taken ++ taken ∷ []) Right) (WasNoDirectoryAt
        (running.taken ++ taken ∷ []) Right) (scan_of right) (position_of right)) where
      made_it : HasPlan journal.value (hearing running taken) first.plan
          (made_of running.session running.preference journal.value.marks left right
          (items_of made.items.items) ∷ [])
      made_it =
          makes (made_of running.session running.preference journal.value.marks left right
          (items_of made.items.items))
          (ap (λ (r : Reached). r.plan) heard.reached)
          (makes_plan (hearing running taken) journal.value left right
          (items_of made.items.items) items scanned.begun on_left on_right)

      module _ (new : PlanRunner D disk) (progress : PlanProgress) where
        abbrev later : Session
        later = record session { progress = Some progress }

        begins_asking : (asks : Asks) →
            AsksSo old new pair taken journal first progress left right
            (running.taken ++ taken ∷ [])
            asks → TakesOn new.archive pair journal running taken later (written new) asks
        begins_asking asks so =
            subst (λ k. TakesOn new.archive pair journal running taken later k asks)
            (sym (so.1 ∙ ap (λ l. l ++ so.0) nothing))
            (asks_progress new.archive pair journal running taken later progress refl
            (heard_with session (Some progress) (hearing running taken) heard.heard_is)
            (found_with session (Some progress) heard.found)
            (silent_with session (Some progress) scanned.silent) fault first
            (sym (ap (λ (r : Reached). r.cursor) heard.reached))
            (sym (ap (λ (r : Reached). r.refused) heard.reached))
            (sym (ap (λ (r : Reached). r.kept) heard.reached)) _ made_it so.0 asks
            (subst (λ r. ComesToAsk new.archive pair taken journal first so.0 progress
            (found_on session Left) r (running.taken ++ taken ∷ []) asks) same_right
            (subst (λ l. ComesToAsk new.archive pair taken journal first so.0 progress l right
            (running.taken ++ taken ∷ []) asks) same_left so.2))
            (λ last. absurd (scans_further running.taken taken.side taken.request
            (heard.of_scan taken (Contains-push running.taken taken)) taken.reply fault last)))

        begins_ending : (ended : SessionEnd) →
            EndsSo old new pair taken journal first progress left right ended →
            TakesEnd new.archive new.tried pair journal running taken later (written new) ended
        begins_ending ended so =
            subst (λ k. TakesEnd new.archive new.tried pair journal running taken later k ended)
            (sym (so.1 ∙ ap (λ l. l ++ so.0) nothing))
            (ends_progress new.archive pair journal running taken later progress refl
            (heard_with session (Some progress) (hearing running taken) heard.heard_is)
            (found_with session (Some progress) heard.found)
            (silent_with session (Some progress) scanned.silent) fault first
            (sym (ap (λ (r : Reached). r.cursor) heard.reached))
            (sym (ap (λ (r : Reached). r.refused) heard.reached))
            (sym (ap (λ (r : Reached). r.kept) heard.reached)) _ made_it new.tried so.0 ended
            (subst (λ r. Ends new.archive new.tried pair taken journal first so.0 progress
            (found_on session Left) r ended) same_right
            (subst (λ l. Ends new.archive new.tried pair taken journal first so.0 progress l right
            ended) same_left so.2)))

        pub begins_so : (result : Result Asks SessionEnd) → MatchResult result
            (AsksSo old new pair taken journal first progress left right
            (running.taken ++ taken ∷ []))
            (EndsSo old new pair taken journal first progress left right) →
            TakesSo new.archive new.tried pair journal running taken later (written new) result
        begins_so (Ok asks) so = (begins_asking asks so, so.3)
        begins_so (Err ended) so = begins_ending ended so

-- ---- it goes on in its plan

-- a request for an item is for no listing
lists_none : (c : TransferSpec) (side : Which) (request : Request) → IsForItem c side request →
    (path : Path) → request ≡ ListAt path → ⊥
lists_none c side request it path is = subst (IsForItem c side) is it

-- an answer for an item that does not end the session shows nothing of a directory
shows_none : (taken : List Exchange) (side : Which) (c : TransferSpec) (request : Request) →
    IsForItem c side request → (reply : said.Reply) → fault_of taken side request reply ≡ None →
    (entries_in reply ≡ 0) × (is_not_dir reply ≡ false)
shows_none taken side c (Begin pair) it reply fault = absurd it
shows_none taken side c (ListAt path) it reply fault = absurd it
shows_none taken side c request it (said.Begun position) fault = (refl, refl)
shows_none taken side c (Fetch path since offset) it (said.Listed position entries) fault =
    absurd (none-some _ (sym fault))
shows_none taken side c (Stage item offset bytes) it (said.Listed position entries) fault =
    absurd (none-some _ (sym fault))
shows_none taken side c (Replace item path since size) it (said.Listed position entries) fault =
    absurd (none-some _ (sym fault))
shows_none taken side c (Fetch path since offset) it (said.NotDir position) fault =
    absurd (none-some _ (sym fault))
shows_none taken side c (Stage item offset bytes) it (said.NotDir position) fault =
    absurd (none-some _ (sym fault))
shows_none taken side c (Replace item path since size) it (said.NotDir position) fault =
    absurd (none-some _ (sym fault))
shows_none taken side c request it (said.Piece total bytes) fault = (refl, refl)
shows_none taken side c request it said.Staged fault = (refl, refl)
shows_none taken side c request it said.Done fault = (refl, refl)
shows_none taken side c request it (said.Refused why) fault = (refl, refl)

-- nothing waits where nothing is asked
none_waits : (waiting : List Outstanding) →
    map (λ (one : Outstanding). one.request) waiting ≡ [] → waiting ≡ []
none_waits [] e = refl
none_waits (one ∷ more) e = let long = ap length e in absurd (omega (arith, long))

module _ (pair : ℕ) (journal : Journal) (before session : Session) (running : Running)
    (side : Which) (number : ℕ) (request : Request) (reply : said.Reply)
    (is : IsSession journal.value before running)
    (answers : IsAnswering before session side number request) (progress : PlanProgress)
    (was : session.progress ≡ Some progress) where
  abbrev taken : Exchange
  taken = exchange_of side number request reply

  carrying_then : IsCarrying journal.value before progress running.taken (reached_by running)
  carrying_then =
      subst (λ c. IsStage journal.value before c running.taken (reached_by running))
      (sym answers.progress ∙ was) is.stage

  asked_now : Contains (requests_on (peer_of before side)) request
  asked_now = asked_has (waiting_of (peer_of before side)) number request answers.asked

  -- the side that answers is the one that was asked
  own_side : (to : Which) → requests_on (peer_of before (other to)) ≡ [] → to ≡ side
  own_side Left none = by side asked_now
    where
      by : (on : Which) → Contains (requests_on (peer_of before on)) request → Left ≡ on
      by Left asks = refl
      by Right asks = absurd (contains_none request (subst (λ l. Contains l request) none asks))
  own_side Right none = by side asked_now
    where
      by : (on : Which) → Contains (requests_on (peer_of before on)) request → Right ≡ on
      by Left asks = absurd (contains_none request (subst (λ l. Contains l request) none asks))
      by Right asks = refl

  asked_side : carrying_then.to ≡ side
  asked_side = own_side carrying_then.to carrying_then.alone

  waits_now : requests_on (peer_of before side) ≡ carrying_then.request ∷ []
  waits_now =
      subst (λ w. requests_on (peer_of before w) ≡ carrying_then.request ∷ []) asked_side
      carrying_then.waits

  asked_it : carrying_then.request ≡ request
  asked_it =
      contains_one carrying_then.request request (subst (λ l. Contains l request) waits_now
      asked_now)

  same_scan : (on : Which) → (peer_of session on).scan ≡ (peer_of before on).scan
  same_scan =
      on_both (λ on. (peer_of session on).scan ≡ (peer_of before on).scan) side answers.scan
      (ap (λ (l : PeerState). l.scan) answers.across)

  pub silent_now : (on : Which) → waiting_of (peer_of session on) ≡ []
  silent_now = on_both (λ on. waiting_of (peer_of session on) ≡ []) side
      (answers.taken.waits (is.peer side).rising
      ∙ alone_is (waiting_of (peer_of before side)) number request few answers.asked)
      (ap waiting_of answers.across ∙ none_waits (waiting_of (peer_of before (other side)))
      (subst (λ w. requests_on (peer_of before (other w)) ≡ []) asked_side carrying_then.alone))
    where
      few : length (waiting_of (peer_of before side)) ≤ 1
      few =
          let one = ap length waits_now in
          let same = length-map (waiting_of (peer_of before side))
          (λ (one : Outstanding). one.request) in
          omega (arith, one, same)

  module _ (left right : Found) (same_left : left ≡ found_on session Left)
      (same_right : right ≡ found_on session Right) where
    pub carries_now : Carries journal.value progress left right running.taken (reached_by running)
        (λ transfer. WaitsFor transfer running.taken side request)
    carries_now =
        subst (λ l. Carries journal.value progress l right running.taken (reached_by running)
        (λ transfer. WaitsFor transfer running.taken side request))
        (sym (same_left ∙ ap found_of (same_scan Left)))
        (subst (λ r. Carries journal.value progress (found_on before Left) r running.taken
        (reached_by running) (λ transfer. WaitsFor transfer running.taken side request))
        (sym (same_right ∙ ap found_of (same_scan Right)))
        (subst (λ w. Carries journal.value progress (found_on before Left)
        (found_on before Right) running.taken (reached_by running)
        (λ transfer. WaitsFor transfer running.taken w request)) asked_side
        (subst (λ q. Carries journal.value progress (found_on before Left)
        (found_on before Right) running.taken (reached_by running) (λ transfer.
        WaitsFor transfer running.taken carrying_then.to q)) asked_it carrying_then.carries)))

    module _ (law : WaitsForItem) {D : Type 0} {disk : Ghosts D} (old new : PlanRunner D disk)
        (nothing : written old ≡ []) (later : PlanProgress) where
      abbrev next : Session
      next = record session { progress = Some later }

      heard : IsHeard next (hearing running taken)
      heard =
          heard_with session (Some later) (hearing running taken)
          (heard_so journal.value before session running number request reply is side answers)

      found_before : IsFoundOnBoth session running.taken
      found_before on =
          subst (λ s. IsFoundIn (found_of s) on running.taken) (sym (same_scan on)) (is.found on)

      -- and the answer shows nothing
      found_next : fault_of running.taken side request reply ≡ None →
          IsFoundOnBoth next (running.taken ++ taken ∷ [])
      found_next fault =
          let c = spec_of carries_now.carrying.transfer in
          let it = law carries_now.carrying.transfer running.taken side request carries_now.is in
          let none = shows_none running.taken side c request it reply fault in
          found_with session (Some later) (λ on. found_still (found_on session on) on running.taken
          taken (found_before on)
          (ap (λ n. if is_side on side then n else 0) none.0 ∙ either_nothing (is_side on side))
          (ap (λ b. is_side on side && b) none.1 ∙ and_false (is_side on side))
          (λ _. lists_none c side request it))

      tells_before : IsPlanProgress later left right (reached_by running) → Tells next running
      tells_before progress_is = record {
        number = is.number ∙ sym answers.number_is;
        found = found_with session (Some later) found_before;
        told = (left, right, progress_is);
      }

      carries_asking : (asks : Asks) → CarriesOn old new pair taken journal
          (reached_by running) later left right running.taken asks →
          TakesOn new.archive pair journal running taken next (written new) asks
      carries_asking asks so =
          subst (λ k. TakesOn new.archive pair journal running taken next k asks)
          (sym (so.asks_so.1 ∙ ap (λ l. l ++ so.asks_so.0) nothing))
          (asks_progress new.archive pair journal running taken next later refl heard
          (found_next so.fault) (silent_with session (Some later) silent_now) so.fault
          (reached_by running) refl refl refl [] stays so.asks_so.0 asks
          (subst (λ r. ComesToAsk new.archive pair taken journal (reached_by running) so.asks_so.0
          later (found_on session Left) r (running.taken ++ taken ∷ []) asks) same_right
          (subst (λ l. ComesToAsk new.archive pair taken journal (reached_by running) so.asks_so.0
          later l right (running.taken ++ taken ∷ []) asks) same_left so.asks_so.2))
          so.last)

      carries_ending : (ended : SessionEnd) → EndsCarrying old new pair taken journal
          (reached_by running) later left right running.taken ended →
          TakesEnd new.archive new.tried pair journal running taken next (written new) ended
      carries_ending ended (ending.at_once why fault same is_machine quiet progress_is) =
          taking.at_once why fault (tells_before progress_is) is_machine (same ∙ nothing)
          (tries_none new.tried journal quiet.0 quiet.1)
      carries_ending ended (ending.afterwards how fault so) =
          subst (λ k. TakesEnd new.archive new.tried pair journal running taken next k ended)
          (sym (so.1 ∙ ap (λ l. l ++ so.0) nothing))
          (ends_progress new.archive pair journal running taken next later refl heard
          (found_next fault) (silent_with session (Some later) silent_now) fault (reached_by
          running) refl refl refl
          [] stays new.tried so.0 ended
          (subst (λ r. Ends new.archive new.tried pair taken journal (reached_by running) so.0 later
          (found_on session Left) r ended) same_right
          (subst (λ l. Ends new.archive new.tried pair taken journal
          (reached_by running) so.0 later l right ended) same_left so.2)))

      pub carries_so : (result : Result Asks SessionEnd) → MatchResult result
          (CarriesOn old new pair taken journal (reached_by running) later left right running.taken)
          (EndsCarrying old new pair taken journal (reached_by running) later left right
          running.taken) →
          TakesSo new.archive new.tried pair journal running taken next (written new) result
      carries_so (Ok asks) so = (carries_asking asks so, so.asks_so.3)
      carries_so (Err ended) so = carries_ending ended so
