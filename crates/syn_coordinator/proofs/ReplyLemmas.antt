-- An answer that is taken is the step of a coordinator that takes it.
use Rattle.std.proofs.Common.{◌≡◌, ℕ, Bool, true, false, not, if◌then◌else◌, List, [], ◌∷◌, ◌++◌}
use Rattle.std.proofs.Common.{Option, Some, None, refl, sym, ap, ap₂, ◌∙◌, subst}
use Rattle.std.specs.Prelude.{◌&&◌, is_some, unwrap_or}
use Rattle.std.proofs.lemmas.Bool.{false≢true}
use Rattle.syn_disk.specs.declared.disk.Disk.{Ghosts}
use Rattle.syn_machine.specs.Coordinator.{AsksNext, CoordinatorMachine, CoordinatorTakes, EndsFor}
use Rattle.syn_machine.specs.Coordinator.{Exchange, IsExpected, Running, asked_in}
use Rattle.syn_machine.specs.Coordinator.{asking, after_taking, ignores, report_of}
use Rattle.syn_machine.specs.Coordinator.{sent_now, takes}
use Rattle.syn_machine.specs.Coordinator as model
use Rattle.syn_machine.specs.Network.{Left, Message, Right, Which}
use Rattle.syn_machine.specs.Side.{Reply, Request}
use Rattle.syn_model.specs.Archive.{Kept}
use Rattle.syn_model.specs.Refusal.{Memory}
use Rattle.syn_refusal.specs.Refusals.{cause_of}
use Rattle.syn_coordinator.specs.Coordinators.{Does, Stands, in_report, report_shown, runs}
use Rattle.syn_coordinator.specs.Coordinators as does
use Rattle.syn_coordinator.specs.PlanRunners.{written}
use Rattle.syn_coordinator.specs.declared.plan_runner.PlanRunner.{PlanRunner}
use Rattle.syn_coordinator.specs.Machines.{IsMachine}
use Rattle.syn_coordinator.specs.declared.coordinator.Coordinator.{Coordinator}
use Rattle.syn_coordinator.specs.Tries.{Tries}
use Rattle.syn_coordinator.specs.declared.session_end.SessionEnd.{SessionEnd}
use Rattle.syn_session.specs.declared.session.Asks.{Asks}
use Rattle.syn_session.specs.declared.session.Session.{Session}
use Rattle.syn_coordinator.specs.inner.Answered.{Answered, goes_down, goes_on, reported}
use Rattle.syn_session.specs.Answering.{IsAnswering, IsAskedOn, asks_of, exchange_of}
use Rattle.syn_session.specs.Answering.{messages_asked}
use Rattle.syn_session.specs.Hearing.{IsAsking}
use Rattle.syn_session.specs.Sessions.{IsRunning, IsSession, Tells, TellsOf}
use Rattle.syn_session.specs.Scanning.{IsFoundIn, found_of}
use Rattle.syn_session.specs.Stages.{Reached, found_on, peer_of, reached_by, waiting_of}
use Rattle.syn_coordinator.specs.inner.Taking.{TakesEnd, TakesOn, Walks, reaching}
use Rattle.syn_coordinator.specs.inner.Taking as taking
use Rattle.syn_coordinator.specs.inner.Walking.{ended_by, walk_at}
use Rattle.syn_coordinator.proofs.AskLemmas.{asks_next, heard_asking, sends_that}
use Rattle.syn_coordinator.proofs.StartLemmas.{no_session}
use Rattle.syn_coordinator.proofs.TickLemmas.{run_alike, session_of}
use Rattle.syn_coordinator.proofs.TriedLemmas.{tries_none}
use Rattle.std.proofs.lemmas.Option.{none-some}
use Rattle.syn_machine.proofs.NetworkLemmas.{on_both}

-- what a session tells stays with its number, its scans and its plan
pub tells_same : (old new : Session) (running : Running) → new.number ≡ old.number →
    new.left.scan ≡ old.left.scan → new.right.scan ≡ old.right.scan →
    new.progress ≡ old.progress → Tells old running → Tells new running
tells_same old new running number left right progress tells = record {
  number = tells.number ∙ sym number;
  found =
      on_both (λ on. IsFoundIn (found_on new on) on running.taken) Left
      (subst (λ s. IsFoundIn (found_of s) Left running.taken) (sym left) (tells.found Left))
      (subst (λ s. IsFoundIn (found_of s) Right running.taken) (sym right) (tells.found Right));
  told = subst (λ c. TellsOf c (reached_by running)) (sym progress) tells.told;
}

-- how far it came, as the model says it
module _ (pair : ℕ) (machine : CoordinatorMachine) (running : Running) (taken : Exchange) where
  come_to : (after : Reached) (kept : List Kept) (walk : model.Walk) →
      Walks pair machine.journal running taken after kept walk → walk.cursor ≡ after.cursor →
      walk.refused ≡ after.refused →
      after_taking running taken after.plan walk kept ≡ reaching running taken after
  come_to after kept walk walks cursor refused =
      ap₂ (λ c r. reaching running taken (record
      { plan = after.plan; cursor = c; kept = running.kept ++ kept; refused = r })) cursor refused
      ∙ ap (λ k. reaching running taken
      (record { plan = after.plan; cursor = after.cursor; kept = k; refused = after.refused }))
      (sym walks.kept_is)

  module _ {D : Type 0} {disk : Ghosts D} (new : Coordinator D disk) (session next : Session)
      (kept : List Kept) (asks : Asks)
      (on : TakesOn new.plan_runner.archive pair machine.journal running taken session kept asks)
      (quiet : machine.journal.writing ≡ None)
      (asked : (side : Which) →
      IsAskedOn session.number (peer_of session side) (peer_of next side) (asks_of asks side))
      (number : next.number ≡ session.number)
      (preferred : next.preference ≡ session.preference)
      (progress : next.progress ≡ session.progress) where
    abbrev heard : Running
    heard = reaching running taken on.after

    abbrev asks_it : IsAsking session next asks
    asks_it = record { peer = asked; progress = progress }

    abbrev says : model.Running → model.Running
    says r = asking r (asks_of asks Left) (asks_of asks Right)

    same : after_taking running taken on.after.plan (walk_at on.now on.after) kept ≡ heard
    same = come_to on.after kept (walk_at on.now on.after) on.walks refl refl

    is_session : IsSession on.now.value next (says heard)
    is_session =
        let h = heard_asking heard session next asks on.heard asked number preferred on.may.may_wait
        on.may.apart
        on.may.fresh in
        record {
          number = h.number;
          preference = h.preference;
          lawful = h.lawful;
          peer = h.peer;
          once = h.once;
          found =
              λ side. subst (λ s. IsFoundIn (found_of s) side heard.taken) (sym (asked side).scan)
              (on.tells.found side);
          stage = on.may.stage next asks_it;
        }

    may_ask : AsksNext on.now.value heard (asks_of asks Left) (asks_of asks Right)
    may_ask =
        asks_next heard session next asks on.heard asked number preferred on.may.may_wait
        on.may.apart
        on.may.fresh on.now.value on.may.may on.may.some

    -- it asks both sides for what comes next
    pub asked_so : new.plan_runner.tried ≡ None → new.running ≡ Some next → (messages : List
        Message) →
        messages ≡ messages_asked session asks →
        Answered new pair machine running taken kept messages
    asked_so untried runs_it messages sent =
        goes_on _ _ (model.goes_on on.after.plan on.walks.logged
        (walk_at on.now on.after) kept (asks_of asks Left)
        (asks_of asks Right) on.walks.fault on.walks.has on.walks.goes refl on.status on.last
        (subst (λ r. AsksNext on.now.value r (asks_of asks Left) (asks_of asks Right))
        (sym same) may_ask))
        (record {
          journal = on.is;
          running =
              subst (λ s. IsRunning on.now.value s
              (Some (says (after_taking running taken on.after.plan (walk_at on.now on.after)
              kept)))) (sym runs_it)
              (subst (λ r. IsSession on.now.value next (says r)) (sym same) is_session);
          quiet = λ _. on.quiet quiet;
          untried = λ _. untried;
          tries = tries_none new.plan_runner.tried on.now untried (on.quiet quiet);
        }) refl
        (ap (λ r. sent_now r (asks_of asks Left) (asks_of asks Right)) same
        ∙ (sym (sends_that heard session next asks on.heard asked number preferred on.may.may_wait
        on.may.apart) ∙ sym sent))
        (sym (ap (λ s. if is_some s then [] else in_report (report_shown new)) runs_it))

  -- ---- the session ends

  module _ {D : Type 0} {disk : Ghosts D} (new : Coordinator D disk)
      (is_over : new.running ≡ None) where
    report_is : (now : Running) (why : Option _) → report_shown new ≡ Some (report_of now why) →
        report_of now why ∷ [] ≡ reported new
    report_is now why told = sym (ap₂ (λ s r. if is_some s then [] else in_report r) is_over told)

    -- memory is refused as it asks
    asks_none : (session : Session) (kept : List Kept) (asks : Asks) →
        machine.journal.writing ≡ None → new.plan_runner.tried ≡ None →
        TakesOn new.plan_runner.archive pair machine.journal running taken session kept asks →
        ((now : Running) → Tells session now →
        report_shown new ≡ Some (report_of now (Some Memory))) →
        Answered new pair machine running taken kept []
    asks_none session kept asks quiet untried on told =
        let same = come_to on.after kept (walk_at on.now on.after) on.walks refl refl in
        goes_on _ _ (model.ends on.after.plan on.walks.logged (walk_at on.now on.after) kept
        (Some Memory) on.walks.fault on.walks.has on.walks.goes (model.no_memory on.status))
        (no_session new pair on.now on.is is_over
        (tries_none new.plan_runner.tried on.now untried (on.quiet quiet))) refl refl
        (ap (λ r. report_of r (Some Memory) ∷ []) same
        ∙ report_is (reaching running taken on.after) (Some Memory) (told _ on.tells))

    pub asks_no_more : (runner : PlanRunner D disk) → new.plan_runner ≡ runner →
        machine.journal.writing ≡ None → runner.tried ≡ None → (session : Session)
        (asks : Asks) (messages : List Message) → messages ≡ [] →
        TakesOn runner.archive pair machine.journal running taken session (written runner)
        asks → ((now : Running) → Tells session now →
        report_shown new ≡ Some (report_of now (Some Memory))) →
        Answered new pair machine running taken (written new.plan_runner) messages
    asks_no_more runner same quiet untried session asks messages nothing on told =
        subst (Answered new pair machine running taken (written new.plan_runner)) (sym nothing)
        (asks_none session (written new.plan_runner) asks quiet (ap (λ r. r.tried) same ∙ untried)
        (subst (λ (r : PlanRunner D disk). TakesOn r.archive pair machine.journal running taken
        session (written r) asks) (sym same) on) told)

    ends_now : (session : Session) (kept : List Kept) (ended : SessionEnd) →
        TakesEnd new.plan_runner.archive new.plan_runner.tried pair machine.journal running taken
        session
        kept ended →
        ((now : Running) → Tells session now →
        report_shown new ≡ Some (report_of now (ended_by ended))) →
        Answered new pair machine running taken kept []
    ends_now session kept _ (taking.at_once why fault tells is nothing tries) told =
        goes_on _ _ (model.ends_at_once (cause_of why) fault)
        (no_session new pair machine.journal is is_over tries)
        (sym nothing) refl (report_is running (Some (cause_of why)) (told running tells))
    ends_now session kept _
        (taking.ends ended walk after walks cursor refused why is tells remembers) told =
        let same = come_to after kept walk walks cursor refused in
        goes_on _ _ (model.ends after.plan walks.logged walk kept
        (ended_by ended) walks.fault walks.has walks.goes (subst
        (λ r. EndsFor pair r taken machine.journal.status walk (ended_by ended)) (sym same) why))
        (no_session new pair walk.journal is is_over remembers.tries) refl refl
        (ap (λ r. report_of r (ended_by ended) ∷ []) same
        ∙ report_is (reaching running taken after) (ended_by ended) (told _ tells))
    ends_now session kept _
        (taking.goes_down ended walk after walks stopped down leaves tries) told =
        goes_down _ _ (model.stops after.plan walks.logged walk kept walks.fault walks.has
        walks.goes down) stopped down leaves refl tries

    pub ends_so : (runner : PlanRunner D disk) → new.plan_runner ≡ runner → (session : Session)
        (ended : SessionEnd) (messages : List Message) → messages ≡ [] →
        TakesEnd runner.archive runner.tried pair machine.journal running taken session
        (written runner) ended → ((now : Running) → Tells session now →
        report_shown new ≡ Some (report_of now (ended_by ended))) →
        Answered new pair machine running taken (written new.plan_runner) messages
    ends_so runner same session ended messages nothing takes_end told =
        subst (Answered new pair machine running taken (written new.plan_runner)) (sym nothing)
        (ends_now session (written new.plan_runner) ended
        (subst (λ (r : PlanRunner D disk). TakesEnd r.archive r.tried pair machine.journal running
        taken session (written r) ended) (sym same) takes_end) told)

-- ---- an answer that comes

module _ {D : Type 0} {disk : Ghosts D} (old new : Coordinator D disk) (pair : ℕ)
    (machine : CoordinatorMachine) (from : Which) (session number : ℕ) (reply : Reply) where
  -- it was expected
  pub answered_does : (running : Running) (request : Request) (kept : List Kept)
      (messages : List Message) → runs old ≡ true →
      IsExpected machine from session number running request →
      Answered new pair machine running (exchange_of from number request reply) kept messages →
      Does old new pair (CoordinatorTakes pair machine from session number reply) kept messages
  answered_does running request kept messages ran expected
      (goes_on now call took stands same_kept same_messages reports) =
      does.goes_on now call (takes running request now call expected took) stands same_kept
      same_messages (reports ∙ sym (by (runs new)))
    where
      by : (b : Bool) → (if runs old && not b then in_report (report_shown new) else [])
          ≡ (if b then [] else in_report (report_shown new))
      by true = ap (λ a. if a && false then in_report (report_shown new) else []) ran
      by false = ap (λ a. if a && true then in_report (report_shown new) else []) ran
  answered_does running request kept messages ran expected
      (goes_down now call took stopped down leaves same_kept tries) =
      does.goes_down now call
      (takes running request now call expected took) stopped down leaves same_kept tries

  -- it was not
  pub ignored_does : Stands old pair machine → new.plan_runner.archive ≡ old.plan_runner.archive →
      new.running ≡ old.running → new.plan_runner.tried ≡ old.plan_runner.tried →
      ((running : Running) (request : Request) →
      IsExpected machine from session number running request → ⊥) → (kept : List Kept)
      (messages : List Message) → kept ≡ [] → messages ≡ [] →
      Does old new pair (CoordinatorTakes pair machine from session number reply) kept messages
  ignored_does stands archive running tried unexpected kept messages no_kept no_messages =
      does.goes_on machine model.no_call (ignores unexpected) (record {
        journal = subst (λ a. IsMachine a pair machine.journal) (sym archive) stands.journal;
        running =
            subst (λ s. IsRunning machine.journal.value s machine.running)
            (sym running) stands.running;
        quiet = stands.quiet;
        untried = λ some. tried ∙ stands.untried some;
        tries = subst (λ t. Tries t machine.journal) (sym tried) stands.tries;
      }) (sym no_kept) (sym no_messages) (sym (ap (λ s. if runs old && not (is_some s)
      then in_report (report_shown new) else []) running ∙ by (runs old)))
    where
      by : (b : Bool) → (if b && not b then in_report (report_shown new) else []) ≡ []
      by true = refl
      by false = refl

  -- no session runs, or no request waits for it
  pub none_runs : Stands old pair machine → old.running ≡ None → (running : Running)
      (request : Request) → IsExpected machine from session number running request → ⊥
  none_runs stands none running request expected =
      false≢true (sym (run_alike machine.journal.value old.running machine.running stands.running
      ∙ ap is_some none) ∙ ap is_some expected.runs)

  pub none_waits : Stands old pair machine → (ran : Session) → old.running ≡ Some ran →
      (ran.number ≡ session → asked_in (waiting_of (peer_of ran from)) number ≡ None) →
      (running : Running) (request : Request) →
      IsExpected machine from session number running request → ⊥
  none_waits stands ran was silent running request expected =
      let is = session_of machine.journal.value ran machine.running
      (subst (λ s. IsRunning machine.journal.value s machine.running) was stands.running) in
      let same = some_is (sym is.1 ∙ expected.runs) in
      let session_is = subst (λ r. IsSession machine.journal.value ran r) same is.2 in
      none-some _ (sym (silent (sym session_is.number ∙ sym expected.of_session))
      ∙ (ap (λ l. asked_in l number) (sym (session_is.peer from).waits) ∙ expected.asked))
    where
      some_is : {a b : Running} → Some a ≡ Some b → a ≡ b
      some_is {a} e = ap (λ o. unwrap_or o a) e

  -- the session that runs, and what it expected
  pub expects : Stands old pair machine → (ran next : Session) (request : Request) →
      old.running ≡ Some ran → ran.number ≡ session → IsAnswering ran next from number request →
      (running : Running) × IsExpected machine from session number running request
      × IsSession machine.journal.value ran running
  expects stands ran next request was numbered answers =
      let is = session_of machine.journal.value ran machine.running
      (subst (λ s. IsRunning machine.journal.value s machine.running) was stands.running) in (
        is.0,
        record {
          runs = is.1;
          of_session = sym numbered ∙ sym is.2.number;
          asked = ap (λ l. asked_in l number) (is.2.peer from).waits ∙ answers.asked;
        },
        is.2,
      )
