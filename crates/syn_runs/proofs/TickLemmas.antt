-- A tick of the coordinator in the picture, and what its session then remembers.
use Rattle.std.proofs.Common.{◌≡◌, ◌≢◌, ◌<◌, ◌+◌, ℕ, zero, suc, Bool, true≢false, List, ◌∷◌, ◌++◌}
use Rattle.std.proofs.Common.{◌⊎◌, true, false, refl, sym, ap, ◌∙◌, subst, Option, Some, None}
use Rattle.std.proofs.Common.{option_map, is_some, append-nil, arith, inl, inr, ◌&&◌, map, length}
use Rattle.std.proofs.Common.{[]}
use Rattle.std.specs.Prelude.{Contains, IfSome, All, Any}
use Rattle.std.proofs.lemmas.List.Elements.{All-nil, All-cons, All-contains_itself, All-append}
use Rattle.std.proofs.lemmas.List.Elements.{Contains-append_left, Contains-append_right}
use Rattle.std.proofs.lemmas.List.Elements.{Contains-append_cases}
use Rattle.syn_model.specs.Refusal.{Refusal, Memory, NoAnswer}
use Rattle.syn_model.specs.Archive.{Kept, CanKeep}
use Rattle.syn_machine.specs.Machine.{Up}
use Rattle.syn_machine.specs.Side.{Request, Begin, ListAt, Fetch, Stage, Replace}
use Rattle.syn_machine.specs.Network.{Which, Left, Right, Message, Asks, Sent, NumbersTell}
use Rattle.syn_machine.specs.Network.{AsksNothingTwice, Answers, is_side}
use Rattle.syn_machine.specs.Report.{Report, is_kept, is_carrying, is_marking}
use Rattle.syn_machine.specs.Coordinator.{Outstanding, Running, CoordinatorMachine, Call, WasAsked}
use Rattle.syn_machine.specs.Coordinator.{asked_count, messages_to, once_more, plan_of, report_of}
use Rattle.syn_machine.specs.Coordinator.{CoordinatorTicks, AreRising}
use Rattle.syn_machine.specs.Coordinator as fine
use Rattle.syn_runs.specs.World as fine_world
use Rattle.syn_runs.specs.World.{coordinator_goes, Tick}
use Rattle.syn_runs.specs.Acknowledged.{kept_in_session}
use Rattle.syn_runs.specs.Picture.{Follows, RunsOver, IsOfSession, GoesOnFrom}
use Rattle.syn_runs.specs.Picture.{IsNothing, IsOfPlan}
use Rattle.syn_runs.specs.Picture as picture
use Rattle.syn_runs.proofs.Invariant.{Plans, histories_of, IsHarmless, IsKept, plan_in, IsFresh}
use Rattle.syn_runs.specs.Runs.{picture_of, session_picture, coordinator_picture}
use Rattle.syn_runs.proofs.InOrder.{IsSaid, no_answer, after_less}
use Rattle.syn_runs.proofs.UnstableLemmas.{ListsNothing}
use Rattle.syn_runs.proofs.Sessions.{IsHeard, StandsOn, still_logged, waits_on}
use Rattle.syn_runs.proofs.SideSteps.{if_some}
use Rattle.syn_runs.specs.Reported.{EndsSo, unanswered, out_of_memory}
use Rattle.syn_runs.proofs.Tells.{Tells, ends_still}
use Rattle.syn_machine.proofs.Rising.{once_more-length, once_more-rising, may_wait_again}
use Rattle.std.specs.List.{count_by}
use Rattle.std.proofs.lemmas.Option.{none-some}
use Rattle.syn_model.specs.Decision.{Item}
use Rattle.syn_machine.proofs.Heard.{sent_to}
use Rattle.syn_runs.proofs.StartLemmas.{nothing_given, heard_still}

-- A tick

-- what was sent again was sent before
tells_again : (sent more : Sent) → NumbersTell sent →
    ((m : Message) → Contains more m → Contains sent m) → NumbersTell (sent ++ more)
tells_again sent more tell was side session n a b c d =
    tell side session n a b (before (Asks side session n a) c) (before (Asks side session n b) d)
  where
    before : (m : Message) → Contains (sent ++ more) m → Contains sent m
    before m c =
        elim (Contains-append_cases sent more m c) as (λ _. Contains sent m)
        [ inl had ↦ had | inr now ↦ was m now ]

once_again : (sent more : Sent) → AsksNothingTwice sent →
    ((m : Message) → Contains more m → Contains sent m) → AsksNothingTwice (sent ++ more)
once_again sent more twice was side session n l a b c d again =
    twice side session n l a b (before (Asks side session n a) c)
    (before (Asks side session l b) d) again
  where
    before : (m : Message) → Contains (sent ++ more) m → Contains sent m
    before m c =
        elim (Contains-append_cases sent more m c) as (λ _. Contains sent m)
        [ inl had ↦ had | inr now ↦ was m now ]

more_was : (waiting : List Outstanding) (one : Outstanding) →
    Contains (once_more waiting) one → (was : Outstanding) × Contains waiting was
    × (was.number ≡ one.number) × (was.request ≡ one.request)
more_was [] one c = absurd (omega (arith, c.1))
more_was (first ∷ waiting) one (zero, h, e) =
    (first, (0, omega arith, refl), ap (λ o. o.number) e, ap (λ o. o.request) e)
more_was (first ∷ waiting) one (suc i, h, e) =
    let rest = more_was waiting one (i, omega (arith, h), e) in
    (rest.0, Contains-append_right (first ∷ []) waiting rest.0 rest.1, rest.2, rest.3)

was_more : (waiting : List Outstanding) (n : ℕ) (q : Request) (resent : ℕ) →
    Contains waiting (record { number = n; request = q; resent = resent }) →
    Contains (once_more waiting) (record { number = n; request = q; resent = suc resent })
was_more [] n q resent c = absurd (omega (arith, c.1))
was_more (first ∷ waiting) n q resent (zero, h, e) =
    let again : Outstanding → Outstanding = λ o. record o { resent = suc o.resent } in
    (0, omega arith, ap again e)
was_more (first ∷ waiting) n q resent (suc i, h, e) =
    Contains-append_right (record first { resent = suc first.resent } ∷ []) (once_more waiting) _
    (was_more waiting n q resent (i, omega (arith, h), e))

module _ (plans : Plans) (old : fine_world.World) (k : IsKept plans (picture_of old)) (r : Running)
    (e : old.coordinator.running ≡ Some r) (h : IsHeard old r) where
  runs : (picture_of old).coordinator.running ≡ Some (session_picture r)
  runs = ap (option_map session_picture) e

  over : RunsOver old.sent old.coordinator.journal.value (Some (session_picture r))
  over = subst (RunsOver old.sent old.coordinator.journal.value) runs k.coordinator.runs_over

  abbrev again : Running
  again = record r { left = once_more r.left; right = once_more r.right }

  abbrev more : Sent
  more = messages_to r.session Left r.left ++ messages_to r.session Right r.right

  sound_request : (side : Which) (waiting : List Outstanding) → ((one : Outstanding) →
      Contains waiting one → Contains old.sent (Asks side r.session one.number one.request)) →
      (m : Message) → Contains (messages_to r.session side waiting) m → Contains old.sent m
  sound_request side waiting was m c =
      let to = sent_to r.session side waiting m c in
      subst (Contains old.sent) to.2 (was to.0 to.1)

  was_sent : (m : Message) → Contains more m → Contains old.sent m
  was_sent m c =
      elim (Contains-append_cases (messages_to r.session Left r.left)
      (messages_to r.session Right r.right) m c) as (λ _. Contains old.sent m) [
        | inl to ↦ sound_request Left r.left (h.remembers.waiting Left) m to
        | inr to ↦ sound_request Right r.right (h.remembers.waiting Right) m to
      ]

  has : plan_in plans r.session ≡ plan_of r
  has =
      (subst (λ o. IfSome o (λ running. (plan_in plans running.session ≡ running.plan)
      × (running.plan ≡ [] → IsFresh (histories_of (picture_of old)) running.session))) runs
      k.coordinator.running).0

  all_of : (side : Which) (waiting : List Outstanding) → ((one : Outstanding) →
      Contains waiting one → Contains old.sent (Asks side r.session one.number one.request)) →
      All (IsOfSession old.pair old.sent (session_picture again))
      (messages_to r.session side waiting)
  all_of side [] was = All-nil (IsOfSession old.pair old.sent (session_picture again))
  all_of side (one ∷ waiting) was =
      let asked = k.sound.asked side r.session one.number one.request
      (was one (0, omega arith, refl)) in
      All-cons (IsOfSession old.pair old.sent (session_picture again))
      (Asks side r.session one.number one.request) (messages_to r.session side waiting) (
        refl,
        asked.lawful,
        of_any_pair asked.pair old.pair side one.request (subst
            (λ plan. IsOfPlan asked.pair old.sent r.session plan side one.request) has
            asked.by_plan),
      )
      (all_of side waiting
      (λ later c. was later (Contains-append_right (one ∷ []) waiting later c)))
    where
      of_any_pair : (pair pair' : ℕ) (side : Which) (q : Request) →
          IsOfPlan pair old.sent r.session (plan_of r) side q →
          IsOfPlan pair' old.sent r.session (plan_of r) side q
      of_any_pair pair pair' side (Begin asked) p = tt
      of_any_pair pair pair' side (ListAt path) p = p
      of_any_pair pair pair' side (Fetch path since offset) p = p
      of_any_pair pair pair' side (Stage item offset bytes) p = p
      of_any_pair pair pair' side (Replace item path since size) p = p

  waits_again : (side : Which) → fine.outstanding again side ≡ once_more (fine.outstanding r side)
  waits_again Left = refl
  waits_again Right = refl

  sent_again : (side : Which) (one : Outstanding) → Contains (fine.outstanding again side) one →
      Contains old.sent (Asks side r.session one.number one.request)
  sent_again side one c =
      let was = more_was (fine.outstanding r side) one
      (subst (λ w. Contains w one) (waits_again side) c) in
      subst (λ n. Contains old.sent (Asks side r.session n one.request)) was.2
      (subst (λ q. Contains old.sent (Asks side r.session was.0.number q)) was.3
      (h.remembers.waiting side was.0 was.1))

  asked_again : (side : Which) (n : ℕ) (q : Request) → WasAsked r side n q → WasAsked again side n q
  asked_again side n q (inl taken) = inl taken
  asked_again side n q (inr waits) =
      inr (
        suc waits.0,
        subst (λ w. Contains w (record { number = n; request = q; resent = suc waits.0 }))
            (sym (waits_again side)) (was_more (fine.outstanding r side) n q waits.0 waits.1),
      )

  asked_before : (side : Which) (n : ℕ) (q : Request) → WasAsked again side n q →
      WasAsked r side n q
  asked_before side n q (inl taken) = inl taken
  asked_before side n q (inr waits) =
      let was = more_was (fine.outstanding r side)
      (record { number = n; request = q; resent = waits.0 })
      (subst (λ w. Contains w (record { number = n; request = q; resent = waits.0 }))
      (waits_again side) waits.1) in
      subst (λ n. WasAsked r side n q) was.2
      (subst (λ q. WasAsked r side was.0.number q) was.3 (inr (was.0.resent, was.1)))

  count_again : (side : Which) → asked_count again side ≡ asked_count r side
  count_again side =
      ap (λ n. count_by (λ e. is_side side e.side) r.taken + n)
      (ap length (waits_again side) ∙ once_more-length (fine.outstanding r side))

  -- nothing is answered by it
  said_again : (side : Which) (number position : ℕ) →
      IsSaid (old.sent ++ more) side r.session number position →
      IsSaid old.sent side r.session number position
  said_again side number position (reply, c, at) =
      elim (Contains-append_cases old.sent more (Answers side r.session number reply) c)
      as (λ _. IsSaid old.sent side r.session number position) [
        | inl was ↦ (reply, was, at)
        | inr now ↦ absurd (elim (Contains-append_cases (messages_to r.session Left r.left)
            (messages_to r.session Right r.right) (Answers side r.session number reply) now)
            as (λ _. ⊥) [
              | inl to ↦ no_answer r.session Left r.left side r.session number reply to
              | inr to ↦ no_answer r.session Right r.right side r.session number reply to
            ])
      ]

  abbrev after : fine_world.World
  after =
      coordinator_goes old (record old.coordinator { running = Some again })
      (record fine.no_call { messages = more })

  listed_again : (waiting : List Outstanding) → ListsNothing waiting →
      ListsNothing (once_more waiting)
  listed_again waiting none one path c is =
      let was = more_was waiting one c in none was.0 path was.1 (was.3 ∙ is)

  heard_again : IsHeard after again
  heard_again = record {
    remembers = record {
      taken =
          λ x c. let was = h.remembers.taken x c in (
            Contains-append_left old.sent more _ was.0,
            Contains-append_left old.sent more _ was.1,
          );
      waiting = λ side one c. Contains-append_left old.sent more _ (sent_again side one c);
      asked =
          λ side n q c. elim (Contains-append_cases old.sent more (Asks side r.session n q) c)
          as (λ _. WasAsked again side n q) [
            | inl was ↦ asked_again side n q (h.remembers.asked side n q was)
            | inr now ↦ asked_again side n q
                (h.remembers.asked side n q (was_sent (Asks side r.session n q) now))
          ];
      below =
          λ side n q w. subst (λ count. n < count) (sym (count_again side))
          (h.remembers.below side n q (asked_before side n q w));
      rising =
          λ side. subst AreRising (sym (waits_again side))
          (once_more-rising (fine.outstanding r side) (h.remembers.rising side));
    };
    in_order = record {
      apart = λ side one x c d at.
          let was = more_was (fine.outstanding r side) one
          (subst (λ w. Contains w one) (waits_again side) c) in
          subst (λ n. x.number ≢ n) was.2 (h.in_order.apart side was.0 x was.1 d at);
      once = h.in_order.once;
      took = h.in_order.took;
      waits = λ side one path c is.
          let was = more_was (fine.outstanding r side) one
          (subst (λ w. Contains w one) (waits_again side) c) in
          let before = h.in_order.waits side was.0 path was.1 (was.3 ∙ is) in
          after_less r.taken side path (IsSaid old.sent side r.session was.0.number)
          (IsSaid (old.sent ++ more) side r.session one.number)
          (λ n said. subst (λ number. IsSaid old.sent side r.session number n) (sym was.2)
          (said_again side one.number n said)) before;
    };
    unplanned =
        λ none. let was = h.unplanned none in (
          subst (All (λ made. made.session ≢ r.session)) (sym (append-nil old.log)) was.0,
          was.1,
          was.2,
          was.3,
        );
    planned =
        λ some. subst (Any (λ made. made.session ≡ r.session)) (sym (append-nil old.log))
        (h.planned some);
    logged = if_some r.plan (StandsOn (old.log ++ []) old.coordinator.journal.value r)
        (StandsOn (old.log ++ []) old.coordinator.journal.value again)
        (still_logged old.log (old.log ++ []) old.coordinator.journal.value
        old.coordinator.journal.value r r.plan (append-nil old.log) refl h.logged)
        (λ plan _ had. waits_on (old.log ++ []) old.coordinator.journal.value r
        (once_more r.left) (once_more r.right) plan
        (listed_again r.left had.listed.0, listed_again r.right had.listed.1) had);
    kept = ap kept_in_session (append-nil old.acknowledged) ∙ h.kept;
    settled = h.settled;
  }

  unwritten : old.coordinator.journal.writing ≡ None
  unwritten = by old.coordinator.journal.writing refl
    where
      by : (o : Option Kept) → old.coordinator.journal.writing ≡ o → o ≡ None
      by None at = refl
      by (Some what) at =
          let h = subst (λ o. IfSome o (λ kept. (old.coordinator.journal.status ≢ Up)
          × ((picture_of old).coordinator.running ≡ None) × CanKeep old.coordinator.journal.value
          kept
          × IsHarmless plans (histories_of (picture_of old)) kept)) at k.coordinator.writing in
          absurd (none-some _ (sym (sym runs ∙ h.1)))

  tick_goes : (running : Option Running) (messages : List Message) (reports : List Report) →
      GoesOnFrom (Some (session_picture r)) (plan_of r) (option_map session_picture running) →
      RunsOver
      (old.sent ++ messages) old.coordinator.journal.value (option_map session_picture running) →
      NumbersTell (old.sent ++ messages) → AsksNothingTwice (old.sent ++ messages) →
      picture.AllOfSession old.pair old.sent (option_map session_picture running) messages →
      picture.Reports (picture_of old) (picture_of (coordinator_goes old (record old.coordinator
      { running = running }) (record fine.no_call { messages = messages; reports = reports })))
      (plan_of r) picture.EndsUnanswered →
      IfSome (option_map session_picture running)
      (λ later. old.sent ++ messages ≡ old.sent ++ more) →
      Follows (picture_of old) (picture_of (coordinator_goes old
      (record old.coordinator { running = running })
      (record fine.no_call { messages = messages; reports = reports }))) Tick []
  tick_goes running messages reports on runs_over numbers repeats of_session reported resent =
      picture.ticks_once (session_picture r) runs (record {
        machine = coordinator_picture (record old.coordinator { running = running });
        kept = [];
        messages = messages;
        reports = map (λ report. (report, length (old.acknowledged ++ []))) reports;
        keeps =
            record {
              due = All-nil IsNothing;
              can = tt;
              archive = refl;
              writing = subst
                  (λ o. IfSome o
                  (λ more. IsNothing more × CanKeep old.coordinator.journal.value more))
                  (sym unwritten) tt;
            };
        unless_up = λ _. unwritten;
        rises_not = λ _. refl;
        runs_on =
            subst (λ o. GoesOnFrom o (picture.plan_of o) (option_map session_picture running))
            (sym runs) on;
        runs_over = runs_over;
        numbers = numbers;
        repeats = repeats;
        of_session = of_session;
        silent_when_writing = λ some. absurd (true≢false (sym some ∙ ap is_some unwritten));
        result = refl;
      }) (subst (λ o. picture.Reports (picture_of old) (picture_of
      (coordinator_goes old (record old.coordinator
      { running = running }) (record fine.no_call { messages = messages; reports = reports })))
      (picture.plan_of o) picture.EndsUnanswered) (sym runs) reported) refl resent

  resends_so : Follows (picture_of old) (picture_of after) Tick []
  resends_so =
      tick_goes (Some again) more
      [] (picture.goes_on (session_picture again) refl refl refl) (over.0, all_sent, waits_still)
      (tells_again old.sent more k.sound.numbers was_sent)
      (once_again old.sent more k.sound.repeats was_sent)
      (All-append (IsOfSession old.pair old.sent (session_picture again))
      (messages_to r.session Left r.left) (messages_to r.session Right r.right) (all_of Left
      r.left (h.remembers.waiting Left)) (all_of Right r.right (h.remembers.waiting Right)))
      (inl (append-nil old.reports, inl refl)) refl
    where
      all_sent : picture.WasSent (old.sent ++ more) (session_picture again)
      all_sent Left i d within =
          Contains-append_left old.sent more _
          (sent_again Left _ (All-contains_itself again.left i d within))
      all_sent Right i d within =
          Contains-append_left old.sent more _
          (sent_again Right _ (All-contains_itself again.right i d within))

      waits_still : picture.Waits (session_picture again)
      waits_still =
          let l = once_more-length r.left in
          let q = once_more-length r.right in
          let waits = over.2 in
          let one = waits.0 in (
            omega (arith, l, q, one),
            may_wait_again r.left waits.1,
            may_wait_again r.right waits.2,
          )

  gives_up_so : (why : Refusal) → (Some why ≡ Some NoAnswer) ⊎ (Some why ≡ Some Memory) →
      Follows (picture_of old) (picture_of (coordinator_goes old
      (record old.coordinator { running = None })
      (record fine.no_call { reports = report_of r (Some why) ∷ [] }))) Tick []
  gives_up_so why early =
      let kept_is = ap kept_in_session (append-nil old.acknowledged) ∙ h.kept in
      let count : (Item → Bool) → List Kept → ℕ = λ of_kind kept. count_by
      (λ planned. of_kind planned.item && is_kept kept planned.item) (plan_of r) in
      tick_goes None [] (report_of r (Some why) ∷ []) picture.ended tt
      (subst NumbersTell (sym (append-nil old.sent)) k.sound.numbers)
      (subst AsksNothingTwice (sym (append-nil old.sent)) k.sound.repeats) refl
      (inr (
        session_picture r,
        report_of r (Some why),
        runs,
        refl,
        (refl, refl, early),
        record {
          done =
              ap (count is_carrying) (sym kept_is);
          marked = ap (count is_marking) (sym kept_is);
        },
        refl,
      )) tt

-- a tick
pub ticks_follow : (plans : Plans) (old : fine_world.World) (k : IsKept plans (picture_of old)) →
    IfSome old.coordinator.running (IsHeard old) → (new : CoordinatorMachine) (call : Call) →
    CoordinatorTicks old.coordinator new call →
    Follows (picture_of old) (picture_of (coordinator_goes old new call)) Tick []
    × IfSome new.running (IsHeard (coordinator_goes old new call))
    × Tells old (coordinator_goes old new call)
ticks_follow plans old k h _ _ (fine.no_session none) = (
  picture.same Tick [] (picture.no_session (ap (option_map session_picture) none))
      (nothing_given old),
  heard_still old h,
  inl (append-nil old.reports),
)
ticks_follow plans old k h _ _ (fine.resends r e few) =
    let heard = subst (λ o. IfSome o (IsHeard old)) e h in (
      resends_so plans old k r e heard,
      heard_again plans old k r e heard,
      inl (append-nil old.reports),
    )
ticks_follow plans old k h _ _ (fine.gives_up r why e because) =
    let heard = subst (λ o. IfSome o (IsHeard old)) e h in (
      gives_up_so plans old k r e heard why (early because),
      tt,
      ends_still old r why (record old.coordinator { running = None }) heard (by because),
    )
  where
    early : ((fine.is_resent r ≡ true) × (why ≡ NoAnswer))
        ⊎ ((fine.is_resent r ≡ false) × (why ≡ Memory)) →
        (Some why ≡ Some NoAnswer) ⊎ (Some why ≡ Some Memory)
    early (inl resent) = inl (ap (λ w. Some w) resent.1)
    early (inr memory) = inr (ap (λ w. Some w) memory.1)

    by : ((fine.is_resent r ≡ true) × (why ≡ NoAnswer))
        ⊎ ((fine.is_resent r ≡ false) × (why ≡ Memory)) → EndsSo (old.sent ++ []) r (Some why)
    by (inl resent) = subst (λ w. EndsSo (old.sent ++ []) r (Some w)) (sym resent.1)
        (unanswered resent.0)
    by (inr memory) = subst (λ w. EndsSo (old.sent ++ []) r (Some w)) (sym memory.1) out_of_memory
