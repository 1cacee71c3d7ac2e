-- What holds of whole runs.
use Rattle.std.proofs.Common.{◌≡◌, ◌≤◌, ℕ, [], ◌++◌, refl, sym, ap, ap₂, ◌∙◌, subst, Option, Some}
use Rattle.std.proofs.Common.{None, append-nil, arith, inl, inr, ◌≢◌}
use Rattle.std.specs.Prelude.{Contains, IfSome}
use Rattle.std.proofs.lemmas.List.Elements.{All-nil, Contains-append_left}
use Rattle.std.proofs.lemmas.Option.{none-some}
use Rattle.syn_model.specs.Path.{Path}
use Rattle.syn_model.specs.Tree.{Tree}
use Rattle.syn_model.specs.Event.{Token, Replaced}
use Rattle.syn_model.specs.History.{IsHistory, last_session}
use Rattle.syn_model.specs.Archive.{CanKeep, Held}
use Rattle.syn_runs.specs.World.{Step}
use Rattle.syn_model.specs.Refusal.{Refusal}
use Rattle.std.proofs.Common.{List}
use Rattle.syn_machine.specs.Network.{Which, Left, Right, Sent, Message}
use Rattle.syn_runs.specs.Acknowledged.{Happened, Stores, stores_after, IsLegal}
use Rattle.syn_machine.specs.Planning.{Log, IsPlanOf}
use Rattle.syn_runs.specs.Picture.{Picture, SessionPicture, side_of, Waits, RunsOver}
use Rattle.syn_runs.specs.Picture.{FollowsAll, nothing_more, one_more, stores_of}
use Rattle.syn_machine.specs.Machine.{Up}
use Rattle.syn_runs.specs.Headline.{EachReplacementIsLegal, IsStart, EachTokenOnce, Owes}
use Rattle.syn_runs.specs.Headline.{StandsFor}
use Rattle.syn_runs.proofs.PictureRuns.{OfEachRun}
use Rattle.syn_runs.proofs.Invariant.{Plans, histories_of, IsHarmless, IsSoundStaging}
use Rattle.syn_runs.proofs.Invariant.{IsSoundEvent, IsSoundSide, IsKept}
use Rattle.syn_runs.proofs.PlanLemmas.{answered-more}
use Rattle.syn_runs.proofs.TokenLemmas.{token_once}
use Rattle.syn_runs.proofs.WorldLemmas.{step_stands}
use Rattle.syn_machine.proofs.Heard.{split_at}
use Rattle.syn_runs.proofs.SideRuns.{Advances, not_nothing}
use Rattle.syn_runs.proofs.CoordinatorRuns.{HasItsPlan}
use Rattle.syn_runs.proofs.AdvanceLemmas.{step_advances}

legal-more : (sent more : Sent) (log logged : Log) (side : Which) (stores : Stores) (token : Token)
    (path : Path) (since : ℕ) (u : Tree) → IsLegal sent log side stores token path since u →
    IsLegal (sent ++ more) (log ++ logged) side stores token path since u
legal-more sent more log logged side stores token path since u h = record {
  listed = (h.listed.0, answered-more sent more _ _ _ _ h.listed.1);
  reached = h.reached;
  untouched = h.untouched;
  made = h.made;
  logged = (Contains-append_left log logged h.made h.logged.0, h.logged.1);
  planned = h.planned;
  item = h.item;
  seen = h.seen;
  recorded = h.recorded;
  source = record {
    listed = (h.source.listed.0, answered-more sent more _ _ _ _ h.source.listed.1);
    directory = h.source.directory;
    reached = h.source.reached;
    held = h.source.held;
  };
}

stores_same : (a b : Stores) → a.left ≡ b.left → a.right ≡ b.right → a.archive ≡ b.archive → a ≡ b
stores_same a b l r o =
    ap₂ (λ x y. record { left = x; right = y; archive = a.archive }) l r
    ∙ ap (λ x. record { left = b.left; right = b.right; archive = x }) o

legal_extends : (before : Stores) (plans : Plans) (old new : Picture) → StandsFor before old →
    Advances plans old new → EachReplacementIsLegal before old → EachReplacementIsLegal before new
legal_extends before plans old new stands a all earlier later side token path since u e =
    subst (λ sent. IsLegal sent new.log side (stores_after before earlier) token path since u)
    (sym a.sends) (subst (λ log. IsLegal (old.sent ++ a.messages) log side
    (stores_after before earlier) token path since u) (sym a.logs)
    (legal-more old.sent a.messages old.log a.logged side
    (stores_after before earlier) token path since u
    (elim (split_at old.acknowledged a.acks earlier
    (Happened side (Replaced token path since u)) later (sym a.acknowledges ∙ e))
    as (λ _. IsLegal old.sent old.log side (stores_after before earlier) token path since u) [
      | inl l ↦ all earlier l.0 side token path since u l.1
      | inr r ↦
          let first = a.legal_step r.0 later side token path since u r.2 in
          let at : stores_of old ≡ stores_after before earlier =
          stores_same (stores_of old)
          (stores_after before old.acknowledged) stands.left stands.right stands.archive
          ∙ ap (stores_after before) (sym (append-nil old.acknowledged)
          ∙ (ap (λ w. old.acknowledged ++ w) (sym first.0) ∙ sym r.1)) in
          subst (λ s. IsLegal old.sent old.log side s token path since u) at first.1
    ])))

runs_legally : (before : Stores) (plans : Plans) (old new : Picture) → IsKept plans old →
    StandsFor before old → EachReplacementIsLegal before old → {steps : List Step}
    {told : List Refusal} → FollowsAll old steps told new → EachReplacementIsLegal before new
runs_legally before plans old _ k stands all (nothing_more _) = all
runs_legally before plans old _ k stands all (one_more _ between new _ _ _ _ g more) =
    let a = step_advances plans old k between g in
    runs_legally before a.later between new a.kept (step_stands before old between stands g)
    (legal_extends before plans old between stands a all) more

nothing_sent : (sent : Sent) (m : Message) → sent ≡ [] → Contains sent m → ⊥
nothing_sent sent m e c =
    let d : Contains [] m = subst (λ s. Contains s m) e c in
    omega (arith, d.1)

abbrev pub no_plans : Plans
no_plans = []

pub start_kept : (old : Picture) → IsStart old → IsKept no_plans old
start_kept old s =
    let p = s.pair in
    let empty = s.nothing_yet.0 in
    record {
      logged = s.nothing_yet.3;
      sound = record {
        lawful =
            λ side. elim side as (λ side. IsHistory (histories_of old side))
            [ Left ↦ p.left | Right ↦ p.right ];
        marks = p.marks;
        begun =
            λ side. elim side as (λ side. last_session (histories_of old side)
            ≤ old.coordinator.archive.last_session)
            [ Left ↦ p.left_begun | Right ↦ p.right_begun ];
        numbers = λ side session n a b c d. absurd (nothing_sent old.sent _ empty c);
        repeats = λ side session m n a b c d. absurd (nothing_sent old.sent _ empty c);
        asked = λ to session number request c. absurd (nothing_sent old.sent _ empty c);
        known = λ from session number said c. absurd (nothing_sent old.sent _ empty c);
        answered = λ from session number said request c d. absurd (nothing_sent old.sent _ empty c);
        borne = λ from session number said request c d. absurd (nothing_sent old.sent _ empty c);
        held =
            λ path content e side. let both = p.held path content e in
            elim side as (λ side. Held (histories_of old side) path content)
            [ Left ↦ both.0 | Right ↦ both.1 ];
        once = λ i j d less within. absurd (omega (arith, within));
        planned = All-nil (IsPlanOf old.sent);
        recorded = λ session item planned side path e w. absurd (none-some _ e);
        used = λ side token planned path last e w. absurd (none-some _ e);
      };
      sides =
          λ side. elim side as (λ side. IsSoundSide no_plans
          (histories_of old) old.coordinator.archive side (side_of old side)) [
            | Left ↦ record {
              staged =
                  subst (λ o. IfSome o (IsSoundStaging no_plans (histories_of old) Left))
                  (sym s.left.0) tt;
              writing =
                  subst (λ o. IfSome o (λ event. (old.left.status ≢ Up) × IsSoundEvent no_plans
                  (histories_of old) old.coordinator.archive Left event)) (sym s.left.1) tt;
            }
            | Right ↦ record {
              staged = subst
                  (λ o. IfSome o (IsSoundStaging no_plans (histories_of old) Right))
                  (sym s.right.0) tt;
              writing =
                  subst (λ o. IfSome o (λ event. (old.right.status ≢ Up) × IsSoundEvent no_plans
                  (histories_of old) old.coordinator.archive Right event)) (sym s.right.1) tt;
            }
          ];
      coordinator = record {
        running = subst (HasItsPlan no_plans (histories_of old)) (sym s.coordinator.0) tt;
        runs_over = subst (RunsOver old.sent old.coordinator.archive) (sym s.coordinator.0) tt;
        writing =
            subst (λ o. IfSome o (λ kept. (old.coordinator.status ≢ Up)
            × (old.coordinator.running ≡ None) × CanKeep old.coordinator.archive kept
            × IsHarmless no_plans (histories_of old) kept)) (sym s.coordinator.1) tt;
      };
    }

pub start_stands : (old : Picture) → old.acknowledged ≡ [] → StandsFor (stores_of old) old
start_stands old e =
    subst (λ acks. StandsFor (stores_of old) (record old { acknowledged = acks })) (sym e) (record {
      left = sym (append-nil old.left.side.history);
      right = sym (append-nil old.right.side.history);
      archive = refl;
    })

-- in every run each replacement is legal
pub runs_replace_legally : OfEachRun EachReplacementIsLegal
runs_replace_legally old new steps refusals s g =
    runs_legally (stores_of old) no_plans old new (start_kept old s)
    (start_stands old s.nothing_yet.1)
    (λ earlier later side token path since u e. absurd
    (not_nothing earlier later _ (sym s.nothing_yet.1 ∙ e))) g

-- the invariant after a whole run
pub run_kept : (plans : Plans) (old new : Picture) → IsKept plans old →
    {steps : List Step} {told : List Refusal} → FollowsAll old steps told new →
    (later : Plans) × IsKept later new
run_kept plans old _ k (nothing_more _) = (plans, k)
run_kept plans old _ k (one_more _ between new _ _ _ _ g more) =
    let a = step_advances plans old k between g in
    run_kept a.later between new a.kept more

pub runs_use_tokens_once : OfEachRun EachTokenOnce
runs_use_tokens_once old new steps refusals s g side earlier later token path since u e =
    token_once (histories_of new side) earlier later token path since u
    ((run_kept no_plans old new (start_kept old s) g).1.sound.lawful side) e

-- and what a session owes
pub runs_owe : OfEachRun Owes
runs_owe old new steps refusals s g =
    let k = (run_kept no_plans old new (start_kept old s) g).1 in
    (waits new.coordinator.running k.coordinator.runs_over, k.sound.numbers, k.sound.repeats)
  where
    waits : (o : Option SessionPicture) → RunsOver new.sent new.coordinator.archive o → IfSome o
        Waits
    waits None r = tt
    waits (Some running) r = r.2
