-- What a session that runs remembers of the world, and what steps beside it keep of that.
use Rattle.std.proofs.Common.{◌≡◌, ◌≢◌, ℕ, zero, suc, List, [], ◌∷◌, ◌++◌, filter_map, take, fold}
use Rattle.std.proofs.Common.{sym, ap, ◌∙◌, subst, None, append-nil, arith, inl, inr}
use Rattle.std.specs.Prelude.{Contains, IsSome, IfSome, All, Any, Option}
use Rattle.std.proofs.lemmas.List.Elements.{Contains-append_left, Contains-append_cases}
use Rattle.std.proofs.lemmas.List.Elements.{filter_map-append}
use Rattle.syn_machine.specs.Side.{Request, Reply}
use Rattle.syn_machine.specs.Network.{Which, Message, Asks, Answers}
use Rattle.syn_runs.specs.Acknowledged.{Ack, kept_in, kept_in_session, since_start}
use Rattle.syn_machine.specs.Coordinator.{Outstanding, Running, WasAsked, plan_of}
use Rattle.syn_runs.specs.World.{World}
use Rattle.syn_runs.proofs.Walks.{IsSettledBy}
use Rattle.syn_machine.specs.Planning.{Planned, Log}
use Rattle.syn_runs.specs.Reported.{IsPlanned, archive_found}
use Rattle.syn_model.specs.Archive.{Archive, archive_of}
use Rattle.syn_runs.proofs.Remembers.{Remembers}
use Rattle.syn_runs.proofs.InOrder.{ListsInOrder, SaysAfter, beside_in_order}
use Rattle.syn_runs.proofs.UnstableLemmas.{ListsNothing}

-- the plan was logged, the archive is what it was then with what was recorded since, and no listing
-- waits any more
pub record StandsOn (log : Log) (archive : Archive) (running : Running) (plan : List Planned)
    : Type 0 where
  pub is : IsPlanned log running plan
  pub stands : archive ≡ archive_of (archive_found is.made) running.kept
  pub listed : ListsNothing running.left × ListsNothing running.right

-- whatever else waits then
pub waits_on : (log : Log) (archive : Archive) (running : Running) (left right : List Outstanding)
    (plan : List Planned) → ListsNothing left × ListsNothing right →
    StandsOn log archive running plan →
    StandsOn log archive (record running { left = left; right = right }) plan
waits_on log archive running left right plan listed had = record {
  is = record {
    made = had.is.made;
    logged = had.is.logged;
    of_session = had.is.of_session;
    plan_is = had.is.plan_is;
    unstable = had.is.unstable;
    refused = had.is.refused;
  };
  stands = had.stands;
  listed = listed;
}

pub record IsHeard (world : World) (running : Running) : Type 0 where
  pub remembers : Remembers world.sent running
  pub in_order : ListsInOrder world.sent running
  pub unplanned : running.plan ≡ None →
      All (λ made. made.session ≢ running.session) world.log × (running.cursor ≡ 0)
      × (running.kept ≡ []) × (running.refused ≡ [])
  pub planned : IsSome running.plan → Any (λ made. made.session ≡ running.session) world.log
  pub logged : IfSome running.plan (StandsOn world.log world.coordinator.journal.value running)
  pub kept : kept_in_session world.acknowledged ≡ running.kept
  pub settled :
      All (IsSettledBy running.kept running.refused) (take running.cursor (plan_of running))

-- the plan of a session stands in the log
pub still_logged : (old new : Log) (was now : Archive) (running : Running)
    (plan : Option (List Planned)) → new ≡ old → now ≡ was →
    IfSome plan (StandsOn old was running) → IfSome plan (StandsOn new now running)
still_logged old new was now running plan same stays h =
    subst (λ log. IfSome plan (StandsOn log now running)) (sym same)
    (subst (λ archive. IfSome plan (StandsOn old archive running)) (sym stays) h)

-- no request is among answers
pub no_asks : (side at : Which) (session n : ℕ) (reply : Reply) (s m : ℕ) (request : Request) →
    Contains (Answers at session n reply ∷ []) (Asks side s m request) → ⊥
no_asks side at session n reply s m request (zero, h, e) =
    let x : Answers at session n reply ≡ Asks side s m request = e in
    cc
no_asks side at session n reply s m request (suc k, h, e) = omega (arith, h)

-- a side goes on, and says something or nothing
pub record GoesBeside (old new : World) : Type 0 where
  pub more : List Message
  pub acks : List Ack
  pub sent : new.sent ≡ old.sent ++ more
  pub no_request : (side : Which) (session n : ℕ) (request : Request) →
      Contains more (Asks side session n request) → ⊥
  pub says : SaysAfter old.sent more
  pub log : new.log ≡ old.log
  pub archive : new.coordinator.journal.value ≡ old.coordinator.journal.value
  pub acknowledged : new.acknowledged ≡ old.acknowledged ++ acks
  pub nothing_kept : filter_map kept_in acks ≡ []

pub heard_beside : (old new : World) (running : Running) → GoesBeside old new →
    IsHeard old running → IsHeard new running
heard_beside old new running g h = record {
  remembers = subst (λ sent. Remembers sent running) (sym g.sent) (record {
    taken =
        λ e c. let was = h.remembers.taken e c in (
          Contains-append_left old.sent g.more _ was.0,
          Contains-append_left old.sent g.more _ was.1,
        );
    waiting = λ side one c. Contains-append_left old.sent g.more _ (h.remembers.waiting side one c);
    asked =
        λ side number request c.
        elim (Contains-append_cases old.sent g.more (Asks side running.session number request) c)
        as (λ _. WasAsked running side number request) [
          | inl was ↦ h.remembers.asked side number request was
          | inr now ↦ absurd (g.no_request side running.session number request now)
        ];
    below = h.remembers.below;
    rising = h.remembers.rising;
  });
  in_order =
      subst (λ sent. ListsInOrder sent running) (sym g.sent)
      (beside_in_order old.sent g.more running h.remembers g.says h.in_order);
  unplanned =
      λ none. let was = h.unplanned none in
      (subst (All (λ made. made.session ≢ running.session)) (sym g.log) was.0, was.1, was.2, was.3);
  planned =
      λ some. subst (Any (λ made. made.session ≡ running.session)) (sym g.log) (h.planned some);
  kept =
      ap kept_in_session g.acknowledged
      ∙ (ap (fold since_start []) (filter_map-append kept_in old.acknowledged g.acks
      ∙ (ap (λ ks. filter_map kept_in old.acknowledged ++ ks) g.nothing_kept
      ∙ append-nil (filter_map kept_in old.acknowledged))) ∙ h.kept);
  logged = still_logged old.log new.log old.coordinator.journal.value
      new.coordinator.journal.value running running.plan g.log g.archive h.logged;
  settled = h.settled;
}
