-- What a session knew of its plan before an answer it knows after, in a plan made just now too.
use Rattle.std.proofs.Common.{◌≡◌, ◌∙◌, ◌||◌, Bool, true, false, List, ◌∷◌, ◌++◌, ap, ap₂, refl}
use Rattle.std.proofs.Common.{sym, subst, Option, Some, take, []}
use Rattle.std.specs.Prelude.{◌↔◌, All, Any, Contains, IfSome, IsSome}
use Rattle.std.proofs.lemmas.List.Elements.{All-nil, All-weaker, Contains-append_left}
use Rattle.std.proofs.lemmas.List.Elements.{Contains-push}
use Rattle.std.proofs.lemmas.List.Folds.{list_any-append}
use Rattle.syn_model.specs.Archive.{Archive, archive_of}
use Rattle.syn_machine.specs.Network.{Which, Left, Right}
use Rattle.syn_machine.specs.Planning.{Planned, SessionPlan, Log}
use Rattle.syn_machine.specs.Coordinator.{Exchange, Outstanding, Running, MakesPlan, hearing}
use Rattle.syn_machine.specs.Coordinator.{asked_of, is_not_dir, took_not_dir}
use Rattle.syn_machine.specs.Coordinator as fine
use Rattle.syn_runs.proofs.Walks.{IsSettledBy, AllSettled}
use Rattle.syn_runs.specs.World as fine_world
use Rattle.syn_runs.proofs.Sessions.{IsHeard, StandsOn}
use Rattle.syn_runs.proofs.SideSteps.{if_some}
use Rattle.syn_runs.specs.Reported.{HasUnstable, IsRefusedFor, archive_found}
use Rattle.syn_runs.proofs.InOrder.{ListsInOrder}
use Rattle.syn_runs.proofs.Invariant.{Histories, IsSound, Plans}
use Rattle.syn_runs.proofs.Remembers.{Remembers}
use Rattle.syn_runs.proofs.UnstableLemmas.{ListsNothing, not_dir_taken, nothing_listed}
use Rattle.syn_runs.proofs.UnstableLemmas.{scans_tell}
use Rattle.syn_machine.proofs.WaitingLemmas.{asked_waits}
use Rattle.syn_runs.proofs.RefusedItems.{more_taken}
use Rattle.syn_runs.proofs.HeardLemmas.{list_of, any_left, any_last}

module _ (old : fine_world.World) (r : Running) (h : IsHeard old r) (exchange : Exchange) where
  -- what was settled, in a plan that is made just now too
  pub settled_before : (plan : Option (List Planned)) (logged : Log) →
      fine.HasPlan old.coordinator.journal.value (hearing r exchange) plan logged →
      AllSettled (list_of plan) r.kept (fine.start_of old.coordinator r)
  settled_before _ _ fine.stays = h.settled
  settled_before _ _ (fine.makes made none makes) =
      subst (λ n. All (IsSettledBy r.kept r.refused) (take n made.plan))
      (sym (h.unplanned none).1) (All-nil (IsSettledBy r.kept r.refused))

  abbrev archive : Archive
  archive = old.coordinator.journal.value

  -- a plan that is made just now is of the archive as it is
  made_now : r.session ≡ archive.last_session → (made : SessionPlan) →
      MakesPlan (hearing r exchange) archive made → r.kept ≡ [] →
      archive ≡ archive_of (archive_found made) r.kept
  made_now last made makes none =
      ap₂ (λ m s. record { marks = m; last_session = s }) (sym makes.archive_is)
      (sym (makes.of_session ∙ last)) ∙ ap (archive_of (archive_found made)) (sym none)

  module _ (plans : Plans) (histories : Histories)
      (sound : IsSound plans histories archive old.sent)
      (remembers : Remembers old.sent (hearing r exchange))
      (in_order : ListsInOrder old.sent (hearing r exchange))
      (asked : asked_of r exchange.side exchange.number ≡ Some exchange.request)
      (waited : (side : Which) (one : Outstanding) →
      Contains (fine.outstanding (hearing r exchange) side) one →
      Contains (fine.outstanding r side) one) where
    -- no listing waits beside a plan, so no answer tells of no directory
    steady : ListsNothing r.left × ListsNothing r.right → is_not_dir exchange.reply ≡ false
    steady nothing = by (is_not_dir exchange.reply) refl
      where
        on : (side : Which) → ListsNothing (fine.outstanding r side)
        on Left = nothing.0
        on Right = nothing.1

        by : (b : Bool) → is_not_dir exchange.reply ≡ b → b ≡ false
        by false is = refl
        by true is =
            let no = not_dir_taken plans histories archive old.sent sound (hearing r exchange)
            remembers exchange (Contains-push r.taken exchange) is in
            let here =
            asked_waits (fine.outstanding r exchange.side) exchange.number exchange.request asked
            in
            absurd (on exchange.side here.0 no.0 here.1 (here.3 ∙ no.2))

    still_unstable : ListsNothing r.left × ListsNothing r.right →
        took_not_dir (hearing r exchange) ≡ took_not_dir r
    still_unstable nothing =
        list_any-append (λ e. is_not_dir e.reply) r.taken (exchange ∷ [])
        ∙ (ap (λ b. took_not_dir r || (b || false)) (steady nothing) ∙ or_false (took_not_dir r))
      where
        or_false : (b : Bool) → (b || false) ≡ b
        or_false true = refl
        or_false false = refl

    -- its plan stands in the log, made just now too, and so does the archive
    pub stands_before : r.session ≡ archive.last_session → (plan : Option (List Planned))
        (logged : Log) → fine.HasPlan archive (hearing r exchange) plan logged →
        IfSome plan (StandsOn (old.log ++ logged) archive (hearing r exchange))
    stands_before last _ _ fine.stays =
        if_some r.plan (StandsOn old.log archive r)
        (StandsOn (old.log ++ []) archive (hearing r exchange)) h.logged (λ plan _ had. record {
          is = record {
            made = had.is.made;
            logged = Contains-append_left old.log [] had.is.made had.is.logged;
            of_session = had.is.of_session;
            plan_is = had.is.plan_is;
            unstable = subst (λ b. (b ≡ true) ↔ HasUnstable had.is.made)
                (sym (still_unstable had.listed)) had.is.unstable;
            refused = All-weaker (IsRefusedFor had.is.made r.taken r.kept)
                (IsRefusedFor had.is.made (r.taken ++ exchange ∷ []) r.kept)
                (more_taken had.is.made r.taken (exchange ∷ []) r.kept) r.refused had.is.refused;
          };
          stands = had.stands;
          listed = (
            λ one path c. had.listed.0 one path (waited Left one c),
            λ one path c. had.listed.1 one path (waited Right one c),
          );
        })
    stands_before last _ _ (fine.makes made none makes) =
        let fresh = h.unplanned none in record {
          is = record {
            made = made;
            logged = Contains-push old.log made;
            of_session = makes.of_session;
            plan_is = refl;
            unstable = scans_tell plans histories archive old.sent sound (hearing r exchange)
                remembers in_order archive made makes;
            refused = subst (All (IsRefusedFor made (r.taken ++ exchange ∷ []) r.kept))
                (sym fresh.3) (All-nil (IsRefusedFor made (r.taken ++ exchange ∷ []) r.kept));
          };
          stands = made_now last made makes fresh.2;
          listed = nothing_listed plans histories archive old.sent sound (hearing r exchange)
              remembers in_order archive made makes;
        }

  pub logged_then : (plan : Option (List Planned)) (logged : Log) →
      fine.HasPlan old.coordinator.journal.value (hearing r exchange) plan logged → IsSome plan →
      Any (λ made. made.session ≡ r.session) (old.log ++ logged)
  logged_then _ _ fine.stays some =
      any_left (λ made. made.session ≡ r.session) old.log [] (h.planned some)
  logged_then _ _ (fine.makes made none makes) some =
      any_last (λ made. made.session ≡ r.session) old.log made makes.of_session
