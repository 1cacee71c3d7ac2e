-- What a run says to a replacement that is asked for again.
use Rattle.std.proofs.Common.{◌≡◌, ℕ, Bool, true, false, List, [], ◌∷◌, ◌++◌, refl}
use Rattle.std.proofs.Common.{sym, ap, ◌∙◌, subst, Option, Some, None, slice_get, inl, inr}
use Rattle.std.proofs.Common.{append-nil, ap₂}
use Rattle.syn_model.specs.Path.{Path}
use Rattle.syn_model.specs.Tree.{Tree}
use Rattle.syn_model.specs.Event.{Event, Replaced}
use Rattle.syn_model.specs.History.{History, IsHistory}
use Rattle.syn_model.specs.Refusal as why
use Rattle.syn_machine.specs.Machine.{Status, Up, Halted, Down}
use Rattle.syn_machine.specs.Side.{Served, Serves, Replace, Reply, Refused, Done, answer}
use Rattle.syn_machine.specs.Side.{is_last_token, token_of}
use Rattle.syn_machine.specs.SideMachine.{SideMachine, SideTakes, ServesAs, side_now, has_room_for}
use Rattle.syn_machine.specs.SideMachine.{answers, adds}
use Rattle.syn_machine.specs.Network.{Which, Left, Right, Message, Asks}
use Rattle.syn_runs.specs.World.{World, Delivers, to_no_side, to_side, side_of, says, side_goes}
use Rattle.syn_runs.specs.Delivered.{RepeatsAreAnswered, repeat_reply}
use Rattle.syn_runs.specs.Runs.{picture_of}
use Rattle.syn_runs.proofs.FineRuns.{follows, start_view}
use Rattle.syn_runs.proofs.Invariant.{IsKept, Plans, histories_of}
use Rattle.syn_runs.proofs.RepeatLemmas.{last_is_done, replaced_is_old}
use Rattle.syn_runs.proofs.WholeRuns.{no_plans, start_kept, run_kept}
use Rattle.syn_runs.proofs.View.{longer}

nothing_changes : (world : World) (to : Which) → world ≡ side_goes world to (side_of world to) [] []
nothing_changes world Left =
    ap₂ (λ sent acknowledged. record world { sent = sent; acknowledged = acknowledged })
    (sym (append-nil world.sent)) (sym (append-nil world.acknowledged))
nothing_changes world Right =
    ap₂ (λ sent acknowledged. record world { sent = sent; acknowledged = acknowledged })
    (sym (append-nil world.sent)) (sym (append-nil world.acknowledged))

module _ (pair : ℕ) (machine : SideMachine) (session item : ℕ) (path : Path) (since size : ℕ)
    (earlier later : History) (at : Path) (from : ℕ) (part : Tree)
    (lawful : IsHistory machine.journal.value)
    (has : machine.journal.value ≡ earlier ++ Replaced (token_of session item) at from part ∷ later)
  where
    abbrev is_last : Bool
    is_last = is_last_token (side_now machine) (token_of session item)

    abbrev says_so : Status → Option Reply
    says_so status = repeat_reply status is_last

    up : (served : Served) → Serves pair (has_room_for pair machine) (side_now machine) session
        (Replace item path since size) served → (reply : Reply)
        × (served ≡ answer (side_now machine) reply) × (says_so Up ≡ Some reply)
    up served serves = elim is_last
        as (λ b. is_last ≡ b → (reply : Reply) × (served ≡ answer (side_now machine) reply)
        × (repeat_reply Up b ≡ Some reply)) [
          | true ↦ λ last. (
            Done,
            last_is_done pair (has_room_for pair machine) (side_now machine) session item path since
                size served last serves,
            refl,
          )
          | false ↦ λ differs. (
            Refused why.OldSession,
            replaced_is_old pair (has_room_for pair machine) (side_now machine) session item path
                since size served earlier later at from part lawful has differs serves,
            refl,
          )
        ] refl

    answered : (status : Status) (served : Served) →
        ServesAs status pair (has_room_for pair machine)
        (side_now machine) session (Replace item path since size) served → (reply : Reply)
        × (served ≡ answer (side_now machine) reply) × (says_so status ≡ Some reply)
    answered Up served serves = up served serves
    answered Halted served (inl is) = (Refused why.Halted, is, refl)
    answered Halted served (inr cannot) = absurd cannot
    answered Down served serves = absurd serves

    pub takes_so : (next : SideMachine) (reply : Option Reply) (events : List Event) →
        SideTakes pair machine session (Replace item path since size) next reply events →
        (next ≡ machine) × (reply ≡ says_so machine.journal.status) × (events ≡ [])
    takes_so _ _ _ (answers served serves same) =
        let so = answered machine.journal.status served serves in (
          ap (λ s. record machine { staging = s.side.staging }) so.1,
          ap (λ s. Some s.reply) so.1 ∙ sym so.2,
          refl,
        )
    takes_so _ _ _ (adds served event journal events is_up serves more writes) =
        absurd (longer machine.journal.value event
        (sym (ap (λ s. s.side.history) (up served serves).1) ∙ more))

pub answer_repeats : RepeatsAreAnswered
answer_repeats start old new steps message to session number item path since size earlier later at
    from part s g asked has d = by (slice_get old.sent message) asked d
  where
    kept : (plans : Plans) × IsKept plans (picture_of old)
    kept = run_kept no_plans (picture_of start) (picture_of old) (start_kept (picture_of start)
        (start_view start s)) (follows start old steps s g).follows

    history_is : (which : Which) →
        histories_of (picture_of old) which ≡ (side_of old which).journal.value
    history_is Left = refl
    history_is Right = refl

    now : World
    now =
        side_goes old to (side_of old to) (says to session number
        (repeat_reply (side_of old to).journal.status
        (is_last_token (side_now (side_of old to)) (token_of session item)))) []

    silent : (status : Status) (b : Bool) → status ≡ Down → repeat_reply status b ≡ None
    silent status b down = ap (λ s. repeat_reply s b) down

    delivered : (new : World) →
        Delivers old (Some (Asks to session number (Replace item path since size))) new → new ≡ now
    delivered _ (to_no_side _ _ _ _ down) =
        nothing_changes old to ∙ ap (λ reply. side_goes old to (side_of old to)
        (says to session number reply) []) (sym (silent (side_of old to).journal.status
        (is_last_token (side_now (side_of old to)) (token_of session item)) down))
    delivered _ (to_side _ _ _ _ machine reply events takes) =
        let so = takes_so old.pair (side_of old to) session item path since size earlier later at
        from part (subst IsHistory (history_is to) (kept.1.sound.lawful to)) has machine reply
        events takes in
        ap (λ m. side_goes old to m (says to session number reply) events) so.0
        ∙ (ap (λ r. side_goes old to (side_of old to) (says to session number r) events) so.1
        ∙ ap (λ es. side_goes old to (side_of old to) (says to session number
        (repeat_reply (side_of old to).journal.status
        (is_last_token (side_now (side_of old to)) (token_of session item)))) es) so.2)

    by : (o : Option Message) → o ≡ Some (Asks to session number (Replace item path since size)) →
        Delivers old o new → new ≡ now
    by o is delivers = delivered new (subst (λ m. Delivers old m new) is delivers)
