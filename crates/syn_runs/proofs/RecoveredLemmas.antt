-- A replacement that an opening gives back is legal: the run goes on by that opening.
use Rattle.std.proofs.Common.{◌≡◌, ◌∙◌, List, [], ◌∷◌, ◌++◌, Option, Some, None, refl, sym, ap}
use Rattle.std.proofs.Common.{append_assoc, subst, inl, inr, arith, append-nil, length}
use Rattle.std.proofs.Common.{length-append}
use Rattle.syn_model.specs.Event.{Event, Replaced}
use Rattle.syn_model.specs.History.{History, IsAllowed}
use Rattle.syn_model.specs.Refusal.{Refusal}
use Rattle.syn_runs.specs.Acknowledged.{Stores, history_of, stores_after, Grown, IsLegal}
use Rattle.syn_runs.specs.Acknowledged.{Happened}
use Rattle.syn_machine.specs.Machine.{Status, Up, Halted, Down}
use Rattle.syn_machine.specs.Network.{Which, Left, Right}
use Rattle.syn_machine.specs.Side.{add_event}
use Rattle.syn_runs.specs.Picture.{Picture, SidePicture, Follows, FollowsAll, nothing_more}
use Rattle.syn_runs.specs.Picture.{one_more, opens, recovered, set_side, side_of, stores_of}
use Rattle.syn_runs.specs.Picture.{IsOpening, opening, reopening}
use Rattle.syn_runs.specs.World.{Machine, At, Step, Open, Reopen}
use Rattle.syn_runs.proofs.View.{up_not_down, halted_not_down}
use Rattle.syn_runs.specs.Headline.{RecoveredIsLegal, StandsFor}
use Rattle.syn_runs.proofs.PictureRuns.{OfEachRun}
use Rattle.syn_runs.proofs.WorldLemmas.{run_stands}
use Rattle.syn_runs.proofs.WholeRuns.{runs_replace_legally, start_stands}

follows_more : (old between new : Picture) (steps : List Step) (told : List Refusal) (step : Step) →
    FollowsAll old steps told between → Follows between new step [] →
    FollowsAll old (steps ++ step ∷ []) (told ++ []) new
follows_more old _ new _ _ step (nothing_more _) next =
    one_more old new new step [] [] [] next (nothing_more new)
follows_more old _ new _ _ step (one_more _ first between one rest told later goes more) next =
    subst (λ all. FollowsAll old (one ∷ rest ++ step ∷ []) all new)
    (sym (append_assoc told later []))
    (one_more old first new one (rest ++ step ∷ []) told (later ++ []) goes
    (follows_more first between new rest later step more next))

-- what the world keeps beside its machines stays as a side goes on
same_log : (world : Picture) (side : Which) (machine : SidePicture) →
    (set_side world side machine).log ≡ world.log
same_log world Left machine = refl
same_log world Right machine = refl

-- each side stands for what was acknowledged
history_is : (before : Stores) (world : Picture) → StandsFor before world → (side : Which) →
    (side_of world side).side.history ≡ history_of (stores_after before world.acknowledged) side
history_is before world stands Left = stands.left
history_is before world stands Right = stands.right

not_more : (A : Type 0) (one : A) (all : List A) → all ≡ all ++ one ∷ [] → ⊥
not_more A one all same = omega (arith, ap length same, length-append all (one ∷ []))

last_is : (A : Type 0) (one other : A) (all : List A) → all ++ one ∷ [] ≡ all ++ other ∷ [] →
    one ≡ other
last_is A one other [] same = cc
last_is A one other (first ∷ all) same =
    last_is A one other all (let rest : all ++ one ∷ [] ≡ all ++ other ∷ [] = cc in rest)

-- the event that more came by was being written, and is allowed
was_writing : (writing : Option Event) (old new : History) (event : Event) →
    Grown writing old new → new ≡ old ++ event ∷ [] →
    (writing ≡ Some event) × IsAllowed old event
was_writing None old new event same more = absurd (not_more Event event old (sym same ∙ more))
was_writing (Some one) old new event (inl same) more =
    absurd (not_more Event event old (sym same ∙ more))
was_writing (Some one) old new event (inr (allowed, longer)) more =
    let is = last_is Event one event old (sym longer ∙ more) in
    (ap Some is, subst (IsAllowed old) is allowed)

-- a step that opens a machine of this status
opening_step : (machine : Machine) (was : Status) → (step : Step) × IsOpening machine was step
opening_step machine Up = (Reopen machine, reopening up_not_down)
opening_step machine Halted = (Reopen machine, reopening halted_not_down)
opening_step machine Down = (Open machine, opening refl)

pub runs_recover_legally : OfEachRun RecoveredIsLegal
runs_recover_legally old new steps refusals start runs side history token path since put grown
    more =
    let event = Replaced token path since put in
    let now = stores_after (stores_of old) new.acknowledged in
    let stands = run_stands (stores_of old) old new runs (start_stands old start.nothing_yet.1) in
    let was = was_writing (side_of new side).writing (history_of now side) history event grown
    more in
    let allowed = subst (λ h. IsAllowed h event)
    (sym (history_is (stores_of old) new stands side)) was.1 in
    let machine : SidePicture = record {
      status = Up;
      side = add_event (side_of new side).side event;
      writing = None;
    } in
    let last : Picture = record (set_side new side machine) {
      sent = new.sent ++ [];
      acknowledged = new.acknowledged ++ Happened side event ∷ [];
    } in
    let opened = opening_step (At side) (side_of new side).status in
    let whole = follows_more old new last _ _ opened.0 runs
    (opens side opened.0 machine (event ∷ []) opened.1 (recovered event was.0 allowed) refl) in
    let found = runs_replace_legally old last _ _ start whole new.acknowledged [] side token path
    since put refl in
    subst (λ sent. IsLegal sent new.log side now token path since put) (append-nil new.sent)
    (subst (λ log. IsLegal last.sent log side now token path since put)
    (same_log new side machine) found)
