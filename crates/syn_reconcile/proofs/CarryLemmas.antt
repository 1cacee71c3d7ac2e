-- What comes of an item for which the replica is not written.
use Rattle.std.proofs.Common.{◌≡◌, ◌∙◌, ◌++◌, ◌∷◌, ℕ, List, Option, Some, None, Result, Ok, Err}
use Rattle.std.proofs.Common.{ap, map}
use Rattle.std.proofs.Common.{refl, subst, sym}
use Rattle.std.specs.Prelude.{IfErr, IfNone, IfOk, MatchResult}
use Rattle.std.proofs.lemmas.List.{map-append}
use Rattle.std.proofs.lemmas.Result.{IfOk-at_ok, IfOk-weaker, MatchResult-at_err}
use Rattle.std.proofs.lemmas.Result.{MatchResult-from_both, MatchResult-weaker}
use Rattle.syn_archive.specs.Archive.{marks_shown}
use Rattle.syn_archive.specs.declared.archive.Archive.{Archive}
use Rattle.syn_disk.specs.declared.disk.Disk.{Ghosts}
use Rattle.syn_model.specs.Decision.{Item}
use Rattle.syn_model.specs.History.{History}
use Rattle.syn_model.specs.Plan.{Trees, after_item}
use Rattle.syn_model.specs.Tree.{Tree}
use Rattle.syn_recon.specs.Items.{item_of, items_of}
use Rattle.syn_recon.specs.declared.item.Item.{Item as Planned}
use Rattle.syn_refusal.specs.declared.refusal.Refusal.{Refusal}
use Rattle.syn_replica.specs.Replica.{Stands, disk_of, pair_of, tree_shown}
use Rattle.syn_replica.specs.declared.replica.Replica.{Replica}
use Rattle.syn_replica.proofs.WithRoomLemmas.{Leaves}
use Rattle.syn_reconcile.proofs.SettleLemmas.{has_now, leaves_still, left_now, stays}
use Rattle.syn_reconcile.specs.Settlings.{GoesOn, IsCarried, IsCutOff, IsLeft, after_settled, here}
use Rattle.syn_reconcile.specs.Settlings.{items_in, trees_of}
use Rattle.syn_reconcile.specs.Settlings as settlings
use Rattle.syn_reconcile.specs.Stops.{HasEitherTree, HasTree}
use Rattle.syn_reconcile.specs.declared.error.ReconcileError.{ReconcileError}
use Rattle.syn_reconcile.specs.declared.report.Settled.{Settled}

-- the items of the plan: those that were settled, this one, and the others
pub with_settled : (all made others : List Planned) (settled : List Settled) (item : Planned)
    → all ≡ made ++ item ∷ others → items_in settled ≡ items_of made
    → items_of all ≡ items_in settled ++ item_of item ∷ items_of others
with_settled all made others settled item whole are =
    ap items_of whole ∙ (map-append item_of made (item ∷ others)
    ∙ ap (λ xs. xs ++ item_of item ∷ items_of others) (sym are))

-- what is said of an item that is not refused
pub if_none : (refused : Option Refusal) (P : Type 0) → P → IfNone refused P
if_none None P p = p
if_none (Some why) P p = tt

-- what holds of the error that is passed on holds of the one that it came from
pub if_err_at : {X E : Type 0} (r : Result X E) (e : E) (P : Type 0) → r ≡ Err e
    → IfErr r (λ _. P) → P
if_err_at r e P is holds = MatchResult-at_err (λ _. Unit {0}) (λ _. P) e is holds

-- what holds anyway holds of a refusal
pub on_err : {X E : Type 0} (r : Result X E) (P : Type 0) → P → IfErr r (λ _. P)
on_err (Ok x) P p = tt
on_err (Err e) P p = p

module _ {R : Type 0} {on_replica : Ghosts R}
    (held : Replica R on_replica)
    (result : Result (Replica R on_replica × Option Refusal) (ReconcileError × R))
    (carried : Result (Option Refusal) ReconcileError) where
  -- the replica as it was, or its disk
  abbrev pub IsPassed : Type 0
  IsPassed = IfOk result (λ done. (done.0 ≡ held) × (carried ≡ Ok done.1))

  abbrev pub IsPassedOn : Type 0
  IsPassedOn =
      IfErr result (λ stopped. (stopped.1 ≡ disk_of held) × (carried ≡ Err stopped.0))

  module _ {A : Type 0} {on_archive : Ghosts A} (user : ℕ) (history : History) (stands : Stands held
      history) (item same : Item)
      (is : item ≡ same) (folder : Tree) (was now : Archive A on_archive) (left : Tree)
      (right : (after_item (trees_of folder held was) same).right ≡ tree_shown held) where
    abbrev pub trees : Trees
    trees = trees_of folder held was

    stays_right : (refused : Option Refusal) → (after_settled trees same refused).right
        ≡ tree_shown held
    stays_right None = right
    stays_right (Some why) = refl

    settled : (refused : Option Refusal) → IsCarried same refused trees left now
        → GoesOn user history (after_settled trees item refused) left held now
    settled refused fact =
        let then = after_settled trees same refused in
        let are : trees_of left held now ≡ then =
        ap (λ (t : Tree). here t (tree_shown held) (marks_shown now)) fact.left
        ∙ (ap (λ (m : Tree). here then.left (tree_shown held) m) fact.marks.are
        ∙ ap (λ (r : Tree). here then.left r then.archive) (sym (stays_right refused))) in
        subst (λ (i : Item). GoesOn user history (after_settled trees i refused) left held now)
        (sym is)
        (stays user history then left held now fact.marks.kept stands fact.marks.keeps are)

    pub settled_here : IsPassed
        → IfOk carried (λ refused. IsCarried same refused trees left now)
        → IfOk result
        (λ done. GoesOn user history (after_settled trees item done.1) left done.0 now)
    settled_here passed facts =
        IfOk-weaker result (λ done. (done.0 ≡ held) × (carried ≡ Ok done.1))
        (λ done. GoesOn user history (after_settled trees item done.1) left done.0 now)
        (λ done at. subst (λ (h : Replica R on_replica).
        GoesOn user history (after_settled trees item done.1) left h now) (sym at.0)
        (settled done.1
        (IfOk-at_ok (λ refused. IsCarried same refused trees left now) at.1 facts))) passed

    cut : (disk : R) → disk ≡ disk_of held → IsLeft same trees left was now
        → IsCutOff same (pair_of held) user history trees left (on_replica.may_leave disk) was now
    cut disk at (settlings.IsLeft.before same_left same_now) =
        settlings.IsCutOff.before same_left same_now
    cut disk at (settlings.IsLeft.done done_left) =
        settlings.IsCutOff.done done_left
        (λ bytes may. subst (λ (t : Tree). HasTree (pair_of held) user history t bytes)
        (sym right) (has_now held history stands user bytes
        (left_now held history stands bytes
        (subst (λ (d : R). on_replica.may_leave d bytes) at may))))

    pub cut_off : IsPassedOn → IfErr carried (λ _. IsLeft same trees left was now)
        → IfErr result (λ stopped. IsCutOff item (pair_of held) user history trees left
        (on_replica.may_leave stopped.1) was now)
    cut_off passed facts =
        MatchResult-weaker result passed (λ done t. t)
        (λ stopped at. subst (λ (i : Item). IsCutOff i (pair_of held) user history trees left
        (on_replica.may_leave stopped.1) was now) (sym is)
        (cut stopped.1 at.0
        (if_err_at carried stopped.0 (IsLeft same trees left was now) at.1 facts)))

  -- a stop leaves what the replica has
  pub moment_here : (user : ℕ) (history : History) → Stands held history → (wanted : Tree)
      → ((d : R) (c : List ℕ) → on_replica.left_since d (on_replica.moment d) c
      → on_replica.may_leave d c) → IsPassed → IsPassedOn
      → MatchResult result
      (λ done. Leaves held (disk_of done.0)
      (HasEitherTree (pair_of held) user history (tree_shown held) wanted))
      (λ stopped. Leaves held stopped.1
      (HasEitherTree (pair_of held) user history (tree_shown held) wanted))
  moment_here user history stands wanted only_now passed passed_on =
      let P = HasEitherTree (pair_of held) user history (tree_shown held) wanted in
      let still = leaves_still held history stands only_now user wanted in
      MatchResult-from_both result (λ done. Leaves held (disk_of done.0) P)
      (λ stopped. Leaves held stopped.1 P)
      (IfOk-weaker result (λ done. (done.0 ≡ held) × (carried ≡ Ok done.1))
      (λ done. Leaves held (disk_of done.0) P)
      (λ done at. subst (λ (h : Replica R on_replica). Leaves held (disk_of h) P) (sym at.0) still)
      passed)
      (MatchResult-weaker result passed_on (λ done t. t)
      (λ stopped at. subst (λ (d : R). Leaves held d P) (sym at.0) still))
