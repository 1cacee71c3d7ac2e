-- What a run has reached at some moment.
use Rattle.std.proofs.Common.{◌≡◌, ◌∙◌, ◌++◌, ◌∷◌, [], ℕ, List, Option, None, map}
use Rattle.std.proofs.Common.{ap, append_assoc, inl, inr, refl, subst, sym}
use Rattle.std.specs.Prelude.{IfNone}
use Rattle.std.proofs.lemmas.List.{map-append}
use Rattle.syn_archive.proofs.MeaningLemmas.{keeps_stands as marks_stand}
use Rattle.syn_archive.proofs.StandLemmas.{keeps_now as marks_now}
use Rattle.syn_archive.specs.Archive.{Stands as Keeps, disk_of as marks_disk, marks_shown}
use Rattle.syn_archive.specs.Archive.{pair_of as marks_pair}
use Rattle.syn_archive.specs.Disks.{DiskStands as MarksStand}
use Rattle.syn_archive.specs.declared.archive.Archive.{Archive}
use Rattle.syn_disk.proofs.LeftLemmas.{leaves_weaker}
use Rattle.syn_disk.specs.Stops.{LeavesOnly}
use Rattle.syn_disk.specs.declared.disk.Disk.{Ghosts}
use Rattle.syn_folder.specs.declared.stranger.Stranger.{Stranger}
use Rattle.syn_journal.proofs.Moments.{in_turn}
use Rattle.syn_model.specs.Archive as model
use Rattle.syn_model.specs.Decision.{Item}
use Rattle.syn_model.specs.Event.{Edit, Edited}
use Rattle.syn_model.specs.History.{History, tree_of}
use Rattle.syn_model.specs.Plan.{Trees, after_item, carried_out}
use Rattle.syn_model.specs.Tree.{Tree}
use Rattle.syn_recon.specs.Items.{item_of}
use Rattle.syn_recon.specs.declared.item.Item.{Item as Planned}
use Rattle.syn_refusal.specs.declared.refusal.Refusal.{Refusal}
use Rattle.syn_replica.specs.Disks.{DiskStands}
use Rattle.syn_replica.specs.Replica.{Stands, disk_of, pair_of, tree_shown}
use Rattle.syn_replica.specs.declared.replica.Replica.{Replica}
use Rattle.syn_replica.proofs.WithRoomLemmas.{still as replica_still}
use Rattle.syn_reconcile.proofs.MarkLemmas.{still as marks_still, was}
use Rattle.syn_reconcile.proofs.SettleLemmas.{has_now, left_now, shown_is}
use Rattle.syn_reconcile.specs.Settlings.{GoesOn, IsCutOff, NoneRefused, after_all, after_one}
use Rattle.syn_reconcile.specs.Settlings.{after_settled, items_in, trees_of}
use Rattle.syn_reconcile.specs.Settlings as settlings
use Rattle.syn_reconcile.specs.Stops.{HasEitherMarks, HasEitherTree, HasMarks, HasTree}
use Rattle.syn_reconcile.specs.Strangers.{LeavesAlone}
use Rattle.syn_reconcile.specs.UnderWay.{AreApart, IsPartOf, IsReached, IsStopped}
use Rattle.syn_reconcile.specs.UnderWay.{ReachesMarks, ReachesTree}
use Rattle.syn_reconcile.specs.UnderWay as run
use Rattle.syn_reconcile.specs.declared.report.Settled.{Settled}

-- ---- one settled item more

pub after_more : (trees : Trees) (settled : List Settled) (one : Settled)
    → after_all trees (settled ++ one ∷ []) ≡ after_one (after_all trees settled) one
after_more trees [] one = refl
after_more trees (first ∷ more) one = after_more (after_one trees first) more one

pub apart_more : (strangers : List Stranger) (trees : Trees) (settled : List Settled)
    (one : Settled) → AreApart strangers trees settled
    → IfNone one.refused (LeavesAlone strangers (after_all trees settled).right (item_of one.item))
    → AreApart strangers trees (settled ++ one ∷ [])
apart_more strangers trees [] one apart this = (this, tt)
apart_more strangers trees (first ∷ more) one apart this =
    (apart.0, apart_more strangers (after_one trees first) more one apart.1 this)

-- where none was refused each is carried out
pub all_carried : (trees : Trees) (settled : List Settled) → NoneRefused settled
    → after_all trees settled ≡ carried_out trees (items_in settled)
all_carried trees [] none = refl
all_carried trees (one ∷ more) none =
    ap (λ refused. after_all (after_settled trees (item_of one.item) refused) more) none.0
    ∙ all_carried (after_item trees (item_of one.item)) more none.1

-- ---- what is reached

-- edits after edits
pub more_edits : (pair user : ℕ) (history : History) (edits : List Edit) (tree : Tree)
    (bytes : List ℕ) → HasTree pair user (history ++ map (Edited user) edits) tree bytes
    → HasTree pair user history tree bytes
more_edits pair user history edits tree bytes has =
    let same : (history ++ map (Edited user) edits) ++ map (Edited user) has.edits
    ≡ history ++ map (Edited user) (edits ++ has.edits) =
    append_assoc history (map (Edited user) edits) (map (Edited user) has.edits)
    ∙ ap (λ es. history ++ es) (sym (map-append (Edited user) edits has.edits)) in
    record {
      edits = edits ++ has.edits;
      stands = subst (DiskStands pair bytes) same has.stands;
      leaves = ap tree_of (sym same) ∙ has.leaves;
    }

-- one item more was settled
pub part_then : (items : List Item) (settled : List Settled) (one : Settled) (others : List Item)
    → items ≡ items_in settled ++ item_of one.item ∷ others
    → IsPartOf items (settled ++ one ∷ [])
part_then items settled one others are = record {
  others = others;
  are = are ∙ sym (ap (λ xs. xs ++ others)
      (map-append (λ (s : Settled). item_of s.item) settled (one ∷ []))
      ∙ append_assoc (items_in settled) (item_of one.item ∷ []) others);
}

module _ (items : List Item) (found : Trees) (settled : List Settled) (item : Planned)
    (others : List Item) (are : items ≡ items_in settled ++ item_of item ∷ others) where
  abbrev pub now : Trees
  now = after_all found settled

  pub reached_now : IsReached items found now
  reached_now = record {
    settled = settled;
    part = record { others = item_of item ∷ others; are = are };
    leave = refl;
  }

  pub reached_then : (refused : Option Refusal)
      → IsReached items found (after_settled now (item_of item) refused)
  reached_then refused =
      let one : Settled = record { item = item; refused = refused } in
      record {
        settled = settled ++ one ∷ [];
        part = part_then items settled one others are;
        leave = after_more found settled one;
      }

  pub tree_reached : (pair user : ℕ) (history : History) (edits : List Edit) (bytes : List ℕ)
      → HasEitherTree pair user (history ++ map (Edited user) edits) now.right
      (after_item now (item_of item)).right bytes
      → ReachesTree items pair user history found bytes
  tree_reached pair user history edits bytes (inl has) = record {
    trees = now;
    reached = reached_now;
    has = more_edits pair user history edits now.right bytes has;
  }
  tree_reached pair user history edits bytes (inr has) = record {
    trees = after_item now (item_of item);
    reached = reached_then None;
    has = more_edits pair user history edits (after_item now (item_of item)).right bytes has;
  }

  pub marks_reached : (pair : ℕ) (bytes : List ℕ)
      → HasEitherMarks pair now.archive (after_item now (item_of item)).archive bytes
      → ReachesMarks items pair found bytes
  marks_reached pair bytes (inl has) =
      record { trees = now; reached = reached_now; has = has }
  marks_reached pair bytes (inr has) = record {
    trees = after_item now (item_of item);
    reached = reached_then None;
    has = has;
  }

-- what a stop leaves of an archive that stands
pub marks_left : {A : Type 0} {disk : Ghosts A} (marks : Archive A disk) (kept : model.Archive)
    → Keeps marks kept → (bytes : List ℕ) → disk.may_leave (marks_disk marks) bytes
    → HasMarks (marks_pair marks) (marks_shown marks) bytes
marks_left marks kept keeps bytes left = record {
  kept = kept;
  stands =
      subst (λ b. MarksStand (marks_pair marks) b kept) (sym (keeps.runs.durable bytes left))
      (marks_stand (marks_now marks kept keeps));
  are = was marks kept keeps;
}

-- between two items
pub stopped_between : {R A : Type 0} {on_replica : Ghosts R} {on_archive : Ghosts A}
    (planned : List Item) (found trees : Trees) (user : ℕ) (history : History) (folder : Tree)
    (held : Replica R on_replica) (marks : Archive A on_archive) (pair marked : ℕ) (disk : R)
    → IsReached planned found trees → GoesOn user history trees folder held marks
    → pair_of held ≡ pair → marks_pair marks ≡ marked → disk ≡ disk_of held
    → IsStopped planned pair marked user history found folder (on_replica.may_leave disk)
    (on_archive.may_leave (marks_disk marks))
stopped_between {on_replica = on_replica} planned found trees user history folder held marks pair
    marked disk reached on same same_marked is =
    run.IsStopped.between trees reached (ap (λ (t : Trees). t.left) on.are)
    (λ bytes may. record {
      edits = on.edits;
      stands =
          subst (λ n. DiskStands n bytes (history ++ map (Edited user) on.edits)) same
          (left_now held (history ++ map (Edited user) on.edits) on.stands bytes
          (subst (λ (d : _). on_replica.may_leave d bytes) is may));
      leaves =
          shown_is held (history ++ map (Edited user) on.edits) on.stands
          ∙ ap (λ (t : Trees). t.right) on.are;
    })
    (λ bytes may. subst (λ n. HasMarks n trees.archive bytes) same_marked
    (subst (λ (m : Tree). HasMarks (marks_pair marks) m bytes)
    (ap (λ (t : Trees). t.archive) on.are) (marks_left marks on.kept on.keeps bytes may)))

-- one item more
module _ {R A : Type 0} {on_replica : Ghosts R} {on_archive : Ghosts A} (planned : List Item)
    (found : Trees) (settled : List Settled) (item : Planned) (others : List Item)
    (are : planned ≡ items_in settled ++ item_of item ∷ others) (user : ℕ) (history : History)
    (folder : Tree) (between : Replica R on_replica) (marks : Archive A on_archive)
    (on : GoesOn user history (after_all found settled) folder between marks) where
  abbrev pub so_far : History
  so_far = history ++ map (Edited user) on.edits

  abbrev pub reached : Trees
  reached = after_all found settled

  -- what is said of the three as they stand is said of what was reached
  either_tree : (pair : ℕ) → pair_of between ≡ pair → (bytes : List ℕ)
      → HasEitherTree (pair_of between) user so_far (tree_shown between)
      (after_item (trees_of folder between marks) (item_of item)).right bytes
      → HasEitherTree pair user so_far reached.right (after_item reached (item_of item)).right bytes
  either_tree pair same bytes has =
      subst (λ n. HasEitherTree n user so_far reached.right
      (after_item reached (item_of item)).right bytes) same
      (subst (λ (t : Trees). HasEitherTree (pair_of between) user so_far t.right
      (after_item t (item_of item)).right bytes) on.are has)

  either_marks : (pair : ℕ) → marks_pair marks ≡ pair → (bytes : List ℕ)
      → HasEitherMarks (marks_pair marks) (marks_shown marks)
      (after_item (trees_of folder between marks) (item_of item)).archive bytes
      → HasEitherMarks pair reached.archive (after_item reached (item_of item)).archive bytes
  either_marks pair same bytes has =
      subst (λ n. HasEitherMarks n reached.archive
      (after_item reached (item_of item)).archive bytes) same
      (subst (λ (t : Trees). HasEitherMarks (marks_pair marks) t.archive
      (after_item t (item_of item)).archive bytes) on.are has)

  pub step_tree : (first new : R) (pair : ℕ) → pair_of between ≡ pair
      → LeavesOnly on_replica.moment on_replica.left_since first (disk_of between)
      (ReachesTree planned pair user history found)
      → LeavesOnly on_replica.moment on_replica.left_since (disk_of between) new
      (HasEitherTree (pair_of between) user so_far (tree_shown between)
      (after_item (trees_of folder between marks) (item_of item)).right)
      → LeavesOnly on_replica.moment on_replica.left_since first new
      (ReachesTree planned pair user history found)
  step_tree first new pair same before step =
      in_turn on_replica.moment on_replica.left_since first (disk_of between) new
      (ReachesTree planned pair user history found) before
      (leaves_weaker on_replica.moment on_replica.left_since (disk_of between) new
      (HasEitherTree (pair_of between) user so_far (tree_shown between)
      (after_item (trees_of folder between marks) (item_of item)).right)
      (ReachesTree planned pair user history found)
      (λ bytes has. tree_reached planned found settled item others are pair user history on.edits
      bytes (either_tree pair same bytes has)) step)

  pub step_marks : (first new : A) (pair : ℕ) → marks_pair marks ≡ pair
      → LeavesOnly on_archive.moment on_archive.left_since first (marks_disk marks)
      (ReachesMarks planned pair found)
      → LeavesOnly on_archive.moment on_archive.left_since (marks_disk marks) new
      (HasEitherMarks (marks_pair marks) (marks_shown marks)
      (after_item (trees_of folder between marks) (item_of item)).archive)
      → LeavesOnly on_archive.moment on_archive.left_since first new
      (ReachesMarks planned pair found)
  step_marks first new pair same before step =
      in_turn on_archive.moment on_archive.left_since first (marks_disk marks) new
      (ReachesMarks planned pair found) before
      (leaves_weaker on_archive.moment on_archive.left_since (marks_disk marks) new
      (HasEitherMarks (marks_pair marks) (marks_shown marks)
      (after_item (trees_of folder between marks) (item_of item)).archive)
      (ReachesMarks planned pair found)
      (λ bytes has. marks_reached planned found settled item others are pair bytes
      (either_marks pair same bytes has)) step)

  module _ (pair marked : ℕ) (same : pair_of between ≡ pair) (same_marked : marks_pair marks ≡
      marked)
      (disk : R) (left : Tree) (new : Archive A on_archive)
      (trees_left : (bytes : List ℕ) → on_replica.may_leave disk bytes
      → HasEitherTree (pair_of between) user so_far (tree_shown between)
      (after_item (trees_of folder between marks) (item_of item)).right bytes)
      (marks_there : (bytes : List ℕ) → on_archive.may_leave (marks_disk new) bytes
      → HasEitherMarks (marks_pair marks) (marks_shown marks)
      (after_item (trees_of folder between marks) (item_of item)).archive bytes) where
    more_either : (bytes : List ℕ)
        → HasEitherTree pair user so_far reached.right
        (after_item reached (item_of item)).right bytes
        → HasEitherTree pair user history reached.right
        (after_item reached (item_of item)).right bytes
    more_either bytes (inl has) =
        inl (more_edits pair user history on.edits reached.right bytes has)
    more_either bytes (inr has) =
        inr (more_edits pair user history on.edits (after_item reached (item_of item)).right bytes
        has)

    cut : IsCutOff (item_of item) (pair_of between) user so_far reached left
        (on_replica.may_leave disk) marks new
        → IsStopped planned pair marked user history found left (on_replica.may_leave disk)
        (on_archive.may_leave (marks_disk new))
    cut (settlings.IsCutOff.before same_left same_now) =
        run.IsStopped.before settled (item_of item) others are same_left
        (λ bytes may. more_either bytes (either_tree pair same bytes (trees_left bytes may)))
        (λ bytes may. subst (λ n. HasMarks n reached.archive bytes) same_marked
        (subst (λ (m : Tree). HasMarks (marks_pair marks) m bytes)
        (ap (λ (t : Trees). t.archive) on.are) (marks_left marks on.kept on.keeps bytes
        (subst (λ (a : Archive A on_archive). on_archive.may_leave (marks_disk a) bytes) same_now
        may))))
    cut (settlings.IsCutOff.done done_left has) =
        run.IsStopped.done settled (item_of item) others are done_left
        (λ bytes may. more_edits pair user history on.edits
        (after_item reached (item_of item)).right bytes
        (subst (λ n. HasTree n user so_far (after_item reached (item_of item)).right bytes) same
        (has bytes may)))
        (λ bytes may. either_marks marked same_marked bytes (marks_there bytes may))

    pub stopped : IsCutOff (item_of item) (pair_of between) user so_far
        (trees_of folder between marks) left (on_replica.may_leave disk) marks new
        → IsStopped planned pair marked user history found left (on_replica.may_leave disk)
        (on_archive.may_leave (marks_disk new))
    stopped is =
        cut (subst (λ (t : Trees). IsCutOff (item_of item) (pair_of between) user so_far t left
        (on_replica.may_leave disk) marks new) on.are is)

-- before the first item
module _ {R A : Type 0} {on_replica : Ghosts R} {on_archive : Ghosts A} (planned : List Item)
    (folder : Tree) (held : Replica R on_replica) (marks : Archive A on_archive) where
  pub none_yet : IsReached planned (trees_of folder held marks) (trees_of folder held marks)
  none_yet = record { settled = []; part = record { others = planned; are = refl }; leave = refl }

  pub started_tree : (only_now : (d : R) (c : List ℕ)
      → on_replica.left_since d (on_replica.moment d) c → on_replica.may_leave d c) (user : ℕ)
      (history : History) → Stands held history
      → LeavesOnly on_replica.moment on_replica.left_since (disk_of held) (disk_of held)
      (ReachesTree planned (pair_of held) user history (trees_of folder held marks))
  started_tree only_now user history stands =
      leaves_weaker on_replica.moment on_replica.left_since (disk_of held) (disk_of held)
      (λ bytes. DiskStands (pair_of held) bytes history)
      (ReachesTree planned (pair_of held) user history (trees_of folder held marks))
      (λ bytes on_disk. record {
        trees = trees_of folder held marks;
        reached = none_yet;
        has = has_now held history stands user bytes on_disk;
      }) (replica_still only_now held history stands)

  started : (bytes : List ℕ)
      → HasEitherMarks (marks_pair marks) (marks_shown marks) (marks_shown marks) bytes
      → ReachesMarks planned (marks_pair marks) (trees_of folder held marks) bytes
  started bytes (inl has) =
      record { trees = trees_of folder held marks; reached = none_yet; has = has }
  started bytes (inr has) =
      record { trees = trees_of folder held marks; reached = none_yet; has = has }

  pub started_marks : (only_now : (d : A) (c : List ℕ)
      → on_archive.left_since d (on_archive.moment d) c → on_archive.may_leave d c)
      (kept : model.Archive) → Keeps marks kept
      → LeavesOnly on_archive.moment on_archive.left_since (marks_disk marks) (marks_disk marks)
      (ReachesMarks planned (marks_pair marks) (trees_of folder held marks))
  started_marks only_now kept keeps =
      leaves_weaker on_archive.moment on_archive.left_since (marks_disk marks) (marks_disk marks)
      (HasEitherMarks (marks_pair marks) (marks_shown marks) (marks_shown marks))
      (ReachesMarks planned (marks_pair marks) (trees_of folder held marks))
      started (marks_still only_now marks kept (marks_shown marks) keeps)
