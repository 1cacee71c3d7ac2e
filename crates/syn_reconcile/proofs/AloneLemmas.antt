-- What a run leaves that refused no item, and beside which nobody else edited.
use mathlib.Core.List.{IsPrefix}
use Rattle.std.proofs.Common.{◌≡◌, ◌≢◌, ◌∙◌, ◌++◌, ◌∷◌, [], ℕ, Bool, true, false, List, Option}
use Rattle.std.proofs.Common.{None, Result, Ok, Err, ap, ap₂, append-nil, append_assoc}
use Rattle.std.proofs.Common.{cond, eq-eqb}
use Rattle.std.proofs.Common.{eqb, map}
use Rattle.std.proofs.Common.{refl, subst, sym}
use Rattle.std.specs.Prelude.{IfNone}
use Rattle.syn_archive.specs.Archive.{marks_shown}
use Rattle.syn_archive.specs.declared.archive.Archive.{Archive}
use Rattle.syn_disk.specs.declared.disk.Disk.{Ghosts}
use Rattle.syn_lock.proofs.Histories.{end_of-append, holds_by-append, own_more}
use Rattle.syn_lock.proofs.Histories.{prefix_more}
use Rattle.syn_lock.specs.History.{IsHistory, end_of, holds_by}
use Rattle.syn_lock.specs.Locks.{origin_of}
use Rattle.syn_lock.specs.Passes.{view_of}
use Rattle.syn_lock.specs.declared.own.Pass.{Pass}
use Rattle.syn_lock.specs.declared.view.Hold.{Hold}
use Rattle.syn_lock.specs.declared.view.View.{View}
use Rattle.syn_model.specs.Decision.{Item, ToLeft, ToRight, MarkSame, MarkDir, Conflict, path_of}
use Rattle.syn_model.specs.Event.{Edit, Edited}
use Rattle.syn_model.specs.History.{History}
use Rattle.syn_model.specs.Mark.{mark}
use Rattle.syn_model.specs.Path.{Path}
use Rattle.syn_model.specs.Plan.{ItemFindsSides, Trees, after_item, after_plan, carried_out}
use Rattle.syn_model.specs.Plan.{scan_of, with_directory}
use Rattle.syn_model.specs.Tree.{Tree, replace, subtree}
use Rattle.std.proofs.lemmas.List.{map-append}
use Rattle.syn_recon.specs.Items.{item_of}
use Rattle.syn_refusal.specs.declared.refusal.Refusal.{Refusal}
use Rattle.syn_replica.specs.Growth.{IsGrown}
use Rattle.syn_replica.specs.Replica.{Stands, tree_shown}
use Rattle.syn_replica.specs.declared.error.ReplicaError.{ReplicaError}
use Rattle.syn_replica.specs.declared.replica.Replica.{Replica}
use Rattle.syn_shared.specs.Parts.{Puts, Takes}
use Rattle.syn_shared.specs.Shared.{HeldAfterWait, own_of}
use Rattle.syn_shared.specs.declared.parts.Snapshot.{Snapshot}
use Rattle.syn_shared.specs.declared.shared.SharedReplica.{SharedReplica}
use Rattle.syn_reconcile.proofs.SettleLemmas.{shown_is}
use Rattle.syn_reconcile.proofs.SharedLemmas.{after_more_seen, right_stays}
use Rattle.syn_reconcile.specs.Settlings.{GoesOn, NoneRefused, here, items_in, planned}
use Rattle.syn_reconcile.specs.Shared.{HoldInTurn, HoldsFor, IsBeside, IsForReplica, NobodyEdits}
use Rattle.syn_reconcile.specs.Shared.{after_all_seen, after_seen, beside, seen_last}
use Rattle.syn_reconcile.specs.Shared as shared
use Rattle.syn_reconcile.specs.declared.report.Settled.{Settled}

-- ---- folder and marks go on as the plan has it

-- the folder's tree and the marks are those
pub record AreSame (seen planned : Trees) : Type 0 where
  pub left : seen.left ≡ planned.left
  pub archive : seen.archive ≡ planned.archive

beside_same : (seen now : Trees) (item : Item) → AreSame seen now
    → subtree now.right (path_of item) ≡ subtree seen.right (path_of item)
    → AreSame (beside seen item None) (after_item now item)
beside_same seen now (ToLeft path) same at = record {
  left = ap₂ (λ (l t : Tree). replace l path t) same.left (sym at);
  archive = ap₂ (λ (a t : Tree). replace a path (mark t)) same.archive (sym at);
}
beside_same seen now (ToRight path) same at = record {
  left = same.left;
  archive = ap₂ (λ (a l : Tree). replace a path (mark (subtree l path))) same.archive same.left;
}
beside_same seen now (MarkSame path) same at = record {
  left = same.left;
  archive = ap₂ (λ (a l : Tree). replace a path (mark (subtree l path))) same.archive same.left;
}
beside_same seen now (MarkDir path) same at = record {
  left = same.left;
  archive = ap (λ (a : Tree). with_directory a path) same.archive;
}
beside_same seen now (Conflict path) same at =
    record { left = same.left; archive = same.archive }

-- one more item was settled, and none refused
none_before : (settled : List Settled) (one : Settled) → NoneRefused (settled ++ one ∷ [])
    → NoneRefused settled
none_before [] one none = tt
none_before (first ∷ more) one none = (none.0, none_before more one none.1)

none_last : (settled : List Settled) (one : Settled) → NoneRefused (settled ++ one ∷ [])
    → one.refused ≡ None
none_last [] one none = none.0
none_last (first ∷ more) one none = none_last more one none.1

items_then : (settled : List Settled) (one : Settled) (others : List Item)
    → items_in (settled ++ one ∷ []) ++ others ≡ items_in settled ++ item_of one.item ∷ others
items_then [] one others = refl
items_then (first ∷ more) one others =
    ap (λ (xs : List Item). item_of first.item ∷ xs) (items_then more one others)

carried_more : (trees : Trees) (settled : List Settled) (one : Settled)
    → carried_out trees (items_in (settled ++ one ∷ []))
    ≡ after_item (carried_out trees (items_in settled)) (item_of one.item)
carried_more trees [] one = refl
carried_more trees (first ∷ more) one =
    carried_more (after_item trees (item_of first.item)) more one

right_kept : (trees : Trees) (item : Item) → ¬ IsForReplica item
    → (after_item trees item).right ≡ trees.right
right_kept trees (ToLeft path) not = refl
right_kept trees (ToRight path) not = absurd (not tt)
right_kept trees (MarkSame path) not = refl
right_kept trees (MarkDir path) not = refl
right_kept trees (Conflict path) not = refl

-- ---- holds of one pass, and none of others that changes anything

not_by : (n m : ℕ) → eqb n m ≡ false → n ≢ m
not_by n m unlike same = absurd (let k : true ≡ false = sym (eq-eqb n m same) ∙ unlike in cc)

module _ {S : Type 0} where
  -- what a pass has seen and which holds are its own
  abbrev pub OwnAre : View S → Type 0
  OwnAre v = holds_by v.number v.seen ≡ v.own

  first_other : (b : Bool) (h : Hold S) (hs : List (Hold S)) → cond b (h ∷ hs) hs ≡ []
      → (b ≡ false) × (hs ≡ [])
  first_other true h hs none = absurd cc
  first_other false h hs none = (refl, none)

  none_added : (xs ys : List (Hold S)) → xs ++ ys ≡ xs → ys ≡ []
  none_added [] ys e = e
  none_added (x ∷ xs) ys e = none_added xs ys cc

  -- what holds at the start of holds of others, none of which ends it, holds at their end
  stays_through : (P : S → Type 0) (grows : S → S → Type 0) (number : ℕ) (s : S)
      (holds : List (Hold S)) → IsHistory grows s holds → holds_by number holds ≡ []
      → ((before after : List (Hold S)) (one : Hold S) → holds ≡ before ++ one ∷ after
      → one.pass ≢ number → P one.found → P one.left) → P s → P (end_of s holds)
  stays_through P grows number s [] history none keeps p = p
  stays_through P grows number s (h ∷ hs) history none keeps p =
      let others = first_other (eqb h.pass number) h (holds_by number hs) none in
      stays_through P grows number h.left hs history.2 others.1
      (λ before after one is. keeps (h ∷ before) after one (ap (λ xs. h ∷ xs) is))
      (keeps [] hs h refl (not_by h.pass number others.0) (subst P (sym history.0) p))

  stays_after : (P : S → Type 0) (grows : S → S → Type 0) (number : ℕ) (s : S)
      (before holds : List (Hold S)) → IsHistory grows s (before ++ holds)
      → holds_by number holds ≡ []
      → ((earlier after : List (Hold S)) (one : Hold S) → holds ≡ earlier ++ one ∷ after
      → one.pass ≢ number → P one.found → P one.left) → P (end_of s before)
      → P (end_of s (before ++ holds))
  stays_after P grows number s [] holds history none keeps p =
      stays_through P grows number s holds history none keeps p
  stays_after P grows number s (h ∷ hs) holds history none keeps p =
      stays_after P grows number h.left hs holds history.2 none keeps p

module _ {A : Type 0} where
  -- where one stands of many that were added
  placed : (first before after rest : List A) (one this : A)
      → ((first ++ (before ++ one ∷ after)) ++ this ∷ []) ++ rest
      ≡ (first ++ before) ++ one ∷ (after ++ this ∷ rest)
  placed [] [] after rest one this =
      ap (λ (xs : List A). one ∷ xs) (append_assoc after (this ∷ []) rest)
  placed [] (x ∷ before) after rest one this =
      ap (λ (xs : List A). x ∷ xs) (placed [] before after rest one this)
  placed (x ∷ first) before after rest one this =
      ap (λ (xs : List A). x ∷ xs) (placed first before after rest one this)

  prefix_twice : (xs ys zs : List A) → IsPrefix xs ys → IsPrefix ys zs → IsPrefix xs zs
  prefix_twice xs ys zs a b = (
    a.0 ++ b.0,
    sym (append_assoc xs a.0 b.0) ∙ (ap (λ (w : List A). w ++ b.0) a.1 ∙ b.1),
  )

-- ---- one hold more

module _ {R : Type 0} {disk : Ghosts R} (held : SharedReplica R disk) where
  abbrev pub origin : Replica R disk
  origin = origin_of (own_of held)

  module _ (old new : Pass (Replica R disk)) (change : Replica R disk → Replica R disk → Type 0)
      (took : HeldAfterWait held old new change) where
    abbrev pub at_hold : List (Hold (Replica R disk))
    at_hold = took.1.0

    abbrev pub left_so : Replica R disk
    left_so = took.1.1

    -- the hold itself
    abbrev pub made : Hold (Replica R disk)
    made = record { pass = (view_of old).number; found = end_of origin at_hold; left = left_so }

    seen_is : (view_of new).seen ≡ at_hold ++ made ∷ []
    seen_is = ap (λ (v : View (Replica R disk)). v.seen) took.1.3

    pub number_is : (view_of new).number ≡ (view_of old).number
    number_is = ap (λ (v : View (Replica R disk)). v.number) took.1.3

    pub left_is : seen_last held new ≡ left_so
    left_is = ap (end_of origin) seen_is ∙ end_of-append origin at_hold made

    -- its own holds are those that the pass has seen of its number
    pub own_now : OwnAre (view_of new)
    own_now =
        ap (λ (n : ℕ). holds_by n (view_of new).seen) number_is
        ∙ (ap (holds_by (view_of old).number) seen_is
        ∙ (own_more (view_of old).number at_hold (view_of old).own (end_of origin at_hold) left_so
        took.1.2.2
        ∙ sym (ap (λ (v : View (Replica R disk)). v.own) took.1.3)))

    pub longer : IsPrefix (view_of old).seen (view_of new).seen
    longer = (
      took.1.2.0.0 ++ made ∷ [],
      sym (append_assoc (view_of old).seen took.1.2.0.0 (made ∷ []))
          ∙ (ap (λ (xs : List (Hold (Replica R disk))). xs ++ made ∷ []) took.1.2.0.1
          ∙ sym seen_is),
    )

    -- what the pass left last stands still where nobody else edited since
    pub found_stands : (first last : Pass (Replica R disk)) → NobodyEdits held first last
        → IsPrefix (view_of first).seen (view_of old).seen
        → IsPrefix (view_of new).seen (view_of last).seen
        → (view_of old).number ≡ (view_of last).number → OwnAre (view_of old)
        → (history : History) → Stands (seen_last held old) history
        → Stands (end_of origin at_hold) history
    found_stands first last nobody before more same own history stands =
        let seen = (view_of old).seen in
        let number = (view_of old).number in
        let gap = took.1.2.0.0 in
        let whole : seen ++ gap ≡ at_hold = took.1.2.0.1 in
        let none = none_added (view_of old).own (holds_by number gap)
        (ap (λ (xs : List (Hold (Replica R disk))). xs ++ holds_by number gap) (sym own)
        ∙ (sym (holds_by-append number seen gap) ∙ (ap (holds_by number) whole ∙ took.1.2.2))) in
        subst (λ (xs : List (Hold (Replica R disk))). Stands (end_of origin xs) history) whole
        (stays_after (λ (r : Replica R disk). Stands r history) IsGrown number origin seen gap
        (subst (IsHistory IsGrown origin) (sym whole) took.1.2.1) none
        (λ earlier after one is other.
        nobody (seen ++ earlier) (after ++ made ∷ more.0) one
        (sym more.1
        ∙ (ap (λ (xs : List (Hold (Replica R disk))). xs ++ more.0)
        (seen_is ∙ ap (λ (xs : List (Hold (Replica R disk))). xs ++ made ∷ [])
        (sym whole ∙ ap (λ (xs : List (Hold (Replica R disk))). seen ++ xs) is))
        ∙ placed seen earlier after more.0 one made))
        (prefix_more (view_of first).seen seen earlier before)
        (λ at. other (at ∙ sym same)) history) stands)

module _ {R : Type 0} {disk : Ghosts R} (held : SharedReplica R disk) (user since : ℕ)
    (found : Trees) (sides : ItemFindsSides) where
  at_path : (settled : List Settled) (item : Item) (others : List Item)
      → planned None found ≡ items_in settled ++ item ∷ others
      → subtree (carried_out found (items_in settled)).right (path_of item)
      ≡ subtree found.right (path_of item)
  at_path settled item others are =
      (sides None (scan_of found.left) (scan_of found.right) found.archive (items_in settled) others
      item found are).right

  pub same_in_turn : (settled : List Settled) (old new : Pass (Replica R disk))
      → HoldInTurn held user since found settled old new → (others : List Item)
      → planned None found ≡ items_in settled ++ others → NoneRefused settled
      → AreSame (after_all_seen found settled) (carried_out found (items_in settled))
  same_in_turn _ _ _ (shared.none pass) others are none =
      record { left = refl; archive = refl }
  same_in_turn _ _ _ (shared.more settled one old before new holds this) others are none =
      let all = are ∙ items_then settled one others in
      let so_far = same_in_turn settled old before holds (item_of one.item ∷ others) all
      (none_before settled one none) in
      let seen = after_all_seen found settled in
      let now = carried_out found (items_in settled) in
      subst (λ (t : Trees). AreSame t (carried_out found (items_in (settled ++ one ∷ []))))
      (sym (after_more_seen found settled one))
      (subst (λ (t : Trees). AreSame (after_seen seen one) t) (sym (carried_more found settled one))
      (subst (λ (r : Option Refusal). AreSame (beside seen (item_of one.item) r)
      (after_item now (item_of one.item))) (sym (none_last settled one none))
      (beside_same seen now (item_of one.item) so_far
      (at_path settled (item_of one.item) others all
      ∙ ap (λ (t : Tree). subtree t (path_of (item_of one.item)))
      (sym (right_stays found settled))))))

  -- what the replica stands for as the pass saw it last
  record Stood (history : History) (tree : Tree) (now : Pass (Replica R disk)) : Type 0 where
    pub edits : List Edit
    pub stands : Stands (seen_last held now) (history ++ map (Edited user) edits)
    pub is : tree_shown (seen_last held now) ≡ tree
    pub own : OwnAre (view_of now)

  abbrev pub PutsSo : Tree → Path → Result ℕ ReplicaError → Replica R disk → Replica R disk → Type 0
  PutsSo folder path answer = Puts user path since (subtree folder path) answer

  holds_number : (folder : Tree) (item : Item) (refused : Option Refusal)
      (old new : Pass (Replica R disk)) → HoldsFor held user since folder item refused old new
      → (view_of new).number ≡ (view_of old).number
  holds_number folder _ _ _ _ (shared.puts path position old new took) =
      number_is held old new (PutsSo folder path (Ok position)) took
  holds_number folder _ _ _ _ (shared.refuses path e why old new took is) =
      number_is held old new (PutsSo folder path (Err e)) took
  holds_number folder _ _ _ _ (shared.rests item refused pass not) = refl

  holds_longer : (folder : Tree) (item : Item) (refused : Option Refusal)
      (old new : Pass (Replica R disk)) → HoldsFor held user since folder item refused old new
      → IsPrefix (view_of old).seen (view_of new).seen
  holds_longer folder _ _ _ _ (shared.puts path position old new took) =
      longer held old new (PutsSo folder path (Ok position)) took
  holds_longer folder _ _ _ _ (shared.refuses path e why old new took is) =
      longer held old new (PutsSo folder path (Err e)) took
  holds_longer folder _ _ _ _ (shared.rests item refused pass not) =
      ([], append-nil (view_of pass).seen)

  longer_in_turn : (settled : List Settled) (old new : Pass (Replica R disk))
      → HoldInTurn held user since found settled old new
      → IsPrefix (view_of old).seen (view_of new).seen
  longer_in_turn _ _ _ (shared.none pass) = ([], append-nil (view_of pass).seen)
  longer_in_turn _ _ _ (shared.more settled one old before new holds this) =
      prefix_twice (view_of old).seen (view_of before).seen (view_of new).seen
      (longer_in_turn settled old before holds) (holds_longer _ _ _ before new this)

  module _ (first last : Pass (Replica R disk)) (nobody : NobodyEdits held first last)
      (history : History) where
    step : (folder : Tree) (item : Item) (refused : Option Refusal)
        (old new : Pass (Replica R disk)) → HoldsFor held user since folder item refused old new
        → refused ≡ None → IsPrefix (view_of first).seen (view_of old).seen
        → IsPrefix (view_of new).seen (view_of last).seen
        → (view_of old).number ≡ (view_of last).number → (now : Trees) → folder ≡ now.left
        → Stood history now.right old → Stood history (after_item now item).right new
    step folder _ _ _ _ (shared.puts path position old new took) none before more same now at stood
        =
        let change = PutsSo folder path (Ok position) in
        let so_far = history ++ map (Edited user) stood.edits in
        let there = end_of (origin_of (own_of held)) took.1.0 in
        let stands = found_stands held old new change took first last nobody before more same
        stood.own so_far stood.stands in
        let part = took.1.4.acknowledged so_far stands in
        let left = left_is held old new change took in
        record {
          edits = stood.edits ++ part.edits;
          stands =
              subst (λ (r : Replica R disk). Stands r
              (history ++ map (Edited user) (stood.edits ++ part.edits))) (sym left)
              (subst (Stands took.1.1)
              (append_assoc history (map (Edited user) stood.edits)
              (map (Edited user) part.edits)
              ∙ ap (λ (es : History). history ++ es)
              (sym (map-append (Edited user) stood.edits part.edits))) part.stands);
          is =
              ap (λ (r : Replica R disk). tree_shown r) left
              ∙ (part.tree
              ∙ (ap (λ (t : Tree). replace t path (subtree folder path))
              (sym (shown_is there so_far stands)
              ∙ (shown_is (seen_last held old) so_far stood.stands ∙ stood.is))
              ∙ ap (λ (t : Tree). replace now.right path (subtree t path)) at));
          own = own_now held old new change took;
        }
    step folder _ _ _ _ (shared.refuses path e why old new took is) none before more same now at
        stood =
        absurd cc
    step folder _ _ _ _ (shared.rests item refused pass not) none before more same now at stood =
        subst (λ (t : Tree). Stood history t pass)
        (sym (right_kept now item
        (subst (λ (r : Option Refusal). IfNone r (¬ IsForReplica item)) none not))) stood

    stood_in_turn : (settled : List Settled) (old new : Pass (Replica R disk))
        → HoldInTurn held user since found settled old new → old ≡ first → (others : List Item)
        → planned None found ≡ items_in settled ++ others → NoneRefused settled
        → IsPrefix (view_of new).seen (view_of last).seen
        → (view_of new).number ≡ (view_of last).number → Stood history found.right first
        → Stood history (carried_out found (items_in settled)).right new
    stood_in_turn _ _ _ (shared.none pass) at others are none more same stood =
        subst (Stood history found.right) (sym at) stood
    stood_in_turn _ _ _ (shared.more settled one old before new holds this) at others are none more
        same stood =
        let all = are ∙ items_then settled one others in
        let none_yet = none_before settled one none in
        let folder = (after_all_seen found settled).left in
        let step_number = holds_number folder (item_of one.item) one.refused before new this in
        let step_longer = holds_longer folder (item_of one.item) one.refused before new this in
        let so_far = stood_in_turn settled old before holds at (item_of one.item ∷ others) all
        none_yet
        (prefix_twice (view_of before).seen (view_of new).seen (view_of last).seen step_longer more)
        (sym step_number ∙ same) stood in
        subst (λ (t : Trees). Stood history t.right new) (sym (carried_more found settled one))
        (step folder (item_of one.item) one.refused before new this (none_last settled one none)
        (subst (λ (p : Pass (Replica R disk)). IsPrefix (view_of p).seen (view_of before).seen) at
        (longer_in_turn settled old before holds)) more (sym step_number ∙ same)
        (carried_out found (items_in settled))
        (same_in_turn settled old before holds (item_of one.item ∷ others) all none_yet).left
        so_far)

-- ---- a whole run

module _ (folder : Tree) (marks : Tree) (seen : Snapshot) where
  abbrev pub found : Trees
  found = here folder seen.tree marks

  module _ {R : Type 0} {disk : Ghosts R} (held : SharedReplica R disk) (user : ℕ)
      (settled : List Settled) (sides : ItemFindsSides)
      (plan : items_in settled ≡ planned None found) (first last : Pass (Replica R disk))
      (holds : HoldInTurn held user seen.position found settled first last)
      (none : NoneRefused settled) where
    are : planned None found ≡ items_in settled ++ []
    are = sym (append-nil (items_in settled) ∙ plan)

    pub sides_same : AreSame (after_all_seen found settled) (after_plan None found)
    sides_same =
        subst (λ (xs : List Item). AreSame (after_all_seen found settled) (carried_out found xs))
        plan
        (same_in_turn held user seen.position found sides settled first last holds [] are none)

    module _ (old : Pass (Replica R disk)) (took : HeldAfterWait held old first (Takes (Ok seen)))
        (nobody : NobodyEdits held first last) (history : History)
        (stands : Stands (seen_last held first) history) where
      at_first : Stood held user seen.position found sides history seen.tree first
      at_first = record {
        edits = [];
        stands = subst (Stands (seen_last held first)) (sym (append-nil history)) stands;
        is =
            ap (λ (r : Replica R disk). tree_shown r)
            (left_is held old first (Takes (Ok seen)) took ∙ took.1.4.same)
            ∙ sym took.1.4.seen.tree;
        own = own_now held old first (Takes (Ok seen)) took;
      }

      pub alone : {A : Type 0} {on_archive : Ghosts A} (left : Tree)
          (marked : Archive A on_archive)
          → IsBeside (after_all_seen found settled) left marked
          → GoesOn user history (after_plan None found) left (seen_last held last) marked
      alone left marked beside_it =
          let stood = stood_in_turn held user seen.position found sides first last nobody history
          settled first last holds refl [] are none ([], append-nil (view_of last).seen) refl
          at_first in
          record {
            edits = stood.edits;
            stands = stood.stands;
            kept = beside_it.marks.kept;
            keeps = beside_it.marks.keeps;
            are =
                ap (λ (l : Tree). here l (tree_shown (seen_last held last)) (marks_shown marked))
                (beside_it.folder ∙ sides_same.left)
                ∙ (ap (λ (r : Tree). here (after_plan None found).left r (marks_shown marked))
                (stood.is ∙ ap (λ (xs : List Item). (carried_out found xs).right) plan)
                ∙ ap (λ (m : Tree). here (after_plan None found).left
                (after_plan None found).right m) (beside_it.marks.are ∙ sides_same.archive));
          }
