-- What a run that carries out the items of a plan has reached at some moment.
use Rattle.std.specs.Prelude.{◌≡◌, ◌++◌, ◌∷◌, [], ℕ, List, IfNone}
use Rattle.syn_folder.specs.declared.stranger.Stranger.{Stranger}
use Rattle.syn_model.specs.Decision.{Item}
use Rattle.syn_model.specs.History.{History}
use Rattle.syn_model.specs.Plan.{Trees, after_item}
use Rattle.syn_model.specs.Tree.{Tree}
use Rattle.syn_recon.specs.Items.{item_of}
use Rattle.syn_reconcile.specs.Settlings.{after_all, after_one, items_in}
use Rattle.syn_reconcile.specs.Stops.{HasEitherMarks, HasEitherTree, HasMarks, HasTree}
use Rattle.syn_reconcile.specs.Strangers.{LeavesAlone}
use Rattle.syn_reconcile.specs.declared.report.Settled.{Settled}

-- the first of the items were settled, and these are the others
pub record IsPartOf (items : List Item) (settled : List Settled) : Type 0 where
  pub others : List Item
  pub are : items ≡ items_in settled ++ others

-- after the first of the items, each carried out or refused, these are the trees
pub record IsReached (items : List Item) (found trees : Trees) : Type 0 where
  pub settled : List Settled
  pub part : IsPartOf items settled
  pub leave : after_all found settled ≡ trees

-- a replica's disk has a tree that is reached
pub record ReachesTree (items : List Item) (pair user : ℕ) (history : History) (found : Trees)
    (bytes : List ℕ) : Type 0 where
  pub trees : Trees
  pub reached : IsReached items found trees
  pub has : HasTree pair user history trees.right bytes

-- an archive's disk has marks that are reached
pub record ReachesMarks (items : List Item) (pair : ℕ) (found : Trees) (bytes : List ℕ)
    : Type 0 where
  pub trees : Trees
  pub reached : IsReached items found trees
  pub has : HasMarks pair trees.archive bytes

-- Where a run ended early: some items were settled, and between two of them all three have what
-- these left. Or the next one was under way: before it was carried out it is not recorded, and
-- once it may be recorded it is carried out in the folder and in the replica.
pub data IsStopped (items : List Item) (pair marked user : ℕ) (history : History) (found : Trees)
    (folder : Tree) (on_replica on_archive : List ℕ → Type 0) : Type 0 where
  between : (trees : Trees) → IsReached items found trees → folder ≡ trees.left
      → ((bytes : List ℕ) → on_replica bytes → HasTree pair user history trees.right bytes)
      → ((bytes : List ℕ) → on_archive bytes → HasMarks marked trees.archive bytes)
      → IsStopped items pair marked user history found folder on_replica on_archive
  before : (settled : List Settled) (item : Item) (others : List Item)
      → items ≡ items_in settled ++ item ∷ others → folder ≡ (after_all found settled).left
      → ((bytes : List ℕ) → on_replica bytes
      → HasEitherTree pair user history (after_all found settled).right
      (after_item (after_all found settled) item).right bytes)
      → ((bytes : List ℕ) → on_archive bytes
      → HasMarks marked (after_all found settled).archive bytes)
      → IsStopped items pair marked user history found folder on_replica on_archive
  done : (settled : List Settled) (item : Item) (others : List Item)
      → items ≡ items_in settled ++ item ∷ others
      → folder ≡ (after_item (after_all found settled) item).left
      → ((bytes : List ℕ) → on_replica bytes
      → HasTree pair user history (after_item (after_all found settled) item).right bytes)
      → ((bytes : List ℕ) → on_archive bytes
      → HasEitherMarks marked (after_all found settled).archive
      (after_item (after_all found settled) item).archive bytes)
      → IsStopped items pair marked user history found folder on_replica on_archive

-- what is carried out leaves what can stand in no replica alone
abbrev pub AreApart : List Stranger → Trees → List Settled → Type 0
AreApart strangers found [] = Unit {0}
AreApart strangers found (one ∷ more) =
    IfNone one.refused (LeavesAlone strangers found.right (item_of one.item))
    × AreApart strangers (after_one found one) more
