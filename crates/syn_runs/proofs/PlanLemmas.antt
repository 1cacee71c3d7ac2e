-- What the items of a plan tell of the scans that it was made of, and of the histories.
use Rattle.std.proofs.Common.{option_map, map, ◌≡◌, ◌≤◌, ℕ, Bool, None, true}
use Rattle.std.proofs.Common.{false, not, ◌&&◌, ◌||◌, List, [], ◌∷◌, ◌++◌, length, refl, sym, ap}
use Rattle.std.proofs.Common.{ap₂, ◌∙◌, subst, Some, true≢false, append-nil, inl, inr, ◌⊎◌, Option}
use Rattle.std.proofs.Common.{if◌then◌else◌, slice_get}
use Rattle.std.specs.Prelude.{Contains}
use Rattle.std.proofs.lemmas.List.Elements.{Contains-append_left, All-get_or, All-contains}
use Rattle.std.proofs.lemmas.List.Elements.{Contains-get_or}
use Rattle.std.proofs.lemmas.Option.{slice_get_within, get_or_from_slice_get, slice_get-map}
use Rattle.std.proofs.lemmas.Bool.{and_parts, not-true, not-false, or_parts}
use Rattle.syn_model.specs.Plan.{plan as items_of, IsDecided as IsDecidedAt, IsContested}
use Rattle.syn_model.proofs.PlanOrder.{plan_is_decided, contested_by}
use Rattle.syn_model.specs.Path.{Name, Path, parent, child}
use Rattle.syn_model.specs.Tree.{Tree, IsTree, subtree, is_directory, is_directory_content}
use Rattle.syn_model.specs.Limits.{children}
use Rattle.syn_model.specs.Dirty.{Scan, dirty, is_same_tree, is_unstable, IsListedInOrder}
use Rattle.syn_model.specs.Mark.{mark}
use Rattle.syn_model.specs.History.{tree_of, is_quiet, last_session}
use Rattle.syn_model.specs.Reconcile.{is_directory_in_both}
use Rattle.syn_model.specs.Decision.{IsReached, Item, ToLeft, ToRight, MarkSame, MarkDir, Conflict}
use Rattle.syn_model.specs.Decision.{Decision, Clean, Do, DoAndGoOn, GoOn, decision, path_of}
use Rattle.syn_model.specs.Decision.{GoesOn, contested}
use Rattle.syn_machine.specs.Side.{Request, Reply, Begin, ListAt, Fetch, Stage, Replace, Listed}
use Rattle.syn_machine.specs.Side.{NotDir, Begun}
use Rattle.syn_machine.specs.Network.{Which, Left, Right, other, Sent, Asks, Answers, WasAnswered}
use Rattle.syn_model.specs.Archive.{Archive}
use Rattle.syn_machine.specs.Planning.{Planned, seen_on, HasBegun, IsScanOf, SeesBoth, SessionPlan}
use Rattle.syn_machine.specs.Planning.{IsPlanOf, WritesTo}
use Rattle.syn_runs.specs.Picture.{IsOfPlan, IsWanted}
use Rattle.syn_runs.proofs.Invariant.{Plans, Scans, IsPlanFrom, Histories, IsSound}
use Rattle.syn_runs.proofs.Invariant.{IsTrueListing, IsTrueNotDir}
use Rattle.syn_model.proofs.PathLemmas.{parent-append}
use Rattle.syn_model.proofs.HistoryLemmas.{history-is_tree}
use Rattle.syn_model.proofs.DirtyLemmas.{dirty-safe}
use Rattle.syn_model.proofs.QuietLemmas.{ScansHistory, scan_is}
use Rattle.syn_model.proofs.ShownLemmas.{found_unstable}

-- What was answered stays so

pub answered-more : (sent more : Sent) (side : Which) (session : ℕ) (request : Request)
    (reply : Reply) → WasAnswered sent side session request reply →
    WasAnswered (sent ++ more) side session request reply
answered-more sent more side session request reply w = record {
  number = w.number;
  asked = Contains-append_left sent more (Asks side session w.number request) w.asked;
  answered = Contains-append_left sent more (Answers side session w.number reply) w.answered;
}

pub begun-more : (sent more : Sent) (side : Which) (session : ℕ) → HasBegun sent side session →
    HasBegun (sent ++ more) side session
begun-more sent more side session b =
    record { pair = b.pair; position = b.position; begun = answered-more sent more _ _ _ _ b.begun }

wanted-more : (sent more : Sent) (session : ℕ) (path : Path) (offset : ℕ) →
    IsWanted sent session path offset → IsWanted (sent ++ more) session path offset
wanted-more sent more session path offset (inl zero) = inl zero
wanted-more sent more session path offset (inr (from, since, before, total, bytes, below, was)) =
    inr (from, since, before, total, bytes, below, answered-more sent more _ _ _ _ was)

pub of_plan-more : (pair : ℕ) (sent more : Sent) (session : ℕ) (plan : List Planned) (to : Which)
    (request : Request) → IsOfPlan pair sent session plan to request →
    IsOfPlan pair (sent ++ more) session plan to request
of_plan-more pair sent more session plan to (Begin asked) h = h
of_plan-more pair sent more session plan to (ListAt path) h = begun-more sent more to session h
of_plan-more pair sent more session plan to (Fetch path since offset) h =
    (h.0, h.1, h.2, h.3, h.4, wanted-more sent more session path offset h.5)
of_plan-more pair sent more session plan to (Stage item offset bytes) h =
    (h.0, h.1, (h.2.0, answered-more sent more _ _ _ _ h.2.1))
of_plan-more pair sent more session plan to (Replace item path since size) h =
    (h.0, h.1, h.2, h.3, (h.4.0, h.4.1, answered-more sent more _ _ _ _ h.4.2))

pub scan_of-more : (sent more : Sent) (side : Which) (session : ℕ) (scan : Scan)
    (since : Path → ℕ) → IsScanOf sent side session scan since →
    IsScanOf (sent ++ more) side session scan since
scan_of-more sent more side session scan since h = record {
  tree = h.tree;
  fits = h.fits;
  listed = λ path d u. answered-more sent more _ _ _ _ (h.listed path d u);
  not_dir = λ path c. ((h.not_dir path c).0, answered-more sent more _ _ _ _ (h.not_dir path c).1);
  nothing_below = h.nothing_below;
}

pub plan_of-more : (sent more : Sent) (made : SessionPlan) → IsPlanOf sent made →
    IsPlanOf (sent ++ more) made
plan_of-more sent more made h = record {
  begun = λ side. begun-more sent more side made.session (h.begun side);
  scanned =
      λ side. scan_of-more sent more side made.session (made.scan side) (made.since side)
      (h.scanned side);
  ordered = h.ordered;
  items = h.items;
  seen = h.seen;
}

-- What is decided

abbrev pub decided_by : Option Which → Bool → Bool → Bool → Bool → Bool → Bool → Bool → Path →
    Decision
decided_by preference clean both unstable recorded same right left path =
    if clean then Clean
    else if both then (if unstable then Do (Conflict path) else if recorded then GoOn
    else DoAndGoOn (MarkDir path))
    else if same then Do (MarkSame path)
    else if right then Do (ToRight path)
    else if left then Do (ToLeft path)
    else Do (contested preference unstable path)

abbrev pub IsDecided : Decision → Item → Type 0
IsDecided decision item = (decision ≡ Do item) ⊎ (decision ≡ DoAndGoOn item)

-- an item that writes goes to a side that is clean, or to one that is not preferred, where both
-- changed and are stable; and it stands at no directory of both
abbrev IsFree : Option Which → Which → Bool → Bool → Bool → Type 0
IsFree preference from clean source_clean unstable = (clean ≡ true)
    ⊎ ((preference ≡ Some from) × (clean ≡ false) × (source_clean ≡ false) × (unstable ≡ false))

to_right : (r : Option Which) (a b c d e f g : Bool) (p q : Path) →
    IsDecided (decided_by r a b c d e f g p) (ToRight q) → (b ≡ false) × IsFree r Left f g c
to_right r true b c d e f g p q (inl x) = cc
to_right r true b c d e f g p q (inr x) = cc
to_right r false true true d e f g p q (inl x) = cc
to_right r false true true d e f g p q (inr x) = cc
to_right r false true false true e f g p q (inl x) = cc
to_right r false true false true e f g p q (inr x) = cc
to_right r false true false false e f g p q (inl x) = cc
to_right r false true false false e f g p q (inr x) = cc
to_right r false false c d true f g p q (inl x) = cc
to_right r false false c d true f g p q (inr x) = cc
to_right r false false c d false true g p q x = (refl, inl refl)
to_right r false false c d false false true p q (inl x) = cc
to_right r false false c d false false true p q (inr x) = cc
to_right None false false c d false false false p q (inl x) = cc
to_right None false false c d false false false p q (inr x) = cc
to_right (Some side) false false true d false false false p q (inl x) = cc
to_right (Some side) false false true d false false false p q (inr x) = cc
to_right (Some Left) false false false d false false false p q x =
    (refl, inr (refl, refl, refl, refl))
to_right (Some Right) false false false d false false false p q (inl x) = cc
to_right (Some Right) false false false d false false false p q (inr x) = cc

to_left : (r : Option Which) (a b c d e f g : Bool) (p q : Path) →
    IsDecided (decided_by r a b c d e f g p) (ToLeft q) → (b ≡ false) × IsFree r Right g f c
to_left r true b c d e f g p q (inl x) = cc
to_left r true b c d e f g p q (inr x) = cc
to_left r false true true d e f g p q (inl x) = cc
to_left r false true true d e f g p q (inr x) = cc
to_left r false true false true e f g p q (inl x) = cc
to_left r false true false true e f g p q (inr x) = cc
to_left r false true false false e f g p q (inl x) = cc
to_left r false true false false e f g p q (inr x) = cc
to_left r false false c d true f g p q (inl x) = cc
to_left r false false c d true f g p q (inr x) = cc
to_left r false false c d false true g p q (inl x) = cc
to_left r false false c d false true g p q (inr x) = cc
to_left r false false c d false false true p q x = (refl, inl refl)
to_left None false false c d false false false p q (inl x) = cc
to_left None false false c d false false false p q (inr x) = cc
to_left (Some side) false false true d false false false p q (inl x) = cc
to_left (Some side) false false true d false false false p q (inr x) = cc
to_left (Some Right) false false false d false false false p q x =
    (refl, inr (refl, refl, refl, refl))
to_left (Some Left) false false false d false false false p q (inl x) = cc
to_left (Some Left) false false false d false false false p q (inr x) = cc

-- a plan goes on below what is a stable directory on both sides
pub goes_on_below : (r : Option Which) (a b c d e f g : Bool) (p : Path) → GoesOn
    (decided_by r a b c d e f g p) →
    (b ≡ true) × (c ≡ false)
goes_on_below r true b c d e f g p x = absurd x
goes_on_below r false true true d e f g p x = absurd x
goes_on_below r false true false d e f g p x = (refl, refl)
goes_on_below r false false c d true f g p x = absurd x
goes_on_below r false false c d false true g p x = absurd x
goes_on_below r false false c d false false true p x = absurd x
goes_on_below r false false c d false false false p x = absurd x

pub last_name : (n : Name) (p : Path) → (a : Path) × (m : Name) × (n ∷ p ≡ child a m)
last_name n [] = ([], n, refl)
last_name n (m ∷ p) = let rest = last_name m p in (n ∷ rest.0, rest.1, ap (λ w. n ∷ w) rest.2)

pub parent-child : (a : Path) (n : Name) → parent (child a n) ≡ a
parent-child a n = parent-append a n [] ∙ append-nil a

-- an item of a plan is what is decided at its path, with what the scans have there
pub record IsPlannedFrom (preference : Option Which) (scan : Which → Scan)
    (since : Which → Path → ℕ) (archive : Tree)
    (planned : Planned) : Type 0 where
  pub reached : IsReached (decision preference (scan Left) (scan Right) archive)
      (path_of planned.item)
  pub decided :
      IsDecided (decision preference (scan Left) (scan Right) archive (path_of planned.item))
      planned.item
  pub seen : SeesBoth scan since planned

pub found_item : (items : List Item) (plan : List Planned) (item : ℕ) (planned : Planned) →
    map (λ p. p.item) plan ≡ items → slice_get plan item ≡ Some planned →
    Contains items planned.item
found_item items plan item planned same e =
    let at : slice_get items item ≡ Some planned.item = ap (λ xs. slice_get xs item) (sym same)
    ∙ (slice_get-map (λ p. p.item) plan item ∙ ap (option_map (λ p. p.item)) e) in
    subst (Contains items) (get_or_from_slice_get items item planned.item planned.item at)
    (Contains-get_or items item planned.item (slice_get_within items item planned.item at))

pub planned_is : (sent : Sent) (session : ℕ) (found : Tree) (both : Scans) (plan : List Planned)
    (is : IsPlanFrom sent session found both plan) (item : ℕ) (planned : Planned) →
    slice_get plan item ≡ Some planned → IsPlannedFrom both.preference both.scan both.since found
    planned
planned_is sent session found both plan is item planned e =
    let decided = All-contains (IsDecidedAt (decision both.preference (both.scan Left)
    (both.scan Right) found))
    (items_of both.preference (both.scan Left) (both.scan Right) found) planned.item
    (plan_is_decided both.preference (both.scan Left) (both.scan Right) found)
    (found_item _ plan item planned is.items e) in
    record {
      reached = decided.reached;
      decided = decided.decided;
      seen =
          subst (SeesBoth both.scan both.since) (get_or_from_slice_get plan item planned planned e)
          (All-get_or (SeesBoth both.scan both.since) plan item planned
          (slice_get_within plan item planned e) is.seen);
    }

pub writes_path : (item : Item) (side : Which) (path : Path) → WritesTo item side path →
    path_of item ≡ path
writes_path (ToLeft at) Left path w = w
writes_path (ToRight at) Right path w = w
writes_path (ToLeft at) Right path w = absurd w
writes_path (ToRight at) Left path w = absurd w
writes_path (MarkSame at) side path w = absurd w
writes_path (MarkDir at) side path w = absurd w
writes_path (Conflict at) side path w = absurd w

-- a side may be written at a path: it is clean, or the other is preferred, and both changed and are
-- stable
abbrev pub IsFreeAt : Option Which → (Which → Scan) → Tree → Which → Path → Type 0
IsFreeAt preference scan found side path = (dirty (scan side) found path ≡ false)
    ⊎ ((preference ≡ Some (other side)) × IsContested (scan Left) (scan Right) found path)

-- an item that writes is decided where no directory stands on both, and the side that it writes may
-- be written
pub writes_freely : (r : Option Which) (scan : Which → Scan) (o : Tree) (p : Path) (item : Item)
    (side : Which) (path : Path) → WritesTo item side path →
    IsDecided (decision r (scan Left) (scan Right) o p) item →
    (is_directory_in_both (scan Left).marks (scan Right).marks p ≡ false)
    × IsFreeAt r scan o side p
writes_freely r scan o p (ToLeft at) Left path w d =
    let l = scan Left in
    let s = scan Right in
    let both = to_left r (not (dirty l o p || dirty s o p)) (is_directory_in_both l.marks s.marks p)
    (is_unstable l p || is_unstable s p) (is_directory o p)
    (is_same_tree (subtree l.marks p) (subtree s.marks p)) (not (dirty s o p))
    (not (dirty l o p)) p at d in (
      both.0,
      elim both.1 as (λ _. IsFreeAt r scan o Left p) [
        | inl clean ↦ inl (not-true _ clean)
        | inr h ↦ inr (h.0, contested_by l s o p (not-false _ h.1) (not-false _ h.2) h.3)
      ],
    )
writes_freely r scan o p (ToRight at) Right path w d =
    let l = scan Left in
    let s = scan Right in
    let both = to_right r (not (dirty l o p || dirty s o p))
    (is_directory_in_both l.marks s.marks p)
    (is_unstable l p || is_unstable s p) (is_directory o p)
    (is_same_tree (subtree l.marks p) (subtree s.marks p)) (not (dirty s o p))
    (not (dirty l o p)) p at d in (
      both.0,
      elim both.1 as (λ _. IsFreeAt r scan o Right p) [
        | inl clean ↦ inl (not-true _ clean)
        | inr h ↦ inr (h.0, contested_by l s o p (not-false _ h.2) (not-false _ h.1) h.3)
      ],
    )
writes_freely r scan o p (ToLeft at) Right path w d = absurd w
writes_freely r scan o p (ToRight at) Left path w d = absurd w
writes_freely r scan o p (MarkSame at) side path w d = absurd w
writes_freely r scan o p (MarkDir at) side path w d = absurd w
writes_freely r scan o p (Conflict at) side path w d = absurd w

-- what a directory of both scans that a plan goes on below is on each side
pub goes_on_at : (r : Option Which) (scan : Which → Scan) (o : Tree) (p : Path) →
    GoesOn (decision r (scan Left) (scan Right) o p) → (side : Which) →
    (is_directory (scan side).marks p ≡ true) × (is_unstable (scan side) p ≡ false)
goes_on_at r scan o p g side =
    let l = scan Left in
    let s = scan Right in
    let both = goes_on_below r (not (dirty l o p || dirty s o p))
    (is_directory_in_both l.marks s.marks p) (is_unstable l p || is_unstable s p)
    (is_directory o p) (is_same_tree (subtree l.marks p) (subtree s.marks p)) (not (dirty s o p))
    (not (dirty l o p)) p g in
    let ds = and_parts (is_directory l.marks p) (is_directory s.marks p) both.0 in
    let us = or_parts (is_unstable l p) (is_unstable s p) both.1 in
    elim side as (λ side. (is_directory (scan side).marks p ≡ true)
    × (is_unstable (scan side) p ≡ false)) [ Left ↦ (ds.0, us.0) | Right ↦ (ds.1, us.1) ]

-- what is known of an item that writes
pub record Writes (preference : Option Which) (scan : Which → Scan) (since : Which → Path → ℕ)
    (found : Tree)
    (planned : Planned) (side : Which) (path : Path) : Type 0 where
  pub above : Path
  pub name : Name
  pub at : path ≡ child above name
  pub above_is : (s : Which) →
      (is_directory (scan s).marks above ≡ true) × (is_unstable (scan s) above ≡ false)
  pub since_is : (s : Which) → (seen_on planned s).since ≡ since s above
  pub marks_are : (s : Which) → (seen_on planned s).marks ≡ subtree (scan s).marks path
  pub free : IsFreeAt preference scan found side path

root_is_directory : (t : Tree) → IsTree t → is_directory t [] ≡ true
root_is_directory t h = ap is_directory_content h.rooted

pub writes_at : (preference : Option Which) (scan : Which → Scan) (since : Which → Path → ℕ)
    (found : Tree) (planned : Planned) (side : Which) (path : Path) →
    ((s : Which) → IsTree (scan s).marks) →
    IsPlannedFrom preference scan since found planned → WritesTo planned.item side path →
    path_of planned.item ≡ path → Writes preference scan since found planned side path
writes_at preference scan since found planned side [] trees from w e =
    let free = writes_freely preference scan found (path_of planned.item) planned.item side
    [] w from.decided in
    absurd (true≢false (sym (ap₂ (λ a b. a && b) (root_is_directory (scan Left).marks (trees Left))
    (root_is_directory (scan Right).marks (trees Right)))
    ∙ (ap (is_directory_in_both (scan Left).marks (scan Right).marks) (sym e) ∙ free.0)))
writes_at preference scan since found planned side (n ∷ p) trees from w e =
    let free = writes_freely preference scan found (path_of planned.item) planned.item side
    (n ∷ p) w from.decided in
    let split = last_name n p in
    record {
      above = split.0;
      name = split.1;
      at = split.2;
      above_is = goes_on_at preference scan found split.0 (from.reached split.0 split.1 []
          (e ∙ split.2));
      since_is =
          λ s. (from.seen s).1
          ∙ ap (since s) (ap parent (e ∙ split.2) ∙ parent-child split.0 split.1);
      marks_are = λ s. (from.seen s).0 ∙ ap (subtree (scan s).marks) e;
      free = subst (IsFreeAt preference scan found side) e free.1;
    }

module _ (plans : Plans) (histories : Histories) (archive : Archive) (sent : Sent)
    (sound : IsSound plans histories archive sent) where
  -- a scan of a session shows its side's history
  pub scans : (side : Which) (session : ℕ) (scan : Scan) (since : Path → ℕ) →
      IsScanOf sent side session scan since → IsListedInOrder scan since →
      ScansHistory scan since (histories side)
  scans side session scan since h ordered = record {
    tree = h.tree;
    history_tree = history-is_tree (histories side) (sound.lawful side);
    listed = λ path d u. let w = h.listed path d u in
        let true_one : IsTrueListing (histories side) session path (since path)
        (children scan.marks path) = sound.answered side session w.number
        (Listed (since path) (children scan.marks path)) (ListAt path) w.answered w.asked in
        true_one.entries_there;
    ordered = ordered;
    not_dir = λ path u. let w = (h.not_dir path (found_unstable path scan.unstable u)).1 in
        let true_one : IsTrueNotDir (histories side) path (since path) = sound.answered side session
        w.number (NotDir (since path)) (ListAt path) w.answered w.asked in
        true_one.no_directory;
  }

  pub listing_reached : (side : Which) (session : ℕ) (scan : Scan) (since : Path → ℕ) →
      IsScanOf sent side session scan since → (path : Path) → is_directory scan.marks path ≡ true →
      is_unstable scan path ≡ false → since path ≤ length (histories side)
  listing_reached side session scan since h path d u =
      let w = h.listed path d u in
      let true_one : IsTrueListing (histories side) session path (since path)
      (children scan.marks path) = sound.answered side session w.number
      (Listed (since path) (children scan.marks path)) (ListAt path) w.answered w.asked in
      true_one.reached

  pub not_dir_reached : (side : Which) (session : ℕ) (scan : Scan) (since : Path → ℕ) →
      IsScanOf sent side session scan since → (path : Path) → is_unstable scan path ≡ true →
      since path ≤ length (histories side)
  not_dir_reached side session scan since h path u =
      let w = (h.not_dir path (found_unstable path scan.unstable u)).1 in
      let true_one : IsTrueNotDir (histories side) path (since path) = sound.answered side session
      w.number (NotDir (since path)) (ListAt path) w.answered w.asked in
      true_one.reached

  module _ (session : ℕ) (found : Tree) (both : Scans) (plan : List Planned)
      (is : IsPlanFrom sent session found both plan) where
    pub fenced : (side : Which) → session ≤ last_session (histories side)
    fenced side =
        let b = is.begun side in
        sound.answered side session b.begun.number (Begun b.position)
        (Begin b.pair) b.begun.answered b.begun.asked

    module _ (item : ℕ) (planned : Planned) (side : Which) (path : Path)
        (e : slice_get plan item ≡ Some planned) (w : WritesTo planned.item side path) where
      pub writes_of : Writes both.preference both.scan both.since found planned side path
      writes_of =
          writes_at both.preference both.scan both.since found planned side path
          (λ s. (is.scanned s).tree)
          (planned_is sent session found both plan is item planned e) w
          (writes_path planned.item side path w)

      pub since_reached : (s : Which) → (seen_on planned s).since ≤ length (histories s)
      since_reached s =
          let at = writes_of in
          subst (λ k. k ≤ length (histories s)) (sym (at.since_is s))
          (listing_reached s session (both.scan s) (both.since s) (is.scanned s) at.above
          (at.above_is s).0 (at.above_is s).1)

      -- where nothing touched the path since it was listed, a side's scan has the mark of what is
      -- there
      pub seen_is : (s : Which) →
          is_quiet (histories s) (seen_on planned s).since (length (histories s)) path ≡ true →
          (seen_on planned s).marks ≡ subtree (mark (tree_of (histories s))) path
      seen_is s quiet =
          let at = writes_of in
          let seen = scan_is (both.scan s) (both.since s) (histories s)
          (scans s session (both.scan s) (both.since s) (is.scanned s) (is.ordered s)) at.above
          at.name (at.above_is s).0 (at.above_is s).1
          (ap₂ (λ k p. is_quiet (histories s) k (length (histories s)) p) (sym (at.since_is s))
          (sym at.at) ∙ quiet) in
          at.marks_are s ∙ subst (λ p. subtree (both.scan s).marks p
          ≡ subtree (mark (tree_of (histories s))) p) (sym at.at) seen

      -- the path that an item writes has what was found in the archive, where it was clean and as
      -- long as nothing touched it
      pub target_is : dirty (both.scan side) found path ≡ false → is_quiet (histories side)
          (seen_on planned side).since
          (length (histories side)) path ≡ true →
          subtree (mark (tree_of (histories side))) path ≡ subtree found path
      target_is clean quiet =
          sym (seen_is side quiet)
          ∙ (writes_of.marks_are side ∙ dirty-safe (both.scan side) found path clean)
