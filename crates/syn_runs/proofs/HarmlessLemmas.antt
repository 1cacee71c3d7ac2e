-- What a session records leaves alone each path of a replacement that may still come.
use Rattle.std.proofs.Common.{◌≡◌, ◌≤◌, ℕ, Bool, true, false, not, ◌&&◌, ◌||◌, List, [], ◌∷◌, ◌++◌}
use Rattle.std.proofs.Common.{length, refl, sym, ap, ap₂, ◌∙◌, subst, Some, true≢false, append-nil}
use Rattle.std.proofs.Common.{arith, inl, inr, if◌then◌else◌, slice_get, Option, None}
use Rattle.std.specs.Prelude.{Contains}
use Rattle.std.specs.FinMap.{get}
use Rattle.std.proofs.lemmas.Option.{same_Some}
use Rattle.std.proofs.lemmas.Bool.{and_parts, or_cases}
use Rattle.syn_model.specs.Path.{Name, Path, parent, is_prefix, comparable}
use Rattle.syn_model.specs.Tree.{Tree, Content, IsTree, Directory, empty_directory, subtree}
use Rattle.syn_model.specs.Tree.{replace, is_directory}
use Rattle.syn_model.specs.Dirty.{Scan, dirty, is_same_tree, is_unstable}
use Rattle.syn_model.specs.Reconcile.{is_directory_in_both}
use Rattle.syn_model.specs.Decision.{Item, ToLeft, ToRight, MarkSame, MarkDir, Conflict, Decision}
use Rattle.syn_model.specs.Decision.{Do, DoAndGoOn, decision, path_of, GoesOn}
use Rattle.syn_model.specs.History.{History, tree_at, is_quiet, last_session}
use Rattle.syn_model.specs.Archive.{Archive, Kept, Recorded, RecordedDir, after_kept, Held}
use Rattle.syn_machine.specs.Side.{Request, Replace, Reply, Done}
use Rattle.syn_machine.specs.Network.{Which, Left, Right, other, Sent, Asks, Answers}
use Rattle.syn_machine.specs.Planning.{Planned, seen_on, WritesTo}
use Rattle.syn_runs.specs.Picture.{SessionPicture, asked_of, IsDue, done, same, directory}
use Rattle.syn_runs.proofs.Invariant.{Plans, plan_in, Scans, IsPlanFrom, Histories, IsSound}
use Rattle.syn_runs.proofs.Invariant.{HadMarks, IsHeldRecord, IsHarmless}
use Rattle.syn_model.proofs.DirectoryLemmas.{below_new_directory}
use Rattle.syn_model.proofs.PathLemmas.{is_prefix-is}
use Rattle.syn_model.proofs.TreeLemmas.{get-subtree, subtree-replace_other}
use Rattle.syn_runs.proofs.PlanLemmas.{IsDecided, IsPlannedFrom, decided_by, goes_on_at}
use Rattle.syn_runs.proofs.PlanLemmas.{writes_freely, writes_path, planned_is, fenced}
use Rattle.syn_runs.proofs.GrownLemmas.{made}
use Rattle.syn_machine.proofs.NetworkLemmas.{on_both}
use Rattle.syn_runs.proofs.HeldLemmas.{scan_held}
use Rattle.syn_model.proofs.SyncLemmas.{directory_is}
use Rattle.syn_model.specs.Mark.{mark}

-- of two comparable paths, which are one, or one lies above the other
pub data Meets (q p : Path) : Type 0 where
  one : q ≡ p → Meets q p
  above : (n : Name) (r : Path) → p ≡ q ++ n ∷ r → Meets q p
  below : (n : Name) (r : Path) → q ≡ p ++ n ∷ r → Meets q p

meets_from : (q p rest : Path) → p ≡ q ++ rest → Meets q p
meets_from q p [] e = one (sym (e ∙ append-nil q))
meets_from q p (n ∷ r) e = above n r e

meets_to : (q p rest : Path) → q ≡ p ++ rest → Meets q p
meets_to q p [] e = one (e ∙ append-nil p)
meets_to q p (n ∷ r) e = below n r e

pub meets : (q p : Path) → comparable q p ≡ true → Meets q p
meets q p e = elim (or_cases (is_prefix q p) (is_prefix p q) e) as (λ _. Meets q p) [
  | inl x ↦ let s = is_prefix-is q p x in meets_from q p s.0 s.1
  | inr x ↦ let s = is_prefix-is p q x in meets_to q p s.0 s.1
]

-- what is done at a path is one item
pub same_item : (d : Decision) (i j : Item) → IsDecided d i → IsDecided d j → i ≡ j
same_item d i j (inl x) (inl y) = let e : Do i ≡ Do j = sym x ∙ y in cc
same_item d i j (inl x) (inr y) = let e : Do i ≡ DoAndGoOn j = sym x ∙ y in cc
same_item d i j (inr x) (inl y) = let e : DoAndGoOn i ≡ Do j = sym x ∙ y in cc
same_item d i j (inr x) (inr y) = let e : DoAndGoOn i ≡ DoAndGoOn j = sym x ∙ y in cc

-- paths that are marked alike are no directory of both
mark_same : (r : Option Which) (a b c d e f g : Bool) (p q : Path) →
    IsDecided (decided_by r a b c d e f g p) (MarkSame q) → b ≡ false
mark_same r true b c d e f g p q (inl x) = cc
mark_same r true b c d e f g p q (inr x) = cc
mark_same r false true true d e f g p q (inl x) = cc
mark_same r false true true d e f g p q (inr x) = cc
mark_same r false true false true e f g p q (inl x) = cc
mark_same r false true false true e f g p q (inr x) = cc
mark_same r false true false false e f g p q (inl x) = cc
mark_same r false true false false e f g p q (inr x) = cc
mark_same r false false c d e f g p q x = refl

pub mark_same_is : (preference : Option Which) (l r : Scan) (o : Tree) (p q : Path) →
    IsDecided (decision preference l r o p) (MarkSame q) → is_directory_in_both l.marks r.marks p ≡
    false
mark_same_is preference l r o p q d =
    mark_same preference (not (dirty l o p || dirty r o p)) (is_directory_in_both l.marks r.marks p)
    (is_unstable l p || is_unstable r p) (is_directory o p)
    (is_same_tree (subtree l.marks p) (subtree r.marks p)) (not (dirty r o p))
    (not (dirty l o p)) p q d

-- and a path that is marked as a directory is one of both
mark_dir : (r : Option Which) (a b c d e f g : Bool) (p q : Path) →
    IsDecided (decided_by r a b c d e f g p) (MarkDir q) → b ≡ true
mark_dir r true b c d e f g p q (inl x) = cc
mark_dir r true b c d e f g p q (inr x) = cc
mark_dir r false true c d e f g p q x = refl
mark_dir r false false c d true f g p q (inl x) = cc
mark_dir r false false c d true f g p q (inr x) = cc
mark_dir r false false c d false true g p q (inl x) = cc
mark_dir r false false c d false true g p q (inr x) = cc
mark_dir r false false c d false false true p q (inl x) = cc
mark_dir r false false c d false false true p q (inr x) = cc
mark_dir None false false c d false false false p q (inl x) = cc
mark_dir None false false c d false false false p q (inr x) = cc
mark_dir (Some side) false false true d false false false p q (inl x) = cc
mark_dir (Some side) false false true d false false false p q (inr x) = cc
mark_dir (Some Left) false false false d false false false p q (inl x) = cc
mark_dir (Some Left) false false false d false false false p q (inr x) = cc
mark_dir (Some Right) false false false d false false false p q (inl x) = cc
mark_dir (Some Right) false false false d false false false p q (inr x) = cc

mark_dir_is : (preference : Option Which) (l r : Scan) (o : Tree) (p q : Path) →
    IsDecided (decision preference l r o p) (MarkDir q) →
    is_directory_in_both l.marks r.marks p ≡ true
mark_dir_is preference l r o p q d =
    mark_dir preference (not (dirty l o p || dirty r o p)) (is_directory_in_both l.marks r.marks p)
    (is_unstable l p || is_unstable r p) (is_directory o p)
    (is_same_tree (subtree l.marks p) (subtree r.marks p)) (not (dirty r o p))
    (not (dirty l o p)) p q d

-- nothing is reached below a path that is no directory of both
not_reached : (preference : Option Which) (scan : Which → Scan) (o : Tree) (p : Path) →
    is_directory_in_both (scan Left).marks (scan Right).marks p ≡ false →
    GoesOn (decision preference (scan Left) (scan Right) o p) → ⊥
not_reached preference scan o p beside g =
    let l = goes_on_at preference scan o p g Left in
    let r = goes_on_at preference scan o p g Right in
    true≢false (sym (ap₂ (λ a b. a && b) l.0 r.0) ∙ beside)

different : (which other_one : Which) (item : Item) (p q : Path) → WritesTo item which p →
    WritesTo item other_one q → which ≡ other_one
different Left Left item p q x y = refl
different Right Right item p q x y = refl
different Left Right (ToLeft at) p q x y = absurd y
different Left Right (ToRight at) p q x y = absurd x
different Left Right (MarkSame at) p q x y = absurd x
different Left Right (MarkDir at) p q x y = absurd x
different Left Right (Conflict at) p q x y = absurd x
different Right Left (ToLeft at) p q x y = absurd x
different Right Left (ToRight at) p q x y = absurd y
different Right Left (MarkSame at) p q x y = absurd x
different Right Left (MarkDir at) p q x y = absurd x
different Right Left (Conflict at) p q x y = absurd x

recorded_beside : (archive : Archive) (q p : Path) (new : Tree) → comparable q p ≡ false →
    subtree (after_kept archive (Recorded q new)).marks p ≡ subtree archive.marks p
recorded_beside archive q p new h = subtree-replace_other archive.marks q new p h

directory_beside : (archive : Archive) (q p : Path) → comparable q p ≡ false →
    subtree (after_kept archive (RecordedDir q)).marks p ≡ subtree archive.marks p
directory_beside archive q p h =
    elim (is_directory archive.marks q) as (λ b. subtree (if b then archive else record archive
    { marks = replace archive.marks q empty_directory }).marks p ≡ subtree archive.marks p) [
      | true ↦ refl
      | false ↦ subtree-replace_other archive.marks q empty_directory p h
    ]

directory_above : (archive : Archive) (q : Path) (n : Name) (r : Path) → IsTree archive.marks →
    subtree (after_kept archive (RecordedDir q)).marks (q ++ n ∷ r)
    ≡ subtree archive.marks (q ++ n ∷ r)
directory_above archive q n r h =
    elim (is_directory archive.marks q) as (λ b. is_directory archive.marks q ≡ b → subtree (if b
    then archive else record archive { marks = replace archive.marks q empty_directory }).marks
    (q ++ n ∷ r) ≡ subtree archive.marks (q ++ n ∷ r)) [
      | true ↦ λ _. refl
      | false ↦ λ file. below_new_directory archive.marks archive.marks q n r h.part.parents file
    ] refl

-- two items of one plan, of which one writes
module _ (preference : Option Which) (scan : Which → Scan) (since : Which → Path → ℕ)
    (found : Tree) (due planned : Planned)
    (due_is : IsPlannedFrom preference scan since found due)
    (planned_is : IsPlannedFrom preference scan since found planned)
    (side : Which) (p : Path) (w : WritesTo planned.item side p)
    (at : path_of planned.item ≡ p) where
  -- the item that writes stands at no directory of both, so nothing is reached below it
  none_below : (q : Path) → path_of due.item ≡ q → (n : Name) (r : Path) → q ≡ p ++ n ∷ r → ⊥
  none_below q e n r under =
      let free = writes_freely preference scan found (path_of planned.item) planned.item side p w
      planned_is.decided in
      not_reached preference scan found p
      (ap (is_directory_in_both (scan Left).marks (scan Right).marks) (sym at) ∙ free.0)
      (due_is.reached p n r (e ∙ under))

  -- nor is it reached below a path that is no directory of both
  not_below : (q : Path) → is_directory_in_both (scan Left).marks (scan Right).marks q ≡ false →
      (n : Name) (r : Path) → p ≡ q ++ n ∷ r → ⊥
  not_below q beside n r under =
      not_reached preference scan found q beside (planned_is.reached q n r (at ∙ under))

  -- at one path they are one item
  one_item : (q : Path) → path_of due.item ≡ q → q ≡ p → due.item ≡ planned.item
  one_item q e equal =
      same_item (decision preference (scan Left) (scan Right) found (path_of due.item)) due.item
      planned.item
      due_is.decided
      (subst (λ x. IsDecided (decision preference (scan Left) (scan Right) found x) planned.item)
      (at ∙ (sym equal ∙ sym e)) planned_is.decided)

module _ (plans : Plans) (histories : Histories) (archive : Archive) (sent : Sent)
    (sound : IsSound plans histories archive sent) (running : SessionPicture)
    (last : running.session ≡ archive.last_session) where
  -- an item whose session is still the last on a side is one of the running session, where that has
  -- a plan
  of_running : (found : Tree) (scans : Scans) →
      IsPlanFrom sent running.session found scans (plan_in plans running.session) → (side : Which)
      (session : ℕ) → session ≡ last_session (histories side) → session ≡ running.session
  of_running found scans is side session current =
      let fence : running.session ≤ last_session (histories side) = fenced plans histories archive
      sent sound running.session found scans (plan_in plans running.session) is side in
      let begun : last_session (histories side) ≤ archive.last_session = sound.begun side in
      omega (arith, current, fence, begun, last)

  -- what a scan showed at an item's path was held there
  seen_held : (item : ℕ) (due : Planned) →
      slice_get (plan_in plans running.session) item ≡ Some due → (side : Which) (rest : Path)
      (content : Content) → get (seen_on due side).marks rest ≡ Some content →
      Held (histories side) (path_of due.item ++ rest) content
  seen_held item due e side rest content at =
      let is = made plans histories archive sent sound running.session item due e in
      let due_is = planned_is sent running.session is.0 is.1
      (plan_in plans running.session) is.2 item due e in
      scan_held plans histories archive sent sound side running.session (is.1.scan side)
      (is.1.since side) (is.2.scanned side) (path_of due.item ++ rest) content
      (sym (get-subtree (is.1.scan side).marks (path_of due.item) rest)
      ∙ (ap (λ t. get t rest) (sym (due_is.seen side).0) ∙ at))

  had_held : (history : History) (path : Path) (marks : Tree) →
      HadMarks history path marks → (rest : Path) (content : Content) →
      get marks rest ≡ Some content → Held history (path ++ rest) content
  had_held history path marks h rest content at = (
    h.position,
    h.reached,
    sym (get-subtree (mark (tree_at history h.position)) path rest)
        ∙ (ap (λ t. get t rest) (sym h.had) ∙ at),
  )

  done_held : (from : Which) (number : ℕ) (item : ℕ) (path : Path) (since size : ℕ)
      (due : Planned) → Contains sent (Answers from running.session number Done) →
      Contains sent (Asks from running.session number (Replace item path since size)) →
      slice_get (plan_in plans running.session) item ≡ Some due → WritesTo due.item from path →
      IsHeldRecord histories (Recorded path (seen_on due (other from)).marks)
  done_held from number item path since size due answered asked e w rest content at side =
      let here = had_held (histories from) path (seen_on due (other from)).marks
      (sound.borne from running.session number Done
      (Replace item path since size) answered asked due e) rest content at in
      let there = subst (λ p. Held (histories (other from)) (p ++ rest) content)
      (writes_path due.item from path w) (seen_held item due e (other from) rest content at) in
      on_both (λ s. Held (histories s) (path ++ rest) content) from here there side

  same_held : (item : ℕ) (path : Path) (due : Planned) →
      slice_get (plan_in plans running.session) item ≡ Some due → due.item ≡ MarkSame path →
      due.left.marks ≡ due.right.marks → IsHeldRecord histories (Recorded path due.left.marks)
  same_held item path due e kind alike rest content at side =
      subst (λ p. Held (histories side) (p ++ rest) content) (ap path_of kind)
      (elim side as (λ s. Held (histories s) (path_of due.item ++ rest) content) [
        | Left ↦ seen_held item due e Left rest content at
        | Right ↦ seen_held item due e Right rest content (ap (λ t. get t rest) (sym alike) ∙ at)
      ])

  directory_held : (item : ℕ) (path : Path) (due : Planned) →
      slice_get (plan_in plans running.session) item ≡ Some due → due.item ≡ MarkDir path →
      IsHeldRecord histories (RecordedDir path)
  directory_held item path due e kind side =
      let is = made plans histories archive sent sound running.session item due e in
      let due_is = planned_is sent running.session is.0 is.1
      (plan_in plans running.session) is.2 item due e in
      let both = mark_dir_is is.1.preference (is.1.scan Left) (is.1.scan Right) is.0
      (path_of due.item) path
      (subst (IsDecided (decision is.1.preference (is.1.scan Left) (is.1.scan Right) is.0
      (path_of due.item)))
      kind due_is.decided) in
      let each = and_parts (is_directory (is.1.scan Left).marks (path_of due.item))
      (is_directory (is.1.scan Right).marks (path_of due.item)) both in
      let there : is_directory (is.1.scan side).marks (path_of due.item) ≡ true =
      elim side as (λ s. is_directory (is.1.scan s).marks (path_of due.item) ≡ true)
      [ Left ↦ each.0 | Right ↦ each.1 ] in
      subst (λ p. Held (histories side) p Directory) (ap path_of kind)
      (scan_held plans histories archive sent sound side running.session (is.1.scan side)
      (is.1.since side) (is.2.scanned side) (path_of due.item) Directory
      (directory_is (get (is.1.scan side).marks (path_of due.item)) there))

  -- what is recorded as an item is done
  done_harmless : (from : Which) (number : ℕ) (item : ℕ) (path : Path) (since size : ℕ)
      (due : Planned) → Contains sent (Answers from running.session number Done) →
      Contains sent (Asks from running.session number (Replace item path since size)) →
      slice_get (plan_in plans running.session) item ≡ Some due → WritesTo due.item from path →
      IsHarmless plans histories (Recorded path (seen_on due (other from)).marks)
  done_harmless from number item q since size due answered asked e w =
      let is = made plans histories archive sent sound running.session item due e in
      let touched = (sound.answered from running.session number Done
      (Replace item q since size) answered asked).1 in
      let by_plan =
      (sound.asked from running.session number (Replace item q since size) asked).by_plan in
      let same_due : by_plan.0 ≡ due = same_Some _ _ (sym by_plan.1 ∙ e) in
      let since_is : since ≡ (seen_on due from).since = by_plan.3
      ∙ ap (λ d. (seen_on d from).since) same_due in
      let marks = (seen_on due (other from)).marks in
      record {
        held = done_held from number item q since size due answered asked e w;
        leaves = λ session j planned side p ej wp current quiet a tree can.
            let here : session ≡ running.session = of_running is.0 is.1 is.2 side session current in
            let ej' = ap (λ n. slice_get (plan_in plans n) j) (sym here) ∙ ej in
            let due_is = planned_is sent running.session is.0 is.1
            (plan_in plans running.session) is.2 item due e in
            let p_is = planned_is sent running.session is.0 is.1
            (plan_in plans running.session) is.2 j planned ej' in
            let at = writes_path planned.item side p wp in
            let due_at = writes_path due.item from q w in
            let free = writes_freely is.1.preference is.1.scan is.0 (path_of due.item) due.item from
            q w due_is.decided in
            elim (comparable q p) as (λ b. comparable q p ≡ b →
            subtree (after_kept a (Recorded q marks)).marks p ≡ subtree a.marks p) [
              | false ↦ λ apart. recorded_beside a q p marks apart
              | true ↦ λ near. elim (meets q p near)
                  as (λ _. subtree (after_kept a (Recorded q marks)).marks p ≡ subtree a.marks p) [
                    | one x ↦
                        let item_is =
                        one_item is.1.preference is.1.scan is.1.since is.0 due planned due_is p_is
                        side p
                        wp at q due_at x in
                        let from_is : side ≡ from = different side from planned.item p q wp
                        (subst (λ i. WritesTo i from q) item_is w) in
                        let seen_is : (seen_on planned side).since ≡ (seen_on due side).since =
                        (p_is.seen side).1 ∙ (ap (λ i. is.1.since side (parent (path_of i)))
                        (sym item_is) ∙ sym (due_is.seen side).1) in
                        let quiet' = subst (λ s. is_quiet (histories s) (seen_on due s).since
                        (length (histories s)) q ≡ true) from_is
                        (ap₂ (λ k w. is_quiet (histories side) k (length (histories side)) w)
                        (sym seen_is) x ∙ quiet) in
                        absurd (true≢false (sym quiet' ∙ (ap (λ k. is_quiet (histories from) k
                        (length (histories from)) q) (sym since_is) ∙ touched)))
                    | above n r x ↦ absurd
                        (not_below is.1.preference is.1.scan is.1.since is.0 due planned due_is p_is
                        side p wp at q
                        (ap (is_directory_in_both (is.1.scan Left).marks (is.1.scan Right).marks)
                        (sym due_at) ∙ free.0) n r x)
                    | below n r x ↦ absurd
                        (none_below is.1.preference is.1.scan is.1.since is.0 due planned due_is
                        p_is
                        side p wp at q due_at n r x)
                  ]
            ] refl;
      }

  same_harmless : (item : ℕ) (path : Path) (due : Planned) →
      slice_get (plan_in plans running.session) item ≡ Some due → due.item ≡ MarkSame path →
      due.left.marks ≡ due.right.marks → IsHarmless plans histories (Recorded path due.left.marks)
  same_harmless item q due e kind alike =
      let is = made plans histories archive sent sound running.session item due e in
      let marks = due.left.marks in
      record {
        held = same_held item q due e kind alike;
        leaves = λ session j planned side p ej wp current quiet a tree can.
            let here : session ≡ running.session = of_running is.0 is.1 is.2 side session current in
            let ej' = ap (λ n. slice_get (plan_in plans n) j) (sym here) ∙ ej in
            let due_is = planned_is sent running.session is.0 is.1
            (plan_in plans running.session) is.2 item due e in
            let p_is = planned_is sent running.session is.0 is.1
            (plan_in plans running.session) is.2 j planned ej' in
            let at = writes_path planned.item side p wp in
            let due_at = ap path_of kind in
            let beside = mark_same_is is.1.preference (is.1.scan Left) (is.1.scan Right) is.0 q q
            (subst (λ x. IsDecided (decision is.1.preference (is.1.scan Left) (is.1.scan Right) is.0
            x)
            (MarkSame q)) due_at (subst (λ i. IsDecided (decision is.1.preference (is.1.scan Left)
            (is.1.scan Right) is.0 (path_of due.item)) i) kind due_is.decided)) in
            elim (comparable q p) as (λ b. comparable q p ≡ b →
            subtree (after_kept a (Recorded q marks)).marks p ≡ subtree a.marks p) [
              | false ↦ λ apart. recorded_beside a q p marks apart
              | true ↦ λ near. elim (meets q p near)
                  as (λ _. subtree (after_kept a (Recorded q marks)).marks p ≡ subtree a.marks p) [
                    | one x ↦ absurd
                        (subst (λ i. WritesTo i side p) (sym (one_item is.1.preference is.1.scan
                        is.1.since
                        is.0 due planned due_is p_is side p wp at q due_at x) ∙ kind) wp)
                    | above n r x ↦ absurd
                        (not_below is.1.preference is.1.scan is.1.since is.0 due planned due_is p_is
                        side p wp at q beside n r x)
                    | below n r x ↦ absurd
                        (none_below is.1.preference is.1.scan is.1.since is.0 due planned due_is
                        p_is
                        side p wp at q due_at n r x)
                  ]
            ] refl;
      }

  directory_harmless : (item : ℕ) (path : Path) (due : Planned) →
      slice_get (plan_in plans running.session) item ≡ Some due → due.item ≡ MarkDir path →
      IsHarmless plans histories (RecordedDir path)
  directory_harmless item q due e kind =
      let is = made plans histories archive sent sound running.session item due e in
      record {
        held = directory_held item q due e kind;
        leaves = λ session j planned side p ej wp current quiet a tree can.
            let here : session ≡ running.session = of_running is.0 is.1 is.2 side session current in
            let ej' = ap (λ n. slice_get (plan_in plans n) j) (sym here) ∙ ej in
            let due_is = planned_is sent running.session is.0 is.1
            (plan_in plans running.session) is.2 item due e in
            let p_is = planned_is sent running.session is.0 is.1
            (plan_in plans running.session) is.2 j planned ej' in
            let at = writes_path planned.item side p wp in
            let due_at = ap path_of kind in
            elim (comparable q p) as (λ b. comparable q p ≡ b →
            subtree (after_kept a (RecordedDir q)).marks p ≡ subtree a.marks p) [
              | false ↦ λ apart. directory_beside a q p apart
              | true ↦ λ near. elim (meets q p near)
                  as (λ _. subtree (after_kept a (RecordedDir q)).marks p ≡ subtree a.marks p) [
                    | one x ↦ absurd
                        (subst (λ i. WritesTo i side p) (sym (one_item is.1.preference is.1.scan
                        is.1.since
                        is.0 due planned due_is p_is side p wp at q due_at x) ∙ kind) wp)
                    | above n r x ↦ subst (λ w. subtree (after_kept a (RecordedDir q)).marks w
                        ≡ subtree a.marks w) (sym x) (directory_above a q n r tree)
                    | below n r x ↦ absurd
                        (none_below is.1.preference is.1.scan is.1.since is.0 due planned due_is
                        p_is
                        side p wp at q due_at n r x)
                  ]
            ] refl;
      }

  -- what is due as a session goes on is harmless
  pub due_harmless : (plan : List Planned) → plan_in plans running.session ≡ plan → (from : Which)
      (number : ℕ) (reply : Reply) (kept : Kept) →
      Contains sent (Answers from running.session number reply) →
      ((request : Request) → asked_of running from number ≡ Some request →
      Contains sent (Asks from running.session number request)) →
      IsDue running plan from number reply kept → IsHarmless plans histories kept
  due_harmless plan has from number reply _ answered waits
      (done item path since size planned is_done out e w) =
      done_harmless from number item path since size planned
      (subst (λ r. Contains sent (Answers from running.session number r)) is_done answered)
      (waits (Replace item path since size) out) (ap (λ x. slice_get x item) has ∙ e) w
  due_harmless plan has from number reply _ answered waits (same item path planned e kind alike) =
      same_harmless item path planned (ap (λ x. slice_get x item) has ∙ e) kind alike
  due_harmless plan has from number reply _ answered waits (directory item path planned e kind) =
      directory_harmless item path planned (ap (λ x. slice_get x item) has ∙ e) kind
