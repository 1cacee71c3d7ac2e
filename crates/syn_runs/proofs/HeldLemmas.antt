-- What a scan shows was held.
use Rattle.std.proofs.Common.{◌≡◌, ℕ, true, false, [], ◌∷◌, refl, sym, ap, ◌∙◌, subst, Some}
use Rattle.std.proofs.Common.{is_some, arith, option_map}
use Rattle.std.specs.FinMap.{get, find}
use Rattle.std.proofs.lemmas.Option.{none-some}
use Rattle.syn_model.specs.Path.{Name, Path, name_cmp, child}
use Rattle.syn_model.specs.Tree.{Content, is_directory, is_directory_content}
use Rattle.syn_model.specs.Limits.{children}
use Rattle.syn_model.specs.Mark.{mark, mark_of}
use Rattle.syn_model.specs.Dirty.{Scan, is_unstable}
use Rattle.syn_model.specs.History.{tree_at}
use Rattle.syn_model.specs.Archive.{Archive, Held}
use Rattle.syn_machine.specs.Side.{ListAt, Listed}
use Rattle.syn_machine.specs.Network.{Which, Sent}
use Rattle.syn_machine.specs.Planning.{IsScanOf}
use Rattle.syn_runs.proofs.Invariant.{Plans, Histories, IsSound, IsTrueListing}
use Rattle.syn_model.proofs.MarkLemmas.{get-mark}
use Rattle.syn_model.proofs.QuietLemmas.{get-children, same_child}
use Rattle.syn_runs.proofs.PlanLemmas.{last_name}
use Rattle.syn_model.proofs.ShownLemmas.{found_unstable}
use Rattle.syn_runs.proofs.StagedLemmas.{tree_at_is_tree}

module _ (plans : Plans) (histories : Histories) (archive : Archive) (sent : Sent)
    (sound : IsSound plans histories archive sent) (side : Which) (session : ℕ) (scan : Scan)
    (since : Path → ℕ) (is : IsScanOf sent side session scan since) where
  nothing_unstable : (a : Path) (n : Name) (x : Content) → is_unstable scan a ≡ true →
      get scan.marks (child a n) ≡ Some x → ⊥
  nothing_unstable a n x u e =
      let empty = is.nothing_below a (found_unstable a scan.unstable u) in
      none-some _ (sym (get-children scan.marks a n ∙ ap (λ cs. find name_cmp n cs) empty) ∙ e)

  -- what a scan shows in a directory was there when that was listed
  child_held : (a : Path) (n : Name) (x : Content) → get scan.marks (child a n) ≡ Some x →
      Held (histories side) (child a n) x
  child_held a n x e =
      let d : is_directory scan.marks a ≡ true =
      ap is_directory_content (is.tree.part.parents a n [] (ap is_some e)) in
      elim (is_unstable scan a)
      as (λ b. is_unstable scan a ≡ b → Held (histories side) (child a n) x) [
        | true ↦ λ u. absurd (nothing_unstable a n x u e)
        | false ↦ λ u.
            let w = is.listed a d u in
            let listing : IsTrueListing (histories side) session a (since a)
            (children scan.marks a) = sound.answered side session w.number
            (Listed (since a) (children scan.marks a)) (ListAt a) w.answered w.asked in (
              since a,
              listing.reached,
              sym (same_child scan.marks
                  (mark (tree_at (histories side) (since a))) a n listing.entries_there) ∙ e,
            )
      ] refl

  root_held : (x : Content) → get scan.marks [] ≡ Some x → Held (histories side) [] x
  root_held x e = (
    0,
    omega arith,
    get-mark (tree_at (histories side) 0) [] ∙ (ap (option_map mark_of)
        (tree_at_is_tree (histories side) 0 (sound.lawful side)).rooted ∙ (sym is.tree.rooted ∙ e)),
  )

  -- each entry of a scan was held by its side
  pub scan_held : (p : Path) (x : Content) → get scan.marks p ≡ Some x → Held (histories side) p x
  scan_held [] x e = root_held x e
  scan_held (n ∷ p) x e =
      let split = last_name n p in
      subst (λ q. Held (histories side) q x) (sym split.2)
      (child_held split.0 split.1 x (ap (get scan.marks) (sym split.2) ∙ e))
