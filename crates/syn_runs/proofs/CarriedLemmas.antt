-- What was carried and not touched since is marked.
use Rattle.std.proofs.Common.{◌≡◌, ℕ, true, false, ◌&&◌, List, [], ◌∷◌, ◌++◌, length, take, drop}
use Rattle.std.proofs.Common.{fold, refl, sym, ap, ap₂, ◌∙◌, subst, Some, None, true≢false, arith}
use Rattle.std.proofs.Common.{inl, inr}
use Rattle.std.specs.Prelude.{All}
use Rattle.std.specs.FinMap.{get}
use Rattle.std.proofs.lemmas.List.{length-append, take-append-drop}
use Rattle.std.proofs.lemmas.List.Elements.{All-head, All-tail}
use Rattle.std.proofs.lemmas.Bool.{or_right}
use Rattle.syn_model.specs.Path.{Name, Path, strip_prefix, parent, is_root, comparable}
use Rattle.syn_model.specs.Tree.{Tree, Directory, StandsIn, subtree, replace, is_directory}
use Rattle.syn_model.specs.Tree.{is_directory_content}
use Rattle.syn_model.specs.Refusal.{OldSession}
use Rattle.syn_model.specs.Event.{Token, Event, Edited, Put, MakeDir, Remove, Chmod, Began}
use Rattle.syn_model.specs.Event.{Replaced, after_event, touches}
use Rattle.syn_model.specs.History.{History, IsHistory, tree_of, tree_at, is_old_token}
use Rattle.syn_model.specs.History.{position_causes}
use Rattle.syn_model.specs.Standing.{place_causes, full_causes}
use Rattle.syn_machine.specs.Network.{Left, Right, other}
use Rattle.syn_runs.specs.Acknowledged.{history_of}
use Rattle.syn_runs.specs.Headline.{UntouchedSince, HeldIsMarked, AreMarked}
use Rattle.syn_runs.proofs.PictureRuns.{OfEachRun}
use Rattle.syn_model.proofs.PathLemmas.{strip_prefix-is}
use Rattle.syn_model.proofs.TreeLemmas.{subtree-replace, beside}
use Rattle.syn_model.proofs.HistoryLemmas.{first_cause-none, place-stands, tree_of-append}
use Rattle.syn_model.proofs.PlanSteps.{replaced_beside}
use Rattle.syn_runs.proofs.PlanLemmas.{last_name, parent-child}
use Rattle.syn_runs.proofs.TokenLemmas.{after_front}
use Rattle.syn_machine.proofs.NetworkLemmas.{on_both}
use Rattle.syn_runs.proofs.SessionRuns.{found_lawful, marks_alike}

-- a path and what is above it stay where no event touches the path
pub record Stays (old new : Tree) (path : Path) : Type 0 where
  pub here : subtree new path ≡ subtree old path
  pub above : (front rest : Path) → path ≡ front ++ rest → get new front ≡ get old front

replaced_stays : (t : Tree) (p : Path) (u : Tree) (path : Path) → comparable p path ≡ false →
    Stays t (replace t p u) path
replaced_stays t p u path h =
    let both = replaced_beside t p u path h in
    record { here = both.0; above = both.1 }

event_stays : (t : Tree) (event : Event) (path : Path) → touches event path ≡ false →
    Stays t (after_event t event) path
event_stays t (Edited user (Put at bytes)) path h = replaced_stays t at _ path h
event_stays t (Edited user (MakeDir at)) path h = replaced_stays t at _ path h
event_stays t (Edited user (Remove at)) path h = replaced_stays t at _ path h
event_stays t (Edited user (Chmod at mode)) path h = replaced_stays t at _ path h
event_stays t (Began session) path h = record { here = refl; above = λ front rest e. refl }
event_stays t (Replaced token at since new) path h = replaced_stays t at new path h

events_stay : (t : Tree) (events : List Event) (path : Path) →
    All (λ event. touches event path ≡ false) events → Stays t (fold after_event t events) path
events_stay t [] path all = record { here = refl; above = λ front rest e. refl }
events_stay t (event ∷ events) path all =
    let one = event_stays t event path
    (All-head (λ event. touches event path ≡ false) event events all) in
    let more = events_stay (after_event t event) events path
    (All-tail (λ event. touches event path ≡ false) event events all) in
    record {
      here = more.here ∙ one.here;
      above = λ front rest e. more.above front rest e
          ∙ one.above front rest e;
    }

-- the directory above a path
above_path : (path : Path) →
    is_root path ≡ false → (name : Name) × (path ≡ parent path ++ name ∷ [])
above_path [] e = absurd (true≢false e)
above_path (n ∷ p) e =
    let split = last_name n p in (
      split.1,
      split.2 ∙ ap (λ a. a ++ split.1 ∷ [])
          (sym (ap parent split.2 ∙ parent-child split.0 split.1)),
    )

not_above : (path : Path) (name : Name) → strip_prefix (path ++ name ∷ []) path ≡ None
not_above path name =
    elim (strip_prefix (path ++ name ∷ []) path)
    as (λ o. strip_prefix (path ++ name ∷ []) path ≡ o → o ≡ None) [
      | None ↦ λ _. refl
      | Some rest ↦ λ some.
          let at = ap length (strip_prefix-is (path ++ name ∷ []) path rest some) in
          absurd
          (omega (
            arith,
            at,
            length-append (path ++ name ∷ []) rest,
            length-append path (name ∷ []),
          ))
    ] refl

-- what was replaced and not touched since is there, in a directory
replaced_is : (first rest : History) (token : Token) (path : Path) (since : ℕ) (new : Tree) →
    IsHistory (first ++ Replaced token path since new ∷ rest) →
    All (λ event. touches event path ≡ false) rest → (is_root path ≡ false)
    × (subtree (tree_of (first ++ Replaced token path since new ∷ rest)) path ≡ new)
    × (is_directory (tree_of (first ++ Replaced token path since new ∷ rest)) (parent path) ≡ true)
replaced_is first rest token path since new lawful untouched =
    let t = tree_of first in
    let after = replace t path new in
    let allowed = (after_front [] first (Replaced token path since new ∷ rest) lawful).0 in
    let causes = full_causes after ++ position_causes first in
    let place = place-stands t path causes (first_cause-none (is_old_token first token, OldSession)
    (place_causes t path ++ causes) allowed.not_refused).1 in
    let split = above_path path place.0 in
    let stay = events_stay after rest path untouched in
    let whole = tree_of-append first (Replaced token path since new ∷ rest) in
    let directory : get after (parent path) ≡ Some Directory =
    beside t path new (parent path)
    (ap (λ p. strip_prefix p (parent path)) split.1 ∙ not_above (parent path) split.0)
    ∙ in_directory t path place.0 place.1 in (
      place.0,
      ap (λ u. subtree u path) whole ∙ (stay.here ∙ subtree-replace t path new),
      ap (λ u. is_directory u (parent path)) whole
          ∙ (ap is_directory_content (stay.above (parent path) (split.0 ∷ []) split.1 ∙ directory)),
    )
  where
    in_directory : (t : Tree) (path : Path) → is_root path ≡ false → StandsIn t path →
        get t (parent path) ≡ Some Directory
    in_directory t [] e s = absurd (true≢false e)
    in_directory t (n ∷ p) e (inl root) = cc
    in_directory t (n ∷ p) e (inr there) = there

-- and what was untouched since a position is as it was then, with the directory above it
source_is : (source : History) (fetched : ℕ) (path : Path) → UntouchedSince fetched source path →
    is_root path ≡ false → is_directory (tree_at source fetched) (parent path) ≡ true →
    (subtree (tree_of source) path ≡ subtree (tree_at source fetched) path)
    × (is_directory (tree_of source) (parent path) ≡ true)
source_is source fetched path untouched root directory =
    let stay = events_stay (tree_at source fetched) (drop fetched source) path untouched in
    let whole = ap tree_of (sym (take-append-drop fetched source))
    ∙ tree_of-append (take fetched source) (drop fetched source) in
    let split = above_path path root in (
      ap (λ u. subtree u path) whole ∙ stay.here,
      ap (λ u. is_directory u (parent path)) whole
          ∙ (ap is_directory_content (stay.above (parent path) (split.0 ∷ []) split.1) ∙ directory),
    )

-- so the next complete session without edits marks it, and both sides keep it
pub runs_mark_held : OfEachRun HeldIsMarked
runs_mark_held old new steps refusals s g side first rest token path since fetched u report found
    left is untouched
    directory held source_untouched q =
    let lawful = found_lawful old new s g report found left q in
    let target = replaced_is first rest token path since u
    (subst IsHistory is (lawful side)) untouched in
    let source = source_is
    (history_of found (other side)) fetched path source_untouched target.0 directory in
    let both = on_both (λ which. (subtree (tree_of (history_of found which)) path ≡ u)
    × (is_directory (tree_of (history_of found which)) (parent path) ≡ true)) side (
      ap (λ h. subtree (tree_of h) path) is
          ∙ target.1,
      ap (λ h. is_directory (tree_of h) (parent path)) is ∙ target.2,
    )
    (source.0 ∙ sym held, source.1) in
    let relevant = or_right (is_root path) (is_directory (tree_of found.left) (parent path)
    && is_directory (tree_of found.right) (parent path))
    (ap₂ (λ x y. x && y) (both Left).1 (both Right).1) in
    subst (AreMarked left path) (both Left).0
    (marks_alike old new s g report found left q path relevant ((both Left).0 ∙ sym (both Right).0))
