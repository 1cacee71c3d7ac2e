-- What it says that an event has no cause to be refused.
use Rattle.std.proofs.Common.{◌≡◌, ◌<◌, ◌≤◌, ◌^◌, ℕ, Bool, true, false, not, nat_le, ◌&&◌}
use Rattle.std.proofs.Common.{[], ◌∷◌, ◌++◌, length, refl, sym, subst, None, arith}
use Rattle.std.specs.FinMap.{len}
use Rattle.std.proofs.lemmas.Bool.{and_parts}
use Rattle.std.proofs.lemmas.Option.{none-some}
use Rattle.syn_model.specs.Laws.{PutFits, ReplacedIsThere, SubtreeFits, SubtreeFitsPaths}
use Rattle.syn_model.specs.Tree.{Tree, replace}
use Rattle.syn_model.specs.Limits.{fits_replica, fits_part, fits_paths, tree_spelling_length}
use Rattle.syn_model.specs.Limits.{greatest_spelling}
use Rattle.syn_model.specs.Event.{Put, MakeDir, Remove, Chmod, Edit, Event, Edited, Began}
use Rattle.syn_model.specs.Event.{Replaced, after_edit}
use Rattle.syn_model.specs.Refusal.{Full, OldSession, first_cause}
use Rattle.syn_model.specs.Standing.{Standing, edit_causes, place_causes, full_causes}
use Rattle.syn_model.specs.Standing.{full_position, is_old, refusal_at, IsAllowedIn}
use Rattle.syn_model.specs.Version.{Version}
use Rattle.syn_model.proofs.HistoryLemmas.{none-append}
use Rattle.syn_wire.specs.Events.{IsShort, IsSpelledEventIn}

pub fits_where : (tree : Tree) → first_cause (full_causes tree) ≡ None → fits_replica tree ≡ true
fits_where tree e = by_test (fits_replica tree) e
  where
    by_test : (b : Bool) → first_cause ((not b, Full) ∷ []) ≡ None → b ≡ true
    by_test true e = refl
    by_test false e = absurd (none-some _ (sym e))

-- the limits of each file, directory and path, of those of a replica
pub limits_of : (tree : Tree) → fits_replica tree ≡ true →
    (fits_part tree ≡ true) × (fits_paths tree ≡ true)
limits_of tree fits =
    let size = nat_le (tree_spelling_length tree) greatest_spelling in
    let first = and_parts (nat_le (len tree) 1024 && size && fits_part tree)
    (fits_paths tree) fits in
    ((and_parts (nat_le (len tree) 1024 && size) (fits_part tree) first.0).1, first.1)

-- what is put by an allowed event has few bytes
module _ (put : PutFits) (there : ReplacedIsThere) (below : SubtreeFits)
    (paths : SubtreeFitsPaths) where
  few : (n : ℕ) → n ≤ 16384 → n < 2 ^ 32
  few n h = omega (arith, h)

  pub short_edit : (tree : Tree) (user : ℕ) (edit : Edit) →
      first_cause (full_causes (after_edit tree edit)) ≡ None → IsShort (Edited user edit)
  short_edit tree user (Put path bytes) e =
      few (length bytes) (put tree path bytes (fits_where (after_edit tree (Put path bytes)) e))
  short_edit tree user (MakeDir path) e = tt
  short_edit tree user (Remove path) e = tt
  short_edit tree user (Chmod path mode) e = tt

  pub short_at : (standing : Standing) (event : Event) → refusal_at standing event ≡ None →
      IsShort event
  short_at s (Edited user edit) none =
      let full = none-append (edit_causes s.tree edit)
      (full_causes (after_edit s.tree edit) ++ full_position s.position) none in
      short_edit s.tree user edit
      (none-append (full_causes (after_edit s.tree edit)) (full_position s.position) full.1).0
  short_at s (Began session) none = tt
  short_at s (Replaced token path since new) none =
      let after = replace s.tree path new in
      let full = none-append ((is_old s.session s.token token, OldSession)
      ∷ place_causes s.tree path)
      (full_causes after ++ full_position s.position) none in
      let fits = fits_where after
      (none-append (full_causes after) (full_position s.position) full.1).0 in
      let limits = limits_of after fits in (
        subst (λ t. fits_part t ≡ true) (there s.tree path new) (below after path limits.0),
        subst (λ t. fits_paths t ≡ true) (there s.tree path new) (paths after path limits.1),
      )

  -- each event that is allowed is spelled
  pub spelled_one : (version : Version) (standing : Standing) (event : Event) →
      IsAllowedIn version standing event → IsSpelledEventIn version event
  spelled_one version standing event allowed =
      (allowed.lawful, short_at standing event allowed.not_refused)
