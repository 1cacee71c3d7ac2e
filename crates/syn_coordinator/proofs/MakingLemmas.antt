-- The plan that a session makes, once both sides are scanned.
use Rattle.std.proofs.Common.{◌≡◌, ℕ, List, [], ◌∷◌, map, get_or, refl, ap, ◌∙◌, Option}
use Rattle.std.specs.List.{All}
use Rattle.std.proofs.lemmas.List.Elements.{All-map}
use Rattle.syn_machine.specs.Network.{Which, Left, Right}
use Rattle.syn_machine.specs.Planning.{SeesBoth, SessionPlan}
use Rattle.syn_machine.specs.Session.{BothBegun, MakesPlan, Running}
use Rattle.syn_model.specs.Archive.{Archive}
use Rattle.syn_model.specs.Decision.{Item}
use Rattle.syn_model.specs.Dirty.{IsScanBy, Scan}
use Rattle.syn_model.specs.Path.{Path}
use Rattle.syn_model.specs.Plan as model
use Rattle.syn_model.specs.Tree.{Tree}
use Rattle.syn_scan.specs.Found.{Found, position_of, scan_of}
use Rattle.syn_session.specs.Scanning.{WasListedAt, WasNoDirectoryAt}
use Rattle.syn_session.specs.Plans.{planned_all, planned_by}

-- both scans, and the positions that each has
abbrev pub scans_by : Found → Found → Which → Scan
scans_by left right Left = scan_of left
scans_by left right Right = scan_of right

abbrev pub since_by : Found → Found → Which → Path → ℕ
since_by left right Left path = position_of left path
since_by left right Right path = position_of right path

-- its items are those that it was made of
pub items_of_all : (left right : Found) (items : List Item) →
    map (λ planned. planned.item) (planned_all left right items) ≡ items
items_of_all left right [] = refl
items_of_all left right (item ∷ items) = ap (λ l. item ∷ l) (items_of_all left right items)

-- each sees what both scans have at its path
pub sees_both : (left right : Found) (items : List Item) →
    All (SeesBoth (scans_by left right) (since_by left right)) (planned_all left right items)
sees_both left right items =
    All-map (SeesBoth (scans_by left right) (since_by left right)) (planned_by left right) items
    (λ k d less. sees (get_or items k d))
  where
    sees : (item : Item) →
        SeesBoth (scans_by left right) (since_by left right) (planned_by left right item)
    sees item Left = (refl, refl)
    sees item Right = (refl, refl)

-- with the scans and the archive that it was made of
abbrev pub made_of : ℕ → Option Which → Tree → Found → Found → List Item → SessionPlan
made_of session preference archive left right items = record {
  session = session;
  preference = preference;
  scan = scans_by left right;
  since = since_by left right;
  archive = archive;
  plan = planned_all left right items;
}

-- once both sides had begun, and each scan is that of what its side answered
pub makes_plan : (running : Running) (archive : Archive) (left right : Found) (items : List Item) →
    items ≡ model.plan running.preference (scan_of left) (scan_of right) archive.marks → BothBegun
    running.taken →
    IsScanBy (WasListedAt running.taken Left) (WasNoDirectoryAt running.taken Left) (scan_of left)
    (position_of left) → IsScanBy (WasListedAt running.taken Right)
    (WasNoDirectoryAt running.taken Right) (scan_of right) (position_of right) →
    MakesPlan running archive (made_of running.session running.preference archive.marks left right
    items)
makes_plan running archive left right items is_plan begun on_left on_right = record {
  of_session = refl;
  prefers = refl;
  archive_is = refl;
  begun = begun;
  scanned = scanned;
  items = items_of_all left right items ∙ is_plan;
  seen = sees_both left right items;
}
  where
    scanned : (side : Which) → IsScanBy (WasListedAt running.taken side)
        (WasNoDirectoryAt running.taken side) (scans_by left right side) (since_by left right side)
    scanned Left = on_left
    scanned Right = on_right
