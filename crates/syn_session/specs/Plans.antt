-- The plan of a session, and what is recorded for its items.
use Rattle.std.specs.List.{count_by}
use Rattle.std.specs.Prelude.{◌≡◌, ◌<◌, ℕ, Bool, true, ◌&&◌, List, map, slice_get, Some, All}
use Rattle.syn_machine.specs.Planning.{Planned, Seen}
use Rattle.syn_machine.specs.Report.{is_kept, is_record_of}
use Rattle.syn_model.specs.Archive.{Kept}
use Rattle.syn_model.specs.Decision.{path_of}
use Rattle.syn_model.specs.Decision as model
use Rattle.syn_model.specs.Path.{Path, parent}
use Rattle.syn_model.specs.Tree.{subtree}
use Rattle.syn_scan.specs.Found.{Found, position_of, scan_of}

abbrev pub Plan : Type 0
Plan = List Planned

-- what a scan has at a path
abbrev pub seen_at : Found → Path → Seen
seen_at found path = record {
  marks = subtree (scan_of found).marks path;
  since = position_of found (parent path);
}

-- the item with what both scans have at its path
abbrev pub planned_by : Found → Found → model.Item → Planned
planned_by left right item = record {
  item = item;
  left = seen_at left (path_of item);
  right = seen_at right (path_of item);
}

abbrev pub planned_all : Found → Found → List model.Item → Plan
planned_all left right items = map (planned_by left right) items

-- what was recorded is for items before that one
abbrev pub AreRecordedBefore : Plan → ℕ → List Kept → Type 0
AreRecordedBefore plan cursor kept =
    All (λ one. (at : ℕ) × (planned : Planned) × (at < cursor)
    × (slice_get plan at ≡ Some planned) × (is_record_of planned.item one ≡ true)) kept

-- how many items of a kind were recorded
abbrev pub recorded_count : (model.Item → Bool) → Plan → List Kept → ℕ
recorded_count is_of plan kept =
    count_by (λ planned. is_of planned.item && is_kept kept planned.item) plan
