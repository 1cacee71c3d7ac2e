-- What a scan of one side was told, by the transcript of its session.
use Rattle.std.specs.Prelude.{◌≡◌, ◌⊎◌, ◌++◌, ◌&&◌, ℕ, Bool, true, List, [], ◌∷◌, Contains}
use Rattle.std.specs.FinMap.{len}
use Rattle.std.specs.List.{list_any}
use Rattle.syn_machine.specs.Network.{Which, is_side}
use Rattle.syn_machine.specs.Session.{Exchange, WasTaken, is_not_dir, nodes_shown}
use Rattle.syn_machine.specs.Side.{ListAt, Listed, NotDir}
use Rattle.syn_machine.specs.Side as model
use Rattle.syn_model.specs.Dirty.{has_unstable}
use Rattle.syn_model.specs.Path.{Path, Name, root}
use Rattle.syn_model.specs.Tree.{Content}
use Rattle.syn_scan.specs.Asked.{Asked, is_out}
use Rattle.syn_scan.specs.Found.{Found, WasListedIn, WasNoDirectoryIn, scan_of, was_listed}
use Rattle.syn_scan.specs.Found.{was_no_directory}
use Rattle.syn_session.specs.declared.side_scan.SideScan.{SideScan}

abbrev pub Exchanges : Type 0
Exchanges = List Exchange

-- what was found so far, and what was handed out
abbrev pub asked_of : SideScan → Asked
asked_of scan = scan.scanner

abbrev pub out_of : SideScan → List Path
out_of scan = (asked_of scan).out

abbrev pub found_of : SideScan → Found
found_of scan = (asked_of scan).found

-- the side listed the path so in these exchanges, or answered that no directory is there
abbrev pub WasListedAt : Exchanges → Which → Path → ℕ → List (Name × Content) → Type 0
WasListedAt taken side path position entries =
    WasTaken taken side (ListAt path) (Listed position entries)

abbrev pub WasNoDirectoryAt : Exchanges → Which → Path → ℕ → Type 0
WasNoDirectoryAt taken side path position = WasTaken taken side (ListAt path) (NotDir position)

-- the side was asked to list the path, and its answer was taken
abbrev pub WasAnswered : Found → Path → Type 0
WasAnswered found path = (was_listed found path ≡ true) ⊎ (was_no_directory found path ≡ true)

-- the side answered of a path that no directory is there
abbrev pub told_unstable : Exchanges → Which → Bool
told_unstable taken side =
    list_any (λ exchange. is_side side exchange.side && is_not_dir exchange.reply) taken

-- such an answer is for a path of the scan
abbrev pub shows_unstable : Found → Bool
shows_unstable found = has_unstable (scan_of found) root

-- What was found is what the side answered in these exchanges, and all of it
pub record IsFoundIn (found : Found) (side : Which) (taken : Exchanges) : Type 0 where
  pub listed : (path : Path) (position : ℕ) (entries : List (Name × Content)) →
      WasListedIn found path position entries →
      WasTaken taken side (ListAt path) (Listed position entries)
  pub not_dir : (path : Path) (position : ℕ) → WasNoDirectoryIn found path position →
      WasTaken taken side (ListAt path) (NotDir position)
  pub nodes : nodes_shown taken side ≡ len found.marks
  pub unstable : told_unstable taken side ≡ shows_unstable found
  pub only : (exchange : Exchange) (path : Path) → Contains taken exchange →
      exchange.side ≡ side → exchange.request ≡ ListAt path → WasAnswered found path

-- its listing is asked for and waits for the answer
abbrev pub WaitsFor : SideScan → Path → Type 0
WaitsFor scan path = is_out (out_of scan) path ≡ true

-- with the answer
abbrev pub with_listing_answered : Exchanges → Which → ℕ → Path → model.Reply → Exchanges
with_listing_answered taken side number path reply =
    taken ++ record { side = side; number = number; request = ListAt path; reply = reply } ∷ []
