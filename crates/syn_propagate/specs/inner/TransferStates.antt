-- How far a transfer has come, by its state.
use Rattle.std.specs.Prelude.{◌≡◌, ◌+◌, ◌<◌, ◌≤◌, ℕ, suc, length, Option, Some, None}
use Rattle.syn_machine.specs.Network.{Which}
use Rattle.syn_machine.specs.Session.{first_total}
use Rattle.syn_machine.specs.Side.{Request, Fetch, Stage, Replace}
use Rattle.syn_model.specs.Path.{Bytes}
use Rattle.syn_propagate.specs.Carrying.{Exchanges, AreEarlier, IsWhole}
use Rattle.syn_propagate.specs.Carrying.{WasFetched, WasStaged, source_of, target_of}
use Rattle.syn_propagate.specs.declared.transfer_spec.TransferSpec.{TransferSpec}
use Rattle.syn_propagate.specs.declared.transfer.TransferState.{TransferState}
use Rattle.syn_propagate.specs.declared.transfer.TransferState.TheVariants.{Ready, Fetching}
use Rattle.syn_propagate.specs.declared.transfer.TransferState.TheVariants.{Staging, Replacing}
use Rattle.syn_propagate.specs.declared.transfer.TransferState.TheVariants.{Over}
use Rattle.syn_propagate.specs.declared.transfer.Transfer.{Transfer}

abbrev pub spec_of : Transfer → TransferSpec
spec_of transfer = transfer.spec

-- nothing is asked yet
abbrev pub IsReady : Transfer → Type 0
IsReady transfer = transfer.state ≡ Ready

-- it is done or was refused, and asks for nothing more
abbrev pub IsOver : Transfer → Type 0
IsOver transfer = transfer.state ≡ Over

-- neither of the two: it waits for an answer
abbrev pub IsWaitingAt : TransferState → Type 0
IsWaitingAt Ready = ⊥
IsWaitingAt (Fetching offset known) = Unit {0}
IsWaitingAt (Staging end total) = Unit {0}
IsWaitingAt Replacing = Unit {0}
IsWaitingAt Over = ⊥

abbrev pub IsWaiting : Transfer → Type 0
IsWaiting transfer = IsWaitingAt transfer.state

-- so many bytes of it were staged
pub record HasStaged (c : TransferSpec) (taken : Exchanges) (total offset : ℕ) : Type 0 where
  pub bytes : Bytes
  pub staged : WasStaged c taken total bytes
  pub count : length bytes ≡ offset

-- once a piece told the length of the whole, there is more to fetch
abbrev pub HasCome : TransferSpec → Exchanges → Option ℕ → ℕ → Type 0
HasCome c taken None offset = offset ≡ 0
HasCome c taken (Some total) offset = (offset < total) × HasStaged c taken total offset

-- what stands before the offset has come, and nothing after it was asked for
pub record HasReached (c : TransferSpec) (taken : Exchanges) (offset : ℕ) (total : Option ℕ)
    : Type 0 where
  pub told : first_total taken c.path ≡ total
  pub come : HasCome c taken total offset
  pub earlier : AreEarlier c taken offset offset

-- it waits for a piece
pub record WaitsForPiece (c : TransferSpec) (taken : Exchanges) (offset : ℕ) (total : Option ℕ)
    (to : Which) (request : Request) : Type 0 where
  pub of : to ≡ source_of c
  pub asked : request ≡ Fetch c.path c.source_since offset
  pub reached : HasReached c taken offset total

-- a piece is staged that ends there
pub record HasStagedTo (c : TransferSpec) (taken : Exchanges) (end total : ℕ) : Type 0 where
  pub within : end ≤ total
  pub told : first_total taken c.path ≡ Some total
  pub come : HasStaged c taken total end
  pub offset : ℕ
  pub bytes : Bytes
  pub fetched : WasFetched c taken total offset bytes
  pub earlier : AreEarlier c taken end end

-- it waits until a piece is staged, which ends there
pub record WaitsForStage (c : TransferSpec) (taken : Exchanges) (end total : ℕ) (to : Which)
    (request : Request) : Type 0 where
  pub offset : ℕ
  pub bytes : Bytes
  pub of : to ≡ target_of c
  pub asked : request ≡ Stage c.item offset bytes
  pub some : 1 ≤ length bytes
  pub ends : end ≡ offset + length bytes
  pub within : end ≤ total
  pub told : first_total taken c.path ≡ Some total
  pub come : HasStaged c taken total offset
  pub fetched : WasFetched c taken total offset bytes
  pub earlier : AreEarlier c taken (suc offset) offset

-- it waits until the whole is put
pub record WaitsForReplacement (c : TransferSpec) (taken : Exchanges) (to : Which)
    (request : Request) : Type 0 where
  pub total : ℕ
  pub of : to ≡ target_of c
  pub asked : request ≡ Replace c.item c.path c.target_since total
  pub whole : IsWhole c taken total

abbrev pub WaitsAt : TransferSpec → Exchanges → TransferState → Which → Request → Type 0
WaitsAt c taken Ready to request = ⊥
WaitsAt c taken (Fetching offset known) to request = WaitsForPiece c taken offset known to request
WaitsAt c taken (Staging end total) to request = WaitsForStage c taken end total to request
WaitsAt c taken Replacing to request = WaitsForReplacement c taken to request
WaitsAt c taken Over to request = ⊥

-- it has come so far by these exchanges, and waits for the answer to this request
abbrev pub WaitsFor : Transfer → Exchanges → Which → Request → Type 0
WaitsFor transfer taken to request =
    WaitsAt transfer.spec taken transfer.state to request
