-- What a transfer may ask of the two sides, and what has been carried, by the exchanges of a
-- session.
use Rattle.std.specs.Prelude.{◌≡◌, ◌≢◌, ◌⊎◌, ◌+◌, ◌<◌, ℕ, true, List, [], ◌++◌, length, None}
use Rattle.std.specs.Prelude.{Contains}
use Rattle.syn_machine.specs.Network.{Which, other, IsRepeat}
use Rattle.syn_machine.specs.Session.{Exchange, WasTaken, first_total, is_wanted}
use Rattle.syn_machine.specs.Side.{Request, Begin, ListAt, Fetch, Stage, Replace}
use Rattle.syn_machine.specs.Side.{Piece, Staged, Done}
use Rattle.syn_model.specs.Path.{Bytes}
use Rattle.syn_path.specs.Sides.{which_of}
use Rattle.syn_propagate.specs.declared.transfer_spec.TransferSpec.{TransferSpec}

abbrev pub source_of : TransferSpec → Which
source_of c = which_of c.source

abbrev pub target_of : TransferSpec → Which
target_of c = other (source_of c)

abbrev pub Exchanges : Type 0
Exchanges = List Exchange

-- so many bytes of the item are staged
abbrev pub IsStagedTo : TransferSpec → Exchanges → ℕ → Type 0
IsStagedTo c taken count = (count ≡ 0) ⊎ ((before : ℕ) × (bytes : Bytes)
    × WasTaken taken (target_of c) (Stage c.item before bytes) Staged
    × (count ≡ before + length bytes))

-- the source gave this piece of a whole of so many bytes
abbrev pub WasFetched : TransferSpec → Exchanges → ℕ → ℕ → Bytes → Type 0
WasFetched c taken total offset bytes =
    WasTaken taken (source_of c) (Fetch c.path c.source_since offset) (Piece total bytes)

-- the bytes were fetched piece by piece, and each piece was staged at its place
pub data WasStaged (c : TransferSpec) (taken : Exchanges) (total : ℕ) : Bytes → Type 0 where
  nothing : WasStaged c taken total []
  piece : (had bytes : Bytes) → WasStaged c taken total had →
      WasFetched c taken total (length had) bytes →
      WasTaken taken (target_of c) (Stage c.item (length had) bytes) Staged →
      WasStaged c taken total (had ++ bytes)

-- the whole is staged, as long as the source said
pub record IsWhole (c : TransferSpec) (taken : Exchanges) (total : ℕ) : Type 0 where
  pub bytes : Bytes
  pub staged : WasStaged c taken total bytes
  pub complete : length bytes ≡ total
  pub offset : ℕ
  pub last : Bytes
  pub said : WasFetched c taken total offset last

-- and it was put in its place
pub record WasCarried (c : TransferSpec) (taken : Exchanges) : Type 0 where
  pub total : ℕ
  pub whole : IsWhole c taken total
  pub done : WasTaken taken (target_of c) (Replace c.item c.path c.target_since total) Done

-- What may be asked next, as a session may ask it for the item that it has come to: the next piece,
-- as far as the length of the whole is known; a piece that was taken; and the replacement, once the
-- whole is staged.
abbrev pub MayAsk : TransferSpec → Exchanges → Which → Request → Type 0
MayAsk c taken to (Fetch path since offset) = (to ≡ source_of c) × (path ≡ c.path)
    × (since ≡ c.source_since) × IsStagedTo c taken offset
    × (is_wanted offset (first_total taken c.path) ≡ true)
MayAsk c taken to (Stage item offset bytes) = (to ≡ target_of c) × (item ≡ c.item) × (total : ℕ)
    × WasFetched c taken total offset bytes
MayAsk c taken to (Replace item path since size) = (to ≡ target_of c) × (item ≡ c.item)
    × (path ≡ c.path) × (since ≡ c.target_since) × IsStagedTo c taken size
    × IsWhole c taken size
MayAsk c taken to _ = ⊥

-- nothing that was asked is asked again
abbrev pub IsNew : Exchanges → Request → Type 0
IsNew taken request = (exchange : Exchange) → Contains taken exchange
    → ¬ IsRepeat exchange.request request

-- a request for the item lies before these offsets of what is fetched and of what is staged
abbrev pub IsEarlier : TransferSpec → ℕ → ℕ → Request → Type 0
IsEarlier c fetched staged (Begin pair) = Unit {0}
IsEarlier c fetched staged (ListAt path) = Unit {0}
IsEarlier c fetched staged (Fetch path since offset) = path ≡ c.path → offset < fetched
IsEarlier c fetched staged (Stage item offset bytes) = item ≡ c.item → offset < staged
IsEarlier c fetched staged (Replace item path since size) = item ≢ c.item

abbrev pub AreEarlier : TransferSpec → Exchanges → ℕ → ℕ → Type 0
AreEarlier c taken fetched staged = (exchange : Exchange) → Contains taken exchange
    → IsEarlier c fetched staged exchange.request

-- its replacement was not asked for
abbrev pub IsUnreplaced : TransferSpec → Exchanges → Type 0
IsUnreplaced c taken = (fetched : ℕ) × (staged : ℕ) × AreEarlier c taken fetched staged

-- nothing was asked for the item yet
pub record IsFresh (c : TransferSpec) (taken : Exchanges) : Type 0 where
  pub asked : AreEarlier c taken 0 0
  pub total : first_total taken c.path ≡ None
