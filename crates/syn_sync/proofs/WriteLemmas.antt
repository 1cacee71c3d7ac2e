-- What is written to a side, one after another.
use Rattle.std.proofs.Common.{◌≡◌, ◌<◌, ◌+◌, ℕ, length, take, get_or, Bool, true}
use Rattle.std.proofs.Common.{false, List, [], ◌∷◌, ◌++◌, Option, refl}
use Rattle.std.proofs.Common.{sym, ap, subst, ◌∙◌, append_assoc, append-nil}
use Rattle.std.proofs.lemmas.Grind.{flat_map-append}
use Rattle.std.proofs.lemmas.List.{map-append, take_more}
use Rattle.std.proofs.KnownBytes.{Appends-nil, Appends-trans}
use Rattle.std.specs.Io.KnownBytes.{Appends}
use Rattle.std.specs.Prelude.{◌&&◌}
use Rattle.syn_machine.specs.Network.{Asks, Left, Right, Which}
use Rattle.syn_machine.specs.Side.{Request}
use Rattle.syn_link.specs.Frames.{AppendsSome, Bytes}
use Rattle.syn_session.specs.Sendings.{message_of, messages_of}
use Rattle.syn_session.specs.declared.sending.Sending.{Sending}
use Rattle.syn_sync.specs.Drivers.{Outlets}
use Rattle.syn_sync.specs.Outlets.{Adds, Outlet, Writes}
use Rattle.syn_sync.specs.Runs.{frame_to, frames_to}
use Rattle.syn_model.proofs.BaseLemmas.{and_false, and_true}

pub some_none : (a : Option Bytes) (bytes : Bytes) → AppendsSome a a bytes
some_none a bytes = ([], bytes, refl, Appends-nil a)

pub adds_nothing : (all : Bool) (a : Option Bytes) → Adds all a a []
adds_nothing true a = Appends-nil a
adds_nothing false a = some_none a []

some_before : (a b : Option Bytes) (first second : Bytes) → AppendsSome a b first
    → AppendsSome a b (first ++ second)
some_before a b first second (done, rest, is, appends) =
    (done, rest ++ second, ap (λ x. x ++ second) is ∙ append_assoc done rest second, appends)

some_after : (a b c : Option Bytes) (first second : Bytes) → Appends a b first
    → AppendsSome b c second → AppendsSome a c (first ++ second)
some_after a b c first second appends (done, rest, is, more) = (
  first ++ done,
  rest,
  ap (λ x. first ++ x) is ∙ sym (append_assoc first done rest),
  Appends-trans a b c first done appends more,
)

adds_after : (all : Bool) (a b c : Option Bytes) (first second : Bytes) → Appends a b first
    → Adds all b c second → Adds all a c (first ++ second)
adds_after true a b c first second appends adds =
    Appends-trans a b c first second appends adds
adds_after false a b c first second appends adds = some_after a b c first second appends adds

-- nothing is written
pub writes_nothing : (a : Outlet) (all : Bool) → Writes a a [] all
writes_nothing a all = record { adds = adds_nothing all a.written; closed = λ closed. refl }

-- or nothing yet of what is to be
pub writes_none : (a : Outlet) (bytes : Bytes) → Writes a a bytes false
writes_none a bytes = record { adds = some_none a.written bytes; closed = λ closed. refl }

twice_at : (goes : Bool) (a b c : Outlet) (first second : Bytes) (calm : Bool) → b.goes ≡ goes
    → Writes a b first goes → Writes b c second (c.goes && calm)
    → Adds (c.goes && calm) a.written c.written (first ++ second)
twice_at true a b c first second calm is one two =
    adds_after (c.goes && calm) a.written b.written c.written first second one.adds two.adds
twice_at false a b c first second calm is one two =
    let same = two.closed is in
    let closed : c.goes ≡ false = ap (λ o. o.goes) same ∙ is in
    subst (λ all. Adds (all && calm) a.written c.written (first ++ second)) (sym closed)
    (subst (λ w. AppendsSome a.written w (first ++ second)) (sym (ap (λ o. o.written) same))
    (some_before a.written b.written first second one.adds))

-- one after the other
pub writes_twice : (a b c : Outlet) (first second : Bytes) (calm : Bool) → Writes a b first b.goes
    → Writes b c second (c.goes && calm) → Writes a c (first ++ second) (c.goes && calm)
writes_twice a b c first second calm one two = record {
  adds = twice_at b.goes a b c first second calm refl one two;
  closed = λ closed.
      let same = one.closed closed in
      two.closed (ap (λ o. o.goes) same ∙ closed) ∙ same;
}

-- the machine goes on, or it was stopped
pub calm_writes : (a b : Outlet) (bytes : Bytes) → Writes a b bytes b.goes
    → Writes a b bytes (b.goes && true)
calm_writes a b bytes writes = subst (Writes a b bytes) (sym (and_true b.goes)) writes

pub writes_calm : (a b : Outlet) (bytes : Bytes) → Writes a b bytes (b.goes && true)
    → Writes a b bytes b.goes
writes_calm a b bytes writes = subst (Writes a b bytes) (and_true b.goes) writes

pub stopped_none : (a : Outlet) (bytes : Bytes) → Writes a a bytes (a.goes && false)
stopped_none a bytes = subst (Writes a a bytes) (sym (and_false a.goes)) (writes_none a bytes)

-- two that are written whole while the connection goes on
pub sends_twice : (a b c : Outlet) (first second : Bytes) → Writes a b first b.goes
    → Writes b c second c.goes → Writes a c (first ++ second) c.goes
sends_twice a b c first second one two =
    writes_calm a c (first ++ second)
    (writes_twice a b c first second true one (calm_writes b c second two))

-- A request goes to its side, and the other's connection stays
pub sent_left : (session number : ℕ) (request : Request) (from to : Outlets)
    → Writes (from Left) (to Left) (frame_to Left (Asks Left session number request))
    (to Left).goes → to Right ≡ from Right → (side : Which)
    → Writes (from side) (to side) (frame_to side (Asks Left session number request))
    (to side).goes
sent_left session number request from to writes same Left = writes
sent_left session number request from to writes same Right =
    subst (λ o. Writes (from Right) o [] o.goes) (sym same)
    (writes_nothing (from Right) (from Right).goes)

pub sent_right : (session number : ℕ) (request : Request) (from to : Outlets)
    → Writes (from Right) (to Right) (frame_to Right (Asks Right session number request))
    (to Right).goes → to Left ≡ from Left → (side : Which)
    → Writes (from side) (to side) (frame_to side (Asks Right session number request))
    (to side).goes
sent_right session number request from to writes same Left =
    subst (λ o. Writes (from Left) o [] o.goes) (sym same)
    (writes_nothing (from Left) (from Left).goes)
sent_right session number request from to writes same Right = writes

one_more : (side : Which) (sends : List Sending) (sending : Sending)
    → frames_to side (messages_of (sends ++ sending ∷ []))
    ≡ frames_to side (messages_of sends) ++ frame_to side (message_of sending)
one_more side sends sending =
    ap (λ m. frames_to side m) (map-append message_of sends (sending ∷ []))
    ∙ flat_map-append (frame_to side) (messages_of sends) (message_of sending ∷ [])
    ∙ ap (λ x. frames_to side (messages_of sends) ++ x)
    (append-nil (frame_to side (message_of sending)))

-- one request more
pub frames_more : (side : Which) (sends : List Sending) (i : ℕ) (sending : Sending)
    → i < length sends → sending ≡ get_or sends i sending
    → frames_to side (messages_of (take (i + 1) sends))
    ≡ frames_to side (messages_of (take i sends)) ++ frame_to side (message_of sending)
frames_more side sends i sending within is =
    let more = take_more sends i sending within
    ∙ ap (λ (x : Sending). take i sends ++ x ∷ []) (sym is) in
    ap (λ all. frames_to side (messages_of all)) more ∙ one_more side (take i sends) sending
