-- What a transfer asked, and what has come of it, one exchange later.
use Rattle.std.proofs.Common.{◌≡◌, ◌-◌, ◌<◌, ◌≤◌, ◌∙◌, ℕ, suc, true}
use Rattle.std.proofs.Common.{List, [], ◌∷◌, ◌++◌, length, Option, Some, None, ap, arith, inl, inr}
use Rattle.std.proofs.Common.{append-nil, min, refl, slice_index_or, subst, sym, zero}
use Rattle.std.proofs.lemmas.Bool.{and_parts, eqb-true, leb-true, lt-ltb}
use Rattle.std.proofs.lemmas.Cmp.{eq_by_cmp_equiv}
use Rattle.std.proofs.lemmas.List.{length-append}
use Rattle.std.proofs.lemmas.List.Elements.{Contains-append_cases, Contains-append_left}
use Rattle.std.proofs.lemmas.List.Elements.{Contains-append_right, filter_map-append}
use Rattle.std.specs.Cmp.Lexicographic.{lists_total, nat_list_cmp_total}
use Rattle.std.specs.List.{cons_option}
use Rattle.std.specs.Ordering.{eq_by_cmp}
use Rattle.std.specs.Prelude.{Contains, slice_get, if◌then◌else◌, filter_map, ◌==◌}
use Rattle.syn_machine.specs.Network.{Which, IsRepeat}
use Rattle.syn_machine.specs.Session.{Exchange, WasTaken, first_total, fits_piece, is_wanted}
use Rattle.syn_machine.specs.Session.{piece_total}
use Rattle.syn_machine.specs.Side.{Request, Begin, ListAt, Fetch, Stage, Replace, Reply, Piece}
use Rattle.syn_model.specs.Path.{Bytes, Path, path_cmp}
use Rattle.syn_propagate.specs.Carrying.{Exchanges, AreEarlier, IsEarlier, IsNew, IsStagedTo}
use Rattle.syn_propagate.specs.Carrying.{IsWhole, WasFetched, WasStaged, nothing, piece}
use Rattle.syn_propagate.specs.Transfers.{with_answer}
use Rattle.syn_propagate.specs.inner.TransferStates.{HasCome, HasStaged}
use Rattle.syn_propagate.specs.declared.transfer_spec.TransferSpec.{TransferSpec}
use Rattle.syn_model.proofs.BaseLemmas.{contains_one}
use Rattle.syn_model.proofs.PathLemmas.{path_itself}

-- what a fitting piece is
pub fits_means : (known : Option ℕ) (offset total count : ℕ)
    → fits_piece known offset total count ≡ true
    → ((told : ℕ) → known ≡ Some told → total ≡ told) × (offset ≤ total)
    × (count ≡ min 32768 (total - offset))
fits_means None offset total count fits =
    let parts = and_parts _ _ fits in
    ((λ told is. cc), leb-true _ _ parts.0, eqb-true _ _ parts.1)
fits_means (Some was) offset total count fits =
    let parts = and_parts _ _ fits in
    let front = and_parts _ _ parts.0 in
    let same : total ≡ was = eqb-true _ _ front.0 in
    ((λ told is. cc), leb-true _ _ front.1, eqb-true _ _ parts.1)

first_kept : (xs ys : List ℕ) (x : ℕ) → slice_get xs 0 ≡ Some x → slice_get (xs ++ ys) 0 ≡ Some x
first_kept [] ys x is = cc
first_kept (y ∷ xs) ys x is = is

first_added : (xs ys : List ℕ) → slice_get xs 0 ≡ None → slice_get (xs ++ ys) 0 ≡ slice_get ys 0
first_added [] ys none = refl
first_added (x ∷ xs) ys none = cc

-- the totals that exchanges told of a path
abbrev told_by : Path → Exchange → Option ℕ
told_by path exchange = piece_total path exchange.request exchange.reply

-- an exchange that tells no total changes none
pub untold : (taken : Exchanges) (path : Path) (to : Which) (number : ℕ) (request : Request)
    (reply : Reply) → piece_total path request reply ≡ None
    → first_total (with_answer taken to number request reply) path ≡ first_total taken path
untold taken path to number request reply none =
    let last : Exchange =
    record { side = to; number = number; request = request; reply = reply } in
    ap (λ xs. slice_get xs 0) (filter_map-append (told_by path) taken (last ∷ [])
    ∙ ap (λ o. filter_map (told_by path) taken ++ cons_option o []) none
    ∙ append-nil (filter_map (told_by path) taken))

-- a piece tells the total that was told before
pub told : (taken : Exchanges) (path : Path) (to : Which) (number since offset total : ℕ)
    (bytes : Bytes) (known : Option ℕ) → first_total taken path ≡ known
    → ((was : ℕ) → known ≡ Some was → total ≡ was)
    → first_total (with_answer taken to number (Fetch path since offset) (Piece total bytes)) path
    ≡ Some total
told taken path to number since offset total bytes known was same =
    let last : Exchange = record {
      side = to;
      number = number;
      request = Fetch path since offset;
      reply = Piece total bytes;
    } in
    ap (λ xs. slice_get xs 0) (filter_map-append (told_by path) taken (last ∷ [])
    ∙ ap (λ b. filter_map (told_by path) taken ++ cons_option (if b then Some total else None) [])
    (path_itself path)) ∙ by known was same
  where
    by : (known : Option ℕ) → first_total taken path ≡ known
        → ((was : ℕ) → known ≡ Some was → total ≡ was)
        → slice_get (filter_map (told_by path) taken ++ total ∷ []) 0 ≡ Some total
    by None is same = first_added (filter_map (told_by path) taken) (total ∷ []) is
    by (Some was) is same = first_kept (filter_map (told_by path) taken) (total ∷ []) was is
        ∙ ap (λ n. Some n) (sym (same was refl))

-- what was taken stays taken, and the last exchange is taken too
kept : (taken more : Exchanges) (side : Which) (request : Request) (reply : Reply)
    → WasTaken taken side request reply → WasTaken (taken ++ more) side request reply
kept taken more side request reply was =
    (was.0, Contains-append_left taken more _ was.1)

pub last : (taken : Exchanges) (to : Which) (number : ℕ) (request : Request) (reply : Reply)
    → WasTaken (with_answer taken to number request reply) to request reply
last taken to number request reply =
    (number, Contains-append_right taken _ _ (0, omega arith, refl))

pub staged_kept : (c : TransferSpec) (taken more : Exchanges) (total : ℕ) (bytes : Bytes)
    → WasStaged c taken total bytes → WasStaged c (taken ++ more) total bytes
staged_kept c taken more total [] nothing = nothing
staged_kept c taken more total bytes (piece had next staged fetched said) =
    piece had next (staged_kept c taken more total had staged) (kept taken more _ _ _ fetched)
    (kept taken more _ _ _ said)

pub fetched_kept : (c : TransferSpec) (taken more : Exchanges) (total offset : ℕ) (bytes : Bytes)
    → WasFetched c taken total offset bytes → WasFetched c (taken ++ more) total offset bytes
fetched_kept c taken more total offset bytes was = kept taken more _ _ _ was

pub whole_kept : (c : TransferSpec) (taken more : Exchanges) (total : ℕ) → IsWhole c taken total
    → IsWhole c (taken ++ more) total
whole_kept c taken more total whole = record {
  bytes = whole.bytes;
  staged = staged_kept c taken more total whole.bytes whole.staged;
  complete = whole.complete;
  offset = whole.offset;
  last = whole.last;
  said = fetched_kept c taken more total whole.offset whole.last whole.said;
}

-- what was staged piece by piece is staged
pub is_staged : (c : TransferSpec) (taken : Exchanges) (total : ℕ) (bytes : Bytes)
    → WasStaged c taken total bytes → IsStagedTo c taken (length bytes)
is_staged c taken total [] nothing = inl refl
is_staged c taken total bytes (piece had next staged fetched said) =
    inr (length had, next, said, length-append had next)

pub has_come : (c : TransferSpec) (taken : Exchanges) (known : Option ℕ) (offset : ℕ)
    → HasCome c taken known offset → IsStagedTo c taken offset × (is_wanted offset known ≡ true)
has_come c taken None offset none =
    (inl none, ap (λ n. n == 0) none)
has_come c taken (Some total) offset come = (
  subst (IsStagedTo c taken) come.1.count (is_staged c taken total come.1.bytes come.1.staged),
  lt-ltb offset total come.0,
)

-- what has come of a whole of so many bytes
pub so_far : (c : TransferSpec) (taken : Exchanges) (known : Option ℕ) (offset total : ℕ)
    → HasCome c taken known offset → ((was : ℕ) → known ≡ Some was → total ≡ was)
    → HasStaged c taken total offset
so_far c taken None offset total none same =
    record { bytes = []; staged = nothing; count = sym none }
so_far c taken (Some was) offset total come same =
    subst (λ n. HasStaged c taken n offset) (sym (same was refl)) come.1

later : (c : TransferSpec) (f s f' s' : ℕ) → f ≤ f' → s ≤ s' → (request : Request)
    → IsEarlier c f s request → IsEarlier c f' s' request
later c f s f' s' up over (Begin pair) is = tt
later c f s f' s' up over (ListAt path) is = tt
later c f s f' s' up over (Fetch path since offset) is =
    λ same. let less = is same in omega (arith, less, up)
later c f s f' s' up over (Stage item offset bytes) is =
    λ same. let less = is same in omega (arith, less, over)
later c f s f' s' up over (Replace item path since size) is = is

pub earlier_more : (c : TransferSpec) (taken : Exchanges) (f s f' s' : ℕ) (to : Which) (number : ℕ)
    (request : Request) (reply : Reply) → AreEarlier c taken f s → f ≤ f' → s ≤ s'
    → IsEarlier c f' s' request
    → AreEarlier c (with_answer taken to number request reply) f' s'
earlier_more c taken f s f' s' to number request reply were up over is exchange within =
    elim (Contains-append_cases taken _ exchange within) [
      | inl before ↦ later c f s f' s' up over exchange.request (were exchange before)
      | inr new ↦ subst (λ e. IsEarlier c f' s' e.request) (contains_one _ exchange new) is
    ]

-- so it is asked for the first time
pub new_fetch : (c : TransferSpec) (taken : Exchanges) (offset staged : ℕ)
    → AreEarlier c taken offset staged → IsNew taken (Fetch c.path c.source_since offset)
new_fetch c taken offset staged were exchange within =
    by exchange.request (were exchange within)
  where
    by : (request : Request) → IsEarlier c offset staged request
        → ¬ IsRepeat request (Fetch c.path c.source_since offset)
    by (Begin pair) is again = again
    by (ListAt path) is again = again
    by (Fetch path since at) is again =
        let less = is again.0 in absurd (omega (arith, less, again.1))
    by (Stage item at bytes) is again = again
    by (Replace item path since size) is again = again

pub new_stage : (c : TransferSpec) (taken : Exchanges) (fetched offset : ℕ) (bytes : Bytes)
    → AreEarlier c taken fetched offset → IsNew taken (Stage c.item offset bytes)
new_stage c taken fetched offset bytes were exchange within =
    by exchange.request (were exchange within)
  where
    by : (request : Request) → IsEarlier c fetched offset request
        → ¬ IsRepeat request (Stage c.item offset bytes)
    by (Begin pair) is again = again
    by (ListAt path) is again = again
    by (Fetch path since at) is again = again
    by (Stage item at bytes') is again =
        let less = is again.0 in absurd (omega (arith, less, again.1))
    by (Replace item path since size) is again = again

pub new_replace : (c : TransferSpec) (taken : Exchanges) (fetched staged size : ℕ)
    → AreEarlier c taken fetched staged → IsNew taken (Replace c.item c.path c.target_since size)
new_replace c taken fetched staged size were exchange within =
    by exchange.request (were exchange within)
  where
    by : (request : Request) → IsEarlier c fetched staged request
        → ¬ IsRepeat request (Replace c.item c.path c.target_since size)
    by (Begin pair) is again = again
    by (ListAt path) is again = again
    by (Fetch path since at) is again = again
    by (Stage item at bytes') is again = again
    by (Replace item path since size') is again = is again
