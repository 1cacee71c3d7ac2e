-- Nothing was asked yet for the item that a session has come to.
use Rattle.std.proofs.Common.{◌≡◌, ℕ, suc, Bool, true, false, if◌then◌else◌, List, [], ◌∷◌, Option}
use Rattle.std.proofs.Common.{Some, None, refl, sym, ap, ◌∙◌, arith}
use Rattle.std.specs.List.{slice_get, filter_map, cons_option}
use Rattle.std.specs.Ordering.{eq_by_cmp}
use Rattle.std.specs.Prelude.{Contains}
use Rattle.syn_machine.specs.Planning.{Planned}
use Rattle.syn_machine.specs.Session.{Exchange, piece_total}
use Rattle.syn_machine.specs.Side.{Request, Begin, ListAt, Fetch, Stage, Replace, Reply, Begun}
use Rattle.syn_machine.specs.Side.{Listed, NotDir, Piece, Staged, Done, Refused}
use Rattle.syn_model.specs.Decision.{path_of}
use Rattle.syn_model.specs.Path.{Path, path_cmp}
use Rattle.syn_model.proofs.PathLemmas.{same_path}
use Rattle.syn_propagate.specs.Carrying.{IsEarlier, IsFresh}
use Rattle.syn_propagate.specs.declared.transfer_spec.TransferSpec.{TransferSpec}
use Rattle.syn_session.specs.Plans.{Plan}
use Rattle.syn_session.specs.Stages.{AreAskedBefore, IsAskedBefore}
use Rattle.syn_session.proofs.TallyLemmas.{NamedOnce, paths_apart}

-- ---- what was asked before an item

-- is so before the next
request_past : (plan : Plan) (cursor : ℕ) (request : Request) → IsAskedBefore plan cursor request →
    IsAskedBefore plan (suc cursor) request
request_past plan cursor (Begin pair) was = tt
request_past plan cursor (ListAt path) was = tt
request_past plan cursor (Fetch path since offset) was =
    (was.0, was.1, omega (arith, was.2), was.3, was.4)
request_past plan cursor (Stage item offset bytes) was = omega (arith, was)
request_past plan cursor (Replace item path since size) was = omega (arith, was)

pub asked_past : (plan : Plan) (cursor : ℕ) (taken : List Exchange) →
    AreAskedBefore plan cursor taken → AreAskedBefore plan (suc cursor) taken
asked_past plan cursor taken before exchange has =
    request_past plan cursor exchange.request (before exchange has)

-- ---- an item that nothing was asked for

none_found : {X Y : Type 0} (h : X → Option Y) (xs : List X) →
    ((x : X) → Contains xs x → h x ≡ None) → filter_map h xs ≡ []
none_found h [] never = refl
none_found h (x ∷ xs) never =
    ap (λ o. cons_option o (filter_map h xs)) (never x (0, omega arith, refl))
    ∙ none_found h xs (λ y has. never y (suc has.0, omega (arith, has.1), has.2))

module _ (plan : Plan) (once : NamedOnce plan) (cursor : ℕ) (planned : Planned)
    (at : slice_get plan cursor ≡ Some planned) (spec : TransferSpec)
    (item : spec.item ≡ cursor)
    (path : spec.path ≡ path_of planned.item) where
  other_path : (asked : Path) (since offset : ℕ) →
      IsAskedBefore plan cursor (Fetch asked since offset) → asked ≡ spec.path → ⊥
  other_path asked since offset was same =
      paths_apart plan once was.0 cursor was.1 planned was.3 at was.2 (sym was.4 ∙ (same ∙ path))

  earlier : (request : Request) → IsAskedBefore plan cursor request → IsEarlier spec 0 0 request
  earlier (Begin pair) was = tt
  earlier (ListAt path) was = tt
  earlier (Fetch asked since offset) was = λ same. absurd (other_path asked since offset was same)
  earlier (Stage number offset bytes) was = λ same. absurd (omega (arith, was, same, item))
  earlier (Replace number asked since size) was = λ same. absurd (omega (arith, was, same, item))

  told_nothing : (request : Request) (reply : Reply) → IsAskedBefore plan cursor request →
      piece_total spec.path request reply ≡ None
  told_nothing (Fetch asked since offset) (Piece total bytes) was =
      by (eq_by_cmp path_cmp asked spec.path) refl
    where
      by : (b : Bool) → eq_by_cmp path_cmp asked spec.path ≡ b →
          piece_total spec.path (Fetch asked since offset) (Piece total bytes) ≡ None
      by true same = absurd (other_path asked since offset was (same_path asked spec.path same))
      by false other = ap (λ b. if b then Some total else None) other
  told_nothing (Fetch asked since offset) (Begun position) was = refl
  told_nothing (Fetch asked since offset) (Listed position entries) was = refl
  told_nothing (Fetch asked since offset) (NotDir position) was = refl
  told_nothing (Fetch asked since offset) Staged was = refl
  told_nothing (Fetch asked since offset) Done was = refl
  told_nothing (Fetch asked since offset) (Refused why) was = refl
  told_nothing (Begin pair) reply was = refl
  told_nothing (ListAt listed) reply was = refl
  told_nothing (Stage number offset bytes) reply was = refl
  told_nothing (Replace number asked since size) reply was = refl

  pub is_fresh : (taken : List Exchange) → AreAskedBefore plan cursor taken → IsFresh spec taken
  is_fresh taken before = record {
    asked = λ exchange has. earlier exchange.request (before exchange has);
    total =
        ap (λ l. slice_get l 0)
        (none_found (λ exchange. piece_total spec.path exchange.request exchange.reply) taken
        (λ exchange has. told_nothing exchange.request exchange.reply (before exchange has)));
  }
