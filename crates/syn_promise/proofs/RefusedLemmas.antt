-- No conflict is refused: what is asked of a side, and what is recorded, is of an item that carries
-- or marks.
use Rattle.std.proofs.Common.{◌≡◌, ◌⊎◌, ◌∙◌, ℕ, zero, suc, List, Some, None}
use Rattle.std.proofs.Common.{refl, sym, ap, subst, inl, inr, arith, slice_get}
use Rattle.std.specs.Prelude.{Contains, ◌<◌}
use Rattle.std.proofs.lemmas.Option.{none-some, same_Some}
use Rattle.syn_model.specs.Path.{Path}
use Rattle.syn_model.specs.Refusal.{Refusal}
use Rattle.syn_model.specs.Archive.{Kept}
use Rattle.syn_model.specs.Decision.{Item, ToLeft, ToRight, MarkSame, MarkDir, Conflict, path_of}
use Rattle.syn_machine.specs.Side.{Request, Begin, ListAt, Fetch, Stage, Replace}
use Rattle.syn_machine.specs.Network.{Which, other, Asks}
use Rattle.syn_machine.specs.Planning.{Planned, SessionPlan, WritesTo}
use Rattle.syn_machine.specs.Report.{conflict_at}
use Rattle.syn_machine.specs.Session.{record_for}
use Rattle.syn_machine.specs.Coordinator.{Exchange, IsFor, IsDue, done, same, directory}
use Rattle.syn_runs.specs.Reported.{IsRefusedFor, by_side, by_archive, by_journal}
use Rattle.syn_runs.specs.Reported.{WasExchanged}
use Rattle.syn_runs.specs.Picture.{Picture, IsOfPlan}
use Rattle.syn_runs.proofs.Invariant.{Plans, IsKept, plan_in}
use Rattle.syn_promise.specs.Sessions.{IsRefusable}
use Rattle.syn_promise.proofs.ApartLemmas.{AreDistinct, writes_at}

writes_none : (item : Item) (side : Which) (path : Path) → WritesTo item side path →
    conflict_at item ≡ None
writes_none (ToLeft at) side path writes = refl
writes_none (ToRight at) side path writes = refl
writes_none (MarkSame at) side path writes = refl
writes_none (MarkDir at) side path writes = refl
writes_none (Conflict at) side path writes = absurd writes

record_none : (planned : Planned) (item : Item) (what : Kept) →
    record_for planned item ≡ Some what → conflict_at item ≡ None
record_none planned (ToLeft at) what is = refl
record_none planned (ToRight at) what is = refl
record_none planned (MarkSame at) what is = refl
record_none planned (MarkDir at) what is = refl
record_none planned (Conflict at) what is = absurd (none-some _ is)

due_none : (item : ℕ) (planned : Planned) (taken : Exchange) (what : Kept) →
    IsDue item planned taken what → conflict_at planned.item ≡ None
due_none item planned taken _ (done path since size is asked writes) =
    writes_none planned.item taken.side path writes
due_none item planned taken _ (same path is alike) = ap conflict_at is
due_none item planned taken _ (directory path is) = ap conflict_at is

order : (i j : ℕ) → (i < j) ⊎ ((j < i) ⊎ (i ≡ j))
order zero zero = inr (inr refl)
order zero (suc j) = inl (omega arith)
order (suc i) zero = inr (inl (omega arith))
order (suc i) (suc j) = by (order i j)
  where
    by : (i < j) ⊎ ((j < i) ⊎ (i ≡ j)) → (suc i < suc j) ⊎ ((suc j < suc i) ⊎ (suc i ≡ suc j))
    by (inl less) = inl (omega (arith, less))
    by (inr (inl more)) = inr (inl (omega (arith, more)))
    by (inr (inr alike)) = inr (inr (ap suc alike))

-- items of one path are the same
one_item : (plan : List Planned) → AreDistinct plan → (i j : ℕ) (one two : Planned) →
    slice_get plan i ≡ Some one → slice_get plan j ≡ Some two →
    path_of one.item ≡ path_of two.item → one ≡ two
one_item plan distinct i j one two at there alike = by (order i j)
  where
    by : (i < j) ⊎ ((j < i) ⊎ (i ≡ j)) → one ≡ two
    by (inl less) = absurd (distinct i j one two less at there alike)
    by (inr (inl more)) = absurd (distinct j i two one more there at (sym alike))
    by (inr (inr is)) = same_Some one two (sym at ∙ (ap (slice_get plan) is ∙ there))

module _ (plans : Plans) (world : Picture) (k : IsKept plans world) (session : ℕ)
    (plan : List Planned) (plan_is : plan_in plans session ≡ plan) (distinct : AreDistinct plan)
  where
    abbrev IsNone : Planned → Type 0
    IsNone planned = conflict_at planned.item ≡ None

    by_plan : (side : Which) (number : ℕ) (request : Request) →
        Contains world.sent (Asks side session number request) →
        (pair : ℕ) × IsOfPlan pair world.sent session plan side request
    by_plan side number request asked =
        let of_request = k.sound.asked side session number request asked in (
          of_request.pair,
          subst (λ plan. IsOfPlan of_request.pair world.sent session plan side request) plan_is
              of_request.by_plan,
        )

    fetch_none : (side : Which) (number : ℕ) (path : Path) (since offset item : ℕ)
        (planned : Planned) → slice_get plan item ≡ Some planned →
        Contains world.sent (Asks side session number (Fetch path since offset)) →
        path ≡ path_of planned.item → IsNone planned
    fetch_none side number path since offset item planned at asked is =
        let (pair, (index, one, there, writes, seen, wanted)) =
        by_plan side number (Fetch path since offset) asked in
        subst IsNone (one_item plan distinct index item one planned there at
        (sym (writes_at one.item (other side) path writes) ∙ is))
        (writes_none one.item (other side) path writes)

    -- a request for an item is of one that carries
    asked_none : (side : Which) (number : ℕ) (request : Request) (item : ℕ) (planned : Planned) →
        slice_get plan item ≡ Some planned →
        Contains world.sent (Asks side session number request) → IsFor item planned request →
        IsNone planned
    asked_none side number (Begin pair) item planned at asked is = absurd is
    asked_none side number (ListAt path) item planned at asked is = absurd is
    asked_none side number (Fetch path since offset) item planned at asked is =
        fetch_none side number path since offset item planned at asked is
    asked_none side number (Stage index offset bytes) item planned at asked is =
        let (pair, (one, there, (all, was))) = by_plan side number (Stage index offset bytes) asked
        in
        subst IsNone (same_Some one planned (sym there ∙ (ap (slice_get plan) is ∙ at)))
        (fetch_none (other side) was.number _ _ _ index one there was.asked refl)
    asked_none side number (Replace index path since size) item planned at asked is =
        let (pair, (one, there, writes, seen, total)) =
        by_plan side number (Replace index path since size) asked in
        subst IsNone (same_Some one planned (sym there ∙ (ap (slice_get plan) is ∙ at)))
        (writes_none one.item side path writes)

module _ (plans : Plans) (world : Picture) (k : IsKept plans world) (made : SessionPlan)
    (plan_is : plan_in plans made.session ≡ made.plan) (distinct : AreDistinct made.plan)
    (taken : List Exchange) (was : (exchange : Exchange) → Contains taken exchange →
    WasExchanged world.sent made.session exchange) (kept : List Kept) where
  pub refusable : (one : Refusal × Path) → IsRefusedFor made taken kept one →
      IsRefusable made.plan one.1
  refusable _ (by_side item planned exchange why at there is for) = (
    item,
    planned,
    at,
    refl,
    asked_none plans world k made.session made.plan plan_is distinct exchange.side exchange.number
        exchange.request item planned at (was exchange there).0 for,
  )
  refusable _ (by_archive item planned what before later why at record_is parts is) =
      (item, planned, at, refl, record_none planned planned.item what record_is)
  refusable _ (by_journal item planned exchange what at there due) =
      (item, planned, at, refl, due_none item planned exchange what due)
