-- What is asked for and what is refused comes in turn.
use Rattle.std.specs.Prelude.{All, Contains}
use Rattle.std.proofs.Common.{◌≡◌, ◌≤◌, ℕ, suc, List, [], ◌∷◌, ◌++◌, append-nil, append_assoc, refl}
use Rattle.std.proofs.Common.{sym, ◌∙◌, subst, Some, arith, inl, inr, slice_get}
use Rattle.std.proofs.lemmas.List.Elements.{All-nil, All-cons, All-head, All-tail, All-contains}
use Rattle.std.proofs.lemmas.List.Elements.{Contains-append_cases}
use Rattle.syn_model.specs.Path.{Path}
use Rattle.syn_model.specs.Refusal.{Refusal, Full}
use Rattle.syn_model.specs.Archive.{Archive, Kept}
use Rattle.syn_model.specs.Decision.{path_of}
use Rattle.syn_machine.specs.Machine.{Journaled, idle, written, unwritten}
use Rattle.syn_machine.specs.Side.{Request, ListAt}
use Rattle.syn_machine.specs.Network.{Which, Left, Right, Message, Asks, Answers}
use Rattle.syn_machine.specs.Planning.{Planned}
use Rattle.syn_machine.specs.Coordinator.{Walk, Exchange, Running, BothBegun, MayAsk, AsksNext}
use Rattle.syn_machine.specs.Coordinator.{asked_count, numbered, messages_to, sent_now}
use Rattle.syn_machine.specs.Coordinator.{after_taking, past, refusing, making_room, Advances}
use Rattle.syn_machine.specs.Coordinator.{Keeps, writes, cut_after, IsToKeep}
use Rattle.syn_witness.specs.Forbidden.{ListsAfterBegun, IsPassed, RefusedIsPassed, IsDueWithin}
use Rattle.syn_witness.specs.Forbidden.{KeptIsDue}
use Rattle.syn_machine.specs.Coordinator as coordinator

-- What is asked for

asks_what : (Request → Type 0) → Message → Type 0
asks_what P (Asks side session number request) = P request
asks_what P (Answers side session number reply) = ⊥

all_ask : (P : Request → Type 0) (session : ℕ) (side : Which) (from : ℕ) (requests : List Request) →
    All P requests → All (asks_what P) (messages_to session side (numbered from requests))
unfolding asks_what
all_ask P session side from [] all = All-nil (asks_what P)
all_ask P session side from (request ∷ more) all =
    All-cons (asks_what P) (Asks side session from request)
    (messages_to session side (numbered (suc from) more)) (All-head P request more all)
    (all_ask P session side (suc from) more (All-tail P request more all))

lists_begun : (archive : Archive) (running : Running) (left right : List Request) →
    AsksNext archive running left right → (side : Which) (session number : ℕ) (path : Path) →
    Contains (sent_now running left right) (Asks side session number (ListAt path)) →
    BothBegun running.taken
unfolding asks_what
lists_begun archive running left right asks side session number path c =
    let to_left = messages_to running.session Left (numbered (asked_count running Left) left) in
    let to_right = messages_to running.session Right (numbered (asked_count running Right) right) in
    elim (Contains-append_cases to_left to_right (Asks side session number (ListAt path)) c)
    as (λ _. BothBegun running.taken) [
      | inl there ↦ (All-contains (asks_what (MayAsk archive running Left)) to_left
          (Asks side session number (ListAt path)) (all_ask (MayAsk archive running Left)
          running.session Left (asked_count running Left) left asks.may_left) there).1
      | inr there ↦ (All-contains (asks_what (MayAsk archive running Right)) to_right
          (Asks side session number (ListAt path)) (all_ask (MayAsk archive running Right)
          running.session Right (asked_count running Right) right asks.may_right) there).1
    ]

nothing_sent : {P : Type 0} (message : Message) → Contains [] message → P
nothing_sent message (k, few, at) = absurd (omega (arith, few))

pub lists_after_begun : ListsAfterBegun
lists_after_begun pair old running taken _ _
    (coordinator.ends_at_once why fault) side session number path c =
    nothing_sent (Asks side session number (ListAt path)) c
lists_after_begun pair old running taken _ _
    (coordinator.stops plan logged walk kept fault has advances down) side session number path c =
    nothing_sent (Asks side session number (ListAt path)) c
lists_after_begun pair old running taken _ _
    (coordinator.ends plan logged walk kept why fault has advances ends) side session number path
    c =
    nothing_sent (Asks side session number (ListAt path)) c
lists_after_begun pair old running taken _ _
    (coordinator.goes_on plan logged walk kept left right fault has advances rests stays moves asks)
    side session number path c =
    lists_begun walk.journal.value
    (after_taking running taken plan walk kept) left right asks side session number path c

-- What is refused

-- what a walk adds to what it refused
pub record Passes (plan : List Planned) (walk later : Walk) : Type 0 where
  pub on : walk.cursor ≤ later.cursor
  pub more : List (Refusal × Path)
  pub adds : later.refused ≡ walk.refused ++ more
  pub passed : All (IsPassed plan walk later) more

module _ (plan : List Planned) where
  stands_still : (walk later : Walk) → later.cursor ≡ walk.cursor → later.refused ≡ walk.refused →
      Passes plan walk later
  stands_still walk later here same = record {
    on = let e = here in omega (arith, e);
    more = [];
    adds = same ∙ sym (append-nil walk.refused);
    passed = All-nil (IsPassed plan walk later);
  }

  -- what is passed from a later walk on is passed from an earlier one on
  sooner : (walk between later : Walk) →
      walk.cursor ≤ between.cursor → (more : List (Refusal × Path)) →
      All (IsPassed plan between later) more → All (IsPassed plan walk later) more
  sooner walk between later below [] all = All-nil (IsPassed plan walk later)
  sooner walk between later below (one ∷ more) all =
      let is = All-head (IsPassed plan between later) one more all in
      let from : between.cursor ≤ is.0 = is.2 in
      All-cons (IsPassed plan walk later) one more
      (is.0, is.1, omega (arith, below, from), is.3, is.4, is.5)
      (sooner walk between later below more (All-tail (IsPassed plan between later) one more all))

  goes_past : (walk between later : Walk) → walk.cursor ≤ between.cursor →
      between.refused ≡ walk.refused → Passes plan between later → Passes plan walk later
  goes_past walk between later below same p = let on = p.on in record {
    on = omega (arith, below, on);
    more = p.more;
    adds = subst (λ r. later.refused ≡ r ++ p.more) same p.adds;
    passed = sooner walk between later below p.more p.passed;
  }

  refuses_it : (walk later : Walk) (why : Refusal) (planned : Planned) →
      slice_get plan walk.cursor ≡ Some planned → Passes plan (refusing walk why planned) later →
      Passes plan walk later
  refuses_it walk later why planned at p =
      let on : suc walk.cursor ≤ later.cursor = p.on in
      let one : Refusal × Path = (why, path_of planned.item) in
      record {
        on = omega (arith, on);
        more = one ∷ p.more;
        adds = p.adds ∙ append_assoc walk.refused (one ∷ []) p.more;
        passed =
            All-cons (IsPassed plan walk later) one p.more
            (walk.cursor, planned, omega arith, omega (arith, on), at, refl)
            (sooner walk (refusing walk why planned) later (omega arith) p.more p.passed);
      }

pub passes : (pair : ℕ) (plan : List Planned) (taken : Exchange) (walk later : Walk)
    (kept : List Kept) → Advances pair plan taken walk kept later → Passes plan walk later
passes pair plan taken walk _ _ (coordinator.stands _) = stands_still plan walk walk refl refl
passes pair plan taken walk later kept (coordinator.conflicts _ _ _ planned path first at is more) =
    goes_past plan walk (past walk walk.journal) later
    (omega arith) refl (passes pair plan taken (past walk walk.journal) later kept more)
passes pair plan taken walk later kept
    (coordinator.side_refuses _ _ _ planned why first at is for more) =
    refuses_it plan walk later why planned at
    (passes pair plan taken (refusing walk why planned) later kept more)
passes pair plan taken walk later kept
    (coordinator.archive_refuses _ _ _ planned what why first at is may refused more) =
    refuses_it plan walk later why planned at
    (passes pair plan taken (refusing walk why planned) later kept more)
passes pair plan taken walk later kept
    (coordinator.no_checkpoint _ _ _ what first full greatest more) =
    refuses_it plan walk later Full full.to_keep.planned full.to_keep.at
    (passes pair plan taken (refusing walk Full full.to_keep.planned) later kept more)
passes pair plan taken walk later kept
    (coordinator.checkpoints _ _ _ what journal first full smaller compacts up more) =
    goes_past plan walk (making_room walk journal) later
    (omega arith) refl (passes pair plan taken (making_room walk journal) later kept more)
passes pair plan taken walk _ _
    (coordinator.checkpoint_breaks _ what journal first full smaller compacts down) =
    stands_still plan walk (record walk { journal = journal }) refl refl
passes pair plan taken walk later _
    (coordinator.keeps _ _ what kept journal to_keep room kept_so up more) =
    goes_past plan walk (past walk journal) later
    (omega arith) refl (passes pair plan taken (past walk journal) later kept more)
passes pair plan taken walk _ kept
    (coordinator.record_breaks _ what _ journal to_keep room kept_so down) =
    stands_still plan walk (record walk { journal = journal }) refl refl

pub refused_is_passed : RefusedIsPassed
refused_is_passed pair plan taken walk later kept advances =
    let p = passes pair plan taken walk later kept advances in
    (p.on, (p.more, p.adds, p.passed))

-- What is recorded

all_kept : (P : Kept → Type 0) (pair : ℕ) (journal new : Journaled Archive Kept) (what : Kept)
    (kept : List Kept) → Keeps pair journal what new kept → P what → All P kept
all_kept P pair journal _ what _ (writes _ _ (idle is)) h = All-cons P what [] h (All-nil P)
all_kept P pair journal _ what _ (writes _ _ (written arms is meets)) h =
    All-cons P what [] h (All-nil P)
all_kept P pair journal _ what _ (writes _ _ (unwritten status arms failed is broken meets)) h =
    All-nil P
all_kept P pair journal _ what _ (cut_after is fail stop) h = All-cons P what [] h (All-nil P)

module _ (plan : List Planned) (taken : Exchange) where
  -- what is due from a later walk on is due from an earlier one on
  due_sooner : (walk between later : Walk) → walk.cursor ≤ between.cursor → (kept : List Kept) →
      All (IsDueWithin plan taken between later) kept → All (IsDueWithin plan taken walk later) kept
  due_sooner walk between later below [] all = All-nil (IsDueWithin plan taken walk later)
  due_sooner walk between later below (one ∷ more) all =
      let is = All-head (IsDueWithin plan taken between later) one more all in
      let from : between.cursor ≤ is.0 = is.2 in
      All-cons (IsDueWithin plan taken walk later) one more
      (is.0, is.1, omega (arith, below, from), is.3, is.4, is.5) (due_sooner walk between later
      below more (All-tail (IsDueWithin plan taken between later) one more all))

  due_now : (walk later : Walk) (what : Kept) → IsToKeep plan taken walk what →
      walk.cursor ≤ later.cursor → IsDueWithin plan taken walk later what
  due_now walk later what to_keep on =
      (walk.cursor, to_keep.planned, omega arith, on, to_keep.at, to_keep.due)

pub kept_is_due : KeptIsDue
kept_is_due pair plan taken walk _ _ (coordinator.stands _) =
    All-nil (IsDueWithin plan taken walk walk)
kept_is_due pair plan taken walk later kept
    (coordinator.conflicts _ _ _ planned path first at is more) =
    due_sooner plan taken walk (past walk walk.journal) later (omega arith) kept
    (kept_is_due pair plan taken (past walk walk.journal) later kept more)
kept_is_due pair plan taken walk later kept
    (coordinator.side_refuses _ _ _ planned why first at is for more) =
    due_sooner plan taken walk (refusing walk why planned) later (omega arith) kept
    (kept_is_due pair plan taken (refusing walk why planned) later kept more)
kept_is_due pair plan taken walk later kept
    (coordinator.archive_refuses _ _ _ planned what why first at is may refused more) =
    due_sooner plan taken walk (refusing walk why planned) later (omega arith) kept
    (kept_is_due pair plan taken (refusing walk why planned) later kept more)
kept_is_due pair plan taken walk later kept
    (coordinator.no_checkpoint _ _ _ what first full greatest more) =
    due_sooner plan taken walk (refusing walk Full full.to_keep.planned) later (omega arith) kept
    (kept_is_due pair plan taken (refusing walk Full full.to_keep.planned) later kept more)
kept_is_due pair plan taken walk later kept
    (coordinator.checkpoints _ _ _ what journal first full smaller compacts up more) =
    due_sooner plan taken walk (making_room walk journal) later (omega arith) kept
    (kept_is_due pair plan taken (making_room walk journal) later kept more)
kept_is_due pair plan taken walk _ _
    (coordinator.checkpoint_breaks _ what journal first full smaller compacts down) =
    All-nil (IsDueWithin plan taken walk (record walk { journal = journal }))
kept_is_due pair plan taken walk later _
    (coordinator.keeps _ _ what kept journal to_keep room kept_so up more) =
    let on : suc walk.cursor ≤ later.cursor =
    (passes pair plan taken (past walk journal) later kept more).on in
    All-cons (IsDueWithin plan taken walk later) what kept
    (due_now plan taken walk later what to_keep (omega (arith, on)))
    (due_sooner plan taken walk (past walk journal) later (omega arith) kept
    (kept_is_due pair plan taken (past walk journal) later kept more))
kept_is_due pair plan taken walk _ kept
    (coordinator.record_breaks _ what _ journal to_keep room kept_so down) =
    all_kept (IsDueWithin plan taken walk (record walk { journal = journal })) pair
    walk.journal journal what kept kept_so
    (due_now plan taken walk (record walk { journal = journal }) what to_keep (omega arith))
