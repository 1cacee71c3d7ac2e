-- How a run of device calls goes on.
use Rattle.std.proofs.Common.{◌≡◌, ◌∙◌, inl, inr, ⊎_elim, ℕ, List, refl, subst, sym, arith}
use Rattle.syn_disk.specs.Disk.{Elapses, NothingNew}
use Rattle.syn_disk.specs.Stops.{LeavesOnly, Untouched}
use Rattle.syn_disk.specs.declared.disk.Disk.{Ghosts}
use Rattle.syn_journal.specs.Journal.{Stands}
use Rattle.syn_journal.specs.Layout.{Value, HasJournal, IsBeforeOrAfter}
use Rattle.syn_journal.specs.declared.journal.Journal.{Journal}

module _ {D : Type 0} (moment : D → ℕ) (left_since : D → ℕ → List ℕ → Type 0) where
  -- before the first call
  pub started : (old : D) (P : List ℕ → Type 0) →
      ((c : List ℕ) → left_since old (moment old) c → P c) → LeavesOnly moment left_since old old P
  started old P here = record { later = omega arith; each = here; before = λ t c le left. inl left }

  -- one call more, after which a stop leaves what has P
  pub goes_on : (old mid new : D) (P may_leave : List ℕ → Type 0) →
      LeavesOnly moment left_since old mid P →
      Elapses (moment mid) (moment new) (left_since mid) (left_since new) may_leave →
      ((c : List ℕ) → may_leave c → P c) → LeavesOnly moment left_since old new P
  goes_on old mid new P may_leave so_far time here = record {
    later = omega (arith, so_far.later, time.later);
    each =
        λ c left. ⊎_elim (so_far.each c) (here c)
        (time.nothing_else (moment old) c so_far.later left);
    before =
        λ t c le left. ⊎_elim (so_far.before t c le) (λ now. inr (here c now))
        (time.nothing_else t c (omega (arith, le, so_far.later)) left);
  }

  -- one run, and then another
  pub in_turn : (old mid new : D) (P : List ℕ → Type 0) → LeavesOnly moment left_since old mid P →
      LeavesOnly moment left_since mid new P → LeavesOnly moment left_since old new P
  in_turn old mid new P first second = record {
    later = omega (arith, first.later, second.later);
    each =
        λ c left. ⊎_elim (first.each c) (λ now. now)
        (second.before (moment old) c first.later left);
    before =
        λ t c le left. ⊎_elim (first.before t c le) (λ now. inr now)
        (second.before t c (omega (arith, le, first.later)) left);
  }

  -- what has P has Q
  pub weakened : (old new : D) (P Q : List ℕ → Type 0) → ((c : List ℕ) → P c → Q c) →
      LeavesOnly moment left_since old new P → LeavesOnly moment left_since old new Q
  weakened old new P Q leads run = record {
    later = run.later;
    each = λ c left. leads c (run.each c left);
    before =
        λ t c le left. ⊎_elim (λ was. inl was) (λ now. inr (leads c now)) (run.before t c le left);
  }

module _ {D : Type 0} {seen : D → List ℕ} {may_leave : D → List ℕ → Type 0} {moment : D → ℕ}
    {left_since : D → ℕ → List ℕ → Type 0} where
  -- one call that writes nothing
  pub one_call :
      (only_now : (disk : D) (c : List ℕ) → left_since disk (moment disk) c → may_leave disk c)
      (old new : D) → seen new ≡ seen old → NothingNew (may_leave old) (may_leave new) →
      Elapses (moment old) (moment new) (left_since old) (left_since new) (may_leave new) →
      Untouched seen may_leave moment left_since old new
  one_call only_now old new same nothing_new time = record {
    same = same;
    nothing_new = nothing_new;
    any_moment =
        goes_on moment left_since old old new (may_leave old) (may_leave new)
        (started moment left_since old (may_leave old) (only_now old)) time nothing_new;
  }

  pub no_call : (only_now : (disk : D) (c : List ℕ) → left_since disk (moment disk) c →
      may_leave disk c) (old : D) → Untouched seen may_leave moment left_since old old
  no_call only_now old =
      record {
        same = refl;
        nothing_new = λ c left. left;
        any_moment = started moment left_since old (may_leave old) (only_now old);
      }

  -- one run, and then another
  pub and_then : (old mid new : D) → Untouched seen may_leave moment left_since old mid →
      Untouched seen may_leave moment left_since mid new →
      Untouched seen may_leave moment left_since old new
  and_then old mid new first second = record {
    same = second.same ∙ first.same;
    nothing_new = λ c left. first.nothing_new c (second.nothing_new c left);
    any_moment =
        in_turn moment left_since old mid new (may_leave old) first.any_moment (weakened moment
        left_since mid new (may_leave mid) (may_leave old) first.nothing_new second.any_moment);
  }

-- a change that was refused before it wrote
pub not_written : {D : Type 0} {disk : Ghosts D}
    (only_now : (d : D) (c : List ℕ) → disk.left_since d (disk.moment d) c → disk.may_leave d c)
    (journal : Journal D disk) (value : Value) → Stands journal value → (next : Value) (after : ℕ) →
    LeavesOnly disk.moment disk.left_since journal.disk journal.disk
    (IsBeforeOrAfter value journal.cursor.generation next after)
not_written {disk = disk} only_now journal value stands next after =
    started disk.moment disk.left_since journal.disk _
    (λ c left. inl (subst (λ bytes. HasJournal bytes value journal.cursor.generation)
    (sym (stands.durable c (only_now journal.disk c left))) stands.holds))
