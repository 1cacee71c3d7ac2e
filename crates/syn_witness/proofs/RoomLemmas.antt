-- A checkpoint within an answer is for one record.
use Rattle.std.proofs.Common.{◌≡◌, ◌≢◌, inl, inr, ℕ, suc, ◌+◌, ◌≤◌, ◌<◌, Bool, true, false}
use Rattle.std.proofs.Common.{true≢false, List, [], ◌∷◌, length, refl, sym, ◌∙◌, subst, Some, arith}
use Rattle.std.proofs.lemmas.Option.{none-some, same_Some}
use Rattle.syn_model.specs.Refusal.{Full, Memory, Device, Halted, JournalFull}
use Rattle.syn_model.specs.Archive.{Archive, Kept}
use Rattle.syn_machine.specs.Machine.{Status, Up, Journaled, idle, written, unwritten, Compacts}
use Rattle.syn_machine.specs.Machine.{compacted, not_compacted}
use Rattle.syn_machine.specs.Planning.{Planned}
use Rattle.syn_machine.specs.Coordinator.{Walk, Exchange, Running, archive_layout, past, refusing}
use Rattle.syn_machine.specs.Coordinator.{making_room, start_of, HasNoRoom, Keeps, writes}
use Rattle.syn_machine.specs.Coordinator.{cut_after, Advances, EndsFor, Call, CoordinatorMachine}
use Rattle.syn_runs.proofs.View.{not_up}
use Rattle.syn_witness.specs.Forbidden.{RecordsAfterRoom, CheckpointsAreNeeded}
use Rattle.syn_witness.specs.Forbidden.{CheckpointsAreForRecords, FullAfterCheckpoint}
use Rattle.syn_witness.proofs.ForbiddenLemmas.{faultless_report}
use Rattle.syn_witness.proofs.TurnLemmas.{passes}
use Rattle.syn_machine.specs.Coordinator as coordinator

keeps_generation : (pair : ℕ) (old new : Journaled Archive Kept) (what : Kept) (kept : List Kept) →
    Keeps pair old what new kept → new.generation ≡ old.generation
keeps_generation pair old _ what _ (writes _ _ (idle is)) = refl
keeps_generation pair old _ what _ (writes _ _ (written arms is meets)) = refl
keeps_generation pair old _ what _ (writes _ _ (unwritten status arms failed is broken meets)) =
    refl
keeps_generation pair old _ what _ (cut_after is fail stop) = refl

compacts_generation : (pair : ℕ) (old new : Journaled Archive Kept) →
    Compacts (archive_layout pair) old new → new.status ≡ Up → new.generation ≡ suc old.generation
compacts_generation pair old _ (compacted arms meets) up = refl
compacts_generation pair old _ (not_compacted status arms failed down meets) up =
    absurd (not_up status down up)

breaks_generation : (pair : ℕ) (old new : Journaled Archive Kept) →
    Compacts (archive_layout pair) old new → old.status ≡ Up → new.status ≢ Up →
    new.generation ≡ old.generation
breaks_generation pair old _ (compacted arms meets) was broken = absurd (broken was)
breaks_generation pair old _ (not_compacted status arms failed down meets) was broken = refl

-- a walk that made room goes no further than the record
pub records_after_room : RecordsAfterRoom
records_after_room pair plan taken walk _ _ (coordinator.stands _) made = inl (refl, refl)
records_after_room pair plan taken walk later kept
    (coordinator.conflicts _ _ _ planned path first at is more) made =
    absurd (true≢false (sym made ∙ first))
records_after_room pair plan taken walk later kept
    (coordinator.side_refuses _ _ _ planned why first at is for more) made =
    absurd (true≢false (sym made ∙ first))
records_after_room pair plan taken walk later kept
    (coordinator.archive_refuses _ _ _ planned what why first at is may refused more) made =
    absurd (true≢false (sym made ∙ first))
records_after_room pair plan taken walk later kept
    (coordinator.no_checkpoint _ _ _ what first full greatest more) made =
    absurd (true≢false (sym made ∙ first))
records_after_room pair plan taken walk later kept
    (coordinator.checkpoints _ _ _ what journal first full smaller compacts up more) made =
    absurd (true≢false (sym made ∙ first))
records_after_room pair plan taken walk _ _
    (coordinator.checkpoint_breaks _ what journal first full smaller compacts down) made =
    absurd (true≢false (sym made ∙ first))
records_after_room pair plan taken walk later _
    (coordinator.keeps _ _ what kept journal to_keep room kept_so up more) made =
    inr to_keep
records_after_room pair plan taken walk _ kept
    (coordinator.record_breaks _ what _ journal to_keep room kept_so down) made =
    inl (refl, keeps_generation pair walk.journal journal what kept kept_so)

-- one more, where it did not make room already
abbrev one_unless : Bool → ℕ
one_unless true = 0
one_unless false = 1

-- how the generation goes up
record GoesUp (walk later : Walk) (kept : List Kept) : Type 0 where
  pub few : later.journal.generation
      ≤ walk.journal.generation + length kept + one_unless walk.made_room
  pub up : walk.journal.generation ≤ later.journal.generation
  pub above : walk.made_room ≡ false → later.made_room ≡ true →
      walk.journal.generation < later.journal.generation

-- a step that leaves the generation, from one that did not make room
goes_up : (walk between later : Walk) (kept : List Kept) →
    between.journal.generation ≡ walk.journal.generation → walk.made_room ≡ false →
    between.made_room ≡ false → GoesUp between later kept → GoesUp walk later kept
goes_up walk between later kept same was is g = record {
  few =
      subst (λ b. later.journal.generation ≤ walk.journal.generation + length kept + one_unless b)
      (is ∙ sym was) (subst (λ n. later.journal.generation
      ≤ n + length kept + one_unless between.made_room) same g.few);
  up = subst (λ n. n ≤ later.journal.generation) same g.up;
  above = λ _ made. subst (λ n. n < later.journal.generation) same (g.above is made);
}

module _ (pair : ℕ) (plan : List Planned) (taken : Exchange) where
  stays_there : (walk later : Walk) (kept : List Kept) →
      later.journal.generation ≡ walk.journal.generation → later.made_room ≡ walk.made_room →
      GoesUp walk later kept
  stays_there walk later kept same made = record {
    few = let e = same in omega (arith, e);
    up = let e = same in omega (arith, e);
    above = λ first now. absurd (true≢false (sym now ∙ (made ∙ first)));
  }

  after_room : (walk later : Walk) (journal : Journaled Archive Kept) (kept : List Kept) →
      journal.generation ≡ suc walk.journal.generation → walk.made_room ≡ false →
      GoesUp (making_room walk journal) later kept → GoesUp walk later kept
  after_room walk later journal kept next first g =
      let few : later.journal.generation ≤ journal.generation + length kept + 0 = g.few in
      let up : journal.generation ≤ later.journal.generation = g.up in
      record {
        few =
            subst (λ b. later.journal.generation ≤ walk.journal.generation + length kept
            + one_unless b) (sym first) (let e = next in omega (arith, e, few));
        up = let e = next in omega (arith, e, up);
        above = λ _ _. let e = next in omega (arith, e, up);
      }

  after_record : (walk later : Walk) (journal : Journaled Archive Kept) (what : Kept)
      (kept : List Kept) → journal.generation ≡ walk.journal.generation →
      GoesUp (past walk journal) later kept → GoesUp walk later (what ∷ kept)
  after_record walk later journal what kept same g =
      let few : later.journal.generation ≤ journal.generation + length kept + 1 = g.few in
      let up : journal.generation ≤ later.journal.generation = g.up in
      let e = same in
      record {
        few = by walk.made_room (omega (arith, e, few));
        up = omega (arith, e, up);
        above = λ first made. subst (λ n. n < later.journal.generation) same (g.above refl made);
      }
    where
      by : (b : Bool) → later.journal.generation ≤ walk.journal.generation + (length kept + 1) →
          later.journal.generation ≤ walk.journal.generation + length (what ∷ kept) + one_unless b
      by true h = omega (arith, h)
      by false h = omega (arith, h)

  advances_up : (walk later : Walk) (kept : List Kept) → Advances pair plan taken walk kept later →
      GoesUp walk later kept
  advances_up walk _ _ (coordinator.stands _) = stays_there walk walk [] refl refl
  advances_up walk later kept (coordinator.conflicts _ _ _ planned path first at is more) =
      goes_up walk (past walk walk.journal) later kept refl first refl
      (advances_up (past walk walk.journal) later kept more)
  advances_up walk later kept (coordinator.side_refuses _ _ _ planned why first at is for more) =
      goes_up walk (refusing walk why planned) later kept refl first refl
      (advances_up (refusing walk why planned) later kept more)
  advances_up walk later kept
      (coordinator.archive_refuses _ _ _ planned what why first at is may refused more) =
      goes_up walk (refusing walk why planned) later kept refl first refl
      (advances_up (refusing walk why planned) later kept more)
  advances_up walk later kept (coordinator.no_checkpoint _ _ _ what first full greatest more) =
      goes_up walk (refusing walk Full full.to_keep.planned) later kept refl first refl
      (advances_up (refusing walk Full full.to_keep.planned) later kept more)
  advances_up walk later kept
      (coordinator.checkpoints _ _ _ what journal first full smaller compacts up more) =
      after_room walk later journal kept (compacts_generation pair walk.journal journal compacts up)
      first (advances_up (making_room walk journal) later kept more)
  advances_up walk _ _
      (coordinator.checkpoint_breaks _ what journal first full smaller compacts down) =
      stays_there walk (record walk { journal = journal })
      [] (breaks_generation pair walk.journal journal compacts full.to_keep.up down) refl
  advances_up walk later _ (coordinator.keeps _ _ what kept journal to_keep room kept_so up more) =
      after_record walk later journal what kept
      (keeps_generation pair walk.journal journal what (what ∷ []) kept_so)
      (advances_up (past walk journal) later kept more)
  advances_up walk _ kept (coordinator.record_breaks _ what _ journal to_keep room kept_so down) =
      stays_there walk (record walk { journal = journal }) kept
      (keeps_generation pair walk.journal journal what kept kept_so) refl

-- A checkpoint is for a record that does not fit

-- a walk came to such a record
record ComesToFull (pair : ℕ) (plan : List Planned) (taken : Exchange) (walk later : Walk) :
    Type 0 where
  pub between : Walk
  pub earlier : List Kept
  pub what : Kept
  pub there : Advances pair plan taken walk earlier between
  pub on_the_way : between.cursor ≤ later.cursor
  pub full : HasNoRoom pair plan taken between what

-- where it did from a later walk on, by a step that leads there
comes_on : (pair : ℕ) (plan : List Planned) (taken : Exchange) (walk next later : Walk) →
    ((between : Walk) (earlier : List Kept) → Advances pair plan taken next earlier between →
    (kept : List Kept) × Advances pair plan taken walk kept between) →
    ComesToFull pair plan taken next later → ComesToFull pair plan taken walk later
comes_on pair plan taken walk next later step c =
    let there = step c.between c.earlier c.there in
    record {
      between = c.between;
      earlier = there.0;
      what = c.what;
      there = there.1;
      on_the_way = c.on_the_way;
      full = c.full;
    }

-- it came to one at once
comes_here : (pair : ℕ) (plan : List Planned) (taken : Exchange) (walk later : Walk) (what : Kept) →
    walk.cursor ≤ later.cursor → HasNoRoom pair plan taken walk what →
    ComesToFull pair plan taken walk later
comes_here pair plan taken walk later what on full = record {
  between = walk;
  earlier = [];
  what = what;
  there = coordinator.stands walk;
  on_the_way = on;
  full = full;
}

-- a step that leaves the generation
still_up : (old new later : ℕ) → new ≡ old → old < later → new < later
still_up old new later same up = omega (arith, same, up)

comes_to_full : (pair : ℕ) (plan : List Planned) (taken : Exchange) (walk later : Walk)
    (kept : List Kept) → Advances pair plan taken walk kept later →
    walk.journal.generation < later.journal.generation → ComesToFull pair plan taken walk later
comes_to_full pair plan taken walk _ _ (coordinator.stands _) up = absurd (omega (arith, up))
comes_to_full pair plan taken walk later kept
    (coordinator.conflicts _ _ _ planned path first at is more) up =
    comes_on pair plan taken walk (past walk walk.journal) later (λ between earlier a.
    (earlier, coordinator.conflicts walk between earlier planned path first at is a))
    (comes_to_full pair plan taken (past walk walk.journal) later kept more up)
comes_to_full pair plan taken walk later kept
    (coordinator.side_refuses _ _ _ planned why first at is for more) up =
    comes_on pair plan taken walk (refusing walk why planned) later (λ between earlier a.
    (earlier, coordinator.side_refuses walk between earlier planned why first at is for a))
    (comes_to_full pair plan taken (refusing walk why planned) later kept more up)
comes_to_full pair plan taken walk later kept
    (coordinator.archive_refuses _ _ _ planned what why first at is may refused more) up =
    comes_on pair plan taken walk (refusing walk why planned) later (λ between earlier a. (
      earlier,
      coordinator.archive_refuses walk between earlier planned what why first at is may refused a,
    ))
    (comes_to_full pair plan taken (refusing walk why planned) later kept more up)
comes_to_full pair plan taken walk later kept
    (coordinator.no_checkpoint _ _ _ what first full greatest more) up =
    comes_here pair plan taken walk later what
    (let on = (passes pair plan taken (refusing walk Full full.to_keep.planned) later kept more).on
    in omega (arith, on)) full
comes_to_full pair plan taken walk later kept
    (coordinator.checkpoints _ _ _ what journal first full smaller compacts now_up more) up =
    comes_here pair plan taken walk later what
    (passes pair plan taken (making_room walk journal) later kept more).on full
comes_to_full pair plan taken walk _ _
    (coordinator.checkpoint_breaks _ what journal first full smaller compacts down) up =
    comes_here pair plan taken walk (record walk { journal = journal }) what (omega arith) full
comes_to_full pair plan taken walk later _
    (coordinator.keeps _ _ what kept journal to_keep room kept_so now_up more) up =
    comes_on pair plan taken walk (past walk journal) later (λ between earlier a. (
      what ∷ earlier,
      coordinator.keeps walk between what earlier journal to_keep room kept_so now_up a,
    ))
    (comes_to_full pair plan taken (past walk journal) later kept more
    (still_up _ _ _ (keeps_generation pair walk.journal journal what (what ∷ []) kept_so) up))
comes_to_full pair plan taken walk _ kept
    (coordinator.record_breaks _ what _ journal to_keep room kept_so down) up =
    absurd (let same = keeps_generation pair walk.journal journal what kept kept_so in
    omega (arith, same, up))

pub checkpoints_are_needed : CheckpointsAreNeeded
checkpoints_are_needed pair plan taken walk later kept advances up =
    let c = comes_to_full pair plan taken walk later kept advances up in
    (c.between, c.earlier, c.what, c.there, c.on_the_way, c.full)

pub checkpoints_are_for_records : CheckpointsAreForRecords
checkpoints_are_for_records pair old running taken _ _ (coordinator.ends_at_once why fault) =
    omega arith
checkpoints_are_for_records pair old running taken _ _
    (coordinator.stops plan logged walk kept fault has advances down) =
    (advances_up pair _ taken (start_of old running) walk kept advances).few
checkpoints_are_for_records pair old running taken _ _
    (coordinator.ends plan logged walk kept why fault has advances ends) =
    (advances_up pair _ taken (start_of old running) walk kept advances).few
checkpoints_are_for_records pair old running taken _ _ (coordinator.goes_on plan logged walk kept
    left right fault has advances rests stays moves asks) =
    (advances_up pair _ taken (start_of old running) walk kept advances).few

-- a session ends 8 only after room was made
ends_full : (pair : ℕ) (running : Running) (taken : Exchange) (was : Status) (walk : Walk)
    (why : _) → EndsFor pair running taken was walk why → why ≡ Some JournalFull →
    walk.made_room ≡ true
ends_full pair running taken was walk _ (coordinator.settled some over up) e =
    absurd (none-some _ e)
ends_full pair running taken was walk _ (coordinator.fails up now) e =
    let x : Device ≡ JournalFull = same_Some _ _ e in
    cc
ends_full pair running taken was walk _ (coordinator.failed_before planned kept at due up now) e =
    let x : Halted ≡ JournalFull = same_Some _ _ e in
    cc
ends_full pair running taken was walk _ (coordinator.no_room_left kept full made) e = made
ends_full pair running taken was walk _ (coordinator.no_memory same) e =
    let x : Memory ≡ JournalFull = same_Some _ _ e in
    cc

pub full_after_checkpoint : FullAfterCheckpoint
full_after_checkpoint pair old running taken new call takes none =
    faultless_report pair old running taken (λ new report. report.ended ≡ Some JournalFull →
    old.journal.generation < new.journal.generation) none
    (λ e. let x : Memory ≡ JournalFull = same_Some _ _ e in absurd (let y : ⊥ = cc in y))
    (λ plan walk kept why advances ends e.
    (advances_up pair _ taken (start_of old running) walk kept advances).above refl
    (ends_full pair _ taken old.journal.status walk why ends e)) new call takes
