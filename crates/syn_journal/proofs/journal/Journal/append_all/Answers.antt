use Rattle.std.proofs.Common.{◌≡◌, ◌∙◌, ◌+◌, ◌-◌, ◌<◌, length, take, drop, refl, arith}
use Rattle.std.proofs.lemmas.Bool.Decides.{nat_tests}
use Rattle.syn_disk.specs.Stops.{LeavesOnly}
use Rattle.syn_journal.specs.Batches.{bytes_of_each, with_payloads}
use Rattle.syn_journal.specs.Journal.{Stands}
use Rattle.syn_journal.specs.Layout.{IsBeforeOrAfter, Value}
use Rattle.syn_journal.specs.inner.Commit.{IsBodyOf}
use Rattle.syn_journal.proofs.Appends.{append_in_step, append_moments, append_whole, many_body}
use Rattle.syn_journal.proofs.Batches.{no_calls}
use Rattle.syn_journal.proofs.Meanings.{has, sizes}
use Rattle.syn_journal.proofs.journal.Journal.append_all.Given.{Over}
use Rattle.syn_journal.proofs.journal.Journal.append_all.Goals as goal
use Rattle.syn_journal.proofs.journal.Journal.append_all.Goals.{After-commit}

pub returns-then-is_empty-clause-calls : goal.returns-then-is_empty-clause-calls
returns-then-is_empty-clause-calls g c =
    let none : length c.args.payloads.now ≡ 0 =
    grind (arith, nat_tests, c.is_empty.ensures, c.if-is_empty.true) in
    no_calls c.args.payloads.now (g.D.Disk.arms c.args.self.now.disk) none

-- what is written behind the gate
all_records : (g : Over) (c : After-commit g) →
    IsBodyOf (bytes_of_each c.args.payloads.now) c.in-Some.size
    (take (length c.deref.result.now - 1) (drop 1 c.deref.result.now))
all_records g c =
    let some : 0 < length c.args.payloads.now =
    grind (arith, nat_tests, c.is_empty.ensures, c.if-is_empty.false) in
    many_body c.args.payloads.now c.in-Some.size c.deref.result.now
    (c.deref.ensures.value ∙ c.in_ok-records.ensures) c.in-Some.ensures.size some

any_moment : (g : Over) (c : After-commit g) (value : Value) → Stands c.args.self.now value →
    LeavesOnly g.D.Disk.moment g.D.Disk.left_since c.args.self.now.disk c.commit.new.disk
    (IsBeforeOrAfter value c.args.self.now.cursor.generation
    (with_payloads value (bytes_of_each c.args.payloads.now)) c.args.self.now.cursor.generation)
any_moment g c value stands =
    append_moments c.args.self.now (bytes_of_each c.args.payloads.now) c.in-Some.size _
    (all_records g c) (omega (arith, c.in-Some.ensures.fits)) value stands c.commit.new.disk
    (rw c.start.ensures at (c.commit.ensures.any_moment stands.durable))

pub returns-in_err-commit-clause-any_moment : goal.returns-in_err-commit-clause-any_moment
returns-in_err-commit-clause-any_moment g c =
    any_moment g (goal.at.returns-in_err-commit-clause-any_moment g c).After-commit

pub returns-clause-any_moment : goal.returns-clause-any_moment
returns-clause-any_moment g c = any_moment g (goal.at.returns-clause-any_moment g c).After-commit

-- and then the payloads are on the disk
pub returns-clause-acknowledged : goal.returns-clause-acknowledged
returns-clause-acknowledged g c value stands =
    let journal = c.args.self.now in
    let after = g.D.Disk.seen c.commit.new.disk in
    let next = journal.cursor.gate + c.in-Some.size in
    let whole = append_whole journal (bytes_of_each c.args.payloads.now) c.in-Some.size _
    (all_records g (goal.at.returns-clause-acknowledged g c).After-commit)
    (omega (arith, c.in-Some.ensures.fits)) value stands after
    (rw c.start.ensures at c.in_ok-commit.ensures.written) in
    record {
      running = refl;
      holds = has after journal.cursor.half journal.cursor.generation next _ whole;
      durable = c.in_ok-commit.ensures.durable;
      gate = sizes after journal.cursor.half journal.cursor.generation next _ whole;
    }

pub invariant_of-self-3 : goal.invariant_of-self-3
invariant_of-self-3 g c = record {
  in_step =
      λ _. append_in_step c.args.self.now (bytes_of_each c.args.payloads.now) c.in-Some.size _
      (all_records g (goal.at.invariant_of-self-3 g c).After-commit)
      (omega (arith, c.in-Some.ensures.fits)) c.if-self.false c.commit.new.disk
      (rw c.start.ensures at c.in_ok-commit.ensures.written) c.in_ok-commit.ensures.durable _;
}
