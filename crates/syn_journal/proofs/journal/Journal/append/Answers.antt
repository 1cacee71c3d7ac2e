use Rattle.std.proofs.Common.{◌∙◌, ◌+◌, [], ◌∷◌, length, refl, arith}
use Rattle.syn_disk.specs.Stops.{LeavesOnly}
use Rattle.syn_journal.specs.Journal.{Stands}
use Rattle.syn_journal.specs.Layout.{IsBeforeOrAfter, Value, with_payload}
use Rattle.syn_journal.specs.inner.Commit.{IsBodyOf}
use Rattle.syn_journal.proofs.Moments.{not_written}
use Rattle.syn_journal.proofs.Appends.{append_in_step, append_moments, append_whole, one_body}
use Rattle.syn_journal.proofs.Meanings.{has, sizes}
use Rattle.syn_model.proofs.ExitLemmas.{match_of_exit}
use Rattle.syn_journal.proofs.journal.Journal.append.Given.{Over}
use Rattle.syn_journal.proofs.journal.Journal.append.Goals as goal
use Rattle.syn_journal.proofs.journal.Journal.append.Goals.{After-commit}

-- what is written behind the gate
one_record : (g : Over) (c : After-commit g) →
    IsBodyOf (c.args.payload.now ∷ []) (5 + length c.args.payload.now) c.deref.result.now
one_record g c =
    one_body c.args.payload.now c.deref.result.now (c.deref.ensures.value ∙ c.in_ok-body.ensures)

any_moment : (g : Over) (c : After-commit g) (value : Value) → Stands c.args.self.now value →
    LeavesOnly g.D.Disk.moment g.D.Disk.left_since c.args.self.now.disk c.commit.new.disk
    (IsBeforeOrAfter value c.args.self.now.cursor.generation (with_payload value c.args.payload.now)
    c.args.self.now.cursor.generation)
any_moment g c value stands =
    append_moments c.args.self.now (c.args.payload.now ∷ []) (5 + length c.args.payload.now)
    c.deref.result.now (one_record g c) (omega arith) value stands c.commit.new.disk
    (rw c.start.ensures at (c.commit.ensures.any_moment stands.durable))

pub returns-in_err-commit-clause-any_moment : goal.returns-in_err-commit-clause-any_moment
returns-in_err-commit-clause-any_moment g c =
    any_moment g (goal.at.returns-in_err-commit-clause-any_moment g c).After-commit

pub returns-clause-any_moment : goal.returns-clause-any_moment
returns-clause-any_moment g c = any_moment g (goal.at.returns-clause-any_moment g c).After-commit

-- and then the payload is on the disk
pub returns-clause-acknowledged : goal.returns-clause-acknowledged
returns-clause-acknowledged g c value stands =
    let journal = c.args.self.now in
    let after = g.D.Disk.seen c.commit.new.disk in
    let next = journal.cursor.gate + (5 + length c.args.payload.now) in
    let whole = append_whole journal (c.args.payload.now ∷ []) (5 + length c.args.payload.now)
    c.deref.result.now (one_record g (goal.at.returns-clause-acknowledged g c).After-commit)
    (omega arith) value stands after (rw c.start.ensures at c.in_ok-commit.ensures.written) in
    record {
      running = refl;
      holds = has after journal.cursor.half journal.cursor.generation next _ whole;
      durable = c.in_ok-commit.ensures.durable;
      gate = sizes after journal.cursor.half journal.cursor.generation next _ whole;
    }

pub invariant_of-self-3 : goal.invariant_of-self-3
invariant_of-self-3 g c = record {
  in_step =
      λ _. append_in_step c.args.self.now (c.args.payload.now ∷ [])
      (5 + length c.args.payload.now) c.deref.result.now
      (one_record g (goal.at.invariant_of-self-3 g c).After-commit) (omega arith) c.if-self.false
      c.commit.new.disk (rw c.start.ensures at c.in_ok-commit.ensures.written)
      c.in_ok-commit.ensures.durable _;
}

pub returns-then-self-clause-any_moment : goal.returns-then-self-clause-any_moment
returns-then-self-clause-any_moment g c value stands =
    not_written g.met.D.Disk.only_now c.args.self.now value stands _ _

pub returns-in_err-body-clause-any_moment : goal.returns-in_err-body-clause-any_moment
returns-in_err-body-clause-any_moment g c value stands =
    not_written g.met.D.Disk.only_now c.args.self.now value stands _ _

pub returns-in_err-body-clause-failures : goal.returns-in_err-body-clause-failures
returns-in_err-body-clause-failures g c =
    match_of_exit c.from_residual.result _ _ _ c.from_residual.ensures.1 refl

pub returns-in_err-body-clause-calls : goal.returns-in_err-body-clause-calls
returns-in_err-body-clause-calls g c =
    match_of_exit c.from_residual.result _ _ _ c.from_residual.ensures.1 refl

pub returns-in_err-commit-clause-failures : goal.returns-in_err-commit-clause-failures
returns-in_err-commit-clause-failures g c =
    match_of_exit c.from_residual-in_err-commit.result _ _ _ c.from_residual-in_err-commit.ensures.1
    c.in_err-commit.ensures.count

pub returns-in_err-commit-clause-calls : goal.returns-in_err-commit-clause-calls
returns-in_err-commit-clause-calls g c =
    match_of_exit c.from_residual-in_err-commit.result _ _ _ c.from_residual-in_err-commit.ensures.1
    c.in_err-commit.ensures.calls
