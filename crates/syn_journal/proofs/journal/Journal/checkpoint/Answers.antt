use Rattle.std.proofs.Common.{◌≡◌, ◌∙◌, ◌+◌, length, refl, ap, sym, subst, arith}
use Rattle.syn_journal.specs.inner.Commit.{IsNextImage}
use Rattle.syn_journal.specs.Layout.{Value, other_half, image_alone}
use Rattle.syn_journal.specs.inner.Whole.{IsWhole}
use Rattle.syn_journal.proofs.Checkpoints.{twice}
use Rattle.syn_journal.proofs.Meanings.{in_step, has, sizes, stands_whole}
use Rattle.syn_journal.proofs.Moments.{not_written}
use Rattle.syn_model.proofs.ExitLemmas.{match_of_exit}
use Rattle.syn_journal.proofs.journal.Journal.checkpoint.Given.{Over}
use Rattle.syn_journal.proofs.journal.Journal.checkpoint.Goals as goal
use Rattle.syn_journal.proofs.journal.Journal.checkpoint.Goals.{After-replace}

-- what is committed to the other half, where the current one is whole with a value
next_image : (g : Over) (c : After-replace g) (value : Value) →
    IsWhole (g.D.Disk.seen c.args.self.now.disk) c.args.self.now.cursor.half
    c.args.self.now.cursor.generation
    c.args.self.now.cursor.gate value →
    IsNextImage (g.D.Disk.seen c.args.self.now.disk) c.other.result
    c.args.self.now.cursor.generation c.args.self.now.cursor.gate value c.args.image.now
    c.deref.result.now
next_image g c value whole =
    let journal = c.args.self.now in
    let back : other_half c.other.result ≡ journal.cursor.half =
    ap other_half c.other.ensures ∙ twice journal.cursor.half in
    record {
      whole = subst (λ h. IsWhole (g.D.Disk.seen journal.disk) h journal.cursor.generation
          journal.cursor.gate
          value) (sym back) whole;
      spells = c.deref.ensures.value ∙ c.in_ok-body.ensures;
      fits = omega arith;
      numbered = omega arith;
    }

pub returns-in_err-replace-clause-any_moment : goal.returns-in_err-replace-clause-any_moment
returns-in_err-replace-clause-any_moment g c value stands =
    let k = (goal.at.returns-in_err-replace-clause-any_moment g c).After-replace in
    c.replace.ensures.any_moment _ _ value c.args.image.now
    (next_image g k value (stands_whole c.args.self.now value stands))

pub returns-clause-any_moment : goal.returns-clause-any_moment
returns-clause-any_moment g c value stands =
    let k = (goal.at.returns-clause-any_moment g c).After-replace in
    c.replace.ensures.any_moment _ _ value c.args.image.now
    (next_image g k value (stands_whole c.args.self.now value stands))

pub returns-clause-acknowledged : goal.returns-clause-acknowledged
returns-clause-acknowledged g c =
    let generation = c.args.self.now.cursor.generation in
    let image = c.args.image.now in
    let half = c.other.result in
    let k = (goal.at.returns-clause-acknowledged g c).After-replace in
    let whole = (c.in_ok-replace.ensures.written _ _ _ image
    (next_image g k _ (c.args.self.now.in_step c.if-self.false).whole)).0 in
    record {
      running = refl;
      holds = has _ half (generation + 1) (13 + length image) (image_alone image) whole;
      durable = c.in_ok-replace.ensures.durable;
      gate = sizes _ half (generation + 1) (13 + length image) (image_alone image) whole;
    }

pub invariant_of-self-2 : goal.invariant_of-self-2
invariant_of-self-2 g c =
    let image = c.args.image.now in
    let k = (goal.at.invariant_of-self-2 g c).After-replace in
    let written = c.in_ok-replace.ensures.written _ _ _ image
    (next_image g k _ (c.args.self.now.in_step c.if-self.false).whole) in
    record {
      in_step =
          λ _. in_step _ _ _ (image_alone image) written.0 written.1
          c.in_ok-replace.ensures.durable;
    }

pub returns-then-self-clause-any_moment : goal.returns-then-self-clause-any_moment
returns-then-self-clause-any_moment g c value stands =
    not_written g.met.D.Disk.only_now c.args.self.now value stands _ _

pub returns-in_err-body-clause-any_moment : goal.returns-in_err-body-clause-any_moment
returns-in_err-body-clause-any_moment g c value stands =
    not_written g.met.D.Disk.only_now c.args.self.now value stands _ _

pub returns-in_err-body-clause-failures : goal.returns-in_err-body-clause-failures
returns-in_err-body-clause-failures g c =
    match_of_exit c.from_residual.result _ _ _ c.from_residual.ensures.1 refl

pub returns-in_err-body-clause-calls : goal.returns-in_err-body-clause-calls
returns-in_err-body-clause-calls g c =
    match_of_exit c.from_residual.result _ _ _ c.from_residual.ensures.1 refl

pub returns-in_err-replace-clause-failures : goal.returns-in_err-replace-clause-failures
returns-in_err-replace-clause-failures g c =
    match_of_exit c.from_residual-in_err-replace.result _ _ _
    c.from_residual-in_err-replace.ensures.1 c.in_err-replace.ensures.count

pub returns-in_err-replace-clause-calls : goal.returns-in_err-replace-clause-calls
returns-in_err-replace-clause-calls g c =
    match_of_exit c.from_residual-in_err-replace.result _ _ _
    c.from_residual-in_err-replace.ensures.1 c.in_err-replace.ensures.calls
