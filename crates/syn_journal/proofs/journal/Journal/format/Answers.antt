use Rattle.std.proofs.Common.{◌≡◌, ◌∙◌, ◌+◌, ◌≤◌, length, refl, arith}
use Rattle.syn_journal.specs.inner.Commit.{body_of_image}
use Rattle.syn_journal.specs.declared.half.Half.TheVariants.{First}
use Rattle.syn_journal.specs.Layout.{longest_image}
use Rattle.syn_journal.proofs.Meanings.{in_step, has, sizes}
use Rattle.syn_journal.proofs.journal.Journal.format.Goals as goal

pub invariant_of-result-in-Ok-write_image : goal.invariant_of-result-in-Ok-write_image
invariant_of-result-in-Ok-write_image g c =
    let image = c.args.image.now in
    let fits : length image ≤ longest_image = omega arith in
    let spells : c.deref.result.now ≡ body_of_image 1 image = c.deref.ensures.value
    ∙ c.in-Ok.ensures in
    let whole = c.in-Ok-write_image.ensures.written image fits spells in
    record {
      in_step = λ _. in_step _ _ _ _ whole c.in-Ok-write_image.ensures.other
          c.in-Ok-write_image.ensures.durable;
    }

pub returns-in-Ok-write_image-clause-formatted : goal.returns-in-Ok-write_image-clause-formatted
returns-in-Ok-write_image-clause-formatted g c =
    let image = c.args.image.now in
    let fits : length image ≤ longest_image = omega arith in
    let spells : c.deref.result.now ≡ body_of_image 1 image = c.deref.ensures.value
    ∙ c.in-Ok.ensures in
    let whole = c.in-Ok-write_image.ensures.written image fits spells in
    record {
      running = refl;
      holds = has _ First 1 (13 + length image) _ whole;
      durable = c.in-Ok-write_image.ensures.durable;
      gate = sizes _ First 1 (13 + length image) _ whole;
    }
