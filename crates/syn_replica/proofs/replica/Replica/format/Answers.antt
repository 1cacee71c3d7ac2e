use Rattle.std.proofs.Common.{[], ap, sym, ◌∙◌, subst}
use Rattle.syn_journal.specs.Journal as journal
use Rattle.syn_journal.specs.Layout.{image_alone}
use Rattle.syn_model.specs.Image.{StandsFor, image_spelling}
use Rattle.syn_model.specs.Standing.{new_standing}
use Rattle.syn_replica.proofs.FormattedLemmas.{nothing_yet}
use Rattle.syn_replica.proofs.replica.Replica.format.Goals as goal

pub returns-clause-formatted : goal.returns-clause-formatted
returns-clause-formatted g c =
    let machine = c.in_ok-journaled.journaled in
    let pair = c.args.pair in
    let image = image_spelling pair new_standing in
    record {
      remembers = record {
        lawful = tt;
        standing = ap (λ m. m.standing) c.in_ok-journaled.ensures.state
            ∙ (c.in-Ok.ensures.ok ∙ nothing_yet);
      };
      value = image_alone image;
      runs = subst (λ s. journal.Stands machine.journal (image_alone (image_spelling pair s)))
          c.in-Ok.ensures.ok c.in_ok-journaled.ensures.formatted;
      means = subst (λ n. StandsFor n image [] [])
          (sym (ap (λ m. m.pair) c.in_ok-journaled.ensures.state))
          (c.history_laws.ensures.formatted pair);
    }
