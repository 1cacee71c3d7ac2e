use Rattle.std.proofs.Common.{◌∙◌, sym, true≢false}
use Rattle.std.proofs.lemmas.Result.{err_from_is_err_and}
use Rattle.syn_archive.specs.inner.Openings.{archive_read, bytes_of_each}
use Rattle.syn_archive.proofs.MeaningLemmas.{unread}
use Rattle.syn_archive.proofs.opening.read_wanted.Goals as goal

pub returns-in_err-read-clause-unread : goal.returns-in_err-read-clause-unread
returns-in_err-read-clause-unread c =
    let p = err_from_is_err_and c.from_residual.result c.from_residual.ensures.1 in
    rw (p.1, p.2) (unread _ c.args.wanted c.args.image.now (bytes_of_each c.args.payloads.now)
    (λ old. true≢false (sym (c.is_old_archive.ensures.1 old) ∙ c.if-is_old_archive.false))
    c.in_err-read.ensures.refusals c.in_err-read.ensures.damaged)

pub returns-then-is_other_pair-clause-unread : goal.returns-then-is_other_pair-clause-unread
returns-then-is_other_pair-clause-unread c =
    let asked = c.is_other_pair.ensures.other c.if-is_other_pair.true in
    record {
      pair = c.in_ok-read.read.pair;
      fits = c.in_ok-read.ensures.fits;
      archive = archive_read c.in_ok-read.read;
      stands = c.in_ok-read.ensures.stands;
      asked = asked.0;
      wanted_is = asked.1;
      differ = asked.2;
    }
