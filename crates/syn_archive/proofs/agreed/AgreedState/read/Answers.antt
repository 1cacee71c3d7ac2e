use Rattle.std.proofs.Common.{◌∙◌, sym}
use Rattle.syn_model.specs.Version.{current_version}
use Rattle.syn_archive.specs.inner.Agreements.{agreed_of}
use Rattle.syn_archive.specs.inner.Openings.{bytes_of_each}
use Rattle.syn_archive.proofs.MeaningLemmas.{one_given}
use Rattle.syn_archive.proofs.agreed.AgreedState.read.Goals as goal

pub returns-clause-one : goal.returns-clause-one
returns-clause-one c other fits given =
    one_given c.opening_laws.ensures.one current_version c.args.image.now
    (bytes_of_each c.args.payloads.now) other (agreed_of c.in_ok-read.read) fits
    c.in_ok-read.ensures.fits given c.in_ok-read.ensures.stands ∙ sym c.from.ensures
