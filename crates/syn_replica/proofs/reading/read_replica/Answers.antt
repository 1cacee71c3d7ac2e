use Rattle.std.proofs.Common.{subst, sym}
use Rattle.std.proofs.lemmas.Result.{err_from_is_err_and}
use Rattle.syn_model.specs.Standing.{AllAllowedIn}
use Rattle.syn_wire.specs.Versions.{version_of}
use Rattle.syn_replica.specs.Readings.{IsImageOf, bytes_of_each}
use Rattle.syn_replica.proofs.ReadingLemmas.{gives_of, same_image, memory_else}
use Rattle.syn_replica.proofs.RememberedLemmas.{same_memory}
use Rattle.syn_model.proofs.SoundStandings.{stays_sound}
use Rattle.syn_replica.proofs.reading.read_replica.Goals as goal

pub returns-then-is_other_pair-clause-other : goal.returns-then-is_other_pair-clause-other
returns-then-is_other_pair-clause-other c other =
    let is = subst (IsImageOf (version_of c.args.version) c.args.image.now
    c.in_ok-pair.field-0.pair) (sym c.of-first.ensures) c.in_ok-pair.ensures.read in
    let asked = c.is_other_pair.ensures.other c.if-is_other_pair.true in
    record {
      pair = c.in_ok-pair.field-0.pair;
      fits = is.fits;
      standing = c.in_ok-standing.standing;
      gives =
          gives_of (version_of c.args.version) c.args.image.now (bytes_of_each c.args.payloads.now)
          c.in_ok-pair.field-0.pair c.of-first.result c.in_ok-standing.standing is
          c.in_ok-standing.ensures.replays;
      asked = asked.0;
      wanted_is = asked.1;
      differ = asked.2;
    }

pub returns-in_err-standing-clause-damaged : goal.returns-in_err-standing-clause-damaged
returns-in_err-standing-clause-damaged c =
    let p = err_from_is_err_and c.from_residual-in_err-standing.result
    c.from_residual-in_err-standing.ensures.1 in
    let is = subst (IsImageOf (version_of c.args.version) c.args.image.now
    c.in_ok-pair.field-0.pair) (sym c.of-first.ensures) c.in_ok-pair.ensures.read in
    let image = c.args.image.now in
    rw (p.1, p.2) (λ damaged pair standing fits gives.
    let same = same_image c.opening_laws.ensures.one (version_of c.args.version) image pair
    c.in_ok-pair.field-0.pair gives.first c.of-first.result
    (record { fits = fits; sound = gives.sound; spelled = gives.image_is }) is in
    c.in_err-standing.ensures.damaged damaged gives.events
    (subst (λ s. AllAllowedIn (version_of c.args.version) s gives.events) same gives.allowed)
    gives.payloads_are)

pub returns-clause-one : goal.returns-clause-one
returns-clause-one c other fits gives =
    let is = subst (IsImageOf (version_of c.args.version) c.args.image.now
    c.in_ok-pair.field-0.pair) (sym c.of-first.ensures) c.in_ok-pair.ensures.read in
    let version = version_of c.args.version in
    let payloads = bytes_of_each c.args.payloads.now in
    let same = c.opening_laws.ensures.one version c.args.image.now payloads other.pair
    c.in_ok-pair.field-0.pair other.standing c.in_ok-standing.standing fits is.fits gives
    (gives_of version c.args.image.now payloads c.in_ok-pair.field-0.pair c.of-first.result
    c.in_ok-standing.standing is c.in_ok-standing.ensures.replays) in
    same_memory other _ same.0 same.1

pub returns-in_err-standing-clause-wrong_pair : goal.returns-in_err-standing-clause-wrong_pair
returns-in_err-standing-clause-wrong_pair c other =
    let p = err_from_is_err_and c.from_residual-in_err-standing.result
    c.from_residual-in_err-standing.ensures.1 in
    let is = subst (IsImageOf (version_of c.args.version) c.args.image.now
    c.in_ok-pair.field-0.pair) (sym c.of-first.ensures) c.in_ok-pair.ensures.read in
    let gives = other.gives in
    let same = same_image c.opening_laws.ensures.one (version_of c.args.version) c.args.image.now
    other.pair c.in_ok-pair.field-0.pair gives.first c.of-first.result
    (record { fits = other.fits; sound = gives.sound; spelled = gives.image_is }) is in
    rw (p.1, p.2) (memory_else c.in_err-standing.field-0.0 c.in_err-standing.ensures.refusals
    (λ damaged. c.in_err-standing.ensures.damaged damaged gives.events
    (subst (λ s. AllAllowedIn (version_of c.args.version) s gives.events) same gives.allowed)
    gives.payloads_are))

pub returns-clause-sound : goal.returns-clause-sound
returns-clause-sound c =
    let is = subst (IsImageOf (version_of c.args.version) c.args.image.now
    c.in_ok-pair.field-0.pair) (sym c.of-first.ensures) c.in_ok-pair.ensures.read in
    let replays = c.in_ok-standing.ensures.replays in
    stays_sound (version_of c.args.version) c.of-first.result c.in_ok-standing.standing
    replays.events is.sound replays.allowed replays.gives c.is_whole.ensures.tree
    c.is_whole.ensures.fits

pub returns-clause-gives : goal.returns-clause-gives
returns-clause-gives c =
    let is = subst (IsImageOf (version_of c.args.version) c.args.image.now
    c.in_ok-pair.field-0.pair) (sym c.of-first.ensures) c.in_ok-pair.ensures.read in
    gives_of (version_of c.args.version) c.args.image.now (bytes_of_each c.args.payloads.now)
    c.in_ok-pair.field-0.pair c.of-first.result c.in_ok-standing.standing is
    c.in_ok-standing.ensures.replays
