use Rattle.std.proofs.Common.{◌≡◌, ◌<◌, ◌∙◌, ap, arith, inl, inr, refl, subst}
use Rattle.syn_history.specs.Past.{Past}
use Rattle.syn_model.proofs.ExitLemmas.{if_err_of_exit}
use Rattle.syn_model.specs.Image.{Gives}
use Rattle.syn_model.specs.Refusal.{Memory}
use Rattle.syn_replica.specs.ErrorRefusals.{refusal_of}
use Rattle.syn_replica.specs.inner.Memories.{IsUnreadAgain}
use Rattle.syn_replica.specs.Readings.{bytes_of_each}
use Rattle.syn_replica.specs.declared.error.ReplicaError.TheVariants.{Damaged}
use Rattle.syn_replica.proofs.RememberedLemmas.{no_next, own_memory}
use Rattle.syn_replica.proofs.remembered.RememberedState.read_again.Goals as goal

-- ---- it is of another pair

pub returns-then-read-self-clause-unread : goal.returns-then-read-self-clause-unread
returns-then-read-self-clause-unread c =
    let own = c.args.self.now in (
      c.is_long.ensures,
      inr (inr (record {
        pair = c.in_ok-read.read.pair;
        fits = c.in_ok-read.ensures.fits;
        standing = c.in_ok-read.read.standing;
        gives = c.in_ok-read.ensures.gives;
        asked = own.pair;
        wanted_is = refl;
        differ = λ same. let other = c.if-read-self.true in omega (arith, other, same);
      })),
    )

pub returns-then-read-self-clause-own : goal.returns-then-read-self-clause-own
returns-then-read-self-clause-own c given =
    let unread = returns-then-read-self-clause-unread c in
    own_memory c.opening_laws.ensures.one Damaged c.args.self.now c.args.image.now
    (bytes_of_each c.args.payloads.now) unread.0 given unread.1

-- ---- it has fewer events

pub returns-then-position-clause-unread : goal.returns-then-position-clause-unread
returns-then-position-clause-unread c =
    let own = c.args.self.now in
    let pair : c.in_ok-read.read.pair ≡ own.pair =
    (let same = c.if-read-self.false in omega (arith, same)) in (
      c.is_long.ensures,
      inr (inl (record {
        standing = c.in_ok-read.read.standing;
        gives = subst (λ n. Gives n c.args.image.now (bytes_of_each c.args.payloads.now)
            c.in_ok-read.read.standing) pair c.in_ok-read.ensures.gives;
        fewer = subst (λ n. c.in_ok-read.read.standing.position < n)
            (c.position-2.ensures ∙ ap (λ (p : Past). p.position) c.trail-2.ensures)
            (subst (λ n. n < c.position-2.result)
            (c.position.ensures ∙ ap (λ (p : Past). p.position) c.trail.ensures)
            c.if-position.true);
      })),
    )

pub returns-then-position-clause-own : goal.returns-then-position-clause-own
returns-then-position-clause-own c given =
    let unread = returns-then-position-clause-unread c in
    own_memory c.opening_laws.ensures.one Damaged c.args.self.now c.args.image.now
    (bytes_of_each c.args.payloads.now) unread.0 given unread.1

-- ---- nothing was read

pub returns-in_err-read-clause-unread : goal.returns-in_err-read-clause-unread
returns-in_err-read-clause-unread c =
    let e = c.in_err-read.field-0.0 in
    let told = c.in_err-read.ensures in
    let own = c.args.self.now in
    let payloads = bytes_of_each c.args.payloads.now in
    if_err_of_exit c.from_residual.result e
    (λ e. IsUnreadAgain e own c.args.image.now payloads) c.from_residual.ensures.1 (
      c.is_long.ensures,
      no_next e own c.args.image.now payloads told.refusals told.damaged told.other,
    )

pub returns-in_err-read-clause-own : goal.returns-in_err-read-clause-own
returns-in_err-read-clause-own c given =
    let e = c.in_err-read.field-0.0 in
    let told = c.in_err-read.ensures in
    let own = c.args.self.now in
    let payloads = bytes_of_each c.args.payloads.now in
    if_err_of_exit c.from_residual.result e (λ e. refusal_of e ≡ Memory) c.from_residual.ensures.1
    (own_memory c.opening_laws.ensures.one e own c.args.image.now payloads c.is_long.ensures
    given (no_next e own c.args.image.now payloads told.refusals told.damaged told.other))
