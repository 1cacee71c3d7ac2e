use Rattle.std.proofs.Common.{◌≡◌, ◌∙◌, ap, subst, sym, IfSome}
use Rattle.sha2.specs.Sha256.{sha256}
use Rattle.syn_replica.specs.inner.Digests.{digest_beside}
use Rattle.syn_replica.proofs.DigestLemmas.{found_beside, found_right}
use Rattle.syn_replica.proofs.digests.Digests.find.Goals as goal

pub returns-clause-beside : goal.returns-clause-beside
returns-clause-beside c =
    c.copied.ensures ∙ (c.get.ensures.value
    ∙ (found_beside (λ key. key.items) c.args.bytes.now c.self.inside.by_bytes.entries
    ∙ ap (λ files. digest_beside c.args.bytes.now files) c.self.view_is))

pub returns-clause-right : goal.returns-clause-right
returns-clause-right c =
    subst (λ found. IfSome found (λ digest. digest ≡ sha256 c.args.bytes.now))
    (sym (c.copied.ensures ∙ (c.get.ensures.value
    ∙ found_beside (λ key. key.items) c.args.bytes.now c.self.inside.by_bytes.entries)))
    (found_right c.args.bytes.now _ c.self.invariant.right)
