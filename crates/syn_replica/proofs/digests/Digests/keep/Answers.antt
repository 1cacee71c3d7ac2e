use Rattle.std.proofs.Common.{◌≡◌, ◌∙◌, ap, sym, subst, arith, length, inr}
use Rattle.std.specs.List.{AllByRecursion}
use Rattle.sha2.specs.Sha256.{sha256}
use Rattle.syn_replica.specs.inner.Digests.{IsRight, digest_beside, size_of}
use Rattle.syn_replica.proofs.DigestLemmas.{found_beside, kept_right, kept_size, files_of}
use Rattle.syn_replica.proofs.digests.Digests.keep.Goals as goal

pub invariant_of-self-2 : goal.invariant_of-self-2
invariant_of-self-2 c =
    let old = c.self.inside.by_bytes.entries in
    let is = c.self.invariant in
    let copy = c.in_ok-copy.copy in
    let same : copy.items ≡ c.args.bytes.now = c.in_ok-copy.ensures.items in
    let made = c.in_ok-insert.ensures.entries in
    record {
      right = subst (λ es. AllByRecursion IsRight (files_of (λ key. key.items) es)) (sym made)
          (kept_right (λ key. key.items) old copy c.args.digest is.right
          (c.requires ∙ ap sha256 (sym same)));
      size =
          omega (
            arith,
            ap (λ es. size_of (files_of (λ key. key.items) es)) made,
            kept_size (λ key. key.items) old copy c.args.digest,
            is.size,
            ap length same,
          );
      bytes = omega (arith, c.if-bytes-self.false, is.bytes);
      files =
          grind (
            arith,
            c.in_ok-insert.ensures.len,
            c.if-len-ge-MOST_FILES.false,
            c.len.ensures.len,
          );
    }

pub returns-clause-kept : goal.returns-clause-kept
returns-clause-kept c =
    let same : c.in_ok-copy.copy.items ≡ c.args.bytes.now = c.in_ok-copy.ensures.items in
    let entries = c.insert.new.self.entries in
    inr (ap (λ bytes. digest_beside bytes (files_of (λ key. key.items) entries)) (sym same)
    ∙ (sym (found_beside (λ key. key.items) c.in_ok-copy.copy.items entries)
    ∙ c.in_ok-insert.ensures.updates.1))
