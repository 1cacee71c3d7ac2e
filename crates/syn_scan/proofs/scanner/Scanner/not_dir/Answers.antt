use Rattle.std.proofs.Common.{◌≡◌, ◌∙◌, true, ap, sym, subst}
use Rattle.std.specs.Prelude.{All}
use Rattle.syn_scan.specs.Found.{is_open}
use Rattle.syn_scan.specs.Asked.{is_out, without}
use Rattle.std.specs.FinMap.{entries}
use Rattle.syn_scan.specs.inner.Kept.{NoneNext}
use Rattle.syn_scan.proofs.FirstLemmas.{passed_after_refusal}
use Rattle.syn_scan.proofs.FoundLemmas.{out_is_open, open_after_refusal}
use Rattle.syn_scan.proofs.ListingLemmas.{out_then}
use Rattle.syn_scan.proofs.scanner.Scanner.not_dir.Goals as goal

pub take_no_directory-requires : goal.take_no_directory-requires
take_no_directory-requires c =
    out_is_open (record { found = c.self.inside.scan; out = c.self.inside.out.items })
    c.args.path.now c.self.invariant.out_open (ap (λ ps. is_out ps c.args.path.now)
    (sym c.deref.ensures.value) ∙ (sym c.is_among.ensures ∙ c.if-not-is_among.false))

pub invariant_of-self-2 : goal.invariant_of-self-2
invariant_of-self-2 c =
    let old = c.self.inside.scan in
    let p = c.args.path.now in
    record {
      out_open =
          subst (All (λ q. is_open c.take_no_directory.new.self q ≡ true)) (sym c.take_back.ensures)
          (out_then old c.take_no_directory.new.self c.self.inside.out.items p
          (λ q other was. ap (λ f. is_open f q) c.in_ok-take_no_directory.ensures.ok
          ∙ open_after_refusal old p c.args.position q other was) c.self.invariant.out_open);
      none_next =
          subst (λ ps. NoneNext c.take_no_directory.new.self ps
          (entries c.take_no_directory.new.self.marks) c.self.inside.passed)
          (sym c.take_back.ensures)
          (subst (λ f. NoneNext f (without c.self.inside.out.items p) (entries f.marks)
          c.self.inside.passed) (sym c.in_ok-take_no_directory.ensures.ok)
          (passed_after_refusal old c.self.inside.out.items p c.args.position
          c.self.inside.passed c.self.invariant.none_next));
    }
