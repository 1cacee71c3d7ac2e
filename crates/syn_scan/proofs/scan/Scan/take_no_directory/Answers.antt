use Rattle.std.proofs.Common.{◌≡◌, ap, ◌∙◌, subst, sym}
use Rattle.std.specs.FinMap.{insert}
use Rattle.syn_scan.specs.Found.{IsFound, is_open}
use Rattle.syn_scan.specs.Asked.{with_no_directory}
use Rattle.syn_scan.proofs.FoundLemmas.{found_of, refused_is_found}
use Rattle.syn_scan.proofs.scan.Scan.take_no_directory.Goals as goal

pub invariant_of-self-2 : goal.invariant_of-self-2
invariant_of-self-2 c =
    let old = found_of c.self.inside in
    let p = c.args.path.now in
    let not_dirs = c.in_ok-insert.ensures.ok
    ∙ ap (λ q. insert old.not_dirs q c.args.position) c.in_ok-copy.ensures in
    let same : record old { not_dirs = c.insert.new.self }
    ≡ with_no_directory old p c.args.position = λ i. record old { not_dirs = not_dirs i } in
    subst IsFound (sym same) (refused_is_found old p c.args.position c.self.invariant
    (ap (λ f. is_open f p) c.self.view_is ∙ c.requires))
