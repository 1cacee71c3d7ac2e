use Rattle.std.proofs.Common.{◌∙◌, ◌++◌, Some, None, ap, map, rules, sym}
use Rattle.std.proofs.lemmas.Iterator.{YieldsList-from_map_by, YieldsList-from_slice}
use Rattle.std.proofs.lemmas.Iterator.Consumers.{YieldsList-from_chain}
use Rattle.std.proofs.lemmas.Result.{IfOk-weaker}
use Rattle.std.proofs.lemmas.Simd.{map-map}
use Rattle.syn_model.specs.Refusal.{Refusal as Cause}
use Rattle.syn_model.specs.Path.{Path}
use Rattle.syn_refusal.specs.Refusals.{cause_of}
use Rattle.syn_refusal.specs.declared.refusal.Refusal.{Refusal}
use Rattle.syn_print.specs.Reports.{Named}
use Rattle.syn_print.specs.inner.Named.{named_of}
use Rattle.syn_print.proofs.CollectLemmas.{read_from_collect}
use Rattle.syn_print.proofs.report.named.named_in.Goals as goal

pub returns : goal.returns
returns c =
    let report = c.args.report.now in
    let conflict : Path → Named = λ path. record { path = path; refused = None } in
    let cause_and_path : Refusal × Path → Cause × Path = λ one. (cause_of one.0, one.1) in
    let refused_at : Cause × Path → Named = λ one. record { path = one.1; refused = Some one.0 } in
    IfOk-weaker c.collect.result _ _
    (λ items told. told ∙ ap (λ more. map conflict report.conflicts.items ++ more)
    (sym (map-map refused_at cause_and_path report.refused.items)))
    (read_from_collect c.collect.result c.collect.ensures.ran
    (YieldsList-from_chain
    (YieldsList-from_map_by _ named_of conflict (YieldsList-from_slice report.conflicts.items cc)
    c.map-conflicts.ensures.closure (λ x r q k. search rules))
    (YieldsList-from_map_by _ named_of (λ one. refused_at (cause_and_path one))
    (YieldsList-from_slice report.refused.items cc) c.map-refused.ensures.closure
    (λ x r q k. search rules))
    c.chain.ensures.first_done c.chain.ensures.second_done))
