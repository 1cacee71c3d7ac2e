use Rattle.std.proofs.Common.{◌≡◌, Option, Some, None, Bor, option_map, refl, sym, ap, ◌∙◌}
use Rattle.std.specs.Option.{option_copied}
use Rattle.syn_mark.specs.declared.tree.MarkTree.{MarkTree}
use Rattle.syn_tree.specs.Refusals.{refusal_in}
use Rattle.syn_mark.specs.Marks.{or_absent}
use Rattle.syn_mark.specs.Changes.{replace_refusal}
use Rattle.syn_mark.proofs.tree.MarkTree.prepare_replace.Goals as goal

copied : (o : Option (Bor MarkTree)) → option_map (λ m. m.now) o ≡ option_copied o
copied None = refl
copied (Some m) = refl

pub prepare_allowed-requires : goal.prepare_allowed-requires
prepare_allowed-requires c =
    let refusal = replace_refusal c.args.self.now c.args.path.now in
    let same : or_absent (option_map (λ m. m.now) c.as_ref.result) ≡ or_absent c.args.new =
    ap or_absent (copied c.as_ref.result ∙ c.as_ref.ensures.value) in
    ap refusal (sym same) ∙ (sym c.check_replace.ensures ∙ ap refusal_in c.in_ok-check_replace.was)
