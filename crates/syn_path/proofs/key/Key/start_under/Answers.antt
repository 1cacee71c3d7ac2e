use Rattle.std.proofs.Common.{◌∙◌, ap, ap₂, ◌+◌, sym, length}
use Rattle.syn_model.specs.Path.{path_key}
use Rattle.syn_path.proofs.DerivedKeyLemmas.{start_at_root, start_below}
use Rattle.syn_path.proofs.key.Key.start_under.Goals as goal

pub returns-then-is_root : goal.returns-then-is_root
returns-then-is_root c =
    ap length c.above.ensures.bytes
    ∙ sym (ap (λ q. length (path_key q)) (start_at_root c.args.above.now c.args.self.now
    (sym c.is_root.ensures.root ∙ c.if-is_root.true)))

pub returns-else-is_root : goal.returns-else-is_root
returns-else-is_root c =
    ap₂ (λ a b. length a + length b) c.spelled.ensures.bytes c.above-else-is_root.ensures.bytes
    ∙ sym (start_below c.args.above.now c.args.self.now
    (sym c.is_root.ensures.root ∙ c.if-is_root.false))
