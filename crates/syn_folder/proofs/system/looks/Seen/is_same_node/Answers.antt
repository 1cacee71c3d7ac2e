use Rattle.std.proofs.Common.{sym, ◌∙◌}
use Rattle.syn_folder.proofs.WalkLemmas.{same_names}
use Rattle.syn_folder.proofs.system.looks.Seen.is_same_node.Goals as goal

pub returns-then-eq : goal.returns-then-eq
returns-then-eq c same = (
  same_names c.args.self.now.path c.args.other.now.path (sym c.eq.ensures ∙ c.if-eq.true),
  c.is_same_node.ensures same,
)
