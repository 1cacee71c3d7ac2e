use Rattle.std.proofs.Common.{ap, ◌∙◌}
use Rattle.std.specs.FinMap.{from_sorted}
use Rattle.syn_placed.proofs.KeyedLemmas.{none_in_empty}
use Rattle.syn_placed.proofs.key_map.KeyMap.new.Goals as goal

pub returns : goal.returns
returns g c = ap from_sorted c.in_ok-slots.ensures.items ∙ none_in_empty
