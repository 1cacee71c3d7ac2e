use Rattle.std.proofs.Common.{map, subst}
use Rattle.std.specs.List.Sorted.{IsPermutation}
use Rattle.std.proofs.lemmas.List.Sorted.{IsPermutation-map}
use Rattle.syn_folder.proofs.system.listing.names_in.Goals as goal

pub returns : goal.returns
returns c =
    subst (λ all. IsPermutation all (map (λ n. n.now) c.sort.new.self.items))
    c.in_ok-names.ensures
    (IsPermutation-map (λ n. n.now) _ _ c.sort.ensures.permutation)
