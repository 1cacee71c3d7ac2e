use Rattle.std.proofs.Common.{◌∙◌, [], refl, arith}
use Rattle.std.proofs.lemmas.List.Elements.{All-nil}
use Rattle.syn_model.specs.Path.{IsName, IsPath}
use Rattle.syn_path.proofs.DerivedKeyLemmas.{is_spelling}
use Rattle.syn_path.proofs.KeyLemmas.{names_of-key}
use Rattle.syn_path.proofs.key.Key.root.Goals as goal

root_is_path : IsPath []
root_is_path = record {
  names = All-nil IsName;
  not_deep = omega arith;
  not_long = omega arith;
}

pub of_bytes-requires : goal.of_bytes-requires
of_bytes-requires c = is_spelling [] [] 0 root_is_path refl refl

pub returns : goal.returns
returns c = c.of_bytes.ensures ∙ names_of-key [] [] root_is_path refl
