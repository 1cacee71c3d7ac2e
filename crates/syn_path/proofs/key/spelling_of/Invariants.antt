use Rattle.std.proofs.Common.{◌≡◌, ◌++◌, ◌-◌, take, length, replicate}
use Rattle.syn_model.specs.Path.{path_key, parent}
use Rattle.syn_path.proofs.key.spelling_of.Given as goal

abbrev pub invariant-loop-name : goal.invariant-loop-name
invariant-loop-name l = record {
  bytes : l.bytes ≡ path_key (take l.name-index l.names) ++ replicate (255 - l.len) 0;
  len : l.len ≡ length (path_key (take l.name-index l.names));
  start : l.start ≡ length (path_key (parent (take l.name-index l.names)));
}
