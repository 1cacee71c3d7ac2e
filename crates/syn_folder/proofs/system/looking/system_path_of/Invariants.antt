use Rattle.std.proofs.Common.{◌≡◌, take, string_bytes}
use Rattle.syn_folder.specs.Looks.{system_path_of}
use Rattle.syn_folder.proofs.system.looking.system_path_of.Given as goal

abbrev pub invariant-loop-name : goal.invariant-loop-name
invariant-loop-name l = string_bytes l.system_path ≡ system_path_of l.root
    (take l.name-index l.names)
