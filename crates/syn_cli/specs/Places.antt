-- Where a replica is.
use Rattle.clap.specs.Words.{Text}
use Rattle.syn_cli.specs.declared.command.ReplicaLocation.{ReplicaLocation}
use Rattle.syn_cli.specs.declared.command.ReplicaLocation.TheVariants.{File, Served}

-- the name of the file, or the address of the server
abbrev pub text_of : ReplicaLocation → Text
text_of (File file) = file.now
text_of (Served address) = address.now
