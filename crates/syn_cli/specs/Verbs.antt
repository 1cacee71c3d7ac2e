-- The commands of the program and their values, with the words that name them.
use Rattle.std.specs.Prelude.{List, [], ◌∷◌, codes}
use Rattle.clap.specs.Words.{Text}
use Rattle.syn_cli.specs.declared.command.EditKind.{EditKind}
use Rattle.syn_cli.specs.declared.command.EditKind.TheVariants as kind
use Rattle.syn_cli.specs.declared.value.ValueName.{ValueName}
use Rattle.syn_cli.specs.declared.value.ValueName.TheVariants.{Command, Kind, Pair, User, File}
use Rattle.syn_cli.specs.declared.value.ValueName.TheVariants.{Path, Folder, Address, Connections}
use Rattle.syn_cli.specs.declared.value.ValueName.TheVariants.{Lines, Archive, Left, Right}
use Rattle.syn_cli.specs.declared.value.ValueName.TheVariants.{Mode, Script, Preference}
use Rattle.syn_cli.specs.declared.value.ValueName.TheVariants.{FolderPreference, Seconds, After}
use Rattle.syn_cli.specs.declared.verb.Verb.{Verb}
use Rattle.syn_cli.specs.declared.verb.Verb.TheVariants.{Format, Put, MakeDir, Remove, Chmod}
use Rattle.syn_cli.specs.declared.verb.Verb.TheVariants.{Show, Reconcile}
use Rattle.syn_cli.specs.declared.verb.Verb.TheVariants.{Check, Migrate, Log, Export, Import}
use Rattle.syn_cli.specs.declared.verb.Verb.TheVariants.{Serve, Sync, Run, Plan, Simulate}

-- the word of a command
abbrev pub word_of : Verb → Text
word_of Format = codes "format"
word_of Put = codes "put"
word_of MakeDir = codes "mkdir"
word_of Remove = codes "rm"
word_of Chmod = codes "chmod"
word_of Show = codes "show"
word_of Check = codes "check"
word_of Migrate = codes "migrate"
word_of Log = codes "log"
word_of Export = codes "export"
word_of Import = codes "import"
word_of Reconcile = codes "reconcile"
word_of Serve = codes "serve"
word_of Sync = codes "sync"
word_of Run = codes "run"
word_of Plan = codes "plan"
word_of Simulate = codes "simulate"

-- all commands
abbrev pub verbs : List Verb
verbs = Format ∷ Put ∷ MakeDir ∷ Remove ∷ Chmod ∷ Show ∷ Check ∷ Migrate ∷ Log ∷ Export ∷ Import
    ∷ Reconcile ∷ Serve ∷ Sync ∷ Run ∷ Plan ∷ Simulate ∷ []

-- the id of a value for `clap`
abbrev pub name_of : ValueName → Text
name_of Command = codes "COMMAND"
name_of Kind = codes "KIND"
name_of Pair = codes "PAIR"
name_of User = codes "USER"
name_of File = codes "FILE"
name_of Path = codes "PATH"
name_of Mode = codes "MODE"
name_of Folder = codes "DIR"
name_of Address = codes "ADDR"
name_of Connections = codes "N"
name_of Seconds = codes "SECONDS"
name_of Lines = codes "N"
name_of Archive = codes "ARCHIVE"
name_of Left = codes "LEFT"
name_of Right = codes "RIGHT"
name_of Script = codes "SCRIPT"
name_of Preference = codes "SIDE"
name_of FolderPreference = codes "SIDE"
name_of After = codes "AFTER"

-- the values that a command requires, in their order
abbrev pub values_of : Verb → List ValueName
values_of Format = Kind ∷ Pair ∷ File ∷ []
values_of Put = File ∷ User ∷ Path ∷ []
values_of MakeDir = File ∷ User ∷ Path ∷ []
values_of Remove = File ∷ User ∷ Path ∷ []
values_of Chmod = File ∷ User ∷ Path ∷ Mode ∷ []
values_of Show = File ∷ []
values_of Check = File ∷ []
values_of Migrate = File ∷ []
values_of Log = File ∷ []
values_of Export = File ∷ Folder ∷ []
values_of Import = File ∷ User ∷ Folder ∷ []
values_of Reconcile = Folder ∷ File ∷ User ∷ []
values_of Serve = File ∷ Address ∷ []
values_of Sync = Archive ∷ Left ∷ Right ∷ []
values_of Run = Left ∷ Right ∷ Archive ∷ []
values_of Plan = Left ∷ Right ∷ Archive ∷ []
values_of Simulate = Script ∷ []

-- the command of an edit
abbrev pub edit_verb : EditKind → Verb
edit_verb kind.Put = Put
edit_verb kind.MakeDir = MakeDir
edit_verb kind.Remove = Remove
edit_verb (kind.Chmod mode) = Chmod
