-- What a command and its values say of the words.
use Rattle.std.specs.Prelude.{◌≡◌, ◌≢◌, ◌⊎◌, ◌↔◌, ◌<◌, ◌^◌, ℕ, List, [], ◌∷◌, Option, Some, None}
use Rattle.std.specs.Prelude.{IsTrue, codes}
use Rattle.std.specs.Borrow.{Bor}
use Rattle.std.specs.Str.Parse.{IsNumeral, digits_value}
use Rattle.clap.specs.Words.{IsAmong, Row, Text, all_of, fault_of, first_of, kind_of, matches_of}
use Rattle.clap.specs.Words.{subcommand_of}
use Rattle.clap.specs.declared.error.Error.{Error}
use Rattle.clap.specs.declared.error.kind.ErrorKind.TheVariants.{DisplayHelp, DisplayVersion}
use Rattle.syn_path.specs.declared.side.Side.{Side}
use Rattle.syn_path.specs.declared.side.Side.TheVariants as side
use Rattle.syn_tree.specs.Modes.{mode_digits, mode_of}
use Rattle.syn_tree.specs.declared.mode.Mode.{Mode}
use Rattle.syn_cli.specs.App.{syn_app}
use Rattle.syn_cli.specs.Verbs.{edit_verb, name_of, values_of, word_of}
use Rattle.syn_cli.specs.declared.error.WordsError.{WordsError}
use Rattle.syn_cli.specs.declared.error.WordsError.TheVariants.{Usage, Value, Memory}
use Rattle.syn_cli.specs.declared.command.Between.{Between}
use Rattle.syn_cli.specs.declared.command.Between.TheVariants.{Files, Servers}
use Rattle.syn_cli.specs.declared.command.EditKind.{EditKind}
use Rattle.syn_cli.specs.declared.command.EditKind.TheVariants as kind
use Rattle.syn_cli.specs.declared.command.Existing.{Existing}
use Rattle.syn_cli.specs.declared.command.Existing.TheVariants.{Refused, Updated, Mirrored}
use Rattle.syn_cli.specs.declared.command.FormatCommand.{FormatCommand}
use Rattle.syn_cli.specs.declared.command.ImageKind.{ImageKind}
use Rattle.syn_cli.specs.declared.command.ImageKind.TheVariants.{Replica, Archive}
use Rattle.syn_cli.specs.declared.command.ImageCommand.{ImageCommand}
use Rattle.syn_cli.specs.declared.command.ImageCommand.TheVariants as image
use Rattle.syn_cli.specs.declared.command.KeepCommand.{KeepCommand}
use Rattle.syn_cli.specs.declared.command.OnStranger.{OnStranger}
use Rattle.syn_cli.specs.declared.command.OnStranger.TheVariants.{Refuse, Skip}
use Rattle.syn_cli.specs.declared.command.Command.{Command}
use Rattle.syn_cli.specs.declared.command.Command.TheVariants as command
use Rattle.syn_cli.specs.declared.command.Pairing.{Pairing}
use Rattle.syn_cli.specs.declared.command.ReconcileCommand.{ReconcileCommand}
use Rattle.syn_cli.specs.declared.command.FolderCommand.{FolderCommand}
use Rattle.syn_cli.specs.declared.command.ReplicaLocation.{ReplicaLocation}
use Rattle.syn_cli.specs.declared.command.ReplicaLocation.TheVariants as location
use Rattle.syn_cli.specs.declared.command.ServeCommand.{ServeCommand}
use Rattle.syn_cli.specs.declared.value.ValueName.{ValueName}
use Rattle.syn_cli.specs.declared.value.ValueName.TheVariants as value
use Rattle.syn_cli.specs.declared.verb.Verb.{Verb}
use Rattle.syn_cli.specs.declared.verb.Verb.TheVariants as verb

-- the text is decimal digits that spell n, a number of so many bits
pub record IsNumber (bits : ℕ) (text : Text) (n : ℕ) : Type 0 where
  pub digits : IsNumeral 10 text
  pub value : digits_value 10 text ≡ n
  pub fits : n < 2 ^ bits

-- the text given for an id
abbrev pub HasText : List Row → Text → Text → Type 0
HasText rows id text = first_of id rows ≡ Some text

-- the number given for an id
abbrev pub HasNumber : ℕ → List Row → Text → ℕ → Type 0
HasNumber bits rows id n = (text : Text) × HasText rows id text × IsNumber bits text n

-- the number given for an id, or none where nothing is given
abbrev pub MayHaveNumber : ℕ → List Row → Text → Option ℕ → Type 0
MayHaveNumber bits rows id None = first_of id rows ≡ None
MayHaveNumber bits rows id (Some n) = HasNumber bits rows id n

-- the flag is used: `clap` then gives its id this text
abbrev pub IsSet : List Row → Text → Type 0
IsSet rows id = HasText rows id (codes "true")

-- a file, or with the flag the address of a server in its place
abbrev pub HasLocation : List Row → ReplicaLocation → Type 0
HasLocation rows (location.File file) =
    HasText rows (name_of value.File) file.now × ¬ IsSet rows (codes "served")
HasLocation rows (location.Served address) =
    HasText rows (name_of value.File) address.now × IsSet rows (codes "served")

-- the text given for an id, or none where nothing is given
abbrev pub MayHaveText : List Row → Text → Option (Bor Text) → Type 0
MayHaveText rows id None = first_of id rows ≡ None
MayHaveText rows id (Some text) = HasText rows id text.now

-- the two texts given for an id, in their order
abbrev pub HasTwo : List Row → Text → Text → Text → Type 0
HasTwo rows id one other = all_of id rows ≡ Some (one ∷ other ∷ [])

-- the two texts given for an id, or none where nothing is given
abbrev pub MayHaveTwo : List Row → Text → Option (Bor Text × Bor Text) → Type 0
MayHaveTwo rows id None = all_of id rows ≡ None
MayHaveTwo rows id (Some two) = HasTwo rows id two.0.now two.1.now

-- texts are given for the id, but not two
abbrev pub AreOtherThanTwo : List Row → Text → Type 0
AreOtherThanTwo rows id =
    (all_of id rows ≢ None) × ((one other : Text) → ¬ HasTwo rows id one other)

-- what the flags of an export ask of a folder that has something
abbrev pub HasExisting : List Row → Existing → Type 0
HasExisting rows Refused = ¬ IsSet rows (codes "delete") × ¬ IsSet rows (codes "update")
HasExisting rows Updated = ¬ IsSet rows (codes "delete") × IsSet rows (codes "update")
HasExisting rows Mirrored = IsSet rows (codes "delete")

-- what the flag of an import asks of what can stand in no replica
abbrev pub HasOnStranger : List Row → OnStranger → Type 0
HasOnStranger rows Refuse = ¬ IsSet rows (codes "skip")
HasOnStranger rows Skip = IsSet rows (codes "skip")

-- the word of a kind
abbrev pub kind_word : ImageKind → Text
kind_word Replica = codes "replica"
kind_word Archive = codes "archive"

-- the word of a side
abbrev pub side_word : Side → Text
side_word side.Left = codes "left"
side_word side.Right = codes "right"

-- the side given as the preferred one, or none where nothing is given
abbrev pub MayHaveSide : List Row → Option Side → Type 0
MayHaveSide rows None = first_of (name_of value.Preference) rows ≡ None
MayHaveSide rows (Some preferred) =
    HasText rows (name_of value.Preference) (side_word preferred)

-- the word of a folder, as the left side, and of its replica, as the right one
abbrev pub folder_side_word : Side → Text
folder_side_word side.Left = codes "folder"
folder_side_word side.Right = codes "replica"

-- the one of both that is preferred, or none where nothing is given
abbrev pub MayHaveFolderSide : List Row → Option Side → Type 0
MayHaveFolderSide rows None = first_of (name_of value.FolderPreference) rows ≡ None
MayHaveFolderSide rows (Some preferred) =
    HasText rows (name_of value.FolderPreference) (folder_side_word preferred)

-- the mode that an edit gives a file is the one that is given
abbrev pub HasMode : List Row → EditKind → Type 0
HasMode rows (kind.Chmod mode) = HasText rows (name_of value.Mode) (mode_digits (mode_of mode))
HasMode rows _ = Unit {0}

-- the command runs or plans a session, which may prefer a side
abbrev pub TakesPreference : Verb → Type 0
TakesPreference verb.Sync = Unit {0}
TakesPreference verb.Run = Unit {0}
TakesPreference verb.Plan = Unit {0}
TakesPreference _ = ⊥

-- the command looks again after so many seconds
abbrev pub TakesSeconds : Verb → Type 0
TakesSeconds verb.Sync = Unit {0}
TakesSeconds verb.Serve = Unit {0}
TakesSeconds _ = ⊥

-- the verb of a command about an image
abbrev pub image_verb : ImageCommand → Verb
image_verb (image.Format asked) = verb.Format
image_verb (image.Show location) = verb.Show
image_verb (image.ShowPath location path) = verb.Show
image_verb (image.Check file) = verb.Check
image_verb (image.Migrate file) = verb.Migrate
image_verb (image.Log file lines) = verb.Log

-- the command that runs a session
abbrev pub session_verb : Between → Verb
session_verb (Files left right) = verb.Run
session_verb (Servers left right) = verb.Sync

-- the verb of a command
abbrev pub verb_of : Command → Verb
verb_of (command.Image about) = image_verb about
verb_of (command.Edit edit) = edit_verb edit.kind
verb_of (command.Export exported) = verb.Export
verb_of (command.Import imported) = verb.Import
verb_of (command.Reconcile reconciled) = verb.Reconcile
verb_of (command.Serve served) = verb.Serve
verb_of (command.Session pairing) = session_verb pairing.between
verb_of (command.Keep kept) = verb.Sync
verb_of (command.Plan pairing) = verb.Plan
verb_of (command.Simulate script is_traced) = verb.Simulate

-- the text of each side, the name of a file or the address of a server
abbrev pub left_of : Between → Text
left_of (Files left right) = left.now
left_of (Servers left right) = left.now

abbrev pub right_of : Between → Text
right_of (Files left right) = right.now
right_of (Servers left right) = right.now

-- servers are asked exactly where the flag is used
abbrev pub AreServed : List Row → Between → Type 0
AreServed rows (Files left right) = ¬ IsSet rows (codes "served")
AreServed rows (Servers left right) = IsSet rows (codes "served")

-- the two replicas after which an archive goes on, the left one first, are those that are given; or
-- none where none are given, and then no server is asked either
abbrev pub MayGoOn : List Row → ImageKind → Option Between → Type 0
MayGoOn rows kind None = (all_of (name_of value.After) rows ≡ None) × ¬ IsSet rows (codes "served")
MayGoOn rows Replica (Some between) = ⊥
MayGoOn rows Archive (Some between) =
    HasTwo rows (name_of value.After) (left_of between) (right_of between) × AreServed rows between

-- the values of an image that is to be made are those that are given
pub record HasFormatted (rows : List Row) (asked : FormatCommand) : Type 0 where
  pub kind : HasText rows (name_of value.Kind) (kind_word asked.kind)
  pub pair : HasNumber 64 rows (name_of value.Pair) asked.pair
  pub file : HasText rows (name_of value.File) asked.file.now
  pub after : MayGoOn rows asked.kind asked.after
  pub force : IsTrue asked.force ↔ IsSet rows (codes "force")

-- the values of a command about an image are those that are given
abbrev pub HasImageValues : List Row → ImageCommand → Type 0
HasImageValues rows (image.Format asked) = HasFormatted rows asked
HasImageValues rows (image.Show location) = HasLocation rows location
    × (first_of (name_of value.Path) rows ≡ None)
HasImageValues rows (image.ShowPath location path) = HasLocation rows location
    × HasText rows (name_of value.Path) path.now
HasImageValues rows (image.Check file) = HasText rows (name_of value.File) file.now
HasImageValues rows (image.Migrate file) = HasText rows (name_of value.File) file.now
HasImageValues rows (image.Log file lines) = HasText rows (name_of value.File) file.now
    × MayHaveNumber 64 rows (name_of value.Lines) lines

-- what the session is between: what is given as the left, and what as the right
abbrev pub HasSides : List Row → Between → Type 0
HasSides rows between = HasText rows (name_of value.Left) (left_of between)
    × HasText rows (name_of value.Right) (right_of between)

-- a session of servers is one alone: no seconds are given for others after it
abbrev pub IsOnce : List Row → Between → Type 0
IsOnce rows (Files left right) = Unit {0}
IsOnce rows (Servers left right) = first_of (name_of value.Seconds) rows ≡ None

-- the two sides of a session, its archive and the side that it prefers are those that are given
pub record HasPairing (rows : List Row) (pairing : Pairing) : Type 0 where
  pub sides : HasSides rows pairing.between
  pub archive : HasText rows (name_of value.Archive) pairing.archive.now
  pub preference : MayHaveSide rows pairing.preference

-- the two servers that are kept the same, their archive, the side that is preferred and the seconds
-- between two looks are those that are given
pub record HasKept (rows : List Row) (kept : KeepCommand) : Type 0 where
  pub left : HasText rows (name_of value.Left) kept.left.now
  pub right : HasText rows (name_of value.Right) kept.right.now
  pub archive : HasText rows (name_of value.Archive) kept.archive.now
  pub preference : MayHaveSide rows kept.preference
  pub seconds : HasNumber 64 rows (name_of value.Seconds) kept.seconds

-- the values of a reconciliation are those that are given
pub record HasReconciled (rows : List Row) (reconciled : ReconcileCommand) : Type 0 where
  pub folder : HasText rows (name_of value.Folder) reconciled.folder.now
  pub file : HasText rows (name_of value.File) reconciled.file.now
  pub user : HasNumber 32 rows (name_of value.User) reconciled.user
  pub archive : MayHaveText rows (name_of value.Archive) reconciled.archive
  pub preference : MayHaveFolderSide rows reconciled.preference
  pub dry : IsTrue reconciled.is_dry ↔ IsSet rows (codes "dry-run")
  pub emptied : IsTrue reconciled.is_emptied ↔ IsSet rows (codes "emptied")
  pub anew : IsTrue reconciled.is_anew ↔ IsSet rows (codes "anew")

-- the values of a folder that is kept the same are those that are given
pub record HasFolder (rows : List Row) (kept : FolderCommand) : Type 0 where
  pub folder : HasText rows (name_of value.Folder) kept.folder.now
  pub user : HasNumber 32 rows (name_of value.User) kept.user
  pub seconds : MayHaveNumber 64 rows (name_of value.Seconds) kept.seconds

-- the folder given, or none where nothing of one is given
abbrev pub MayHaveFolder : List Row → Option FolderCommand → Type 0
MayHaveFolder rows None = (first_of (name_of value.Folder) rows ≡ None)
    × (first_of (name_of value.User) rows ≡ None)
    × (first_of (name_of value.Seconds) rows ≡ None)
MayHaveFolder rows (Some kept) = HasFolder rows kept

-- the values of a server are those that are given
pub record HasServed (rows : List Row) (served : ServeCommand) : Type 0 where
  pub file : HasText rows (name_of value.File) served.file.now
  pub address : HasText rows (name_of value.Address) served.address.now
  pub connections : MayHaveNumber 64 rows (name_of value.Connections) served.connections
  pub folder : MayHaveFolder rows served.folder

-- the values of a command are those that are given
abbrev pub HasValues : List Row → Command → Type 0
HasValues rows (command.Image about) = HasImageValues rows about
HasValues rows (command.Edit edit) = HasLocation rows edit.location
    × HasNumber 32 rows (name_of value.User) edit.user
    × HasText rows (name_of value.Path) edit.path.now × HasMode rows edit.kind
HasValues rows (command.Export exported) = HasLocation rows exported.location
    × HasText rows (name_of value.Folder) exported.folder.now
    × MayHaveText rows (name_of value.Path) exported.path × HasExisting rows exported.existing
HasValues rows (command.Import imported) = HasLocation rows imported.location
    × HasNumber 32 rows (name_of value.User) imported.user
    × HasText rows (name_of value.Folder) imported.folder.now
    × MayHaveText rows (name_of value.Path) imported.path
    × HasOnStranger rows imported.on_stranger
HasValues rows (command.Reconcile reconciled) = HasReconciled rows reconciled
HasValues rows (command.Serve served) = HasServed rows served
HasValues rows (command.Session pairing) = HasPairing rows pairing × IsOnce rows pairing.between
HasValues rows (command.Keep kept) = HasKept rows kept
HasValues rows (command.Plan pairing) = HasPairing rows pairing × AreServed rows pairing.between
HasValues rows (command.Simulate script is_traced) = HasText rows (name_of value.Script) script.now
    × (IsTrue is_traced ↔ IsSet rows (codes "trace"))

-- the command is that of the subcommand and its rows
abbrev pub ReadsRows : Text → List Row → Command → Type 0
ReadsRows name rows command = (name ≡ word_of (verb_of command)) × HasValues rows command

abbrev pub Reads : Option (Text × List Row) → Command → Type 0
Reads None command = ⊥
Reads (Some found) command = ReadsRows found.0 found.1 command

-- no command is that of the subcommand
abbrev pub NothingReads : Option (Text × List Row) → Type 0
NothingReads found = (command : Command) → ¬ Reads found command

-- a text is given for the id
abbrev pub IsGiven : List Row → Text → Type 0
IsGiven rows id = (text : Text) × HasText rows id text

-- a text is given for each of the values
abbrev pub AreGiven : List Row → List ValueName → Type 0
AreGiven rows [] = Unit {0}
AreGiven rows (v ∷ values) = IsGiven rows (name_of v) × AreGiven rows values

-- the text given for KIND is the word of none
abbrev pub IsOtherKind : List Row → Type 0
IsOtherKind rows = (text : Text) × HasText rows (name_of value.Kind) text
    × ((kind : ImageKind) → text ≢ kind_word kind)

-- the text given as the preferred side is the word of none
abbrev pub IsOtherSide : List Row → Type 0
IsOtherSide rows = (text : Text) × HasText rows (name_of value.Preference) text
    × ((preferred : Side) → text ≢ side_word preferred)

-- the text given as the preferred one of a folder and its replica is the word of neither
abbrev pub IsOtherFolderSide : List Row → Type 0
IsOtherFolderSide rows = (text : Text) × HasText rows (name_of value.FolderPreference) text
    × ((preferred : Side) → text ≢ folder_side_word preferred)

-- the text given for MODE is no three octal digits
abbrev pub IsNoMode : List Row → Type 0
IsNoMode rows = (text : Text) × HasText rows (name_of value.Mode) text
    × ((mode : Mode) → text ≢ mode_digits (mode_of mode))

-- the text given for the id is no number of so many bits
abbrev pub IsNoNumber : ℕ → List Row → Text → Type 0
IsNoNumber bits rows id = (text : Text) × HasText rows id text × ((n : ℕ) → ¬ IsNumber bits text n)

-- the command makes an edit
abbrev pub IsEdit : Verb → Type 0
IsEdit verb.Put = Unit {0}
IsEdit verb.MakeDir = Unit {0}
IsEdit verb.Remove = Unit {0}
IsEdit verb.Chmod = Unit {0}
IsEdit _ = ⊥

-- the command has a user
abbrev pub HasUser : Verb → Type 0
HasUser v = IsEdit v ⊎ (v ≡ verb.Import) ⊎ (v ≡ verb.Reconcile)

-- a server is given a folder whose user is no number, or is not given
abbrev pub LacksUser : List Row → Type 0
LacksUser rows = IsNoNumber 32 rows (name_of value.User)
    ⊎ (first_of (name_of value.User) rows ≡ None)

-- a server is given no folder, but a user of one or the seconds between two looks at one
abbrev pub LacksFolder : List Row → Type 0
LacksFolder rows = (first_of (name_of value.Folder) rows ≡ None)
    × (IsGiven rows (name_of value.User) ⊎ IsGiven rows (name_of value.Seconds))

-- a replica is to go on after others, or servers are to be asked where nothing is to go on, or what
-- is given to go on after is not two
abbrev pub CannotGoOn : List Row → Type 0
CannotGoOn rows = ((all_of (name_of value.After) rows ≢ None)
    × HasText rows (name_of value.Kind) (kind_word Replica))
    ⊎ ((all_of (name_of value.After) rows ≡ None) × IsSet rows (codes "served"))
    ⊎ AreOtherThanTwo rows (name_of value.After)

-- this value of the command is wrong: the KIND or the PAIR of a format or the replicas after which
-- it goes on, the USER of an edit, an import or a reconciliation, the MODE of a file, the number of
-- connections of a server, of the lines of a log or of the seconds between two looks, the side that
-- a session or a reconciliation is to prefer, or the folder of a server or its user
abbrev pub IsWrong : Verb → List Row → ValueName → Type 0
IsWrong v rows value.Kind = (v ≡ verb.Format) × IsOtherKind rows
IsWrong v rows value.Pair = (v ≡ verb.Format) × IsNoNumber 64 rows (name_of value.Pair)
IsWrong v rows value.User = (HasUser v × IsNoNumber 32 rows (name_of value.User))
    ⊎ ((v ≡ verb.Serve) × IsGiven rows (name_of value.Folder) × LacksUser rows)
IsWrong v rows value.Folder = (v ≡ verb.Serve) × LacksFolder rows
IsWrong v rows value.Connections =
    (v ≡ verb.Serve) × IsNoNumber 64 rows (name_of value.Connections)
IsWrong v rows value.Seconds = TakesSeconds v × IsNoNumber 64 rows (name_of value.Seconds)
IsWrong v rows value.Lines = (v ≡ verb.Log) × IsNoNumber 64 rows (name_of value.Lines)
IsWrong v rows value.Mode = (v ≡ verb.Chmod) × IsNoMode rows
IsWrong v rows value.Preference = TakesPreference v × IsOtherSide rows
IsWrong v rows value.FolderPreference = (v ≡ verb.Reconcile) × IsOtherFolderSide rows
IsWrong v rows value.After = (v ≡ verb.Format) × CannotGoOn rows
IsWrong v rows _ = ⊥

-- the name is that of a command, each value that the command requires is given, and this one is
-- wrong
abbrev pub IsWrongIn : Text → List Row → ValueName → Type 0
IsWrongIn name rows told = (v : Verb) × (name ≡ word_of v) × AreGiven rows (values_of v)
    × IsWrong v rows told

abbrev pub IsWrongValue : Option (Text × List Row) → ValueName → Type 0
IsWrongValue None told = ⊥
IsWrongValue (Some found) told = IsWrongIn found.0 found.1 told

-- the words ask for what the command says: `clap` takes them, and their values are the command's
pub record Asks (words : List Text) (command : Command) : Type 0 where
  pub taken : fault_of syn_app words ≡ []
  pub reads : Reads (subcommand_of syn_app words) command

-- the words ask for the help or the version
abbrev pub AsksHelp : List Text → Type 0
AsksHelp words = IsAmong DisplayHelp (fault_of syn_app words)
    ⊎ IsAmong DisplayVersion (fault_of syn_app words)

-- the flag is used after the command
abbrev pub IsSetIn : Option (Text × List Row) → Text → Type 0
IsSetIn None id = ⊥
IsSetIn (Some found) id = IsSet found.1 id

-- the words ask for an explanation, before the command or after it
abbrev pub AsksWhy : List Text → Type 0
AsksWhy words = IsSet (matches_of syn_app words) (codes "verbose")
    ⊎ IsSetIn (subcommand_of syn_app words) (codes "verbose")

-- a value is wrong
abbrev pub IsValue : WordsError → Type 0
IsValue (Value told) = Unit {0}
IsValue _ = ⊥

-- a fact of the value that is wrong
abbrev pub IfValue : WordsError → (ValueName → Type 0) → Type 0
IfValue (Value told) P = P told
IfValue _ P = Unit {0}

-- a fact of what `clap` tells, where it refuses the words
abbrev pub IfUsage : WordsError → (Error → Type 0) → Type 0
IfUsage (Usage error) P = P error
IfUsage _ P = Unit {0}

-- the help or the version is asked for
abbrev pub IsRequest : WordsError → Type 0
IsRequest (Usage error) = (kind_of error ≡ DisplayHelp) ⊎ (kind_of error ≡ DisplayVersion)
IsRequest _ = ⊥

-- the words are wrong
abbrev pub IsMistake : WordsError → Type 0
IsMistake Memory = ⊥
IsMistake _ = Unit {0}
