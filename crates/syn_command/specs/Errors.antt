-- Why a command is refused, as a refusal of the product.
use Rattle.syn_model.specs.Refusal.{Refusal}
use Rattle.syn_model.specs.Refusal as why
use Rattle.syn_path.specs.Refusals.{refusal_of as of_path}
use Rattle.syn_disk.specs.OpenError.{refusal_of as of_disk}
use Rattle.syn_replica.specs.ErrorRefusals.{refusal_of as of_replica}
use Rattle.syn_replica.specs.Refusals.{IsOneOf, edit_refusals, outside_refusals}
use Rattle.syn_archive.specs.Refusals.{refusal_of as of_archive}
use Rattle.syn_refusal.specs.Refusals.{cause_of}
use Rattle.syn_user.specs.Refusals.{refusal_of as of_user}
use Rattle.syn_folder.specs.Refusals.{refusal_of as of_folder}
use Rattle.syn_pair.specs.Marks.{refusal_of as of_marks}
use Rattle.syn_pair.specs.Refusals.{refusal_of as of_pair}
use Rattle.syn_command.specs.declared.error.CommandError.{CommandError}
use Rattle.syn_command.specs.declared.error.CommandError.TheVariants.{Path, Open, Replica, Archive}
use Rattle.syn_command.specs.declared.error.CommandError.TheVariants.{Refused, Device}
use Rattle.syn_command.specs.declared.error.CommandError.TheVariants.{Memory, User, Folder}
use Rattle.syn_command.specs.declared.error.CommandError.TheVariants.{Apart, Beside, Marks}
use Rattle.syn_command.specs.declared.error.CommandError.TheVariants.{OtherFolder}
use Rattle.syn_command.specs.declared.error.CommandError.TheVariants.{OlderServer}
use Rattle.syn_cli.specs.declared.command.EditKind.{EditKind}
use Rattle.syn_cli.specs.declared.command.EditKind.TheVariants.{Put}

-- it is that of what refused
abbrev pub refusal_of : CommandError → Refusal
refusal_of (Path error) = of_path error
refusal_of (Open error) = of_disk error
refusal_of (Replica error) = of_replica error
refusal_of (Archive error) = of_archive error
refusal_of (Refused refusal) = cause_of refusal
refusal_of (User error) = of_user error
refusal_of (Folder error) = of_folder error
refusal_of (Apart mismatch) = of_pair mismatch
refusal_of (Marks mismatch) = of_marks mismatch
refusal_of (OtherFolder mismatch) = why.WrongPair
refusal_of (OlderServer side) = why.WrongPair
refusal_of (Beside error) = why.Device
refusal_of (Device error) = why.Device
refusal_of Memory = why.Memory

-- the refusals of a stream that cannot be read or written
abbrev pub IsOfStream : CommandError → Type 0
IsOfStream (Device error) = Unit {0}
IsOfStream Memory = Unit {0}
IsOfStream _ = ⊥

-- the refusals of a text that is read as a path
abbrev pub IsOfPath : CommandError → Type 0
IsOfPath (Path error) = Unit {0}
IsOfPath _ = ⊥

-- the refusals of a folder, or of a plan over what stands in it
abbrev pub IsOfFolder : CommandError → Type 0
IsOfFolder (Folder error) = Unit {0}
IsOfFolder _ = ⊥

-- Why an edit of a kind is not made: the replica refuses it, or the input cannot be read, which
-- only a put reads.
abbrev pub IsEditRefusal : EditKind → CommandError → Type 0
IsEditRefusal _ (Replica error) = IsOneOf edit_refusals error
IsEditRefusal Put error = IsOfStream error
IsEditRefusal _ _ = ⊥

-- and those of them that no history is the cause of
abbrev pub IsOutside : EditKind → CommandError → Type 0
IsOutside _ (Replica error) = IsOneOf outside_refusals error
IsOutside Put error = IsOfStream error
IsOutside _ _ = ⊥

-- Why an edit of an import into a replica is not made: the replica refuses it, or what makes room
-- for it, or memory is refused.
abbrev pub IsOfEdits : CommandError → Type 0
IsOfEdits (Replica error) = IsOneOf edit_refusals error
IsOfEdits Memory = Unit {0}
IsOfEdits _ = ⊥
