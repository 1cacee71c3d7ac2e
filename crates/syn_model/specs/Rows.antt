-- Worked examples, which the definitions are to give.
use Rattle.std.specs.Prelude.{◌≡◌, ◌≢◌, true, false, [], ◌∷◌, replicate, Some, None}
use Rattle.std.specs.FinMap.{get}
use Rattle.syn_model.specs.Path.{Bytes, Name, root}
use Rattle.syn_model.specs.Contents.{Contents}
use Rattle.syn_model.specs.Tree.{Tree, File, Directory, file, empty_directory, absent, replace}
use Rattle.syn_model.specs.Refusal.{NoParent, IsDirectory, Exists, Absent, Root}
use Rattle.syn_model.specs.Event.{Event, Edited, Began, Put, MakeDir, Remove}
use Rattle.syn_model.specs.History.{floor, floor_within, is_quiet}
use Rattle.syn_model.specs.Standing.{edit_refusal}
use Rattle.syn_model.specs.Dirty.{Scan}
use Rattle.syn_model.specs.Version.{One}
use Rattle.syn_model.specs.Spelling.{spelling, spelling_in}
use Rattle.syn_model.specs.Decision.{Decision, Clean, Do, DoAndGoOn, ToLeft, ToRight, MarkSame}
use Rattle.syn_model.specs.Decision.{MarkDir, Conflict, decision}

-- a scan that found these marks, with nothing unstable
abbrev pub found : Tree → Scan
found marks = record { marks = marks; unstable = [] }

-- what is done where the two sides and the archive have these parts
abbrev pub decided : Tree → Tree → Tree → Decision
decided left right archive = decision None (found left) (found right) archive root

abbrev pub a_name : Name
a_name = 97 ∷ []

-- a directory with one file
abbrev pub file_in : Bytes → Tree
file_in bytes = replace empty_directory (a_name ∷ []) (file bytes)

-- of one name, with files that differ and an empty directory
pub record ItemsOfOneName (f g h : Bytes) : Type 0 where
  pub same : decided (file f) (file f) (file f) ≡ Clean
  pub left_changed : decided (file g) (file f) (file f) ≡ Do (ToRight root)
  pub right_removed : decided (file f) absent (file f) ≡ Do (ToLeft root)
  pub changed_alike : decided (file g) (file g) (file f) ≡ Do (MarkSame root)
  pub both_removed : decided absent absent (file f) ≡ Do (MarkSame root)
  pub both_changed : decided (file g) (file h) (file f) ≡ Do (Conflict root)
  pub left_directory : decided empty_directory (file f) (file f) ≡ Do (ToRight root)
  pub both_directory : decided empty_directory empty_directory (file f) ≡ DoAndGoOn (MarkDir root)
  pub new_directory : decided empty_directory empty_directory absent ≡ DoAndGoOn (MarkDir root)
  pub old_directory : decided empty_directory empty_directory empty_directory ≡ Clean
  pub created : decided (file f) absent absent ≡ Do (ToRight root)
  pub removed : decided absent (file f) (file f) ≡ Do (ToRight root)
  pub removed_and_edited : decided absent (file_in g) (file_in f) ≡ Do (Conflict root)

abbrev pub ItemsOfOneNameHold : Type 0
ItemsOfOneNameHold = (f g h : Bytes) → f ≢ g → f ≢ h → g ≢ h → ItemsOfOneName f g h

-- a put of `hi` at the path of one letter
abbrev pub put_a : Event
put_a = Edited 1 (Put (a_name ∷ []) (104 ∷ 105 ∷ []))

pub record Floors : Type 0 where
  pub three_of_two : floor_within 2 (put_a ∷ put_a ∷ put_a ∷ []) ≡ 1
  pub two_of_two : floor_within 2 (put_a ∷ put_a ∷ []) ≡ 0
  pub with_session : floor_within 2 (Began 1 ∷ put_a ∷ put_a ∷ Began 2 ∷ put_a ∷ []) ≡ 2
  pub long : floor (replicate 4097 put_a) ≡ 1
  pub touched : is_quiet (put_a ∷ put_a ∷ put_a ∷ []) 1 3 (a_name ∷ []) ≡ false
  pub quiet : is_quiet (put_a ∷ put_a ∷ put_a ∷ []) 3 3 (a_name ∷ []) ≡ true

-- where `a` is a file and the directory `d` is there, in a tree
pub record RefusedEdits (tree : Tree) (bytes : Bytes) : Type 0 where
  pub below_file : edit_refusal tree (Put (a_name ∷ (98 ∷ []) ∷ []) bytes) ≡ Some NoParent
  pub onto_directory : edit_refusal tree (Put ((100 ∷ []) ∷ []) bytes) ≡ Some IsDirectory
  pub there_already : edit_refusal tree (MakeDir (a_name ∷ [])) ≡ Some Exists
  pub not_there : edit_refusal tree (Remove ((122 ∷ []) ∷ [])) ≡ Some Absent
  pub root_itself : edit_refusal tree (Remove root) ≡ Some Root

abbrev pub RefusedEditsHold : Type 0
RefusedEditsHold = (tree : Tree) (bytes : Bytes) (has : Contents) → get tree root ≡ Some Directory →
    get tree (a_name ∷ []) ≡ Some (File has) →
    get tree ((100 ∷ []) ∷ []) ≡ Some Directory → get tree ((122 ∷ []) ∷ []) ≡ None →
    RefusedEdits tree bytes

pub record Spellings : Type 0 where
  pub nothing : spelling absent ≡ 0 ∷ []
  pub no_names : spelling empty_directory ≡ 2 ∷ 0 ∷ 0 ∷ []
  pub hi : spelling (file (104 ∷ 105 ∷ [])) ≡ 1 ∷ 1 ∷ 164 ∷ 0 ∷ 0 ∷ 0 ∷ 2 ∷ 104 ∷ 105 ∷ []
  pub old : spelling_in One (file (104 ∷ 105 ∷ [])) ≡ 1 ∷ 0 ∷ 0 ∷ 0 ∷ 2 ∷ 104 ∷ 105 ∷ []
