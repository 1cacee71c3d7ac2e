-- Commands by their words, and what a command and its values say.
use Rattle.std.proofs.Common.{◌≡◌, ◌∙◌, ℕ, Bool, true, false, cond, codes, List, [], ◌∷◌, Option}
use Rattle.std.proofs.Common.{Some, None, inl, inr, refl, sym, ap, subst, true≢false, arith}
use Rattle.std.proofs.Common.{slice_index}
use Rattle.std.specs.Str.{bytes_eq}
use Rattle.std.proofs.lemmas.Option.{none-some, same_Some}
use Rattle.clap.specs.Words.{Row, Text, first_of}
use Rattle.syn_path.specs.declared.side.Side.{Side}
use Rattle.syn_tree.specs.Modes.{mode_digits, mode_of}
use Rattle.syn_cli.specs.Reads.{AreGiven, HasMode, HasLocation, HasUser, HasValues, IsEdit}
use Rattle.syn_cli.specs.Reads.{HasNumber, IsGiven, IsNoMode, TakesPreference, IsOtherSide}
use Rattle.syn_cli.specs.Reads.{IsNoNumber, IsNumber, IsOtherKind, IsWrong, IsWrongIn}
use Rattle.syn_cli.specs.Reads.{MayHaveNumber, MayHaveSide, NothingReads, kind_word, side_word}
use Rattle.syn_cli.specs.Reads.{IsOtherFolderSide, MayHaveFolderSide, folder_side_word}
use Rattle.syn_cli.specs.Reads.{HasImageValues, HasSides, IsOnce, image_verb, session_verb}
use Rattle.syn_cli.specs.Reads.{HasServed, LacksFolder, LacksUser, MayHaveFolder, TakesSeconds}
use Rattle.syn_cli.specs.Reads.{CannotGoOn, HasText, MayGoOn, left_of, right_of}
use Rattle.syn_cli.specs.Reads.{verb_of}
use Rattle.syn_cli.specs.Verbs.{edit_verb, name_of, values_of, word_of}
use Rattle.syn_cli.specs.declared.command.Between.{Between}
use Rattle.syn_cli.specs.declared.command.Between.TheVariants.{Files, Servers}
use Rattle.syn_cli.specs.declared.command.EditKind.{EditKind}
use Rattle.syn_cli.specs.declared.command.EditKind.TheVariants as kind
use Rattle.syn_cli.specs.declared.command.FolderCommand.{FolderCommand}
use Rattle.syn_cli.specs.declared.command.ImageKind.{ImageKind}
use Rattle.syn_cli.specs.declared.command.ImageKind.TheVariants as imagekind
use Rattle.syn_cli.specs.declared.command.ImageCommand.{ImageCommand}
use Rattle.syn_cli.specs.declared.command.ImageCommand.TheVariants as image
use Rattle.syn_cli.specs.declared.command.Command.{Command}
use Rattle.syn_cli.specs.declared.command.Command.TheVariants as command
use Rattle.syn_cli.specs.declared.command.ReplicaLocation.{ReplicaLocation}
use Rattle.syn_cli.specs.declared.command.ReplicaLocation.TheVariants as location
use Rattle.syn_cli.specs.declared.command.ServeCommand.{ServeCommand}
use Rattle.syn_cli.specs.declared.value.ValueName.{ValueName}
use Rattle.syn_cli.specs.declared.value.ValueName.TheVariants as value
use Rattle.syn_cli.specs.declared.verb.Verb.{Verb}
use Rattle.syn_cli.specs.declared.verb.Verb.TheVariants as verb
use Rattle.syn_cli.specs.inner.Lacking.{IsLacking, IsOneOf, LacksIn}

-- ---- a word is that of one command

verb_at : Text → Verb
verb_at t =
    cond (bytes_eq t (codes "format")) verb.Format
    (cond (bytes_eq t (codes "put")) verb.Put
    (cond (bytes_eq t (codes "mkdir")) verb.MakeDir
    (cond (bytes_eq t (codes "rm")) verb.Remove
    (cond (bytes_eq t (codes "chmod")) verb.Chmod
    (cond (bytes_eq t (codes "show")) verb.Show
    (cond (bytes_eq t (codes "check")) verb.Check
    (cond (bytes_eq t (codes "migrate")) verb.Migrate
    (cond (bytes_eq t (codes "log")) verb.Log
    (cond (bytes_eq t (codes "export")) verb.Export
    (cond (bytes_eq t (codes "import")) verb.Import
    (cond (bytes_eq t (codes "reconcile")) verb.Reconcile
    (cond (bytes_eq t (codes "serve")) verb.Serve
    (cond (bytes_eq t (codes "sync")) verb.Sync
    (cond (bytes_eq t (codes "run")) verb.Run
    (cond (bytes_eq t (codes "plan")) verb.Plan verb.Simulate)))))))))))))))

verb_at-word : (v : Verb) → verb_at (word_of v) ≡ v
unfolding verb_at
verb_at-word verb.Format = refl
verb_at-word verb.Put = refl
verb_at-word verb.MakeDir = refl
verb_at-word verb.Remove = refl
verb_at-word verb.Chmod = refl
verb_at-word verb.Show = refl
verb_at-word verb.Check = refl
verb_at-word verb.Migrate = refl
verb_at-word verb.Log = refl
verb_at-word verb.Export = refl
verb_at-word verb.Import = refl
verb_at-word verb.Reconcile = refl
verb_at-word verb.Serve = refl
verb_at-word verb.Sync = refl
verb_at-word verb.Run = refl
verb_at-word verb.Plan = refl
verb_at-word verb.Simulate = refl

pub same_verb : (a b : Verb) → word_of a ≡ word_of b → a ≡ b
same_verb a b e = sym (verb_at-word a) ∙ (ap verb_at e ∙ verb_at-word b)

-- ---- what a command has was given

file_given : (rows : List Row) (p : ReplicaLocation) → HasLocation rows p →
    IsGiven rows (name_of value.File)
file_given rows (location.File file) has = (file.now, has.0)
file_given rows (location.Served address) has = (address.now, has.0)

edit_given : (rows : List Row) (kind : EditKind) → HasMode rows kind →
    AreGiven rows (value.File ∷ value.User ∷ value.Path ∷ []) →
    AreGiven rows (values_of (edit_verb kind))
edit_given rows kind.Put has given = given
edit_given rows kind.MakeDir has given = given
edit_given rows kind.Remove has given = given
edit_given rows (kind.Chmod mode) has given =
    (given.0, (given.1.0, (given.1.1.0, ((mode_digits (mode_of mode), has), tt))))

image_given : (rows : List Row) (l : ImageCommand) → HasImageValues rows l →
    AreGiven rows (values_of (image_verb l))
image_given rows (image.Format asked) has = (
  (kind_word asked.kind, has.kind),
  ((has.pair.0, has.pair.1), ((asked.file.now, has.file), tt)),
)
image_given rows (image.Show location) has = (file_given rows location has.0, tt)
image_given rows (image.ShowPath location path) has = (file_given rows location has.0, tt)
image_given rows (image.Check file) has = ((file.now, has), tt)
image_given rows (image.Migrate file) has = ((file.now, has), tt)
image_given rows (image.Log file lines) has = ((file.now, has.0), tt)

left_given : (rows : List Row) (between : Between) → HasSides rows between →
    IsGiven rows (name_of value.Left)
left_given rows between has = (left_of between, has.0)

right_given : (rows : List Row) (between : Between) → HasSides rows between →
    IsGiven rows (name_of value.Right)
right_given rows between has = (right_of between, has.1)

-- in whichever order a command has them
session_given : (rows : List Row) (between : Between) → IsGiven rows (name_of value.Left) →
    IsGiven rows (name_of value.Right) → IsGiven rows (name_of value.Archive) →
    AreGiven rows (values_of (session_verb between))
session_given rows (Files left right) one other archive = (one, (other, (archive, tt)))
session_given rows (Servers left right) one other archive = (archive, (one, (other, tt)))

pub values_given : (rows : List Row) (l : Command) → HasValues rows l →
    AreGiven rows (values_of (verb_of l))
values_given rows (command.Image about) has = image_given rows about has
values_given rows (command.Edit edit) has =
    edit_given rows edit.kind has.3
    (file_given rows edit.location has.0, ((has.1.0, has.1.1), ((edit.path.now, has.2), tt)))
values_given rows (command.Export exported) has =
    (file_given rows exported.location has.0, ((exported.folder.now, has.1), tt))
values_given rows (command.Import imported) has = (
  file_given rows imported.location has.0,
  (
    (has.1.0, has.1.1),
    ((imported.folder.now, has.2), tt),
  ),
)
values_given rows (command.Reconcile reconciled) has = (
  (reconciled.folder.now, has.folder),
  (
    (reconciled.file.now, has.file),
    ((has.user.0, has.user.1), tt),
  ),
)
values_given rows (command.Serve served) has =
    ((served.file.now, has.file), ((served.address.now, has.address), tt))
values_given rows (command.Session pairing) has =
    session_given rows pairing.between (left_given rows pairing.between has.0.sides)
    (right_given rows pairing.between has.0.sides) (pairing.archive.now, has.0.archive)
values_given rows (command.Keep kept) has = (
  (kept.archive.now, has.archive),
  (
    (kept.left.now, has.left),
    (
      (kept.right.now, has.right),
      tt,
    ),
  ),
)
values_given rows (command.Plan pairing) has = (
  left_given rows pairing.between has.0.sides,
  (right_given rows pairing.between has.0.sides, ((pairing.archive.now, has.0.archive), tt)),
)
values_given rows (command.Simulate script is_traced) has = ((script.now, has.0), tt)

-- ---- what is missing was not given

no_text : (o : Option Text) (text : Text) → o ≡ None → o ≡ Some text → ⊥
no_text o text none some = none-some text (sym none ∙ some)

pub none_missing : (rows : List Row) (told : ValueName) (values : List ValueName) →
    AreGiven rows values → IsOneOf told values → first_of (name_of told) rows ≡ None → ⊥
none_missing rows told [] given one none = one
none_missing rows told (value ∷ values) given (inl same) none =
    let P : ValueName → Type 0 = λ v. first_of (name_of v) rows ≡ None in
    no_text _ given.0.0 (subst P same none) given.0.1
none_missing rows told (value ∷ values) given (inr one) none =
    none_missing rows told values given.1 one none

-- ---- what is wrong is no command's

-- a number that is given is one
no_number : (bits : ℕ) (rows : List Row) (id : Text) (n : ℕ) → IsNoNumber bits rows id →
    HasNumber bits rows id n → ⊥
no_number bits rows id n wrong has =
    wrong.2 n (subst (λ t. IsNumber bits t n) (same_Some has.0 wrong.0 (sym has.1 ∙ wrong.1)) has.2)

no_optional_number : (rows : List Row) (id : Text) (most : Option ℕ) → IsNoNumber 64 rows id →
    MayHaveNumber 64 rows id most → ⊥
no_optional_number rows id None wrong has = no_text _ wrong.0 has wrong.1
no_optional_number rows id (Some n) wrong has = no_number 64 rows id n wrong has

-- the words of the kinds differ
other_kind : kind_word imagekind.Replica ≡ kind_word imagekind.Archive → ⊥
other_kind e =
    let words : codes "replica" ≡ codes "archive" = e in
    let first : 114 ≡ 97 = ap (λ t. slice_index t 0) words in
    absurd (omega (arith, first))

-- the command of an edit, of a session or of an image is none of the others
is_edit : Verb → Bool
is_edit verb.Put = true
is_edit verb.MakeDir = true
is_edit verb.Remove = true
is_edit verb.Chmod = true
is_edit _ = false

edit_is : (kind : EditKind) → is_edit (edit_verb kind) ≡ true
unfolding is_edit
edit_is kind.Put = refl
edit_is kind.MakeDir = refl
edit_is kind.Remove = refl
edit_is (kind.Chmod mode) = refl

no_edit : (kind : EditKind) (v : Verb) → edit_verb kind ≡ v → is_edit v ≡ false → ⊥
no_edit kind v same none = true≢false (sym (edit_is kind) ∙ (ap is_edit same ∙ none))

is_session : Verb → Bool
is_session verb.Run = true
is_session verb.Sync = true
is_session _ = false

session_is : (between : Between) → is_session (session_verb between) ≡ true
unfolding is_session
session_is (Files left right) = refl
session_is (Servers left right) = refl

no_session : (between : Between) (v : Verb) → session_verb between ≡ v → is_session v ≡ false → ⊥
no_session between v same none =
    true≢false (sym (session_is between) ∙ (ap is_session same ∙ none))

is_image : Verb → Bool
is_image verb.Format = true
is_image verb.Show = true
is_image verb.Check = true
is_image verb.Migrate = true
is_image verb.Log = true
is_image _ = false

image_is : (l : ImageCommand) → is_image (image_verb l) ≡ true
unfolding is_image
image_is (image.Format asked) = refl
image_is (image.Show location) = refl
image_is (image.ShowPath location path) = refl
image_is (image.Check file) = refl
image_is (image.Migrate file) = refl
image_is (image.Log file lines) = refl

no_image : (l : ImageCommand) (v : Verb) → image_verb l ≡ v → is_image v ≡ false → ⊥
no_image l v same none = true≢false (sym (image_is l) ∙ (ap is_image same ∙ none))

no_session_edits : (between : Between) → IsEdit (session_verb between) → ⊥
no_session_edits (Files left right) is = is
no_session_edits (Servers left right) is = is

no_image_edits : (l : ImageCommand) → IsEdit (image_verb l) → ⊥
no_image_edits (image.Format asked) is = is
no_image_edits (image.Show location) is = is
no_image_edits (image.ShowPath location path) is = is
no_image_edits (image.Check file) is = is
no_image_edits (image.Migrate file) is = is
no_image_edits (image.Log file lines) is = is

module _ (rows : List Row) where
  kind_right : (l : Command) → verb_of l ≡ verb.Format → IsOtherKind rows → HasValues rows l → ⊥
  unfolding is_edit is_session
  kind_right (command.Image (image.Format asked)) is wrong has =
      wrong.2 asked.kind (same_Some wrong.0 (kind_word asked.kind) (sym wrong.1 ∙ has.kind))
  kind_right (command.Edit edit) is wrong has = no_edit edit.kind verb.Format is refl
  kind_right (command.Session pairing) is wrong has =
      no_session pairing.between verb.Format is refl
  kind_right _ is wrong has = cc

  pair_right : (l : Command) → verb_of l ≡ verb.Format → IsNoNumber 64 rows (name_of value.Pair) →
      HasValues rows l → ⊥
  unfolding is_edit is_session
  pair_right (command.Image (image.Format asked)) is wrong has =
      no_number 64 rows (name_of value.Pair) asked.pair wrong has.pair
  pair_right (command.Edit edit) is wrong has = no_edit edit.kind verb.Format is refl
  pair_right (command.Session pairing) is wrong has =
      no_session pairing.between verb.Format is refl
  pair_right _ is wrong has = cc

  -- what goes on with two replicas is an archive
  no_after : (kind : ImageKind) (after : Option Between) → HasText rows (name_of value.Kind)
      (kind_word kind) → CannotGoOn rows → MayGoOn rows kind after → ⊥
  no_after kind None named (inl (given, replica)) may = given may.0
  no_after kind None named (inr (inl (none, served))) may = may.1 served
  no_after kind None named (inr (inr (given, other))) may = given may.0
  no_after imagekind.Replica (Some between) named cannot may = may
  no_after imagekind.Archive (Some between) named (inl (given, replica)) may =
      other_kind (same_Some _ _ (sym replica ∙ named))
  no_after imagekind.Archive (Some between) named (inr (inl (none, served))) may =
      none-some _ (sym none ∙ may.0)
  no_after imagekind.Archive (Some between) named (inr (inr (given, other))) may =
      other (left_of between) (right_of between) may.0

  after_right : (l : Command) → verb_of l ≡ verb.Format → CannotGoOn rows → HasValues rows l → ⊥
  unfolding is_edit is_session
  after_right (command.Image (image.Format asked)) is wrong has =
      no_after asked.kind asked.after has.kind wrong has.after
  after_right (command.Edit edit) is wrong has = no_edit edit.kind verb.Format is refl
  after_right (command.Session pairing) is wrong has =
      no_session pairing.between verb.Format is refl
  after_right _ is wrong has = cc

  editor_right : (l : Command) → IsEdit (verb_of l) → IsNoNumber 32 rows (name_of value.User) →
      HasValues rows l → ⊥
  editor_right (command.Edit edit) is wrong has =
      no_number 32 rows (name_of value.User) edit.user wrong has.1
  editor_right (command.Image about) is wrong has = no_image_edits about is
  editor_right (command.Session pairing) is wrong has = no_session_edits pairing.between is
  editor_right _ is wrong has = is

  importer_right : (l : Command) → verb_of l ≡ verb.Import →
      IsNoNumber 32 rows (name_of value.User) →
      HasValues rows l → ⊥
  unfolding is_edit is_session is_image
  importer_right (command.Import imported) is wrong has =
      no_number 32 rows (name_of value.User) imported.user wrong has.1
  importer_right (command.Image about) is wrong has = no_image about verb.Import is refl
  importer_right (command.Edit edit) is wrong has = no_edit edit.kind verb.Import is refl
  importer_right (command.Session pairing) is wrong has =
      no_session pairing.between verb.Import is refl
  importer_right _ is wrong has = cc

  reconciler_right : (l : Command) → verb_of l ≡ verb.Reconcile
      → IsNoNumber 32 rows (name_of value.User) → HasValues rows l → ⊥
  unfolding is_edit is_session is_image
  reconciler_right (command.Reconcile reconciled) is wrong has =
      no_number 32 rows (name_of value.User) reconciled.user wrong has.user
  reconciler_right (command.Image about) is wrong has = no_image about verb.Reconcile is refl
  reconciler_right (command.Edit edit) is wrong has = no_edit edit.kind verb.Reconcile is refl
  reconciler_right (command.Session pairing) is wrong has =
      no_session pairing.between verb.Reconcile is refl
  reconciler_right _ is wrong has = cc

  -- a mode that is given is one
  no_mode : (kind : EditKind) → edit_verb kind ≡ verb.Chmod → IsNoMode rows → HasMode rows kind → ⊥
  no_mode (kind.Chmod mode) is wrong has =
      wrong.2 mode (same_Some wrong.0 (mode_digits (mode_of mode)) (sym wrong.1 ∙ has))
  no_mode _ is wrong has = cc

  mode_right : (l : Command) → verb_of l ≡ verb.Chmod → IsNoMode rows → HasValues rows l → ⊥
  unfolding is_session is_image
  mode_right (command.Image about) is wrong has = no_image about verb.Chmod is refl
  mode_right (command.Edit edit) is wrong has = no_mode edit.kind is wrong has.3
  mode_right (command.Session pairing) is wrong has = no_session pairing.between verb.Chmod is refl
  mode_right _ is wrong has = cc

  user_right : (l : Command) → HasUser (verb_of l) → IsNoNumber 32 rows (name_of value.User) →
      HasValues rows l → ⊥
  user_right l (inl is) wrong has = editor_right l is wrong has
  user_right l (inr (inl is)) wrong has = importer_right l is wrong has
  user_right l (inr (inr is)) wrong has = reconciler_right l is wrong has

  -- a command of a server is none that has this
  no_serve : ((served : ServeCommand) → HasServed rows served → ⊥) → (l : Command)
      → verb_of l ≡ verb.Serve → HasValues rows l → ⊥
  unfolding is_edit is_session is_image
  no_serve none (command.Serve served) is has = none served has
  no_serve none (command.Image about) is has = no_image about verb.Serve is refl
  no_serve none (command.Edit edit) is has = no_edit edit.kind verb.Serve is refl
  no_serve none (command.Session pairing) is has = no_session pairing.between verb.Serve is refl
  no_serve none _ is has = cc

  connections_right : (l : Command) → verb_of l ≡ verb.Serve →
      IsNoNumber 64 rows (name_of value.Connections) → HasValues rows l → ⊥
  connections_right l is wrong has =
      no_serve (λ served its. no_optional_number rows (name_of value.Connections)
      served.connections wrong its.connections) l is has

  no_folder_user : (folder : Option FolderCommand) → IsGiven rows (name_of value.Folder)
      → LacksUser rows → MayHaveFolder rows folder → ⊥
  no_folder_user None given lacks has = no_text _ given.0 has.0 given.1
  no_folder_user (Some kept) given (inl wrong) has =
      no_number 32 rows (name_of value.User) kept.user wrong has.user
  no_folder_user (Some kept) given (inr none) has = no_text _ has.user.0 none has.user.1

  folder_user_right : (l : Command) → verb_of l ≡ verb.Serve → IsGiven rows (name_of value.Folder)
      → LacksUser rows → HasValues rows l → ⊥
  folder_user_right l is given lacks has =
      no_serve (λ served its. no_folder_user served.folder given lacks its.folder) l is has

  no_folder : (folder : Option FolderCommand) → LacksFolder rows → MayHaveFolder rows folder → ⊥
  no_folder None (none, inl given) has = no_text _ given.0 has.1 given.1
  no_folder None (none, inr given) has = no_text _ given.0 has.2 given.1
  no_folder (Some kept) lacks has = no_text _ kept.folder.now lacks.0 has.folder

  folder_right : (l : Command) → verb_of l ≡ verb.Serve → LacksFolder rows → HasValues rows l → ⊥
  folder_right l is lacks has =
      no_serve (λ served its. no_folder served.folder lacks its.folder) l is has

  no_folder_seconds : (folder : Option FolderCommand) → IsNoNumber 64 rows (name_of value.Seconds)
      → MayHaveFolder rows folder → ⊥
  no_folder_seconds None wrong has = no_text _ wrong.0 has.2 wrong.1
  no_folder_seconds (Some kept) wrong has =
      no_optional_number rows (name_of value.Seconds) kept.seconds wrong has.seconds

  no_seconds : (between : Between) → IsNoNumber 64 rows (name_of value.Seconds)
      → TakesSeconds (session_verb between) → IsOnce rows between → ⊥
  no_seconds (Files left right) wrong takes once = takes
  no_seconds (Servers left right) wrong takes once = no_text _ wrong.0 once wrong.1

  no_edit_seconds : (kind : EditKind) → TakesSeconds (edit_verb kind) → ⊥
  no_edit_seconds kind.Put takes = takes
  no_edit_seconds kind.MakeDir takes = takes
  no_edit_seconds kind.Remove takes = takes
  no_edit_seconds (kind.Chmod mode) takes = takes

  no_image_seconds : (l : ImageCommand) → TakesSeconds (image_verb l) → ⊥
  no_image_seconds (image.Format asked) takes = takes
  no_image_seconds (image.Show location) takes = takes
  no_image_seconds (image.ShowPath location path) takes = takes
  no_image_seconds (image.Check file) takes = takes
  no_image_seconds (image.Migrate file) takes = takes
  no_image_seconds (image.Log file lines) takes = takes

  seconds_right : (l : Command) → TakesSeconds (verb_of l) →
      IsNoNumber 64 rows (name_of value.Seconds) → HasValues rows l → ⊥
  seconds_right (command.Keep kept) takes wrong has =
      no_number 64 rows (name_of value.Seconds) kept.seconds wrong has.seconds
  seconds_right (command.Serve served) takes wrong has =
      no_folder_seconds served.folder wrong has.folder
  seconds_right (command.Session pairing) takes wrong has =
      no_seconds pairing.between wrong takes has.1
  seconds_right (command.Image about) takes wrong has = no_image_seconds about takes
  seconds_right (command.Edit edit) takes wrong has = no_edit_seconds edit.kind takes
  seconds_right _ takes wrong has = takes

  lines_right : (l : Command) → verb_of l ≡ verb.Log → IsNoNumber 64 rows (name_of value.Lines) →
      HasValues rows l → ⊥
  unfolding is_edit is_session
  lines_right (command.Image (image.Log file lines)) is wrong has =
      no_optional_number rows (name_of value.Lines) lines wrong has.1
  lines_right (command.Edit edit) is wrong has = no_edit edit.kind verb.Log is refl
  lines_right (command.Session pairing) is wrong has = no_session pairing.between verb.Log is refl
  lines_right _ is wrong has = cc

  -- a side that is given is one
  no_side : (preference : Option Side) → IsOtherSide rows → MayHaveSide rows preference → ⊥
  no_side None wrong has = no_text _ wrong.0 has wrong.1
  no_side (Some preferred) wrong has =
      wrong.2 preferred (same_Some wrong.0 (side_word preferred) (sym wrong.1 ∙ has))

  no_edit_prefers : (kind : EditKind) → TakesPreference (edit_verb kind) → ⊥
  no_edit_prefers kind.Put takes = takes
  no_edit_prefers kind.MakeDir takes = takes
  no_edit_prefers kind.Remove takes = takes
  no_edit_prefers (kind.Chmod mode) takes = takes

  no_image_prefers : (l : ImageCommand) → TakesPreference (image_verb l) → ⊥
  no_image_prefers (image.Format asked) takes = takes
  no_image_prefers (image.Show location) takes = takes
  no_image_prefers (image.ShowPath location path) takes = takes
  no_image_prefers (image.Check file) takes = takes
  no_image_prefers (image.Migrate file) takes = takes
  no_image_prefers (image.Log file lines) takes = takes

  preference_right : (l : Command) → TakesPreference (verb_of l) → IsOtherSide rows →
      HasValues rows l → ⊥
  preference_right (command.Session pairing) takes wrong has =
      no_side pairing.preference wrong has.0.preference
  preference_right (command.Keep kept) takes wrong has =
      no_side kept.preference wrong has.preference
  preference_right (command.Plan pairing) takes wrong has =
      no_side pairing.preference wrong has.0.preference
  preference_right (command.Image about) takes wrong has = no_image_prefers about takes
  preference_right (command.Edit edit) takes wrong has = no_edit_prefers edit.kind takes
  preference_right _ takes wrong has = takes

  no_folder_side : (preference : Option Side) → IsOtherFolderSide rows
      → MayHaveFolderSide rows preference → ⊥
  no_folder_side None wrong has = no_text _ wrong.0 has wrong.1
  no_folder_side (Some preferred) wrong has =
      wrong.2 preferred (same_Some wrong.0 (folder_side_word preferred) (sym wrong.1 ∙ has))

  folder_preference_right : (l : Command) → verb_of l ≡ verb.Reconcile → IsOtherFolderSide rows →
      HasValues rows l → ⊥
  unfolding is_edit is_session is_image
  folder_preference_right (command.Reconcile reconciled) is wrong has =
      no_folder_side reconciled.preference wrong has.preference
  folder_preference_right (command.Image about) is wrong has = no_image about verb.Reconcile is refl
  folder_preference_right (command.Edit edit) is wrong has =
      no_edit edit.kind verb.Reconcile is refl
  folder_preference_right (command.Session pairing) is wrong has =
      no_session pairing.between verb.Reconcile is refl
  folder_preference_right _ is wrong has = cc

  none_wrong : (l : Command) (told : ValueName) → IsWrong (verb_of l) rows told →
      HasValues rows l → ⊥
  none_wrong l value.Kind wrong has = kind_right l wrong.0 wrong.1 has
  none_wrong l value.Pair wrong has = pair_right l wrong.0 wrong.1 has
  none_wrong l value.User (inl wrong) has = user_right l wrong.0 wrong.1 has
  none_wrong l value.User (inr wrong) has = folder_user_right l wrong.0 wrong.1 wrong.2 has
  none_wrong l value.Folder wrong has = folder_right l wrong.0 wrong.1 has
  none_wrong l value.Connections wrong has = connections_right l wrong.0 wrong.1 has
  none_wrong l value.Seconds wrong has = seconds_right l wrong.0 wrong.1 has
  none_wrong l value.Lines wrong has = lines_right l wrong.0 wrong.1 has
  none_wrong l value.Mode wrong has = mode_right l wrong.0 wrong.1 has
  none_wrong l value.Preference wrong has = preference_right l wrong.0 wrong.1 has
  none_wrong l value.FolderPreference wrong has = folder_preference_right l wrong.0 wrong.1 has
  none_wrong l value.After wrong has = after_right l wrong.0 wrong.1 has
  none_wrong l _ wrong has = wrong

  none_lacking : (l : Command) (told : ValueName) → IsLacking (verb_of l) rows told →
      HasValues rows l → ⊥
  none_lacking l told (inl missing) has =
      none_missing rows told (values_of (verb_of l)) (values_given rows l has) missing.0 missing.1
  none_lacking l told (inr wrong) has = none_wrong l told wrong has

  -- no command is that of a verb that lacks a value
  pub lacks_nothing : (name : Text) (told : ValueName) → LacksIn name rows told →
      NothingReads (Some (name, rows))
  lacks_nothing name told (inl unknown) l read = unknown.1 (verb_of l) read.0
  lacks_nothing name told (inr lacks) l read =
      let same = same_verb lacks.0 (verb_of l) (sym lacks.1 ∙ read.0) in
      none_lacking l told (subst (λ (v : Verb). IsLacking v rows told) same lacks.2) read.1

-- the name is that of a command, and each value that the command requires is given
abbrev pub IsComplete : Text → List Row → Type 0
IsComplete name rows = (v : Verb) × (name ≡ word_of v) × AreGiven rows (values_of v)

-- so a value that the command lacks is wrong
pub lacks_wrong : (name : Text) (rows : List Row) (told : ValueName) → IsComplete name rows
    → LacksIn name rows told → IsWrongIn name rows told
lacks_wrong name rows told complete (inl unknown) = absurd (unknown.1 complete.0 complete.1)
lacks_wrong name rows told complete (inr lacks) =
    let same = same_verb complete.0 lacks.0 (sym complete.1 ∙ lacks.1) in
    let given = subst (λ (v : Verb). AreGiven rows (values_of v)) same complete.2 in
    elim lacks.2 [
      | inl missing ↦ absurd (none_missing rows told (values_of lacks.0) given missing.0 missing.1)
      | inr wrong ↦ (lacks.0, lacks.1, given, wrong)
    ]
