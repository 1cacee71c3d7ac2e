-- In which order a replacement at one path of a folder calls the system, and what it comes to.
use Rattle.std.specs.Prelude.{◌≡◌, ◌≢◌, ◌⊎◌, Bool, true, false, Result, Ok, Err}
use Rattle.std.specs.declared.io.Error.{Error}
use Rattle.syn_folder.specs.declared.error.FolderError.{FolderError}
use Rattle.syn_folder.specs.declared.error.FolderError.TheVariants as why
use Rattle.syn_folder.specs.declared.system.stage.Stage.{Stage}
use Rattle.syn_folder.specs.declared.system.stage.Stage.TheVariants.{
  Vacant,
  Standing,
  Noted,
  Moved,
  Kept,
  Strange,
  Placed,
  Done,
  Left,
}

-- nothing was done at the path
abbrev pub IsUntouched : Stage → Type 0
IsUntouched stage = (stage ≡ Vacant) ⊎ (stage ≡ Standing)

-- what was moved away from the path lies in `.syn/kept`, and nothing was put in its place
abbrev pub MayReturn : Stage → Type 0
MayReturn stage = (stage ≡ Moved) ⊎ ((stage ≡ Kept) ⊎ (stage ≡ Strange))

-- something is wanted, and nothing was read at the path, or what was read lies in `.syn/kept`
abbrev pub MayPlace : Bool → Stage → Type 0
MayPlace is_wanted stage = (is_wanted ≡ true) × ((stage ≡ Vacant) ⊎ (stage ≡ Kept))

-- the path has what is wanted there: where nothing is, nothing was read there, or what was read
-- lies in `.syn/kept`
abbrev pub IsReady : Bool → Stage → Type 0
IsReady is_wanted stage = (stage ≡ Placed)
    ⊎ ((is_wanted ≡ false) × ((stage ≡ Vacant) ⊎ (stage ≡ Kept)))

-- the path has what is wanted there, or what stood there: no note is needed any more
abbrev pub MayClose : Bool → Stage → Type 0
MayClose is_wanted stage = (stage ≡ Noted) ⊎ IsReady is_wanted stage

abbrev pub after_prepare : Stage → Result Unit Error → Stage
after_prepare Standing (Ok _) = Noted
after_prepare stage _ = stage

abbrev pub after_take : Stage → Result Bool Error → Stage
after_take _ (Ok true) = Moved
after_take stage _ = stage

abbrev pub after_compare : Stage → Result Bool Error → Stage
after_compare _ (Ok true) = Kept
after_compare _ (Ok false) = Strange
after_compare stage _ = stage

abbrev pub after_place : Stage → Result Bool Error → Stage
after_place _ (Ok true) = Placed
after_place stage _ = stage

abbrev pub after_return : Stage → Result Bool Error → Stage
after_return _ (Ok true) = Noted
after_return stage _ = stage

abbrev pub after_close : Stage → Result Unit Error → Stage
after_close Noted (Ok _) = Standing
after_close _ (Ok _) = Done
after_close stage _ = stage

abbrev pub after_leave : Stage → Result Unit Error → Stage
after_leave _ (Ok _) = Left
after_leave stage _ = stage

-- What a refused replacement leaves. Where it is refused since the folder changed, what stood at
-- the path stands there, or it stays in `.syn/kept` beside something else at the path, and no note
-- stands. Where a call of the system failed, a note may stand, too, by which the next start puts
-- back what was moved.
abbrev pub IsRefusedAt : FolderError → Stage → Type 0
IsRefusedAt (why.Changed paths) stage = IsUntouched stage ⊎ (stage ≡ Left)
IsRefusedAt _ stage = stage ≢ Done

-- what a note of an earlier run comes to: what stood at the path stands there, or what is wanted
-- does, or something else, beside which it stays in `.syn/kept`
abbrev pub IsSettled : Stage → Type 0
IsSettled stage = (stage ≡ Standing) ⊎ ((stage ≡ Done) ⊎ (stage ≡ Left))

-- a note stands, of a replacement that was cut off
abbrev pub IsCutOff : Stage → Type 0
IsCutOff stage = (stage ≡ Noted) ⊎ ((stage ≡ Moved) ⊎ (stage ≡ Placed))
