-- How a call of an archive did not come out.
use Rattle.std.proofs.Common.{◌≡◌, ◌≢◌, ◌∙◌, Result, Ok, Err, Some, sym}
use Rattle.std.proofs.lemmas.Option.{same_Some}
use Rattle.syn_archive.specs.Refusals.{refusal_of}
use Rattle.syn_archive.specs.declared.error.ArchiveError.{ArchiveError}
use Rattle.syn_archive.specs.declared.error.ArchiveError.TheVariants as error
use Rattle.syn_model.specs.Refusal.{Refusal, Halted}

abbrev pub failed : (T : Type 0) → ArchiveError → Result T ArchiveError
failed T e = Err e

pub device_not_full : (T : Type 0) (e : ArchiveError) → e ≡ error.Device →
    failed T e ≡ failed T error.Full → ⊥
device_not_full T e device full = cc

pub ok_not_full : {T : Type 0} (x : T) (r : Result T ArchiveError) → r ≡ Ok x →
    r ≡ failed T error.Full → ⊥
ok_not_full x r ok full = cc

-- it is refused for something else than that it is halted
pub not_halted : (e : ArchiveError) (w : Refusal) → refusal_of e ≡ w → w ≢ Halted →
    Some (refusal_of e) ≡ Some Halted → ⊥
not_halted e w is other halted = other (sym is ∙ same_Some _ _ halted)
