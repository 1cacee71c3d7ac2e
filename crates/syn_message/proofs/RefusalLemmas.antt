-- Each refusal of the model is one of the product, and its number tells it.
use Rattle.std.proofs.Common.{◌≡◌, ◌≢◌, ℕ, refl, ap, ◌∙◌, sym}
use Rattle.std.specs.Prelude.{List, [], ◌∷◌, ◌==◌, if◌then◌else◌}
use Rattle.syn_message.proofs.WholeLemmas.{first_of}
use Rattle.syn_message.specs.Bodies.{SpellsNone}
use Rattle.syn_message.specs.inner.Heads.{IsRefusal, refusal_spelling}
use Rattle.syn_model.specs.Path.{Bytes}
use Rattle.syn_model.specs.Refusal.{Refusal, number}
use Rattle.syn_model.specs.Refusal as why
use Rattle.syn_refusal.specs.Refusals.{cause_of}
use Rattle.syn_refusal.specs.declared.refusal.Refusal.{Refusal as Answer}
use Rattle.syn_refusal.specs.declared.refusal.Refusal.TheVariants as code

-- the refusal as the product has it
pub answer_of : (refusal : Refusal) → (answer : Answer) × (cause_of answer ≡ refusal)
answer_of why.BadPath = (code.BadPath, refl)
answer_of why.NoParent = (code.NoParent, refl)
answer_of why.IsDirectory = (code.IsDirectory, refl)
answer_of why.Exists = (code.Exists, refl)
answer_of why.Absent = (code.Absent, refl)
answer_of why.Root = (code.Root, refl)
answer_of why.Full = (code.Full, refl)
answer_of why.JournalFull = (code.JournalFull, refl)
answer_of why.Device = (code.Device, refl)
answer_of why.Halted = (code.Halted, refl)
answer_of why.Memory = (code.Memory, refl)
answer_of why.Busy = (code.Busy, refl)
answer_of why.Touched = (code.Touched, refl)
answer_of why.OldSession = (code.OldSession, refl)
answer_of why.BelowFloor = (code.BelowFloor, refl)
answer_of why.NotStaged = (code.NotStaged, refl)
answer_of why.BadStage = (code.BadStage, refl)
answer_of why.NoImage = (code.NoImage, refl)
answer_of why.Damaged = (code.Damaged, refl)
answer_of why.WrongPair = (code.WrongPair, refl)
answer_of why.BadFrame = (code.BadFrame, refl)
answer_of why.TooLarge = (code.TooLarge, refl)
answer_of why.BadMessage = (code.BadMessage, refl)
answer_of why.NoSeat = (code.NoSeat, refl)
answer_of why.NoAnswer = (code.NoAnswer, refl)
answer_of why.OldVersion = (code.OldVersion, refl)

-- the first of them with the number
abbrev numbered : List Refusal → ℕ → Refusal
numbered [] n = why.NoAnswer
numbered (refusal ∷ refusals) n = if number refusal == n then refusal else numbered refusals n

abbrev all : List Refusal
all =
    why.BadPath ∷ why.NoParent ∷ why.IsDirectory ∷ why.Exists ∷ why.Absent ∷ why.Root ∷
    why.Full ∷ why.JournalFull ∷ why.Device ∷ why.Halted ∷ why.Memory ∷ why.Busy ∷
    why.Touched ∷ why.OldSession ∷ why.BelowFloor ∷ why.NotStaged ∷ why.BadStage ∷
    why.NoImage ∷ why.Damaged ∷ why.WrongPair ∷ why.BadFrame ∷ why.TooLarge ∷
    why.BadMessage ∷ why.NoSeat ∷ why.NoAnswer ∷ why.OldVersion ∷ []

told : (refusal : Refusal) → numbered all (number refusal) ≡ refusal
told why.BadPath = refl
told why.NoParent = refl
told why.IsDirectory = refl
told why.Exists = refl
told why.Absent = refl
told why.Root = refl
told why.Full = refl
told why.JournalFull = refl
told why.Device = refl
told why.Halted = refl
told why.Memory = refl
told why.Busy = refl
told why.Touched = refl
told why.OldSession = refl
told why.BelowFloor = refl
told why.NotStaged = refl
told why.BadStage = refl
told why.NoImage = refl
told why.Damaged = refl
told why.WrongPair = refl
told why.BadFrame = refl
told why.TooLarge = refl
told why.BadMessage = refl
told why.NoSeat = refl
told why.NoAnswer = refl
told why.OldVersion = refl

pub number_tells : (a b : Refusal) → number a ≡ number b → a ≡ b
number_tells a b same = sym (told a) ∙ (ap (numbered all) same ∙ told b)

-- a byte that is the number of none
pub no_refusal : (left : Bytes) (wanted : ℕ) → left ≡ wanted ∷ []
    → ((answer : Answer) → number (cause_of answer) ≢ wanted)
    → SpellsNone IsRefusal refusal_spelling left
no_refusal left wanted is none refusal lawful spelled =
    let known = answer_of refusal in
    none known.0 (ap number known.1 ∙ sym (ap first_of (sym is ∙ spelled)))
