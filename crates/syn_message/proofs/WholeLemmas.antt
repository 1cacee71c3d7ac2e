-- A body that is read to its end: what stands in front, and that nothing follows.
use Rattle.std.proofs.Common.{◌≡◌, ◌≢◌, ◌∙◌, [], ◌∷◌, ◌++◌, List, ℕ, Result, Ok, Err, sym}
use Rattle.std.proofs.Common.{append-nil}
use Rattle.std.specs.Prelude.{IsErrAnd}
use Rattle.syn_model.specs.Path.{Bytes}
use Rattle.syn_message.specs.Bodies.{ReadsWhole, SpellsNone}
use Rattle.syn_wire.specs.Reads.{BeginsWith, NoneBeginsAnother, NothingStands, Reads}
use Rattle.syn_wire.specs.declared.error.ReadError.{ReadError}
use Rattle.syn_wire.specs.declared.error.ReadError.TheVariants.{Malformed}
use Rattle.syn_wire.proofs.Sequences.{failed}

-- the first byte of a body, and what stands after it
abbrev pub first_of : Bytes → ℕ
first_of [] = 0
first_of (x ∷ xs) = x

abbrev pub rest_of : Bytes → Bytes
rest_of [] = []
rest_of (x ∷ xs) = xs

pub failed_whole : {V X : Type 0} (P : V → Type 0) (f : V → List ℕ) (view : X → V) (body : List ℕ)
    (r : Result X ReadError) (Q : ReadError → Type 0) → IsErrAnd r Q →
    ((e : ReadError) → Q e → e ≡ Malformed → SpellsNone P f body) → ReadsWhole P f view body r
failed_whole P f view body (Err e) Q is none = none e is
failed_whole P f view body (Ok x) Q is none = absurd is

module _ {A : Type 0} (P : A → Type 0) (f : A → List ℕ) where
  -- there is no value in front
  pub no_value : (bytes : List ℕ) → NothingStands P f bytes → SpellsNone P f bytes
  no_value bytes none value lawful is =
      none value [] (record { lawful = lawful; spelled = is ∙ sym (append-nil (f value)) })

  -- something follows the value
  pub no_end : NoneBeginsAnother P f → (bytes rest : List ℕ) (value : A)
      → BeginsWith P f bytes value rest → rest ≢ [] → SpellsNone P f bytes
  no_end tells bytes rest value found more other lawful is =
      more (tells value other rest [] found.lawful lawful
      (sym found.spelled ∙ (is ∙ sym (append-nil (f other))))).1

module _ {A B : Type 0} (P : A → Type 0) (Q : B → Type 0) (f : A → List ℕ) (g : B → List ℕ) where
  -- the rest after the first is no second one
  pub no_rest : NoneBeginsAnother P f → (bytes after : List ℕ) (first : A)
      → BeginsWith P f bytes first after → SpellsNone Q g after
      → (a : A) (b : B) → P a → Q b → bytes ≢ f a ++ g b
  no_rest tells bytes after first found none a b lawful second is =
      none b second (tells first a after (g b) found.lawful lawful (sym found.spelled ∙ is)).1

-- two spellings with nothing after them
pub alone : {A : Type 0} (P : A → Type 0) (f : A → Bytes) → NoneBeginsAnother P f → (a b : A)
    → P a → P b → f a ≡ f b → a ≡ b
alone P f tells a b p q same =
    (tells a b [] [] p q (append-nil (f a) ∙ (same ∙ sym (append-nil (f b))))).0
