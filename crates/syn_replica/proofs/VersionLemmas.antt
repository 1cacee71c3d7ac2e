-- No image is of both versions.
use Rattle.std.proofs.Common.{◌≡◌, ℕ, List, ◌∷◌, sym, ap, ◌∙◌, arith}
use Rattle.syn_model.specs.Path.{Bytes}
use Rattle.syn_model.specs.Standing.{Standing}
use Rattle.syn_model.specs.Version.{One, current_version}
use Rattle.syn_model.specs.Image.{GivesIn, IsOldImage}

-- the byte after the letters
version_at : Bytes → ℕ
version_at (a ∷ b ∷ c ∷ d ∷ version ∷ rest) = version
version_at bytes = 0

-- an image of version 2 is none of version 1
pub not_old : (pair : ℕ) (image : Bytes) (payloads : List Bytes) (standing : Standing) →
    GivesIn current_version pair image payloads standing → ¬ IsOldImage image
unfolding version_at
not_old pair image payloads standing gives old =
    let two : 2 ≡ 1 = ap version_at (sym gives.image_is ∙ old.1) in
    absurd (omega (arith, two))

-- and what is given in version 1 has an image of it
pub old_of : (pair : ℕ) (image : Bytes) (payloads : List Bytes) (standing : Standing) →
    GivesIn One pair image payloads standing → IsOldImage image
old_of pair image payloads standing gives = (_, gives.image_is)
