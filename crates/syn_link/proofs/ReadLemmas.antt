-- What came from a reader after what was held.
use Rattle.std.proofs.Common.{◌≡◌, [], ◌∷◌, ◌++◌, length, Option, None, refl, sym, ap, subst, ◌∙◌}
use Rattle.std.proofs.Common.{◌⊎◌, append-nil, arith, inl, inr}
use Rattle.std.specs.Io.KnownBytes.{Consumes, IsAtEnd}
use Rattle.std.proofs.KnownBytes.{Consumes-trans}
use Rattle.syn_link.specs.Frames.{Bytes, IsFront, ClaimsNothing, ClaimsTooMuch}
use Rattle.syn_link.specs.Streams.{Comes, EndsBefore, ComesAtFault}
use Rattle.syn_link.specs.declared.error.LinkError.{LinkError}
use Rattle.syn_link.specs.declared.error.LinkError.TheVariants.{BadFrame, TooLarge, Device, Memory}

module _ (given left : Option Bytes) (held kept now came : Bytes) (e : now ≡ held ++ came) where
  at_front : (found : Option Bytes) → Consumes given left came → IsFront now found kept
      → Comes given left held kept found
  at_front found consumed front = record {
    came = came;
    consumed = consumed;
    front = subst (λ (l : Bytes). IsFront l found kept) e front;
  }

  -- the framer refuses what came, and keeps it
  pub at_fault : (error : LinkError) → Consumes given left came → kept ≡ now
      → (error ≡ BadFrame → ClaimsNothing now) → (error ≡ TooLarge → ClaimsTooMuch now)
      → ComesAtFault given left held kept error
  at_fault BadFrame consumed same bad large = record {
    came = came;
    consumed = consumed;
    whole = same ∙ e;
    fault = subst ClaimsNothing (sym same) (bad refl);
  }
  at_fault TooLarge consumed same bad large = record {
    came = came;
    consumed = consumed;
    whole = same ∙ e;
    fault = subst ClaimsTooMuch (sym same) (large refl);
  }
  at_fault Device consumed same bad large = record
      { came = came; consumed = tt; whole = same ∙ e; fault = tt }
  at_fault Memory consumed same bad large = record
      { came = came; consumed = tt; whole = same ∙ e; fault = tt }

  -- a read failed, or what it gave met no memory, and what was held is kept
  pub at_failure : (error : LinkError) → (error ≡ Device) ⊎ (error ≡ Memory) → kept ≡ now
      → ComesAtFault given left held kept error
  at_failure error (inl is) same = subst (ComesAtFault given left held kept) (sym is)
      (record { came = came; consumed = tt; whole = same ∙ e; fault = tt })
  at_failure error (inr is) same = subst (ComesAtFault given left held kept) (sym is)
      (record { came = came; consumed = tt; whole = same ∙ e; fault = tt })

nothing : (bytes : Bytes) → length bytes ≡ 0 → bytes ≡ []
nothing [] e = refl
nothing (x ∷ xs) e = absurd (omega (arith, e))

-- the reader ended, and no whole frame was in front
pub at_end : (given mid left : Option Bytes) (held before now kept came bytes : Bytes)
    → before ≡ held ++ came → Consumes given mid came → IsFront before None now
    → length bytes ≡ 0 → kept ≡ now ++ bytes → Consumes mid left bytes → IsAtEnd left
    → EndsBefore given left held kept
at_end given mid left held before now kept came bytes e consumed front none fed more ended =
    let empty = nothing bytes none in
    let same : kept ≡ now = fed ∙ ap (λ (l : Bytes). now ++ l) empty ∙ append-nil now in
    let through : Consumes given left came =
    subst (Consumes given left) (ap (λ (l : Bytes). came ++ l) empty ∙ append-nil came)
    (Consumes-trans given mid left came bytes consumed more) in record {
      comes = at_front given left held kept before came e None through
          (subst (IsFront before None) (sym same) front);
      ended = ended;
    }
