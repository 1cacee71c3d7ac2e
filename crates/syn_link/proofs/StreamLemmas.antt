-- A stream is read in one way.
use Rattle.std.proofs.Common.{◌≡◌, List, [], ◌∷◌, ◌++◌, length, flat_map, All, refl, sym, ap₂, ◌∙◌}
use Rattle.std.proofs.Common.{append_assoc, arith}
use Rattle.std.proofs.lemmas.List.Elements.{All-tail}
use Rattle.std.specs.Int.{w32, to_be_bytes}
use Rattle.syn_model.proofs.SpellingLemmas.{split}
use Rattle.syn_wire.specs.Reads.{NoneBeginsAnother}
use Rattle.syn_link.specs.Frames.{Bytes, IsBody, frame_of, HasNoFrame, CutsDoNotMatter}
use Rattle.syn_link.proofs.FrameLemmas.{IsShort}

module _ (tells : NoneBeginsAnother IsShort (to_be_bytes w32)) where
  frames_tell : (a b r s : Bytes) → IsBody a → IsBody b → frame_of a ++ r ≡ frame_of b ++ s →
      (a ≡ b) × (r ≡ s)
  frames_tell a b r s body other e =
      let spelled = sym (append_assoc (to_be_bytes w32 (length a)) a r)
      ∙ (e ∙ append_assoc (to_be_bytes w32 (length b)) b s) in
      let told = tells (length a) (length b) (a ++ r) (b ++ s) (omega (arith, body.1))
      (omega (arith, other.1)) spelled in
      split a b r s told.0 told.1

  first : (body : Bytes) (bodies : List Bytes) → All IsBody (body ∷ bodies) → IsBody body
  first body bodies all = all 0 body (omega arith)

  joined : (body : Bytes) (bodies : List Bytes) (rest : Bytes) → flat_map frame_of (body ∷ bodies)
      ++ rest ≡ frame_of body ++ (flat_map frame_of bodies ++ rest)
  joined body bodies rest = append_assoc (frame_of body) (flat_map frame_of bodies) rest

  one_way : (bodies others : List Bytes) (rest other : Bytes) → All IsBody bodies →
      All IsBody others → HasNoFrame rest → HasNoFrame other →
      flat_map frame_of bodies ++ rest ≡ flat_map frame_of others ++ other →
      (bodies ≡ others) × (rest ≡ other)
  one_way [] [] rest other these those none nor e = (refl, e)
  one_way [] (b ∷ others) rest other these those none nor e =
      absurd (none b (flat_map frame_of others ++ other)
      (record { lawful = first b others those; spelled = e ∙ joined b others other }))
  one_way (a ∷ bodies) [] rest other these those none nor e =
      absurd (nor a (flat_map frame_of bodies ++ rest)
      (record { lawful = first a bodies these; spelled = sym e ∙ joined a bodies rest }))
  one_way (a ∷ bodies) (b ∷ others) rest other these those none nor e =
      let told = frames_tell a b (flat_map frame_of bodies ++ rest)
      (flat_map frame_of others ++ other) (first a bodies these) (first b others those)
      (sym (joined a bodies rest) ∙ (e ∙ joined b others other)) in
      let more = one_way bodies others rest other (All-tail IsBody a bodies these)
      (All-tail IsBody b others those) none nor told.1 in
      (ap₂ (λ x xs. x ∷ xs) told.0 more.0, more.1)

  pub cuts_do_not_matter : CutsDoNotMatter
  cuts_do_not_matter bodies others rest other bytes these none those nor =
      one_way bodies others rest other these.0 those.0 none nor (sym these.1 ∙ those.1)
