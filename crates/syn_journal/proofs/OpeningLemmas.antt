-- An opening gives what a disk may mean.
use Rattle.std.proofs.Common.{◌≡◌, ℕ, suc, [], ◌∷◌, sym, ap, ◌∙◌, refl, inl, inr, arith}
use Rattle.syn_model.specs.Path.{Bytes}
use Rattle.syn_journal.specs.Layout.{Value, image_alone, bytes_left}
use Rattle.syn_machine.specs.Machine.{Journaled, Arms, opened, recovered, Meets, room_after}
use Rattle.syn_machine.specs.Machine.{reopened, with_record as and_record, Up}
use Rattle.syn_journal.specs.Meaning.{Keeping, MayMean, as_kept, with_record, compacted, OpensTo}

-- after an image alone stands no record
alone_room : (image : Bytes) → room_after image ≡ bytes_left (image_alone image)
alone_room image = omega arith

module _ {V W : Type 0} (keeping : Keeping V W) (machine : Journaled V W) (calls : ℕ) (arms : Arms)
    (value : Value) (generation : ℕ)
    (made : Meets machine.arms calls Up arms 0) where
  pub opens_to : MayMean keeping machine value generation →
      OpensTo keeping machine calls arms value generation
  opens_to (as_kept means) = record {
    new = reopened machine machine.room machine.generation arms;
    added = [];
    opens = opened machine.room machine.generation arms made (inl (refl, refl));
    opened = record { up = refl; idle = refl; settled = refl };
    armed = refl;
    means = record { stands = means.stands; room = means.room; numbered = means.numbered };
  }
  opens_to (with_record means) = record {
    new =
        and_record keeping.layout
        (reopened machine machine.room machine.generation arms) means.added arms;
    added = means.added ∷ [];
    opens = recovered arms means.added made means.writing means.can_add;
    opened = record { up = refl; idle = refl; settled = refl };
    armed = refl;
    means = record { stands = means.stands; room = means.room; numbered = means.numbered };
  }
  opens_to (compacted means) =
      let image = keeping.layout.image machine.value in
      record {
        new = reopened machine (room_after image) (suc machine.generation) arms;
        added = [];
        opens =
            opened (room_after image) (suc machine.generation) arms made
            (inr (means.compacting, refl, refl));
        opened = record { up = refl; idle = refl; settled = refl };
        armed = refl;
        means = record {
          stands = means.stands;
          room = alone_room image ∙ ap (λ v. bytes_left v) (sym means.alone);
          numbered = means.numbered;
        };
      }
