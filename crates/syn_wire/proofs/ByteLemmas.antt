-- Bytes in parts.
use Rattle.std.proofs.Common.{◌≡◌, ◌<◌, ℕ, [], ◌∷◌, ◌++◌, length, take, drop, sym, ap, ap₂, ◌∙◌}
use Rattle.std.proofs.Common.{subst, append_assoc, append-nil, slice_index_or, Fits, w8, arith}
use Rattle.std.specs.Int.{to_be_bytes, w32}
use Rattle.std.proofs.lemmas.List.{get_or_default, take-append-drop}
use Rattle.std.proofs.lemmas.List.Elements.{All-head, All-tail, All-cons, All-nil}
use Rattle.syn_model.specs.Path.{Bytes}
use Rattle.syn_model.specs.Event.{AreBytes}
use Rattle.syn_wire.specs.Events.{file_spelling}
use Rattle.syn_wire.specs.Reads.{IsBeginning}

abbrev IsByte : ℕ → Type 0
IsByte byte = byte < 256

byte_fits : (n : ℕ) → Fits w8 n → n < 256
byte_fits n h = omega (arith, h)

-- what a slice of bytes has
pub of_slice : (xs : Bytes) → ((i : ℕ) → Fits w8 (slice_index_or xs i 0)) → AreBytes xs
of_slice xs fit k d l =
    subst (λ v. v < 256) (get_or_default xs k 0 d l) (byte_fits (slice_index_or xs k 0) (fit k))

pub in_front : (xs ys : Bytes) → AreBytes (xs ++ ys) → AreBytes xs
in_front [] ys h = All-nil IsByte
in_front (x ∷ xs) ys h =
    All-cons IsByte x xs (All-head IsByte x (xs ++ ys) h)
    (in_front xs ys (All-tail IsByte x (xs ++ ys) h))

-- a count with so many bytes after it is the spelling of a file, and the rest follows
pub file_spelled : (bytes after file rest : Bytes) (count : ℕ) →
    bytes ≡ to_be_bytes w32 count ++ after → after ≡ file ++ rest → length file ≡ count →
    bytes ≡ file_spelling file ++ rest
file_spelled bytes after file rest count spelled whole counted =
    spelled
    ∙ (ap₂ (λ n xs. to_be_bytes w32 n ++ xs) (sym counted) whole
    ∙ sym (append_assoc (to_be_bytes w32 (length file)) file rest))

-- ---- bytes that were added

-- nothing was added
pub begins_alike : (old new : Bytes) → new ≡ old → IsBeginning old new
begins_alike old new same = ([], same ∙ sym (append-nil old))

-- more was added at the end
pub begins_more : (old mid new more : Bytes) → IsBeginning old mid → new ≡ mid ++ more →
    IsBeginning old new
begins_more old mid new more h added =
    (h.0 ++ more, added ∙ (ap (λ b. b ++ more) h.1 ∙ append_assoc old h.0 more))

-- what begins what begins others begins these
pub begins_further : (old mid new : Bytes) → IsBeginning old mid → IsBeginning mid new →
    IsBeginning old new
begins_further old mid new h then = begins_more old mid new then.0 h then.1

-- a file after its length
pub file_added : (front file mid new : Bytes) → mid ≡ front ++ to_be_bytes w32 (length file) →
    new ≡ mid ++ file → new ≡ front ++ file_spelling file
file_added front file mid new begun added =
    added ∙ (ap (λ b. b ++ file) begun ∙ append_assoc front (to_be_bytes w32 (length file)) file)
