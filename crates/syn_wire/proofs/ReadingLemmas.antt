-- What is read of a part, kind by kind.
use Rattle.std.proofs.Common.{◌≡◌, ◌≢◌, ◌<◌, ◌^◌, ℕ, [], ◌∷◌, ◌++◌, length, sym, ap, ◌∙◌, subst}
use Rattle.std.proofs.Common.{Option, Some, None, append_assoc, arith, Result, Ok, Err}
use Rattle.std.specs.Prelude.{IsErrAnd}
use Rattle.std.specs.Int.{to_be_bytes, w16}
use Rattle.syn_model.specs.Path.{Bytes, Path, root}
use Rattle.syn_model.specs.Contents.{Contents}
use Rattle.syn_model.specs.Tree.{Pair, Directory, File}
use Rattle.syn_placed.specs.Pairs.{Pairs, under}
use Rattle.syn_wire.specs.Reads.{BeginsWith, IsReading}
use Rattle.syn_wire.specs.inner.Kinds.{Kind, IsFileOf, file_spelling_of}
use Rattle.syn_wire.specs.declared.error.ReadError.{ReadError}
use Rattle.syn_wire.specs.declared.error.ReadError.TheVariants.{Malformed}
use Rattle.syn_wire.specs.inner.Parts.{LeavesFor, ReadsPart, ReadsParts, parts_pairs}
use Rattle.syn_wire.specs.inner.Parts.{parts_spelling}
use Rattle.syn_wire.proofs.KindLemmas.{files_tell}
use Rattle.syn_wire.proofs.NumberLemmas.{u16_tells}
use Rattle.syn_wire.proofs.PartsLemmas.{own_pair, file_at, directory_at, parts_in, parts_stand}
use Rattle.syn_wire.proofs.PartsLemmas.{under_parts, one_kind}
use Rattle.syn_wire.proofs.NameLemmas.{first_or}

-- an error that a `?` hands on
pub failed_part : (left : Bytes) (P : Option Bytes → Type 0) (r : Result (Unit {0}) ReadError)
    (Q : ReadError → Type 0) → IsErrAnd r Q → ((e : ReadError) → Q e → e ≡ Malformed → P None) →
    LeavesFor r left P
failed_part left P (Err e) Q is none = none e is
failed_part left P (Ok done) Q is none = absurd is

pub left_weaker : (left : Bytes) (P Q : Option Bytes → Type 0) (r : Result (Unit {0}) ReadError) →
    ((rest : Option Bytes) → P rest → Q rest) → LeavesFor r left P → LeavesFor r left Q
left_weaker left P Q (Ok done) weaker read = weaker (Some left) read
left_weaker left P Q (Err e) weaker read = λ malformed. weaker None (read malformed)

module _ (kind : Kind) where
  pub no_file_there : (at : Path) (fields : Bytes) (old new : Pairs) →
      IsReading (IsFileOf kind) (file_spelling_of kind) fields None →
      ReadsPart kind at (1 ∷ fields) old new None
  no_file_there at fields old new none part rest h e =
      let f = file_at kind part fields rest h.part e in
      absurd (none f.contents rest (record { lawful = f.lawful; spelled = f.spelled }))

  pub file_there : (at : Path) (fields : Bytes) (file : Contents) (left : Bytes) (old new : Pairs)
      (entry : Pair) →
      BeginsWith (IsFileOf kind) (file_spelling_of kind) fields file left →
      entry ≡ (at, File file) → new ≡ old ++ entry ∷ [] →
      ReadsPart kind at (1 ∷ fields) old new (Some left)
  file_there at fields file left old new entry found is added part rest h e =
      let f = file_at kind part fields rest h.part e in
      let same = files_tell kind file f.contents left rest found.lawful f.lawful
      (sym found.spelled ∙ f.spelled) in (
        ap (λ b. Some b) same.1,
        added ∙ ap (λ es. old ++ es) (ap (λ x. x ∷ [])
            (is
            ∙ (ap (λ b. (at, File b)) same.0 ∙ sym (own_pair at (File f.contents))))
            ∙ sym (ap (under at) f.alone)),
      )

  pub no_count_there : (at : Path) (fields : Bytes) (old new : Pairs) →
      IsReading (λ n. n < 2 ^ 16) (to_be_bytes w16) fields None →
      ReadsPart kind at (2 ∷ fields) old new None
  no_count_there at fields old new none part rest h e =
      let d = directory_at kind part fields rest h.part e in
      absurd (none (length (parts_in part)) (parts_spelling kind (parts_in part) ++ rest)
      (record { lawful = d.few; spelled = d.spelled }))

  pub directory_there : (at above : Path) (fields below : Bytes) (count : ℕ) (left : Option Bytes)
      (old mid new : Pairs) (entry : Pair) →
      BeginsWith (λ n. n < 2 ^ 16) (to_be_bytes w16) fields count below → above ≡ at →
      entry ≡ (at, Directory) → mid ≡ old ++ entry ∷ [] →
      ReadsParts kind above count below mid new left → ReadsPart kind at (2 ∷ fields) old new left
  directory_there at above fields below count left old mid new entry found copy is added read part
      rest h e =
      let d = directory_at kind part fields rest h.part e in
      let same = u16_tells count (length (parts_in part)) below (parts_spelling kind (parts_in part)
      ++ rest) found.lawful d.few (sym found.spelled ∙ d.spelled) in
      let all = subst (λ p. ReadsParts kind p count below mid new left) copy read
      (parts_in part) rest (sym same.0) (parts_stand kind at part h) same.1 in (
        all.0,
        all.1 ∙ (ap (λ es. es ++ parts_pairs at (parts_in part))
            (added ∙ ap (λ x. old ++ x ∷ []) (is ∙ sym (own_pair at Directory)))
            ∙ (append_assoc old ((at ++ root, Directory) ∷ []) (parts_pairs at (parts_in part))
            ∙ ap (λ es. old ++ es) (ap (λ es. (at ++ root, Directory) ∷ es)
            (sym (under_parts at (parts_in part))) ∙ sym (ap (under at) d.whole)))),
      )

  -- what is there has a kind
  pub nothing_there : (at : Path) (bytes : Bytes) (old new : Pairs) → bytes ≡ [] →
      ReadsPart kind at bytes old new None
  nothing_there at bytes old new empty part rest h e =
      one_kind kind at part bytes rest h e
      (λ fields is. absurd (omega (arith, ap length (sym empty ∙ is))))
      (λ fields is. absurd (omega (arith, ap length (sym empty ∙ is))))

  pub other_kind_there : (at : Path) (first : ℕ) (bytes fields : Bytes) (old new : Pairs) →
      bytes ≡ first ∷ fields → first ≢ 1 → first ≢ 2 → ReadsPart kind at bytes old new None
  other_kind_there at first bytes fields old new is no_file no_directory part rest h e =
      one_kind kind at part bytes rest h e
      (λ xs one. absurd (no_file (ap (λ b. first_or b 0) (sym is ∙ one))))
      (λ xs two. absurd (no_directory (ap (λ b. first_or b 0) (sym is ∙ two))))
