-- The spelling of a name or of names tells them.
use Rattle.std.proofs.Common.{◌≡◌, ℕ, zero, suc, ◌+◌, ◌-◌, slice_index_or, ◌<◌, ◌≤◌, [], ◌∷◌, ◌++◌}
use Rattle.std.proofs.Common.{length, take, drop, refl, sym, ap, ap₂, ◌∙◌, subst, append_assoc}
use Rattle.std.proofs.Common.{append-nil, arith}
use Rattle.std.specs.Prelude.{All}
use Rattle.std.proofs.Math.Seq.{take-append_seam, drop-append_seam, take-length}
use Rattle.std.proofs.lemmas.List.Elements.{All-head, All-tail, All-cons, All-nil, All-append}
use Rattle.std.proofs.lemmas.List.{length-append, take_more}
use Rattle.std.proofs.lemmas.Grind.{flat_map-append}
use Rattle.syn_model.specs.Path.{Bytes, Name, Path, IsName, IsPath, path_spelling}
use Rattle.syn_wire.specs.Reads.{BeginsWith, NoneBeginsAnother}
use Rattle.syn_wire.specs.Names.{AreNames, name_spelling, names_spelling}
use Rattle.syn_model.proofs.SpellingLemmas.{split}
use Rattle.syn_wire.proofs.ManyLemmas.{same_many}

abbrev pub first_or : Bytes → ℕ → ℕ
first_or [] d = d
first_or (x ∷ xs) d = x

abbrev pub rest_of : Bytes → Bytes
rest_of [] = []
rest_of (x ∷ xs) = xs

pub names_tell : NoneBeginsAnother IsName name_spelling
names_tell v w r s hv hw e =
    let heads : length v ≡ length w = ap (λ xs. first_or xs 0) e in
    split v w r s heads (ap rest_of e)

-- ---- a name after its length

-- so many bytes are the name, where one is there
pub front_lawful : (first : ℕ) (bytes after front back : Bytes) → bytes ≡ first ∷ after →
    after ≡ front ++ back → length front ≡ first → (value : Name) (rest : Bytes) →
    BeginsWith IsName name_spelling bytes value rest → IsName front
front_lawful first bytes after front back parts all counted value rest begins =
    let whole = sym parts ∙ begins.spelled in
    let same = split front value back rest (counted ∙ ap (λ xs. first_or xs 0) whole)
    (sym all ∙ ap rest_of whole) in
    subst IsName (sym same.0) begins.lawful

pub paths_tell : NoneBeginsAnother IsPath path_spelling
paths_tell p q r s hp hq e =
    same_many IsName name_spelling names_tell p q r s hp.names hq.names
    (ap (λ xs. first_or xs 0) e) (ap rest_of e)

-- the names that were read are those of the path that the bytes begin with
pub path_of_names : (count : ℕ) (names : Path) (bytes rest : Bytes) (path : Path) (more : Bytes) →
    BeginsWith (AreNames count) names_spelling bytes names rest →
    BeginsWith IsPath path_spelling (count ∷ bytes) path more → IsPath names
path_of_names count names bytes rest path more read begins =
    let counts : count ≡ length path = ap (λ xs. first_or xs 0) begins.spelled in
    let same = same_many IsName name_spelling names_tell names path rest more read.lawful.each
    begins.lawful.names (read.lawful.counted ∙ counts)
    (sym read.spelled ∙ ap rest_of begins.spelled) in
    subst IsPath (sym same.0) begins.lawful

-- what a pattern of a first byte and the others takes apart
pub first_and_rest : (xs : Bytes) → 1 ≤ length xs →
    xs ≡ slice_index_or xs 0 0 ∷ take (length xs - 1) (drop 1 xs)
first_and_rest [] l = absurd (omega arith)
first_and_rest (x ∷ xs) l = ap (λ ys. x ∷ ys) (sym (take-all (length xs) xs))
  where
    all : (n m : ℕ) → m ≡ suc n → m - 1 ≡ n
    all n m e = omega arith

    take-all : (n : ℕ) (xs : Bytes) → take (length (x ∷ xs) - 1) xs ≡ xs
    take-all n xs = ap (λ k. take k xs) (all (length xs) (length (x ∷ xs)) refl) ∙ take-length xs

-- ---- what is written of a path

-- one name more after its length
pub name_added : (names : Path) (i : ℕ) (name : Name) (text bytes front old pushed new : Bytes) →
    i < length names → name ≡ slice_index_or names i name → text ≡ name → bytes ≡ text →
    old ≡ front ++ names_spelling (take i names) → pushed ≡ old ++ length text ∷ [] →
    new ≡ pushed ++ bytes → new ≡ front ++ names_spelling (take (i + 1) names)
name_added names i name text bytes front old pushed new l is texted written so_far begun added =
    added ∙ (ap₂ (λ x y. x ++ y) begun written
    ∙ (append_assoc old (length text ∷ []) text ∙ (ap₂ (λ x t. x ++ name_spelling t) so_far texted
    ∙ (append_assoc front (names_spelling (take i names)) (name_spelling name)
    ∙ ap (λ b. front ++ b) (sym more)))))
  where
    more : names_spelling (take (i + 1) names) ≡ names_spelling (take i names) ++ name_spelling name
    more =
        ap names_spelling (take_more names i name l ∙ ap (λ y. take i names ++ y ∷ []) (sym is))
        ∙ (flat_map-append name_spelling (take i names) (name ∷ [])
        ∙ ap (λ b. names_spelling (take i names) ++ b) (append-nil (name_spelling name)))

-- the count and all names
pub path_added : (path names : Path) (i : ℕ) (front first new : Bytes) → names ≡ path →
    i ≡ length names → first ≡ front ++ length names ∷ [] →
    new ≡ first ++ names_spelling (take i names) → new ≡ front ++ path_spelling path
path_added path names i front first new same ended begun written =
    written ∙ (ap₂ (λ b ns. b ++ names_spelling ns) begun
    (ap (λ n. take n names) ended ∙ take-length names)
    ∙ (append_assoc front (length names ∷ []) (names_spelling names)
    ∙ ap (λ p. front ++ path_spelling p) same))
