-- Names, marks and entries tell themselves, and so do lists of entries.
use Rattle.std.proofs.Common.{◌≡◌, ℕ, zero, suc, ◌+◌, ◌<◌, List, [], ◌∷◌, ◌++◌, length, take, drop}
use Rattle.std.proofs.Common.{refl, sym, ap, ap₂, ◌∙◌, subst, append_assoc, append-nil, arith}
use Rattle.std.proofs.Common.{◌↔◌, ◌^◌, Bool, true, false, true≢false, is_lt, Less, Equal, Greater}
use Rattle.std.proofs.Common.{Ordering, IsTrue}
use Rattle.std.proofs.Math.Seq.{take-append_seam, drop-append_seam}
use Rattle.std.proofs.lemmas.Grind.{flat_map-append}
use Rattle.std.proofs.lemmas.List.{get_or-map, length-append, length-map}
use Rattle.std.proofs.lemmas.List.Elements.{All-append, All-cons, All-head, All-nil, All-tail}
use Rattle.std.specs.Int.{to_be_bytes, w16}
use Rattle.std.specs.List.{IsAllAdjacentAnswer}
use Rattle.std.specs.Prelude.{All}
use Rattle.syn_mark.specs.Marks.{IsDigestOrDirectory}
use Rattle.syn_mark.specs.declared.mark.Mark.{Mark}
use Rattle.syn_mark.specs.declared.mark.Mark.TheVariants as mark
use Rattle.syn_model.specs.Path.{Bytes, Name, IsName, name_cmp}
use Rattle.syn_model.specs.Tree.{Content, Directory, File}
use Rattle.syn_model.specs.Version.{Two}
use Rattle.syn_model.proofs.ToldSpellings.{digests_tell}
use Rattle.syn_message.proofs.WholeLemmas.{first_of, rest_of}
use Rattle.syn_message.specs.Listings.{AreRising, Entries, IsEntry, IsListing, entries_of}
use Rattle.syn_message.specs.Listings.{entries_spelling, entry_of, entry_spelling, mark_spelling}
use Rattle.syn_message.specs.inner.Listed.{AreEntries, each_spelling}
use Rattle.syn_wire.specs.Names.{name_spelling}
use Rattle.syn_wire.specs.Laws.{NoU16BeginsAnother}
use Rattle.syn_wire.specs.Reads.{BeginsWith, NoneBeginsAnother, NothingStands}
use Rattle.syn_model.proofs.BaseLemmas.{less_of}
use Rattle.syn_model.proofs.SpellingLemmas.{split}
use Rattle.syn_wire.proofs.NameLemmas.{names_tell}
use Rattle.syn_wire.proofs.ManyLemmas.{same_many}

mark_tells : NoneBeginsAnother IsDigestOrDirectory mark_spelling
mark_tells (File a) (File b) r s ha hb e =
    let same = digests_tell Two a b r s ha hb (ap rest_of e) in
    (ap (λ c. File c) same.0, same.1)
mark_tells (File a) Directory r s ha hb e =
    absurd (let k : 1 ≡ 2 = ap first_of e in omega (arith, k))
mark_tells Directory (File b) r s ha hb e =
    absurd (let k : 2 ≡ 1 = ap first_of e in omega (arith, k))
mark_tells Directory Directory r s ha hb e = (refl, ap rest_of e)

-- an entry's spelling with what follows it
parts_of : (entry : Name × Content) (r : Bytes)
    → entry_spelling entry ++ r ≡ name_spelling entry.0 ++ (mark_spelling entry.1 ++ r)
parts_of entry r = append_assoc (name_spelling entry.0) (mark_spelling entry.1) r

pub entry_tells : NoneBeginsAnother IsEntry entry_spelling
entry_tells v w r s hv hw e =
    let name = names_tell v.0 w.0 (mark_spelling v.1 ++ r) (mark_spelling w.1 ++ s) hv.0 hw.0
    (sym (parts_of v r) ∙ (e ∙ parts_of w s)) in
    let mark = mark_tells v.1 w.1 r s hv.1 hw.1 name.1 in
    (ap₂ (λ x y. (x, y)) name.0 mark.0, mark.1)

-- where no mark stands after the name there is no entry
pub no_mark : (bytes after : Bytes) (name : Name) → BeginsWith IsName name_spelling bytes name after
    → NothingStands IsDigestOrDirectory mark_spelling after
    → NothingStands IsEntry entry_spelling bytes
no_mark bytes after name found none entry rest begins =
    let same = names_tell name entry.0 after (mark_spelling entry.1 ++ rest) found.lawful
    begins.lawful.0 (sym found.spelled ∙ (begins.spelled ∙ parts_of entry rest)) in
    none entry.1 rest (record { lawful = begins.lawful.1; spelled = same.1 })

-- what stands after the number of entries is so many of them
pub counted : NoU16BeginsAnother → (bytes after : Bytes) (count : ℕ)
    → BeginsWith (λ n. n < 2 ^ 16) (to_be_bytes w16) bytes count after → (entries : Entries)
    → IsListing entries → bytes ≡ entries_spelling entries
    → BeginsWith (AreEntries count) each_spelling after entries []
counted u16 bytes after count found entries lawful is =
    let small : length entries < 2 ^ 16 = omega (arith, lawful.few) in
    let same = u16 count (length entries) after (each_spelling entries) found.lawful small
    (sym found.spelled ∙ is) in
    record {
      lawful = record { counted = sym same.0; each = lawful.each };
      spelled = same.1 ∙ sym (append-nil (each_spelling entries));
    }

-- and of these there is one reading
pub one_reading : (count : ℕ) (bytes rest more : Bytes) (p q : Entries)
    → BeginsWith (AreEntries count) each_spelling bytes p rest
    → BeginsWith (AreEntries count) each_spelling bytes q more → (p ≡ q) × (rest ≡ more)
one_reading count bytes rest more p q first second =
    same_many IsEntry entry_spelling entry_tells p q rest more first.lawful.each second.lawful.each
    (first.lawful.counted ∙ sym second.lawful.counted) (sym first.spelled ∙ second.spelled)

pub listing_tells : NoU16BeginsAnother → (p q : Entries) → IsListing p → IsListing q
    → entries_spelling p ≡ entries_spelling q → p ≡ q
listing_tells u16 p q hp hq same =
    let small : length p < 2 ^ 16 = omega (arith, hp.few) in
    let found : BeginsWith (λ n. n < 2 ^ 16) (to_be_bytes w16) (entries_spelling p) (length p)
    (each_spelling p) = record { lawful = small; spelled = refl } in
    (one_reading (length p) (each_spelling p) [] [] p q
    (counted u16 (entries_spelling p) (each_spelling p) (length p) found p hp refl)
    (counted u16 (entries_spelling p) (each_spelling p) (length p) found q hq same)).0

-- what a walk over neighbours answers of code's entries
pub rising_answer : (xs : List (Name × Mark)) (b : Bool)
    → IsAllAdjacentAnswer (λ x y b. b ≡ is_lt (name_cmp x.0 y.0)) xs b
    → IsTrue b ↔ AreRising (entries_of xs)
rising_answer xs true below = (
  (λ yes k d short.
      let fewer : k + 1 < length xs = omega (arith, short, length-map xs entry_of) in
      let less = less_of _ (sym (below k ([], mark.Dir) fewer)) in
      let first = get_or-map entry_of xs k ([], mark.Dir) d (omega (arith, fewer)) in
      let second = get_or-map entry_of xs (k + 1) ([], mark.Dir) d fewer in
      ap₂ (λ x y. name_cmp x.0 y.0) first second ∙ less),
  (λ rising. refl),
)
rising_answer xs false found = (
  (λ no. absurd (true≢false (sym no))),
  (λ rising.
      let k = found.0 in
      let short = found.1 in
      let longer : k + 1 < length (entries_of xs) = omega (arith, short, length-map xs entry_of) in
      let first = get_or-map entry_of xs k ([], mark.Dir) ([], Directory) (omega (arith, short)) in
      let second = get_or-map entry_of xs (k + 1) ([], mark.Dir) ([], Directory) short in
      let same = sym (ap₂ (λ x y. name_cmp x.0 y.0) first second) in
      let less = same ∙ rising k ([], Directory) longer in
      absurd (true≢false (sym (ap is_lt less) ∙ sym (found.2 ([], mark.Dir))))),
)
