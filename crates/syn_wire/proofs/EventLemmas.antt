-- The spelling of an event tells it.
use Rattle.std.proofs.Common.{◌≡◌, ◌≢◌, ℕ, ◌∷◌, ◌++◌, length, sym, ap, ◌∙◌, None, append_assoc}
use Rattle.std.proofs.Common.{arith, refl}
use Rattle.std.specs.Int.{to_be_bytes, w32}
use Rattle.syn_model.specs.Path.{Bytes, Path, IsPath, path_spelling}
use Rattle.syn_model.specs.Version.{Version}
use Rattle.syn_model.specs.Contents.{IsMode}
use Rattle.syn_model.specs.Tree.{Tree}
use Rattle.syn_model.specs.Event.{Event, Token, Edited, Began, Replaced, Put, MakeDir, Remove}
use Rattle.syn_model.specs.Event.{Chmod, IsLawfulToken}
use Rattle.syn_model.specs.Spelling.{event_spelling_in, spelling_in, token_spelling}
use Rattle.syn_model.specs.Laws.{NoSpellingBeginsAnother}
use Rattle.syn_wire.specs.Reads.{IsReading, NoneBeginsAnother}
use Rattle.syn_wire.specs.Events.{Both, IsFile, IsNumber32, IsNumber64}
use Rattle.syn_wire.specs.Events.{IsSpelledEventIn, both_spelling, file_spelling, mode_spelling}
use Rattle.syn_wire.specs.Events.{number_spelling, number64_spelling}
use Rattle.syn_wire.specs.Trees.{IsOptionalTreeIn}
use Rattle.syn_wire.specs.Laws.{NoEventBeginsAnother}
use Rattle.syn_wire.proofs.NameLemmas.{paths_tell, first_or, rest_of}
use Rattle.syn_wire.proofs.NumberLemmas.{u16_tells, u32_tells, u64_tells}
use Rattle.syn_wire.proofs.Sequences.{both_tell}
use Rattle.syn_model.proofs.SpellingLemmas.{split, heads_differ}

-- ---- parts

pub file_tells : NoneBeginsAnother IsFile file_spelling
file_tells v w r s hv hw e =
    let count = u32_tells (length v) (length w) (v ++ r) (w ++ s) hv.brief hw.brief
    (sym (append_assoc (to_be_bytes w32 (length v)) v r)
    ∙ (e ∙ append_assoc (to_be_bytes w32 (length w)) w s)) in
    split v w r s count.0 count.1

abbrev pub IsPlace : ℕ × Path → Type 0
IsPlace = Both IsNumber32 IsPath

abbrev pub place_spelling : ℕ × Path → Bytes
place_spelling = both_spelling number_spelling path_spelling

abbrev pub IsPutOf : (ℕ × Path) × Bytes → Type 0
IsPutOf = Both IsPlace IsFile

abbrev pub put_spelling : (ℕ × Path) × Bytes → Bytes
put_spelling = both_spelling place_spelling file_spelling

pub place_tells : NoneBeginsAnother IsPlace place_spelling
place_tells = both_tell IsNumber32 IsPath number_spelling path_spelling u32_tells paths_tell

put_tells : NoneBeginsAnother IsPutOf put_spelling
put_tells = both_tell IsPlace IsFile place_spelling file_spelling place_tells file_tells

pub mode_tells : NoneBeginsAnother IsMode mode_spelling
mode_tells m n r s hm hn e = u16_tells m n r s (omega (arith, hm)) (omega (arith, hn)) e

-- a user, a path and a mode in a row
abbrev pub IsChmodOf : (ℕ × Path) × ℕ → Type 0
IsChmodOf = Both IsPlace IsMode

abbrev pub chmod_spelling : (ℕ × Path) × ℕ → Bytes
chmod_spelling = both_spelling place_spelling mode_spelling

chmod_tells : NoneBeginsAnother IsChmodOf chmod_spelling
chmod_tells = both_tell IsPlace IsMode place_spelling mode_spelling place_tells mode_tells

pub token_tells : NoneBeginsAnother IsLawfulToken token_spelling
token_tells v w r s hv hw e =
    let both = both_tell IsNumber64 IsNumber32 number64_spelling number_spelling u64_tells u32_tells
    (v.session, v.item) (w.session, w.item) r s hv hw e in
    (ap (λ p. record { session = p.0; item = p.1 }) both.0, both.1)

-- the parts of a replacement in a row
abbrev pub IsItem : Token × Path → Type 0
IsItem = Both IsLawfulToken IsPath

abbrev pub item_spelling : Token × Path → Bytes
item_spelling = both_spelling token_spelling path_spelling

abbrev pub IsSince : (Token × Path) × ℕ → Type 0
IsSince = Both IsItem IsNumber64

abbrev pub since_spelling : (Token × Path) × ℕ → Bytes
since_spelling = both_spelling item_spelling number64_spelling

abbrev pub IsReplacement : Version → ((Token × Path) × ℕ) × Tree → Type 0
IsReplacement version = Both IsSince (IsOptionalTreeIn version)

abbrev pub replacement_spelling : Version → ((Token × Path) × ℕ) × Tree → Bytes
replacement_spelling version = both_spelling since_spelling (spelling_in version)

pub item_tells : NoneBeginsAnother IsItem item_spelling
item_tells = both_tell IsLawfulToken IsPath token_spelling path_spelling token_tells paths_tell

pub since_tells : NoneBeginsAnother IsSince since_spelling
since_tells = both_tell IsItem IsNumber64 item_spelling number64_spelling item_tells u64_tells

replacement_tells : NoSpellingBeginsAnother → (version : Version) →
    NoneBeginsAnother (IsReplacement version) (replacement_spelling version)
replacement_tells trees version =
    both_tell IsSince (IsOptionalTreeIn version) since_spelling (spelling_in version) since_tells
    (λ t u r s ht hu e. trees version t u r s ht.part hu.part ht.fits hu.fits e)

pub replacement_parts : (version : Version) (token : Token) (path : Path) (since : ℕ) (new : Tree)
    (rest : Bytes) → event_spelling_in version (Replaced token path since new) ++ rest
    ≡ 5 ∷ (replacement_spelling version (((token, path), since), new) ++ rest)
replacement_parts version token path since new rest =
    ap (λ xs. 5 ∷ (xs ++ rest)) (
    sym (append_assoc (token_spelling token) (path_spelling path)
    (number64_spelling since ++ spelling_in version new))
    ∙ sym (append_assoc (item_spelling (token, path)) (number64_spelling since)
    (spelling_in version new))
    )

-- ---- kinds

-- the parts of a put in a row
pub put_parts : (version : Version) (user : ℕ) (path : Path) (bytes rest : Bytes) →
    event_spelling_in version (Edited user (Put path bytes)) ++ rest
    ≡ 1 ∷ (put_spelling ((user, path), bytes) ++ rest)
put_parts version user path bytes rest =
    ap (λ xs. 1 ∷ (xs ++ rest))
    (sym (append_assoc (number_spelling user) (path_spelling path) (file_spelling bytes)))

-- and those of a change of a mode
pub chmod_parts : (version : Version) (user : ℕ) (path : Path) (mode : ℕ) (rest : Bytes) →
    event_spelling_in version (Edited user (Chmod path mode)) ++ rest
    ≡ 6 ∷ (chmod_spelling ((user, path), mode) ++ rest)
chmod_parts version user path mode rest =
    ap (λ xs. 6 ∷ (xs ++ rest))
    (sym (append_assoc (number_spelling user) (path_spelling path) (mode_spelling mode)))

abbrev kind_of : Event → ℕ
kind_of (Edited user (Put path bytes)) = 1
kind_of (Edited user (MakeDir path)) = 2
kind_of (Edited user (Remove path)) = 3
kind_of (Began session) = 4
kind_of (Replaced token path since new) = 5
kind_of (Edited user (Chmod path mode)) = 6

-- an event is spelled behind its kind
begins_kind : (version : Version) (event : Event) (rest : Bytes) →
    first_or (event_spelling_in version event ++ rest) 0 ≡ kind_of event
begins_kind version (Edited user (Put path bytes)) rest = refl
begins_kind version (Edited user (MakeDir path)) rest = refl
begins_kind version (Edited user (Remove path)) rest = refl
begins_kind version (Began session) rest = refl
begins_kind version (Replaced token path since new) rest = refl
begins_kind version (Edited user (Chmod path mode)) rest = refl

kind_tells : (version : Version) (v w : Event) (r s : Bytes) →
    event_spelling_in version v ++ r ≡ event_spelling_in version w ++ s → kind_of v ≡ kind_of w
kind_tells version v w r s e =
    sym (begins_kind version v r) ∙ (ap (λ xs. first_or xs 0) e ∙ begins_kind version w s)

pub event_tells : NoSpellingBeginsAnother → NoEventBeginsAnother
event_tells trees version (Edited u (Put p b)) (Edited v (Put q c)) r s hv hw e =
    let same = put_tells ((u, p), b) ((v, q), c) r s
    ((hv.0.0, hv.0.1.0), record { bytes = hv.0.1.1; brief = hv.1 })
    ((hw.0.0, hw.0.1.0), record { bytes = hw.0.1.1; brief = hw.1 })
    (ap rest_of (sym (put_parts version u p b r) ∙ (e ∙ put_parts version v q c s))) in
    (ap (λ x. Edited x.0.0 (Put x.0.1 x.1)) same.0, same.1)
event_tells trees version (Edited u (MakeDir p)) (Edited v (MakeDir q)) r s hv hw e =
    let same = place_tells (u, p) (v, q) r s hv.0 hw.0 (ap rest_of e) in
    (ap (λ x. Edited x.0 (MakeDir x.1)) same.0, same.1)
event_tells trees version (Edited u (Remove p)) (Edited v (Remove q)) r s hv hw e =
    let same = place_tells (u, p) (v, q) r s hv.0 hw.0 (ap rest_of e) in
    (ap (λ x. Edited x.0 (Remove x.1)) same.0, same.1)
event_tells trees version (Began m) (Began n) r s hv hw e =
    let same = u64_tells m n r s hv.0 hw.0 (ap rest_of e) in
    (ap (λ x. Began x) same.0, same.1)
event_tells trees version (Replaced t p k new) (Replaced u q l old) r s hv hw e =
    let same = replacement_tells trees version (((t, p), k), new) (((u, q), l), old) r s
    (((hv.0.0, hv.0.1), hv.0.2), record { part = hv.0.3; fits = hv.1.0; paths = hv.1.1 })
    (((hw.0.0, hw.0.1), hw.0.2), record { part = hw.0.3; fits = hw.1.0; paths = hw.1.1 })
    (ap rest_of (sym (replacement_parts version t p k new r)
    ∙ (e ∙ replacement_parts version u q l old s))) in
    (ap (λ x. Replaced x.0.0.0 x.0.0.1 x.0.1 x.1) same.0, same.1)
event_tells trees version (Edited u (Chmod p m)) (Edited v (Chmod q n)) r s hv hw e =
    let same = chmod_tells ((u, p), m) ((v, q), n) r s
    ((hv.0.0, hv.0.1.0), hv.0.1.1) ((hw.0.0, hw.0.1.0), hw.0.1.1)
    (ap rest_of (sym (chmod_parts version u p m r) ∙ (e ∙ chmod_parts version v q n s))) in
    (ap (λ x. Edited x.0.0 (Chmod x.0.1 x.1)) same.0, same.1)
event_tells trees version (Began m) (Edited v (Put q c)) r s hv hw e =
    absurd (omega (arith, kind_tells version (Began m) (Edited v (Put q c)) r s e))
event_tells trees version (Replaced t p k new) (Edited v (Put q c)) r s hv hw e =
    absurd (omega (arith, kind_tells version (Replaced t p k new) (Edited v (Put q c)) r s e))
event_tells trees version v w r s hv hw e =
    absurd (omega (arith, kind_tells version v w r s e))

-- ---- what is read after a kind

is_kind : (version : Version) (kind : ℕ) (fields : Bytes) (event : Event) (rest : Bytes) →
    kind ∷ fields ≡ event_spelling_in version event ++ rest → kind ≡ kind_of event
is_kind version kind fields event rest e =
    ap (λ xs. first_or xs 0) e ∙ begins_kind version event rest

pub put_none : (version : Version) (fields : Bytes) → IsReading IsPutOf put_spelling fields None →
    IsReading (IsSpelledEventIn version) (event_spelling_in version) (1 ∷ fields) None
put_none version fields none (Edited user (Put path bytes)) rest begins =
    none ((user, path), bytes) rest (record {
      lawful = (
        (begins.lawful.0.0, begins.lawful.0.1.0),
        record { bytes = begins.lawful.0.1.1; brief = begins.lawful.1 },
      );
      spelled = ap rest_of (begins.spelled ∙ put_parts version user path bytes rest);
    })
put_none version fields none event rest begins =
    absurd (omega (arith, is_kind version 1 fields event rest begins.spelled))

pub make_dir_none : (version : Version) (fields : Bytes) → IsReading IsPlace place_spelling fields
    None → IsReading (IsSpelledEventIn version) (event_spelling_in version) (2 ∷ fields) None
make_dir_none version fields none (Edited user (MakeDir path)) rest begins =
    none (user, path) rest
    (record { lawful = begins.lawful.0; spelled = ap rest_of begins.spelled })
make_dir_none version fields none event rest begins =
    absurd (omega (arith, is_kind version 2 fields event rest begins.spelled))

pub remove_none : (version : Version) (fields : Bytes) → IsReading IsPlace place_spelling fields
    None → IsReading (IsSpelledEventIn version) (event_spelling_in version) (3 ∷ fields) None
remove_none version fields none (Edited user (Remove path)) rest begins =
    none (user, path) rest
    (record { lawful = begins.lawful.0; spelled = ap rest_of begins.spelled })
remove_none version fields none event rest begins =
    absurd (omega (arith, is_kind version 3 fields event rest begins.spelled))

pub replaced_none : (version : Version) (fields : Bytes) →
    IsReading (IsReplacement version) (replacement_spelling version) fields None →
    IsReading (IsSpelledEventIn version) (event_spelling_in version) (5 ∷ fields) None
replaced_none version fields none (Replaced token path since new) rest begins =
    none (((token, path), since), new) rest (record {
      lawful = (
        ((begins.lawful.0.0, begins.lawful.0.1), begins.lawful.0.2),
        record {
          part =
              begins.lawful.0.3;
          fits = begins.lawful.1.0;
          paths = begins.lawful.1.1;
        },
      );
      spelled = ap rest_of (begins.spelled ∙ replacement_parts version token path since new rest);
    })
replaced_none version fields none (Edited user (Put path bytes)) rest begins =
    absurd (omega (
      arith,
      is_kind version 5 fields (Edited user (Put path bytes)) rest
          begins.spelled,
    ))
replaced_none version fields none event rest begins =
    absurd (omega (arith, is_kind version 5 fields event rest begins.spelled))

pub chmod_none : (version : Version) (fields : Bytes) → IsReading IsChmodOf chmod_spelling fields
    None → IsReading (IsSpelledEventIn version) (event_spelling_in version) (6 ∷ fields) None
chmod_none version fields none (Edited user (Chmod path mode)) rest begins =
    none ((user, path), mode) rest (record {
      lawful = ((begins.lawful.0.0, begins.lawful.0.1.0), begins.lawful.0.1.1);
      spelled = ap rest_of (begins.spelled ∙ chmod_parts version user path mode rest);
    })
chmod_none version fields none event rest begins =
    absurd (omega (arith, is_kind version 6 fields event rest begins.spelled))
