-- The image of a replica tells its pair and what it keeps.
use Rattle.std.proofs.Common.{◌≡◌, ◌≢◌, ◌<◌, ◌≤◌, ◌^◌, ◌+◌, ◌-◌, ℕ, zero, suc, true, List, [], ◌∷◌}
use Rattle.std.proofs.Common.{◌++◌}
use Rattle.std.proofs.Common.{length, take, drop, slice_index_or, All, Option, Some, None, IfSome}
use Rattle.std.proofs.Common.{refl, sym, ap, ap₂, ◌∙◌, subst, append_assoc, append-nil, arith}
use Rattle.std.specs.Int.{to_be_bytes, w16}
use Rattle.std.proofs.lemmas.List.{length-append, take_more}
use Rattle.std.proofs.lemmas.List.Elements.{All-head, All-tail, All-cons, All-nil, All-append}
use Rattle.std.proofs.lemmas.Grind.{flat_map-append}
use Rattle.syn_model.specs.Path.{Bytes, IsPath, path_spelling}
use Rattle.syn_model.specs.Tree.{Tree}
use Rattle.syn_model.proofs.VersionLemmas.{standing_now, tree_now}
use Rattle.syn_model.specs.Event.{Token, IsLawfulToken}
use Rattle.syn_model.specs.Spelling.{spelling_in, token_spelling}
use Rattle.syn_model.specs.Version.{Version, One}
use Rattle.syn_model.specs.Laws.{NoSpellingBeginsAnother}
use Rattle.syn_model.specs.Limits.{greatest, greatest_old_spelling}
use Rattle.syn_model.specs.Standing.{Touch, Standing, most_touches}
use Rattle.syn_model.specs.Image.{IsStanding, IsStandingIn, replica_front, last_token_spelling}
use Rattle.syn_model.specs.Image.{touch_spelling}
use Rattle.syn_history.specs.Past.{Past, IsLawful, standing_with, past_in}
use Rattle.syn_wire.specs.Events.{IsNumber64, number64_spelling}
use Rattle.syn_wire.specs.Reads.{BeginsWith, NoneBeginsAnother, NothingStands}
use Rattle.syn_wire.specs.Trees.{IsWholeTreeIn}
use Rattle.syn_wire.proofs.EventLemmas.{token_tells}
use Rattle.syn_wire.proofs.NameLemmas.{paths_tell, first_or, rest_of}
use Rattle.syn_wire.proofs.NumberLemmas.{u16_tells, u64_tells}
use Rattle.syn_wire.proofs.Sequences.{both_tell}
use Rattle.syn_wire.proofs.WritingLemmas.{whole_fits_part}
use Rattle.syn_image.specs.Images.{IsImage, spelled_image, NoImageBeginsAnother, IsLastToken}
use Rattle.syn_image.specs.Images.{IsTouch, AreTouches, touches_spelling}
use Rattle.syn_image.specs.inner.Pasts.{Two, AreTwo, two_spelling, AreFour, four_spelling}
use Rattle.syn_image.specs.inner.Pasts.{AreFences, fences_spelling, IsPast, past_spelling}
use Rattle.syn_image.specs.inner.Pasts.{HasTouches, each_spelling}
use Rattle.syn_image.specs.inner.Trees.{IsImageTree}
use Rattle.syn_wire.proofs.ManyLemmas.{same_many}

-- ---- the numbers and the last token

pub two_tell : NoneBeginsAnother AreTwo two_spelling
two_tell = both_tell IsNumber64 IsNumber64 number64_spelling number64_spelling u64_tells u64_tells

pub four_tell : NoneBeginsAnother AreFour four_spelling
four_tell = both_tell AreTwo AreTwo two_spelling two_spelling two_tell two_tell

heads : (m n : ℕ) (x y : Bytes) → m ∷ x ≡ n ∷ y → m ≡ n
heads m n x y e = ap (λ z. first_or z 0) e

pub last_token_tells : NoneBeginsAnother IsLastToken last_token_spelling
last_token_tells None None r s hv hw e = (refl, ap rest_of e)
last_token_tells None (Some w) r s hv hw e = absurd (let k = heads 0 1 _ _ e in omega (arith, k))
last_token_tells (Some v) None r s hv hw e = absurd (let k = heads 1 0 _ _ e in omega (arith, k))
last_token_tells (Some v) (Some w) r s hv hw e =
    let same = token_tells v w r s hv hw (ap rest_of e) in
    (ap (λ t. Some t) same.0, same.1)

-- the kind of a token has the token after it
pub no_token_after : (bytes fields : Bytes) → bytes ≡ 1 ∷ fields →
    NothingStands IsLawfulToken token_spelling fields →
    NothingStands IsLastToken last_token_spelling bytes
no_token_after bytes fields is none None rest begins =
    let k = heads 1 0 _ _ (sym is ∙ begins.spelled) in
    absurd (omega (arith, k))
no_token_after bytes fields is none (Some token) rest begins =
    none token rest
    (record { lawful = begins.lawful; spelled = ap rest_of (sym is ∙ begins.spelled) })

pub fences_tell : NoneBeginsAnother AreFences fences_spelling
fences_tell =
    both_tell AreFour IsLastToken four_spelling last_token_spelling four_tell last_token_tells

-- ---- the touches

pub touch_tells : NoneBeginsAnother IsTouch touch_spelling
touch_tells v w r s hv hw e =
    let both = both_tell IsNumber64 IsPath number64_spelling path_spelling u64_tells paths_tell
    (v.position, v.path) (w.position, w.path) r s hv hw e in
    (ap (λ p. record { position = p.0; path = p.1 }) both.0, both.1)

pub touches_tell : NoneBeginsAnother AreTouches touches_spelling
touches_tell v w r s hv hw e =
    let count = u16_tells (length v) (length w) (each_spelling v ++ r)
    (each_spelling w ++ s) hv.count hw.count
    (sym (append_assoc (to_be_bytes w16 (length v)) (each_spelling v) r)
    ∙ (e ∙ append_assoc (to_be_bytes w16 (length w)) (each_spelling w) s)) in
    same_many IsTouch touch_spelling touch_tells v w r s hv.each hw.each count.0 count.1

-- a number with so many touches after it
pub no_count : (bytes : Bytes) → NothingStands (λ n. n < 2 ^ 16) (to_be_bytes w16) bytes →
    NothingStands AreTouches touches_spelling bytes
no_count bytes none v rest begins =
    none (length v) (each_spelling v ++ rest) (record {
      lawful = begins.lawful.count;
      spelled = begins.spelled ∙ append_assoc (to_be_bytes w16 (length v)) (each_spelling v) rest;
    })

pub no_touches : (bytes after : Bytes) (count : ℕ) →
    BeginsWith (λ n. n < 2 ^ 16) (to_be_bytes w16) bytes count after →
    NothingStands (HasTouches count) each_spelling after →
    NothingStands AreTouches touches_spelling bytes
no_touches bytes after count found none v rest begins =
    let same = u16_tells count (length v) after
    (each_spelling v ++ rest) found.lawful begins.lawful.count (sym found.spelled
    ∙ (begins.spelled ∙ append_assoc (to_be_bytes w16 (length v)) (each_spelling v) rest)) in
    none v rest (record
    { lawful = record { counted = sym same.0; each = begins.lawful.each }; spelled = same.1 })

past_tells : NoneBeginsAnother IsPast past_spelling
past_tells =
    both_tell AreFences AreTouches fences_spelling touches_spelling fences_tell touches_tell

-- ---- versions

-- what an image may hold, it may in a version that its tree is one of
standing_in : (version : Version) (standing : Standing) → IsImageTree version standing.tree →
    IsStanding standing → IsStandingIn version standing
standing_in version standing tree is = record {
  tree = tree.whole.tree;
  fits = is.fits;
  old = tree.old;
  position = is.position;
  floor = is.floor;
  session = is.session;
  token = is.token;
  count = is.count;
  touches = is.touches;
  rising = is.rising;
}

-- a tree that took more bytes than the first version has begins no image of it
pub too_long : NoSpellingBeginsAnother → (version : Version) (bytes after : Bytes)
    (tree : Tree) → version ≡ One → greatest_old_spelling < length bytes - length after →
    BeginsWith (IsWholeTreeIn version) (spelling_in version) bytes tree after →
    NothingStands (IsImageTree version) (spelling_in version) bytes
too_long trees version bytes after tree old long found value rest begins =
    let same = trees version tree value after rest found.lawful.tree.part
    begins.lawful.whole.tree.part (whole_fits_part tree found.lawful.fits)
    (whole_fits_part value begins.lawful.whole.fits) (sym found.spelled ∙ begins.spelled) in
    let short = subst (λ version. length (spelling_in version value) ≤ greatest_old_spelling)
    (sym old) (begins.lawful.old old) in
    let taken = ap length begins.spelled
    ∙ length-append (spelling_in version value) rest in
    let left = ap length same.1 in
    absurd (omega (arith, long, short, taken, left))

-- ---- the image in its parts

abbrev PastValue : Type 0
PastValue = ((Two × Two) × Option Token) × List Touch

abbrev pub past_value : ℕ → Past → PastValue
past_value pair past =
    ((((pair, past.position), (past.floor, past.session)), past.token), past.touches)

in_row : (f a b c d t n m s r : Bytes) → (f ++ (a ++ (b ++ (c ++ (d ++ (t ++ (n ++ (m ++ s))))))))
    ++ r ≡ f ++ (((((a ++ b) ++ (c ++ d)) ++ t) ++ (n ++ m)) ++ (s ++ r))
in_row f a b c d t n m s r = simp append_assoc

image_row : (version : Version) (pair : ℕ) (standing : Standing) (r : Bytes) →
    spelled_image version (pair, standing) ++ r ≡ replica_front version
    ++ (past_spelling (past_value pair (past_in standing))
    ++ (spelling_in version standing.tree ++ r))
image_row version pair standing r =
    in_row (replica_front version) (number64_spelling pair)
    (number64_spelling standing.position)
    (number64_spelling standing.floor) (number64_spelling standing.session)
    (last_token_spelling standing.token) (to_be_bytes w16 (length standing.touches))
    (each_spelling standing.touches) (spelling_in version standing.tree) r

small : (n : ℕ) → n ≤ greatest → n < 2 ^ 64
small n h = omega (arith, h)

below : (m n : ℕ) → m ≤ n → n ≤ greatest → m < 2 ^ 64
below m n h g = omega (arith, h, g)

few : (n : ℕ) → n ≤ most_touches → n < 2 ^ 16
few n h = omega (arith, h)

token_lawful : (token : Option Token) (last : ℕ) →
    IfSome token (λ token. (1 ≤ token.session) × (token.session ≤ last) × IsLawfulToken token) →
    IsLastToken token
token_lawful None last h = tt
token_lawful (Some token) last h = h.2

past_lawful : {version : Version} (pair : ℕ) (standing : Standing) → pair < 2 ^ 64 →
    IsStandingIn version standing →
    IsPast (past_value pair (past_in standing))
past_lawful pair s h sound = (
  (
    (
      (h, small s.position sound.position),
      (
        below s.floor s.position sound.floor sound.position,
        small s.session sound.session,
      ),
    ),
    token_lawful s.token s.session sound.token,
  ),
  record {
    count = few (length s.touches) sound.count;
    each =
        λ k d short. (
          below_position (sound.touches k d short).1 sound.position,
          (sound.touches k d short).2,
        );
  },
)
  where
    below_position : {m n : ℕ} → m < n → n ≤ greatest → m < 2 ^ 64
    below_position {m} {n} a b = omega (arith, a, b)

-- an image begins with its letters and its version
pub no_front : (version : Version) (bytes : Bytes) →
    ((rest : Bytes) → bytes ≢ replica_front version ++ rest) →
    NothingStands (IsImage version) (spelled_image version) bytes
no_front version bytes none value rest begins =
    none _ (begins.spelled ∙ image_row version value.0 value.1 rest)

pub no_past : (version : Version) (bytes fields : Bytes) → bytes ≡ replica_front version ++ fields →
    NothingStands IsPast past_spelling fields →
    NothingStands (IsImage version) (spelled_image version) bytes
no_past version bytes fields later none value rest begins =
    none (past_value value.0 (past_in value.1)) (spelling_in version value.1.tree ++ rest)
    (record {
      lawful = past_lawful value.0 value.1 begins.lawful.0 begins.lawful.1;
      spelled = ap (drop 5)
          (sym later ∙ (begins.spelled ∙ image_row version value.0 value.1 rest));
    })

-- what was read of the past is that of each image that the bytes begin with
module _ (version : Version) (bytes fields after : Bytes) (past : PastValue)
    (later : bytes ≡ replica_front version ++ fields)
    (found : BeginsWith IsPast past_spelling fields past after)
    (value : ℕ × Standing) (rest : Bytes)
    (begins : BeginsWith (IsImage version) (spelled_image version) bytes value rest) where
  same_past : (past ≡ past_value value.0 (past_in value.1))
      × (after ≡ spelling_in version value.1.tree ++ rest)
  same_past =
      past_tells past (past_value value.0 (past_in value.1)) after
      (spelling_in version value.1.tree ++ rest)
      found.lawful (past_lawful value.0 value.1 begins.lawful.0 begins.lawful.1)
      (sym found.spelled ∙ ap (drop 5)
      (sym later ∙ (begins.spelled ∙ image_row version value.0 value.1 rest)))

  pub no_tree : NothingStands (IsImageTree version) (spelling_in version) after → ⊥
  no_tree none =
      none value.1.tree rest (record {
        lawful = record {
          whole = record { tree = begins.lawful.1.tree; fits = begins.lawful.1.fits };
          old = begins.lawful.1.old;
        };
        spelled = same_past.1;
      })

  pub no_trail : (p : Past) →
      past ≡ past_value past.0.0.0.0 p → ((tree : Tree) → ¬ IsStanding (standing_with tree p)) → ⊥
  no_trail p is none =
      let same : p ≡ past_in value.1 =
      ap {A = PastValue} {B = Past} (λ x. record {
        position = x.0.0.0.1;
        floor = x.0.0.1.0;
        touches = x.1;
        session = x.0.0.1.1;
        token = x.0.1;
      }) (sym is ∙ same_past.0) in
      none value.1.tree
      (subst (λ p. IsStanding (standing_with value.1.tree p)) (sym same)
      (standing_now version value.1 begins.lawful.1))

pub image_found : (version : Version) (bytes fields after rest : Bytes) (pair : ℕ) (past : Past)
    (tree : Tree) →
    bytes ≡ replica_front version ++ fields →
    BeginsWith IsPast past_spelling fields (past_value pair past) after →
    BeginsWith (IsImageTree version) (spelling_in version) after tree rest → IsLawful past →
    BeginsWith (IsImage version) (spelled_image version) bytes (pair, standing_with tree past) rest
image_found version bytes fields after rest pair past tree whole found read lawful = record {
  lawful = (
    found.lawful.0.0.0.0,
    standing_in version (standing_with tree past) read.lawful
        (lawful tree (tree_now version tree read.lawful.whole.tree) read.lawful.whole.fits),
  );
  spelled =
      whole ∙ (ap (λ xs. replica_front version ++ xs)
      (found.spelled ∙ ap (λ xs. past_spelling (past_value pair past) ++ xs) read.spelled)
      ∙ sym (image_row version pair (standing_with tree past) rest));
}

pub images_tell : NoSpellingBeginsAnother → NoImageBeginsAnother
images_tell trees version v w r s hv hw e =
    let same = past_tells (past_value v.0 (past_in v.1)) (past_value w.0 (past_in w.1))
    (spelling_in version v.1.tree ++ r) (spelling_in version w.1.tree ++ s)
    (past_lawful v.0 v.1 hv.0 hv.1) (past_lawful w.0 w.1 hw.0 hw.1)
    (ap (drop 5)
    (sym (image_row version v.0 v.1 r) ∙ (e ∙ image_row version w.0 w.1 s))) in
    let tree = trees version v.1.tree w.1.tree r s hv.1.tree.part hw.1.tree.part
    (whole_fits_part v.1.tree hv.1.fits) (whole_fits_part w.1.tree hw.1.fits) same.1 in (
      ap₂ {A = PastValue} {B = Tree} {C = ℕ × Standing}
          (λ x t. (
            x.0.0.0.0,
            record {
              tree = t;
              position = x.0.0.0.1;
              floor = x.0.0.1.0;
              touches = x.1;
              session = x.0.0.1.1;
              token = x.0.1;
            },
          )) same.0 tree.0,
      tree.1,
    )

-- ---- what is written

pub one_after : (old mid new a b : Bytes) → mid ≡ old ++ a → new ≡ mid ++ b → new ≡ old ++ (a ++ b)
one_after old mid new a b first second = second ∙ (ap (λ x. x ++ b) first ∙ append_assoc old a b)

-- one touch more
pub touch_more : (touches : List Touch) (i : ℕ) (x : Touch) (out old new : Bytes) →
    i < length touches → x ≡ slice_index_or touches i x →
    old ≡ out ++ each_spelling (take i touches) → new ≡ old ++ touch_spelling x →
    new ≡ out ++ each_spelling (take (i + 1) touches)
touch_more touches i x out old new l is so_far added =
    one_after out old new (each_spelling (take i touches)) (touch_spelling x) so_far added
    ∙ ap (λ b. out ++ b) (sym more)
  where
    more : each_spelling (take (i + 1) touches) ≡ each_spelling (take i touches) ++ touch_spelling x
    more =
        ap each_spelling (take_more touches i x l ∙ ap (λ y. take i touches ++ y ∷ []) (sym is))
        ∙ (flat_map-append touch_spelling (take i touches) (x ∷ [])
        ∙ ap (λ b. each_spelling (take i touches) ++ b) (append-nil (touch_spelling x)))
