-- What bytes tell of where a replica is in its history.
use Rattle.std.proofs.Common.{◌≡◌, ◌∙◌, ◌++◌, ◌∷◌, ap, append_assoc, arith, refl, sym}
use Rattle.std.proofs.Common.{◌<◌, length, length-append, true, false, Option, Some, None, ℕ}
use Rattle.std.specs.Int.{to_be_bytes, w64}
use Rattle.syn_history.specs.Status.{Status, IsLawfulStatus}
use Rattle.syn_history.specs.declared.status.TheConstants.{IDENTITY_LENGTH}
use Rattle.syn_message.proofs.WholeLemmas.{alone, first_of, rest_of}
use Rattle.syn_message.specs.Bodies.{SpellsNone}
use Rattle.syn_message.specs.Statuses.{IsStated, halted_spelling, identity_spelling}
use Rattle.syn_message.specs.Statuses.{stated_spelling, status_spelling, touched_spelling}
use Rattle.syn_message.specs.UserReplies.{IsUserReplyOf, States, user_reply_fields}
use Rattle.syn_message.specs.UserReplies.{user_reply_kind}
use Rattle.syn_message.specs.declared.kind.TheConstants.{STATED}
use Rattle.syn_message.specs.inner.Stated.{AreFour, AreLater, AreParts, AreTokenAndPlace}
use Rattle.syn_message.specs.inner.Stated.{AreTouchAndHalted, AreTwo, IsAnyFlag, IsAnyIdentity}
use Rattle.syn_message.specs.inner.Stated.{IsAnyPath, IsAnyToken, Later, Two, four_of}
use Rattle.syn_message.specs.inner.Stated.{four_spelling, later_of, later_spelling, parts_of}
use Rattle.syn_message.specs.inner.Stated.{parts_spelling, token_and_place, touch_and_halted}
use Rattle.syn_message.specs.inner.Stated.{two_spelling}
use Rattle.syn_model.proofs.SpellingLemmas.{split}
use Rattle.syn_model.specs.Image.{last_token_spelling}
use Rattle.syn_model.specs.Event.{IsLawfulToken}
use Rattle.syn_model.specs.Path.{Bytes, IsPath, path_spelling}
use Rattle.syn_model.specs.Spelling.{token_spelling}
use Rattle.syn_wire.proofs.EventLemmas.{token_tells}
use Rattle.syn_wire.proofs.NameLemmas.{paths_tell}
use Rattle.syn_wire.proofs.NumberLemmas.{u64_tells}
use Rattle.syn_wire.proofs.Sequences.{both_tell}
use Rattle.syn_wire.specs.Events.{Both, both_spelling, IsNumber64, number64_spelling}
use Rattle.syn_wire.specs.Reads.{BeginsWith, NoneBeginsAnother, NothingStands}

-- ---- values with a mark before them

others : (m n : ℕ) (x y : Bytes) → m ∷ x ≡ n ∷ y → m ≡ n
others m n x y same = ap first_of same

pub identity_tells : NoneBeginsAnother IsAnyIdentity identity_spelling
identity_tells None None r s p q same = (refl, ap rest_of same)
identity_tells (Some a) (Some b) r s p q same =
    let both = split a b r s (p.0 ∙ sym q.0) (ap rest_of same) in (ap Some both.0, both.1)
identity_tells None (Some b) r s p q same =
    absurd (let k = others 0 1 _ _ same in omega (arith, k))
identity_tells (Some a) None r s p q same =
    absurd (let k = others 1 0 _ _ same in omega (arith, k))

pub last_token_tells : NoneBeginsAnother IsAnyToken last_token_spelling
last_token_tells None None r s p q same = (refl, ap rest_of same)
last_token_tells (Some a) (Some b) r s p q same =
    let both = token_tells a b r s p q (ap rest_of same) in (ap Some both.0, both.1)
last_token_tells None (Some b) r s p q same =
    absurd (let k = others 0 1 _ _ same in omega (arith, k))
last_token_tells (Some a) None r s p q same =
    absurd (let k = others 1 0 _ _ same in omega (arith, k))

pub touched_tells : NoneBeginsAnother IsAnyPath touched_spelling
touched_tells None None r s p q same = (refl, ap rest_of same)
touched_tells (Some a) (Some b) r s p q same =
    let both = paths_tell a b r s p q (ap rest_of same) in (ap Some both.0, both.1)
touched_tells None (Some b) r s p q same =
    absurd (let k = others 0 1 _ _ same in omega (arith, k))
touched_tells (Some a) None r s p q same =
    absurd (let k = others 1 0 _ _ same in omega (arith, k))

halted_tells : NoneBeginsAnother IsAnyFlag halted_spelling
halted_tells true true r s p q same = (refl, ap rest_of same)
halted_tells false false r s p q same = (refl, ap rest_of same)
halted_tells true false r s p q same = absurd (let k = others 1 0 _ _ same in omega (arith, k))
halted_tells false true r s p q same = absurd (let k = others 0 1 _ _ same in omega (arith, k))

-- ---- the parts of a status

pub two_tell : NoneBeginsAnother AreTwo two_spelling
two_tell = both_tell IsNumber64 IsNumber64 number64_spelling number64_spelling u64_tells u64_tells

pub four_tell : NoneBeginsAnother AreFour four_spelling
four_tell = both_tell AreTwo AreTwo two_spelling two_spelling two_tell two_tell

pub token_and_place_tell : NoneBeginsAnother AreTokenAndPlace token_and_place
token_and_place_tell =
    both_tell IsAnyToken IsNumber64 last_token_spelling number64_spelling last_token_tells u64_tells

touch_and_halted_tell : NoneBeginsAnother AreTouchAndHalted touch_and_halted
touch_and_halted_tell =
    both_tell IsAnyPath IsAnyFlag touched_spelling halted_spelling touched_tells halted_tells

later_tells : NoneBeginsAnother AreLater later_spelling
later_tells =
    both_tell AreTokenAndPlace AreTouchAndHalted token_and_place touch_and_halted
    token_and_place_tell touch_and_halted_tell

parts_tell : NoneBeginsAnother AreParts parts_spelling
parts_tell = both_tell AreFour AreLater four_spelling later_spelling four_tell later_tells

in_a_row : (a b c d e f g h : Bytes) → ((a ++ b) ++ (c ++ d)) ++ ((e ++ f) ++ (g ++ h))
    ≡ a ++ (b ++ (c ++ (d ++ (e ++ (f ++ (g ++ h))))))
in_a_row a b c d e f g h = simp append_assoc

-- they stand in a row
pub spelled_so : (status : Status) → parts_spelling (parts_of status) ≡ status_spelling status
spelled_so status =
    in_a_row (to_be_bytes w64 status.pair) (to_be_bytes w64 status.position)
    (to_be_bytes w64 status.floor) (to_be_bytes w64 status.session)
    (last_token_spelling status.token) (to_be_bytes w64 status.place)
    (touched_spelling status.touch) (halted_spelling status.halted)

are_parts : (status : Status) → IsLawfulStatus status → AreParts (parts_of status)
are_parts status is = (
  ((is.pair, is.position), (is.floor, is.session)),
  ((is.token, is.place), (is.touch, tt)),
)

are_lawful : (status : Status) → AreFour (four_of status) → AreLater (later_of status)
    → IsLawfulStatus status
are_lawful status four later = record {
  pair = four.0.0;
  position = four.0.1;
  floor = four.1.0;
  session = four.1.1;
  token = later.0.0;
  place = later.0.1;
  touch = later.1.0;
}

abbrev with_parts : (Two × Two) × Later → Status
with_parts parts = record {
  pair = parts.0.0.0;
  position = parts.0.0.1;
  floor = parts.0.1.0;
  session = parts.0.1.1;
  token = parts.1.0.0;
  place = parts.1.0.1;
  touch = parts.1.1.0;
  halted = parts.1.1.1;
}

status_tells : NoneBeginsAnother IsLawfulStatus status_spelling
status_tells v w r s p q same =
    let both = parts_tell (parts_of v) (parts_of w) r s (are_parts v p) (are_parts w q)
    (ap (λ x. x ++ r) (spelled_so v) ∙ (same ∙ ap (λ x. x ++ s) (sym (spelled_so w)))) in
    (ap with_parts both.0, both.1)

-- ---- what is written

in_pairs : (old a b d e : Bytes) → (((old ++ a) ++ b) ++ d) ++ e ≡ old ++ ((a ++ b) ++ (d ++ e))
in_pairs old a b d e = simp append_assoc

-- four parts, one after the other
pub four_added : (old mid more end new a b d e : Bytes) → mid ≡ old ++ a → more ≡ mid ++ b
    → end ≡ more ++ d → new ≡ end ++ e → new ≡ old ++ ((a ++ b) ++ (d ++ e))
four_added old mid more end new a b d e first second third fourth =
    fourth ∙ (ap (λ x. x ++ e) (third ∙ ap (λ x. x ++ d) (second ∙ ap (λ x. x ++ b) first))
    ∙ in_pairs old a b d e)

-- ---- what is read

-- one value after another
both_found : {A B : Type 0} (P : A → Type 0) (Q : B → Type 0) (f : A → Bytes) (g : B → Bytes)
    (old mid new : Bytes) (a : A) (b : B) → BeginsWith P f old a mid → BeginsWith Q g mid b new
    → BeginsWith (Both P Q) (both_spelling f g) old (a, b) new
both_found P Q f g old mid new a b first second = record {
  lawful = (first.lawful, second.lawful);
  spelled = first.spelled
      ∙ (ap (λ x. f a ++ x) second.spelled ∙ sym (append_assoc (f a) (g b) new));
}

pub no_status : (bytes : Bytes) → NothingStands AreParts parts_spelling bytes
    → NothingStands IsLawfulStatus status_spelling bytes
no_status bytes none status rest begins =
    none (parts_of status) rest (record {
      lawful = are_parts status begins.lawful;
      spelled = begins.spelled ∙ ap (λ x. x ++ rest) (sym (spelled_so status));
    })

pub status_found : (old mid new : Bytes) (status : Status)
    → BeginsWith AreFour four_spelling old (four_of status) mid
    → BeginsWith AreLater later_spelling mid (later_of status) new
    → BeginsWith IsLawfulStatus status_spelling old status new
status_found old mid new status first second =
    let both = both_found AreFour AreLater four_spelling later_spelling old mid new
    (four_of status) (later_of status) first second in
    record {
      lawful = are_lawful status first.lawful second.lawful;
      spelled = both.spelled ∙ ap (λ x. x ++ new) (spelled_so status);
    }

-- a mark of a value has the value after it
pub no_identity_after : (bytes after : Bytes) → bytes ≡ 1 ∷ after → length after < IDENTITY_LENGTH
    → NothingStands IsAnyIdentity identity_spelling bytes
no_identity_after bytes after is short None rest begins =
    let k = others 1 0 _ _ (sym is ∙ begins.spelled) in absurd (omega (arith, k))
no_identity_after bytes after is short (Some identity) rest begins =
    let long = ap length (ap rest_of (sym is ∙ begins.spelled)) ∙ length-append identity rest in
    let whole = begins.lawful.0 in
    absurd (omega (arith, long, whole, short))

pub no_token_after : (bytes after : Bytes) → bytes ≡ 1 ∷ after
    → NothingStands IsLawfulToken token_spelling after
    → NothingStands IsAnyToken last_token_spelling bytes
no_token_after bytes after is none None rest begins =
    let k = others 1 0 _ _ (sym is ∙ begins.spelled) in absurd (omega (arith, k))
no_token_after bytes after is none (Some token) rest begins =
    none token rest
    (record { lawful = begins.lawful; spelled = ap rest_of (sym is ∙ begins.spelled) })

pub no_path_after : (bytes after : Bytes) → bytes ≡ 1 ∷ after
    → NothingStands IsPath path_spelling after → NothingStands IsAnyPath touched_spelling bytes
no_path_after bytes after is none None rest begins =
    let k = others 1 0 _ _ (sym is ∙ begins.spelled) in absurd (omega (arith, k))
no_path_after bytes after is none (Some path) rest begins =
    none path rest
    (record { lawful = begins.lawful; spelled = ap rest_of (sym is ∙ begins.spelled) })

-- ---- an identity and a status

pub stated_found : (old mid new : Bytes) (identity : Option Bytes) (status : Status)
    → BeginsWith IsAnyIdentity identity_spelling old identity mid
    → BeginsWith IsLawfulStatus status_spelling mid status new
    → BeginsWith IsStated stated_spelling old (identity, status) new
stated_found =
    both_found IsAnyIdentity IsLawfulStatus identity_spelling status_spelling

pub stated_tells_itself : NoneBeginsAnother IsStated stated_spelling
stated_tells_itself =
    both_tell IsAnyIdentity IsLawfulStatus identity_spelling status_spelling identity_tells
    status_tells

pub stated_tells : (a b : Option Bytes × Status) → IsStated a → IsStated b
    → stated_spelling a ≡ stated_spelling b → a ≡ b
stated_tells = alone IsStated stated_spelling stated_tells_itself

-- a reply of the kind has these fields
pub stated_none : (fields : Bytes) → SpellsNone IsStated stated_spelling fields
    → SpellsNone (IsUserReplyOf STATED) user_reply_fields fields
stated_none fields none (States identity status) of is = none (identity, status) of.1 is
stated_none fields none other of is =
    absurd (let k : user_reply_kind other ≡ STATED = of.0 in omega (arith, k))
