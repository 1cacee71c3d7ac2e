-- Which touches, and which parts, are lawful.
use Rattle.std.proofs.Common.{◌≡◌, ◌≤◌, ◌<◌, ℕ, ◌+◌, ◌-◌, suc, Bool, true, false, ◌&&◌, nat_le}
use Rattle.std.proofs.Common.{nat_lt, List, [], ◌∷◌, length, Option, Some, None, IfSome, All, ◌++◌}
use Rattle.std.proofs.Common.{append-nil, length-append, take, drop, refl, sym, ap, ap₂, ◌∙◌}
use Rattle.std.proofs.Common.{true≢false, arith}
use Rattle.std.specs.List.{AllPairs}
use Rattle.circular_buffer.specs.Buffer.{keep_last}
use Rattle.std.proofs.lemmas.Bool.{and_parts, leb-true, le-leb}
use Rattle.std.proofs.lemmas.List.Elements.{All-nil, All-cons}
use Rattle.std.proofs.lemmas.List.Kept.{AllPairs-cons}
use Rattle.syn_model.specs.Path.{IsPath}
use Rattle.syn_model.specs.Tree.{Tree}
use Rattle.syn_model.specs.Limits.{greatest}
use Rattle.syn_model.specs.Event.{Token, IsLawfulToken, Event, Edited, Began, Replaced}
use Rattle.syn_model.specs.Standing.{Touch, most_touches, surplus, above_last}
use Rattle.syn_model.specs.Image.{IsStanding}
use Rattle.syn_history.specs.declared.step.TrailStep.{TrailStep}
use Rattle.syn_history.specs.declared.step.TrailStep.TheVariants as step
use Rattle.syn_history.specs.Trails.{step_of}
use Rattle.syn_history.specs.Past.{Past, past_with, past_after, standing_with, IsLawful}
use Rattle.syn_history.specs.Past.{are_between, is_of_session, is_lawful}

abbrev Within : ℕ → ℕ → Touch → Type 0
Within from until touch = (from ≤ touch.position) × (touch.position < until)

abbrev pub Rises : Touch → Touch → Type 0
Rises earlier later = earlier.position < later.position

-- one after another, they are within, and rise
between_all : (from until : ℕ) (touches : List Touch) → are_between from until touches ≡ true →
    All (Within from until) touches × AllPairs Rises touches
between_all from until [] h =
    (All-nil (Within from until), λ i j d below short. absurd (omega (arith, short)))
between_all from until (touch ∷ touches) h =
    let parts = and_parts (nat_le from touch.position && nat_lt touch.position until)
    (are_between (touch.position + 1) until touches) h in
    let here = and_parts (nat_le from touch.position) (nat_lt touch.position until) parts.0 in
    let first = leb-true from touch.position here.0 in
    let last = leb-true (suc touch.position) until here.1 in
    let rest = between_all (touch.position + 1) until touches parts.1 in (
      All-cons (Within from until) touch touches (first, omega (arith, last))
          (λ k d short. (omega (arith, first, (rest.0 k d short).0), (rest.0 k d short).1)),
      AllPairs-cons Rises touch touches (λ k d short. omega (arith, (rest.0 k d short).0)) rest.1,
    )

-- and what is within and rises is so one after another
all_between : (from until : ℕ) (touches : List Touch) → All (Within from until) touches →
    AllPairs Rises touches → are_between from until touches ≡ true
all_between from until [] all pairs = refl
all_between from until (touch ∷ touches) all pairs =
    let here = all 0 touch (omega arith) in
    let rest = all_between (touch.position + 1) until touches
    (λ k d short. (
      omega (arith, pairs 0 (suc k) d (omega arith) (omega (arith, short))),
      (all (suc k) d (omega (arith, short))).1,
    ))
    (λ i j d below short. pairs (suc i) (suc j) d (omega (arith, below)) (omega (arith, short))) in
    ap₂ (λ a b. a && b) (ap₂ (λ a b. a && b) (le-leb from touch.position here.0)
    (le-leb (suc touch.position) until (omega (arith, here.1)))) rest

-- a past whose test is passed is lawful
pub lawful_past : (past : Past) → past.position ≤ greatest → past.session ≤ greatest →
    IfSome past.token IsLawfulToken → All (λ touch. IsPath touch.path) past.touches →
    is_lawful past ≡ true → IsLawful past
lawful_past past position session token paths h tree is_tree fits =
    let three = nat_le past.floor past.position && nat_le (length past.touches) most_touches
    && are_between past.floor past.position past.touches in
    let whole = and_parts three (is_of_session past.token past.session) h in
    let more = and_parts
    (nat_le past.floor past.position && nat_le (length past.touches) most_touches)
    (are_between past.floor past.position past.touches) whole.0 in
    let first = and_parts (nat_le past.floor past.position)
    (nat_le (length past.touches) most_touches) more.0 in
    let touches = between_all past.floor past.position past.touches more.1 in
    record {
      tree = is_tree;
      fits = fits;
      old = λ two. absurd (cc two);
      position = position;
      floor = leb-true past.floor past.position first.0;
      session = session;
      token = of_session past.token past.session whole.1 token;
      count = leb-true (length past.touches) most_touches first.1;
      touches = λ k d short. ((touches.0 k d short).0, (touches.0 k d short).1, paths k d short);
      rising = touches.1;
    }
  where
    of_session : (token : Option Token) (last : ℕ) → is_of_session token last ≡ true →
        IfSome token IsLawfulToken →
        IfSome token (λ token. (1 ≤ token.session) × (token.session ≤ last) × IsLawfulToken token)
    of_session None last h lawful = tt
    of_session (Some token) last h lawful =
        let both = and_parts (nat_le 1 token.session) (nat_le token.session last) h in
        (leb-true 1 token.session both.0, leb-true token.session last both.1, lawful)

session_of : (token : Option Token) (last : ℕ) →
    IfSome token (λ token. (1 ≤ token.session) × (token.session ≤ last) × IsLawfulToken token) →
    is_of_session token last ≡ true
session_of None last h = refl
session_of (Some token) last h =
    ap₂ (λ a b. a && b) (le-leb 1 token.session h.0) (le-leb token.session last h.1)

-- and where a standing has it, the test is passed
pub standing_past : (tree : Tree) (past : Past) → IsStanding (standing_with tree past) →
    is_lawful past ≡ true
standing_past tree past h =
    ap₂ (λ a b. a && b)
    (ap₂ (λ a b. a && b) (ap₂ (λ a b. a && b) (le-leb past.floor past.position h.floor)
    (le-leb (length past.touches) most_touches h.count))
    (all_between past.floor past.position past.touches
    (λ k d short. ((h.touches k d short).0, (h.touches k d short).1)) h.rising))
    (session_of past.token past.session h.token)

-- the next touch in its place
pub between_next : (from until : ℕ) (touch : Touch) (touches : List Touch) →
    from ≤ touch.position → touch.position < until →
    are_between from until (touch ∷ touches) ≡ are_between (touch.position + 1) until touches
between_next from until touch touches first last =
    ap₂ (λ a b. a && b && are_between (touch.position + 1) until touches)
    (le-leb from touch.position first) (le-leb (suc touch.position) until (omega (arith, last)))

-- the session of a step that begins one
abbrev begun : TrailStep → ℕ → ℕ
begun (step.Edited path) last = last
begun (step.Began session) last = session
begun (step.Replaced token path) last = last

abbrev begins : TrailStep → Bool
begins (step.Edited path) = false
begins (step.Began session) = true
begins (step.Replaced token path) = false

-- the begin of a session changes the position and the session alone
pub began_past : (past : Past) (session : ℕ) (event : Event) → length past.touches ≤ most_touches →
    step.Began session ≡ step_of event →
    past_with (past.position + 1) past.floor past.touches session past.token ≡ past_after past event
began_past past session (Edited user edit) h e = absurd (true≢false (ap begins e))
began_past past session (Replaced token path since new) h e = absurd (true≢false (ap begins e))
began_past past session (Began other) h e =
    let same = append-nil past.touches in
    let none : surplus most_touches (past.touches ++ []) ≡ 0 = omega (arith, ap length same, h) in
    let floor : past.floor ≡ above_last past.floor
    (take (surplus most_touches (past.touches ++ [])) (past.touches ++ [])) =
    sym (ap (λ n. above_last past.floor (take n (past.touches ++ []))) none) in
    let touches : past.touches ≡ drop (surplus most_touches (past.touches ++ []))
    (past.touches ++ []) = sym (ap (λ n. drop n (past.touches ++ [])) none ∙ same) in
    let began : session ≡ other = ap (λ s. begun s 0) e in
    λ i. past_with (past.position + 1) (floor i) (touches i) (began i) past.token

-- what a lawful past keeps
pub lawful_count : (past : Past) → is_lawful past ≡ true → length past.touches ≤ most_touches
lawful_count past h =
    let three = nat_le past.floor past.position && nat_le (length past.touches) most_touches
    && are_between past.floor past.position past.touches in
    let more = and_parts (nat_le past.floor past.position && nat_le
    (length past.touches) most_touches) (are_between past.floor past.position past.touches)
    (and_parts three (is_of_session past.token past.session) h).0 in
    leb-true (length past.touches) most_touches (and_parts (nat_le past.floor past.position)
    (nat_le (length past.touches) most_touches) more.0).1

pub lawful_before : (past : Past) → is_lawful past ≡ true →
    All (λ touch. touch.position < past.position) past.touches
lawful_before past h k d short =
    let three = nat_le past.floor past.position && nat_le (length past.touches) most_touches
    && are_between past.floor past.position past.touches in
    let more = and_parts (nat_le past.floor past.position && nat_le
    (length past.touches) most_touches) (are_between past.floor past.position past.touches)
    (and_parts three (is_of_session past.token past.session) h).0 in
    ((between_all past.floor past.position past.touches more.1).0 k d short).1

pub lawful_rising : (past : Past) → is_lawful past ≡ true → AllPairs Rises past.touches
lawful_rising past h =
    let three = nat_le past.floor past.position && nat_le (length past.touches) most_touches
    && are_between past.floor past.position past.touches in
    let more = and_parts (nat_le past.floor past.position && nat_le
    (length past.touches) most_touches) (are_between past.floor past.position past.touches)
    (and_parts three (is_of_session past.token past.session) h).0 in
    (between_all past.floor past.position past.touches more.1).1

-- the test, part by part
pub passes : (past : Past) → past.floor ≤ past.position → length past.touches ≤ most_touches →
    are_between past.floor past.position past.touches ≡ true →
    is_of_session past.token past.session ≡ true → is_lawful past ≡ true
passes past floor count touches session =
    ap₂ (λ a b. a && b)
    (ap₂ (λ a b. a && b) (ap₂ (λ a b. a && b) (le-leb past.floor past.position floor)
    (le-leb (length past.touches) most_touches count)) touches) session

-- ---- a list with room for all

drop_none : (xs : List Touch) (n : ℕ) → n ≡ 0 → drop n xs ≡ xs
drop_none xs n none = ap (λ k. drop k xs) none

-- nothing is dropped for one touch more
pub has_room : (capacity : ℕ) (read rest all : List Touch) (touch : Touch) →
    all ≡ read ++ touch ∷ rest → length all ≤ capacity →
    keep_last capacity (read ++ touch ∷ []) ≡ read ++ touch ∷ []
has_room capacity read rest all touch whole few =
    drop_none (read ++ touch ∷ []) (length (read ++ touch ∷ []) - capacity) (omega (
      arith,
      length-append read (touch ∷ []),
      length-append read (touch ∷ rest),
      ap length whole,
      few,
    ))
