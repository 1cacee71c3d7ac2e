-- Requests that are numbered on, and the messages that they are.
use Rattle.std.proofs.Common.{◌≡◌, ◌⊎◌, inl, inr, ◌≤◌, ◌<◌, ◌+◌, ◌++◌, ℕ, zero, suc, List, [], ◌∷◌}
use Rattle.std.proofs.Common.{length, refl, sym, ap, ap₂, ◌∙◌, arith, subst}
use Rattle.std.specs.Prelude.{Contains, Some, slice_get}
use Rattle.std.proofs.lemmas.List.Elements.{Contains-get_or}
use Rattle.std.proofs.lemmas.Option.{slice_get_within, get_or_from_slice_get}
use Rattle.syn_machine.specs.Side.{Request}
use Rattle.syn_machine.specs.Network.{Which, Message, Asks, Answers, Sent}
use Rattle.syn_machine.specs.Coordinator.{Exchange, Outstanding, numbered, messages_to}

-- Messages of a session

-- what was taken was sent and answered
abbrev pub TakenWas : Sent → ℕ → List Exchange → Type 0
TakenWas sent session taken =
    (e : Exchange) → Contains taken e → Contains sent (Asks e.side session e.number e.request)
    × Contains sent (Answers e.side session e.number e.reply)

-- what is delivered was sent
pub sent_at : (sent : Sent) (n : ℕ) (m : Message) → slice_get sent n ≡ Some m → Contains sent m
sent_at sent n m e =
    subst (Contains sent) (get_or_from_slice_get sent n m m e)
    (Contains-get_or sent n m (slice_get_within sent n m e))

-- Requests that are numbered on

pub number_within : (from : ℕ) (requests : List Request) (one : Outstanding) →
    Contains (numbered from requests) one →
    (from ≤ one.number) × (one.number < from + length requests)
number_within from [] one c = absurd (omega (arith, c.1))
number_within from (request ∷ more) one (zero, h, e) =
    let at : from ≡ one.number = ap (λ o. o.number) e in
    (omega (arith, at), omega (arith, at))
number_within from (request ∷ more) one (suc k, h, e) =
    let rest = number_within (suc from) more one (k, omega (arith, h), e) in
    (omega (arith, rest.0), omega (arith, rest.1))

pub same_number : (from : ℕ) (requests : List Request) (a b : Outstanding) →
    Contains (numbered from requests) a → Contains (numbered from requests) b →
    a.number ≡ b.number → a.request ≡ b.request
same_number from [] a b c d e = absurd (omega (arith, c.1))
same_number from (request ∷ more) a b (zero, h, c) (zero, k, d) e = ap (λ o. o.request) (sym c ∙ d)
same_number from (request ∷ more) a b (zero, h, c) (suc j, k, d) e =
    let at : from ≡ a.number = ap (λ o. o.number) c in
    let later = (number_within (suc from) more b (j, omega (arith, k), d)).0 in
    absurd (omega (arith, at, later, e))
same_number from (request ∷ more) a b (suc i, h, c) (zero, k, d) e =
    let at : from ≡ b.number = ap (λ o. o.number) d in
    let later = (number_within (suc from) more a (i, omega (arith, h), c)).0 in
    absurd (omega (arith, at, later, e))
same_number from (request ∷ more) a b (suc i, h, c) (suc j, k, d) e =
    same_number (suc from) more a b (i, omega (arith, h), c) (j, omega (arith, k), d) e

pub numbered-length : (from : ℕ) (requests : List Request) →
    length (numbered from requests) ≡ length requests
numbered-length from [] = refl
numbered-length from (request ∷ more) = ap suc (numbered-length (suc from) more)

-- what is sent to a side is what waits there
pub sent_to : (session : ℕ) (side : Which) (waiting : List Outstanding) (m : Message) →
    Contains (messages_to session side waiting) m →
    (one : Outstanding) × Contains waiting one × (Asks side session one.number one.request ≡ m)
sent_to session side [] m c = absurd (omega (arith, c.1))
sent_to session side (first ∷ waiting) m (zero, h, e) = (first, (0, omega arith, refl), e)
sent_to session side (first ∷ waiting) m (suc k, h, e) =
    let rest = sent_to session side waiting m (k, omega (arith, h), e) in
    (rest.0, (suc rest.1.0, omega (arith, rest.1.1), rest.1.2), rest.2)

pub waits_sent : (session : ℕ) (side : Which) (waiting : List Outstanding)
    (one : Outstanding) → Contains waiting one →
    Contains (messages_to session side waiting) (Asks side session one.number one.request)
waits_sent session side [] one c = absurd (omega (arith, c.1))
waits_sent session side (first ∷ waiting) one (zero, h, e) =
    (0, omega arith, ap (λ o. Asks side session o.number o.request) e)
waits_sent session side (first ∷ waiting) one (suc k, h, e) =
    let rest = waits_sent session side waiting one (k, omega (arith, h), e) in
    (suc rest.0, let w = rest.1 in omega (arith, w), rest.2)

-- an element of two lists in a row is in one of them
pub split_at : {X : Type 0} (xs ys earlier : List X) (x : X) (later : List X) →
    xs ++ ys ≡ earlier ++ x ∷ later → ((rest : List X) × (xs ≡ earlier ++ x ∷ rest))
    ⊎ ((rest : List X) × (earlier ≡ xs ++ rest) × (ys ≡ rest ++ x ∷ later))
split_at {X = X} [] ys earlier x later e = inr (earlier, refl, e)
split_at {X = X} (a ∷ xs) ys [] x later e = let h : a ≡ x = cc in inl (xs, ap (λ b. b ∷ xs) h)
split_at {X = X} (a ∷ xs) ys (b ∷ earlier) x later e =
    let h : a ≡ b = cc in
    let t : xs ++ ys ≡ earlier ++ x ∷ later = cc in
    elim (split_at xs ys earlier x later t)
    as (λ _. ((rest : List X) × (a ∷ xs ≡ b ∷ (earlier ++ x ∷ rest)))
    ⊎ ((rest : List X) × (b ∷ earlier ≡ a ∷ (xs ++ rest)) × (ys ≡ rest ++ x ∷ later))) [
      | inl l ↦ inl (l.0, ap₂ (λ c cs. c ∷ cs) h l.1)
      | inr r ↦ inr (r.0, ap₂ (λ c cs. c ∷ cs) (sym h) r.1, r.2)
    ]
