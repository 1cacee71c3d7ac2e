-- The requests of the witness session: each kind of request has its own number on the side that it
-- is asked of.
use Rattle.std.specs.List.{AllByRecursion}
use Rattle.std.proofs.Common.{ℕ, ◌≡◌, refl, sym, ◌∙◌, inl, inr}
use Rattle.std.proofs.lemmas.List.Elements.{All-contains, All-from_recursion}
use Rattle.syn_machine.specs.Side.{Request, Begin, ListAt, Fetch, Stage, Replace}
use Rattle.syn_machine.specs.Network.{Which, Left, Right, IsRepeat}
use Rattle.syn_machine.specs.Coordinator.{Running, Outstanding, WasAsked, AsksOnce}

abbrev pub number_of : Request → ℕ
number_of (Begin pair) = 0
number_of (ListAt path) = 1
number_of (Fetch path since offset) = 2
number_of (Stage item offset bytes) = 2
number_of (Replace item path since size) = 3

same_number : (a b : Request) → IsRepeat a b → number_of a ≡ number_of b
same_number (Begin p) (Begin q) r = refl
same_number (ListAt p) (ListAt q) r = refl
same_number (Fetch p k m) (Fetch q l n) r = refl
same_number (Stage i m x) (Stage j n y) r = refl
same_number (Replace i p k x) (Replace j q l y) r = refl
same_number _ _ r = absurd r

-- each request has the number of its kind
abbrev IsNumbered : Outstanding → Type 0
IsNumbered one = number_of one.request ≡ one.number

abbrev pub AreNumbered : Running → Type 0
AreNumbered running =
    AllByRecursion (λ exchange. number_of exchange.request ≡ exchange.number) running.taken
    × AllByRecursion IsNumbered running.left × AllByRecursion IsNumbered running.right

module _ (running : Running) (all : AreNumbered running) where
  number_was : (side : Which) (number : ℕ) (request : Request) →
      WasAsked running side number request → number_of request ≡ number
  number_was side number request (inl taken) =
      All-contains (λ exchange. number_of exchange.request ≡ exchange.number) running.taken _
      (All-from_recursion (λ exchange. number_of exchange.request ≡ exchange.number)
      running.taken all.0) taken.1
  number_was Left number request (inr waits) =
      All-contains IsNumbered running.left _
      (All-from_recursion IsNumbered running.left all.1) waits.1
  number_was Right number request (inr waits) =
      All-contains IsNumbered running.right _
      (All-from_recursion IsNumbered running.right all.2) waits.1

  pub asks_once : AsksOnce running
  asks_once side m n a b ca cb r =
      sym (number_was side m a ca) ∙ (same_number a b r ∙ number_was side n b cb)
