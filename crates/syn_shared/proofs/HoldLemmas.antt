-- One hold of a pass, from its entering to its leaving.
use Rattle.std.proofs.Common.{◌≡◌, refl, sym, ap, ◌∙◌, subst, List, [], ◌∷◌, ◌++◌, Option, Some}
use Rattle.std.proofs.Common.{Result}
use Rattle.std.specs.Option.{MatchOption}
use Rattle.syn_disk.specs.declared.disk.Disk.{Ghosts}
use Rattle.syn_lock.specs.History.{end_of}
use Rattle.syn_lock.specs.Locks.{origin_of}
use Rattle.syn_lock.specs.Passes.{view_of}
use Rattle.syn_lock.specs.declared.own.Pass.{Pass}
use Rattle.syn_lock.specs.Views.{Held, outside, published, own_hold}
use Rattle.syn_lock.specs.Guards.{Guard, HasEntered, knows, state_of}
use Rattle.syn_lock.specs.declared.view.Hold.{Hold}
use Rattle.syn_lock.specs.declared.view.View.{View}
use Rattle.syn_replica.specs.Growing.{itself, grown_twice}
use Rattle.syn_replica.specs.Growth.{IsGrown}
use Rattle.syn_replica.specs.declared.error.ReplicaError.{ReplicaError}
use Rattle.syn_replica.specs.declared.replica.Replica.{Replica}
use Rattle.syn_shared.specs.Refusals.{answer_in}
use Rattle.syn_shared.specs.Shared.{own_of, FoundBusy, IsLater}
use Rattle.syn_shared.specs.declared.shared.SharedReplica.{SharedReplica}
use Rattle.syn_shared.specs.declared.error.SharedError.{SharedError}

module _ {S : Type 0} (grows : S → S → Type 0) where
  -- the state found became another
  pub held_now : (o p : S) → p ≡ o → (v w : View S) (g : Guard S) (found left : S)
      (change : S → S → Type 0) → HasEntered grows p v g → found ≡ state_of g →
      w ≡ outside (published p (knows g) left) → change found left → Held grows o v w change
  held_now o p same v w g found left change entered is e h =
      subst (λ (x : S). Held grows x v w change) same (
        entered.0,
        left,
        entered.1,
        e ∙ ap (λ (k : View S). outside (published p k left)) entered.2,
        subst (λ (x : S). change x left) (is ∙ entered.3) h,
      )

  -- it stayed
  pub held_reading : (o p : S) → p ≡ o → (v w : View S) (g : Guard S) (found : S)
      (change : S → S → Type 0) → HasEntered grows p v g → found ≡ state_of g →
      w ≡ outside (published p (knows g) (state_of g)) → change found found →
      Held grows o v w change
  held_reading o p same v w g found change entered is e h =
      held_now o p same v w g (state_of g) (state_of g) change entered refl e
      (subst (λ (x : S). change x x) is h)

module _ {D : Type 0} {disk : Ghosts D} where
  -- what is left as it was found has grown
  pub still : (o : Replica D disk) (v : View (Replica D disk)) (g : Guard (Replica D disk)) →
      HasEntered IsGrown o v g → IsGrown (end_of o (knows g).seen) (state_of g)
  still o v g entered =
      let end = entered.3 ∙ sym (ap (λ (k : View (Replica D disk)). end_of o k.seen) entered.2) in
      subst (λ (x : Replica D disk). IsGrown x (state_of g)) end (itself (state_of g))

-- what the replica answered is what is answered
pub held_answer : {X : Type 0} (r : Result X SharedError) (answer : Result X ReplicaError)
    (A : Type 0) (B : Result X ReplicaError → Type 0) → answer_in r ≡ Some answer → B answer →
    MatchOption (answer_in r) A B
held_answer {X} r answer A B e b =
    subst (λ (o : Option (Result X ReplicaError)). MatchOption o A B) (sym e) b

-- what a pass saw last, after its own hold
last : {S : Type 0} (s : S) (seen : List (Hold S)) (h : Hold S) → end_of s (seen ++ h ∷ []) ≡ h.left
last s [] h = refl
last s (x ∷ xs) h = last x.left xs h

module _ {D : Type 0} {disk : Ghosts D} where
  pub later_now : (shared : SharedReplica D disk) (old new : Pass (Replica D disk))
      (p : Replica D disk) → p ≡ origin_of (own_of shared) → (g : Guard (Replica D disk))
      (found left : Replica D disk) → IsGrown (end_of p (view_of old).seen) (state_of g) →
      found ≡ state_of g → view_of new ≡ outside (published p (knows g) left) → IsGrown found left →
      IsLater shared old new
  later_now shared old new p same g found left before is e grown =
      let v = view_of old in
      let w = view_of new in
      let end : end_of p w.seen ≡ left = ap (λ (k : View (Replica D disk)). end_of p k.seen) e
      ∙ last p (knows g).seen (own_hold p (knows g) left) in
      record {
        grown = subst (λ (x : Replica D disk). IsGrown (end_of x v.seen) (end_of x w.seen)) same
            (subst (λ (x : Replica D disk). IsGrown (end_of p v.seen) x) (sym end)
            (grown_twice (end_of p v.seen) (state_of g) left before
            (subst (λ (x : Replica D disk). IsGrown x left) is grown)));
      }

  -- it was left as it was found
  pub later_still : (shared : SharedReplica D disk) (old new : Pass (Replica D disk))
      (p : Replica D disk) → p ≡ origin_of (own_of shared) → (g : Guard (Replica D disk)) →
      IsGrown (end_of p (view_of old).seen) (state_of g) →
      view_of new ≡ outside (published p (knows g) (state_of g)) → IsLater shared old new
  later_still shared old new p same g before e =
      later_now shared old new p same g (state_of g) (state_of g) before refl e
      (itself (state_of g))

  -- nothing was seen
  pub later_none : (shared : SharedReplica D disk) (old new : Pass (Replica D disk)) →
      FoundBusy old new → IsLater shared old new
  later_none shared old new e =
      let o = origin_of (own_of shared) in
      record {
        grown = subst (λ (k : View (Replica D disk)). IsGrown (end_of o (view_of old).seen)
            (end_of o k.seen)) (sym e) (itself (end_of o (view_of old).seen));
      }

module _ {D : Type 0} {disk : Ghosts D} (shared : SharedReplica D disk) where
  -- nothing was done
  pub later_same : (pass : Pass (Replica D disk)) → IsLater shared pass pass
  later_same pass =
      record { grown = itself (end_of (origin_of (own_of shared)) (view_of pass).seen) }

  -- one call, and another after it
  pub later_twice : (a b c : Pass (Replica D disk)) → IsLater shared a b → IsLater shared b c
      → IsLater shared a c
  later_twice a b c first second =
      let origin = origin_of (own_of shared) in record {
        grown = grown_twice (end_of origin (view_of a).seen) (end_of origin (view_of b).seen)
            (end_of origin (view_of c).seen) first.grown second.grown;
      }
