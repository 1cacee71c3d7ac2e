-- Laws of growth: a replica is grown from itself, and growth upon growth is growth.
use Rattle.std.proofs.Common.{◌≤◌, List, [], ◌∷◌, ◌++◌, sym, ◌∙◌, subst, inl, inr, append_assoc}
use Rattle.std.proofs.Common.{le_refl, le_trans, refl}
use mathlib.Core.List.{append-nil}
use Rattle.syn_disk.specs.declared.disk.Disk.{Ghosts}
use Rattle.syn_model.specs.Event.{Event}
use Rattle.syn_model.specs.History.{History, AllAllowed}
use Rattle.syn_replica.specs.Replica.{position_shown, Remembers}
use Rattle.syn_replica.specs.Growth.{KeepsUp, GoesOn, KeepsAll, IsGrown}
use Rattle.syn_replica.specs.declared.replica.Replica.{Replica}

-- what is allowed after events is allowed after them
allowed_rest : (done : History) (first more : List Event) → AllAllowed done (first ++ more)
    → AllAllowed (done ++ first) more
allowed_rest done [] more h = subst (λ (d : History). AllAllowed d more) (sym (append-nil done)) h
allowed_rest done (e ∷ es) more h =
    subst (λ (d : History). AllAllowed d more) (append_assoc done (e ∷ []) es)
    (allowed_rest (done ++ e ∷ []) es more h.1)

module _ {D : Type 0} {disk : Ghosts D} where
  pub remembered : (replica : Replica D disk) (history : History) → KeepsUp replica history
      → Remembers replica history
  remembered replica history (inl s) = s.remembers
  remembered replica history (inr c) = c.remembers

  pub goes_on : (replica : Replica D disk) (history : History) (more : List Event)
      → KeepsUp replica (history ++ more) → GoesOn replica history
  goes_on replica history more k = record {
    more = more;
    allowed = allowed_rest [] history more (remembered replica (history ++ more) k).lawful;
    keeps_up = k;
  }

  pub stays : (replica : Replica D disk) (history : History) → KeepsUp replica history
      → GoesOn replica history
  stays replica history k =
      goes_on replica history []
      (subst (λ (h : History). KeepsUp replica h) (sym (append-nil history)) k)

  pub all_kept : (old new : Replica D disk) → KeepsAll old new → IsGrown old new
  unfolding IsGrown
  all_kept old new kept = kept

  pub keeps_all : (old new : Replica D disk) → IsGrown old new → KeepsAll old new
  unfolding IsGrown
  keeps_all old new grown = grown

  pub itself : (replica : Replica D disk) → IsGrown replica replica
  itself replica = all_kept replica replica (record {
    pair = refl;
    position = le_refl (position_shown replica);
    each = λ history k. stays replica history k;
  })

  pub advances : (old new : Replica D disk) → IsGrown old new
      → position_shown old ≤ position_shown new
  advances old new grown = (keeps_all old new grown).position

  pub grown_twice : (a b c : Replica D disk) → IsGrown a b → IsGrown b c → IsGrown a c
  grown_twice a b c first second =
      let p = keeps_all a b first in let q = keeps_all b c second in
      all_kept a c (record {
        pair = q.pair ∙ p.pair;
        position = le_trans p.position q.position;
        each = λ history k. let one = p.each history k in
            let two = q.each (history ++ one.more) one.keeps_up in
            goes_on c history (one.more ++ two.more)
            (subst (λ (h : History). KeepsUp c h) (append_assoc history one.more two.more)
            two.keeps_up);
      })
