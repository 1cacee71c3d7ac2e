use Rattle.std.proofs.Common.{◌++◌, ◌∷◌, [], ℕ, length, nat_lt, cond, None, slice_get, sym, ap}
use Rattle.std.proofs.Common.{◌∙◌, subst, arith, lit<}
use Rattle.std.specs.List.{AllPairs}
use Rattle.std.specs.FinMap as map
use Rattle.circular_buffer.specs.Buffer.{keep_last}
use Rattle.syn_model.specs.Path.{Path}
use Rattle.syn_model.specs.Standing.{most_touches}
use Rattle.syn_history.specs.Index.{IsEarlier, last_positions, without}
use Rattle.syn_history.proofs.IndexLemmas.{stays_of, rising_more, last-push, len-last}
use Rattle.syn_history.proofs.trail.add_touch.Goals as goal

pub index_after-index-requires : goal.index_after-index-requires
index_after-index-requires c x e =
    let old = c.args.touches.now in
    let touch = c.args.touch in
    let out = c.push_back-dropped.result in
    let indexed = c.requires.indexed in
    let dropped = c.push_back-dropped.ensures.value ∙ ap (λ n. cond (nat_lt (length old.items) n)
    None (slice_get (old.items ++ touch ∷ []) 0)) c.requires.room in
    let s = stays_of most_touches old.items touch out (lit< tt) c.requires.few indexed.rising
    c.requires.later dropped in
    let rest = ap (λ m. without m out) (indexed.last x e) ∙ s.index in
    omega (arith, ap map.len rest, len-last s.stays, s.few)

pub returns-clause-indexed : goal.returns-clause-indexed
returns-clause-indexed c =
    let old = c.args.touches.now in
    let touch = c.args.touch in
    let out = c.push_back-dropped.result in
    let indexed = c.requires.indexed in
    let dropped = c.push_back-dropped.ensures.value ∙ ap (λ n. cond (nat_lt (length old.items) n)
    None (slice_get (old.items ++ touch ∷ []) 0)) c.requires.room in
    let s = stays_of most_touches old.items touch out (lit< tt) c.requires.few indexed.rising
    c.requires.later dropped in
    let kept = ap (λ b. b.items) c.push_back-dropped.ensures.items
    ∙ (ap (λ n. keep_last n (old.items ++ touch ∷ [])) c.requires.room ∙ s.kept) in
    record {
      rising = subst (AllPairs IsEarlier) (sym kept) (rising_more s.stays touch s.rising s.later);
      last = λ new e.
          let on = c.index_after-index.ensures new e in
          let rest = ap (λ m. without m out) (indexed.last on.was on.old_is) ∙ s.index in
          on.new_is ∙ (ap (λ m. map.insert m on.entry.0 on.entry.1) rest
          ∙ (ap (λ (slot : Path × ℕ). map.insert (last_positions s.stays) slot.0 slot.1)
          (c.requires.slot on.entry on.slot_is)
          ∙ (sym (last-push s.stays touch) ∙ ap last_positions (sym kept))));
    }
