use Rattle.std.proofs.Common.{◌≡◌, ◌≢◌, ◌+◌, ◌++◌, ◌∙◌, ℕ, [], length, ap, arith, inl, inr, refl}
use Rattle.std.proofs.Common.{Some, subst, sym, true≢false}
use Rattle.syn_link.specs.Frames.{Bytes}
use Rattle.syn_model.proofs.ExitLemmas.{if_err_of_exit}
use Rattle.syn_model.specs.Spelling.{spelling}
use Rattle.syn_user.proofs.PieceLemmas.{AreFirst, goes_on, is_all, next_of, none_came}
use Rattle.syn_user.proofs.PieceLemmas.{spelled_short}
use Rattle.syn_user.proofs.SideLemmas.{Gathers, no_piece_so, piece_gathered, pieces_of}
use Rattle.syn_user.proofs.SideLemmas.{refused_so, touched_so}
use Rattle.syn_user.specs.Sides.{NoPieces, SideState, no_tree, side_state}
use Rattle.syn_user.specs.inner.Parts.{IsNext}
use Rattle.syn_user.proofs.side.SideConnection.tree_at.Goals as goal

-- what was gathered, with what is equal to it
gathers_with : (position count : ℕ) (a b : SideState) (told now : _) (bytes items : Bytes)
    → now ≡ told → items ≡ bytes → (all : Gathers position a b bytes)
    → AreFirst count told bytes all.0
    → (all : Gathers position a b items) × AreFirst count now items all.0
gathers_with position count a b told now bytes items same_told same_bytes all first =
    subst (λ o. (all : Gathers position a b items) × AreFirst count o items all.0) (sym same_told)
    (subst (λ bs. (all : Gathers position a b bs) × AreFirst count told bs all.0)
    (sym same_bytes) (all, first))

pub returns-in_default-clause-none : goal.returns-in_default-clause-none
returns-in_default-clause-none g c =
    touched_so _ _ _ _ _ _ c.offset.ensures c.loop-count.invariant.0
    (rw c.in_default.is at c.in_ok-total.ensures.none)

pub returns-in_err-total-clause-refused : goal.returns-in_err-total-clause-refused
returns-in_err-total-clause-refused g c =
    let state = side_state g.R.Read.remaining g.W.Write.contents in
    let error = c.in_err-total.field-0.0 in
    if_err_of_exit c.from_residual.result error
    (NoPieces c.args.position (state c.args.self.now) (state c.piece.new.self))
    c.from_residual.ensures.1 (no_piece_so _ _ _ _ _ _ c.offset.ensures error
    c.loop-count.invariant.0
    c.in_err-total.ensures.refused)

pub returns-then-is_whole-clause-tree : goal.returns-then-is_whole-clause-tree
returns-then-is_whole-clause-tree g c =
    let came = rw c.in-Some.is at c.in_ok-total.ensures.piece in
    let so_far = c.loop-count.gathered.bytes.items in
    let all = piece_gathered _ _ _ _ so_far _ c.offset.ensures c.in-Some.bytes.items
    c.in-Some.total c.loop-count.invariant.0 came in
    let taken = c.in_ok-take.ensures.taken ∙ ap (λ bs. so_far ++ bs) c.deref.ensures.value in
    pieces_of _ _ _ _ _ all (c.in_ok-tree.ensures.tree ∙ taken)

pub loop-count-init : goal.loop-count-init
loop-count-init g c = (
  ([], refl, sym c.new-gathered.ensures.bytes),
  none_came c.new-gathered.result.total c.new-gathered.result.bytes.items
      c.new-gathered.ensures.total c.new-gathered.ensures.bytes,
)

pub loop-count-preserved : goal.loop-count-preserved
loop-count-preserved g c =
    let state = side_state g.R.Read.remaining g.W.Write.contents in
    let before = c.loop-count.gathered in
    let so_far = before.bytes.items in
    let all = c.loop-count.invariant.0 in
    let piece : ℕ × Bytes = (c.in-Some.total, c.in-Some.bytes.items) in
    let came = rw c.in-Some.is at c.in_ok-total.ensures.piece in
    let more = piece_gathered _ _ _ _ so_far _ c.offset.ensures piece.1 piece.0 all came in
    let taken = c.in_ok-take.ensures.taken ∙ ap (λ bs. so_far ++ bs) c.deref.ensures.value in
    let others : Some piece.0 ≢ Some (length (so_far ++ piece.1)) =
    λ same. true≢false (sym (c.is_whole.ensures.1 (c.in_ok-take.ensures.total
    ∙ (same ∙ ap (λ bs. Some (length bs)) (sym taken)))) ∙ c.if-is_whole.false) in
    gathers_with c.args.position (c.loop-count._count + 1) (state c.args.self.now)
    (state c.piece.new.self) (Some piece.0) c.take.new.self.total (so_far ++ piece.1)
    c.take.new.self.bytes.items c.in_ok-take.ensures.total taken more
    (λ spelled are. goes_on c.loop-count._count before.total so_far all.0 piece all.2
    c.loop-count.invariant.1 spelled are others)

pub returns-in_err-take-clause-refused : goal.returns-in_err-take-clause-refused
returns-in_err-take-clause-refused g c =
    let state = side_state g.R.Read.remaining g.W.Write.contents in
    let before = c.loop-count.gathered in
    let so_far = before.bytes.items in
    let all = c.loop-count.invariant.0 in
    let piece : ℕ × Bytes = (c.in-Some.total, c.in-Some.bytes.items) in
    let came = rw c.in-Some.is at c.in_ok-total.ensures.piece in
    let more = piece_gathered _ _ _ _ so_far _ c.offset.ensures piece.1 piece.0 all came in
    let error = c.in_err-take.field-0.0 in
    if_err_of_exit c.from_residual-in_err-take.result error
    (NoPieces c.args.position (state c.args.self.now) (state c.piece.new.self))
    c.from_residual-in_err-take.ensures.1
    (refused_so _ _ _ more.0 error more.1 (elim c.in_err-take.ensures.refused [
      | inl both ↦ inl (
        both.0,
        λ tree whole are. both.1
            (subst (λ bs. IsNext before.total (length so_far) piece.0 (length bs))
            (sym c.deref.ensures.value)
            (next_of c.loop-count._count before.total so_far all.0 piece all.2
            c.loop-count.invariant.1 (spelling tree) are (spelled_short tree whole))),
      )
      | inr memory ↦ inr memory
    ]))

pub returns-in_err-tree-clause-refused : goal.returns-in_err-tree-clause-refused
returns-in_err-tree-clause-refused g c =
    let state = side_state g.R.Read.remaining g.W.Write.contents in
    let before = c.loop-count.gathered in
    let so_far = before.bytes.items in
    let all = c.loop-count.invariant.0 in
    let piece : ℕ × Bytes = (c.in-Some.total, c.in-Some.bytes.items) in
    let came = rw c.in-Some.is at c.in_ok-total.ensures.piece in
    let more = piece_gathered _ _ _ _ so_far _ c.offset.ensures piece.1 piece.0 all came in
    let taken = c.in_ok-take.ensures.taken ∙ ap (λ bs. so_far ++ bs) c.deref.ensures.value in
    let is_so : Some piece.0 ≡ Some (length (so_far ++ piece.1)) =
    sym c.in_ok-take.ensures.total ∙ (c.is_whole.ensures.0 c.if-is_whole.true
    ∙ ap (λ bs. Some (length bs)) taken) in
    let error = c.in_err-tree.field-0.0 in
    if_err_of_exit c.from_residual-in_err-tree.result error
    (NoPieces c.args.position (state c.args.self.now) (state c.piece.new.self))
    c.from_residual-in_err-tree.ensures.1
    (refused_so _ _ _ more.0 error more.1 (elim c.in_err-tree.ensures.refused [
      | inl both ↦ inl (
        both.0,
        λ tree whole are. both.1 tree whole
            (sym (is_all c.loop-count._count before.total so_far all.0 piece all.2
            c.loop-count.invariant.1 (spelling tree) are is_so) ∙ sym taken),
      )
      | inr memory ↦ inr memory
    ]))

pub returns-clause-refused : goal.returns-clause-refused
returns-clause-refused g c =
    let all = c.loop-count.invariant.0 in
    no_tree all.0 all.1 (λ tree whole are.
    let short = spelled_short tree whole in
    let long = (c.loop-count.invariant.1 (spelling tree) are).2 in
    absurd (omega (arith, short, long, c.loop-count-test.false)))
