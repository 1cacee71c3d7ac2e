use Rattle.syn_user.proofs.PieceLemmas.{AreFirst}
use Rattle.syn_user.proofs.SideLemmas.{Gathers}
use Rattle.syn_user.specs.Sides.{side_state}
use Rattle.syn_user.proofs.side.SideConnection.tree_at.Given as goal

-- so many pieces came, one after the other, and are the first of no other spelling
abbrev pub invariant-loop-count : goal.invariant-loop-count
invariant-loop-count g l =
    let state = side_state g.R.Read.remaining g.W.Write.contents in
    (all : Gathers l.position (state l.initial.self) (state l.self) l.gathered.bytes.items)
    × AreFirst l._count l.gathered.total l.gathered.bytes.items all.0
