use Rattle.syn_world.proofs.FollowingLemmas.{meet_premise}
use Rattle.syn_world.proofs.laws.following_laws.Goals as goal

pub returns : goal.returns
returns g c = record {
  premise = λ pair session on_left on_right fits is_left is_right of_pair stands.
      meet_premise g.D.Disk c.disk_laws.ensures.unmarked pair session c.args.left.now
      c.args.right.now c.args.archive.now on_left on_right is_left is_right of_pair stands fits;
}
