-- The two sides: what holds of one and of the other holds of both.
use Rattle.std.proofs.Common.{◌≡◌, refl}
use Rattle.syn_machine.specs.Network.{Which, Left, Right, other}

pub on_both : (P : Which → Type 0) (side : Which) → P side → P (other side) → (s : Which) → P s
on_both P Left here there Left = here
on_both P Left here there Right = there
on_both P Right here there Right = here
on_both P Right here there Left = there

pub other_twice : (side : Which) → other (other side) ≡ side
other_twice Left = refl
other_twice Right = refl
