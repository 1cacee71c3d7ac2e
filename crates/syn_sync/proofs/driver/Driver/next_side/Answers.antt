use Rattle.std.proofs.Common.{◌≡◌, Option, None, Some, sym, true}
use Rattle.std.specs.Prelude.{IfSome}
use Rattle.syn_coordinator.specs.Coordinators.{is_waiting}
use Rattle.syn_machine.specs.Session.{Running}
use Rattle.syn_path.specs.Sides.{which_of}
use Rattle.syn_path.specs.declared.side.Side.{Side}
use Rattle.syn_path.specs.declared.side.Side.TheVariants.{Left, Right}
use Rattle.syn_sync.proofs.driver.Driver.next_side.Goals as goal

-- whichever side is ready is waited on where both are
either_waits : (running : Option Running) → is_waiting running (which_of Left) ≡ true
    → is_waiting running (which_of Right) ≡ true → (ready : Option Side)
    → IfSome ready (λ side. is_waiting running (which_of side) ≡ true)
either_waits running left right None = tt
either_waits running left right (Some Left) = left
either_waits running left right (Some Right) = right

pub returns-in-true-true : goal.returns-in-true-true
returns-in-true-true g c = λ pair machine stands.
    either_waits machine.running (sym (c.in-true-true.ensures pair machine stands))
    (sym (c.in-true-true.ensures' pair machine stands)) c.ready_side.result
