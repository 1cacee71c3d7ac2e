-- What a transfer asks for.
use Rattle.std.specs.Prelude.{◌≡◌}
use Rattle.syn_machine.specs.Network.{Which}
use Rattle.syn_machine.specs.Side.{Request}
use Rattle.syn_message.specs.Requests.{request_of}
use Rattle.syn_path.specs.Sides.{which_of}
use Rattle.syn_propagate.specs.declared.next.Next.{Next}
use Rattle.syn_propagate.specs.declared.next.Next.TheVariants.{Ask, Done, Refused}

-- it asks this side for this
abbrev pub AsksFor : Next → Which → Request → Type 0
AsksFor (Ask asked) to request = (which_of asked.to ≡ to) × (request_of asked.request ≡ request)
AsksFor Done to request = ⊥
AsksFor (Refused why) to request = ⊥
