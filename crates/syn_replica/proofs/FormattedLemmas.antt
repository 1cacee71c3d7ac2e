-- The image of a replica with no events.
use Rattle.std.proofs.Common.{◌≡◌, [], refl}
use Rattle.syn_model.specs.Standing.{new_standing}
use Rattle.syn_model.specs.History.{standing_of, tree_of}

pub nothing_yet : new_standing ≡ standing_of []
unfolding tree_of
nothing_yet = refl
