-- What is proved of the picture's runs.
use Rattle.std.proofs.Common.{List}
use Rattle.syn_model.specs.Refusal.{Refusal}
use Rattle.syn_runs.specs.World.{Step}
use Rattle.syn_runs.specs.Acknowledged.{Stores}
use Rattle.syn_runs.specs.Picture.{Picture, FollowsAll, stores_of}
use Rattle.syn_runs.specs.Headline.{IsStart}

-- what holds after every run
abbrev pub OfEachRun : (Stores → Picture → Type 0) → Type 0
OfEachRun Holds = (old new : Picture) (steps : List Step) (refusals : List Refusal) → IsStart old →
    FollowsAll old steps refusals new → Holds (stores_of old) new
