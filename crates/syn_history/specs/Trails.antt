-- The steps and the parts of a trail as the model has them.
use Rattle.std.specs.Prelude.{option_map}
use Rattle.syn_model.specs.Event as model
use Rattle.syn_model.specs.Event.{edited_path}
use Rattle.syn_history.specs.declared.step.TrailStep.{TrailStep}
use Rattle.syn_history.specs.declared.step.TrailStep.TheVariants as has
use Rattle.syn_history.specs.declared.trail.TrailParts.{TrailParts}
use Rattle.syn_history.specs.Events.{token_of}
use Rattle.syn_history.specs.Past.{Past}

-- an event without what it puts
abbrev pub step_of : model.Event → TrailStep
step_of (model.Edited user edit) = has.Edited (edited_path edit)
step_of (model.Began session) = has.Began session
step_of (model.Replaced token path since new) = has.Replaced
    (record { session = token.session; item = token.item }) path

abbrev pub past_from : TrailParts → Past
past_from parts =
    record {
      position = parts.position;
      floor = parts.floor;
      touches = parts.touches.items;
      session
          = parts.session;
      token = option_map token_of parts.token;
    }
