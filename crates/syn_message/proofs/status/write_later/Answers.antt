use Rattle.std.proofs.Common.{◌≡◌, ◌++◌, option_map, subst}
use Rattle.std.specs.Int.{to_be_bytes, w64}
use Rattle.syn_history.specs.Events.{token_of}
use Rattle.syn_message.proofs.StatusLemmas.{four_added}
use Rattle.syn_message.proofs.status.write_later.Goals as goal
use Rattle.syn_message.specs.Statuses.{halted_spelling, touched_spelling}
use Rattle.syn_model.specs.Image.{last_token_spelling}

pub returns : goal.returns
returns c =
    let status = c.args.status.now in
    four_added _ _ _ _ _ (last_token_spelling (option_map token_of status.token))
    (to_be_bytes w64 status.place) (touched_spelling status.touch)
    (halted_spelling status.halted) c.in_ok-write_last_token.ensures
    c.in_ok-write_u64.ensures.added
    (subst (λ touch. c.write_touched.new.body.items
    ≡ c.write_u64.new.out.items ++ touched_spelling touch) c.as_ref.ensures.value
    c.in_ok-write_touched.ensures)
    c.in_ok-write_halted.ensures
