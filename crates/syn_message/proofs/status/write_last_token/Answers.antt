use Rattle.std.proofs.Common.{◌++◌, ◌∷◌, ◌∙◌, [], ap, append_assoc, option_map, sym}
use Rattle.syn_history.specs.Events.{token_of}
use Rattle.syn_message.proofs.status.write_last_token.Goals as goal
use Rattle.syn_model.specs.Image.{last_token_spelling}
use Rattle.syn_model.specs.Spelling.{token_spelling}

pub returns-in_ok-write_token-in-Some : goal.returns-in_ok-write_token-in-Some
returns-in_ok-write_token-in-Some c =
    let old = c.args.body.now.items in
    let spelled = token_spelling (token_of c.in-Some.token) in
    c.in_ok-write_token-in-Some.ensures.added
    ∙ (ap (λ x. x ++ spelled) c.in_ok-push-in-Some.ensures.items
    ∙ (append_assoc old (1 ∷ []) spelled
    ∙ ap (λ o. old ++ last_token_spelling (option_map token_of o)) (sym c.in-Some.is)))
