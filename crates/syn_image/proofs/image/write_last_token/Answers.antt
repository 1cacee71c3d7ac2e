use Rattle.std.proofs.Common.{◌++◌, ◌∷◌, [], sym, ap, ◌∙◌}
use Rattle.std.specs.Option.{option_map}
use Rattle.std.proofs.lemmas.Result.{on_ok_weaker}
use Rattle.syn_model.specs.Image.{last_token_spelling}
use Rattle.syn_model.specs.Spelling.{token_spelling}
use Rattle.syn_history.specs.Events.{token_of}
use Rattle.syn_model.proofs.ExitLemmas.{on_ok_of_exit}
use Rattle.syn_image.proofs.ImageLemmas.{one_after}
use Rattle.syn_image.proofs.image.write_last_token.Goals as goal

pub returns-in_err-push-in-None : goal.returns-in_err-push-in-None
returns-in_err-push-in-None c = on_ok_of_exit c.from_residual.result _ _ c.from_residual.ensures.1

pub returns-in_ok-push-in-None : goal.returns-in_ok-push-in-None
returns-in_ok-push-in-None c =
    c.in_ok-push-in-None.ensures.items ∙ ap
    (λ o. c.args.out.now.items ++ last_token_spelling (option_map token_of o)) (sym c.in-None.is)

pub returns-in_err-push-in-Some : goal.returns-in_err-push-in-Some
returns-in_err-push-in-Some c =
    on_ok_of_exit c.from_residual-in_err-push-in-Some.result _ _
    c.from_residual-in_err-push-in-Some.ensures.1

pub returns-in_ok-push-in-Some : goal.returns-in_ok-push-in-Some
returns-in_ok-push-in-Some c =
    let out = c.args.out.now.items in
    on_ok_weaker c.write_token.result (λ added.
    one_after out c.push-in-Some.new.self.items c.write_token.new.out.items (1 ∷ [])
    (token_spelling (token_of c.in-Some.token)) c.in_ok-push-in-Some.ensures.items added
    ∙ ap (λ o. out ++ last_token_spelling (option_map token_of o)) (sym c.in-Some.is))
    c.write_token.ensures.added
