use Rattle.std.proofs.Common.{refl, rules}
use Rattle.syn_user.proofs.connection.UserConnection.give_up.Goals as goal
use Rattle.syn_user.specs.Exchanges.{closed, unsent}
use Rattle.syn_user.specs.declared.error.UserError.TheVariants.{Memory}

pub returns-then-not-self : goal.returns-then-not-self
returns-then-not-self g c = λ request. closed (search rules) refl

pub returns : goal.returns
returns g c = λ request. unsent Memory (search rules) refl (refl, refl) refl
