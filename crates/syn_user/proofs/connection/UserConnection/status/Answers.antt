use Rattle.syn_user.proofs.connection.UserConnection.status.Goals as goal
use Rattle.syn_user.specs.Exchanges.{refused}

pub returns-in-Refused-clause-err : goal.returns-in-Refused-clause-err
returns-in-Refused-clause-err g c =
    refused c.in-Refused.refusal (rw c.in-Refused.is at c.in_ok-identity.ensures.told)
