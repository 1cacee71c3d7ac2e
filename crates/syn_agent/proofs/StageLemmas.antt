-- A piece that is staged changes no history.
use Rattle.std.proofs.Common.{◌≡◌, ◌≢◌, ◌⊎◌, ◌∙◌, ◌+◌, ℕ, Bool, true, false, not, [], ◌∷◌, Option}
use Rattle.std.proofs.Common.{Some, None, ap, drop, inl, inr, length, refl, subst, sym, take}
use Rattle.std.specs.Prelude.{◌==◌, ◌&&◌, bytes_eq, nat_le, if◌then◌else◌}
use Rattle.syn_agent.proofs.CauseLemmas.{refused_one}
use Rattle.syn_agent.proofs.ReplicaLemmas.{as_was}
use Rattle.syn_agent.specs.Agents.{side_of, staging_of}
use Rattle.syn_agent.specs.Answers.{Answers, keeps}
use Rattle.syn_agent.specs.declared.agent.Agent.{Agent}
use Rattle.syn_disk.specs.declared.disk.Disk.{Ghosts}
use Rattle.syn_machine.specs.Side.{Reply, Refused, Served, Stage, Staged, Staging, Side, answer}
use Rattle.syn_machine.specs.Side.{GoesAfter, set_staging, stage, stage_first, token_of}
use Rattle.syn_machine.specs.Side.{unless_refused}
use Rattle.syn_message.specs.Replies.{IsLawfulReply}
use Rattle.syn_model.specs.Event.{Token, is_below, is_same_token}
use Rattle.syn_model.specs.History.{History}
use Rattle.syn_model.specs.Path.{Bytes}
use Rattle.syn_model.specs.Limits.{greatest_spelling}
use Rattle.syn_model.specs.Refusal.{Refusal, Memory, Device, OldSession, NotStaged, BadStage}
use Rattle.syn_model.specs.Refusal.{first_cause}
use Rattle.syn_replica.specs.Replica.{Stands}
use Rattle.syn_replica.specs.declared.replica.Replica.{Replica}

abbrev side_staging : History → Option Staging → Side
side_staging history staging = record { history = history; staging = staging }

pub stage_answers : {D : Type 0} {disk : Ghosts D} (replica : Replica D disk) (agent after : Agent)
    (history : History) (session item offset : ℕ) (bytes : Bytes) (reply : Reply)
    → Stands replica history
    → ((history : History) → stage (side_of history agent) (staging_of agent)
    (token_of session item) offset bytes ≡ answer (side_of history after) reply)
    ⊎ ((reply ≡ Refused Memory) × (staging_of after ≡ staging_of agent)
    × GoesAfter (staging_of agent) (token_of session item) offset)
    → Answers replica replica agent after history session (Stage item offset bytes) reply
stage_answers replica agent after history session item offset bytes reply stands (inl served) =
    keeps (answer (side_of history after) reply)
    (inl (None, inr (λ a b. refl), sym (served history))) refl
    (as_was replica) stands
stage_answers replica agent after history session item offset bytes reply stands (inr memory) =
    subst (λ r. Answers replica replica agent after history session (Stage item offset bytes) r)
    (sym memory.0)
    (keeps (answer (side_of history agent) (Refused Memory)) (inr (memory.2, refl))
    (ap (side_staging history) (sym memory.1))
    (as_was replica) stands)

-- a refusal that staging does not know
module _ (bad : Refusal) (old : OldSession ≢ bad) (first : NotStaged ≢ bad)
    (wrong : BadStage ≢ bad) where
  abbrev IsOther : Served → Type 0
  IsOther served = served.reply ≢ Refused bad

  choose : (b : Bool) (x y : Served) → IsOther x → IsOther y → IsOther (if b then x else y)
  choose true x y h k = h
  choose false x y h k = k

  other_refusal : (side : Side) (why : Refusal) → why ≢ bad → IsOther (answer side (Refused why))
  other_refusal side why differs is = differs (refused_one why bad is)

  first_other : (side : Side) (token : Token) (offset : ℕ) (bytes : Bytes)
      → IsOther (stage_first side token offset bytes)
  first_other side token offset bytes =
      by (offset == 0) (nat_le (length bytes) greatest_spelling)
    where
      by : (b fits : Bool) → IsOther (unless_refused side
          (first_cause ((not b, NotStaged) ∷ (not fits, BadStage) ∷ []))
          (answer (set_staging side (record { token = token; bytes = bytes })) Staged))
      by true true = λ e. cc
      by true false = other_refusal side BadStage wrong
      by false fits = other_refusal side NotStaged first

  pub stage_other : (side : Side) (staging : Option Staging) (token : Token) (offset : ℕ)
      (bytes : Bytes) → IsOther (stage side staging token offset bytes)
  stage_other side None token offset bytes = first_other side token offset bytes
  stage_other side (Some staging) token offset bytes =
      choose (is_below token staging.token) _ _ (other_refusal side OldSession old)
      (choose (is_same_token token staging.token) _ _
      (choose (offset == length staging.bytes
      && nat_le (length staging.bytes + length bytes) greatest_spelling) _ _ (λ e. cc)
      (choose (bytes_eq (take (length bytes) (drop offset staging.bytes)) bytes
      && nat_le (offset + length bytes) (length staging.bytes)) _ _ (λ e. cc)
      (other_refusal side BadStage wrong)))
      (first_other side token offset bytes))

-- memory is refused only where a piece goes after another
pub stage_takes : (agent after : Agent) (token : Token) (offset : ℕ) (bytes : Bytes) (reply : Reply)
    → ((history : History) → stage (side_of history agent) (staging_of agent) token offset bytes
    ≡ answer (side_of history after) reply)
    ⊎ ((reply ≡ Refused Memory) × (staging_of after ≡ staging_of agent)
    × GoesAfter (staging_of agent) token offset)
    → reply ≡ Refused Memory → GoesAfter (staging_of agent) token offset
stage_takes agent after token offset bytes reply (inl served) is =
    absurd (stage_other Memory (λ e. cc) (λ e. cc) (λ e. cc) (side_of [] agent) (staging_of agent)
    token offset bytes (ap (λ s. s.reply) (served []) ∙ is))
stage_takes agent after token offset bytes reply (inr memory) is = memory.2

-- and no device call fails
pub stage_device : (agent after : Agent) (token : Token) (offset : ℕ) (bytes : Bytes)
    (reply : Reply)
    → ((history : History) → stage (side_of history agent) (staging_of agent) token offset bytes
    ≡ answer (side_of history after) reply)
    ⊎ ((reply ≡ Refused Memory) × (staging_of after ≡ staging_of agent)
    × GoesAfter (staging_of agent) token offset) → reply ≢ Refused Device
stage_device agent after token offset bytes reply (inl served) is =
    stage_other Device (λ e. cc) (λ e. cc) (λ e. cc) (side_of [] agent) (staging_of agent)
    token offset bytes (ap (λ s. s.reply) (served []) ∙ is)
stage_device agent after token offset bytes reply (inr memory) is =
    let k : Refused Memory ≡ Refused Device = sym memory.0 ∙ is in cc

-- and every reply to a piece can be sent: it is that the piece is staged, or a refusal
abbrev IsSent : Served → Type 0
IsSent served = IsLawfulReply served.reply

one_of : (b : Bool) (x y : Served) → IsSent x → IsSent y → IsSent (if b then x else y)
one_of true x y h k = h
one_of false x y h k = k

first_sent : (side : Side) (token : Token) (offset : ℕ) (bytes : Bytes)
    → IsSent (stage_first side token offset bytes)
first_sent side token offset bytes =
    by (offset == 0) (nat_le (length bytes) greatest_spelling)
  where
    by : (b fits : Bool) → IsSent (unless_refused side
        (first_cause ((not b, NotStaged) ∷ (not fits, BadStage) ∷ []))
        (answer (set_staging side (record { token = token; bytes = bytes })) Staged))
    by true true = tt
    by true false = tt
    by false fits = tt

stage_sent : (side : Side) (staging : Option Staging) (token : Token) (offset : ℕ) (bytes : Bytes)
    → IsSent (stage side staging token offset bytes)
stage_sent side None token offset bytes = first_sent side token offset bytes
stage_sent side (Some staging) token offset bytes =
    one_of (is_below token staging.token) _ _ tt
    (one_of (is_same_token token staging.token) _ _
    (one_of (offset == length staging.bytes
    && nat_le (length staging.bytes + length bytes) greatest_spelling) _ _ tt
    (one_of (bytes_eq (take (length bytes) (drop offset staging.bytes)) bytes
    && nat_le (offset + length bytes) (length staging.bytes)) _ _ tt tt))
    (first_sent side token offset bytes))

pub stage_lawful : (agent after : Agent) (token : Token) (offset : ℕ) (bytes : Bytes)
    (reply : Reply)
    → ((history : History) → stage (side_of history agent) (staging_of agent) token offset bytes
    ≡ answer (side_of history after) reply)
    ⊎ ((reply ≡ Refused Memory) × (staging_of after ≡ staging_of agent)
    × GoesAfter (staging_of agent) token offset) → IsLawfulReply reply
stage_lawful agent after token offset bytes reply (inl served) =
    subst IsSent (served []) (stage_sent (side_of [] agent) (staging_of agent) token offset bytes)
stage_lawful agent after token offset bytes reply (inr memory) =
    subst IsLawfulReply (sym memory.0) tt
