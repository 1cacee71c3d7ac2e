-- The front of a body, and what stands after it.
use Rattle.std.proofs.Common.{◌≡◌, ◌≢◌, ◌∷◌, ◌++◌, ◌∙◌, ◌<◌, ◌^◌, ℕ, ap, append_assoc}
use Rattle.std.proofs.Common.{sym}
use Rattle.std.specs.Int.{to_be_bytes, w32, w64}
use Rattle.syn_model.specs.Path.{Bytes}
use Rattle.syn_message.proofs.WholeLemmas.{first_of, rest_of}
use Rattle.syn_message.specs.Bodies.{body_spelling}
use Rattle.syn_message.specs.inner.Heads.{head_spelling}
use Rattle.syn_wire.specs.Laws.{NoU32BeginsAnother, NoU64BeginsAnother}
use Rattle.syn_wire.specs.Reads.{BeginsWith, NothingStands}

-- a body has a front after its kind
pub no_head : (IsLawful : ℕ × ℕ → Type 0) (body after : Bytes) (first : ℕ) → body ≡ first ∷ after
    → NothingStands IsLawful head_spelling after
    → (kind session number : ℕ) (fields : Bytes) → IsLawful (session, number)
    → body ≢ body_spelling kind session number fields
no_head IsLawful body after first whole none kind session number fields lawful is =
    none (session, number) fields (record {
      lawful = lawful;
      spelled = ap rest_of (sym whole ∙ is)
          ∙ sym (append_assoc (to_be_bytes w64 session) (to_be_bytes w32 number) fields);
    })

-- the number stands after the session
pub no_number : NoU64BeginsAnother → (bytes after : Bytes) (session : ℕ)
    → BeginsWith (λ n. n < 2 ^ 64) (to_be_bytes w64) bytes session after
    → NothingStands (λ n. n < 2 ^ 32) (to_be_bytes w32) after
    → (head : ℕ × ℕ) (rest : Bytes) → head.0 < 2 ^ 64 → head.1 < 2 ^ 32
    → bytes ≢ head_spelling head ++ rest
no_number u64 bytes after session found none head rest begun small is =
    let later = (u64 session head.0 after (to_be_bytes w32 head.1 ++ rest) found.lawful begun
    (sym found.spelled
    ∙ (is ∙ append_assoc (to_be_bytes w64 head.0) (to_be_bytes w32 head.1) rest))).1 in
    none head.1 rest (record { lawful = small; spelled = later })

-- it tells its kind, session and number, and what stands after them
pub body_tells : NoU32BeginsAnother → NoU64BeginsAnother → (k s n k' s' n' : ℕ) (f f' : Bytes)
    → s < 2 ^ 64 → s' < 2 ^ 64 → n < 2 ^ 32 → n' < 2 ^ 32
    → body_spelling k s n f ≡ body_spelling k' s' n' f'
    → (k ≡ k') × (s ≡ s') × (n ≡ n') × (f ≡ f')
body_tells u32 u64 k s n k' s' n' f f' hs hs' hn hn' same =
    let session = u64 s s' _ _ hs hs' (ap rest_of same) in
    let number = u32 n n' _ _ hn hn' session.1 in
    (ap first_of same, session.0, number.0, number.1)
