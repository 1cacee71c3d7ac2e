-- What a command and its values lack.
use Rattle.std.proofs.Common.{◌≡◌, List, [], ◌∷◌, None, inl, inr, refl, subst, sym}
use Rattle.clap.specs.Words.{Row, first_of}
use Rattle.syn_cli.specs.Reads.{HasUser, IsEdit}
use Rattle.syn_cli.specs.Verbs.{name_of}
use Rattle.syn_cli.specs.declared.value.ValueName.{ValueName}
use Rattle.syn_cli.specs.declared.value.ValueName.TheVariants.{File, User, Path, Mode}
use Rattle.syn_cli.specs.declared.verb.Verb.{Verb}
use Rattle.syn_cli.specs.declared.verb.Verb.TheVariants as verb
use Rattle.syn_cli.specs.inner.Lacking.{IsLacking, IsOneOf}

and_mode : (told : ValueName) → IsOneOf told (File ∷ User ∷ Path ∷ []) →
    IsOneOf told (File ∷ User ∷ Path ∷ Mode ∷ [])
and_mode told (inl file) = inl file
and_mode told (inr (inl user)) = inr (inl user)
and_mode told (inr (inr (inl path))) = inr (inr (inl path))
and_mode told (inr (inr (inr none))) = absurd none

-- each edit requires these values
pub edit_missing : (v : Verb) (rows : List Row) (told : ValueName) → IsEdit v
    → IsOneOf told (File ∷ User ∷ Path ∷ []) → first_of (name_of told) rows ≡ None
    → IsLacking v rows told
edit_missing verb.Put rows told is one none = inl (one, none)
edit_missing verb.MakeDir rows told is one none = inl (one, none)
edit_missing verb.Remove rows told is one none = inl (one, none)
edit_missing verb.Chmod rows told is one none = inl (and_mode told one, none)
edit_missing _ rows told is one none = absurd is

pub user_missing : (v : Verb) (rows : List Row) → HasUser v → first_of (name_of User) rows ≡ None
    → IsLacking v rows User
user_missing v rows (inl is) none = edit_missing v rows User is (inr (inl refl)) none
user_missing v rows (inr (inl is)) none =
    subst (λ (w : Verb). IsLacking w rows User) (sym is) (inl (inr (inl refl), none))
user_missing v rows (inr (inr is)) none =
    subst (λ (w : Verb). IsLacking w rows User) (sym is) (inl (inr (inr (inl refl)), none))
