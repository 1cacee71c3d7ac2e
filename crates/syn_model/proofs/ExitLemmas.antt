-- What holds of a refusal holds of the exit that answers it.
use Rattle.std.proofs.Common.{◌≡◌, Result, Ok, Err, sym, ap, subst}
use Rattle.std.specs.Prelude.{IsErrAnd, IfOk, IfErr, OnOk, MatchResult}

-- the exit of a `?` is its refusal
pub exit_is : {T E : Type 0} (result : Result T E) (refusal : E) →
    IsErrAnd result (λ e. e ≡ refusal) → result ≡ Err refusal
exit_is (Ok value) refusal is = absurd is
exit_is (Err error) refusal is = ap (λ e. Err e) is

-- and so is what holds of it
pub match_of_exit : {T E : Type 0} (result : Result T E) (refusal : E) (P : T → Type 0)
    (Q : E → Type 0) → IsErrAnd result (λ e. e ≡ refusal) → Q refusal → MatchResult result P Q
match_of_exit (Ok value) refusal P Q is holds = absurd is
match_of_exit (Err error) refusal P Q is holds = subst Q (sym is) holds

pub if_err_of_exit : {T E : Type 0} (result : Result T E) (refusal : E) (Q : E → Type 0) →
    IsErrAnd result (λ e. e ≡ refusal) → Q refusal → IfErr result Q
if_err_of_exit (Ok value) refusal Q is holds = absurd is
if_err_of_exit (Err error) refusal Q is holds = subst Q (sym is) holds

pub is_err_of_exit : {T E : Type 0} (result : Result T E) (refusal : E) (Q : E → Type 0) →
    IsErrAnd result (λ e. e ≡ refusal) → Q refusal → IsErrAnd result Q
is_err_of_exit (Ok value) refusal Q is holds = absurd is
is_err_of_exit (Err error) refusal Q is holds = subst Q (sym is) holds

-- nothing is said there of a call that succeeds
pub on_ok_of_exit : {T E : Type 0} (result : Result T E) (Q : E → Type 0) (P : Type 0) →
    IsErrAnd result Q → OnOk result P
on_ok_of_exit (Ok value) Q P is = absurd is
on_ok_of_exit (Err error) Q P is = tt

-- nor of what it gives
pub if_ok_of_exit : {T E : Type 0} (result : Result T E) (Q : E → Type 0) (P : T → Type 0) →
    IsErrAnd result Q → IfOk result P
if_ok_of_exit (Ok value) Q P is = absurd is
if_ok_of_exit (Err error) Q P is = tt
