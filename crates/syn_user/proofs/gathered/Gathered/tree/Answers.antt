use Rattle.std.proofs.Common.{◌∙◌, ◌==◌, ℕ, List, [], ap, append-nil, inl, length, refl, sym}
use Rattle.std.proofs.Common.{true≢false}
use Rattle.syn_model.specs.Spelling.{spelling}
use Rattle.syn_model.specs.Version.{current_version}
use Rattle.syn_user.proofs.PieceLemmas.{whole_fits}
use Rattle.syn_user.proofs.gathered.Gathered.tree.Goals as goal

pub returns-in_default-clause-refused : goal.returns-in_default-clause-refused
returns-in_default-clause-refused c = inl (
  refl,
  λ tree whole is.
      let none = rw c.in_default.is at c.in_ok-tree.ensures in
      none tree [] (record {
        lawful = whole;
        spelled = c.deref.ensures.value ∙ (sym is ∙ sym (append-nil (spelling tree)));
      }),
)

-- no spelling begins another
pub returns-then-not-is_empty-clause-refused : goal.returns-then-not-is_empty-clause-refused
returns-then-not-is_empty-clause-refused c = inl (
  refl,
  λ tree whole is.
      let read = rw c.in-Some.is at c.in_ok-tree.ensures in
      let same = c.spelling_laws.ensures.tells current_version _ tree _ [] read.lawful.tree.part
      whole.tree.part (whole_fits _ read.lawful) (whole_fits tree whole) (sym read.spelled
      ∙ (c.deref.ensures.value ∙ (sym is ∙ sym (append-nil (spelling tree))))) in
      true≢false (sym (sym c.if-not-is_empty.true
      ∙ (c.is_empty.ensures ∙ ap (λ (rest : List ℕ). length rest == 0) same.1))),
)
