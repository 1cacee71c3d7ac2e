use Rattle.std.proofs.Common.{◌-◌, ◌∙◌, append-nil, drop, length, sym, ap, ap₂, arith}
use Rattle.std.proofs.Common.{Some, length-append}
use Rattle.syn_model.specs.Path.{path_key, parent, strip_prefix}
use Rattle.syn_model.proofs.PathLemmas.{is_prefix-is, strip_prefix-append}
use Rattle.syn_path.proofs.KeyLemmas.{key-append}
use Rattle.syn_path.proofs.DerivedKeyLemmas.{is_spelling, rest_of_prefix}
use Rattle.syn_path.proofs.KeyLemmas.{names_of-key}
use Rattle.syn_path.proofs.key.Key.below.Goals as goal

pub split_at-requires : goal.split_at-requires
split_at-requires c =
    let a = c.args.above.now in
    let rest = is_prefix-is a c.args.self.now (sym c.is_prefix.ensures
    ∙ c.if-not-is_prefix.false) in
    omega (
      arith,
      c.above.invariant.counted,
      ap (λ q. length (path_key q)) c.above.view_is,
      ap length c.spelled.ensures.bytes,
      ap (λ q. length (path_key q)) rest.1,
      ap length (key-append a rest.0),
      length-append (path_key a) (path_key rest.0),
    )

pub of_bytes-requires : goal.of_bytes-requires
of_bytes-requires c =
    let a = c.args.above.now in
    let p = c.args.self.now in
    let rest = is_prefix-is a p (sym c.is_prefix.ensures ∙ c.if-not-is_prefix.false) in
    let parts = rest_of_prefix a p rest.0 rest.1 c.spelled.ensures.lawful in
    let len = c.above.invariant.counted ∙ ap (λ q. length (path_key q)) c.above.view_is in
    let start = c.self.invariant.begun ∙ ap (λ q. length (path_key (parent q))) c.self.view_is in
    is_spelling rest.0 _ _ parts.0
    (append-nil c.split_at.result.1.now ∙ (c.split_at.ensures.back
    ∙ (ap₂ drop len c.spelled.ensures.bytes ∙ parts.1.0)))
    (c.saturating_sub.ensures ∙ (ap₂ (λ m k. m - k) start len ∙ parts.1.1))

pub returns : goal.returns
returns c =
    let a = c.args.above.now in
    let p = c.args.self.now in
    let rest = is_prefix-is a p (sym c.is_prefix.ensures ∙ c.if-not-is_prefix.false) in
    let parts = rest_of_prefix a p rest.0 rest.1 c.spelled.ensures.lawful in
    let len = c.above.invariant.counted ∙ ap (λ q. length (path_key q)) c.above.view_is in
    ap Some (c.of_bytes.ensures ∙ names_of-key rest.0 _ parts.0
    (append-nil c.split_at.result.1.now ∙ (c.split_at.ensures.back
    ∙ (ap₂ drop len c.spelled.ensures.bytes ∙ parts.1.0))))
    ∙ sym (ap (strip_prefix a) rest.1 ∙ strip_prefix-append a rest.0)
