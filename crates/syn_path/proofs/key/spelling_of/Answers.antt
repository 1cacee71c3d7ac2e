use Rattle.std.proofs.Common.{◌≡◌, ◌≤◌, ◌+◌, ◌-◌, ◌++◌, take, length, replicate, sym, ap, ap₂, ◌∙◌}
use Rattle.std.proofs.Common.{arith}
use Rattle.std.proofs.Math.Seq.{take-length}
use Rattle.syn_model.specs.Path.{path_key, parent}
use Rattle.syn_path.specs.Keys.{filled}
use Rattle.syn_path.proofs.KeyLemmas.{short_key, key_within, key_more, length-key_more, written}
use Rattle.syn_path.proofs.KeyLemmas.{parent_more}
use Rattle.syn_path.proofs.key.spelling_of.Goals as goal

pub overflow_add-end : goal.overflow_add-end
overflow_add-end c =
    let names = c.args.names.now in
    let i = c.loop-name.name-index in
    let name = ap length (c.as_bytes-text.ensures.value ∙ c.as_str.ensures.bytes) in
    omega (
      arith,
      name,
      short_key names c.requires,
      key_within names (i + 1),
      length-key_more names i c.name-item.result c.loop-name-test.true c.name-item.is,
      c.loop-name.invariant.len,
    )

pub slice_bounds-bytes-end : goal.slice_bounds-bytes-end
slice_bounds-bytes-end c =
    let names = c.args.names.now in
    let i = c.loop-name.name-index in
    let name = ap length (c.as_bytes-text.ensures.value ∙ c.as_str.ensures.bytes) in
    omega (
      arith,
      name,
      short_key names c.requires,
      key_within names (i + 1),
      length-key_more names i c.name-item.result c.loop-name-test.true c.name-item.is,
      c.loop-name.invariant.len,
      c.as_bytes-text.array_long,
    )

pub loop-name-preserved : goal.loop-name-preserved
loop-name-preserved c =
    let names = c.args.names.now in
    let i = c.loop-name.name-index in
    let x = c.name-item.result in
    let name = c.as_bytes-text.ensures.value ∙ c.as_str.ensures.bytes in
    let more = length-key_more names i x c.loop-name-test.true c.name-item.is in
    let at = c.loop-name.invariant.len in
    let end = c.loop-name.len + length c.as_bytes-text.result.now in
    let long : end - c.loop-name.len ≡ length c.as_bytes-text.result.now = omega arith in
    let room : c.loop-name.len + (end - c.loop-name.len) + 1 ≤ 255 = omega (
      arith,
      ap length name,
      short_key names c.requires,
      key_within names (i + 1),
      more,
      at,
    ) in
    let same : c.loop-name.len + (end - c.loop-name.len) + 1 ≡ end + 1 = omega arith in
    record {
      bytes =
          written (path_key (take i names)) x c.loop-name.bytes c.copy_from_slice.new.self
          c.loop-name.len (end - c.loop-name.len) c.loop-name.invariant.bytes at
          (c.copy_from_slice.ensures.after ∙ name) (long ∙ ap length name) room
          ∙ ap₂ (λ xs m. xs ++ replicate (255 - m) 0)
          (sym (key_more names i x c.loop-name-test.true c.name-item.is)) same;
      len = omega (arith, ap length name, more, at);
      start =
          at ∙ sym (ap (λ q. length (path_key q))
          (parent_more names i x c.loop-name-test.true c.name-item.is));
    }

pub returns-clause-bytes : goal.returns-clause-bytes
unfolding filled
returns-clause-bytes c =
    let names = c.args.names.now in
    let at : c.loop-name.name-index ≡ length names =
    omega (arith, c.loop-name-test.false, c.loop-name.auto.name-index-end) in
    let whole = ap (λ n. path_key (take n names)) at ∙ ap path_key (take-length names) in
    c.loop-name.invariant.bytes
    ∙ ap₂ (λ xs m. xs ++ replicate (255 - m) 0) whole
    (c.loop-name.invariant.len ∙ ap length whole)

pub returns-clause-start : goal.returns-clause-start
returns-clause-start c =
    let names = c.args.names.now in
    let at : c.loop-name.name-index ≡ length names =
    omega (arith, c.loop-name-test.false, c.loop-name.auto.name-index-end) in
    c.loop-name.invariant.start ∙ ap (λ q. length (path_key (parent q)))
    (ap (λ n. take n names) at ∙ take-length names)
