use Rattle.std.proofs.Common.{rules, ◌≡◌, ◌∷◌, ◌++◌, List, ℕ, [], length, sym, ap, ◌∙◌, append-nil}
use Rattle.std.proofs.Common.{append_assoc, subst, refl, arith}
use Rattle.std.specs.Prelude.{encode_utf8, encode_utf8_all}
use Rattle.std.specs.Fmt.{HasWritten}
use Rattle.std.specs.List.{flat_map}
use Rattle.std.proofs.lemmas.Grind.{flat_map-append, put_two}
use Rattle.std.proofs.lemmas.Str.{chars_from_encodes, encodes-append}
use Rattle.syn_path.specs.Paths.{printed_char}
use Rattle.syn_path.proofs.printed.NameDisplay.fmt.Goals as goal

nothing : (xs : List ℕ) → length xs ≡ 0 → xs ≡ []
nothing [] e = refl
nothing (x ∷ xs) e = absurd (omega arith)

pub loop-c-preserved : goal.loop-c-preserved
loop-c-preserved g c = record {
  written = λ plain.
      put_two g.W.Write.write_str_gives c.args.f.now c.loop-c.f c.write.new.self
      (flat_map printed_char c.loop-c.yielded) (printed_char c.in-Some.c) _
      (c.loop-c.invariant.written plain) (search rules)
      (ap (λ more. flat_map printed_char c.loop-c.yielded ++ more)
      (sym (append-nil (printed_char c.in-Some.c)))
      ∙ sym (flat_map-append printed_char c.loop-c.yielded (c.in-Some.c ∷ [])));
  left =
      ap (λ bytes. bytes ++ c.next.new.self.rest.now)
      (encodes-append c.loop-c.yielded (c.in-Some.c ∷ []) ∙ ap
      (λ more. encode_utf8_all c.loop-c.yielded ++ more) (append-nil (encode_utf8 c.in-Some.c)))
      ∙ (append_assoc (encode_utf8_all c.loop-c.yielded)
      (encode_utf8 c.in-Some.c) c.next.new.self.rest.now
      ∙ (ap (λ more. encode_utf8_all c.loop-c.yielded ++ more) (sym c.in-Some.ensures.steps.0)
      ∙ c.loop-c.invariant.left));
}

pub returns-clause-writes : goal.returns-clause-writes
returns-clause-writes g c = λ plain done.
    let rest = nothing c.loop-c.c-iterator.rest.now c.in-None.ensures.steps.0.0 in
    let text = ap (λ more. encode_utf8_all c.loop-c.yielded ++ more) rest
    ∙ append-nil (encode_utf8_all c.loop-c.yielded) in
    let all = sym text ∙ (c.loop-c.invariant.left
    ∙ (ap (λ it. it.rest.now) c.into_iter-c-iterator.ensures.into_iter_gives
    ∙ (c.chars-c-items.ensures.rest ∙ c.as_str.ensures.bytes))) in
    subst (λ cs. HasWritten g.W.Write.write_str_gives c.args.f.now
    (flat_map printed_char cs) c.loop-c.f)
    (chars_from_encodes c.loop-c.yielded c.args.self.now c.as_str.ensures.lawful.is_text all)
    (c.loop-c.invariant.written plain)
