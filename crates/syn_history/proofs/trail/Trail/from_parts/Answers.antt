use Rattle.std.proofs.Common.{◌≡◌, ◌≤◌, ◌<◌, ◌++◌, ◌∷◌, [], true, true≢false, length, All, sym, ap}
use Rattle.std.proofs.Common.{◌∙◌, subst, append_assoc, append-nil, arith}
use Rattle.std.specs.Option.{option_map}
use Rattle.circular_buffer.specs.Buffer.{keep_last}
use Rattle.std.proofs.lemmas.List.{nil_from_length}
use Rattle.syn_model.specs.Standing.{most_touches}
use Rattle.syn_history.specs.Events.{token_of}
use Rattle.syn_history.specs.Trails.{past_from}
use Rattle.syn_history.specs.Past.{IsLawful, past_with, is_lawful}
use Rattle.syn_history.proofs.TouchLemmas.{has_room, standing_past, lawful_count, lawful_before}
use Rattle.syn_history.proofs.TouchLemmas.{lawful_rising}
use Rattle.std.specs.List.{AllPairs}
use Rattle.syn_history.specs.Index.{IsEarlier}
use Rattle.syn_history.proofs.trail.Trail.from_parts.Goals as goal

pub returns-then-not-are_lawful-clause-none : goal.returns-then-not-are_lawful-clause-none
returns-then-not-are_lawful-clause-none c tree h =
    let parts = c.args.parts in
    let tested = c.are_lawful.ensures.value ∙ ap (λ touches. is_lawful (past_with parts.position
    parts.floor touches parts.session (option_map token_of parts.token))) c.deref.ensures.value in
    true≢false (sym (standing_past tree (past_from parts) h)
    ∙ (sym tested ∙ c.if-not-are_lawful.true))

pub invariant_of-result : goal.invariant_of-result
invariant_of-result c =
    let parts = c.args.parts in
    let tested = c.are_lawful.ensures.value ∙ ap (λ touches. is_lawful (past_with parts.position
    parts.floor touches parts.session (option_map token_of parts.token))) c.deref.ensures.value in
    let lawful : is_lawful (past_from parts) ≡ true = sym tested ∙ c.if-not-are_lawful.false in
    let rest = c.loop-touch.touch-iterator.rest in
    let none : rest.items ≡ [] =
    nil_from_length rest.items (omega (arith, c.in-None.ensures.steps.0, rest.ok)) in
    let all : parts.touches.items ≡ c.loop-touch.touches.items =
    c.loop-touch.invariant.whole ∙ (ap (λ xs. c.loop-touch.yielded ++ xs) none
    ∙ (append-nil c.loop-touch.yielded ∙ sym c.loop-touch.invariant.pushed)) in (
      record {
        room = c.loop-touch.invariant.room;
        count = subst (λ xs. length xs ≤ most_touches) all (lawful_count (past_from parts) lawful);
        before =
            subst (All (λ touch. touch.position < parts.position)) all
            (lawful_before (past_from parts) lawful);
      },
      record {
        rising = subst (AllPairs IsEarlier) all (lawful_rising (past_from parts) lawful);
        last = λ positions e. cc;
      },
    )

pub loop-touch-preserved : goal.loop-touch-preserved
loop-touch-preserved c =
    let parts = c.args.parts in
    let tested = c.are_lawful.ensures.value ∙ ap (λ touches. is_lawful (past_with parts.position
    parts.floor touches parts.session (option_map token_of parts.token))) c.deref.ensures.value in
    let lawful : is_lawful (past_from parts) ≡ true = sym tested ∙ c.if-not-are_lawful.false in
    let read = c.loop-touch.yielded in
    let touch = c.in-Some.touch in
    let rest = c.next.new.self.rest.items in
    let whole = c.loop-touch.invariant.whole ∙ ap (λ xs. read ++ xs) c.in-Some.ensures.steps.0 in
    let room = has_room c.loop-touch.touches.capacity read rest parts.touches.items touch whole
    (omega (arith, lawful_count (past_from parts) lawful, c.loop-touch.invariant.room)) in
    record {
      whole = whole ∙ sym (append_assoc read (touch ∷ []) rest);
      pushed =
          ap (λ b. b.items) c.push_back.ensures.items
          ∙ (ap (λ xs. keep_last c.loop-touch.touches.capacity (xs ++ touch ∷ []))
          c.loop-touch.invariant.pushed ∙ room);
      room = ap (λ b. b.capacity) c.push_back.ensures.items ∙ c.loop-touch.invariant.room;
    }

pub returns-clause-parts : goal.returns-clause-parts
returns-clause-parts c =
    let parts = c.args.parts in
    let rest = c.loop-touch.touch-iterator.rest in
    let none : rest.items ≡ [] =
    nil_from_length rest.items (omega (arith, c.in-None.ensures.steps.0, rest.ok)) in
    let all : parts.touches.items ≡ c.loop-touch.touches.items =
    c.loop-touch.invariant.whole ∙ (ap (λ xs. c.loop-touch.yielded ++ xs) none
    ∙ (append-nil c.loop-touch.yielded ∙ sym c.loop-touch.invariant.pushed)) in
    ap (λ touches. past_with parts.position parts.floor touches parts.session
    (option_map token_of parts.token)) (sym all)

pub returns-clause-lawful : goal.returns-clause-lawful
returns-clause-lawful c =
    let parts = c.args.parts in
    let rest = c.loop-touch.touch-iterator.rest in
    let none : rest.items ≡ [] =
    nil_from_length rest.items (omega (arith, c.in-None.ensures.steps.0, rest.ok)) in
    let all : parts.touches.items ≡ c.loop-touch.touches.items =
    c.loop-touch.invariant.whole ∙ (ap (λ xs. c.loop-touch.yielded ++ xs) none
    ∙ (append-nil c.loop-touch.yielded ∙ sym c.loop-touch.invariant.pushed)) in
    subst (λ touches. IsLawful (past_with parts.position parts.floor touches parts.session
    (option_map token_of parts.token))) (c.deref.ensures.value ∙ all)
    (c.are_lawful.ensures.lawful c.if-not-are_lawful.false)
