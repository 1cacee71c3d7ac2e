use Rattle.std.proofs.Common.{◌≡◌, ◌<◌, ◌≤◌, ◌&&◌, true, true≢false, not}
use Rattle.std.proofs.Common.{ap, ap₂, ◌∙◌, sym, subst, refl, length, slice_index_or, ltb-true}
use Rattle.std.proofs.Common.{ltb-false}
use Rattle.std.specs.Prelude.{All}
use Rattle.std.specs.FinMap.{entries}
use Rattle.std.proofs.lemmas.List.Elements.{All-push}
use Rattle.syn_scan.specs.Found.{is_open, IsShownIn}
use Rattle.syn_scan.proofs.FoundLemmas.{opened, shown_in}
use Rattle.syn_scan.specs.Asked.{Asked, AreAllOut, IsNext, is_next}
use Rattle.syn_scan.specs.inner.Kept.{is_next_entry, NoneNext}
use Rattle.syn_scan.proofs.FirstLemmas.{first_is, all_out, passed_then_out}
use Rattle.syn_scan.proofs.scanner.Scanner.next_request.Goals as goal
use Rattle.syn_scan.proofs.scanner.Scanner.next_request.Goals.{After-first_open-at, In-Some}
use Rattle.syn_scan.proofs.scanner.Scanner.next_request.Goals.{In_ok-path}

-- none before the entry is open and not out
none : (c : After-first_open-at) → NoneNext c.self.inside.scan c.self.inside.out.items
    (entries c.self.inside.scan.marks) c.first_open-at.result
none c =
    let found = c.self.inside.scan in
    subst (λ ps. NoneNext found ps (entries found.marks) c.first_open-at.result)
    c.deref.ensures.value c.first_open-at.ensures.none

pub returns-in_default-clause-none : goal.returns-in_default-clause-none
returns-in_default-clause-none c =
    let n = c.first_open-at.result in
    let all = c.as_slice.ensures.all ∙ ap entries c.tree.ensures.marks in
    subst AreAllOut c.self.view_is
    (all_out c.self.inside.scan c.self.inside.out.items n
    (none (goal.at.returns-in_default-clause-none c).After-first_open-at)
    (subst (λ es. length es ≤ n) all (ltb-false _ _ (sym c.in_default.ensures.lookup.0))))

-- the entry's path is the first that is open and not out
here : (c : In-Some) → IsNext (record {
  found = c.self.inside.scan;
  out = c.self.inside.out.items;
}) c.in-Some.next.now.0
here c =
    let found = c.self.inside.scan in
    let out = c.self.inside.out.items in
    let e = c.in-Some.next.now in
    let n = c.first_open-at.result in
    let all = c.as_slice.ensures.all ∙ ap entries c.tree.ensures.marks in
    let l = subst (λ es. n < length es) all (ltb-true _ _ (sym c.in-Some.ensures.lookup.0)) in
    let is = c.in-Some.ensures.lookup.1 ∙ ap (λ es. slice_index_or es n e) all in
    let is_next_here = subst
    (λ ps. is_next_entry found ps (slice_index_or (entries found.marks) n e) ≡ true)
    c.deref.ensures.value (c.first_open-at.ensures.open e l) in
    first_is found out n e e.0 (none (goal.at.In-Some c).After-first_open-at) l is
    (ap (is_next_entry found out) is ∙ is_next_here) refl

-- and so is its copy
first : (c : In_ok-path) → IsNext (record {
  found = c.self.inside.scan;
  out = c.self.inside.out.items;
}) c.in_ok-path.path
first c =
    subst (IsNext (record { found = c.self.inside.scan; out = c.self.inside.out.items }))
    (sym (c.in_ok-path.ensures ∙ c.path.ensures)) (here (goal.at.In_ok-path c).In-Some)

pub invariant_of-self-2 : goal.invariant_of-self-2
invariant_of-self-2 c =
    let found = c.self.inside.scan in
    let out = c.self.inside.out.items in
    let n = c.first_open-at.result in
    let k = goal.at.invariant_of-self-2 c in
    record {
      out_open = subst (All (λ q. is_open found q ≡ true)) (sym c.in_ok-push.ensures.items)
          (All-push (λ q. is_open found q ≡ true) out c.in_ok-copy.field-0
          c.self.invariant.out_open
          (ap (is_open found) c.in_ok-copy.ensures ∙ (first k.In_ok-path).opened));
      none_next = subst (λ ps. NoneNext found ps (entries found.marks) n)
          (sym c.in_ok-push.ensures.items)
          (passed_then_out found out c.in_ok-copy.field-0 n
          (none k.After-first_open-at));
    }

pub returns-clause-some : goal.returns-clause-some
returns-clause-some c =
    subst (λ a. IsNext a c.in_ok-path.path) c.self.view_is
    (first (goal.at.returns-clause-some c).In_ok-path)

pub returns-clause-shown : goal.returns-clause-shown
returns-clause-shown c =
    let one = first (goal.at.returns-clause-shown c).In_ok-path in
    subst (λ f. IsShownIn f c.in_ok-path.path) (ap (λ (a : Asked). a.found) c.self.view_is)
    (shown_in c.self.inside.scan c.in_ok-path.path c.tree.ensures.found
    (opened c.self.inside.scan c.in_ok-path.path one.opened).directory)

-- where a directory is to be handed out, not each was
not_all : (c : In-Some) → ¬ AreAllOut c.args.self.now
not_all c all_are =
    let at = c.in-Some.next.now.0 in
    let one = here c in
    let both : is_next c.self.inside.scan c.self.inside.out.items at ≡ true =
    ap₂ (λ a b. a && not b) one.opened one.unasked in
    true≢false (sym both ∙ (ap (λ (a : Asked). is_next a.found a.out at) c.self.view_is
    ∙ all_are at))

pub returns-in_err-path-clause-whole : goal.returns-in_err-path-clause-whole
returns-in_err-path-clause-whole c all =
    absurd (not_all (goal.at.returns-in_err-path-clause-whole c).In-Some all)

pub returns-in_err-copy-clause-whole : goal.returns-in_err-copy-clause-whole
returns-in_err-copy-clause-whole c all =
    absurd (not_all (goal.at.returns-in_err-copy-clause-whole c).In-Some all)

pub returns-in_err-push-clause-whole : goal.returns-in_err-push-clause-whole
returns-in_err-push-clause-whole c all =
    absurd (not_all (goal.at.returns-in_err-push-clause-whole c).In-Some all)

pub returns-clause-whole : goal.returns-clause-whole
returns-clause-whole c all = absurd (not_all (goal.at.returns-clause-whole c).In-Some all)
