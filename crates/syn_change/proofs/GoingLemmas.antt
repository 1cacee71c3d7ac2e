-- How edits go on, and where one of them is refused.
use Rattle.std.proofs.Common.{◌≡◌, ◌∙◌, false, List, [], ◌∷◌, ◌++◌, map, refl}
use Rattle.std.proofs.Common.{sym, ap, subst, append_assoc, append-nil, ◌≢◌, Result, Ok, Err}
use Rattle.std.proofs.Common.{IfErr, Some}
use Rattle.std.proofs.lemmas.List.{map-append}
use Rattle.std.proofs.lemmas.List.Sums.{fold-append}
use Rattle.std.specs.List.{AllByRecursion, IsDistinct}
use Rattle.syn_model.specs.Event.{Edit, after_edit}
use Rattle.syn_model.specs.Refusal.{Refusal}
use Rattle.syn_model.specs.Standing.{edit_refusal}
use Rattle.syn_model.specs.Tree.{Tree}
use Rattle.syn_tree.specs.Edits.{edit_of}
use Rattle.syn_tree.specs.Refusals.{refusal_of}
use Rattle.syn_tree.specs.declared.edit.Edit.{Edit as Planned}
use Rattle.syn_tree.specs.declared.error.TreeError.{TreeError}
use Rattle.syn_tree.specs.declared.error.TreeError.TheVariants.{Memory}
use Rattle.syn_change.specs.Changes.{GoesOn, IsRefusedAmong, after_edits, are_alike}
use Rattle.syn_model.proofs.BaseLemmas.{each_append, each_with}

-- of two lists none of which is alike with one of the other, no two are alike
distinct-append : (xs ys : List Edit) → IsDistinct are_alike xs → IsDistinct are_alike ys →
    AllByRecursion (λ x. AllByRecursion (λ y. are_alike x y ≡ false) ys) xs →
    IsDistinct are_alike (xs ++ ys)
unfolding IsDistinct
distinct-append [] ys one two apart = two
distinct-append (x ∷ xs) ys one two apart = (
  each_append (λ y. are_alike x y ≡ false) xs ys one.0 apart.0,
  distinct-append xs ys one.1 two apart.1,
)

-- no edit was made
pub goes_nowhere : (P : Edit → Type 0) (t : Tree) (edits : List Planned) → GoesOn P t edits t edits
unfolding IsDistinct
goes_nowhere P t edits = record {
  added = [];
  are = sym (append-nil (map edit_of edits));
  make = refl;
  each = tt;
  once = tt;
}

pub goes_weaker : (P Q : Edit → Type 0) (old new : Tree) (edits more : List Planned) →
    ((e : Edit) → P e → Q e) → GoesOn P old edits new more → GoesOn Q old edits new more
goes_weaker P Q old new edits more f on = record {
  added = on.added;
  are = on.are;
  make = on.make;
  each = each_with P Q f on.added on.each;
  once = on.once;
}

pub refused_weaker : (P Q : Edit → Type 0) (old : Tree) (refusal : Refusal) →
    ((e : Edit) → P e → Q e) → IsRefusedAmong P old refusal → IsRefusedAmong Q old refusal
refused_weaker P Q old refusal f among = record {
  made = among.made;
  next = among.next;
  each = each_with P Q f among.made among.each;
  this = f among.next among.this;
  refused = among.refused;
}

-- edits that go on twice
pub goes_twice : (P Q R : Edit → Type 0) (a b c : Tree) (es fs gs : List Planned) →
    ((e : Edit) → P e → R e) → ((e : Edit) → Q e → R e) →
    ((x y : Edit) → P x → Q y → are_alike x y ≡ false) →
    GoesOn P a es b fs → GoesOn Q b fs c gs → GoesOn R a es c gs
goes_twice P Q R a b c es fs gs f g apart first second = record {
  added = first.added ++ second.added;
  are =
      second.are ∙ (ap (λ xs. xs ++ second.added) first.are
      ∙ append_assoc (map edit_of es) first.added second.added);
  make =
      fold-append after_edit a first.added second.added
      ∙ (ap (λ t. after_edits t second.added) first.make ∙ second.make);
  each =
      each_append R first.added second.added (each_with P R f first.added first.each)
      (each_with Q R g second.added second.each);
  once =
      distinct-append first.added second.added first.once second.once
      (each_with P (λ x. AllByRecursion (λ y. are_alike x y ≡ false) second.added)
      (λ x p. each_with Q (λ y. are_alike x y ≡ false) (λ y q. apart x y p q) second.added
      second.each) first.added first.each);
}

-- edits that go on and are refused then
pub refused_later : (P Q R : Edit → Type 0) (a b : Tree) (es fs : List Planned)
    (refusal : Refusal) → ((e : Edit) → P e → R e) → ((e : Edit) → Q e → R e) →
    GoesOn P a es b fs → IsRefusedAmong Q b refusal → IsRefusedAmong R a refusal
refused_later P Q R a b es fs refusal f g first after = record {
  made = first.added ++ after.made;
  next = after.next;
  each =
      each_append R first.added after.made (each_with P R f first.added first.each)
      (each_with Q R g after.made after.each);
  this = g after.next after.this;
  refused =
      ap (λ t. edit_refusal t after.next) (fold-append after_edit a first.added after.made
      ∙ ap (λ t. after_edits t after.made) first.make) ∙ after.refused;
}

-- one edit was made
pub goes_one : (old : Tree) (edits : List Planned) (new : Tree) (more : List Planned) (edit : Edit)
    (last : Planned) → edit_of last ≡ edit → more ≡ edits ++ last ∷ [] →
    after_edit old edit ≡ new → GoesOn (λ made. made ≡ edit) old edits new more
unfolding IsDistinct
goes_one old edits new more edit last same are make = record {
  added = edit ∷ [];
  are =
      ap (map edit_of) are ∙ (map-append edit_of edits (last ∷ [])
      ∙ ap (λ e. map edit_of edits ++ e ∷ []) same);
  make = make;
  each = (refl, tt);
  once = (tt, tt);
}

-- one edit that has this was made, or refused
pub goes_as : (Q : Edit → Type 0) (old : Tree) (edits : List Planned) (new : Tree)
    (more : List Planned) (edit : Edit) → Q edit →
    GoesOn (λ made. made ≡ edit) old edits new more → GoesOn Q old edits new more
goes_as Q old edits new more edit has on =
    goes_weaker (λ made. made ≡ edit) Q old new edits more (λ e is. subst Q (sym is) has) on

pub refused_as : {X : Type 0} (Q : Edit → Type 0) (old : Tree) (result : Result X TreeError)
    (edit : Edit) → Q edit →
    IfErr result (λ e. e ≢ Memory → edit_refusal old edit ≡ Some (refusal_of e)) →
    IfErr result (λ e. e ≢ Memory → IsRefusedAmong Q old (refusal_of e))
refused_as Q old (Ok x) edit has cause = tt
refused_as Q old (Err e) edit has cause =
    λ other. record { made = []; next = edit; each = tt; this = has; refused = cause other }

-- a result that is refused after edits that go on
pub refused_after : {X : Type 0} (P Q R : Edit → Type 0) (a b : Tree) (es fs : List Planned)
    (result : Result X TreeError) → ((e : Edit) → P e → R e) → ((e : Edit) → Q e → R e) →
    GoesOn P a es b fs →
    IfErr result (λ e. e ≢ Memory → IsRefusedAmong Q b (refusal_of e)) →
    IfErr result (λ e. e ≢ Memory → IsRefusedAmong R a (refusal_of e))
refused_after P Q R a b es fs (Ok x) f g first refused = tt
refused_after P Q R a b es fs (Err e) f g first refused =
    λ other. refused_later P Q R a b es fs (refusal_of e) f g first (refused other)
