-- What is made of the pairs below a path.
use Rattle.std.proofs.Common.{◌≡◌, true, false, cond, [], ◌∷◌, filter_map, if◌then◌else◌, refl, sym}
use Rattle.std.proofs.Common.{ap, ◌∙◌, Option, Some, None, is_some, true≢false}
use Rattle.std.specs.List.{cons_option}
use Rattle.std.specs.Prelude.{option_map, option_and_then}
use Rattle.syn_model.specs.Path.{Path, strip_prefix, is_root}
use Rattle.syn_model.specs.Tree.{Pair}
use Rattle.syn_model.specs.Limits.{only_name}
use Rattle.syn_placed.specs.Pairs.{Pairs, is_within, within}
use Rattle.syn_tree.specs.Lists.{child_contents, below_off, stripped}

-- what is made of the pairs below a path is made of the part there
mapped-within : {Y : Type 0} (f : Pair → Option Y) (at : Path) →
    ((e : Pair) → is_within at e ≡ false → f e ≡ None) → (es : Pairs) →
    filter_map f (within at es) ≡ filter_map f es
mapped-within f at h [] = refl
mapped-within f at h (e ∷ es) =
    let rest = mapped-within f at h es in
    elim (is_within at e) as (λ b. is_within at e ≡ b → filter_map f
    (cond b (e ∷ within at es) (within at es)) ≡ cons_option (f e) (filter_map f es)) [
      | true ↦ λ _. ap (cons_option (f e)) rest
      | false ↦ λ out. rest ∙ sym (ap (λ o. cons_option o (filter_map f es)) (h e out))
    ] refl

no_rest : (o : Option Path) → is_some o ≡ false → o ≡ None
no_rest None h = refl
no_rest (Some r) h = absurd (true≢false h)

pub contents-within : (at : Path) (es : Pairs) →
    child_contents at (within at es) ≡ child_contents at es
contents-within at es =
    mapped-within (λ pair. option_map (λ name. (name, pair.1))
    (option_and_then only_name (strip_prefix at pair.0))) at
    (λ e out. ap (λ o. option_map (λ name. (name, e.1)) (option_and_then only_name o))
    (no_rest (strip_prefix at e.0) out)) es

pub stripped-within : (at : Path) (es : Pairs) → stripped at (within at es) ≡ stripped at es
stripped-within at es =
    mapped-within (below_off at) at
    (λ e out. ap (option_and_then (λ rest. if is_root rest then None else Some (rest, e.1)))
    (no_rest (strip_prefix at e.0) out)) es
