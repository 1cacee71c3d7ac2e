-- So many values that are spelled one after another tell themselves, and are read one by one.
use Rattle.std.proofs.Common.{◌≡◌, ℕ, zero, suc, ◌+◌, ◌<◌, List, [], ◌∷◌, ◌++◌, length, flat_map}
use Rattle.std.proofs.Common.{refl, sym, ap, ap₂, ◌∙◌, subst, append_assoc, append-nil, arith}
use Rattle.std.specs.Prelude.{All}
use Rattle.std.proofs.lemmas.Grind.{flat_map-append}
use Rattle.std.proofs.lemmas.List.{length-append}
use Rattle.std.proofs.lemmas.List.Elements.{All-append, All-cons, All-head, All-nil, All-tail}
use Rattle.syn_model.specs.Path.{Bytes}
use Rattle.syn_wire.specs.Reads.{AreSoMany, BeginsWith, NoneBeginsAnother}

module _ {V : Type 0} (IsLawful : V → Type 0) (spelling : V → Bytes)
    (tells : NoneBeginsAnother IsLawful spelling) where
  abbrev each_spelling : List V → Bytes
  each_spelling values = flat_map spelling values

  first_of : (value : V) (values : List V) (r : Bytes) →
      each_spelling (value ∷ values) ++ r ≡ spelling value ++ (each_spelling values ++ r)
  first_of value values r = append_assoc (spelling value) (each_spelling values) r

  -- values that go on to one list of bytes begin alike
  pub fronts : (p q more : List V) (r s : Bytes) → All IsLawful p → All IsLawful (q ++ more) →
      length p ≡ length q → each_spelling p ++ r ≡ each_spelling (q ++ more) ++ s →
      (p ≡ q) × (r ≡ each_spelling more ++ s)
  fronts [] [] more r s hp hq l e = (refl, e)
  fronts [] (w ∷ q) more r s hp hq l e = absurd (omega arith)
  fronts (v ∷ p) [] more r s hp hq l e = absurd (omega arith)
  fronts (v ∷ p) (w ∷ q) more r s hp hq l e =
      let both = tells v w (each_spelling p ++ r) (each_spelling (q ++ more) ++ s)
      (All-head IsLawful v p hp) (All-head IsLawful w (q ++ more) hq)
      (sym (first_of v p r) ∙ (e ∙ first_of w (q ++ more) s)) in
      let rest = fronts p q more r s (All-tail IsLawful v p hp)
      (All-tail IsLawful w (q ++ more) hq) (omega arith) both.1 in
      (ap₂ (λ x xs. x ∷ xs) both.0 rest.0, rest.1)

  -- as many values that are spelled alike are the same
  pub same_many : (p q : List V) (r s : Bytes) → All IsLawful p → All IsLawful q →
      length p ≡ length q → each_spelling p ++ r ≡ each_spelling q ++ s → (p ≡ q) × (r ≡ s)
  same_many p q r s hp hq l e =
      fronts p q [] r s hp (subst (All IsLawful) (sym (append-nil q)) hq) l
      (e ∙ ap (λ xs. each_spelling xs ++ s) (sym (append-nil q)))

  -- so many values that begin the bytes go on with one more
  pub next_one : (i count : ℕ) (values : List V) (rest bytes : Bytes) (all : List V) (more : Bytes)
      → AreSoMany IsLawful i values → bytes ≡ each_spelling values ++ rest → i < count →
      BeginsWith (AreSoMany IsLawful count) each_spelling bytes all more →
      (value : V) × (after : Bytes) × BeginsWith IsLawful spelling rest value after
  next_one i count values rest bytes all more h e l begins =
      let long : i < length all = omega (arith, begins.lawful.counted) in
      let parts = part all i long in
      let each = subst (All IsLawful) parts.3 begins.lawful.each in
      let after = fronts values parts.0 (parts.1 ∷ parts.2) rest more h.each each
      (h.counted ∙ sym parts.4)
      (sym e ∙ (begins.spelled ∙ ap (λ p. each_spelling p ++ more) parts.3)) in (
        parts.1,
        each_spelling parts.2 ++ more,
        record {
          lawful =
              All-head IsLawful parts.1 parts.2 (after_front parts.0 (parts.1 ∷ parts.2) each);
          spelled = after.1 ∙ first_of parts.1 parts.2 more;
        },
      )
    where
      part : (p : List V) (i : ℕ) → i < length p →
          (a : List V) × (v : V) × (b : List V) × (p ≡ a ++ v ∷ b) × (length a ≡ i)
      part [] i l = absurd (omega arith)
      part (v ∷ p) zero l = ([], v, p, refl, refl)
      part (v ∷ p) (suc i) l =
          let rest = part p i (omega arith) in
          (v ∷ rest.0, rest.1, rest.2, ap (λ xs. v ∷ xs) rest.3, ap suc rest.4)

      after_front : (a b : List V) → All IsLawful (a ++ b) → All IsLawful b
      after_front [] b h = h
      after_front (v ∷ a) b h = after_front a b (All-tail IsLawful v (a ++ b) h)

  -- one more value was read
  pub one_more : (i : ℕ) (values : List V) (value : V) (bytes rest after : Bytes) →
      AreSoMany IsLawful i values → bytes ≡ each_spelling values ++ rest →
      BeginsWith IsLawful spelling rest value after →
      AreSoMany IsLawful (i + 1) (values ++ value ∷ [])
      × (bytes ≡ each_spelling (values ++ value ∷ []) ++ after)
  one_more i values value bytes rest after h e found = (
    record {
      counted = length-append values (value ∷ []) ∙ ap (λ k. k + 1) h.counted;
      each =
          All-append IsLawful values (value ∷ []) h.each
          (All-cons IsLawful value [] found.lawful (All-nil IsLawful));
    },
    e ∙ (ap (λ xs. each_spelling values ++ xs)
        (found.spelled ∙ ap (λ xs. xs ++ after) (sym (append-nil (spelling value))))
        ∙ (sym (append_assoc (each_spelling values) (each_spelling (value ∷ [])) after)
        ∙ ap (λ xs. xs ++ after) (sym (flat_map-append spelling values (value ∷ []))))),
  )
