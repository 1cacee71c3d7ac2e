-- The paths at or above a row that differs.
use Rattle.std.proofs.Common.{◌≡◌, Bool, true, false, cond, ◌&&◌, ◌||◌, if◌then◌else◌, [], ◌∷◌}
use Rattle.std.proofs.Common.{refl, sym, ap, ap₂, ◌∙◌, subst, Some, None, is_some, Less, is_eq}
use Rattle.std.proofs.Common.{is_lt, true≢false, append-nil, inl, inr}
use Rattle.std.specs.List.{AllByRecursion, list_any}
use Rattle.std.specs.List.Sorted.{IsStrictlySortedBy}
use Rattle.std.specs.Ordering.{eq_by_cmp, ordering_reverse}
use Rattle.std.specs.FinMap.{find}
use Rattle.std.proofs.lemmas.Bool.{or_cases, and_parts, or_right}
use Rattle.std.proofs.lemmas.Option.{none-some, same_Some}
use Rattle.syn_model.specs.Path.{Path, path_cmp, is_prefix}
use Rattle.syn_model.proofs.PathLemmas.{path_total, same_path, path_itself, prefix-append, not_less}
use Rattle.syn_model.proofs.DirtyLemmas.{prefix_chain}
use Rattle.syn_placed.proofs.OrderLemmas.{between, not_before}
use Rattle.syn_dirty.specs.Paths.{is_among}
use Rattle.syn_dirty.specs.inner.Rows.{Row, Rows, begins_first, changed}
use Rattle.syn_dirty.proofs.RowLemmas.{AfterRow, RisingRows}
use Rattle.syn_model.proofs.BaseLemmas.{and_false, and_true}
use Rattle.syn_model.proofs.PathLemmas.{prefix_itself}

-- a row at or below the path differs
abbrev pub touched : Rows → Path → Bool
touched rows path = list_any (λ row. row.1 && is_prefix path row.0) rows

touched_up : (p q : Path) (rows : Rows) → is_prefix p q ≡ true → touched rows q ≡ true →
    touched rows p ≡ true
touched_up p q [] h e = e
touched_up p q (row ∷ rows) h e =
    let rest = touched_up p q rows h in
    elim (or_cases (row.1 && is_prefix q row.0) (touched rows q) e)
    as (λ _. ((row.1 && is_prefix p row.0) || touched rows p) ≡ true) [
      | inl here ↦
          let both = and_parts row.1 (is_prefix q row.0) here in
          ap₂ (λ a b. (a && b) || touched rows p) both.0 (prefix_chain p q row.0 h both.1)
      | inr there ↦ or_right (row.1 && is_prefix p row.0) (touched rows p) (rest there)
    ]

-- what stands between a path and a row that it begins begins with it too
touched_between : (p m : Path) (rows : Rows) → path_cmp p m ≡ Less → AfterRow m rows →
    touched rows p ≡ true → is_prefix p m ≡ true
touched_between p m [] less a e = absurd (true≢false (sym e))
touched_between p m (row ∷ rows) less a e =
    let rest = touched_between p m rows less a.1 in
    elim (or_cases (row.1 && is_prefix p row.0) (touched rows p) e) as (λ _. is_prefix p m ≡ true) [
      | inl here ↦ between p m row.0 (not_less p m less) a.0
          (and_parts row.1 (is_prefix p row.0) here).1
      | inr there ↦ rest there
    ]

-- the first path that changed tells whether one at or below an earlier path did
pub begins_touched : (p : Path) (rows : Rows) → AfterRow p rows → RisingRows rows →
    begins_first p (changed rows) ≡ touched rows p
begins_touched p [] a up = refl
begins_touched p (row ∷ rows) a up =
    let here = begins_touched p rows a.1 up.1 in
    let there = begins_touched row.0 rows up.0 up.1 in
    elim (row.1 || begins_first row.0 (changed rows))
    as (λ b. (row.1 || begins_first row.0 (changed rows)) ≡ b → begins_first p (if b then row.0
    ∷ changed rows else changed rows) ≡ ((row.1 && is_prefix p row.0) || touched rows p)) [
      | true ↦ λ e. elim (is_prefix p row.0)
          as (λ b. is_prefix p row.0 ≡ b → b ≡ ((row.1 && b) || touched rows p)) [
            | true ↦ λ pre. sym (ap (λ b. b || touched rows p) (and_true row.1)
                ∙ elim (or_cases row.1
                (begins_first row.0 (changed rows)) e) as (λ _. (row.1 || touched rows p) ≡ true) [
                  | inl differs ↦ ap (λ b. b || touched rows p) differs
                  | inr below ↦ or_right row.1 (touched rows p)
                      (touched_up p row.0 rows pre (sym there ∙ below))
                ])
            | false ↦ λ out. sym (ap (λ b. b || touched rows p) (and_false row.1)
                ∙ nothing p row rows a up out (touched rows p) refl)
          ] refl
      | false ↦ λ e. here ∙ sym (ap (λ b. (b && is_prefix p row.0) || touched rows p)
          (off row.1 (begins_first row.0 (changed rows)) e))
    ] refl
  where
    nothing : (p : Path) (row : Row) (rows : Rows) → AfterRow p (row ∷ rows) →
        RisingRows (row ∷ rows) → is_prefix p row.0 ≡ false → (b : Bool) → touched rows p ≡ b →
        b ≡ false
    nothing p row rows a up out true is =
        absurd (true≢false (sym (touched_between p row.0 rows a.0 up.0 is) ∙ out))
    nothing p row rows a up out false is = refl

    off : (a b : Bool) → (a || b) ≡ false → a ≡ false
    off true b h = absurd (true≢false h)
    off false b h = refl

find_after : (p : Path) (rows : Rows) → AfterRow p rows → find path_cmp p rows ≡ None
find_after p [] a = refl
find_after p (row ∷ rows) a =
    ap (λ o. cond (is_eq o) (Some row.1) (find path_cmp p rows)) a.0 ∙ find_after p rows a.1

pub found_later : (p q : Path) (rows : Rows) → AfterRow p rows →
    is_some (find path_cmp q rows) ≡ true → path_cmp p q ≡ Less
found_later p q [] a e = absurd (true≢false (sym e))
found_later p q (row ∷ rows) a e =
    let rest = found_later p q rows a.1 in
    elim (eq_by_cmp path_cmp q row.0) as (λ b. eq_by_cmp path_cmp q row.0 ≡ b →
    is_some (cond b (Some row.1) (find path_cmp q rows)) ≡ true → path_cmp p q ≡ Less) [
      | true ↦ λ same _. ap (path_cmp p) (same_path q row.0 same) ∙ a.0
      | false ↦ λ _ more. rest more
    ] refl e

-- at the first row's own path
itself : (p : Path) (row : Row) (rows : Rows) → eq_by_cmp path_cmp p row.0 ≡ true →
    p ≡ row.0 → RisingRows (row ∷ rows) →
    is_among (changed rows) p ≡ (is_some (find path_cmp p rows) && touched rows p) →
    begins_first row.0 (changed rows) ≡ touched rows row.0 → (b : Bool) →
    (row.1 || begins_first row.0 (changed rows)) ≡ b →
    is_among (if row.1 || begins_first row.0 (changed rows) then row.0 ∷ changed rows
    else changed rows) p ≡ ((row.1 && is_prefix p row.0) || touched rows p)
itself p row rows same at up rest there b e =
    let right : ((row.1 && is_prefix p row.0) || touched rows p) ≡ b =
    ap₂ (λ c d. (row.1 && c) || d) (ap (λ w. is_prefix w row.0) at ∙ prefix_itself row.0)
    (ap (touched rows) at ∙ sym there)
    ∙ (ap (λ c. c || begins_first row.0 (changed rows)) (and_true row.1) ∙ e) in
    ap (λ c. is_among (if c then row.0 ∷ changed rows else changed rows) p) e
    ∙ (elim b as (λ c. is_among (if c then row.0 ∷ changed rows else changed rows) p ≡ c) [
      | true ↦ ap (λ c. c || is_among (changed rows) p) same
      | false ↦ rest ∙ ap (λ o. is_some o && touched rows p)
          (find_after p rows (subst (λ w. AfterRow w rows) (sym at) up.0))
    ] ∙ sym right)

another : (p : Path) (row : Row) (rows : Rows) → eq_by_cmp path_cmp p row.0 ≡ false → (b : Bool) →
    (row.1 || begins_first row.0 (changed rows)) ≡ b → is_among (if row.1 || begins_first row.0
    (changed rows) then row.0 ∷ changed rows else changed rows) p ≡ is_among (changed rows) p
another p row rows other b e =
    ap (λ c. is_among (if c then row.0 ∷ changed rows else changed rows) p) e
    ∙ elim b as (λ c. is_among (if c then row.0 ∷ changed rows else changed rows) p
    ≡ is_among (changed rows) p) [
      | true ↦ ap (λ c. c || is_among (changed rows) p) other
      | false ↦ refl
    ]

outside : (p : Path) (row : Row) → path_cmp row.0 p ≡ Less → (b : Bool) → is_prefix p row.0 ≡ b →
    b ≡ false
outside p row later true is = absurd (true≢false (sym (ap is_lt later) ∙ not_before p row.0 is))
outside p row later false is = refl

beside : (p : Path) (row : Row) (rows : Rows) → RisingRows (row ∷ rows) → (b : Bool) →
    is_some (find path_cmp p rows) ≡ b → (is_some (find path_cmp p rows) && touched rows p)
    ≡ (is_some (find path_cmp p rows) && ((row.1 && is_prefix p row.0) || touched rows p))
beside p row rows up false e =
    ap (λ c. c && touched rows p) e
    ∙ sym (ap (λ c. c && ((row.1 && is_prefix p row.0) || touched rows p)) e)
beside p row rows up true e =
    let later = found_later row.0 p rows up.0 e in
    ap (λ c. is_some (find path_cmp p rows) && (c || touched rows p)) (sym (and_false row.1)
    ∙ ap (λ c. row.1 && c) (sym (outside p row later (is_prefix p row.0) refl)))

-- a path changed where it has a row, and one at or below it differs
pub among_changed : (p : Path) (rows : Rows) → RisingRows rows →
    is_among (changed rows) p ≡ (is_some (find path_cmp p rows) && touched rows p)
among_changed p [] up = refl
among_changed p (row ∷ rows) up =
    let rest = among_changed p rows up.1 in
    let there = begins_touched row.0 rows up.0 up.1 in
    elim (eq_by_cmp path_cmp p row.0) as (λ b. eq_by_cmp path_cmp p row.0 ≡ b →
    is_among (changed (row ∷ rows)) p ≡ (is_some (cond b (Some row.1) (find path_cmp p rows))
    && ((row.1 && is_prefix p row.0) || touched rows p))) [
      | true ↦ λ same. itself p row rows same (same_path p row.0 same) up rest there
          (row.1 || begins_first row.0 (changed rows)) refl
      | false ↦ λ other. another p row rows other (row.1 || begins_first row.0 (changed rows)) refl
          ∙ (rest ∙ beside p row rows up (is_some (find path_cmp p rows)) refl)
    ] refl

-- the paths that changed are in path order
after_changed : (p : Path) (rows : Rows) → AfterRow p rows →
    AllByRecursion (λ q. path_cmp p q ≡ Less) (changed rows)
after_changed p [] a = tt
after_changed p (row ∷ rows) a =
    let rest = after_changed p rows a.1 in
    elim (row.1 || begins_first row.0 (changed rows)) as (λ b. AllByRecursion
    (λ q. path_cmp p q ≡ Less) (if b then row.0 ∷ changed rows else changed rows))
    [ true ↦ (a.0, rest) | false ↦ rest ]

pub rising_changed : (rows : Rows) → RisingRows rows → IsStrictlySortedBy path_cmp (changed rows)
unfolding IsStrictlySortedBy
rising_changed [] up = tt
rising_changed (row ∷ rows) up =
    let rest = rising_changed rows up.1 in
    let after = after_changed row.0 rows up.0 in
    elim (row.1 || begins_first row.0 (changed rows))
    as (λ b. IsStrictlySortedBy path_cmp (if b then row.0 ∷ changed rows else changed rows))
    [ true ↦ (after, rest) | false ↦ rest ]

-- what a row says, and what is touched
pub touched_by : (p q : Path) (rows : Rows) → find path_cmp q rows ≡ Some true →
    is_prefix p q ≡ true → touched rows p ≡ true
touched_by p q [] e h = absurd (none-some _ e)
touched_by p q (row ∷ rows) e h =
    let rest = touched_by p q rows in
    elim (eq_by_cmp path_cmp q row.0)
    as (λ b. eq_by_cmp path_cmp q row.0 ≡ b → cond b (Some row.1) (find path_cmp q rows)
    ≡ Some true → ((row.1 && is_prefix p row.0) || touched rows p) ≡ true) [
      | true ↦ λ same here. ap₂ (λ c d. (c && d) || touched rows p) (same_Some _ _ here)
          (ap (is_prefix p) (sym (same_path q row.0 same)) ∙ h)
      | false ↦ λ _ there. or_right (row.1 && is_prefix p row.0) (touched rows p) (rest there h)
    ] refl e

pub toucher : (p : Path) (rows : Rows) → RisingRows rows →
    touched rows p ≡ true → (q : Path) × (is_prefix p q ≡ true) × (find path_cmp q rows ≡ Some true)
toucher p [] up e = absurd (true≢false (sym e))
toucher p (row ∷ rows) up e =
    let rest = toucher p rows up.1 in
    elim (or_cases (row.1 && is_prefix p row.0) (touched rows p) e)
    as (λ _. (q : Path) × (is_prefix p q ≡ true) × (find path_cmp q (row ∷ rows) ≡ Some true)) [
      | inl here ↦
          let both = and_parts row.1 (is_prefix p row.0) here in (
            row.0,
            both.1,
            ap₂ (λ b c. cond b (Some c) (find path_cmp row.0 rows))
                (path_itself row.0) both.0,
          )
      | inr there ↦
          let r = rest there in
          let later = found_later row.0 r.0 rows up.0 (ap is_some r.2) in (
            r.0,
            r.1,
            ap (λ o. cond (is_eq o) (Some row.1) (find path_cmp r.0 rows))
                (path_total.antisymm r.0 row.0 ∙ ap ordering_reverse later) ∙ r.2,
          )
    ]
