-- A scan goes on with what its side answers.
use Rattle.std.proofs.Common.{◌≡◌, ◌⊎◌, ◌+◌, ◌-◌, ℕ, Bool, true, false, cond, not, ◌&&◌, ◌||◌}
use Rattle.std.proofs.Common.{if◌then◌else◌, nat_lt, length, List, [], ◌∷◌, Option, Some}
use Rattle.std.proofs.Common.{None, Ordering, Less, Equal, Greater, refl, sym, ap, ap₂, ◌∙◌}
use Rattle.std.proofs.Common.{subst, inl, inr, arith, slice_index_or, is_some, is_lt}
use Rattle.std.specs.Prelude.{Contains, IfSome}
use Rattle.std.specs.List.{list_any, sum_by}
use Rattle.std.specs.Cmp.{eq_by_cmp_equiv}
use Rattle.std.specs.Ordering.{eq_by_cmp}
use Rattle.std.specs.FinMap.{get, insert, contains_key, empty, get-insert, get-empty, len}
use Rattle.std.specs.FinMap.{contains_key-keys, keys, len-empty, len-insert}
use Rattle.std.proofs.lemmas.Grind.{get_or_tail}
use Rattle.std.specs.FinMap.Entries.{is_sorted, below_all}
use Rattle.std.proofs.lemmas.Bool.{and_parts, false≢true, false_from_ne_true}
use Rattle.std.proofs.Math.Bool.{or-true}
use Rattle.std.proofs.lemmas.List.Elements.{Contains-append_left, Contains-push}
use Rattle.std.proofs.lemmas.List.Elements.{Contains-push_cases}
use Rattle.std.proofs.lemmas.List.Folds.{Any-from_list_any, list_any-append}
use Rattle.std.proofs.lemmas.Map.Views.{list_any-from_Contains}
use Rattle.std.proofs.lemmas.List.Sums.{sum_by-append}
use Rattle.std.proofs.lemmas.Option.{none-some, same_Some}
use Rattle.syn_machine.specs.Network.{Which, Left, Right, is_side}
use Rattle.syn_machine.specs.Session.{Exchange, WasTaken, IsShown, nodes_shown, entries_in}
use Rattle.syn_machine.specs.Session.{fault_of, is_not_dir}
use Rattle.syn_model.specs.Limits.{most_nodes}
use Rattle.syn_machine.specs.Side.{ListAt, Listed, NotDir}
use Rattle.syn_machine.specs.Side as model
use Rattle.syn_message.specs.Listings.{AreRising}
use Rattle.syn_model.specs.Path.{Path, Name, is_prefix, path_cmp, name_cmp, root}
use Rattle.syn_model.proofs.BaseLemmas.{or_false}
use Rattle.syn_model.specs.Refusal.{Memory, TooLarge, BadMessage}
use Rattle.syn_model.specs.Tree.{Content, Directory, empty_directory}
use Rattle.syn_model.proofs.PathLemmas.{path_total, name_total, path_itself, same_path}
use Rattle.syn_scan.specs.Asked.{nothing_found, with_listing, with_no_directory, is_too_large}
use Rattle.syn_scan.specs.Asked.{fit_below, names_rise, ListsOnly}
use Rattle.syn_scan.specs.Found.{Found, Positions, IsShownIn, WasNoDirectoryIn}
use Rattle.syn_scan.specs.Refusals.{refusal_of}
use Rattle.syn_scan.specs.declared.error.ScanError.{ScanError}
use Rattle.syn_scan.specs.declared.error.ScanError.TheVariants as error
use Rattle.syn_session.specs.Scanning.{Exchanges, IsFoundIn, WasAnswered, shows_unstable}
use Rattle.syn_session.specs.Scanning.{told_unstable, with_listing_answered}

-- ---- positions

position_now : (m : Positions) (p q : Path) (k : ℕ) →
    get (insert m p k) q ≡ cond (eq_by_cmp path_cmp q p) (Some k) (get m q)
position_now m p q k = get-insert path_total m p k q

stays_known : (m : Positions) (p q : Path) (k : ℕ) → contains_key m q ≡ true →
    contains_key (insert m p k) q ≡ true
stays_known m p q k h = ap is_some (position_now m p q k) ∙ by (eq_by_cmp path_cmp q p)
  where
    by : (b : Bool) → is_some (cond b (Some k) (get m q)) ≡ true
    by true = refl
    by false = h

now_known : (m : Positions) (p : Path) (k : ℕ) → contains_key (insert m p k) p ≡ true
now_known m p k =
    ap is_some (position_now m p p k)
    ∙ ap (λ b. is_some (cond b (Some k) (get m p))) (path_itself p)

-- ---- the beginning

one_node : len empty_directory ≡ 1
one_node =
    len-insert path_total empty root Directory ∙ (ap (λ o. cond (is_some o)
    (len (empty {X = Content} {R = path_cmp})) (len (empty {X = Content} {R = path_cmp}) + 1))
    (get-empty path_cmp root) ∙ ap (λ n. n + 1) (len-empty path_cmp Content))

none_unstable : (b : Bool) → shows_unstable nothing_found ≡ b → b ≡ false
none_unstable false e = refl
none_unstable true e =
    let at = Any-from_list_any (is_prefix root) (keys nothing_found.not_dirs) e in
    absurd (false≢true (sym (ap is_some (get-empty path_cmp at.1))
    ∙ (contains_key-keys nothing_found.not_dirs at.1
    ∙ list_any-from_Contains (eq_by_cmp_equiv path_total) at.1 (keys nothing_found.not_dirs)
    (at.0, at.2, at.3))))

pub nothing_is_found : (side : Which) → IsFoundIn nothing_found side []
nothing_is_found side = record {
  listed =
      λ path position entries was. absurd
      (none-some _ (sym (get-empty path_cmp path) ∙ was.answered));
  not_dir = λ path position was. absurd (none-some _ (sym (get-empty path_cmp path) ∙ was));
  nodes = sym one_node;
  unstable = sym (none_unstable (shows_unstable nothing_found) refl);
  only = λ exchange path c. absurd (omega (arith, c.1));
}

-- ---- what is asked next

pub shown_to : (found : Found) (side : Which) (taken : Exchanges) (path : Path) →
    IsFoundIn found side taken → IsShownIn found path → IsShown taken side path
shown_to found side taken path f (inl is) = inl is
shown_to found side taken path f (inr (above, name, position, entries, is, was, has)) =
    inr (above, name, position, entries, is, f.listed above position entries was, has)

-- ---- a transcript that grows

own_side : (side : Which) → is_side side side ≡ true
own_side Left = refl
own_side Right = refl

module _ (found : Found) (side : Which) (taken : Exchanges) (f : IsFoundIn found side taken)
    (number : ℕ) (path : Path) where
  taken_then : model.Reply → Exchanges
  taken_then reply = with_listing_answered taken side number path reply

  still_taken : (reply answer : model.Reply) (request : model.Request) →
      WasTaken taken side request answer →
      WasTaken (with_listing_answered taken side number path reply) side request answer
  still_taken reply answer request was = (was.0, Contains-append_left taken _ _ was.1)

  taken_now : (reply : model.Reply) →
      WasTaken (with_listing_answered taken side number path reply) side (ListAt path) reply
  taken_now reply = (number, Contains-push taken _)

  nodes_then : (reply : model.Reply) →
      nodes_shown (with_listing_answered taken side number path reply) side
      ≡ nodes_shown taken side + entries_in reply
  nodes_then reply =
      ap (λ n. 1 + n) (sum_by-append
      (λ exchange. if is_side side exchange.side then entries_in exchange.reply else 0) taken _)
      ∙ (ap (λ b. 1 + (sum_by (λ exchange. if is_side side exchange.side then entries_in
      exchange.reply else 0) taken + (0 + (if b then entries_in reply else 0)))) (own_side side)
      ∙ add (sum_by (λ exchange. if is_side side exchange.side then entries_in exchange.reply
      else 0) taken) (entries_in reply))
    where
      add : (a b : ℕ) → 1 + (a + (0 + b)) ≡ 1 + a + b
      add a b = omega arith

  unstable_then : (reply : model.Reply) →
      told_unstable (with_listing_answered taken side number path reply) side
      ≡ (told_unstable taken side || is_not_dir reply)
  unstable_then reply =
      list_any-append (λ exchange. is_side side exchange.side && is_not_dir exchange.reply) taken _
      ∙ (ap (λ b. told_unstable taken side || ((b && is_not_dir reply) || false)) (own_side side)
      ∙ ap (λ b. told_unstable taken side || b) (or_false (is_not_dir reply)))

  same_listing : (p : Path) → ListAt p ≡ ListAt path → p ≡ path
  same_listing p e = ap path_in e
    where
      path_in : model.Request → Path
      path_in (ListAt q) = q
      path_in _ = p

  -- each listing that was asked for is answered
  only_then : (new : Found) (reply : model.Reply) →
      ((q : Path) → WasAnswered found q → WasAnswered new q) →
      WasAnswered new path → (exchange : Exchange) (q : Path) →
      Contains (with_listing_answered taken side number path reply) exchange →
      exchange.side ≡ side → exchange.request ≡ ListAt q → WasAnswered new q
  only_then new reply keeps now exchange q has of asked =
      elim (Contains-push_cases taken _ exchange has) as (λ _. WasAnswered new q) [
        | inl earlier ↦ keeps q (f.only exchange q earlier of asked)
        | inr is ↦ subst (WasAnswered new)
            (sym (same_listing q (sym asked ∙ ap (λ (x : Exchange). x.request) (sym is)))) now
      ]

  -- with a listing
  module _ (position : ℕ) (entries : List (Name × Content)) where
    keeps_answers : (q : Path) → WasAnswered found q →
        WasAnswered (with_listing found path position entries) q
    keeps_answers q (inl was) = inl (stays_known found.listed path q position was)
    keeps_answers q (inr was) = inr was

    pub found_with_listing :
        ListsOnly found path position entries (with_listing found path position entries) →
        len (with_listing found path position entries).marks ≡ len found.marks + length entries →
        IsFoundIn (with_listing found path position entries) side
        (with_listing_answered taken side number path (Listed position entries))
    found_with_listing lists nodes = record {
      listed =
          λ at since shows was. elim (lists at since shows was)
          as (λ _. WasTaken (with_listing_answered taken side number path
          (Listed position entries)) side (ListAt at) (Listed since shows)) [
            | inl same ↦ subst (λ p. WasTaken (with_listing_answered taken side number path
                (Listed position entries)) side (ListAt p) (Listed since shows)) (sym same.0)
                (subst (λ r. WasTaken (with_listing_answered taken side number path
                (Listed position entries)) side (ListAt path) r) (ap₂ (λ k es. Listed k es)
                (sym same.1) (sym same.2)) (taken_now (Listed position entries)))
            | inr earlier ↦ still_taken (Listed position entries) _ _
                (f.listed at since shows earlier)
          ];
      not_dir = λ at since was. still_taken (Listed position entries) _ _ (f.not_dir at since was);
      nodes =
          nodes_then (Listed position entries) ∙ (ap (λ n. n + length entries) f.nodes ∙ sym nodes);
      unstable =
          unstable_then (Listed position entries) ∙ (or_false (told_unstable taken side)
          ∙ f.unstable);
      only =
          only_then (with_listing found path position entries)
          (Listed position entries) keeps_answers (inl (now_known found.listed path position));
    }

    -- what ends the session is what refuses the listing
    fault_is : (large fits : Bool) → is_too_large found entries ≡ large →
        fit_below path entries ≡ fits → fault_of taken side (ListAt path) (Listed position entries)
        ≡ (if large then Some TooLarge else (if not fits then Some BadMessage else None))
    fault_is large fits l b =
        ap (λ n. if nat_lt most_nodes (n + length entries) then Some TooLarge
        else (if not (fit_below path entries) then Some BadMessage else None)) f.nodes
        ∙ ap₂ (λ x y. if x then Some TooLarge else (if not y then Some BadMessage else None)) l b

    pub no_fault : is_too_large found entries ≡ false → fit_below path entries ≡ true →
        fault_of taken side (ListAt path) (Listed position entries) ≡ None
    no_fault l b = fault_is false true l b

    pub is_large : is_too_large found entries ≡ true →
        fault_of taken side (ListAt path) (Listed position entries) ≡ Some TooLarge
    is_large l = fault_is true (fit_below path entries) l refl

    pub does_not_fit : is_too_large found entries ≡ false → fit_below path entries ≡ false →
        fault_of taken side (ListAt path) (Listed position entries) ≡ Some BadMessage
    does_not_fit l b = fault_is false false l b

  -- with the answer that no directory is there
  module _ (position : ℕ) where
    keeps_known : (q : Path) → WasAnswered found q →
        WasAnswered (with_no_directory found path position) q
    keeps_known q (inl was) = inl was
    keeps_known q (inr was) = inr (stays_known found.not_dirs path q position was)

    pub found_no_directory : IsFoundIn (with_no_directory found path position) side
        (with_listing_answered taken side number path (NotDir position))
    found_no_directory = record {
      listed =
          λ at since shows was. still_taken (NotDir position) _ _
          (f.listed at since shows (record { answered = was.answered; shows = was.shows }));
      not_dir = λ at since was. which at since was (eq_by_cmp path_cmp at path) refl;
      nodes = nodes_then (NotDir position) ∙ (none (nodes_shown taken side) ∙ f.nodes);
      unstable =
          unstable_then (NotDir position) ∙ (or-true (told_unstable taken side)
          ∙ sym (any_below (keys (insert found.not_dirs path position))
          (sym (contains_key-keys (insert found.not_dirs path position) path)
          ∙ now_known found.not_dirs path position)));
      only =
          only_then (with_no_directory found path position) (NotDir position) keeps_known
          (inr (now_known found.not_dirs path position));
    }
      where
        none : (n : ℕ) → n + 0 ≡ n
        none n = omega arith

        any_below : (ps : List Path) → list_any (eq_by_cmp path_cmp path) ps ≡ true →
            list_any (is_prefix root) ps ≡ true
        any_below [] e = e
        any_below (p ∷ ps) e = refl

        which : (at : Path) (since : ℕ) →
            WasNoDirectoryIn (with_no_directory found path position) at since → (b : Bool) →
            eq_by_cmp path_cmp at path ≡ b →
            WasTaken (with_listing_answered taken side number path (NotDir position)) side
            (ListAt at) (NotDir since)
        which at since was true is =
            let now = sym (ap (λ b. cond b (Some position) (get found.not_dirs at)) is)
            ∙ (sym (position_now found.not_dirs path at position) ∙ was) in
            subst (λ p. WasTaken (with_listing_answered taken side number path (NotDir position))
            side (ListAt p) (NotDir since)) (sym (same_path at path is))
            (subst (λ r. WasTaken
            (with_listing_answered taken side number path (NotDir position)) side (ListAt path) r)
            (ap (λ k. NotDir k) (same_Some _ _ now)) (taken_now (NotDir position)))
        which at since was false other =
            let earlier = sym (ap (λ b. cond b (Some position) (get found.not_dirs at)) other)
            ∙ (sym (position_now found.not_dirs path at position) ∙ was) in
            still_taken (NotDir position) _ _ (f.not_dir at since earlier)

-- ---- names that rise

below_more : (x y : Name) (es : List (Name × Content)) → name_cmp x y ≡ Less →
    below_all name_cmp y es ≡ true → below_all name_cmp x es ≡ true
below_more x y [] less h = refl
below_more x y (e ∷ es) less h =
    let both = and_parts (is_lt (name_cmp y e.0)) (below_all name_cmp y es) h in
    ap₂ (λ a b. a && b) (ap is_lt (name_total.trans x y e.0 less (less_of (name_cmp y e.0) both.0)))
    (below_more x y es less both.1)
  where
    less_of : (o : Ordering) → is_lt o ≡ true → o ≡ Less
    less_of Less e = refl
    less_of Equal e = absurd (false≢true e)
    less_of Greater e = absurd (false≢true e)

tail_of : {X : Type 0} (x : X) (xs : List X) (k : ℕ) (d : X) →
    slice_index_or (x ∷ xs) (k + 1) d ≡ slice_index_or xs k d
tail_of x xs k d =
    get_or_tail x xs (k + 1) d (omega arith)
    ∙ ap (λ i. slice_index_or xs i d) (let e : k + 1 - 1 ≡ k = omega arith in e)

pub rise : (es : List (Name × Content)) → AreRising es → names_rise es ≡ true
rise [] h = refl
rise (x ∷ []) h = refl
rise (x ∷ y ∷ es) h =
    let first : name_cmp x.0 y.0 ≡ Less = h 0 x (omega arith) in
    let rest = rise (y ∷ es)
    (λ k d l. ap₂ (λ (a b : Name × Content). name_cmp a.0 b.0) (sym (tail_of x (y ∷ es) k d))
    (sym (tail_of x (y ∷ es) (k + 1) d)) ∙ h (k + 1) d (omega (arith, l))) in
    let both = and_parts (below_all name_cmp y.0 es) (is_sorted name_cmp es) rest in
    ap₂ (λ a b. a && b)
    (ap₂ (λ a b. a && b) (ap is_lt first) (below_more x.0 y.0 es first both.0)) rest

pub each_some : {X : Type 0} (P Q : X → Type 0) → ((x : X) → P x → Q x) → (o : Option X) →
    IfSome o P → IfSome o Q
each_some P Q f None h = tt
each_some P Q f (Some x) h = f x h

-- a listing is refused as it ends the session, or for lack of memory
pub refused_so : (found : Found) (side : Which) (taken : Exchanges) → IsFoundIn found side taken →
    (path : Path) (position : ℕ) (entries : List (Name × Content)) (e : ScanError) →
    (e ≡ error.TooLarge → is_too_large found entries ≡ true) → (e ≡ error.BadMessage →
    (is_too_large found entries ≡ false) × (fit_below path entries ≡ true → ⊥)) →
    (refusal_of e ≡ Memory)
    ⊎ (fault_of taken side (ListAt path) (Listed position entries) ≡ Some (refusal_of e))
refused_so found side taken f path position entries error.Memory large bad = inl refl
refused_so found side taken f path position entries error.TooLarge large bad =
    inr (is_large found side taken f 0 path position entries (large refl))
refused_so found side taken f path position entries error.BadMessage large bad =
    let why = bad refl in
    inr (does_not_fit found side taken f 0 path position entries why.0
    (false_from_ne_true (fit_below path entries) why.1))
