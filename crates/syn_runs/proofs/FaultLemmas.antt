-- No answer of a run is one that does not belong to its request.
use Rattle.std.proofs.Common.{◌≡◌, ◌≢◌, ◌+◌, ◌-◌, ◌==◌, ◌&&◌, ℕ, zero, suc, Bool, true, false}
use Rattle.std.proofs.Common.{not, min, nat_lt, nat_le, cond, List, [], ◌∷◌, length}
use Rattle.std.proofs.Common.{drop, refl, sym, ap, ap₂, ◌∙◌, subst, Some, None, IsSome}
use Rattle.std.proofs.Common.{arith, inl, inr, slice_get, true≢false}
use Rattle.std.specs.FinMap.{entries, find, get, get-entries}
use Rattle.std.specs.List.{list_all}
use Rattle.std.specs.Option.{option_map_or}
use Rattle.std.specs.Ordering.{eq_by_cmp}
use Rattle.std.specs.Prelude.{Contains}
use Rattle.std.proofs.lemmas.Bool.{and_parts}
use Rattle.std.proofs.lemmas.Bool.Decides.{nat_tests}
use Rattle.std.proofs.lemmas.List.{length-take, length-drop}
use Rattle.std.proofs.lemmas.Option.{none-some, same_Some}
use Rattle.syn_model.specs.Path.{Bytes, Name, Path, child, name_cmp, parent, path_cmp}
use Rattle.syn_model.specs.Tree.{Content, Pair, Tree}
use Rattle.syn_model.specs.Limits.{children, fits_path, fits_paths, most_nodes}
use Rattle.syn_model.specs.History.{tree_at}
use Rattle.syn_model.specs.Mark.{mark}
use Rattle.syn_model.specs.Spelling.{spelling}
use Rattle.syn_model.specs.Decision.{Decision, Item, MarkDir, MarkSame, Conflict, ToLeft, ToRight}
use Rattle.syn_model.specs.Decision.{decision, path_of}
use Rattle.syn_model.specs.Refusal.{BadMessage, TooLarge, first_cause}
use Rattle.syn_model.specs.Archive.{Archive}
use Rattle.syn_model.proofs.MarkLemmas.{there_of}
use Rattle.syn_model.proofs.PathLemmas.{name_itself, same_path}
use Rattle.syn_model.proofs.QuietLemmas.{get-children}
use Rattle.syn_machine.specs.Side.{Begin, Begun, Done, Fetch}
use Rattle.syn_machine.specs.Side.{ListAt, Listed, NotDir, Piece, Refused}
use Rattle.syn_machine.specs.Side.{Replace, Reply, Request, Stage, Staged}
use Rattle.syn_machine.specs.Network.{Answers, Asks, Left, Right, Sent, WasAnswered, Which, other}
use Rattle.syn_machine.specs.Planning.{Planned, WritesTo, seen_on}
use Rattle.syn_runs.specs.Picture.{IsWanted}
use Rattle.syn_machine.specs.Session.{Exchange, fault_of, first_total, fits_piece, nodes_shown}
use Rattle.syn_runs.proofs.GrownLemmas.{made}
use Rattle.syn_runs.proofs.HarmlessLemmas.{same_item}
use Rattle.syn_machine.proofs.Heard.{TakenWas}
use Rattle.syn_runs.proofs.HeardLemmas.{first_piece_of, is_piece}
use Rattle.syn_runs.proofs.Invariant.{Histories, IsSound, IsTruePiece, Plans, belongs, part_at}
use Rattle.syn_runs.proofs.Invariant.{plan_in}
use Rattle.syn_runs.proofs.PlanLemmas.{IsDecided, planned_is, writes_path}
use Rattle.syn_runs.proofs.StagedLemmas.{tree_at_fits}

-- The names of a listing fit

named_there : (name : Name) (content : Content) (rows : List (Name × Content)) →
    Contains rows (name, content) → IsSome (find name_cmp name rows)
named_there name content [] (i, within, is) = absurd (omega arith)
named_there name content (row ∷ rows) (zero, within, is) =
    subst (λ (r : Name × Content). IsSome (cond (eq_by_cmp name_cmp name r.0) (Some r.1)
    (find name_cmp name rows))) (sym is)
    (subst (λ b. IsSome (cond b (Some content) (find name_cmp name rows)))
    (sym (name_itself name)) refl)
named_there name content (row ∷ rows) (suc i, within, is) =
    elim (eq_by_cmp name_cmp name row.0)
    as (λ b. IsSome (cond b (Some row.1) (find name_cmp name rows))) [
      | true ↦ refl
      | false ↦ named_there name content rows (i, omega arith, is)
    ]

found_fits : (path : Path) (pairs : List Pair) → IsSome (find path_cmp path pairs) →
    list_all (λ pair. fits_path pair.0) pairs ≡ true → fits_path path ≡ true
found_fits path [] found fit = absurd (true≢false (sym found))
found_fits path (pair ∷ pairs) found fit =
    let each = and_parts (fits_path pair.0) (list_all (λ p. fits_path p.0) pairs) fit in
    elim (eq_by_cmp path_cmp path pair.0) as (λ b. eq_by_cmp path_cmp path pair.0 ≡ b →
    IsSome (cond b (Some pair.1) (find path_cmp path pairs)) → fits_path path ≡ true) [
      | true ↦ λ same _. ap fits_path (same_path path pair.0 same) ∙ each.0
      | false ↦ λ _ later. found_fits path pairs later each.1
    ] refl found

children_fit : (tree : Tree) (path : Path) → fits_paths tree ≡ true →
    (rows : List (Name × Content)) →
    ((row : Name × Content) → Contains rows row → Contains (children (mark tree) path) row) →
    list_all (λ row. fits_path (child path row.0)) rows ≡ true
children_fit tree path fit [] within = refl
children_fit tree path fit (row ∷ rows) within =
    let there = named_there row.0 row.1 (children (mark tree) path)
    (within row (0, omega arith, refl)) in
    let marked : IsSome (get (mark tree) (child path row.0)) =
    subst IsSome (sym (get-children (mark tree) path row.0)) there in
    let found = subst IsSome (get-entries tree (child path row.0))
    (there_of tree (child path row.0) marked) in
    ap₂ (λ a b. a && b) (found_fits (child path row.0) (entries tree) found fit)
    (children_fit tree path fit rows
    (λ r c. within r (suc c.0, omega (arith, c.1), c.2)))

-- The pieces of a path are all of one source

writes_once : (item : Item) (a b : Which) (path : Path) → WritesTo item (other a) path →
    WritesTo item (other b) path → a ≡ b
writes_once (ToLeft at) Left b path x y = absurd x
writes_once (ToLeft at) Right Left path x y = absurd y
writes_once (ToLeft at) Right Right path x y = refl
writes_once (ToRight at) Left Left path x y = refl
writes_once (ToRight at) Left Right path x y = absurd y
writes_once (ToRight at) Right b path x y = absurd x
writes_once (MarkSame at) a b path x y = absurd x
writes_once (MarkDir at) a b path x y = absurd x
writes_once (Conflict at) a b path x y = absurd x

not_bad : (many fit : Bool) → fit ≡ true →
    first_cause ((many, TooLarge) ∷ (not fit, BadMessage) ∷ []) ≢ Some BadMessage
not_bad true fit fits is = let x : Some TooLarge ≡ Some BadMessage = is in cc
not_bad false true fits is = none-some _ is
not_bad false false fits is = true≢false (sym fits)

only_bad : (fit : Bool) → fit ≡ true → first_cause ((not fit, BadMessage) ∷ []) ≢ Some BadMessage
only_bad true fits is = none-some _ is
only_bad false fits is = true≢false (sym fits)

module _ (plans : Plans) (histories : Histories) (archive : Archive) (sent : Sent)
    (sound : IsSound plans histories archive sent) (session : ℕ) where
  -- the items of a plan that write a path are one, and were seen from one position
  one_item : (i j : ℕ) (a b : Planned) (x y : Which) (path : Path) →
      slice_get (plan_in plans session) i ≡ Some a → slice_get (plan_in plans session) j ≡ Some b →
      WritesTo a.item x path → WritesTo b.item y path →
      (a.item ≡ b.item) × ((side : Which) → (seen_on a side).since ≡ (seen_on b side).since)
  one_item i j a b x y path at_a at_b to_a to_b =
      let is = made plans histories archive sent sound session i a at_a in
      let plan = plan_in plans session in
      let a_is = planned_is sent session is.0 is.1 plan is.2 i a at_a in
      let b_is = planned_is sent session is.0 is.1 plan is.2 j b at_b in
      let at : Path → Decision =
      decision is.1.preference (is.1.scan Left) (is.1.scan Right) is.0 in
      let same : path_of b.item ≡ path_of a.item =
      writes_path b.item y path to_b ∙ sym (writes_path a.item x path to_a) in
      let item : a.item ≡ b.item = same_item (at (path_of a.item)) a.item b.item a_is.decided
      (subst (λ p. IsDecided (at p) b.item) same b_is.decided) in (
        item,
        λ side. (a_is.seen side).1
            ∙ (ap (λ i. is.1.since side (parent (path_of i))) item ∙ sym (b_is.seen side).1),
      )

  -- so their totals are one
  pieces_alike : (a b : Which) (path : Path) (s t i j n m : ℕ) (x y : Bytes) →
      WasAnswered sent a session (Fetch path s i) (Piece n x) →
      WasAnswered sent b session (Fetch path t j) (Piece m y) → n ≡ m
  pieces_alike a b path s t i j n m x y one two =
      let p = (sound.asked a session one.number (Fetch path s i) one.asked).by_plan in
      let q = (sound.asked b session two.number (Fetch path t j) two.asked).by_plan in
      let item = one_item p.0 q.0 p.1 q.1 (other a) (other b) path p.2 q.2 p.3 q.3 in
      let side : a ≡ b = writes_once p.1.item a b path p.3
      (subst (λ (i : Item). WritesTo i (other b) path) (sym item.0) q.3) in
      let since : s ≡ t = p.4
      ∙ (ap (λ w. (seen_on p.1 w).since) side ∙ (item.1 b ∙ sym q.4)) in
      let first : IsTruePiece (histories a) path s i n x =
      sound.answered a session one.number (Piece n x) (Fetch path s i) one.answered one.asked in
      let second : IsTruePiece (histories b) path t j m y =
      sound.answered b session two.number (Piece m y) (Fetch path t j) two.answered two.asked in
      first.whole
      ∙ (ap₂ (λ w k. length (spelling (part_at (histories w) k path))) side since
      ∙ sym second.whole)

  -- a piece has the total that the first had, and as many bytes as it can
  module _ (taken : List Exchange) (was : TakenWas sent session taken) where
    first_alike : (from : Which) (path : Path) (since offset total : ℕ) (bytes : Bytes) →
        WasAnswered sent from session (Fetch path since offset) (Piece total bytes) →
        option_map_or (λ first. total == first) (first_total taken path) true ≡ true
    first_alike from path since offset total bytes piece =
        elim (first_total taken path) as (λ o. first_total taken path ≡ o →
        option_map_or (λ first. total == first) o true ≡ true) [
          | None ↦ λ _. refl
          | Some first ↦ λ known.
              let one = first_piece_of taken path first known in
              let is = is_piece path one.0.request one.0.reply first one.2 in
              let both = was one.0 one.1 in
              let alike : total ≡ first = pieces_alike from one.0.side path since is.0 offset is.1
              total first bytes is.2 piece (record {
                number = one.0.number;
                asked = subst
                    (λ q. Contains sent (Asks one.0.side session one.0.number q)) is.3 both.0;
                answered = subst
                    (λ r. Contains sent (Answers one.0.side session one.0.number r)) is.4 both.1;
              }) in
              grind (arith, nat_tests, alike)
        ] refl

    piece_fits : (from : Which) (path : Path) (since offset total : ℕ) (bytes : Bytes) →
        WasAnswered sent from session (Fetch path since offset) (Piece total bytes) →
        fits_piece (first_total taken path) offset total (length bytes) ≡ true
    piece_fits from path since offset total bytes piece =
        let asked = sound.asked from session piece.number (Fetch path since offset) piece.asked in
        let true_piece : IsTruePiece (histories from) path since offset total bytes =
        sound.answered from session piece.number (Piece total bytes) (Fetch path since offset)
        piece.answered piece.asked in
        let whole = spelling (part_at (histories from) since path) in
        let count : length bytes ≡ min 32768 (total - offset) = ap length true_piece.bytes_there
        ∙ (length-take 32768 (drop offset whole)
        ∙ ap (min 32768) (length-drop offset whole ∙ ap (λ n. n - offset) (sym true_piece.whole)))
        in
        let within : IsWanted sent session path offset → nat_le offset total ≡ true = λ wanted.
        elim wanted as (λ _. nat_le offset total ≡ true) [
          | inl start ↦ grind (arith, nat_tests, start)
          | inr more ↦
              let alike : total ≡ more.3 = pieces_alike from more.0 path since more.1 offset more.2
              total more.3 bytes more.4 piece more.6 in
              let below = more.5 in
              grind (arith, nat_tests, alike, below)
        ] in
        ap₂ (λ a b. a && b)
        (ap₂ (λ a b. a && b) (first_alike from path since offset total bytes piece)
        (within asked.by_plan.5))
        (grind (arith, nat_tests, count))

    -- so no answer is refused as none that belongs
    pub all_belong : (from : Which) (number : ℕ) (request : Request) (reply : Reply) →
        Contains sent (Asks from session number request) →
        Contains sent (Answers from session number reply) →
        fault_of taken from request reply ≢ Some BadMessage
    all_belong from number (Begin pair) (Refused why) asked answered is =
        let known = sound.answered from session number (Refused why) (Begin pair) answered asked in
        true≢false (sym known ∙ ap belongs (same_Some _ _ is))
    all_belong from number (Begin pair) (Begun position) asked answered is = none-some _ is
    all_belong from number (ListAt path) (Refused why) asked answered is =
        let known = sound.answered from session number (Refused why) (ListAt path) answered asked in
        true≢false (sym known ∙ ap belongs (same_Some _ _ is))
    all_belong from number (ListAt path) (NotDir position) asked answered is = none-some _ is
    all_belong from number (ListAt path) (Listed position rows) asked answered is =
        let listed = sound.answered from session number (Listed position rows) (ListAt path)
        answered asked in
        let tree = tree_at (histories from) position in
        let fit = and_parts _ (fits_paths tree)
        (tree_at_fits (histories from) position (sound.lawful from)) in
        let fits : list_all (λ row. fits_path (child path row.0)) rows ≡ true =
        children_fit tree path fit.1 rows
        (λ row c. subst (λ r. Contains r row) listed.entries_there c) in
        not_bad (nat_lt most_nodes (nodes_shown taken from + length rows))
        (list_all (λ row. fits_path (child path row.0)) rows) fits is
    all_belong from number (Fetch path since offset) (Refused why) asked answered is =
        none-some _ is
    all_belong from number (Fetch path since offset) (Piece total bytes) asked answered is =
        only_bad (fits_piece (first_total taken path) offset total (length bytes))
        (piece_fits from path since offset total bytes
        (record { number = number; asked = asked; answered = answered })) is
    all_belong from number (Stage item offset bytes) (Refused why) asked answered is =
        none-some _ is
    all_belong from number (Stage item offset bytes) Staged asked answered is = none-some _ is
    all_belong from number (Replace item path since size) (Refused why) asked answered is =
        none-some _ is
    all_belong from number (Replace item path since size) Done asked answered is = none-some _ is
    all_belong from number request reply asked answered is =
        absurd (sound.answered from session number reply request answered asked)
