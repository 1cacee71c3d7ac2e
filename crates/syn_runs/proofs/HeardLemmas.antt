-- What a session has been answered, and what its plan, its requests and its report are then in the
-- picture.
use Rattle.std.proofs.Common.{◌≡◌, ◌≢◌, ℕ, zero, suc, Bool, true, false, not, ◌&&◌, nat_lt}
use Rattle.std.proofs.Common.{true≢false, if◌then◌else◌, List, ◌∷◌, ◌++◌, map, filter_map, length}
use Rattle.std.proofs.Common.{fold, refl, sym, ap, ◌∙◌, subst, Option, Some, None, is_some}
use Rattle.std.proofs.Common.{append-nil, append_assoc, arith, inl, inr, slice_get, []}
use Rattle.std.specs.Prelude.{Contains, All, Any}
use Rattle.std.specs.List.{cons_option}
use Rattle.std.specs.Option.{option_map_or}
use Rattle.std.specs.Ordering.{eq_by_cmp}
use Rattle.std.proofs.lemmas.Bool.{and_parts, eqb-true, not-true}
use Rattle.std.proofs.lemmas.Bool.Decides.{nat_tests}
use Rattle.std.proofs.lemmas.List.Sums.{fold-append}
use Rattle.std.proofs.lemmas.List.Elements.{All-nil, All-cons, All-head, All-tail}
use Rattle.std.proofs.lemmas.List.Elements.{All-contains_itself, Contains-push}
use Rattle.std.proofs.lemmas.List.Elements.{Contains-append_left, Contains-append_right}
use Rattle.std.proofs.lemmas.List.Elements.{filter_map-append}
use Rattle.std.proofs.lemmas.Option.{none-some, same_Some}
use Rattle.syn_model.specs.Path.{Path, path_cmp}
use Rattle.syn_model.specs.Refusal.{Refusal}
use Rattle.syn_model.specs.Archive.{Archive, Kept}
use Rattle.syn_model.specs.Decision.{Item, ToLeft, ToRight, MarkSame, MarkDir, Conflict, path_of}
use Rattle.syn_machine.specs.Side.{Request, Begin, ListAt, Fetch, Stage, Replace, Reply, Piece}
use Rattle.syn_machine.specs.Network.{Which, other, Message, Asks, Answers, Sent}
use Rattle.syn_machine.specs.Network.{AsksNothingTwice, WasAnswered}
use Rattle.syn_runs.specs.Acknowledged.{Ack, Kept_by, kept_in, kept_in_session, since_start}
use Rattle.syn_machine.specs.Planning.{Planned, SessionPlan, Log, HasBegun, IsPlanOf}
use Rattle.syn_machine.specs.Report.{Report, Complete, Incomplete, is_kept, conflict_at}
use Rattle.syn_machine.specs.Coordinator.{Exchange, Running, Walk, WasTaken, BothBegun, MakesPlan}
use Rattle.syn_machine.specs.Coordinator.{MayAsk, asked_of, numbered, messages_to, plan_of}
use Rattle.syn_machine.specs.Coordinator.{report_of, is_whole, took_not_dir, IsDue}
use Rattle.syn_machine.specs.Coordinator as fine
use Rattle.syn_runs.specs.Picture.{IsSettled, HasPlan, IsOfPlan, IsWanted}
use Rattle.syn_machine.specs.Session.{first_total, is_wanted, piece_total}
use Rattle.syn_runs.specs.Picture as picture
use Rattle.syn_runs.specs.Runs.{session_picture}
use Rattle.syn_model.proofs.PathLemmas.{same_path}
use Rattle.syn_runs.proofs.Walks.{IsItems, of_item, IsSettledBy, as_conflict, as_kept}
use Rattle.syn_runs.proofs.Walks.{as_refused}
use Rattle.syn_machine.proofs.Heard.{TakenWas}
use Rattle.syn_runs.proofs.Remembers.{Remembers}
use Rattle.syn_runs.proofs.InOrder.{ListsInOrder, plan_in_order}
use Rattle.syn_runs.proofs.ReportLemmas.{conflicts_to, filter_map-map}
use Rattle.syn_runs.proofs.WorldLemmas.{kept_kept}

-- What was taken was answered

pub was_answered : (sent : Sent) (session : ℕ) (taken : List Exchange) (side : Which)
    (request : Request) (reply : Reply) → TakenWas sent session taken →
    WasTaken taken side request reply → WasAnswered sent side session request reply
was_answered sent session taken side request reply was w =
    let both = was (record { side = side; number = w.0; request = request; reply = reply }) w.1 in
    record { number = w.0; asked = both.0; answered = both.1 }

begun_of : (sent : Sent) (session : ℕ) (taken : List Exchange) → TakenWas sent session taken →
    BothBegun taken → (side : Which) → HasBegun sent side session
begun_of sent session taken was begun side =
    let b = begun side in
    record { pair = b.0; position = b.1; begun = was_answered sent session taken side _ _ was b.2 }

-- a plan of the transcript is a plan of the messages
plan_of_sent : (sent : Sent) (running : Running) (archive : Archive) (made : SessionPlan) →
    Remembers sent running → ListsInOrder sent running → AsksNothingTwice sent →
    MakesPlan running archive made → IsPlanOf sent made
plan_of_sent sent running archive made m in_order repeats makes =
    let at : TakenWas sent made.session running.taken =
    subst (λ n. TakenWas sent n running.taken) (sym makes.of_session) m.taken in
    record {
      begun = begun_of sent made.session running.taken at makes.begun;
      scanned = λ side. let h = makes.scanned side in record {
        tree = h.tree;
        fits = h.fits;
        listed =
            λ path there stable. was_answered sent made.session running.taken side _ _ at
            (h.listed path there stable);
        not_dir =
            λ path c. let n = h.not_dir path c in
            (n.0, was_answered sent made.session running.taken side _ _ at n.1);
        nothing_below = h.nothing_below;
      };
      ordered = plan_in_order sent running in_order m repeats archive made makes;
      items = makes.items;
      seen = makes.seen;
    }

abbrev pub list_of : Option (List Planned) → List Planned
list_of plan = option_map_or (λ plan. plan) plan []

-- the plan stays or is made, in the picture too
pub has_plan : (sent : Sent) (archive : Archive) (log : Log) (running : Running)
    (plan : Option (List Planned)) (logged : Log) → Remembers sent running →
    ListsInOrder sent running → AsksNothingTwice sent →
    (running.plan ≡ None → All (λ made. made.session ≢ running.session) log) →
    fine.HasPlan archive running plan logged →
    HasPlan sent archive log (Some (session_picture running)) (list_of plan) logged
has_plan sent archive log running _ _ m in_order repeats fresh fine.stays = inl (refl, refl)
has_plan sent archive log running _ _ m in_order repeats fresh (fine.makes made none makes) = inr (
  made,
  record {
    of_session = makes.of_session;
    prefers = makes.prefers;
    once = fresh none;
    archive_is = makes.archive_is;
    is = plan_of_sent sent running archive made m in_order repeats makes;
  },
  refl,
  refl,
)

-- What is asked for

-- the total that a piece gives is that of a piece of the path
pub is_piece : (path : Path) (request : Request) (reply : Reply) (total : ℕ) →
    piece_total path request reply ≡ Some total →
    (since : ℕ) × (offset : ℕ) × (bytes : List ℕ) × (request ≡ Fetch path since offset)
    × (reply ≡ Piece total bytes)
is_piece path (Fetch at since offset) (Piece all bytes) total is =
    elim (eq_by_cmp path_cmp at path) as (λ b. eq_by_cmp path_cmp at path ≡ b →
    (if b then Some all else None) ≡ Some total → (s : ℕ) × (o : ℕ) × (w : List ℕ)
    × (Fetch at since offset ≡ Fetch path s o) × (Piece all bytes ≡ Piece total w)) [
      | true ↦ λ same e. (
        since,
        offset,
        bytes,
        ap (λ p. Fetch p since offset) (same_path at path same),
        ap (λ n. Piece n bytes) (same_Some all total e),
      )
      | false ↦ λ _ e. absurd (none-some total e)
    ] refl is
is_piece path request reply total is = absurd (none-some total is)

-- where a total is known, a piece that was taken gave it
pub first_piece_of : (taken : List Exchange) (path : Path) (total : ℕ) →
    first_total taken path ≡ Some total →
    (exchange : Exchange) × Contains taken exchange
    × (piece_total path exchange.request exchange.reply ≡ Some total)
first_piece_of [] path total is = absurd (none-some total is)
first_piece_of (first ∷ more) path total is =
    let gives = λ (exchange : Exchange). piece_total path exchange.request exchange.reply in
    elim (gives first) as (λ o. gives first ≡ o →
    slice_get (cons_option o (filter_map gives more)) 0 ≡ Some total →
    (exchange : Exchange) × Contains (first ∷ more) exchange × (gives exchange ≡ Some total)) [
      | Some one ↦ λ here e.
          (first, (0, omega arith, refl), here ∙ ap (λ n. Some n) (same_Some one total e))
      | None ↦ λ _ e. let later = first_piece_of more path total e in
          (later.0, Contains-append_right (first ∷ []) more later.0 later.1, later.2)
    ] refl is

-- what a session wants next is from the beginning, or below the total that it knows
is_wanted_so : (sent : Sent) (session : ℕ) (taken : List Exchange) → TakenWas sent session taken →
    (path : Path) (offset : ℕ) → is_wanted offset (first_total taken path) ≡ true →
    IsWanted sent session path offset
is_wanted_so sent session taken was path offset wanted =
    elim (first_total taken path) as (λ o. first_total taken path ≡ o → is_wanted offset o ≡ true →
    IsWanted sent session path offset) [
      | None ↦ λ _ zero. inl (eqb-true offset 0 zero)
      | Some total ↦ λ known below.
          let one = first_piece_of taken path total known in
          let piece = is_piece path one.0.request one.0.reply total one.2 in
          let both = was one.0 one.1 in
          inr (
            one.0.side,
            piece.0,
            piece.1,
            total,
            piece.2,
            grind (arith, nat_tests, below),
            record {
              number = one.0.number;
              asked = subst (λ q. Contains sent (Asks one.0.side session one.0.number q)) piece.3
                  both.0;
              answered = subst (λ r. Contains sent (Answers one.0.side session one.0.number r))
                  piece.4 both.1;
            },
          )
    ] refl wanted

pub request_of_plan : (pair : ℕ) (sent : Sent) (archive : Archive) (running : Running) (to : Which)
    (request : Request) → TakenWas sent running.session running.taken →
    MayAsk archive running to request →
    IsOfPlan pair sent running.session (plan_of running) to request
request_of_plan pair sent archive running to (Begin asked) was may = absurd may
request_of_plan pair sent archive running to (ListAt path) was may =
    begun_of sent running.session running.taken was may.1 to
request_of_plan pair sent archive running to (Fetch path since offset) was may = (
  running.cursor,
  may.0,
  may.1,
  may.2.0,
  may.2.1,
  is_wanted_so sent running.session running.taken was path offset may.2.4,
)
request_of_plan pair sent archive running to (Stage item offset bytes) was may =
    let at = may.1 in (
      at.0,
      subst (λ n. slice_get (plan_of running) n ≡ Some at.0) (sym may.0) at.1,
      (at.2.1, was_answered sent running.session running.taken (other to) _ _ was at.2.2),
    )
request_of_plan pair sent archive running to (Replace item path since size) was may =
    let at = may.1 in (
      at.0,
      subst (λ n. slice_get (plan_of running) n ≡ Some at.0) (sym may.0) at.1,
      at.2.0,
      at.2.1,
      (at.2.2, at.2.3, was_answered sent running.session running.taken (other to) _ _ was at.2.4),
    )

-- What is kept

pub due_of : (running : Running) (plan : List Planned) (from : Which) (number : ℕ)
    (request : Request) (reply : Reply) →
    picture.asked_of (session_picture running) from number ≡ Some request → (what : Kept) →
    IsItems plan (record { side = from; number = number; request = request; reply = reply }) what →
    picture.IsDue (session_picture running) plan from number reply what
due_of running plan from number request reply asked what (of_item item planned at due) = by what due
  where
    by : (what : Kept) → IsDue item planned
        (record { side = from; number = number; request = request; reply = reply }) what →
        picture.IsDue (session_picture running) plan from number reply what
    by _ (fine.done path since size is of w) =
        picture.done item path since size planned is (asked ∙ ap (λ q. Some q) of) at w
    by _ (fine.same path is alike) = picture.same item path planned at is alike
    by _ (fine.directory path is) = picture.directory item path planned at is

-- records of items are the session's
since_more : (plan : List Planned) (taken : Exchange) (had kept : List Kept) →
    All (IsItems plan taken) kept → fold since_start had kept ≡ had ++ kept
since_more plan taken had [] all = sym (append-nil had)
since_more plan taken had (what ∷ kept) all =
    ap (λ x. fold since_start x kept) (one what (All-head (IsItems plan taken) what kept all))
    ∙ (since_more plan taken (had ++ what ∷ []) kept (All-tail (IsItems plan taken) what kept all)
    ∙ append_assoc had (what ∷ []) kept)
  where
    by : (item : ℕ) (planned : Planned) (what : Kept) → IsDue item planned taken what →
        since_start had what ≡ had ++ what ∷ []
    by item planned _ (fine.done path since size is of w) = refl
    by item planned _ (fine.same path is alike) = refl
    by item planned _ (fine.directory path is) = refl

    one : (what : Kept) → IsItems plan taken what → since_start had what ≡ had ++ what ∷ []
    one what (of_item item planned at due) = by item planned what due

pub session_keeps : (acks : List Ack) (had : List Kept) (plan : List Planned) (taken : Exchange)
    (kept : List Kept) → kept_in_session acks ≡ had → All (IsItems plan taken) kept →
    kept_in_session (acks ++ map Kept_by kept) ≡ had ++ kept
session_keeps acks had plan taken kept is due =
    ap (fold since_start []) (filter_map-append kept_in acks (map Kept_by kept)
    ∙ ap (λ ks. filter_map kept_in acks ++ ks) (kept_kept kept))
    ∙ (fold-append since_start [] (filter_map kept_in acks) kept
    ∙ (ap (λ had. fold since_start had kept) is ∙ since_more plan taken had kept due))

-- What is reported

pub whole_parts : (running : Running) (ended : Option Refusal) →
    (report_of running ended).end ≡ Complete → (ended ≡ None) × (running.refused ≡ [])
whole_parts running ended e = by (is_whole running ended) refl e
  where
    none : (o : Option Refusal) → is_some o ≡ false → o ≡ None
    none None e = refl
    none (Some why) e = absurd (true≢false e)

    empty : (refused : List (Refusal × Path)) → nat_lt 0 (length refused) ≡ false → refused ≡ []
    empty [] e = refl
    empty (r ∷ refused) e = absurd (grind (arith, nat_tests))

    by : (b : Bool) → is_whole running ended ≡ b → (if b then Complete else Incomplete) ≡ Complete →
        (ended ≡ None) × (running.refused ≡ [])
    by true e _ =
        let both = and_parts (not (is_some ended) && not (nat_lt 0 (length running.refused)))
        (not (took_not_dir running)) e in
        let two = and_parts (not (is_some ended))
        (not (nat_lt 0 (length running.refused))) both.0 in
        (none ended (not-true _ two.0), empty running.refused (not-true _ two.1))
    by false e c = absurd (let x : Incomplete ≡ Complete = c in cc)

mapped : (plan : List Planned) (planned : Planned) → Contains plan planned →
    Contains (map (λ planned. planned.item) plan) planned.item
mapped [] planned c = absurd (omega (arith, c.1))
mapped (first ∷ plan) planned (zero, h, e) = (0, omega arith, ap (λ p. p.item) e)
mapped (first ∷ plan) planned (suc k, h, e) =
    let rest = mapped plan planned (k, omega (arith, h), e) in
    (suc rest.0, let w = rest.1 in omega (arith, w), rest.2)

-- what was kept or refused is settled, and so is each conflict of the plan
settled_so : (kept : List Kept) (plan : List Planned) (report : Report) (planned : Planned) →
    Contains plan planned →
    report.conflicts ≡ filter_map (λ planned. conflict_at planned.item) plan →
    IsSettledBy kept report.refused planned → IsSettled kept report planned.item
settled_so kept plan report planned c conflicts settled = by planned.item refl
  where
    settled_of : (item : Item) → planned.item ≡ item →
        ((is_kept kept item ≡ true) → IsSettled kept report item) →
        (Any (λ refused. refused.1 ≡ path_of item) report.refused → IsSettled kept report item) →
        ((path : Path) → item ≡ Conflict path → IsSettled kept report item) →
        IsSettled kept report item
    settled_of item is as_one as_other as_third =
        elim settled as (λ _. IsSettled kept report item) [
          | as_conflict path at ↦ as_third path (sym is ∙ at)
          | as_kept at ↦ as_one (ap (is_kept kept) (sym is) ∙ at)
          | as_refused why at ↦ as_other
              (at.0, (why, path_of planned.item), at.1, at.2, ap path_of is)
        ]

    by : (item : Item) → planned.item ≡ item → IsSettled kept report item
    by (ToLeft path) is =
        settled_of (ToLeft path) is (λ e. inl e) (λ any. inr any)
        (λ at e. absurd (let x : ToLeft path ≡ Conflict at = e in cc))
    by (ToRight path) is =
        settled_of (ToRight path) is (λ e. inl e) (λ any. inr any)
        (λ at e. absurd (let x : ToRight path ≡ Conflict at = e in cc))
    by (MarkSame path) is =
        settled_of (MarkSame path) is (λ e. inl e) (λ any. inr any)
        (λ at e. absurd (let x : MarkSame path ≡ Conflict at = e in cc))
    by (MarkDir path) is =
        settled_of (MarkDir path) is (λ e. inl e) (λ any. inr any)
        (λ at e. absurd (let x : MarkDir path ≡ Conflict at = e in cc))
    by (Conflict path) is =
        subst (λ ps. Contains ps path) (sym (conflicts ∙ filter_map-map plan))
        (conflicts_to (map (λ planned. planned.item) plan) path
        (subst (Contains (map (λ planned. planned.item) plan)) is (mapped plan planned c)))

pub all_settled : (kept : List Kept) (plan : List Planned) (report : Report) →
    report.conflicts ≡ filter_map (λ planned. conflict_at planned.item) plan →
    All (IsSettledBy kept report.refused) plan →
    All (λ planned. IsSettled kept report planned.item) plan
all_settled kept plan report conflicts all i d within =
    settled_so kept plan report _ (All-contains_itself plan i d within) conflicts (all i d within)

pub any_left : {X : Type 0} (P : X → Type 0) (xs ys : List X) → Any P xs → Any P (xs ++ ys)
any_left P xs ys any =
    let c = Contains-append_left xs ys any.1 (any.0, any.2, any.3) in
    (c.0, any.1, c.1, c.2, any.4)

pub any_last : {X : Type 0} (P : X → Type 0) (xs : List X) (x : X) → P x → Any P (xs ++ x ∷ [])
any_last P xs x p = let c = Contains-push xs x in (c.0, x, c.1, c.2, p)

-- messages of requests that were numbered
pub all_asked : (P : Message → Type 0) (session : ℕ) (side : Which) (Q : Request → Type 0) →
    ((n : ℕ) (q : Request) → Q q → P (Asks side session n q)) → (from : ℕ)
    (requests : List Request) → All Q requests →
    All P (messages_to session side (numbered from requests))
all_asked P session side Q h from [] all = All-nil P
all_asked P session side Q h from (request ∷ more) all =
    All-cons P (Asks side session from request)
    (messages_to session side (numbered (suc from) more))
    (h from request (All-head Q request more all))
    (all_asked P session side Q h (suc from) more (All-tail Q request more all))

-- without a plan there is nowhere to go
pub nowhere : (pair : ℕ) (taken : Exchange) (walk later : Walk) (kept : List Kept) →
    fine.Advances pair [] taken walk kept later →
    (later.cursor ≡ walk.cursor) × (later.refused ≡ walk.refused) × (kept ≡ [])
nowhere pair taken walk _ _ (fine.stands _) = (refl, refl, refl)
nowhere pair taken walk later kept (fine.conflicts _ _ _ planned path first at is more) =
    absurd (none-some _ at)
nowhere pair taken walk later kept (fine.side_refuses _ _ _ planned why first at is for more) =
    absurd (none-some _ at)
nowhere pair taken walk later kept
    (fine.archive_refuses _ _ _ planned what why first at is may refused more) =
    absurd (none-some _ at)
nowhere pair taken walk later kept (fine.no_checkpoint _ _ _ what first full greatest more) =
    absurd (none-some _ full.to_keep.at)
nowhere pair taken walk later kept
    (fine.checkpoints _ _ _ what journal first full smaller compacts up more) =
    absurd (none-some _ full.to_keep.at)
nowhere pair taken walk _ _
    (fine.checkpoint_breaks _ what journal first full smaller compacts down) =
    absurd (none-some _ full.to_keep.at)
nowhere pair taken walk later _ (fine.keeps _ _ what kept journal to_keep room kept_so up more) =
    absurd (none-some _ to_keep.at)
nowhere pair taken walk _ kept (fine.record_breaks _ what _ journal to_keep room kept_so down) =
    absurd (none-some _ to_keep.at)
