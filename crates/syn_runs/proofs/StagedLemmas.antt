-- A side's history goes on by what a plan asks for, and what is staged stays sound as it does.
use Rattle.std.proofs.Common.{◌≡◌, ◌≤◌, ◌+◌, ℕ, true, false, not, ◌==◌, ◌∷◌, ◌++◌, length}
use Rattle.std.proofs.Common.{take, drop, refl, sym, ap, ap₂, ◌∙◌, subst, Option, Some, None}
use Rattle.std.proofs.Common.{true≢false, append_assoc, arith, inl, inr, ◌⊎◌}
use Rattle.std.proofs.Common.{slice_get, fold, []}
use Rattle.std.proofs.lemmas.List.{length-append, take-append-drop}
use Rattle.std.proofs.Math.Seq.{take-append_seam, take-length}
use Rattle.std.proofs.lemmas.Option.{same_Some}
use Rattle.std.proofs.lemmas.Bool.{and_parts, eqb-true}
use Rattle.syn_model.specs.Path.{Bytes, Path, comparable}
use Rattle.syn_model.specs.Tree.{Tree, IsTree, subtree}
use Rattle.syn_model.specs.Limits.{fits_replica}
use Rattle.syn_model.specs.Mark.{mark}
use Rattle.syn_model.specs.Spelling.{spelling}
use Rattle.syn_model.specs.Event.{Token, is_same_token, Event, Edited, Began, Replaced, touches}
use Rattle.syn_model.specs.History.{History, IsHistory, AllAllowed, IsAllowed, tree_of, tree_at}
use Rattle.syn_model.specs.History.{is_quiet, last_session, last_token}
use Rattle.syn_model.specs.Standing.{token_after}
use Rattle.syn_model.specs.Archive.{Archive}
use Rattle.syn_runs.specs.Laws.{AddsAllowed}
use Rattle.syn_machine.specs.Side.{Staging, token_of}
use Rattle.syn_machine.specs.Network.{Which, other, Sent}
use Rattle.syn_machine.proofs.NetworkLemmas.{on_both}
use Rattle.syn_model.specs.Decision.{path_of}
use Rattle.syn_machine.specs.Planning.{Planned, seen_on, WritesTo}
use Rattle.syn_runs.proofs.Invariant.{Plans, plan_in, Histories, IsSound, IsSpent}
use Rattle.syn_runs.proofs.Invariant.{IsSoundStaging, IsSoundReplacement, IsSoundEvent}
use Rattle.syn_model.proofs.PathLemmas.{comparable_itself}
use Rattle.syn_model.proofs.FitsLemmas.{history_fits}
use Rattle.syn_model.proofs.HistoryLemmas.{history-is_tree, tree_of-append}
use Rattle.syn_model.proofs.QuietLemmas.{quiet_before}
use Rattle.syn_runs.proofs.PlanLemmas.{writes_path, since_reached}
use Rattle.syn_model.proofs.MarkLemmas.{mark-subtree}
use Rattle.syn_model.proofs.TreeLemmas.{subtree-replace}
use Rattle.syn_runs.proofs.GrownLemmas.{fold_one, had-grow, made, extends, length_grows}
use Rattle.syn_runs.proofs.GrownLemmas.{part_at_stays, still_touched, sound-grow}

pub same_token : (a b : Token) → is_same_token a b ≡ true → a ≡ b
same_token a b e =
    let both = and_parts (a.session == b.session) (a.item == b.item) e in
    let s : (a.session == b.session) ≡ true = both.0 in
    let i : (a.item == b.item) ≡ true = both.1 in
    let same_session : a.session ≡ b.session = eqb-true a.session b.session s in
    let same_item : a.item ≡ b.item = eqb-true a.item b.item i in
    ap₂ (λ s i. token_of s i) same_session same_item

pub token_one : (last : Option Token) (history : History) (event : Event) → fold token_after last
    (history ++ event ∷ []) ≡ token_after (fold token_after last history) event
token_one last [] event = refl
token_one last (e ∷ history) event = token_one (token_after last e) history event

-- a path that is touched now is not quiet
pub touched_now : (history : History) (event : Event) (since : ℕ) (p : Path) →
    since ≤ length history → touches event p ≡ true →
    is_quiet (history ++ event ∷ []) since (length (history ++ event ∷ [])) p ≡ false
touched_now history event since p h t =
    elim (is_quiet (history ++ event ∷ []) since (length (history ++ event ∷ [])) p) as (λ b.
    is_quiet (history ++ event ∷ []) since (length (history ++ event ∷ [])) p ≡ b → b ≡ false) [
      | false ↦ λ _. refl
      | true ↦ λ q. absurd (true≢false (sym (and_parts (not (touches event p)) true
          (quiet_before history (event ∷ []) since p h q).1).0 ∙ ap not t))
    ] refl

-- what is put at a path is there then
pub put_there : (history : History) (token : Token) (path : Path) (since : ℕ)
    (u : Tree) → mark u ≡ subtree
    (mark (tree_at (history ++ Replaced token path since u ∷ []) (length history + 1))) path
put_there history token path since u =
    let event = Replaced token path since u in
    let whole : take (length history + 1) (history ++ event ∷ []) ≡ history ++ event ∷ [] =
    ap (λ n. take n (history ++ event ∷ [])) (sym (length-append history (event ∷ [])))
    ∙ take-length (history ++ event ∷ []) in
    ap mark (sym (subtree-replace (tree_of history) path u) ∙ ap (λ t. subtree t path)
    (sym (tree_of-append history (event ∷ [])) ∙ ap tree_of (sym whole)))
    ∙ mark-subtree (tree_at (history ++ event ∷ []) (length history + 1)) path

-- a side's history stays, or has one more event that its session's plan asks for; the other's stays
pub record Moves (plans : Plans) (archive : Archive) (old new : Histories) (side : Which) :
    Type 0 where
  pub here : (new side ≡ old side) ⊎ ((event : Event) × IsAllowed (old side) event
      × IsSoundEvent plans old archive side event × (new side ≡ old side ++ event ∷ []))
  pub there : new (other side) ≡ old (other side)

pub adds : (plans : Plans) (archive : Archive) (old new : Histories) (side : Which) →
    Moves plans archive old new side → AddsAllowed (old side) (new side)
adds plans archive old new side m =
    elim m.here as (λ _. AddsAllowed (old side) (new side))
    [ inl e ↦ inl e | inr a ↦ inr (a.0, a.1, a.3) ]

pub moves_grow : (plans : Plans) (archive : Archive) (old new : Histories) (side : Which) →
    Moves plans archive old new side → (s : Which) → AddsAllowed (old s) (new s)
moves_grow plans archive old new side m =
    on_both (λ s. AddsAllowed (old s) (new s)) side (adds plans archive old new side m)
    (inl m.there)

module _ (plans : Plans) (archive : Archive) (sent : Sent) (old new : Histories)
    (sound : IsSound plans old archive sent) (side : Which)
    (m : Moves plans archive old new side) where
  event_below : (event : Event) → IsSoundEvent plans old archive side event →
      last_session (old side ++ event ∷ []) ≤ archive.last_session
  event_below (Edited user edit) e =
      subst (λ n. n ≤ archive.last_session) (sym (fold_one 0 (old side) (Edited user edit)))
      (sound.begun side)
  event_below (Began session) e =
      subst (λ n. n ≤ archive.last_session) (sym (fold_one 0 (old side) (Began session))) e
  event_below (Replaced token path since u) e =
      subst (λ n. n ≤ archive.last_session)
      (sym (fold_one 0 (old side) (Replaced token path since u))) (sound.begun side)

  -- where the last token is that of an event before, its path is still touched
  used_before : (event : Event) → IsAllowed (old side) event → (token : Token) (planned : Planned)
      (path : Path) → last_token (old side) ≡ Some token →
      slice_get (plan_in plans token.session) token.item ≡ Some planned →
      WritesTo planned.item side path → IsSpent (old side ++ event ∷ []) path
      (seen_on planned side).since (seen_on planned (other side)).marks
  used_before event a token planned path last e w =
      let is = made plans old archive sent sound token.session token.item planned e in
      let was = sound.used side token planned path last e w in
      record {
        touched =
            still_touched (old side) (old side ++ event ∷ []) (event ∷ [], refl)
            (seen_on planned side).since path
            (since_reached plans old archive sent sound token.session is.0 is.1
            (plan_in plans token.session) is.2 token.item planned side path e w side) was.touched;
        put =
            had-grow (old side) (old side ++ event ∷ []) (event ∷ [], refl) path
            (seen_on planned (other side)).marks was.put;
      }

  used_after : (event : Event) → IsAllowed (old side) event →
      IsSoundEvent plans old archive side event → (token : Token) (planned : Planned)
      (path : Path) → token_after (last_token (old side)) event ≡ Some token →
      slice_get (plan_in plans token.session) token.item ≡ Some planned →
      WritesTo planned.item side path → IsSpent (old side ++ event ∷ []) path
      (seen_on planned side).since (seen_on planned (other side)).marks
  used_after (Edited user edit) a s token planned path last e w =
      used_before (Edited user edit) a token planned path last e w
  used_after (Began session) a s token planned path last e w =
      used_before (Began session) a token planned path last e w
  used_after (Replaced token' path' since u) a s token planned path last e w =
      let token_is : token' ≡ token = same_Some _ _ last in
      let planned_is : s.planned ≡ planned = same_Some _ _
      (sym s.item ∙ (ap (λ t. slice_get (plan_in plans t.session) t.item) token_is ∙ e)) in
      let path_is : path' ≡ path = sym (writes_path s.planned.item side path' s.writes)
      ∙ (ap (λ d. path_of d.item) planned_is ∙ writes_path planned.item side path w) in
      let since_is : since ≡ (seen_on planned side).since = s.listed
      ∙ ap (λ d. (seen_on d side).since) planned_is in
      record {
        touched =
            touched_now (old side) (Replaced token' path' since u) (seen_on planned side).since path
            (subst (λ k. k ≤ length (old side)) since_is s.within)
            (ap (λ q. comparable q path) path_is ∙ comparable_itself path);
        put = record {
          position = length (old side) + 1;
          reached = omega (arith, length-append (old side) (Replaced token' path' since u ∷ []));
          had =
              ap (λ d. (seen_on d (other side)).marks) (sym planned_is)
              ∙ (s.carries ∙ (put_there (old side) token' path' since u
              ∙ ap (λ q. subtree (mark (tree_at (old side ++ Replaced token' path' since u ∷ [])
              (length (old side) + 1))) q) path_is));
        };
      }

  begun_below : last_session (new side) ≤ archive.last_session
  begun_below = elim m.here as (λ _. last_session (new side) ≤ archive.last_session) [
    | inl e ↦ subst (λ h. last_session h ≤ archive.last_session) (sym e) (sound.begun side)
    | inr a ↦ subst (λ h. last_session h ≤ archive.last_session) (sym a.3) (event_below a.0 a.2)
  ]

  used_here : (token : Token) (planned : Planned) (path : Path) →
      last_token (new side) ≡ Some token →
      slice_get (plan_in plans token.session) token.item ≡ Some planned →
      WritesTo planned.item side path →
      IsSpent (new side) path (seen_on planned side).since (seen_on planned (other side)).marks
  used_here token planned path last e w =
      elim m.here as (λ _. IsSpent (new side) path (seen_on planned side).since
      (seen_on planned (other side)).marks) [
        | inl same ↦ subst
            (λ h. IsSpent h path (seen_on planned side).since (seen_on planned (other side)).marks)
            (sym same) (sound.used side token planned path (ap last_token (sym same) ∙ last) e w)
        | inr a ↦ subst (λ h. IsSpent h path (seen_on planned side).since
            (seen_on planned (other side)).marks) (sym a.3)
            (used_after a.0 a.1 a.2 token planned path
            (sym (token_one None (old side) a.0) ∙ (ap last_token (sym a.3) ∙ last)) e w)
      ]

  pub sound_moves : IsSound plans new archive sent
  sound_moves =
      sound-grow plans old new archive sent sound (moves_grow plans archive old new side m)
      (on_both (λ s. last_session (new s) ≤ archive.last_session) side begun_below (subst
      (λ h. last_session h ≤ archive.last_session) (sym m.there) (sound.begun (other side))))
      (on_both (λ s. (token : Token) (planned : Planned) (path : Path) → last_token (new s)
      ≡ Some token → slice_get (plan_in plans token.session) token.item ≡ Some planned →
      WritesTo planned.item s path →
      IsSpent (new s) path (seen_on planned s).since (seen_on planned (other s)).marks) side
      used_here
      (λ token planned path last e w. subst (λ h. IsSpent h path (seen_on planned
      (other side)).since (seen_on planned (other (other side))).marks) (sym m.there)
      (sound.used (other side) token planned path (ap last_token (sym m.there) ∙ last) e w)))

-- What is staged

prefix_from : (whole part rest : Bytes) → whole ≡ part ++ rest → part ≡ take (length part) whole
prefix_from whole part rest e = sym (take-append_seam part rest) ∙ ap (take (length part)) (sym e)

pub first_piece : (whole bytes : Bytes) (offset : ℕ) → offset ≡ 0 →
    bytes ≡ take 32768 (drop offset whole) → bytes ≡ take (length bytes) whole
first_piece whole bytes offset z e =
    let e' : bytes ≡ take 32768 whole = e ∙ ap (λ k. take 32768 (drop k whole)) z in
    prefix_from whole bytes (drop 32768 whole)
    (sym (take-append-drop 32768 whole) ∙ ap (λ w. w ++ drop 32768 whole) (sym e'))

pub next_piece : (whole had bytes : Bytes) (offset : ℕ) → offset ≡ length had →
    had ≡ take (length had) whole → bytes ≡ take 32768 (drop offset whole) →
    had ++ bytes ≡ take (length (had ++ bytes)) whole
next_piece whole had bytes offset at h e =
    let rest = drop (length had) whole in
    let e' : bytes ≡ take 32768 rest = e ∙ ap (λ k. take 32768 (drop k whole)) at in
    prefix_from whole (had ++ bytes) (drop 32768 rest)
    (sym (take-append-drop (length had) whole)
    ∙ (ap (λ w. w ++ rest) (sym h) ∙ (ap (λ w. had ++ w) (sym (take-append-drop 32768 rest)
    ∙ ap (λ w. w ++ drop 32768 rest) (sym e')) ∙ sym (append_assoc had bytes (drop 32768 rest)))))

-- what is staged stays so as histories go on
pub staging-grow : (plans : Plans) (old new : Histories) (side : Which) (staging : Staging) →
    ((s : Which) → AddsAllowed (old s) (new s)) → IsSoundStaging plans old side staging →
    IsSoundStaging plans new side staging
staging-grow plans old new side staging grows h =
    let x = extends (old (other side)) (new (other side)) (grows (other side)) in
    let longer : length (old (other side)) ≤ length (new (other side)) =
    length_grows (old (other side)) (new (other side)) x in
    let r : (seen_on h.planned (other side)).since ≤ length (old (other side)) = h.reached in
    record {
      planned = h.planned;
      item = h.item;
      reached = omega (arith, r, longer);
      begins =
          h.begins ∙ ap (λ t. take (length staging.bytes) (spelling t))
          (sym (part_at_stays (old (other side)) (new (other side)) x
          (seen_on h.planned (other side)).since (path_of h.planned.item) r));
    }

-- and so a replacement that is being written, whose own side stays
pub replacement-grow : (plans : Plans) (old new : Histories) (side : Which) (token : Token)
    (path : Path) (since : ℕ) (u : Tree) → new side ≡ old side →
    AddsAllowed (old (other side)) (new (other side)) →
    IsSoundReplacement plans old side token path since u →
    IsSoundReplacement plans new side token path since u
replacement-grow plans old new side token path since u stays grows h =
    let x = extends (old (other side)) (new (other side)) grows in
    let longer : length (old (other side)) ≤ length (new (other side)) =
    length_grows (old (other side)) (new (other side)) x in
    let r : (seen_on h.planned (other side)).since ≤ length (old (other side)) = h.reached in
    record {
      planned = h.planned;
      item = h.item;
      writes = h.writes;
      listed = h.listed;
      within = subst (λ w. since ≤ length w) (sym stays) h.within;
      quiet = ap (λ w. is_quiet w since (length w) path) stays ∙ h.quiet;
      reached = omega (arith, r, longer);
      whole =
          h.whole ∙ sym (part_at_stays (old (other side)) (new (other side)) x
          (seen_on h.planned (other side)).since (path_of h.planned.item) r);
      carries = h.carries;
    }

pub all_front : (start xs ys : History) → AllAllowed start (xs ++ ys) → AllAllowed start xs
all_front start [] ys h = tt
all_front start (x ∷ xs) ys h = (h.0, all_front (start ++ x ∷ []) xs ys h.1)

-- a history has a whole tree at each position
pub tree_at_is_tree : (history : History) (k : ℕ) → IsHistory history → IsTree (tree_at history k)
tree_at_is_tree history k h =
    history-is_tree (take k history) (all_front
    [] (take k history) (drop k history) (subst IsHistory (sym (take-append-drop k history)) h))

-- a history has at each position a tree that fits
pub tree_at_fits : (history : History) (k : ℕ) → IsHistory history →
    fits_replica (tree_at history k) ≡ true
tree_at_fits history k h =
    history_fits (take k history) (all_front
    [] (take k history) (drop k history) (subst IsHistory (sym (take-append-drop k history)) h))
