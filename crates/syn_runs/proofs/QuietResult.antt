-- What the replacements and records of a session leave, where no user's event came since it began.
use Rattle.std.proofs.Common.{◌≡◌, true, false, not, ◌&&◌, if◌then◌else◌, List, [], ◌∷◌, fold, refl}
use Rattle.std.proofs.Common.{sym, ap, ap₂, ◌∙◌, subst, Some, true≢false, append-nil, arith, inl}
use Rattle.std.proofs.Common.{inr}
use Rattle.std.specs.Prelude.{Contains, All, Any}
use Rattle.std.specs.FinMap.{get}
use Rattle.std.proofs.lemmas.List.Elements.{All-head, All-tail, Contains-append_cases}
use Rattle.syn_model.specs.Path.{Path, comparable}
use Rattle.syn_model.specs.Tree.{Tree, Directory, IsTree, subtree, replace, is_directory}
use Rattle.syn_model.specs.Tree.{empty_directory}
use Rattle.syn_model.specs.Event.{Event, Edited, Began, Replaced, after_event}
use Rattle.syn_model.specs.Archive.{Archive, Kept, Session, Recorded, RecordedDir, after_kept}
use Rattle.syn_model.specs.Archive.{archive_of}
use Rattle.syn_model.specs.Decision.{Item, MarkDir, path_of}
use Rattle.syn_model.specs.Plan.{is_mark_dir, with_directory}
use Rattle.syn_machine.specs.Network.{Which, other}
use Rattle.syn_runs.proofs.CountLemmas.{IsRecordOf}
use Rattle.syn_runs.specs.Picture.{AllCanKeep}
use Rattle.syn_model.proofs.QuietLemmas.{none_touches, nothing_below}
use Rattle.syn_runs.proofs.SoundLemmas.{kept_is_tree}
use Rattle.syn_runs.proofs.HarmlessLemmas.{Meets, meets, one, above, below}
use Rattle.syn_runs.proofs.AnyOrder.{StandAlone, put, put_within, done_stays, put_covers}
use Rattle.syn_runs.proofs.AnyOrder.{put_covers_too, directory_stays, HasMore, more_covers}
use Rattle.syn_runs.proofs.AnyOrder.{more_stays, more_directory_stays}
use Rattle.syn_runs.proofs.CarriedOut.{is_to, is_recorded, recorded_of, to_file, recorded_file}
use Rattle.syn_runs.proofs.CarriedOut.{directory_more, CoversSide, CoversArchive, IsDoneOn}
use Rattle.syn_runs.proofs.CarriedOut.{IsDoneIn}
use Rattle.syn_model.proofs.BaseLemmas.{contains_one}

-- The replacements of a side

module _ (found : Which → Tree) (o : Tree) (items : List Item) (alone : StandAlone items) where
  -- a replacement of an item's path with what the other side had there
  abbrev pub IsCarry : Which → Event → Type 0
  IsCarry side (Edited user edit) = ⊥
  IsCarry side (Began session) = ⊥
  IsCarry side (Replaced token path since new) =
      (x : Item) × Contains items x × (is_to side x ≡ true) × (path ≡ path_of x)
      × (new ≡ subtree (found (other side)) (path_of x))

  module _ (side : Which) where
    abbrev source : Item → Tree
    source x = found (other side)

    put_by : (t : Tree) (path : Path) (new : Tree) (x : Item) → path ≡ path_of x →
        new ≡ subtree (found (other side)) (path_of x) →
        replace t path new ≡ put t (path_of x) (found (other side))
    put_by t path new x at is = ap₂ (replace t) at is

    pub events_cover : (events : List Event) (t : Tree) → All (IsCarry side) events →
        CoversSide found o items alone side t →
        CoversSide found o items alone side (fold after_event t events)
    events_cover [] t all covered = covered
    events_cover (Edited user edit ∷ events) t all covered =
        absurd (All-head (IsCarry side) (Edited user edit) events all)
    events_cover (Began session ∷ events) t all covered =
        absurd (All-head (IsCarry side) (Began session) events all)
    events_cover (Replaced token path since new ∷ events) t all covered =
        let c = All-head (IsCarry side) (Replaced token path since new) events all in
        events_cover events (replace t path new)
        (All-tail (IsCarry side) (Replaced token path since new) events all)
        (subst (CoversSide found o items alone side) (sym (put_by t path new c.0 c.3 c.4))
        (put_covers items alone (is_to side) (to_file side) source
        (found side) t c.0 c.1 c.2 covered))

    event_keeps : (t : Tree) (path : Path) (new : Tree)
        (c : (x : Item) × Contains items x × (is_to side x ≡ true) × (path ≡ path_of x)
        × (new ≡ subtree (found (other side)) (path_of x))) (y : Item) → Contains items y →
        is_to side y ≡ true → IsDoneOn found o items alone side t y →
        IsDoneOn found o items alone side (replace t path new) y
    event_keeps t path new c y in_y on done =
        subst (λ t. IsDoneOn found o items alone side t y) (sym (put_by t path new c.0 c.3 c.4))
        (done_stays items alone (is_to side) (to_file side) source t c.0 y c.1 c.2 in_y on done)

    events_keep : (events : List Event) (t : Tree) → All (IsCarry side) events → (y : Item) →
        Contains items y → is_to side y ≡ true → IsDoneOn found o items alone side t y →
        IsDoneOn found o items alone side (fold after_event t events) y
    events_keep [] t all y in_y on done = done
    events_keep (Edited user edit ∷ events) t all y in_y on done =
        absurd (All-head (IsCarry side) (Edited user edit) events all)
    events_keep (Began session ∷ events) t all y in_y on done =
        absurd (All-head (IsCarry side) (Began session) events all)
    events_keep (Replaced token path since new ∷ events) t all y in_y on done =
        events_keep events (replace t path new)
        (All-tail (IsCarry side) (Replaced token path since new) events all) y in_y on
        (event_keeps t path new
        (All-head (IsCarry side) (Replaced token path since new) events all) y in_y on done)

    -- items whose paths meet are one
    meeting : (x y : Item) → Contains items x → Contains items y → is_mark_dir x ≡ false →
        is_mark_dir y ≡ false → Meets (path_of x) (path_of y) → x ≡ y
    meeting x y in_x in_y file_x file_y (one e) =
        alone x y [] in_x in_y file_x (sym e ∙ sym (append-nil (path_of x)))
    meeting x y in_x in_y file_x file_y (above n r e) = alone x y (n ∷ r) in_x in_y file_x e
    meeting x y in_x in_y file_x file_y (below n r e) = sym (alone y x (n ∷ r) in_y in_x file_y e)

    -- where one touched the item's path it is done
    pub events_do : (events : List Event) (t : Tree) → All (IsCarry side) events → (y : Item) →
        Contains items y → is_to side y ≡ true → none_touches events (path_of y) ≡ false →
        IsDoneOn found o items alone side (fold after_event t events) y
    events_do [] t all y in_y on touched = absurd (true≢false touched)
    events_do (Edited user edit ∷ events) t all y in_y on touched =
        absurd (All-head (IsCarry side) (Edited user edit) events all)
    events_do (Began session ∷ events) t all y in_y on touched =
        absurd (All-head (IsCarry side) (Began session) events all)
    events_do (Replaced token path since new ∷ events) t all y in_y on touched =
        let c = All-head (IsCarry side) (Replaced token path since new) events all in
        let rest = All-tail (IsCarry side) (Replaced token path since new) events all in
        elim (comparable path (path_of y)) as (λ b. comparable path (path_of y) ≡ b →
        (not b && none_touches events (path_of y)) ≡ false →
        IsDoneOn found o items alone side (fold after_event (replace t path new) events) y) [
          | true ↦ λ near _.
              let same = meeting c.0 y c.1 in_y (to_file side c.0 c.2) (to_file side y on) (meets
              (path_of c.0) (path_of y) (ap (λ p. comparable p (path_of y)) (sym c.3) ∙ near)) in
              events_keep events (replace t path new) rest y in_y on
              (subst (λ z. IsDoneOn found o items alone side (replace t path new) z) same
              (subst (λ w. IsDoneOn found o items alone side w c.0) (sym
              (put_by t path new c.0 c.3 c.4)) (put_within t (path_of c.0) (found (other side)))))
          | false ↦ λ _ later. events_do events (replace t path new) rest y in_y on later
        ] refl touched

  -- What is recorded

  abbrev pub IsRecord : Kept → Type 0
  IsRecord (Session session) = ⊥
  IsRecord (Recorded path marks) =
      (x : Item) × Contains items x × (is_recorded x ≡ true) × (path ≡ path_of x)
      × (marks ≡ subtree (recorded_of found x) (path_of x))
  IsRecord (RecordedDir path) = Contains items (MarkDir path)

  with_directory_is : (a : Archive) (p : Path) →
      (after_kept a (RecordedDir p)).marks ≡ with_directory a.marks p
  with_directory_is a p =
      elim (is_directory a.marks p)
      as (λ b. (if b then a else record a { marks = replace a.marks p empty_directory }).marks
      ≡ (if b then a.marks else replace a.marks p empty_directory)) [ true ↦ refl | false ↦ refl ]

  more_of : (a : Archive) (p : Path) → IsTree a.marks →
      HasMore p a.marks (after_kept a (RecordedDir p)).marks
      × (get (after_kept a (RecordedDir p)).marks p ≡ Some Directory)
  more_of a p tree =
      subst (λ t. HasMore p a.marks t × (get t p ≡ Some Directory)) (sym (with_directory_is a p))
      (directory_more a.marks p (λ n r none. nothing_below a.marks p n r tree.part.parents none))

  kept_covers : (a : Archive) (kept : Kept) → IsTree a.marks → IsRecord kept →
      CoversArchive found o items alone a.marks →
      CoversArchive found o items alone (after_kept a kept).marks
  kept_covers a (Session session) tree c covered = absurd c
  kept_covers a (Recorded path marks) tree c covered =
      subst (CoversArchive found o items alone) (sym (ap₂ (replace a.marks) c.3 c.4))
      (put_covers_too items alone is_recorded recorded_file
      (recorded_of found) o a.marks c.0 c.1 c.2 covered)
  kept_covers a (RecordedDir path) tree c covered =
      more_covers items alone is_recorded recorded_file (recorded_of found) o a.marks
      (after_kept a (RecordedDir path)).marks path c (more_of a path tree).0 covered

  kept_keeps : (a : Archive) (kept : Kept) → IsTree a.marks → IsRecord kept → (y : Item) →
      Contains items y → is_recorded y ≡ true → IsDoneIn found o items alone a.marks y →
      IsDoneIn found o items alone (after_kept a kept).marks y
  kept_keeps a (Session session) tree c y in_y on done = absurd c
  kept_keeps a (Recorded path marks) tree c y in_y on done =
      subst (λ t. IsDoneIn found o items alone t y) (sym (ap₂ (replace a.marks) c.3 c.4))
      (done_stays items alone is_recorded recorded_file
      (recorded_of found) a.marks c.0 y c.1 c.2 in_y on done)
  kept_keeps a (RecordedDir path) tree c y in_y on done =
      more_stays items alone is_recorded recorded_file (recorded_of found) a.marks
      (after_kept a (RecordedDir path)).marks path y c (more_of a path tree).0 in_y on done

  kept_directory : (a : Archive) (kept : Kept) → IsTree a.marks → IsRecord kept → (p : Path) →
      Contains items (MarkDir p) → get a.marks p ≡ Some Directory →
      get (after_kept a kept).marks p ≡ Some Directory
  kept_directory a (Session session) tree c p marked is = absurd c
  kept_directory a (Recorded path marks) tree c p marked is =
      ap (λ t. get t p) (ap₂ (replace a.marks) c.3 c.4) ∙ directory_stays items alone is_recorded
      recorded_file (recorded_of found) a.marks c.0 p c.1 c.2 marked is
  kept_directory a (RecordedDir path) tree c p marked is =
      more_directory_stays a.marks (after_kept a (RecordedDir path)).marks path p
      (more_of a path tree).0 is

  -- what is so and stays so as each is kept is so after all
  module _ (P : Tree → Type 0) (stays : (a : Archive) (kept : Kept) → IsTree a.marks →
      IsRecord kept → P a.marks → P (after_kept a kept).marks) where
    pub records_keep : (records : List Kept) (a : Archive) → IsTree a.marks → AllCanKeep a records →
        All IsRecord records → P a.marks → P (archive_of a records).marks
    records_keep [] a tree can all h = h
    records_keep (kept ∷ records) a tree can all h =
        records_keep records (after_kept a kept) (kept_is_tree a kept tree can.0) can.1
        (All-tail IsRecord kept records all)
        (stays a kept tree (All-head IsRecord kept records all) h)

    pub records_make : (made : Kept) →
        ((a : Archive) → IsTree a.marks → IsRecord made → P (after_kept a made).marks) →
        (records : List Kept) (a : Archive) → IsTree a.marks → AllCanKeep a records →
        All IsRecord records → Contains records made → P (archive_of a records).marks
    records_make made makes [] a tree can all c = absurd (omega (arith, c.1))
    records_make made makes (kept ∷ records) a tree can all c =
        let first = All-head IsRecord kept records all in
        let next = kept_is_tree a kept tree can.0 in
        let rest = All-tail IsRecord kept records all in
        elim (Contains-append_cases (kept ∷ []) records made c)
        as (λ _. P (archive_of (after_kept a kept) records).marks) [
          | inl here ↦ records_keep records (after_kept a kept) next can.1 rest
              (subst (λ k. P (after_kept a k).marks) (sym (contains_one kept made here))
              (makes a tree (subst IsRecord (contains_one kept made here) first)))
          | inr later ↦ records_make made makes records (after_kept a kept) next can.1 rest later
        ]

  pub records_cover : (records : List Kept) (a : Archive) → IsTree a.marks → AllCanKeep a records →
      All IsRecord records → CoversArchive found o items alone a.marks →
      CoversArchive found o items alone (archive_of a records).marks
  records_cover = records_keep (CoversArchive found o items alone) kept_covers

  -- an item whose path is recorded is done
  pub records_do : (records : List Kept) (a : Archive) → IsTree a.marks → AllCanKeep a records →
      All IsRecord records → (y : Item) → Contains items y → is_recorded y ≡ true →
      Any (IsRecordOf (path_of y)) records →
      IsDoneIn found o items alone (archive_of a records).marks y
  records_do records a tree can all y in_y on (k, made, below_it, at, is) =
      records_make (λ t. IsDoneIn found o items alone t y)
      (λ a kept t c. kept_keeps a kept t c y in_y on) made
      (λ a t c. makes a made is c) records a tree can all (k, below_it, at)
    where
      makes : (a : Archive) (made : Kept) → IsRecordOf (path_of y) made → IsRecord made →
          IsDoneIn found o items alone (after_kept a made).marks y
      makes a (Session session) is c = absurd c
      makes a (RecordedDir path) is c = absurd is
      makes a (Recorded path marks) is c =
          let same = alone c.0 y
          [] c.1 in_y (recorded_file c.0 c.2) (sym is ∙ (c.3 ∙ sym (append-nil (path_of c.0)))) in
          subst (λ z. IsDoneIn found o items alone (replace a.marks path marks) z) same
          (subst (λ t. IsDoneIn found o items alone t c.0) (sym (ap₂ (replace a.marks) c.3 c.4))
          (put_within a.marks (path_of c.0) (recorded_of found c.0)))

  pub records_mark : (records : List Kept) (a : Archive) → IsTree a.marks → AllCanKeep a records →
      All IsRecord records → (p : Path) → Contains items (MarkDir p) →
      Contains records (RecordedDir p) → get (archive_of a records).marks p ≡ Some Directory
  records_mark records a tree can all p marked c =
      records_make (λ t. get t p ≡ Some Directory)
      (λ a kept t r. kept_directory a kept t r p marked) (RecordedDir p)
      (λ a t _. (more_of a p t).1) records a tree can all c
