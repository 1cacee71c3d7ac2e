-- The scans of a plan have each directory that its session was to list. So no listing waits beside
-- the plan, and its scans have an unstable path exactly where one was answered as no directory.
use Rattle.std.proofs.Common.{◌≡◌, ◌≢◌, ◌≤◌, ◌+◌, ◌∙◌, ℕ, zero, suc, Bool, true, false, List, []}
use Rattle.std.proofs.Common.{◌∷◌, length, refl, sym, ap, subst, arith, inl, inr, true≢false}
use Rattle.std.specs.Prelude.{◌↔◌, Contains}
use Rattle.std.proofs.lemmas.List.Folds.{Any-from_list_any, list_any-from_Any}
use Rattle.std.proofs.lemmas.List.{length-append}
use Rattle.syn_model.specs.Path.{Path, Name}
use Rattle.syn_model.specs.Tree.{Content, Directory, is_directory, is_directory_content}
use Rattle.syn_model.specs.Limits.{children}
use Rattle.syn_model.specs.Dirty.{Scan, is_unstable}
use Rattle.syn_model.specs.Archive.{Archive}
use Rattle.syn_model.specs.History.{History}
use Rattle.syn_machine.specs.Side.{Request, Begin, ListAt, Fetch, Stage, Replace, Reply, Begun}
use Rattle.syn_machine.specs.Side.{Listed, NotDir, Piece, Staged, Done, Refused}
use Rattle.syn_machine.specs.Network.{Which, Left, Right, Asks, Sent, AsksNothingTwice}
use Rattle.syn_machine.specs.Planning.{SessionPlan}
use Rattle.syn_machine.specs.Coordinator.{Exchange, Outstanding, Running, outstanding, WasTaken}
use Rattle.syn_machine.specs.Coordinator.{MakesPlan, is_not_dir}
use Rattle.syn_machine.specs.Coordinator.{took_not_dir}
use Rattle.syn_runs.specs.Reported.{HasUnstable}
use Rattle.syn_runs.proofs.Invariant.{Histories, IsSound, IsTrue, Plans}
use Rattle.syn_runs.proofs.ChildrenLemmas.{child_is}
use Rattle.syn_runs.proofs.InOrder.{ListsInOrder, IsAfter, IsSaid, answered, same_reply}
use Rattle.syn_model.proofs.ShownLemmas.{found_unstable}
use Rattle.syn_runs.proofs.Remembers.{Remembers}

-- no listing waits
abbrev pub ListsNothing : List Outstanding → Type 0
ListsNothing waiting =
    (one : Outstanding) (path : Path) → Contains waiting one → one.request ≢ ListAt path

-- a true answer of no directory is one to a listing
not_dir_listing : (history : History) (session : ℕ) (request : Request) (reply : Reply) →
    IsTrue history session request reply → is_not_dir reply ≡ true →
    (path : Path) × (position : ℕ) × (request ≡ ListAt path) × (reply ≡ NotDir position)
not_dir_listing history session (ListAt path) (NotDir position) so is = (path, position, refl, refl)
not_dir_listing history session (Begin pair) (NotDir position) so is = absurd so
not_dir_listing history session (Fetch path since offset) (NotDir position) so is = absurd so
not_dir_listing history session (Stage item offset bytes) (NotDir position) so is = absurd so
not_dir_listing history session (Replace item path since size) (NotDir position) so is = absurd so
not_dir_listing history session request (Begun position) so is = absurd (true≢false (sym is))
not_dir_listing history session request (Listed position entries) so is =
    absurd (true≢false (sym is))
not_dir_listing history session request (Piece total bytes) so is = absurd (true≢false (sym is))
not_dir_listing history session request Staged so is = absurd (true≢false (sym is))
not_dir_listing history session request Done so is = absurd (true≢false (sym is))
not_dir_listing history session request (Refused why) so is = absurd (true≢false (sym is))

abbrev entries_of : Reply → List (Name × Content)
entries_of (Listed position entries) = entries
entries_of _ = []

module _ (sent : Sent) (r : Running) (m : ListsInOrder sent r) (remembers : Remembers sent r)
    (repeats : AsksNothingTwice sent) (archive : Archive) (made : SessionPlan)
    (makes : MakesPlan r archive made) (side : Which) where
  abbrev scan : Scan
  scan = made.scan side

  abbrev since : Path → ℕ
  since = made.since side

  same : (path : Path) (one other : Reply) → WasTaken r.taken side (ListAt path) one →
      WasTaken r.taken side (ListAt path) other → one ≡ other
  same = same_reply sent r m remembers repeats archive made makes side

  -- a path was listed or answered as no directory, and not both
  not_both : (path : Path) (position at : ℕ) (entries : List (Name × Content)) →
      WasTaken r.taken side (ListAt path) (Listed position entries) →
      WasTaken r.taken side (ListAt path) (NotDir at) → ⊥
  not_both path position at entries listed none =
      let x : Listed position entries ≡ NotDir at =
      same path (Listed position entries) (NotDir at) listed none in cc

  -- a directory of the scan has there what its listing shows
  shows : (path : Path) (position : ℕ) (entries : List (Name × Content)) →
      WasTaken r.taken side (ListAt path) (Listed position entries) →
      is_directory scan.marks path ≡ true → entries ≡ children scan.marks path
  shows path position entries was there = by (is_unstable scan path) refl
    where
      by : (b : Bool) → is_unstable scan path ≡ b → entries ≡ children scan.marks path
      by true unstable = absurd (not_both path position (since path) entries was
          ((makes.scanned side).not_dir path (found_unstable path scan.unstable unstable)).1)
      by false stable = ap entries_of (same path (Listed position entries)
          (Listed (since path) (children scan.marks path)) was
          ((makes.scanned side).listed path there stable))

  -- so it has each directory that a listing shows, as deep as this
  reached : (depth : ℕ) (path : Path) → length path ≤ depth → (May : ℕ → Type 0) →
      IsAfter r.taken side path May → is_directory scan.marks path ≡ true
  reached depth path within May (inl at_root) =
      ap (is_directory scan.marks) at_root
      ∙ ap is_directory_content (makes.scanned side).tree.rooted
  reached zero path within May (inr (above, name, position, entries, at, was, there, later)) =
      let long : length path ≡ length above + 1 = ap length at ∙ length-append above (name ∷ []) in
      absurd (omega (arith, within, long))
  reached (suc depth) path within May
      (inr (above, name, position, entries, at, was, there, later)) =
      let long : length path ≡ length above + 1 = ap length at ∙ length-append above (name ∷ []) in
      let up = reached depth above (omega (arith, within, long)) (λ later. later ≡ position)
      (m.took (record {
        side = side;
        number = was.0;
        request = ListAt above;
        reply = Listed position entries;
      }) above position was.1 refl refl) in
      ap (is_directory scan.marks) at
      ∙ ap is_directory_content (child_is scan.marks above name Directory
      (subst (λ rows. Contains rows (name, Directory)) (shows above position entries was up) there))

  none_waits : (one : Outstanding) (path : Path) → Contains (outstanding r side) one →
      one.request ≢ ListAt path
  none_waits one path waits is =
      let there = reached (length path) path (omega arith) (IsSaid sent side r.session one.number)
      (m.waits side one path waits is) in
      let other = answered sent r m remembers repeats archive made makes side path there in
      let asked = subst (λ q. Contains sent (Asks side r.session one.number q)) is
      (remembers.waiting side one waits) in
      let exchange : Exchange = record
      { side = side; number = other.1.0; request = ListAt path; reply = other.0 } in
      m.apart side one exchange waits other.1.1 refl (repeats side r.session other.1.0 one.number
      (ListAt path) (ListAt path) (remembers.taken exchange other.1.1).0 asked refl)

  unstable_there : (path : Path) (position : ℕ) →
      WasTaken r.taken side (ListAt path) (NotDir position) → Contains scan.unstable path
  unstable_there path position was = by (is_unstable scan path) refl
    where
      there : is_directory scan.marks path ≡ true
      there = reached (length path) path (omega arith) (λ later. later ≡ position)
          (m.took (record {
            side = side;
            number = was.0;
            request = ListAt path;
            reply = NotDir position;
          }) path position was.1 refl refl)

      by : (b : Bool) → is_unstable scan path ≡ b → Contains scan.unstable path
      by true unstable = found_unstable path scan.unstable unstable
      by false stable = absurd (not_both path (since path) position (children scan.marks path)
          ((makes.scanned side).listed path there stable) was)

-- What was answered as no directory, and what the scans of a plan have
module _ (plans : Plans) (histories : Histories) (now : Archive) (sent : Sent)
    (sound : IsSound plans histories now sent) (r : Running) (remembers : Remembers sent r) where
  pub not_dir_taken : (exchange : Exchange) → Contains r.taken exchange →
      is_not_dir exchange.reply ≡ true → (path : Path) × (position : ℕ)
      × (exchange.request ≡ ListAt path) × (exchange.reply ≡ NotDir position)
  not_dir_taken exchange c is =
      let was = remembers.taken exchange c in
      not_dir_listing (histories exchange.side) r.session exchange.request exchange.reply
      (sound.answered exchange.side r.session exchange.number exchange.reply exchange.request was.1
      was.0) is

  module _ (m : ListsInOrder sent r) (archive : Archive) (made : SessionPlan)
      (makes : MakesPlan r archive made) where
    pub nothing_listed : ListsNothing r.left × ListsNothing r.right
    nothing_listed = (
      none_waits sent r m remembers sound.repeats archive made makes Left,
      none_waits sent r m remembers sound.repeats archive made makes Right,
    )

    taken_there : took_not_dir r ≡ true → HasUnstable made
    taken_there is =
        let any = Any-from_list_any (λ e. is_not_dir e.reply) r.taken is in
        let e = any.1 in
        let c : Contains r.taken e = (any.0, any.2, any.3) in
        let none = not_dir_taken e c any.4 in
        let was : WasTaken r.taken e.side (ListAt none.0) (NotDir none.1) =
        subst (WasTaken r.taken e.side (ListAt none.0)) none.3
        (subst (λ q. WasTaken r.taken e.side q e.reply) none.2 (e.number, c)) in (
          e.side,
          none.0,
          unstable_there sent r m remembers sound.repeats archive made makes e.side
              none.0 none.1 was,
        )

    there_taken : HasUnstable made → took_not_dir r ≡ true
    there_taken (side, path, there) =
        let was = ((makes.scanned side).not_dir path there).1 in
        let exchange : Exchange = record {
          side = side;
          number = was.0;
          request = ListAt path;
          reply = NotDir (made.since side path);
        } in
        list_any-from_Any (λ e. is_not_dir e.reply) r.taken
        (was.1.0, exchange, was.1.1, was.1.2, refl)

    pub scans_tell : (took_not_dir r ≡ true) ↔ HasUnstable made
    scans_tell = (taken_there, there_taken)
