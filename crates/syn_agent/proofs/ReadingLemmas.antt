-- What a side tells of its tree.
use Rattle.std.proofs.Common.{◌≡◌, ◌≢◌, ◌⊎◌, ◌∙◌, ℕ, Bool, true, false, List, length}
use Rattle.std.proofs.Common.{Some, None, ap, ap₂, arith, inl, inr, refl, subst, sym, drop, take}
use Rattle.std.proofs.lemmas.Bool.{eqb-true, false≢true}
use Rattle.std.specs.List.{list_any}
use Rattle.std.specs.Prelude.{◌==◌, ◌||◌, if◌then◌else◌}
use Rattle.syn_agent.proofs.CauseLemmas.{halted_number, memory_number, never_first, none_of}
use Rattle.syn_agent.proofs.CauseLemmas.{or_cases}
use Rattle.syn_agent.proofs.ReplicaLemmas.{as_was}
use Rattle.syn_agent.specs.Agents.{side_of}
use Rattle.syn_agent.specs.Answers.{Answers, keeps, room_for}
use Rattle.syn_agent.specs.inner.Lawful.{ListsLawfully}
use Rattle.syn_agent.specs.declared.agent.Agent.{Agent}
use Rattle.syn_message.specs.Listings.{IsListing}
use Rattle.syn_disk.specs.declared.disk.Disk.{Ghosts}
use Rattle.syn_machine.specs.Side.{Served, Fetch, ListAt, Listed, NotDir, Piece, Refused}
use Rattle.syn_machine.specs.Side.{Serves, TakesMemory, answer, unless_refused}
use Rattle.syn_machine.specs.Side as model
use Rattle.syn_history.specs.Refusals.{refusal_of as of_history}
use Rattle.syn_history.specs.declared.error.HistoryError.{HistoryError}
use Rattle.syn_history.specs.declared.error.HistoryError.TheVariants as history_error
use Rattle.syn_journal.specs.Refusals.{refusal_of as of_journal}
use Rattle.syn_journal.specs.declared.error.JournalError.{JournalError}
use Rattle.syn_journal.specs.declared.error.JournalError.TheVariants as journal_error
use Rattle.syn_model.specs.History.{History, tree_of}
use Rattle.syn_model.specs.Limits.{children}
use Rattle.syn_model.specs.Mark.{mark}
use Rattle.syn_model.specs.Path.{Bytes, Name, Path}
use Rattle.syn_model.specs.Refusal.{Refusal, first_cause, number}
use Rattle.syn_model.specs.Refusal as why
use Rattle.syn_model.specs.Spelling.{spelling}
use Rattle.syn_model.specs.Tree.{Content, Tree, is_directory, subtree}
use Rattle.syn_refusal.specs.Refusals.{cause_of}
use Rattle.syn_refusal.specs.declared.refusal.Refusal.{Refusal as Answer}
use Rattle.syn_refusal.specs.declared.refusal.Refusal.TheVariants as own
use Rattle.syn_replica.specs.Refusals.{IsOneOf, reading_refusals}
use Rattle.syn_replica.specs.ErrorRefusals.{refusal_of}
use Rattle.syn_replica.specs.Replica.{IsHalted, Stands, pair_of, position_shown, tree_shown}
use Rattle.syn_replica.specs.Causes.{since_causes}
use Rattle.syn_replica.specs.declared.error.ReplicaError.{ReplicaError}
use Rattle.syn_replica.specs.declared.error.ReplicaError.TheVariants.{Tree as OfTree}
use Rattle.syn_replica.specs.declared.error.ReplicaError.TheVariants.{History as OfHistory}
use Rattle.syn_replica.specs.declared.error.ReplicaError.TheVariants.{Journal as OfJournal}
use Rattle.syn_replica.specs.declared.replica.Replica.{Replica}
use Rattle.syn_tree.specs.Refusals.{refusal_of as of_tree}
use Rattle.syn_tree.specs.declared.error.TreeError.{TreeError}
use Rattle.syn_tree.specs.declared.error.TreeError.TheVariants as tree_error

absent_number : (refusal : Refusal) → 5 ≡ number refusal → refusal ≡ why.Absent
absent_number why.Absent is = refl
absent_number refusal is = absurd (let k : 5 ≡ number refusal = is in omega (arith, k))

-- the refusals of a reading
pub reading : (e : ReplicaError) → IsOneOf reading_refusals e
    → (refusal_of e ≡ why.Halted) ⊎ ((refusal_of e ≡ why.Absent) ⊎ (refusal_of e ≡ why.Memory))
reading e is =
    elim (or_cases (10 == number (refusal_of e)) ((5 == number (refusal_of e))
    || ((11 == number (refusal_of e)) || false)) is) [
      | inl halted ↦ inl (halted_number (refusal_of e) (eqb-true _ _ halted))
      | inr more ↦ elim (or_cases (5 == number (refusal_of e))
          ((11 == number (refusal_of e)) || false) more) [
            | inl absent ↦ inr (inl (absent_number (refusal_of e) (eqb-true _ _ absent)))
            | inr last ↦ elim (or_cases (11 == number (refusal_of e)) false last) [
              | inl memory ↦ inr (inr (memory_number (refusal_of e) (eqb-true _ _ memory)))
              | inr none ↦ absurd (false≢true none)
            ]
          ]
    ]

tree_absent : (e : TreeError) → of_tree e ≡ why.Absent → e ≡ tree_error.Absent
tree_absent tree_error.Absent is = refl
tree_absent e is = absurd (let k : of_tree e ≡ why.Absent = is in cc)

history_absent : (e : HistoryError) → of_history e ≢ why.Absent
history_absent history_error.Memory is = let k : why.Memory ≡ why.Absent = is in cc
history_absent e is = let k : of_history e ≡ why.Absent = is in cc

journal_absent : (e : JournalError) → of_journal e ≢ why.Absent
journal_absent journal_error.Memory is = let k : why.Memory ≡ why.Absent = is in cc
journal_absent e is = let k : of_journal e ≡ why.Absent = is in cc

-- that no directory is there is the tree's
pub absent_is : (e : ReplicaError) → refusal_of e ≡ why.Absent → e ≡ OfTree tree_error.Absent
absent_is (OfTree e) is = ap OfTree (tree_absent e is)
absent_is (OfHistory e) is = absurd (history_absent e is)
absent_is (OfJournal e) is = absurd (journal_absent e is)
absent_is e is = absurd (let k : refusal_of e ≡ why.Absent = is in cc)

-- the product's own refusal
pub own_absent : (refusal : Answer) → cause_of refusal ≡ why.Absent → refusal ≡ own.Absent
own_absent own.Absent is = refl
own_absent refusal is = absurd (let k : cause_of refusal ≡ why.Absent = is in cc)

-- what a directory lists can be sent
pub is_listing : (tree : Tree) (path : Path) (listed : List (Name × Content))
    → listed ≡ children (mark tree) path → is_directory tree path ≢ false → ListsLawfully tree
    → IsListing listed
is_listing tree path listed are there lawful =
    subst IsListing (sym are) (lawful path (by (is_directory tree path) refl))
  where
    by : (b : Bool) → is_directory tree path ≡ b → is_directory tree path ≡ true
    by true is = is
    by false is = absurd (there is)

module _ {D : Type 0} {disk : Ghosts D} (replica : Replica D disk) (agent : Agent)
    (history : History) (session : ℕ) (stands : Stands replica history) where
  pub running : ¬ IsHalted replica
  running halted = false≢true (sym stands.runs.running ∙ halted)

  -- an answer that changes nothing
  tells : (request : model.Request) (served : Served)
      → Serves (pair_of replica) (room_for replica) (side_of history agent) session request served
      → served.side ≡ side_of history agent
      → Answers replica replica agent agent history session request served.reply
  tells request served so same =
      keeps served so same
      (as_was replica) stands

  pub no_memory : (request : model.Request) (refusal : Refusal) → refusal ≡ why.Memory
      → TakesMemory (pair_of replica) (room_for replica) (side_of history agent) session request
      → Answers replica replica agent agent history session request (Refused refusal)
  no_memory request refusal memory takes =
      subst (λ r. Answers replica replica agent agent history session request (Refused r))
      (sym memory) (tells request (answer (side_of history agent) (Refused why.Memory))
      (inr (takes, refl)) refl)

  tree_is : tree_shown replica ≡ tree_of history
  tree_is = ap (λ s. s.tree) stands.remembers.standing

  position_is : position_shown replica ≡ length history
  position_is = ap (λ s. s.position) stands.remembers.standing

  listed : (path : Path) (there : Bool) → is_directory (tree_of history) path ≡ there
      → Answers replica replica agent agent history session (ListAt path)
      (if there then Listed (length history) (children (mark (tree_of history)) path)
      else NotDir (length history))
  listed path there is = tells (ListAt path) (answer (side_of history agent)
      (if there then Listed (length history) (children (mark (tree_of history)) path)
      else NotDir (length history)))
      (inl (
        None,
        inr (λ a b. refl),
        ap (λ b. answer (side_of history agent)
            (if b then Listed (length history) (children (mark (tree_of history)) path)
            else NotDir (length history))) (sym is),
      )) refl

  -- a directory that the replica shows is one of the history
  pub is_there : (path : Path) → is_directory (tree_shown replica) path ≢ false
      → is_directory (tree_of history) path ≡ true
  is_there path there = by (is_directory (tree_of history) path) refl
    where
      by : (b : Bool) → is_directory (tree_of history) path ≡ b
          → is_directory (tree_of history) path ≡ true
      by true is = is
      by false is = absurd (there (ap (λ t. is_directory t path) tree_is ∙ is))

  pub is_listed : (path : Path) (position : ℕ) (entries : List (Name × Content))
      → position ≡ position_shown replica
      → entries ≡ children (mark (tree_shown replica)) path
      → is_directory (tree_shown replica) path ≢ false
      → Answers replica replica agent agent history session (ListAt path)
      (Listed position entries)
  is_listed path position entries at are there =
      subst (λ r. Answers replica replica agent agent history session (ListAt path) r)
      (sym (ap₂ (λ p es. Listed p es) (at ∙ position_is)
      (are ∙ ap (λ t. children (mark t) path) tree_is)))
      (listed path true (is_there path there))

  pub is_no_directory : (path : Path) (position : ℕ) → position ≡ position_shown replica
      → is_directory (tree_shown replica) path ≡ false
      → Answers replica replica agent agent history session (ListAt path) (NotDir position)
  is_no_directory path position at none =
      subst (λ p. Answers replica replica agent agent history session (ListAt path) (NotDir p))
      (sym (at ∙ position_is))
      (listed path false (ap (λ t. is_directory t path) (sym tree_is) ∙ none))

  pub is_piece : (path : Path) (since offset total : ℕ) (bytes : Bytes)
      → first_cause (since_causes history path since) ≡ None
      → bytes ≡ take 32768 (drop offset (spelling (subtree (tree_of history) path)))
      → total ≡ length (spelling (subtree (tree_of history) path))
      → Answers replica replica agent agent history session (Fetch path since offset)
      (Piece total bytes)
  is_piece path since offset total bytes none are counted =
      let whole = spelling (subtree (tree_of history) path) in
      subst (λ r. Answers replica replica agent agent history session (Fetch path since offset) r)
      (sym (ap₂ (λ n b. Piece n b) counted are))
      (tells (Fetch path since offset) (answer (side_of history agent)
      (Piece (length whole) (take 32768 (drop offset whole))))
      (inl (
        None,
        inr (λ a b. refl),
        sym (ap (λ o. unless_refused (side_of history agent) o
            (answer (side_of history agent)
            (Piece (length whole) (take 32768 (drop offset whole)))))
            none),
      )) refl)

  pub is_refused : (path : Path) (since offset : ℕ) (refusal : Refusal)
      → first_cause (since_causes history path since) ≡ Some refusal
      → Answers replica replica agent agent history session (Fetch path since offset)
      (Refused refusal)
  is_refused path since offset refusal some =
      let whole = spelling (subtree (tree_of history) path) in
      tells (Fetch path since offset) (answer (side_of history agent) (Refused refusal))
      (inl (
        None,
        inr (λ a b. refl),
        sym (ap (λ o. unless_refused (side_of history agent) o
            (answer (side_of history agent)
            (Piece (length whole) (take 32768 (drop offset whole)))))
            some),
      )) refl

-- a fetch is refused for lack of memory only where nothing else refuses it
pub fetch_takes : (history : History) (path : Path) (since : ℕ) (answered : Refusal)
    → ((refusal : Refusal) → first_cause (since_causes history path since) ≡ Some refusal
    → answered ≡ refusal) → answered ≡ why.Memory
    → first_cause (since_causes history path since) ≡ None
fetch_takes history path since answered refused memory = none_of _ (λ refusal some.
    never_first why.Memory refusal (since_causes history path since)
    ((λ e. cc), ((λ e. cc), tt)) some (sym (refused refusal some) ∙ memory))

-- what is not among the refusals of a fetch
pub no_device : (refusals : List Refusal) (e : ReplicaError) → IsOneOf refusals e
    → list_any (λ why. number why == 9) refusals ≡ false → refusal_of e ≢ why.Device
no_device refusals e is none device = false≢true (sym none ∙ subst (λ r. list_any
    (λ why. number why == number r) refusals ≡ true) device is)
