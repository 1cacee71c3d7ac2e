-- A session over one file, step by step, up to the answer to its replacement.
use Rattle.std.proofs.Common.{◌∷◌, take, Some, None, ◌≡◌, map, refl, ap, arith, inl, inr, nat_le}
use Rattle.std.proofs.Common.{[], Option, not, true, ℕ}
use Rattle.syn_model.specs.Path.{root}
use Rattle.syn_model.specs.Limits.{children}
use Rattle.syn_model.specs.Event.{Edited, Began, Replaced}
use Rattle.syn_model.specs.Archive.{new_archive, Archive, Session}
use Rattle.syn_model.specs.Refusal.{JournalFull, first_cause}
use Rattle.syn_model.specs.MarkSpelling.{kept_spelling}
use Rattle.syn_machine.specs.Side.{Begin, ListAt, Fetch, Stage, Replace, Begun, Listed, Piece}
use Rattle.syn_machine.specs.Side.{Staged, Done, token_of, Side}
use Rattle.syn_machine.specs.Network.{Left, Right, Which}
use Rattle.syn_machine.specs.Coordinator.{stays, makes, Running}
use Rattle.syn_runs.specs.World.{Edits, Start, Deliver, Steps, Runs, World}
use Rattle.syn_machine.specs.Machine.{unarmed, written, record_size}
use Rattle.syn_witness.specs.Rows.{file_bytes}
use Rattle.syn_witness.specs.Witness.{a_path, put_one, one, opened_with}
use Rattle.syn_witness.proofs.WitnessScans.{left_scan, right_scan, left_root, right_root}
use Rattle.syn_witness.proofs.WitnessSteps.{runs_with, meets_unarmed, runs_on_from, edits_so}
use Rattle.syn_witness.proofs.WitnessSteps.{starts_so, reads_nothing, says_so, adds_so, lists}
use Rattle.syn_witness.proofs.WitnessSteps.{asks_so, asks_on_so, world_of}
use Rattle.syn_witness.proofs.WitnessFiles.{edit_allowed, one_is_part, fits_as_part, fits_by_paths}
use Rattle.syn_witness.proofs.WitnessFiles.{one_spelling, a_is_path}
use Rattle.syn_witness.proofs.WitnessPlan.{left_side, right_side, right_staged, right_done}
use Rattle.syn_witness.proofs.WitnessPlan.{transcript, planned, plan, begun_archive, made}
use Rattle.syn_witness.proofs.WitnessPlan.{both_begin, right_begins, both_list, right_lists}
use Rattle.syn_witness.proofs.WitnessPlan.{left_fetches, right_stages, right_replaces, acks}
use Rattle.syn_witness.proofs.WitnessPlan.{messages, edited_side, new_right}
use Rattle.syn_witness.proofs.WitnessAnswers.{piece_is, done_is, root_lawful, left_listing}
use Rattle.syn_witness.proofs.WitnessAnswers.{right_listing, two_begun, can_record, bytes_lawful}
use Rattle.syn_witness.proofs.WitnessAnswers.{makes_plan}

module _ (preference : Option Which) (room : ℕ) where
  -- The worlds
  abbrev world : Side → Side → Archive → Option Running → ℕ → ℕ → World
  world = world_of room messages acks (made preference ∷ []) 8

  abbrev pub edited_world : World
  edited_world = world edited_side new_right new_archive None 0 1

  abbrev pub started : World
  started = world edited_side new_right begun_archive (Some (both_begin preference)) 2 2

  abbrev pub left_begun : World
  left_begun = world left_side new_right begun_archive (Some (both_begin preference)) 3 3

  abbrev pub both_begun : World
  both_begun = world left_side right_side begun_archive (Some (both_begin preference)) 4 4

  abbrev pub right_awaited : World
  right_awaited = world left_side right_side begun_archive (Some (right_begins preference)) 4 4

  abbrev pub listing : World
  listing = world left_side right_side begun_archive (Some (both_list preference)) 6 4

  abbrev pub left_listed : World
  left_listed = world left_side right_side begun_archive (Some (both_list preference)) 7 4

  abbrev pub both_listed : World
  both_listed = world left_side right_side begun_archive (Some (both_list preference)) 8 4

  abbrev pub right_list_awaited : World
  right_list_awaited = world left_side right_side begun_archive (Some (right_lists preference)) 8 4

  abbrev pub fetching : World
  fetching = world left_side right_side begun_archive (Some (left_fetches preference)) 9 4

  abbrev pub fetched : World
  fetched = world left_side right_side begun_archive (Some (left_fetches preference)) 10 4

  abbrev pub staging : World
  staging = world left_side right_side begun_archive (Some (right_stages preference)) 11 4

  abbrev pub staged : World
  staged = world left_side right_staged begun_archive (Some (right_stages preference)) 12 4

  abbrev pub replacing : World
  replacing = world left_side right_staged begun_archive (Some (right_replaces preference)) 13 4

  abbrev pub replaced : World
  replaced = world left_side right_done begun_archive (Some (right_replaces preference)) 14 5

  -- The steps of the sides
  edits : Steps (opened_with room) (Edits Left 1 put_one) edited_world
  edits =
      edits_so (opened_with room) Left 1 put_one edited_world.left.journal
      (Edited 1 put_one ∷ []) edited_world refl refl edit_allowed
      (written unarmed refl (meets_unarmed 4)) refl

  begins_left : Steps started (Deliver 0) left_begun
  begins_left =
      adds_so started Left 1 0 (Begin 7) None left_side (Begun 2)
      (Began 1) refl refl reads_nothing refl refl

  begins_right : Steps left_begun (Deliver 1) both_begun
  begins_right =
      adds_so left_begun Right 1 0 (Begin 7) None right_side (Begun 1)
      (Began 1) refl refl reads_nothing refl refl

  lists_left : Steps listing (Deliver 4) left_listed
  lists_left =
      says_so listing Left 1 1 (ListAt root) None left_side
      (Listed 2 (children left_scan.marks root)) refl reads_nothing
      (lists left_side root left_root) refl

  lists_right : Steps left_listed (Deliver 5) both_listed
  lists_right =
      says_so left_listed Right 1 1 (ListAt root) None right_side
      (Listed 1 (children right_scan.marks root)) refl reads_nothing
      (lists right_side root right_root) refl

  fetches : Steps fetching (Deliver 8) fetched
  fetches =
      says_so fetching Left 1 2 (Fetch a_path 2 0) None left_side
      (Piece 8 file_bytes) refl reads_nothing piece_is refl

  stages : Steps staging (Deliver 10) staged
  stages =
      says_so staging Right 1 2
      (Stage 0 0 file_bytes) None right_staged Staged refl reads_nothing refl refl

  replaces : Steps replacing (Deliver 12) replaced
  replaces =
      adds_so replacing Right 1 3 (Replace 0 a_path 1 8) (Some one) right_done Done
      (Replaced (token_of 1 0) a_path 1 one) refl refl (
        one_is_part,
        fits_as_part,
        fits_by_paths,
        one_spelling,
      ) done_is refl

  -- The steps of the coordinator
  begins_session : nat_le (record_size (kept_spelling (Session 1))) room ≡ true →
      Steps edited_world (Start preference) started
  begins_session fits =
      starts_so edited_world preference 1 refl refl
      (ap (λ b. first_cause ((not b, JournalFull) ∷ [])) fits) refl
      (omega arith, omega arith) started refl

  takes_left_begun : Steps both_begun (Deliver 2) right_awaited
  takes_left_begun =
      asks_on_so both_begun (both_begin preference) Left 0 (Begin 7) (Begun 2) None [] [] [] refl
      refl refl stays refl
      (asks_so begun_archive (right_begins preference) [] [] tt tt tt (omega arith) (omega arith)
      ((refl, tt), tt, (refl, tt)) (omega arith, omega arith, omega arith))

  takes_right_begun : Steps right_awaited (Deliver 3) listing
  takes_right_begun =
      asks_on_so right_awaited (right_begins preference) Right 0 (Begin 7) (Begun 1) None
      [] (ListAt root ∷ []) (ListAt root ∷ []) refl refl refl stays refl
      (asks_so begun_archive (runs_with preference (take 2 transcript) [] [] None)
      (ListAt root ∷ []) (ListAt root ∷ []) ((refl, two_begun, inl refl), tt)
      ((refl, two_begun, inl refl), tt)
      ((omega arith, root_lawful), ((omega arith, root_lawful), tt))
      (omega arith) (omega arith) ((refl, (refl, tt)), (refl, tt), (refl, tt))
      (omega arith, omega arith, omega arith))

  takes_left_listing : Steps both_listed (Deliver 6) right_list_awaited
  takes_left_listing =
      asks_on_so both_listed (both_list preference) Left 1 (ListAt root)
      (Listed 2 (children left_scan.marks root)) None [] [] [] refl refl left_listing stays refl
      (asks_so begun_archive (right_lists preference) [] [] tt tt tt (omega arith) (omega arith)
      ((refl, (refl, (refl, tt))), tt, (refl, tt)) (omega arith, omega arith, omega arith))

  takes_right_listing : Steps right_list_awaited (Deliver 7) fetching
  takes_right_listing =
      asks_on_so right_list_awaited (right_lists preference) Right 1 (ListAt root)
      (Listed 1 (children right_scan.marks root)) (Some plan) (made preference ∷ [])
      (Fetch a_path 2 0 ∷ [])
      [] refl refl right_listing (makes (made preference) refl (makes_plan preference)) refl
      (asks_so begun_archive
      (runs_with preference (take 4 transcript) [] [] (Some plan)) (Fetch a_path 2 0 ∷ [])
      [] ((planned, refl, (refl, refl, can_record.not_refused, inl refl, refl)), tt) tt
      ((omega arith, (a_is_path, omega arith, omega arith)), tt)
      (omega arith) (omega arith) ((refl, (refl, (refl, (refl, tt)))), (refl, tt), tt)
      (omega arith, omega arith, omega arith))

  takes_piece : Steps fetched (Deliver 9) staging
  takes_piece =
      asks_on_so fetched (left_fetches preference) Left 2 (Fetch a_path 2 0) (Piece 8 file_bytes)
      (Some plan)
      [] [] (Stage 0 0 file_bytes ∷ []) refl refl refl stays refl
      (asks_so begun_archive (runs_with preference (take 5 transcript) [] [] (Some plan))
      [] (Stage 0 0 file_bytes ∷ []) tt
      ((refl, (planned, refl, (refl, 8, (2, (4, omega arith, refl))))), tt)
      ((omega arith, (omega arith, omega arith, (omega arith, omega arith, bytes_lawful))), tt)
      (omega arith) (omega arith) ((refl, (refl, (refl, (refl, (refl, tt))))), tt, (refl, tt))
      (omega arith, omega arith, omega arith))

  takes_staged : Steps staged (Deliver 11) replacing
  takes_staged =
      asks_on_so staged (right_stages preference) Right 2 (Stage 0 0 file_bytes) Staged (Some plan)
      [] [] (Replace 0 a_path 1 8 ∷ []) refl refl refl stays refl
      (asks_so begun_archive (runs_with preference (take 6 transcript) [] [] (Some plan))
      [] (Replace 0 a_path 1 8 ∷ []) tt (
        (
          refl,
          (
            planned,
            refl,
            (
              refl,
              refl,
              0,
              file_bytes,
              (2, (4, omega arith, refl)),
              inr (0, file_bytes, (2, (5, omega arith, refl)), refl),
            ),
          ),
        ),
        tt,
      )
      ((omega arith, (omega arith, a_is_path, omega arith, omega arith)), tt)
      (omega arith) (omega arith)
      ((refl, (refl, (refl, (refl, (refl, (refl, tt)))))), tt, (refl, tt))
      (omega arith, omega arith, omega arith))

  -- The run, up to the last answer, which the coordinator has yet to take

  lists_both : Runs right_awaited (map Deliver (3 ∷ 4 ∷ 5 ∷ 6 ∷ 7 ∷ [])) fetching
  lists_both = (
    listing,
    takes_right_begun,
    (
      left_listed,
      lists_left,
      (
        both_listed,
        lists_right,
        (right_list_awaited, takes_left_listing, (fetching, takes_right_listing, refl)),
      ),
    ),
  )

  carries : Runs fetching (map Deliver (8 ∷ 9 ∷ 10 ∷ 11 ∷ 12 ∷ [])) replaced
  carries = (
    fetched,
    fetches,
    (
      staging,
      takes_piece,
      (staged, stages, (replacing, takes_staged, (replaced, replaces, refl))),
    ),
  )

  begins : nat_le (record_size (kept_spelling (Session 1))) room ≡ true →
      Runs (opened_with room)
      (Edits Left 1 put_one ∷ Start preference ∷ map Deliver (0 ∷ 1 ∷ 2 ∷ []))
      right_awaited
  begins fits = (
    edited_world,
    edits,
    (
      started,
      begins_session fits,
      (
        left_begun,
        begins_left,
        (both_begun, begins_right, (right_awaited, takes_left_begun, refl)),
      ),
    ),
  )

  pub run_to_done : nat_le (record_size (kept_spelling (Session 1))) room ≡ true →
      Runs (opened_with room) (Edits Left 1 put_one ∷ Start preference
      ∷ map Deliver (0 ∷ 1 ∷ 2 ∷ 3 ∷ 4 ∷ 5 ∷ 6 ∷ 7 ∷ 8 ∷ 9 ∷ 10 ∷ 11 ∷ 12 ∷ [])) replaced
  run_to_done fits =
      runs_on_from (opened_with room) right_awaited replaced
      (Edits Left 1 put_one ∷ Start preference ∷ map Deliver (0 ∷ 1 ∷ 2 ∷ []))
      (map Deliver (3 ∷ 4 ∷ 5 ∷ 6 ∷ 7 ∷ 8 ∷ 9 ∷ 10 ∷ 11 ∷ 12 ∷ [])) (begins fits)
      (runs_on_from right_awaited fetching replaced (map Deliver (3 ∷ 4 ∷ 5 ∷ 6 ∷ 7 ∷ []))
      (map Deliver (8 ∷ 9 ∷ 10 ∷ 11 ∷ 12 ∷ [])) lists_both carries)
