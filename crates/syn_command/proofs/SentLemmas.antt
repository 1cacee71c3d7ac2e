-- One edit more that a server made, or did not.
use Rattle.std.proofs.Common.{◌≡◌, ◌∙◌, ◌+◌, ◌++◌, ◌∷◌, [], ℕ, List, length, map, refl, sym, ap}
use Rattle.std.proofs.Common.{add-zero, arith, subst}
use Rattle.std.proofs.lemmas.List.{length-map, map-append}
use Rattle.syn_command.specs.Sent.{AreMadeInPart, AreMadeInTurn, StopsAt}
use Rattle.syn_command.specs.declared.error.CommandError.{CommandError}
use Rattle.syn_message.specs.UserReplies.{Edited}
use Rattle.syn_message.specs.Users.{Edits}
use Rattle.syn_model.specs.Event.{Edit}
use Rattle.syn_tree.specs.Edits.{edit_of}
use Rattle.syn_tree.specs.declared.edit.Edit.{Edit as Planned}
use Rattle.syn_user.specs.Exchanges.{IsTold}
use Rattle.syn_user.specs.States.{ConnectionState}

pub one_more_made : (user position last : ℕ) (old between new : ConnectionState) (edits : List Edit)
    (edit : Edit) → position + length edits ≡ last → AreMadeInTurn user old position edits between
    → IsTold between new (Edits user edit) (Edited (last + 1))
    → AreMadeInTurn user old position (edits ++ edit ∷ []) new
one_more_made user position last old between new [] edit at made told =
    let same : last ≡ position = sym at ∙ add-zero position in (
      new,
      subst (λ n. IsTold old new (Edits user edit) (Edited (n + 1))) same
          (subst (λ l. IsTold l new (Edits user edit) (Edited (last + 1))) made told),
      refl,
    )
one_more_made user position last old between new (first ∷ more) edit at (middle, one, rest) told = (
  middle,
  one,
  one_more_made user (position + 1) last middle between new more edit
      (omega arith) rest told,
)

-- the edits end at the one after those that were made
pub ends_at : (user position last : ℕ) (old between new : ConnectionState) (front : List Planned)
    (edit : Planned) (rest all : List Planned) (error : CommandError) → all ≡ front ++ edit ∷ rest
    → last ≡ position + length front
    → AreMadeInTurn user old position (map edit_of front) between
    → StopsAt user between last (edit_of edit) new error
    → AreMadeInPart user old position (map edit_of all) new error
ends_at user position last old between new front edit rest all error whole count made stops =
    record {
      front = map edit_of front;
      next = edit_of edit;
      others = map edit_of rest;
      are = ap (map edit_of) whole ∙ map-append edit_of front (edit ∷ rest);
      between = between;
      made = made;
      stops =
          subst (λ n. StopsAt user between n (edit_of edit) new error)
          (count ∙ ap (λ n. position + n) (sym (length-map front edit_of))) stops;
    }
