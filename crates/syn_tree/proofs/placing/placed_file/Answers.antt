use Rattle.std.proofs.Common.{◌++◌, ◌∷◌, [], length, refl, ap₂, ◌∙◌, subst, arith}
use Rattle.std.proofs.lemmas.Bool.{le-leb, lt-leb}
use Rattle.syn_model.specs.Contents.{AreLawfulContents, contents_with}
use Rattle.syn_model.specs.Tree.{File}
use Rattle.syn_tree.proofs.PlaceableLemmas.{placeable_one, nowhere_content}
use Rattle.syn_tree.proofs.placing.placed_file.Goals as goal
use Rattle.syn_tree.specs.Modes.{mode_of}

pub returns-then-len-gt-LONGEST_FILE-clause-full : goal.returns-then-len-gt-LONGEST_FILE-clause-full
returns-then-len-gt-LONGEST_FILE-clause-full c e =
    let bytes = c.args.bytes.items in (
      refl,
      nowhere_content c.args.at.now (File (contents_with (mode_of c.args.mode) bytes))
          (lt-leb (length bytes) 16384
          (omega (arith, c.if-len-gt-LONGEST_FILE.true, c.len.ensures, c.args.bytes.ok))),
    )

pub returns-clause-ok : goal.returns-clause-ok
returns-clause-ok c =
    let bytes = c.args.bytes.items in
    let at = c.args.at.now in
    let pairs = c.in_ok-push.ensures.items
    ∙ ap₂ (λ xs x. xs ++ x ∷ []) c.new-list.ensures.items c.in_ok-new.ensures in
    placeable_one at (File (contents_with (mode_of c.args.mode) bytes)) c.push.new.self.items
    c.is_path.ensures
    (subst (λ bs. AreLawfulContents (contents_with (mode_of c.args.mode) bs))
    c.deref.ensures.value c.are_contents.ensures)
    (le-leb (length bytes) 16384
    (omega (arith, c.if-len-gt-LONGEST_FILE.false, c.len.ensures, c.args.bytes.ok))) pairs
