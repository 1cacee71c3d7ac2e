use Rattle.std.proofs.Common.{◌≡◌, Some, None, sym, ap, ap₂, ◌∙◌, subst}
use Rattle.std.specs.Prelude.{option_map}
use Rattle.std.specs.FinMap.{get}
use Rattle.syn_model.specs.Contents.{contents_with}
use Rattle.syn_model.specs.Tree.{IsTree, Directory, File, file_with, subtree}
use Rattle.syn_tree.specs.Contents.{found_content}
use Rattle.syn_placed.specs.Pairs.{within}
use Rattle.syn_tree.specs.Lists.{stripped}
use Rattle.syn_tree.proofs.WholeLemmas.{whole_tree}
use Rattle.syn_tree.proofs.WithinLemmas.{stripped-within}
use Rattle.syn_tree.proofs.StripLemmas.{copies_lawful, copies_whole, subtree_none}
use Rattle.syn_tree.proofs.StripLemmas.{subtree_file}
use Rattle.syn_tree.proofs.tree.Tree.subtree.Goals as goal
use Rattle.syn_tree.proofs.tree.Tree.subtree.Goals.{In_ok-list-in-Some-Dir}
use Rattle.syn_tree.specs.Modes.{mode_of}

directory : (c : In_ok-list-in-Some-Dir) →
    get c.args.self.now c.args.path.now ≡ Some Directory
directory c =
    sym c.get.ensures ∙ (ap (option_map (λ found. found_content found)) c.in-Some-Dir.is
    ∙ ap (λ f. Some (found_content f)) c.in-Some-Dir.field-0-is)

copied : (c : In_ok-list-in-Some-Dir) → c.in_ok-list-in-Some-Dir.list.items
    ≡ stripped c.args.path.now c.self.inside.list.items
copied c =
    c.in_ok-list-in-Some-Dir.ensures
    ∙ ap₂ stripped c.key-at.ensures
    (c.part_at.ensures ∙ ap₂ within c.key-at.ensures c.deref.ensures.value)
    ∙ stripped-within c.args.path.now c.self.inside.list.items

pub lawful-requires : goal.lawful-requires
lawful-requires c =
    let k = (goal.at.lawful-requires c).In_ok-list-in-Some-Dir in
    copies_lawful c.self.inside.list.items c.self.inside.spelled _ c.args.self.now
    c.args.path.now c.in_ok-list-in-Some-Dir.list.items c.self.invariant c.self.view_is
    (directory k) (copied k)

pub returns-in-None : goal.returns-in-None
returns-in-None c =
    let t = c.args.self.now in
    let none : get t c.args.path.now ≡ None = sym c.get.ensures
    ∙ ap (option_map (λ found. found_content found)) c.in-None.is in
    subtree_none t c.args.path.now
    (subst IsTree c.self.view_is c.self.invariant.tree).part.parents none

pub returns-in_ok-bytes-in-Some-File : goal.returns-in_ok-bytes-in-Some-File
returns-in_ok-bytes-in-Some-File c =
    let t = c.args.self.now in
    let bytes = c.in-Some-File.bytes.now in
    let mode = mode_of c.in-Some-File.mode in
    let here : get t c.args.path.now ≡ Some (File (contents_with mode bytes)) = sym c.get.ensures
    ∙ (ap (option_map (λ found. found_content found)) c.in-Some-File.is
    ∙ ap (λ f. Some (found_content f)) c.in-Some-File.field-0-is) in
    ap (file_with mode) c.in_ok-bytes-in-Some-File.ensures.items ∙ subtree_file t c.args.path.now
    (contents_with mode bytes) (subst IsTree c.self.view_is c.self.invariant.tree).part.parents here

pub returns-in_ok-list-in-Some-Dir : goal.returns-in_ok-list-in-Some-Dir
returns-in_ok-list-in-Some-Dir c =
    let k = (goal.at.returns-in_ok-list-in-Some-Dir c).In_ok-list-in-Some-Dir in
    let copies = c.in_ok-list-in-Some-Dir.list.items in
    c.lawful.ensures ∙ whole_tree (subtree c.args.self.now c.args.path.now) copies
    (copies_whole c.self.inside.list.items c.self.inside.spelled _ c.args.self.now
    c.args.path.now copies c.self.invariant c.self.view_is (directory k) (copied k))
