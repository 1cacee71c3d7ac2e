use Rattle.std.proofs.Common.{[], ◌∷◌, ◌++◌, map, sym, ap, ◌∙◌, append_assoc, option_map}
use Rattle.std.proofs.lemmas.List.{map-append}
use Rattle.syn_folder.specs.Looks.{look_of, node_of, placed}
use Rattle.syn_folder.proofs.PictureLemmas.{filtered_none, filtered_some}
use Rattle.syn_folder.proofs.system.picture.nodes_of.Goals as goal

pub loop-seen-preserved-in-Continue-branch-4 : goal.loop-seen-preserved-in-Continue-branch-4
loop-seen-preserved-in-Continue-branch-4 c =
    let made = c.loop-seen.yielded in
    let x = c.in-Some.seen in
    record {
      whole =
          c.loop-seen.invariant.whole ∙ (ap (λ xs. made ++ xs) c.in-Some.ensures.steps.0
          ∙ sym (append_assoc made (x ∷ []) c.next.new.self.rest.items));
      entries =
          c.in_ok-push.ensures.items
          ∙ filtered_some node_of made x c.in-Some-2.entry c.loop-seen.entries.items
          c.loop-seen.invariant.entries
          (sym c.in_ok-entry.ensures.entry ∙ ap (option_map (λ n. n.0)) c.in-Some-2.is);
      looked =
          ap (map placed) c.in_ok-push-2.ensures.items
          ∙ (map-append placed c.loop-seen.looked.items (c.in-Some-2.look ∷ [])
          ∙ filtered_some look_of made x (placed c.in-Some-2.look)
          (map placed c.loop-seen.looked.items) c.loop-seen.invariant.looked
          (sym c.in_ok-entry.ensures.look ∙ ap (option_map (λ n. placed n.1)) c.in-Some-2.is));
    }

pub loop-seen-preserved : goal.loop-seen-preserved
loop-seen-preserved c =
    let made = c.loop-seen.yielded in
    let x = c.in-Some.seen in
    record {
      whole =
          c.loop-seen.invariant.whole ∙ (ap (λ xs. made ++ xs) c.in-Some.ensures.steps.0
          ∙ sym (append_assoc made (x ∷ []) c.next.new.self.rest.items));
      entries =
          filtered_none node_of made x c.loop-seen.entries.items c.loop-seen.invariant.entries
          (sym c.in_ok-entry.ensures.entry ∙ ap (option_map (λ n. n.0)) c.in_default.is);
      looked =
          filtered_none look_of made x (map placed c.loop-seen.looked.items)
          c.loop-seen.invariant.looked
          (sym c.in_ok-entry.ensures.look ∙ ap (option_map (λ n. placed n.1)) c.in_default.is);
    }
