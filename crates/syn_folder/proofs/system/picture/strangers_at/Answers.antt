use Rattle.std.proofs.Common.{[], ◌∷◌, ◌++◌, map, ◌∙◌, ap, Vec, Global}
use Rattle.std.proofs.lemmas.List.{map-append}
use Rattle.std.proofs.lemmas.Result.{IfOk-weaker}
use Rattle.syn_folder.specs.Looks.{told}
use Rattle.syn_folder.specs.declared.stranger.Stranger.{Stranger}
use Rattle.syn_folder.proofs.PictureLemmas.{of_crowded, of_directory}
use Rattle.syn_folder.proofs.system.picture.strangers_at.Goals as goal

pub returns-in-Directory : goal.returns-in-Directory
returns-in-Directory c =
    IfOk-weaker c.strange_names.result _ _ (λ (strangers : Vec Stranger Global) shows.
    of_directory c.args.at.now c.args.seen.now.path c.args.seen.now.shown c.in-Directory.field-0
    c.in-Directory.listing c.deref.result.now (map told strangers.items) c.in-Directory.is
    c.deref.ensures.value shows) c.strange_names.ensures

pub returns-in_ok-push-in-Crowded : goal.returns-in_ok-push-in-Crowded
returns-in_ok-push-in-Crowded c =
    let strangers = c.in_ok-told-in-Crowded.told in
    let itself = c.in_ok-stranger_at-in-Crowded.field-0 in
    of_crowded c.args.at.now c.args.seen.now.path c.args.seen.now.shown c.in-Crowded.listing
    c.deref-in-Crowded.result.now (map told strangers.items) (map told c.push.new.self.items)
    c.in-Crowded.is c.deref-in-Crowded.ensures.value c.in_ok-told-in-Crowded.ensures
    (ap (map told) c.in_ok-push-in-Crowded.ensures.items
    ∙ (map-append told strangers.items (itself ∷ [])
    ∙ ap (λ one. map told strangers.items ++ one ∷ []) c.in_ok-stranger_at-in-Crowded.ensures))
