use Rattle.std.proofs.Common.{[], ◌∷◌, ◌++◌, subst, sym}
use Rattle.syn_model.specs.Path.{IsPath}
use Rattle.syn_tree.proofs.StripLemmas.{rest_lawful}
use Rattle.syn_folder.proofs.system.listing.fit_of.Goals as goal

pub returns-in-Err-BadPath-child : goal.returns-in-Err-BadPath-child
returns-in-Err-BadPath-child c =
    let bad = c.in-Err-BadPath-child.ensures.bad c.in-Err-BadPath-child.field-0-is in
    let path = c.args.path.now in (
      c.in-Ok.ensures.ok.1,
      λ lawful. bad
          (subst (λ n. IsPath (path ++ n ∷ [])) (sym c.in-Ok.ensures.ok.0)
          (rest_lawful c.args.at.now (path ++ c.args.name.now ∷ []) lawful)),
    )
