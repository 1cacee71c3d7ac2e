use Rattle.syn_folder.proofs.WalkLemmas.{listed_after}
use Rattle.syn_folder.proofs.system.walking.follow.Goals as goal

pub returns-clause-listed : goal.returns-clause-listed
returns-clause-listed c =
    listed_after c.args.at.now c.args.path.now c.args.shown.now c.in-Directory.field-0
    c.in-Directory.listing c.deref.result.now c.in_ok-children.children.items
    c.reverse.new.self.items c.args.pending.now.items c.append.new.self.items c.in-Directory.is
    c.deref.ensures.value c.in_ok-children.ensures c.reverse.ensures.permutation
    c.in_ok-append.ensures.items
