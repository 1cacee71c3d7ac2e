use Rattle.std.proofs.Common.{◌∙◌, ◌≤◌, ap, length, false, arith}
use Rattle.syn_disk.specs.Padded.{padded}
use Rattle.syn_disk.specs.declared.disk.TheConstants.{PART_SIZE}
use Rattle.syn_disk.proofs.Padding.{padded-reach}
use Rattle.syn_disk.proofs.simulated.part.SimulatedPart.reach.Goals as goal

pub returns-then-len-to-clause-content : goal.returns-then-len-to-clause-content
returns-then-len-to-clause-content c =
    ap (λ xs. padded xs PART_SIZE 0) c.extend.ensures.items
    ∙ padded-reach 0 _ PART_SIZE c.args.to c.args.self.now.tracks.fits c.requires

pub returns-then-len-to-clause-synced : goal.returns-then-len-to-clause-synced
returns-then-len-to-clause-synced c =
    let part = c.args.self.now in
    let fits : length part.synced.items ≤ PART_SIZE =
    omega (arith, part.tracks.fits, part.tracks.synced_size) in
    ap (λ xs. padded xs PART_SIZE 0) c.extend-then-len-to.ensures.items
    ∙ padded-reach 0 _ PART_SIZE c.args.to fits c.requires

pub returns-then-len-to-clause-written : goal.returns-then-len-to-clause-written
returns-then-len-to-clause-written c =
    let part = c.args.self.now in
    let fits : length part.written ≤ PART_SIZE =
    omega (arith, part.tracks.fits, part.tracks.written_size) in
    ap (λ xs. padded xs PART_SIZE false) c.extend-then-len-to-2.ensures
    ∙ padded-reach false _ PART_SIZE c.args.to fits c.requires
