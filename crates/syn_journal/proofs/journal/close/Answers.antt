use Rattle.std.proofs.Common.{◌≡◌, ◌∙◌, ◌+◌, ◌==◌, [], ◌∷◌, length, get_or, false, List, ℕ, ap, sym}
use Rattle.std.proofs.Common.{arith}
use Rattle.std.proofs.lemmas.Result.{on_ok_weaker}
use Rattle.syn_disk.specs.Disk.{overwritten}
use Rattle.syn_disk.specs.declared.disk.TheConstants.{DISK_SIZE}
use Rattle.syn_journal.specs.declared.half.Half.{Half}
use Rattle.syn_journal.specs.Layout.{is_open, open_gate, start_of}
use Rattle.syn_journal.proofs.Meanings.{within_disk}
use Rattle.syn_journal.proofs.Parts.{overwritten-in}
use Rattle.syn_journal.proofs.Calls.{one_up_to}
use Rattle.syn_journal.proofs.journal.close.Goals as goal

now_closed : (old new : List ℕ) (half : Half) → length old ≡ DISK_SIZE →
    new ≡ overwritten old (start_of half) (0 ∷ []) → is_open new half ≡ false
now_closed old new half size written =
    let same : start_of half + 0 ≡ start_of half = omega arith in
    let room = within_disk half (length old) size in
    ap (λ byte. byte == open_gate) (ap (λ k. get_or new k 0) (sym same)
    ∙ ap (λ (l : List ℕ). get_or l (start_of half + 0) 0) written
    ∙ overwritten-in old (start_of half) (0 ∷ []) (omega (arith, room)) 0 (omega arith))

pub returns-clause-closed : goal.returns-clause-closed
returns-clause-closed g c =
    let disk = c.args.disk.now in
    let size : length (g.D.Disk.seen disk) ≡ DISK_SIZE =
    g.met.D.Disk.whole disk _ _ (g.met.D.Disk.counts_now disk (g.D.Disk.moment disk) _
    (omega arith) (g.met.D.Disk.seen_may_stay disk)) in
    let written = rw c.start.ensures at c.write.ensures.written in
    on_ok_weaker c.write.result (λ is. now_closed _ _ c.args.half size is) written

pub returns-clause-calls : goal.returns-clause-calls
returns-clause-calls g c =
    one_up_to c.write.result (g.D.Disk.arms c.args.disk.now)
    (g.D.Disk.arms c.write.new.self) c.write.ensures.allowed c.write.ensures.arms
