use Rattle.std.specs.FinMap.{len}
use Rattle.syn_model.specs.Refusal.{Memory}
use Rattle.syn_scan.specs.Refusals.{refusal_of}
use Rattle.std.proofs.lemmas.List.{length-map}
use Rattle.std.proofs.Common.{◌+◌, ◌≡◌, ◌⊎◌, Some, sym, ap, subst, ◌∙◌}
use Rattle.syn_machine.specs.Session.{fault_of}
use Rattle.syn_machine.specs.Side.{ListAt, Listed, NotDir}
use Rattle.syn_message.specs.Replies.{reply_of, IsLawfulReply}
use Rattle.syn_scan.specs.Asked.{contents_in, ListsOnly}
use Rattle.syn_scan.specs.Found.{Found}
use Rattle.syn_session.specs.Scanning.{IsFoundIn, found_of, with_listing_answered}
use Rattle.syn_session.proofs.ScanningLemmas.{found_with_listing, found_no_directory, no_fault}
use Rattle.syn_session.proofs.ScanningLemmas.{rise, refused_so}
use Rattle.syn_session.proofs.side_scan.SideScan.take.Goals as goal

pub returns-in-Ok-clause-step : goal.returns-in-Ok-clause-step
returns-in-Ok-clause-step c =
    let found = found_of c.args.self.now in
    let path = c.args.path.now in
    let es = contents_in c.in-Listed.entries.items in
    let reply = ap reply_of c.in-Listed.is in
    λ side taken number waits f. (
      ap (fault_of taken side (ListAt path)) reply ∙ no_fault found side taken f number path
          c.in-Listed.position es c.in-Ok.ensures.small c.in-Ok.ensures.belongs.fits,
      subst (λ r. IsFoundIn c.take.new.self.found side
          (with_listing_answered taken side number path r)) (sym reply)
          (subst (λ (n : Found). IsFoundIn n side (with_listing_answered taken side number path
          (Listed c.in-Listed.position es))) (sym c.in-Ok.ensures.found)
          (found_with_listing found side taken f number path c.in-Listed.position es
          (subst (ListsOnly found path c.in-Listed.position es)
          c.in-Ok.ensures.found c.in-Ok.ensures.only)
          (ap (λ (n : Found). len n.marks) (sym c.in-Ok.ensures.found) ∙ (c.in-Ok.ensures.nodes
          ∙ ap (λ n. len found.marks + n) (sym (length-map c.in-Listed.entries.items _)))))),
    )

pub returns-in-Listed-clause-step : goal.returns-in-Listed-clause-step
returns-in-Listed-clause-step c =
    let found = found_of c.args.self.now in
    let path = c.args.path.now in
    let es = contents_in c.in-Listed.entries.items in
    let reply = ap reply_of c.in-Listed.is in
    λ side taken number waits f.
    let rising = rise es (subst IsLawfulReply reply c.requires.lawful).1.rising in
    let refused = refused_so found side taken f path c.in-Listed.position es c.in-Err.error
    c.in-Err.ensures.too_large
    (λ bad. let why = c.in-Err.ensures.bad bad in
    (why.0, λ fits. why.1 (record { is_out = waits; rising = rising; fits = fits }))) in
    subst (λ w. (w ≡ Memory)
    ⊎ (fault_of taken side (ListAt path) (reply_of c.args.reply) ≡ Some w))
    (sym c.refusal.ensures)
    (subst (λ r. (refusal_of c.in-Err.error ≡ Memory) ⊎ (fault_of taken side (ListAt path) r
    ≡ Some (refusal_of c.in-Err.error))) (sym reply) refused)

pub returns-in-Ok-not_dir-clause-step : goal.returns-in-Ok-not_dir-clause-step
returns-in-Ok-not_dir-clause-step c =
    let found = found_of c.args.self.now in
    let path = c.args.path.now in
    let reply = ap reply_of c.in-NotDir.is in
    λ side taken number waits f. (
      ap (fault_of taken side (ListAt path)) reply,
      subst (λ r. IsFoundIn c.not_dir.new.self.found side
          (with_listing_answered taken side number path r)) (sym reply)
          (subst (λ (n : Found). IsFoundIn n side (with_listing_answered taken side number path
          (NotDir c.in-NotDir.position))) (sym c.in-Ok-not_dir.ensures.found)
          (found_no_directory found side taken f number path c.in-NotDir.position)),
    )
