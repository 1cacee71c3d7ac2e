use Rattle.std.proofs.lemmas.Result.{IfOk-weaker}
use Rattle.syn_machine.specs.Session.{IsShown}
use Rattle.syn_scan.specs.Found.{IsShownIn}
use Rattle.syn_session.specs.Scanning.{found_of}
use Rattle.syn_session.proofs.ScanningLemmas.{shown_to, each_some}
use Rattle.syn_session.proofs.side_scan.SideScan.next.Goals as goal

pub returns-clause-shown : goal.returns-clause-shown
returns-clause-shown c side taken f =
    IfOk-weaker c.next_request.result _ _
    (each_some (IsShownIn (found_of c.args.self.now)) (IsShown taken side)
    (λ path. shown_to (found_of c.args.self.now) side taken path f))
    c.next_request.ensures.shown
