use Rattle.std.proofs.Common.{◌≡◌, ◌∙◌, OnOk, IfErr, ◌≢◌, inl, inr, sym, ap, ap₂, subst}
use Rattle.std.proofs.lemmas.Result.{err_from_is_err_and, on_ok_weaker}
use Rattle.syn_model.specs.Contents.{contents_with}
use Rattle.syn_model.specs.Tree.{Directory, File}
use Rattle.syn_tree.specs.Contents.{found_content}
use Rattle.syn_tree.specs.Modes.{mode_of}
use Rattle.syn_tree.specs.Refusals.{refusal_of}
use Rattle.syn_tree.specs.declared.error.TreeError.TheVariants.{Memory}
use Rattle.syn_change.specs.Changes.{ChangesMode, GoesOn, IsNeededFor, IsRefusedAmong, PutsBytes}
use Rattle.syn_change.proofs.GoingLemmas.{goes_twice, refused_after, refused_weaker}
use Rattle.syn_change.proofs.NeedLemmas.{mode_needed, put_and_mode}
use Rattle.syn_change.proofs.OverlayLemmas.{file_placed}
use Rattle.syn_change.proofs.ResultLemmas.{both_ok}
use Rattle.syn_change.proofs.additions.put_pair.Goals as goal

pub returns-in_ok-put_bytes-in-File-clause-placed :
    goal.returns-in_ok-put_bytes-in-File-clause-placed
returns-in_ok-put_bytes-in-File-clause-placed c =
    let path = c.in_ok-path.path in
    let file = File (contents_with (mode_of c.in-File.mode) c.in-File.bytes.now) in
    let same : (path, file) ≡ c.args.pair.now = ap₂ (λ p d. (p, d)) c.in_ok-path.ensures
    (ap found_content (sym c.in-File.is) ∙ c.found.ensures) in
    both_ok c.set_mode.result
    (λ there elsewhere. file_placed c.args.work.now c.put_bytes.new.work c.set_mode.new.work path
    file c.args.pair.now same c.in_ok-put_bytes-in-File.ensures.elsewhere there elsewhere)
    (c.set_mode.ensures.there c.in-File.bytes.now c.in_ok-put_bytes-in-File.ensures.there)
    c.set_mode.ensures.elsewhere

pub returns-in_ok-put_bytes-in-File-clause-edits : goal.returns-in_ok-put_bytes-in-File-clause-edits
returns-in_ok-put_bytes-in-File-clause-edits c =
    let t = c.args.work.now in
    let between = c.put_bytes.new.work in
    let path = c.in_ok-path.path in
    let bytes = c.in-File.bytes.now in
    let mode = mode_of c.in-File.mode in
    let file = File (contents_with mode bytes) in
    let same : (path, file) ≡ c.args.pair.now = ap₂ (λ p d. (p, d)) c.in_ok-path.ensures
    (ap found_content (sym c.in-File.is) ∙ c.found.ensures) in
    let put = c.in_ok-put_bytes-in-File.ensures in
    subst (λ pair. OnOk c.set_mode.result (GoesOn (IsNeededFor t pair) t c.args.edits.now.items
    c.set_mode.new.work c.set_mode.new.edits.items)) same (on_ok_weaker c.set_mode.result
    (λ on. goes_twice (PutsBytes t path bytes) (ChangesMode between path mode)
    (IsNeededFor t (path, file)) t between c.set_mode.new.work c.args.edits.now.items
    c.put_bytes.new.edits.items c.set_mode.new.edits.items (λ e is. inl is)
    (λ e is. inr (mode_needed t between path bytes mode e put.there put.mode is))
    (put_and_mode t between path path bytes mode) put.edits on) c.set_mode.ensures.edits)

pub returns-in_ok-put_bytes-in-File-clause-refused :
    goal.returns-in_ok-put_bytes-in-File-clause-refused
returns-in_ok-put_bytes-in-File-clause-refused c =
    let t = c.args.work.now in
    let between = c.put_bytes.new.work in
    let path = c.in_ok-path.path in
    let bytes = c.in-File.bytes.now in
    let mode = mode_of c.in-File.mode in
    let file = File (contents_with mode bytes) in
    let same : (path, file) ≡ c.args.pair.now = ap₂ (λ p d. (p, d)) c.in_ok-path.ensures
    (ap found_content (sym c.in-File.is) ∙ c.found.ensures) in
    let put = c.in_ok-put_bytes-in-File.ensures in
    subst (λ pair. IfErr c.set_mode.result (λ e. e ≢ Memory
    → IsRefusedAmong (IsNeededFor t pair) t (refusal_of e))) same
    (refused_after (PutsBytes t path bytes) (ChangesMode between path mode)
    (IsNeededFor t (path, file)) t between c.args.edits.now.items c.put_bytes.new.edits.items
    c.set_mode.result (λ e is. inl is)
    (λ e is. inr (mode_needed t between path bytes mode e put.there put.mode is)) put.edits
    c.set_mode.ensures.refused)

pub returns-in_err-put_bytes-in-File-clause-refused :
    goal.returns-in_err-put_bytes-in-File-clause-refused
returns-in_err-put_bytes-in-File-clause-refused c =
    let p = err_from_is_err_and c.from_residual-in_err-put_bytes-in-File.result
    c.from_residual-in_err-put_bytes-in-File.ensures.1 in
    let t = c.args.work.now in
    let path = c.in_ok-path.path in
    let bytes = c.in-File.bytes.now in
    let file = File (contents_with (mode_of c.in-File.mode) bytes) in
    let same : (path, file) ≡ c.args.pair.now = ap₂ (λ p d. (p, d)) c.in_ok-path.ensures
    (ap found_content (sym c.in-File.is) ∙ c.found.ensures) in
    rw (p.1, p.2) (λ other. subst (λ pair. IsRefusedAmong (IsNeededFor t pair) t
    (refusal_of c.in_err-put_bytes-in-File.field-0.0)) same
    (refused_weaker (PutsBytes t path bytes) (IsNeededFor t (path, file)) t
    (refusal_of c.in_err-put_bytes-in-File.field-0.0) (λ e is. inl is)
    (c.in_err-put_bytes-in-File.ensures.refused other)))

pub returns-in-Dir-clause-edits : goal.returns-in-Dir-clause-edits
returns-in-Dir-clause-edits c =
    let t = c.args.work.now in
    let path = c.in_ok-path.path in
    let same : (path, Directory) ≡ c.args.pair.now = ap₂ (λ p d. (p, d)) c.in_ok-path.ensures
    (ap found_content (sym c.in-Dir.is) ∙ c.found.ensures) in
    subst (λ pair. OnOk c.make_dir.result (GoesOn (IsNeededFor t pair) t c.args.edits.now.items
    c.make_dir.new.work c.make_dir.new.edits.items)) same c.make_dir.ensures.edits

pub returns-in-Dir-clause-refused : goal.returns-in-Dir-clause-refused
returns-in-Dir-clause-refused c =
    let t = c.args.work.now in
    let path = c.in_ok-path.path in
    let same : (path, Directory) ≡ c.args.pair.now = ap₂ (λ p d. (p, d)) c.in_ok-path.ensures
    (ap found_content (sym c.in-Dir.is) ∙ c.found.ensures) in
    subst (λ pair. IfErr c.make_dir.result (λ e. e ≢ Memory
    → IsRefusedAmong (IsNeededFor t pair) t (refusal_of e))) same c.make_dir.ensures.refused
