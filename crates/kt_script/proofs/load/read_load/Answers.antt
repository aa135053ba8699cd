use Rattle.std.proofs.Common.{◌≡◌, ◌+◌, ◌∙◌, length, false, true, Ok, Err, ap, subst, sym}
use Rattle.std.specs.Prelude.{◌&&◌}
use Rattle.std.proofs.lemmas.Result.{err_from_is_err_and}
use Rattle.kt_script.specs.Pieces.{words_in}
use Rattle.kt_script.specs.Loads.{is_load_table, load_number, may_load}
use Rattle.kt_script.specs.Scripts.{at}
use Rattle.kt_script.specs.Fit.{IsLoadRead}
use Rattle.kt_script.proofs.LoadLines.{load_no_line, load_read, load_fault}
use Rattle.kt_script.proofs.load.read_load.Goals as goal

pub returns-in_default : goal.returns-in_default
returns-in_default c =
    let off = subst (λ cs. (may_load (load_number (words_in c.args.line.now.rest)) && is_load_table cs) ≡ false) c.columns-2.ensures.value c.in_default.ensures in
    λ text t none. load_no_line c.args.schema.now text c.args.line.now (length c.args.schema.now + 2) t c.requires.key none off ∙ ap (λ cs. at (length cs + 2) 12) (sym c.columns.ensures.value)

pub returns-in_err-check_end : goal.returns-in_err-check_end
returns-in_err-check_end c =
    let taken = c.in-Some.ensures in
    let table = subst (λ cs. is_load_table cs ≡ true) c.columns-2.ensures.value taken.0 in
    let p = err_from_is_err_and c.from_residual.result c.from_residual.ensures.1 in
    λ text t none. rw (p.1, p.2) (subst (λ cs. IsLoadRead c.args.schema.now (length cs + 2) text (Err c.in_err-check_end.field-0.0)) c.columns.ensures.value
    (load_fault c.args.schema.now text c.args.line.now (length c.columns.result.now + 2) t c.requires.key none c.in-Some.count table taken.1 taken.2 taken.3 c.in_err-check_end.field-0.0 c.in_err-check_end.ensures))

pub returns : goal.returns
returns c =
    let taken = c.in-Some.ensures in
    let table = subst (λ cs. is_load_table cs ≡ true) c.columns-2.ensures.value taken.0 in
    λ text t none. subst (λ cs. IsLoadRead c.args.schema.now (length cs + 2) text (Ok c.in-Some.count)) c.columns.ensures.value
    (load_read c.args.schema.now text c.args.line.now (length c.columns.result.now + 2) t c.requires.key none c.in-Some.count table taken.1 taken.2 taken.3 c.requires.table c.in_ok-check_end.ensures)
