use Rattle.std.proofs.Common.{[], Some, ap, arith}
use Rattle.kt_script.specs.Pieces.{cut, words_in}
use Rattle.kt_script.specs.Scans.{tests_in}
use Rattle.kt_script.proofs.Preds.{scan_made}
use Rattle.kt_script.proofs.Selections.{names_low}
use Rattle.kt_script.proofs.scans.read_selected.Goals as goal

pub returns-in-Ok-Some : goal.returns-in-Ok-Some
returns-in-Ok-Some c =
    let columns = c.args.columns.now in
    let names = cut 44 c.args.names.now in
    let low = names_low columns [] names in
    scan_made columns c.args.at (Some names) (tests_in (words_in c.args.rest)) (Some c.in-Ok.ids) c.in-Ok-Some.preds c.read_names.new.no c.read_tests.new.no c.make_scan.result (rw c.in-Ok-Some.field-0-is at c.in-Ok-Some.ensures)
    (omega (arith, c.in-Ok.ensures.least, c.none-no.ensures, low)) (omega (arith, c.in-Ok.ensures.least, c.none-no.ensures)) (λ e. ap Some (c.in-Ok.ensures.ids e)) c.make_scan.ensures
