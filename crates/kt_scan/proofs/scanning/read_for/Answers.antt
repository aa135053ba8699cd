use Rattle.std.proofs.Common.{sym, ap, ◌∙◌, map}
use Rattle.kt_base.specs.Borrowed.{cell_in}
use Rattle.kt_base.specs.Keys.{key_cells}
use Rattle.kt_scan.proofs.Named.{cut_read, cut_unread}
use Rattle.kt_scan.proofs.scanning.read_for.Goals as goal

pub returns-then-not-asked : goal.returns-then-not-asked
returns-then-not-asked c = λ _ others. cut_unread c.args.asked.now.schema.now c.args.asked.now.scan.now c.args.key.now _ others (sym c.args.asked.now.tells ∙ c.if-not-asked.true)

pub returns : goal.returns
returns c = λ read others. cut_read c.args.asked.now.schema.now c.args.asked.now.scan.now c.args.key.now (map cell_in c.read_plain.new.cells.items) others
    (c.in_ok-lie.ensures read ∙ ap (λ kinds. key_cells kinds c.args.key.now) c.key_kinds.ensures)
