use Rattle.std.proofs.Common.{◌∙◌, ◌++◌, List, Option, Some, ap}
use Rattle.kt_history.specs.declared.changes.Delta.{Delta}
use Rattle.kt_history.specs.Rows.{Row}
use Rattle.kt_history.specs.Stores.{Steps, after_steps}
use Rattle.kt_histlaws.specs.Disks.{back}
use Rattle.kt_baseset.specs.Tables.{cells_in}
use Rattle.kt_rowfiles.specs.Files.{records_for, records_in, rising, falling}
use Rattle.kt_rowfiles.specs.Reading.{steps_in}
use Rattle.kt_rowfiles.specs.Taking.{spanned, led_in}
use Rattle.kt_diskrowset.specs.declared.files.FileHeld.{FileHeld}
use Rattle.kt_diskrowset.specs.Files.{lists_of}
use Rattle.kt_diskrowset.specs.Data.{files_in, fresh_in}
use Rattle.kt_diskrowset.proofs.TakenRows.{row_taken, steps_taken}
use Rattle.kt_diskrowset.proofs.data.RowSetData.take_row.Goals as goal

pub returns-clause-row : goal.returns-clause-row
returns-clause-row c = λ q at.
    let self = c.args.self.now in
    let n = c.args.ordinal in
    let mark = c.args.span.mark in
    let base : Option Row = Some c.in_ok-row.field-0 in
    row_taken (files_in self) (fresh_in self) c.args.span q (n, cells_in self.base.set.value.rows n) c.requires.lead at base c.take_undos.new.row c.take_redos.new.row c.take_records.new.row
    (ap Some c.in_ok-row.ensures)
    (c.in_ok-take_undos.ensures.row ∙ ap (λ (fs : List FileHeld). back mark (falling (records_in n (lists_of fs))) base) c.as_slice.ensures)
    (c.in_ok-take_redos.ensures.row ∙ ap (λ (fs : List FileHeld). after_steps mark (rising (records_in n (lists_of fs))) c.take_undos.new.row) c.as_slice-2.ensures)
    (c.in_ok-take_records.ensures.row ∙ ap (λ (s : Steps). after_steps mark s c.take_redos.new.row) (c.changes_of.ensures ∙ ap (λ (ds : List Delta). records_for n ds) c.as_slice-3.ensures))

pub returns-clause-steps : goal.returns-clause-steps
returns-clause-steps c = λ q at.
    let self = c.args.self.now in
    let n = c.args.ordinal in
    let span = c.args.span in
    let base : Option Row = Some c.in_ok-row.field-0 in
    steps_taken (files_in self) (fresh_in self) span q (n, cells_in self.base.set.value.rows n) c.requires.lead at base (steps_in c.args.steps.now.items) (steps_in c.take_undos.new.steps.items) (steps_in c.take_redos.new.steps.items) (steps_in c.take_records.new.steps.items)
    (ap Some c.in_ok-row.ensures)
    (c.in_ok-take_undos.ensures.steps ∙ ap (λ (fs : List FileHeld). steps_in c.args.steps.now.items ++ led_in span (falling (records_in n (lists_of fs))) base) c.as_slice.ensures)
    (c.in_ok-take_redos.ensures.steps ∙ ap (λ (fs : List FileHeld). steps_in c.take_undos.new.steps.items ++ spanned span (rising (records_in n (lists_of fs)))) c.as_slice-2.ensures)
    (c.in_ok-take_records.ensures.steps ∙ ap (λ (s : Steps). steps_in c.take_redos.new.steps.items ++ spanned span s) (c.changes_of.ensures ∙ ap (λ (ds : List Delta). records_for n ds) c.as_slice-3.ensures))
