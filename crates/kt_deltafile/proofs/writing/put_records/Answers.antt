use Rattle.std.proofs.Common.{◌^◌, ◌∙◌, [], sym, subst}
use Rattle.kt_history.specs.declared.changes.Delta.{Delta}
use Rattle.kt_cells.proofs.Items.{each_at}
use Rattle.kt_deltafile.specs.Rules.{ChangeFits, Follows}
use Rattle.kt_deltafile.specs.Spelling.{record_bytes}
use Rattle.kt_deltafile.proofs.Files.{one_more}
use Rattle.kt_deltafile.proofs.writing.put_records.Goals as goal

pub put_record-requires : goal.put_record-requires
put_record-requires c = subst (λ (d : Delta). ChangeFits c.args.way d.change) (sym c.one-item.is) (each_at (Follows c.args.way (2 ^ 32)) c.args.records.now [] c.records.one-index c.one-item.result c.requires c.records-test.true).change

pub records-preserved : goal.records-preserved
records-preserved c = (c.in_ok-put_record.ensures.front ∙ c.records.invariant.0, one_more record_bytes c.args.records.now c.records.one-index c.one-item.result c.args.out.now.added c.records.out.added c.put_record.new.out.added c.records-test.true c.one-item.is c.records.invariant.1 c.in_ok-put_record.ensures.ok)
