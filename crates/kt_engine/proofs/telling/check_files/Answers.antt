use Rattle.std.proofs.Common.{◌∙◌, ap, subst, arith}
use Rattle.std.specs.List.{AllByRecursion}
use Rattle.std.proofs.lemmas.List.{take_all}
use Rattle.kt_joblaws.specs.Compacts.{AreRecordsOf}
use Rattle.kt_engine.proofs.Entries.{FileIsOf, all_more, files_are_of}
use Rattle.kt_engine.proofs.telling.check_files.Goals as goal

pub files-preserved : goal.files-preserved
files-preserved c =
    all_more (FileIsOf c.args.columns.now) c.args.files.now c.files.file-index c.file-item.result c.files-test.true c.file-item.is c.files.invariant
    (subst (AreRecordsOf c.args.columns.now) (c.as_slice.ensures ∙ c.list.ensures.list ∙ ap (λ f. f.list) c.deref.ensures) c.in_ok-check_records.ensures)

pub returns : goal.returns
returns c = files_are_of c.args.columns.now c.args.files.now (subst (AllByRecursion (FileIsOf c.args.columns.now)) (take_all c.files.file-index c.args.files.now (omega arith)) c.files.invariant)
