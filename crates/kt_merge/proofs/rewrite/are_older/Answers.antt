use Rattle.std.proofs.Common.{List}
use Rattle.std.proofs.lemmas.Bool.{OnTrue_at}
use Rattle.kt_history.specs.Stores.{Under}
use Rattle.kt_rowfiles.specs.Files.{records_for, records_in}
use Rattle.kt_diskrowset.specs.declared.files.FileHeld.{FileHeld}
use Rattle.kt_diskrowset.specs.Files.{lists_of}
use Rattle.kt_merge.proofs.InTurn.{in_turn, at_end, under_both}
use Rattle.kt_merge.proofs.rewrite.are_older.Goals as goal

pub files-preserved : goal.files-preserved
files-preserved c =
    let P : List FileHeld → Type 0 = λ fs. Under c.args.ts (records_in c.args.ordinal (lists_of fs)) in
    in_turn P c.args.files.now c.files.file-index c.file-item.result (P c.args.files.now) c.files-test.true c.file-item.is
    (λ rest h. under_both c.args.ts (records_for c.args.ordinal c.file-item.result.deltas.value.list) (records_in c.args.ordinal (lists_of rest)) (OnTrue_at c.if-not-is_older.false c.is_older.ensures) h) c.files.invariant

pub returns : goal.returns
returns c =
    let P : List FileHeld → Type 0 = λ fs. Under c.args.ts (records_in c.args.ordinal (lists_of fs)) in
    at_end P c.args.files.now c.files.file-index (P c.args.files.now) c.files-test.false tt c.files.invariant
