use Rattle.std.proofs.Common.{◌∙◌, List, ap, arith}
use Rattle.std.proofs.lemmas.List.{take_all}
use Rattle.kt_rowfiles.specs.Files.{records_in}
use Rattle.kt_diskrowset.specs.declared.data.RowSetData.{RowSetData}
use Rattle.kt_diskrowset.specs.declared.files.FileHeld.{FileHeld}
use Rattle.kt_diskrowset.specs.Files.{lists_of}
use Rattle.kt_merge.specs.Late.{fresh_above, fresh_in_all}
use Rattle.kt_merge.proofs.LateMoved.{files_more}
use Rattle.kt_merge.proofs.late.late_files.Goals as goal

pub inputs-preserved : goal.inputs-preserved
inputs-preserved c = record {
  long = (let a = c.push_reserved.ensures.len in let b = c.inputs.invariant.long in omega arith);
  room = (let a = c.push_reserved.ensures.capacity in let b = c.inputs.invariant.room in omega arith);
  told = λ q found there.
      files_more found.0 (fresh_above c.args.bound q) c.args.inputs.now c.inputs.input-index c.input-item.result c.inputs.files.items c.push_reserved.new.self.items c.in_ok-late_file.field-0
      c.inputs-test.true c.input-item.is c.push_reserved.ensures.items (c.in_ok-late_file.ensures q found there) (c.inputs.invariant.told q found there);
}

pub returns : goal.returns
returns c = λ q found there.
    ap (λ (l : List FileHeld). records_in found.0 (lists_of l)) c.of.ensures ∙ c.inputs.invariant.told q found there
    ∙ ap (λ (l : List RowSetData). fresh_in_all c.args.bound q l) (take_all c.inputs.input-index c.args.inputs.now c.inputs-test.false)
