use Rattle.std.proofs.Common.{◌∙◌, List, ap, arith}
use Rattle.std.specs.List.{flat_map}
use Rattle.std.proofs.lemmas.List.{take_all}
use Rattle.kt_history.specs.declared.changes.KeyChange.{KeyChange}
use Rattle.kt_histlaws.specs.Fitting.{steps_above}
use Rattle.kt_rowfiles.specs.Files.{records_in}
use Rattle.kt_diskrowset.specs.declared.files.FileHeld.{FileHeld}
use Rattle.kt_diskrowset.specs.Files.{lists_of}
use Rattle.kt_merge.specs.Changes.{steps_of}
use Rattle.kt_merge.proofs.LateMoved.{files_more}
use Rattle.kt_merge.proofs.LatePlaced.{all_lists}
use Rattle.kt_merge.proofs.placing.files_of.Goals as goal

pub lists-preserved : goal.lists-preserved
lists-preserved c = record {
  long = (let a = c.push_reserved.ensures.len in let b = c.lists.invariant.long in omega arith);
  room = (let a = c.push_reserved.ensures.capacity in let b = c.lists.invariant.room in omega arith);
  told = λ q found there.
      files_more found.0 (λ (l : List KeyChange). steps_above c.args.bound (steps_of q l)) c.args.lists.now c.lists.changes-index c.changes-item.result c.lists.files.items c.push_reserved.new.self.items c.in_ok-file_of.field-0
      c.lists-test.true c.changes-item.is c.push_reserved.ensures.items (c.in_ok-file_of.ensures q found there) (c.lists.invariant.told q found there);
}

pub returns : goal.returns
returns c = λ q found there.
    ap (λ (l : List FileHeld). records_in found.0 (lists_of l)) c.of.ensures ∙ c.lists.invariant.told q found there
    ∙ ap (λ (l : List (List KeyChange)). flat_map (λ (x : List KeyChange). steps_above c.args.bound (steps_of q x)) l) (take_all c.lists.changes-index c.args.lists.now c.lists-test.false)
    ∙ all_lists c.args.bound q c.args.lists.now
