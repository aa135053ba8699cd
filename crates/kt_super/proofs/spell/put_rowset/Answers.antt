use Rattle.std.proofs.Common.{◌≡◌, ◌++◌, List, ◌∙◌, ap, subst}
use Rattle.std.specs.Prelude.{OnOk}
use Rattle.kt_super.specs.declared.meta.FileRef.{FileRef}
use Rattle.kt_super.specs.Rowsets.{spelled_files}
use Rattle.kt_super.proofs.Appends.{joined_ok}
use Rattle.kt_super.proofs.spell.put_rowset.Goals as goal

pub returns : goal.returns
returns c =
    let r = c.put_files-2.result in
    let last = c.put_files-2.new.out in
    let undo = c.in-Ok-put_files.ensures ∙ ap (λ (f : List FileRef). c.put_file.new.out ++ spelled_files f) c.as_slice.ensures in
    let redo = subst (λ (f : List FileRef). OnOk r (last ≡ c.put_files.new.out ++ spelled_files f)) c.as_slice-2.ensures c.put_files-2.ensures in
    let four = joined_ok r c.put_file.new.out c.put_files.new.out last _ _ undo redo in
    let three = joined_ok r c.put_u64-2.new.out c.put_file.new.out last _ _ c.in-Ok-put_file.ensures four in
    let two = joined_ok r c.put_u64.new.out c.put_u64-2.new.out last _ _ c.in-Ok-put_u64.ensures three in
    joined_ok r c.args.out.now c.put_u64.new.out last _ _ c.in-Ok.ensures two
