use Rattle.std.proofs.Common.{◌<◌, ◌∙◌, ◌++◌, ◌∷◌, [], List, length, map, take, get_or, sym, ap, arith}
use Rattle.std.proofs.lemmas.List.{take_all, take_more, map_push}
use Rattle.kt_super.specs.declared.meta.FileRef.{FileRef}
use Rattle.kt_diskrowset.specs.declared.files.FileHeld.{FileHeld}
use Rattle.kt_outputs.specs.Outputs.{delta_ref}
use Rattle.kt_outputs.proofs.outputs.refs_of.Goals as goal

pub files-preserved : goal.files-preserved
files-preserved c =
    let files : List FileHeld = c.args.files.now in
    let k = c.files.held-index in
    let x = c.held-item.result in
    let lt : k < length files = c.files-test.true in
    record {
      long = (let a = c.push_reserved.ensures.len in let b = c.files.invariant.long in omega arith);
      room = (let a = c.push_reserved.ensures.capacity in let b = c.files.invariant.room in omega arith);
      refs = c.push_reserved.ensures.items ∙ ap (λ (l : List FileRef). l ++ delta_ref x ∷ []) c.files.invariant.refs ∙ ap (λ (f : FileHeld). map delta_ref (take k files) ++ delta_ref f ∷ []) c.held-item.is
          ∙ sym (ap (map delta_ref) (take_more files k x lt) ∙ map_push delta_ref (take k files) (get_or files k x));
    }

pub returns : goal.returns
returns c = c.of.ensures ∙ c.files.invariant.refs ∙ ap (map delta_ref) (take_all c.files.held-index c.args.files.now (omega arith))
