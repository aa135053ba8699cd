use Rattle.std.proofs.Common.{◌-◌, ◌∙◌, List, ap, take, drop}
use Rattle.kt_history.specs.declared.changes.Delta.{Delta}
use Rattle.kt_rowfiles.specs.Reading.{steps_in}
use Rattle.kt_diskrowset.proofs.OneRow.{own_are}
use Rattle.kt_merge.proofs.rewrite.row_of.Goals as goal

pub returns : goal.returns
returns c =
    let place = c.of_row-start in
    ap (λ (xs : List Delta). steps_in (take (place.result.1 - place.result.0) (drop place.result.0 xs))) (c.as_slice.ensures ∙ c.list.ensures.list)
    ∙ own_are c.args.ordinal c.args.file.now.list place.result.0 place.result.1 place.ensures.within.0 place.ensures.within.1 place.ensures.before place.ensures.here place.ensures.behind
