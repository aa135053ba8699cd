use Rattle.kt_diskrowset.proofs.Plain.{start_first, own_between}
use Rattle.kt_diskrowset.proofs.fresh.changes_of.Goals as goal

pub slice_bounds-result-count : goal.slice_bounds-result-count
slice_bounds-result-count c = start_first c.args.ordinal c.args.changes.now c.count_before-start.result c.count_upto-end.result c.count_before-start.ensures.bound c.count_upto-end.ensures.bound c.count_before-start.ensures.parts c.count_upto-end.ensures.parts

pub slice_bounds-result-start : goal.slice_bounds-result-start
slice_bounds-result-start c = start_first c.args.ordinal c.args.changes.now c.count_before-start.result c.count_upto-end.result c.count_before-start.ensures.bound c.count_upto-end.ensures.bound c.count_before-start.ensures.parts c.count_upto-end.ensures.parts

pub returns : goal.returns
returns c = own_between c.args.ordinal c.args.changes.now c.count_before-start.result c.count_upto-end.result c.count_before-start.ensures.bound c.count_upto-end.ensures.bound c.count_before-start.ensures.parts c.count_upto-end.ensures.parts
