use Rattle.std.proofs.Common.{◌≡◌, ◌<◌, length, sym, ap, ◌∙◌, arith}
use Rattle.std.proofs.lemmas.Grind.{common_steps}
use Rattle.std.proofs.lemmas.List.{length-drop}
use Rattle.kt_column.specs.Blocks.{BlockValue}
use Rattle.kt_column.proofs.Columns.{each_front, cut_start, cut_more, cut_room, cut_end}
use Rattle.kt_column.proofs.column.fill.Goals as goal

pub loop-rest-init : goal.loop-rest-init
loop-rest-init c = cut_start c.args.form c.args.cells.now c.args.column.now c.requires.none

pub build-requires : goal.build-requires
build-requires c = each_front c.args.form c.args.cells.now c.loop-rest.column.cells c.loop-rest.rest.now c.split_at.result.0.now c.min.result c.requires.each c.loop-rest.invariant.parts c.split_at.ensures.front c.min.ensures

pub push-requires-clause-form : goal.push-requires-clause-form
push-requires-clause-form c = ap (λ (b : BlockValue). b.form) c.in-Ok.ensures ∙ sym c.loop-rest.invariant.is

pub push-requires-clause-full : goal.push-requires-clause-full
push-requires-clause-full c =
    let some : 0 < length c.loop-rest.rest.now = grind (arith, common_steps) in
    c.loop-rest.invariant.full some

pub push-requires-clause-room : goal.push-requires-clause-room
push-requires-clause-room c =
    cut_room c.args.form c.args.cells.now c.loop-rest.column c.in-Ok.value c.loop-rest.rest.now c.split_at.result.0.now c.min.result c.loop-rest.invariant c.requires.few c.min.ensures c.split_at.ensures.front c.in-Ok.ensures

pub loop-rest-smaller : goal.loop-rest-smaller
loop-rest-smaller c =
    let some : 0 < length c.loop-rest.rest.now = grind (arith, common_steps) in
    let left = ap length c.split_at.ensures.back in
    omega (arith, left, some, c.min.ensures, length-drop c.min.result c.loop-rest.rest.now)

pub loop-rest-preserved : goal.loop-rest-preserved
loop-rest-preserved c =
    let some : 0 < length c.loop-rest.rest.now = grind (arith, common_steps) in
    cut_more c.args.form c.args.cells.now c.loop-rest.column c.push.new.self c.in-Ok.value c.loop-rest.rest.now c.split_at.result.0.now c.split_at.result.1.now c.min.result c.loop-rest.invariant some c.min.ensures c.split_at.ensures.front c.split_at.ensures.back c.in-Ok.ensures c.in-Ok-push.ensures

pub returns : goal.returns
returns c =
    let none : length c.loop-rest.rest.now ≡ 0 = grind (arith, common_steps) in
    cut_end c.args.form c.args.cells.now c.loop-rest.column c.loop-rest.rest.now c.loop-rest.invariant none
