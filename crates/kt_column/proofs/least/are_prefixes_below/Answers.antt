use Rattle.std.proofs.Common.{◌≡◌, ◌+◌, ◌-◌, [], length, get_or, ap, sym, ◌∙◌, arith}
use Rattle.kt_front.proofs.Cells.{spelling_nil}
use Rattle.kt_column.proofs.Sizes.{prefix_more, cell_most}
use Rattle.kt_column.proofs.ShortestHeld.{front_less}
use Rattle.kt_column.proofs.least.are_prefixes_below.Goals as goal

pub loop-i-init : goal.loop-i-init
loop-i-init c = record { so_far = ap length (sym spelling_nil); before = λ no. absurd (omega arith); most = omega arith }

pub overflow_add-len : goal.overflow_add-len
overflow_add-len c =
    let most = cell_most c.args.items.now c.loop-i.i c.loop-i.before.now (omega arith) c.requires.small in
    let one = rw c.item-text.ensures at c.cell_len-len.ensures in
    omega (arith, most, one, c.loop-i.invariant.most, c.requires.few)

pub loop-i-preserved : goal.loop-i-preserved
loop-i-preserved c =
    let at : (c.loop-i.i + 1) - 1 ≡ c.loop-i.i = omega arith in
    let most = cell_most c.args.items.now c.loop-i.i c.loop-i.before.now (omega arith) c.requires.small in
    let one = rw c.item-text.ensures at c.cell_len-len.ensures in
    record {
      so_far = omega (arith, one, c.loop-i.invariant.so_far, prefix_more c.args.items.now c.loop-i.i c.loop-i.before.now (omega arith) c.loop-i.invariant.before);
      before = λ some. c.item-text.ensures ∙ ap (λ k. get_or c.args.items.now k []) (sym at);
      most = omega (arith, most, one, c.loop-i.invariant.most);
    }

pub returns-then-len-bound-clause-no : goal.returns-then-len-bound-clause-no
returns-then-len-bound-clause-no c =
    let one = rw c.item-text.ensures at c.cell_len-len.ensures in
    omega (arith, one, c.if-len-bound.true, c.loop-i.invariant.so_far, prefix_more c.args.items.now c.loop-i.i c.loop-i.before.now (omega arith) c.loop-i.invariant.before, front_less c.args.items.now (c.loop-i.i + 1) (omega arith))
