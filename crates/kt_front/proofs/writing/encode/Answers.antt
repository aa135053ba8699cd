use Rattle.std.proofs.Common.{◌≡◌, ◌+◌, ◌-◌, [], length, get_or, take, ap, sym, ◌∙◌, arith}
use Rattle.std.proofs.lemmas.List.{take_all}
use Rattle.std.proofs.lemmas.List.Sums.{get_or-le-sum_by}
use Rattle.kt_front.specs.Spelling.{spelling}
use Rattle.kt_front.proofs.Cells.{spelling_more, spelling_nil, fits_together}
use Rattle.kt_front.proofs.writing.encode.Goals as goal

pub loop-i-init : goal.loop-i-init
loop-i-init c = record { so_far = c.new-out.ensures.items ∙ sym spelling_nil; before = λ no. absurd (omega arith) }

pub loop-i-preserved : goal.loop-i-preserved
loop-i-preserved c =
    let at : (c.loop-i.i + 1) - 1 ≡ c.loop-i.i = omega arith in
    let next = spelling_more c.args.cells.now c.loop-i.i c.loop-i.before.now (omega arith) c.loop-i.invariant.before in
    record {
      so_far = c.in_ok-put_cell.ensures ∙ (rw (c.loop-i.invariant.so_far, c.get-item.ensures, c.base_of.ensures) (sym next));
      before = λ some. c.get-item.ensures ∙ ap (λ k. get_or c.args.cells.now k []) (sym at);
    }

pub returns-clause-ok : goal.returns-clause-ok
returns-clause-ok c =
    let all : take c.loop-i.i c.args.cells.now ≡ c.args.cells.now = take_all c.loop-i.i c.args.cells.now (omega arith) in
    (c.of.ensures ∙ (c.loop-i.invariant.so_far ∙ ap spelling all), fits_together c.args.cells.now c.requires)

pub put_cell-requires : goal.put_cell-requires
put_cell-requires c = omega (arith, get_or-le-sum_by length c.args.cells.now c.loop-i.i [] (omega arith), ap length c.get-item.ensures)
