use Rattle.std.proofs.Common.{◌≡◌, ◌++◌, [], subst, ap, ◌∙◌, List, ℕ, take, Ok}
use Rattle.std.proofs.lemmas.Result.{err_from_is_err_and}
use Rattle.kt_bytes.specs.Reading.{Fails}
use Rattle.kt_front.specs.Spelling.{base}
use Rattle.kt_front.specs.Walk.{items_at, behind_of, cell_at}
use Rattle.kt_front.proofs.Cells.{take-base}
use Rattle.kt_front.proofs.Loop.{goes_on, ends, is_done}
use Rattle.kt_front.proofs.reading.pass_items.Goals as goal

pub returns-in_err-cell : goal.returns-in_err-cell
returns-in_err-cell c =
    let p = err_from_is_err_and c.from_residual.result c.from_residual.ensures.1 in
    let b : base c.loop-i.i c.as_slice.result.now ≡ base c.loop-i.i c.loop-i.item = ap (base c.loop-i.i) c.as_slice.ensures in
    let stopped : Fails c.in_err-cell.field-0.0 (cell_at c.args.most (base c.loop-i.i c.loop-i.item) c.loop-i.rest.now) = subst (λ (w : List ℕ). Fails c.in_err-cell.field-0.0 (cell_at c.args.most w c.loop-i.rest.now)) (c.base_of.ensures ∙ b) c.in_err-cell.ensures.read in
    rw (p.1, p.2) (ends c.in_err-cell.field-0.0 c.args.most c.args.n c.loop-i.i c.loop-i.item c.loop-i.rest.now (behind_of (items_at c.args.most c.args.n 0 [] c.args.bytes.now)) c.loop-i-test.true stopped c.loop-i.invariant)

pub loop-i-preserved : goal.loop-i-preserved
loop-i-preserved c =
    let before : List ℕ = c.loop-i.item in
    let cell = c.in_ok-cell.cell in
    let item : List ℕ = take cell.shared before ++ cell.rest.now in
    let w : c.base_of.result.now ≡ base c.loop-i.i before = c.base_of.ensures ∙ ap (base c.loop-i.i) c.as_slice.ensures in
    let same : take cell.shared c.base_of.result.now ≡ take cell.shared before = ap (take cell.shared) w ∙ take-base cell.shared c.loop-i.i before (rw w at c.in_ok-cell.ensures.there) in
    let read : cell_at c.args.most (base c.loop-i.i before) c.loop-i.rest.now ≡ Ok (item, cell.after.now) = rw (← w) (c.in_ok-cell.ensures.read ∙ ap (λ (front : List ℕ). Ok (front ++ cell.rest.now, cell.after.now)) same) in
    let go = goes_on c.args.most c.args.n c.loop-i.i before c.loop-i.rest.now item cell.after.now (behind_of (items_at c.args.most c.args.n 0 [] c.args.bytes.now)) c.loop-i-test.true read c.loop-i.invariant in
    let new : c.extend.new.self ≡ item = c.in_ok-extend.ensures.ok ∙ ap (λ (t : List ℕ). t ++ cell.rest.now) c.truncate.ensures in
    rw new go

pub returns : goal.returns
returns c = is_done c.args.most c.args.n c.loop-i.i c.loop-i.item c.loop-i.rest.now (behind_of (items_at c.args.most c.args.n 0 [] c.args.bytes.now)) c.loop-i-test.false c.loop-i.invariant
