use Rattle.std.proofs.Common.{arith, take, drop, refl, sym, ap, ◌∙◌}
use Rattle.std.proofs.lemmas.List.{take_all}
use Rattle.kt_pool.proofs.Writing.{wrote_piece, wrote_all, next_last}
use Rattle.kt_pool.proofs.cells.write.Goals as goal

pub loop-skip-preserved : goal.loop-skip-preserved
loop-skip-preserved c =
    let s = c.split_at.ensures in
    let r = c.loop-skip.rest.now in
    wrote_piece c.args.cells.now c.loop-skip.cells c.put.new.cells c.args.first c.args.at c.args.bytes.now r c.loop-skip.cell c.loop-skip.skip c.split_at.result.0.now c.loop-skip.invariant c.requires.chain c.put.ensures.kept c.put.ensures.others c.put.ensures.load (s.front ∙ ap (λ n. take n r) (sym s.front_len)) (omega arith) (omega arith) c.split_at.result.1.now (s.back ∙ ap (λ n. drop n r) (sym s.front_len)) (omega arith) (omega arith) (omega arith)

pub returns-clause-next : goal.returns-clause-next
returns-clause-next c =
    next_last c.args.cells.now c.loop-skip.cells c.put-2.new.cells c.args.first c.args.at c.args.bytes.now c.loop-skip.rest.now c.loop-skip.cell c.loop-skip.skip c.loop-skip.rest.now c.loop-skip.invariant c.requires.chain c.put-2.ensures.kept c.put-2.ensures.others c.put-2.ensures.load (sym (take_all _ _ (omega arith))) (omega arith) (omega arith) refl

pub returns-clause-bytes : goal.returns-clause-bytes
returns-clause-bytes c =
    wrote_all c.args.cells.now c.loop-skip.cells c.put-2.new.cells c.args.first c.args.at c.args.bytes.now c.loop-skip.rest.now c.loop-skip.cell c.loop-skip.skip c.loop-skip.rest.now c.loop-skip.invariant c.requires.chain c.put-2.ensures.kept c.put-2.ensures.others c.put-2.ensures.load (sym (take_all _ _ (omega arith))) (omega arith) (omega arith) refl
