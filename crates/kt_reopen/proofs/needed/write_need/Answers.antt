use Rattle.std.proofs.Common.{◌+◌, sym, ◌∙◌, ap, arith, true, false}
use Rattle.std.specs.Option.{option_map}
use Rattle.kt_reopen.specs.Bare.{bare}
use Rattle.kt_reopen.specs.Needed.{is_replayed}
use Rattle.kt_reopen.proofs.NeedLaws.{names_told, need_next, op_at, reaches, reach_some}
use Rattle.kt_reopen.proofs.needed.write_need.Goals as goal
use Rattle.kt_reopen.proofs.needed.write_need.Goals.{then-is_replayed+in_ok-cells+in_ok-sum, else-is_replayed}

pub ops-preserved : goal.ops-preserved
ops-preserved c =
    let super = bare c.args.meta.now in
    let ops = c.args.ops.now in
    let commit = option_map (λ rows. rows.now) c.args.commit in
    let i = c.ops.at in
    let told = ap (is_replayed super) (names_told i commit) ∙ sym c.is_replayed.ensures in
    elim c.if-is_replayed.branch [
      | then-is_replayed+in_ok-cells+in_ok-sum w ↦
          need_next super ops commit i w.at-op.result true c.ops.sum c.if-is_replayed.sum (omega arith) w.at-op.ensures (reaches ops commit i c.requires.rows (omega arith)) (told ∙ w.if-is_replayed.true)
          (w.sum-is ∙ w.in_ok-sum.ensures ∙ ap (λ n. c.ops.sum + n) w.in_ok-cells.ensures) c.ops.invariant
      | else-is_replayed w ↦
          let op = op_at ops i (omega arith) in
          need_next super ops commit i op.0 false c.ops.sum c.if-is_replayed.sum (omega arith) op.1 (reaches ops commit i c.requires.rows (omega arith)) (told ∙ w.if-is_replayed.false) (let e = w.sum-is in omega arith) c.ops.invariant
    ]

pub is_replayed-requires-clause-there : goal.is_replayed-requires-clause-there
is_replayed-requires-clause-there c = reach_some c.args.ops.now c.args.commit c.ops.at c.requires.rows (omega arith)
