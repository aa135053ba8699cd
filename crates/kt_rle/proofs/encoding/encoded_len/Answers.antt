use Rattle.std.proofs.Common.{◌*◌, ◌++◌, ◌∷◌, [], arith, get_or, ℕ, length-append, subst}
use Rattle.std.specs.Prelude.{pos}
use Rattle.kt_rle.specs.declared.runs.Held.{Held}
use Rattle.kt_rle.specs.Runs.{run_len}
use Rattle.kt_rle.specs.Spelling.{Takes}
use Rattle.kt_rle.proofs.Held.{stand_none, stand_more, stand_all, held_takes, count_le, small_mul}
use Rattle.kt_rle.proofs.encoding.encoded_len.Goals as goal

pub loop-at-init : goal.loop-at-init
loop-at-init c = ([], stand_none c.args.numbers.now, omega arith)

pub overflow_add-runs : goal.overflow_add-runs
overflow_add-runs c =
    let s = c.loop-at.invariant.1 in
    let few = c.requires.0 in
    omega (arith, few, count_le 0 c.loop-at.invariant.0 s.held.rise, s.ends, s.within, c.loop-at.invariant.2)

pub loop-at-preserved : goal.loop-at-preserved
loop-at-preserved c =
    let zs = c.args.numbers.now in
    let hs = c.loop-at.invariant.0 in
    let run = c.run_end-at.ensures in
    let h : Held = record { end = c.run_end-at.result; value = get_or zs c.loop-at.at (pos 0) } in
    (hs ++ h ∷ [], stand_more zs c.loop-at.at c.run_end-at.result hs c.loop-at.invariant.1 run.some run.within run.same run.stop, omega (arith, length-append hs (h ∷ []), c.loop-at.invariant.2))

pub overflow_mul-result : goal.overflow_mul-result
overflow_mul-result c =
    let s = c.loop-at.invariant.1 in
    let few = c.requires.0 in
    let small = small_mul c.args.width c.loop-at.runs (omega (arith, few, count_le 0 c.loop-at.invariant.0 s.held.rise, s.ends, s.within, c.loop-at.invariant.2)) in
    rw c.field_len.ensures (omega (arith, small))

pub returns : goal.returns
returns c =
    let zs = c.args.numbers.now in
    let hs = c.loop-at.invariant.0 in
    let s = c.loop-at.invariant.1 in
    let all = stand_all zs c.loop-at.at hs s (omega arith) in
    rw c.field_len.ensures (subst (λ (k : ℕ). Takes c.args.width zs (k * run_len c.args.width)) c.loop-at.invariant.2 (held_takes c.args.width hs zs s.held all c.requires.0 c.requires.1))
