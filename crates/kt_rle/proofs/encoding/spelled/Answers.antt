use Rattle.std.proofs.Common.{◌∙◌, ◌-◌, ◌++◌, arith, rules, get_or, ℤ, ap}
use Rattle.std.specs.Prelude.{pos, FitsSigned}
use Rattle.std.specs.Int.{w64}
use Rattle.std.proofs.lemmas.Int.{to_z-of_z}
use Rattle.kt_rle.specs.declared.runs.Held.{Held}
use Rattle.kt_rle.specs.Runs.{run_bytes}
use Rattle.kt_rle.proofs.Held.{rise_next, end_le, number_fits, spelled_more, end_more}
use Rattle.kt_rle.proofs.encoding.spelled.Goals as goal

-- what stands at a place past the end
abbrev none : Held
none = record { end = 0; value = pos 0 }

pub overflow_sub-len : goal.overflow_sub-len
overflow_sub-len c = let at = c.runs.invariant.at_end in omega (arith, at, rise_next 0 c.args.runs.now c.runs.i none c.requires.rise c.runs-test.true)

pub overflow_cast-len : goal.overflow_cast-len
overflow_cast-len c = omega (arith, c.requires.few, end_le 0 c.args.runs.now c.runs.i none c.requires.rise c.runs-test.true)

pub put_run-requires : goal.put_run-requires
put_run-requires c =
    let z : ℤ = (get_or c.args.runs.now c.runs.i none).value in
    let wide : FitsSigned w64 z = search rules in
    rw (to_z-of_z w64 z wide) (number_fits c.args.width 0 c.args.runs.now c.runs.i none c.requires.are c.runs-test.true)

pub runs-preserved : goal.runs-preserved
runs-preserved c =
    let hs = c.args.runs.now in
    let h : Held = get_or hs c.runs.i none in
    let wide : FitsSigned w64 h.value = search rules in
    record {
      at_end = end_more hs c.runs.i none c.runs-test.true;
      written = c.in_ok-put_run.ensures
          ∙ ap (λ (z : ℤ). c.runs.bytes.items ++ run_bytes c.args.width (record { len = h.end - c.runs.at; value = z })) (to_z-of_z w64 h.value wide)
          ∙ spelled_more c.args.width hs c.runs.i c.runs.at c.runs.bytes.items none c.runs-test.true c.runs.invariant.at_end c.runs.invariant.written;
    }
