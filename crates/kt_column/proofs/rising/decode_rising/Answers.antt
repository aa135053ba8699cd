use Rattle.std.proofs.Common.{◌≡◌, ◌<◌, ◌-◌, inl, length, min, sym, ap, ◌∙◌, subst, arith, length-append}
use Rattle.std.proofs.lemmas.List.{take_rest, length-drop}
use Rattle.kt_column.specs.declared.form.Form.TheVariants.{Keys}
use Rattle.kt_column.specs.Columns.{ColumnValue}
use Rattle.kt_column.specs.Keys.{AreRising, IsRisingRefusal}
use Rattle.kt_column.proofs.Progress.{at_start, one_more, all_found, all_only, no_only, refusal_shifts}
use Rattle.kt_column.proofs.KeyFalls.{column_keys, fall_within, fall_only, rises_more, next_fault, next_refused}
use Rattle.kt_column.proofs.rising.decode_rising.Goals as goal

pub parts-init : goal.parts-init
parts-init c = record {
  read = at_start Keys c.args.rows c.args.bytes.now c.new-column.result c.new-column.ensures;
  rise = subst (λ (v : ColumnValue). AreRising v.cells) (sym c.new-column.ensures) tt;
}

pub push-requires-clause-form : goal.push-requires-clause-form
push-requires-clause-form c = c.in-Ok.ensures.form ∙ sym c.parts.invariant.read.is

pub push-requires-clause-full : goal.push-requires-clause-full
push-requires-clause-full c = c.parts.invariant.read.full (omega (arith, c.parts-test.true, c.len.ensures))

pub parts-smaller : goal.parts-smaller
parts-smaller c =
    let more = ap (λ (v : ColumnValue). length v.cells) c.in_ok-push-in-Ok.ensures in
    omega (arith, more, c.in-Ok.ensures.found.counted, c.min-n.ensures, c.len.ensures, c.len-in-parts.ensures, c.parts-test.true, length-append c.parts.column.cells c.in-Ok.found.block.cells)

pub behind-requires : goal.behind-requires
behind-requires c =
    let part = ap length (take_rest c.args.bytes.now c.parts.used) in
    refusal_shifts Keys c.min-n.result c.parts.used _ c.in-Err.no (omega (arith, part, length-drop c.parts.used c.args.bytes.now, c.parts.invariant.read.found.within)) c.in-Err.ensures.place

pub returns-clause-found : goal.returns-clause-found
returns-clause-found c = (c.parts.invariant.read.is, all_found Keys c.args.rows c.parts.used c.args.bytes.now c.parts.column c.parts.invariant.read (λ lt. absurd (omega (arith, lt, c.parts-test.false, c.len.ensures))), c.parts.invariant.rise)

pub fall_behind-requires : goal.fall_behind-requires
fall_behind-requires c = column_keys _ c.parts.used c.args.bytes.now c.parts.column.cells c.parts.invariant.read.found

pub overflow_add-result : goal.overflow_add-result
overflow_add-result c =
    let within = fall_within _ c.in-Some.at _ _ (rw c.in-Some.is at c.in_ok-at.ensures) in
    let part = ap length (take_rest c.args.bytes.now c.parts.used) in
    omega (arith, within, part, length-drop c.parts.used c.args.bytes.now, c.parts.invariant.read.found.within)

pub returns-in-Some-clause-only : goal.returns-in-Some-clause-only
returns-in-Some-clause-only c cs front rest s all rise at =
    let lt : length c.parts.column.cells < c.args.rows = omega (arith, c.parts-test.true, c.len.ensures) in
    let n : c.min-n.result ≡ min (c.args.rows - length c.parts.column.cells) 8192 = c.min-n.ensures ∙ ap (λ k. min (c.args.rows - k) 8192) c.len-in-parts.ensures in
    absurd (fall_only c.args.rows c.parts.used c.min-n.result c.in-Some.at c.args.bytes.now _ c.parts.column c.parts.invariant.read lt n (take_rest c.args.bytes.now c.parts.used) (rw c.in-Some.is at c.in_ok-at.ensures) cs front rest s all rise at)

pub returns-in-Some-clause-refused : goal.returns-in-Some-clause-refused
returns-in-Some-clause-refused c =
    let lt : length c.parts.column.cells < c.args.rows = omega (arith, c.parts-test.true, c.len.ensures) in
    let n : c.min-n.result ≡ min (c.args.rows - length c.parts.column.cells) 8192 = c.min-n.ensures ∙ ap (λ k. min (c.args.rows - k) 8192) c.len-in-parts.ensures in
    next_fault c.args.rows c.parts.used c.min-n.result c.in-Some.at c.args.bytes.now _ c.parts.column c.parts.invariant.read c.parts.invariant.rise lt n (take_rest c.args.bytes.now c.parts.used) (inl (rw c.in-Some.is at c.in_ok-at.ensures))

pub parts-preserved : goal.parts-preserved
parts-preserved c =
    let lt : length c.parts.column.cells < c.args.rows = omega (arith, c.parts-test.true, c.len.ensures) in
    let n : c.min-n.result ≡ min (c.args.rows - length c.parts.column.cells) 8192 = c.min-n.ensures ∙ ap (λ k. min (c.args.rows - k) 8192) c.len-in-parts.ensures in
    record {
      read = one_more Keys c.args.rows c.min-n.result c.parts.used c.in-Ok.found.len c.args.bytes.now _ c.parts.column c.push.new.self c.in-Ok.found.block c.parts.invariant.read lt n (take_rest c.args.bytes.now c.parts.used) c.in-Ok.ensures.found c.in-Ok.ensures.only c.in_ok-push-in-Ok.ensures;
      rise = subst (λ (v : ColumnValue). AreRising v.cells) (sym c.in_ok-push-in-Ok.ensures) (rises_more c.min-n.result c.in-Ok.found.len _ c.parts.column.cells c.in-Ok.found.block.cells c.parts.invariant.rise (rw c.in_default.is at c.in_ok-at.ensures) c.in-Ok.ensures.found);
    }

pub returns-in-Err-clause-only : goal.returns-in-Err-clause-only
returns-in-Err-clause-only c cs front rest s all rise at =
    let lt : length c.parts.column.cells < c.args.rows = omega (arith, c.parts-test.true, c.len.ensures) in
    let n : c.min-n.result ≡ min (c.args.rows - length c.parts.column.cells) 8192 = c.min-n.ensures ∙ ap (λ k. min (c.args.rows - k) 8192) c.len-in-parts.ensures in
    c.behind.ensures ∙ no_only Keys c.args.rows c.parts.used c.min-n.result c.args.bytes.now _ c.parts.column c.in-Err.no c.parts.invariant.read lt n (take_rest c.args.bytes.now c.parts.used) c.in-Err.ensures.only cs front rest s all at

pub returns-in-Err-clause-refused : goal.returns-in-Err-clause-refused
returns-in-Err-clause-refused c =
    let lt : length c.parts.column.cells < c.args.rows = omega (arith, c.parts-test.true, c.len.ensures) in
    let n : c.min-n.result ≡ min (c.args.rows - length c.parts.column.cells) 8192 = c.min-n.ensures ∙ ap (λ k. min (c.args.rows - k) 8192) c.len-in-parts.ensures in
    subst (IsRisingRefusal c.args.rows c.args.bytes.now) (sym c.behind.ensures) (next_refused c.args.rows c.parts.used c.min-n.result c.args.bytes.now _ c.parts.column c.in-Err.no c.parts.invariant.read c.parts.invariant.rise lt n (take_rest c.args.bytes.now c.parts.used) (rw c.in_default.is at c.in_ok-at.ensures) c.in-Err.ensures.place)

pub returns-clause-only : goal.returns-clause-only
returns-clause-only c cs front rest s all rise at = all_only Keys c.args.rows c.parts.used c.args.bytes.now c.parts.column c.parts.invariant.read (λ lt. absurd (omega (arith, lt, c.parts-test.false, c.len.ensures))) cs front rest s all at
