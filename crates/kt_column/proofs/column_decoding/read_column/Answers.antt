use Rattle.std.proofs.Common.{◌≡◌, ◌<◌, ◌-◌, length, min, sym, ap, ◌∙◌, subst, arith, length-append}
use Rattle.std.proofs.lemmas.List.{take_rest, length-drop}
use Rattle.kt_column.specs.Columns.{ColumnValue, IsColumnRefusal}
use Rattle.kt_column.proofs.Progress.{at_start, one_more, all_found, all_only, no_block, no_only, refusal_shifts}
use Rattle.kt_column.proofs.column_decoding.read_column.Goals as goal

pub parts-init : goal.parts-init
parts-init c = at_start c.args.form c.args.rows c.args.bytes.now c.new-column.result c.new-column.ensures

pub slice_bounds-decode_block-count : goal.slice_bounds-decode_block-count
slice_bounds-decode_block-count c = c.parts.invariant.found.within

pub push-requires-clause-form : goal.push-requires-clause-form
push-requires-clause-form c = c.in-Ok.ensures.form ∙ sym c.parts.invariant.is

pub push-requires-clause-full : goal.push-requires-clause-full
push-requires-clause-full c = c.parts.invariant.full (omega (arith, c.parts-test.true, c.len.ensures))

pub parts-smaller : goal.parts-smaller
parts-smaller c =
    let more = ap (λ (v : ColumnValue). length v.cells) c.in_ok-push-in-Ok.ensures in
    omega (arith, more, c.in-Ok.ensures.found.counted, c.min-n.ensures, c.len.ensures, c.len-in-parts.ensures, c.parts-test.true, length-append c.parts.column.cells c.in-Ok.found.block.cells)

pub parts-preserved : goal.parts-preserved
parts-preserved c =
    let lt : length c.parts.column.cells < c.args.rows = omega (arith, c.parts-test.true, c.len.ensures) in
    let n : c.min-n.result ≡ min (c.args.rows - length c.parts.column.cells) 8192 = c.min-n.ensures ∙ ap (λ k. min (c.args.rows - k) 8192) c.len-in-parts.ensures in
    one_more c.args.form c.args.rows c.min-n.result c.parts.used c.in-Ok.found.len c.args.bytes.now _ c.parts.column c.push.new.self c.in-Ok.found.block c.parts.invariant lt n (take_rest c.args.bytes.now c.parts.used) c.in-Ok.ensures.found c.in-Ok.ensures.only c.in_ok-push-in-Ok.ensures

pub returns-in-Err-clause-only : goal.returns-in-Err-clause-only
returns-in-Err-clause-only c cs front rest s all at =
    let lt : length c.parts.column.cells < c.args.rows = omega (arith, c.parts-test.true, c.len.ensures) in
    let n : c.min-n.result ≡ min (c.args.rows - length c.parts.column.cells) 8192 = c.min-n.ensures ∙ ap (λ k. min (c.args.rows - k) 8192) c.len-in-parts.ensures in
    c.behind.ensures ∙ no_only c.args.form c.args.rows c.parts.used c.min-n.result c.args.bytes.now _ c.parts.column c.in-Err.no c.parts.invariant lt n (take_rest c.args.bytes.now c.parts.used) c.in-Err.ensures.only cs front rest s all at

pub returns-in-Err-clause-refused : goal.returns-in-Err-clause-refused
returns-in-Err-clause-refused c =
    let lt : length c.parts.column.cells < c.args.rows = omega (arith, c.parts-test.true, c.len.ensures) in
    let n : c.min-n.result ≡ min (c.args.rows - length c.parts.column.cells) 8192 = c.min-n.ensures ∙ ap (λ k. min (c.args.rows - k) 8192) c.len-in-parts.ensures in
    subst (IsColumnRefusal c.args.form c.args.rows c.args.bytes.now) (sym c.behind.ensures) (no_block c.args.form c.args.rows c.parts.used c.min-n.result c.args.bytes.now _ c.parts.column c.in-Err.no c.parts.invariant lt n (take_rest c.args.bytes.now c.parts.used) c.in-Err.ensures.place)

pub returns-clause-form : goal.returns-clause-form
returns-clause-form c = c.parts.invariant.is

pub returns-clause-found : goal.returns-clause-found
returns-clause-found c =
    all_found c.args.form c.args.rows c.parts.used c.args.bytes.now c.parts.column c.parts.invariant (λ lt. absurd (omega (arith, lt, c.parts-test.false, c.len.ensures)))

pub returns-clause-only : goal.returns-clause-only
returns-clause-only c = all_only c.args.form c.args.rows c.parts.used c.args.bytes.now c.parts.column c.parts.invariant (λ lt. absurd (omega (arith, lt, c.parts-test.false, c.len.ensures)))

pub behind-requires : goal.behind-requires
behind-requires c =
    let part = ap length (take_rest c.args.bytes.now c.parts.used) in
    refusal_shifts c.args.form c.min-n.result c.parts.used _ c.in-Err.no (omega (arith, part, length-drop c.parts.used c.args.bytes.now, c.parts.invariant.found.within)) c.in-Err.ensures.place
