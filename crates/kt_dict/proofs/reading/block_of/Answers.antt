use Rattle.std.proofs.Common.{◌≡◌, ◌∙◌, [], Ok, true, false, length, sym, arith}
use Rattle.kt_dict.specs.Walk.{codes_at}
use Rattle.kt_dict.proofs.Loop.{entries_count}
use Rattle.kt_dict.proofs.Steps.{count_stops, entries_stops, codes_stop, block_is}
use Rattle.kt_dict.proofs.reading.block_of.Goals as goal

pub codes_of-requires : goal.codes_of-requires
codes_of-requires c = omega (arith, c.len.ensures, c.in-Ok.ensures.few, entries_count c.args.most c.in-Ok.value.0 [] c.in-Ok.value.1.now (c.in-Ok-entries_of.value.0, c.in-Ok-entries_of.value.1.now) c.in-Ok-entries_of.ensures)

pub returns-in-Err : goal.returns-in-Err
returns-in-Err c =
    count_stops c.in-Err.error c.args.most c.args.n c.args.bytes.now c.in-Err.ensures.read

pub returns-in-Err-entries_of : goal.returns-in-Err-entries_of
returns-in-Err-entries_of c =
    entries_stops c.in-Err-entries_of.error c.args.most c.args.n c.args.bytes.now (c.in-Ok.value.0, c.in-Ok.value.1.now) c.in-Ok.ensures.read c.in-Err-entries_of.ensures

pub returns-in-Err-codes_of : goal.returns-in-Err-codes_of
returns-in-Err-codes_of c =
    codes_stop c.in-Err-codes_of.error c.args.most c.args.n c.args.bytes.now (c.in-Ok.value.0, c.in-Ok.value.1.now) (c.in-Ok-entries_of.value.0, c.in-Ok-entries_of.value.1.now) c.in-Ok.ensures.read c.in-Ok-entries_of.ensures (rw (← c.len.ensures) c.in-Err-codes_of.ensures)

pub returns-then-not-is_empty : goal.returns-then-not-is_empty
returns-then-not-is_empty c =
    let codes : codes_at c.args.n (length c.in-Ok-entries_of.value.0) 0 [] c.in-Ok-entries_of.value.1.now ≡ Ok (c.in-Ok-codes_of.value.0.items, c.in-Ok-codes_of.value.1.now) = rw (← c.len.ensures) c.in-Ok-codes_of.ensures in
    block_is c.args.most c.args.n c.args.bytes.now (c.in-Ok.value.0, c.in-Ok.value.1.now) (c.in-Ok-entries_of.value.0, c.in-Ok-entries_of.value.1.now) (c.in-Ok-codes_of.value.0.items, c.in-Ok-codes_of.value.1.now) false
    c.in-Ok.ensures.read c.in-Ok-entries_of.ensures codes (sym c.is_empty.ensures ∙ c.if-not-is_empty.true)

pub returns : goal.returns
returns c =
    let codes : codes_at c.args.n (length c.in-Ok-entries_of.value.0) 0 [] c.in-Ok-entries_of.value.1.now ≡ Ok (c.in-Ok-codes_of.value.0.items, c.in-Ok-codes_of.value.1.now) = rw (← c.len.ensures) c.in-Ok-codes_of.ensures in
    block_is c.args.most c.args.n c.args.bytes.now (c.in-Ok.value.0, c.in-Ok.value.1.now) (c.in-Ok-entries_of.value.0, c.in-Ok-entries_of.value.1.now) (c.in-Ok-codes_of.value.0.items, c.in-Ok-codes_of.value.1.now) true
    c.in-Ok.ensures.read c.in-Ok-entries_of.ensures codes (sym c.is_empty.ensures ∙ c.if-not-is_empty.false)
