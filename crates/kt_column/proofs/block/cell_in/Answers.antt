use Rattle.std.proofs.Common.{◌≡◌, true, arith, sym, ◌∙◌, subst, IfOk}
use Rattle.kt_column.specs.Forms.{is_nullable}
use Rattle.kt_column.specs.Held.{items_of}
use Rattle.kt_column.proofs.Weaving.{len_of_nulls, cell_null, cell_value, slot_within}
use Rattle.kt_column.proofs.block.cell_in.Goals as goal

pub slot-requires : goal.slot-requires
slot-requires c =
    let yes : is_nullable c.args.form ≡ true = sym c.is_nullable.ensures ∙ c.if-not-is_nullable.false in
    let len = len_of_nulls c.args.form c.args.nulls.now (items_of c.args.values.now) yes c.requires.slots in
    omega (arith, len, c.requires.within)

pub cell_of-requires-in-Some : goal.cell_of-requires-in-Some
cell_of-requires-in-Some c =
    let yes : is_nullable c.args.form ≡ true = sym c.is_nullable.ensures ∙ c.if-not-is_nullable.false in
    let len = len_of_nulls c.args.form c.args.nulls.now (items_of c.args.values.now) yes c.requires.slots in
    slot_within c.args.form c.args.nulls.now _ c.args.i c.in-Some.k yes c.requires.slots (omega (arith, len, c.requires.within)) c.in-Some.ensures.0 c.in-Some.ensures.1

pub returns-in-Some : goal.returns-in-Some
returns-in-Some c =
    let yes : is_nullable c.args.form ≡ true = sym c.is_nullable.ensures ∙ c.if-not-is_nullable.false in
    let len = len_of_nulls c.args.form c.args.nulls.now (items_of c.args.values.now) yes c.requires.slots in
    subst (λ x. IfOk c.cell_of-in-Some.result (λ cell. cell ≡ x)) (cell_value c.args.form c.args.nulls.now (items_of c.args.values.now) c.args.i c.in-Some.k (omega (arith, len, c.requires.within)) c.in-Some.ensures.0 c.in-Some.ensures.1) c.cell_of-in-Some.ensures

pub returns-in-None : goal.returns-in-None
returns-in-None c =
    let yes : is_nullable c.args.form ≡ true = sym c.is_nullable.ensures ∙ c.if-not-is_nullable.false in
    let len = len_of_nulls c.args.form c.args.nulls.now (items_of c.args.values.now) yes c.requires.slots in
    cell_null c.args.form c.args.nulls.now (items_of c.args.values.now) c.args.i (omega (arith, len, c.requires.within)) c.in-None.ensures
