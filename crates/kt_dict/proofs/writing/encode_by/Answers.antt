use Rattle.std.proofs.Common.{List, ℕ, length, ap, ◌∙◌, arith}
use Rattle.kt_dict.specs.Spelling.{dictionary}
use Rattle.kt_dict.proofs.Words.{nows}
use Rattle.kt_dict.proofs.Short.{no_longer, short_entries, short_keys, keys_count, spelled_by, whole_table}
use Rattle.kt_dict.proofs.writing.encode_by.Goals as goal

pub returns-then-count-gt-MOST-clause-refused : goal.returns-then-count-gt-MOST-clause-refused
returns-then-count-gt-MOST-clause-refused c =
    let keys = c.use_items.new.table.keys in
    let n = keys_count c.args.cells.now keys (whole_table c.args.cells.now c.args.table.now.keys keys c.requires.none c.in_ok-use_items.ensures) in
    (omega (arith, n.0, c.len-count.ensures.len), omega (arith, c.if-count-gt-MOST.true))

pub overflow_cast-result : goal.overflow_cast-result
overflow_cast-result c =
    let keys = c.use_items.new.table.keys in
    let n = keys_count c.args.cells.now keys (whole_table c.args.cells.now c.args.table.now.keys keys c.requires.none c.in_ok-use_items.ensures) in
    omega (arith, n.1, c.len-count.ensures.len, c.requires.few)

pub written-requires-clause-few : goal.written-requires-clause-few
written-requires-clause-few c =
    let keys = c.use_items.new.table.keys in
    let whole = whole_table c.args.cells.now c.args.table.now.keys keys c.requires.none c.in_ok-use_items.ensures in
    omega (arith, (keys_count c.args.cells.now keys whole).0, ap length whole, c.len-count.ensures.len, c.if-count-gt-MOST.false)

pub written-requires-clause-small : goal.written-requires-clause-small
written-requires-clause-small c =
    let keys = c.use_items.new.table.keys in
    short_keys c.args.cells.now keys (whole_table c.args.cells.now c.args.table.now.keys keys c.requires.none c.in_ok-use_items.ensures) c.requires.small

pub returns-clause-ok : goal.returns-clause-ok
returns-clause-ok c =
    let items : List (List ℕ) = c.args.cells.now in
    let keys = c.use_items.new.table.keys in
    let whole = whole_table items c.args.table.now.keys keys c.requires.none c.in_ok-use_items.ensures in
    (c.of.ensures ∙ (c.in_ok-written.ensures ∙ spelled_by items (nows keys) whole), record { few = omega (arith, (keys_count items keys whole).0, c.len-count.ensures.len, c.if-count-gt-MOST.false); each = no_longer (dictionary items) (short_entries items c.requires.small) })
