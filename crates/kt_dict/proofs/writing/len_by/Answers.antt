use Rattle.std.proofs.Common.{◌≡◌, ◌<◌, List, ℕ, length, ap, sym, subst, arith}
use Rattle.std.specs.Borrow.{Bor}
use Rattle.std.specs.List.{All, flat_map}
use Rattle.kt_dict.specs.Spelling.{dictionary, entries_after, Fits}
use Rattle.kt_dict.specs.Writing.{text}
use Rattle.kt_dict.proofs.Words.{nows}
use Rattle.kt_dict.proofs.Short.{no_longer, short_entries, short_keys, keys_count, length-spelling, whole_table}
use Rattle.kt_dict.proofs.writing.len_by.Goals as goal

pub use_few-requires : goal.use_few-requires
use_few-requires c = rw c.requires.none (omega arith)

pub returns-then-not-branch : goal.returns-then-not-branch
returns-then-not-branch c =
    let over = rw c.if-not-branch.true at c.in_ok-use_few.ensures.over in
    let is : length (entries_after (nows c.args.table.now.keys) c.args.cells.now) ≡ length (dictionary c.args.cells.now) = ap (λ ks. length (entries_after (nows ks) c.args.cells.now)) c.requires.none in
    λ fits. absurd (omega (arith, fits.few, over, is))

pub entries_len-requires-clause-few : goal.entries_len-requires-clause-few
entries_len-requires-clause-few c =
    let table = rw c.if-not-branch.false at c.in_ok-use_few.ensures.all in
    let whole = whole_table c.args.cells.now c.args.table.now.keys c.use_few.new.table.keys c.requires.none table.0 in
    rw c.as_slice.ensures.keys (omega (arith, table.1, ap length whole, (keys_count c.args.cells.now c.use_few.new.table.keys whole).0))

pub entries_len-requires-clause-small : goal.entries_len-requires-clause-small
entries_len-requires-clause-small c =
    let table = rw c.if-not-branch.false at c.in_ok-use_few.ensures.all in
    let whole = whole_table c.args.cells.now c.args.table.now.keys c.use_few.new.table.keys c.requires.none table.0 in
    subst (All (λ (k : Bor (List ℕ)). length k.now < 4294967296)) (sym c.as_slice.ensures.keys) (short_keys c.args.cells.now c.use_few.new.table.keys whole c.requires.small)

pub overflow_add-result : goal.overflow_add-result
overflow_add-result c = omega (arith, c.entries_len.ensures.most)

pub overflow_add-result-2 : goal.overflow_add-result-2
overflow_add-result-2 c = omega (arith, c.entries_len.ensures.most, c.len.ensures, c.requires.few)

pub returns : goal.returns
returns c =
    let table = rw c.if-not-branch.false at c.in_ok-use_few.ensures.all in
    let keys = c.use_few.new.table.keys in
    let whole = whole_table c.args.cells.now c.args.table.now.keys keys c.requires.none table.0 in
    let same : length (flat_map text (nows c.as_slice.result.now)) ≡ length (flat_map text (nows keys)) = ap (λ ks. length (flat_map text (nows ks))) c.as_slice.ensures.keys in
    let long = length-spelling c.args.cells.now (nows keys) whole in
    let fits : Fits c.args.cells.now = record { few = omega (arith, table.1, ap length whole); each = no_longer (dictionary c.args.cells.now) (short_entries c.args.cells.now c.requires.small) } in
    (fits, omega (arith, long, same, c.entries_len.ensures.value, c.len.ensures))
