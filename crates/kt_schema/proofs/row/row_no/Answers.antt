use Rattle.std.proofs.Common.{◌≡◌, length, sym, ap, ◌∙◌, arith, true, false, nat_lt, None, length-take, refl}
use Rattle.std.proofs.lemmas.Bool.{lt-ltb, le-ltb}
use Rattle.kt_schema.specs.Rows.{key_length, unlike_cell, forbidden_null, long_cell}
use Rattle.kt_schema.proofs.Rows.{row_keyed}
use Rattle.kt_schema.proofs.row.row_no.Goals as goal

pub slice_bounds-key_len-end : goal.slice_bounds-key_len-end
slice_bounds-key_len-end c =
    let k = row_keyed c.args.columns.now c.args.cells.now c.requires.fit (sym c.unlike_cell.ensures ∙ c.in_default.is) (sym c.forbidden_null.ensures ∙ c.in_default-forbidden_null.is) (sym c.long_cell.ensures ∙ c.in_default-long_cell.is) in
    omega (arith, k.within, ap length c.requires.keys, length-take (length c.args.kinds.now) c.args.cells.now)

pub key_len-length-requires : goal.key_len-length-requires
key_len-length-requires c =
    let k = row_keyed c.args.columns.now c.args.cells.now c.requires.fit (sym c.unlike_cell.ensures ∙ c.in_default.is) (sym c.forbidden_null.ensures ∙ c.in_default-forbidden_null.is) (sym c.long_cell.ensures ∙ c.in_default-long_cell.is) in
    rw c.requires.keys k.key

pub returns-then-length-gt-KEY_LEN : goal.returns-then-length-gt-KEY_LEN
returns-then-length-gt-KEY_LEN c =
    let like : unlike_cell c.args.columns.now c.args.cells.now ≡ None = sym c.unlike_cell.ensures ∙ c.in_default.is in
    let allowed : forbidden_null c.args.columns.now c.args.cells.now ≡ None = sym c.forbidden_null.ensures ∙ c.in_default-forbidden_null.is in
    let short : long_cell c.args.cells.now ≡ None = sym c.long_cell.ensures ∙ c.in_default-long_cell.is in
    let k = row_keyed c.args.columns.now c.args.cells.now c.requires.fit like allowed short in
    let is : c.key_len-length.result ≡ key_length c.args.columns.now c.args.cells.now = omega (arith, rw c.requires.keys at c.key_len-length.ensures, k.small) in
    let long : nat_lt 16384 (key_length c.args.columns.now c.args.cells.now) ≡ true = lt-ltb _ _ (omega (arith, is)) in
    rw (like, allowed, short, long, is) refl

pub returns-else-length-gt-KEY_LEN : goal.returns-else-length-gt-KEY_LEN
returns-else-length-gt-KEY_LEN c =
    let like : unlike_cell c.args.columns.now c.args.cells.now ≡ None = sym c.unlike_cell.ensures ∙ c.in_default.is in
    let allowed : forbidden_null c.args.columns.now c.args.cells.now ≡ None = sym c.forbidden_null.ensures ∙ c.in_default-forbidden_null.is in
    let short : long_cell c.args.cells.now ≡ None = sym c.long_cell.ensures ∙ c.in_default-long_cell.is in
    let k = row_keyed c.args.columns.now c.args.cells.now c.requires.fit like allowed short in
    let is : c.key_len-length.result ≡ key_length c.args.columns.now c.args.cells.now = omega (arith, rw c.requires.keys at c.key_len-length.ensures, k.small) in
    let fits : nat_lt 16384 (key_length c.args.columns.now c.args.cells.now) ≡ false = le-ltb _ _ (omega (arith, is)) in
    rw (like, allowed, short, fits) refl
