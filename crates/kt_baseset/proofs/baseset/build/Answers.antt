use Rattle.std.proofs.Common.{◌∙◌, sym, subst}
use Rattle.kt_baseset.specs.Rows.{AreKeys, keys_in}
use Rattle.kt_baseset.proofs.Whole.{keys_again, texts_of, held_of, value_is}
use Rattle.kt_baseset.proofs.baseset.build.Goals as goal

pub list_of-requires : goal.list_of-requires
list_of-requires c = texts_of (keys_in c.args.rows.now) c.in_ok-keys.keys (rw c.as_slice.ensures at c.in_ok-keys.ensures)

pub lookup_of-requires : goal.lookup_of-requires
lookup_of-requires c =
    let made = rw c.as_slice.ensures at c.in_ok-keys.ensures in
    subst AreKeys (sym (c.in_ok-list.ensures ∙ keys_again (keys_in c.args.rows.now) c.in_ok-keys.keys made)) c.requires.keys

pub invariant_of-result : goal.invariant_of-result
invariant_of-result c =
    let made = rw c.as_slice.ensures at c.in_ok-keys.ensures in
    let columns = rw (c.as_slice-2.ensures, c.as_slice-3.ensures) at c.in_ok-columns.ensures.columns in
    let ids = rw c.as_slice-3.ensures at c.in_ok-columns.ensures.ids in
    held_of c.args.schema.now c.args.rows.now c.in_ok-keys.keys c.in_ok-columns.columns.items c.in_ok-lookup.lookup c.in_ok-list.list made columns c.in_ok-list.ensures c.in_ok-lookup.ensures c.requires.keys (record { few = c.requires.columns; rise = c.requires.ids; fit = ids }) c.requires.cells

pub returns : goal.returns
returns c =
    let made = rw c.as_slice.ensures at c.in_ok-keys.ensures in
    let columns = rw (c.as_slice-2.ensures, c.as_slice-3.ensures) at c.in_ok-columns.ensures.columns in
    value_is c.args.schema.now c.args.rows.now c.in_ok-keys.keys c.in_ok-columns.columns.items made columns c.requires.cells
