use Rattle.std.proofs.Common.{◌∙◌, None, Some, ap, sym, subst}
use Rattle.std.specs.Option.{option_map}
use Rattle.kt_tree.specs.Entries.{Entry}
use Rattle.kt_tree.specs.Trees.{entries}
use Rattle.kt_dms.specs.Keys.{IsKey, ordinal_of}
use Rattle.kt_dms.specs.Walks.{is_behind}
use Rattle.kt_dms.proofs.OneRow.{pair_entry, no_entry}
use Rattle.kt_dms.proofs.Missed.{next_row_is}
use Rattle.kt_dms.proofs.rows.next_row.Goals as goal

pub row_of-requires : goal.row_of-requires
row_of-requires c =
    let e = pair_entry c.args.tree.now c.args.pool.now c.in-Some.pair (is_behind c.args.from None) c.requires c.in-Some.ensures in
    subst IsKey (sym (ap (λ (x : Entry). x.key) e.3)) e.2.key

pub returns-in-Some : goal.returns-in-Some
returns-in-Some c =
    let es = entries c.args.tree.now c.args.pool.now in
    let e = pair_entry c.args.tree.now c.args.pool.now c.in-Some.pair (is_behind c.args.from None) c.requires c.in-Some.ensures in
    ap (λ n. Some n) c.row_of.ensures ∙ ap (λ (x : Entry). Some (ordinal_of x.key)) e.3
    ∙ ap (option_map (λ (x : Entry). ordinal_of x.key)) (sym e.1) ∙ next_row_is c.args.pool.now c.args.from es

pub returns-in-None : goal.returns-in-None
returns-in-None c =
    let es = entries c.args.tree.now c.args.pool.now in
    ap (option_map (λ (x : Entry). ordinal_of x.key)) (sym (no_entry c.args.tree.now c.args.pool.now (is_behind c.args.from None) c.in-None.ensures))
    ∙ next_row_is c.args.pool.now c.args.from es
