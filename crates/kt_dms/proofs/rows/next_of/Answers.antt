use Rattle.std.proofs.Common.{◌∙◌, Some, ap, sym, subst}
use Rattle.kt_tree.specs.Entries.{Entry}
use Rattle.kt_tree.specs.Trees.{entries}
use Rattle.kt_dms.specs.Keys.{IsKey}
use Rattle.kt_dms.specs.Walks.{placed_if, is_behind}
use Rattle.kt_dms.proofs.OneRow.{next_is, pair_entry, no_entry}
use Rattle.kt_dms.proofs.rows.next_of.Goals as goal

pub placed_if-requires : goal.placed_if-requires
placed_if-requires c =
    let e = pair_entry c.args.tree.now c.args.pool.now c.in-Some.pair (is_behind c.args.ordinal c.args.after) c.requires c.in-Some.ensures in
    subst IsKey (sym (ap (λ (x : Entry). x.key) e.3)) e.2.key

pub returns-in-Some : goal.returns-in-Some
returns-in-Some c =
    let es = entries c.args.tree.now c.args.pool.now in
    let e = pair_entry c.args.tree.now c.args.pool.now c.in-Some.pair (is_behind c.args.ordinal c.args.after) c.requires c.in-Some.ensures in
    c.placed_if.ensures ∙ ap (λ (x : Entry). placed_if c.args.ordinal (Some x)) e.3 ∙ ap (placed_if c.args.ordinal) (sym e.1)
    ∙ next_is c.args.pool.now c.args.ordinal c.args.after es c.requires.tree.rising c.requires.each

pub returns-in-None : goal.returns-in-None
returns-in-None c =
    let es = entries c.args.tree.now c.args.pool.now in
    ap (placed_if c.args.ordinal) (sym (no_entry c.args.tree.now c.args.pool.now (is_behind c.args.ordinal c.args.after) c.in-None.ensures))
    ∙ next_is c.args.pool.now c.args.ordinal c.args.after es c.requires.tree.rising c.requires.each
