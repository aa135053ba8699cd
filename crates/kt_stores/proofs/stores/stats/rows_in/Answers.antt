use Rattle.std.proofs.Common.{◌∙◌}
use Rattle.kt_stores.proofs.Statistics.{mem_stands, rows_more}
use Rattle.kt_stores.proofs.stores.stats.rows_in.Goals as goal

pub stores-preserved : goal.stores-preserved
stores-preserved c =
    let pool = c.args.pool.now in
    let stores = c.args.stores.now in
    let i = c.stores.store-index in
    c.capped-rows.ensures ∙ rows_more pool stores i c.stores.rows c.from.result c.stores-test.true c.stores.invariant (c.from.ensures ∙ c.rows.ensures pool (mem_stands pool stores i c.requires c.stores-test.true))
