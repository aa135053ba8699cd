use Rattle.kt_lookup.proofs.Search.{are_tables}
use Rattle.kt_lookup.proofs.lookups.build.Goals as goal

pub invariant_of-result : goal.invariant_of-result
invariant_of-result c = are_tables c.args.keys.now c.in_ok-filter.filter.items c.in_ok-index.index c.requires.some c.requires.few c.requires.rises c.requires.short c.in_ok-filter.ensures c.in_ok-index.ensures
