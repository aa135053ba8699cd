use Rattle.std.proofs.Common.{arith}
use Rattle.kt_baseset.specs.Tables.{keys_of}
use Rattle.kt_baseset.proofs.Found.{entry_fits, search_none, count_keys}
use Rattle.kt_baseset.proofs.baseset.search.Goals as goal

pub stretch-start-requires-clause-entry : goal.stretch-start-requires-clause-entry
stretch-start-requires-clause-entry c = omega (arith, entry_fits (keys_of c.args.keys.now.cells) c.args.lookup.now.index c.entry_of.result c.requires.of.index c.entry_of.ensures.within, count_keys c.args.keys.now.cells, c.len.ensures)

pub returns-clause-none : goal.returns-clause-none
returns-clause-none c =
    search_none c.find.result c.args.keys.now.cells c.args.lookup.now.index c.args.key.now c.entry_of.result c.len.result c.stretch-start.result.0 c.stretch-start.result.1 c.requires.are.rise c.requires.of.index (record { within = c.entry_of.ensures.within; before = c.entry_of.ensures.before; at = c.entry_of.ensures.at }) c.len.ensures c.stretch-start.ensures.start c.stretch-start.ensures.end c.find.ensures.none
