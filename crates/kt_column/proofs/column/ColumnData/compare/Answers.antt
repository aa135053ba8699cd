use Rattle.std.proofs.Common.{arith, sym, ap, ◌∙◌}
use Rattle.kt_column.specs.Forms.{is_nullable}
use Rattle.kt_column.proofs.Places.{place_within, place_of}
use Rattle.kt_column.proofs.column.ColumnData.compare.Goals as goal

pub index-requires : goal.index-requires
index-requires c =
    let within = place_within c.self.inside.form c.self.inside.blocks.items c.args.self.now c.args.i c.self.invariant.0 c.self.view_is c.requires.within in
    omega (arith, within, c.self.inside.blocks.ok)

pub compare-requires-clause-within : goal.compare-requires-clause-within
compare-requires-clause-within c =
    (place_of c.self.inside.form c.self.inside.blocks.items c.args.self.now c.args.i c.index.result.now c.self.invariant.0 c.self.view_is c.requires.within c.index.ensures).1

pub compare-requires-clause-full : goal.compare-requires-clause-full
compare-requires-clause-full c =
    let here = place_of c.self.inside.form c.self.inside.blocks.items c.args.self.now c.args.i c.index.result.now c.self.invariant.0 c.self.view_is c.requires.within c.index.ensures in
    ap is_nullable here.0 ∙ c.requires.full

pub returns : goal.returns
returns c bytes is =
    let here = place_of c.self.inside.form c.self.inside.blocks.items c.args.self.now c.args.i c.index.result.now c.self.invariant.0 c.self.view_is c.requires.within c.index.ensures in
    c.compare.ensures bytes (sym here.2 ∙ is)
