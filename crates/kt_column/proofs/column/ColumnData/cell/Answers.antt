use Rattle.std.proofs.Common.{◌≡◌, arith, sym, subst, IfOk}
use Rattle.kt_column.proofs.Places.{place_within, place_of}
use Rattle.kt_column.proofs.column.ColumnData.cell.Goals as goal

pub index-requires : goal.index-requires
index-requires c =
    let within = place_within c.self.inside.form c.self.inside.blocks.items c.args.self.now c.args.i c.self.invariant.0 c.self.view_is c.requires in
    omega (arith, within, c.self.inside.blocks.ok)

pub cell-requires : goal.cell-requires
cell-requires c = (place_of c.self.inside.form c.self.inside.blocks.items c.args.self.now c.args.i c.index.result.now c.self.invariant.0 c.self.view_is c.requires c.index.ensures).1

pub returns : goal.returns
returns c =
    let here = place_of c.self.inside.form c.self.inside.blocks.items c.args.self.now c.args.i c.index.result.now c.self.invariant.0 c.self.view_is c.requires c.index.ensures in
    subst (λ x. IfOk c.cell.result (λ cell. cell ≡ x)) (sym here.2) c.cell.ensures
