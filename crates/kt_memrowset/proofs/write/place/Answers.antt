use Rattle.std.proofs.Common.{◌<◌, arith}
use Rattle.kt_memrowset.specs.Links.{nothing}
use Rattle.kt_memrowset.proofs.Writing.{placed_need, placed_others, placed_takes, placed_link}
use Rattle.kt_memrowset.proofs.write.place.Goals as goal

pub place_two-cell-requires-clause-room : goal.place_two-cell-requires-clause-room
place_two-cell-requires-clause-room c =
    let need = placed_need c.args.head c.args.op.now.cells c.front_of.result c.spelled_cells.result.now c.front_of.ensures c.spelled_cells.ensures.is in
    omega arith

pub returns-clause-others : goal.returns-clause-others
returns-clause-others c =
    let p = c.place_two-cell in
    placed_others c.args.head c.args.op.now.cells c.front_of.result c.spelled_cells.result.now c.front_of.ensures c.spelled_cells.ensures.is c.args.pool.now p.new.self p.result.cell p.ensures.vacant p.ensures.inside p.ensures.placed

pub returns-clause-takes : goal.returns-clause-takes
returns-clause-takes c =
    let p = c.place_two-cell in
    placed_takes c.args.head c.args.op.now.cells c.front_of.result c.spelled_cells.result.now c.front_of.ensures c.spelled_cells.ensures.is c.args.pool.now p.new.self p.result.cell p.ensures.vacant p.ensures.inside p.ensures.placed

pub returns-clause-link : goal.returns-clause-link
returns-clause-link c =
    let p = c.place_two-cell in
    let small : p.result.cell < nothing = omega arith in
    placed_link c.args.head c.args.op.now.cells c.front_of.result c.spelled_cells.result.now c.front_of.ensures c.spelled_cells.ensures.is c.args.pool.now p.new.self p.result.cell p.ensures.vacant p.ensures.inside p.ensures.placed small c.requires.head c.spelled_cells.ensures.fits.cells
