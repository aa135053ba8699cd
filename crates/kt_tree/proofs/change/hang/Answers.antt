use Rattle.std.proofs.Common.{◌≢◌, arith}
use Rattle.kt_tree.specs.Shapes.{nothing}
use Rattle.kt_tree.proofs.Spots.{beside_spot, hung_whole, kept_above, hung_on}
use Rattle.kt_tree.proofs.change.hang.Goals as goal

pub spot_on-spot-requires-clause-lacks : goal.spot_on-spot-requires-clause-lacks
spot_on-spot-requires-clause-lacks c = (c.requires.beside.0, c.requires.beside.3.lacks)

pub crown-requires-clause-sought : goal.crown-requires-clause-sought
crown-requires-clause-sought c = (c.requires.seat c.requires.beside.0 c.requires.beside.3.lacks.tree).head

pub crown-requires-clause-beside : goal.crown-requires-clause-beside
crown-requires-clause-beside c =
    let spot = c.spot_on-spot.result in
    beside_spot c.args.pool.now c.args.fresh c.args.key.now c.args.root spot.above spot.cell spot.node spot.right c.spot_on-spot.ensures c.requires.beside

pub returns-then-above : goal.returns-then-above
returns-then-above c =
    let spot = c.spot_on-spot.result in
    hung_whole c.args.pool.now c.args.fresh c.args.key.now c.args.root spot.above spot.cell spot.node spot.right c.crown.new.pool c.crown.ensures c.spot_on-spot.ensures (omega arith)

pub link-requires : goal.link-requires
link-requires c =
    let spot = c.spot_on-spot.result in
    let ne : c.spot_on-spot.result.above ≢ nothing = omega arith in
    kept_above c.args.pool.now c.args.fresh c.args.key.now c.args.root spot.above spot.cell spot.node spot.right c.crown.new.pool c.crown.ensures ne c.requires.beside c.spot_on-spot.ensures

pub returns : goal.returns
returns c =
    let spot = c.spot_on-spot.result in
    let ne : c.spot_on-spot.result.above ≢ nothing = omega arith in
    hung_on c.args.pool.now c.args.fresh c.args.key.now c.args.root spot.above spot.cell spot.node spot.right c.crown.new.pool c.crown.ensures ne c.requires.beside c.link.new.pool c.link.ensures.others c.link.ensures.node c.spot_on-spot.ensures
