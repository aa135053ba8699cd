use Rattle.kt_column.proofs.Places.{pushed}
use Rattle.kt_column.proofs.column.ColumnData.push.Goals as goal

pub invariant_of-self-2 : goal.invariant_of-self-2
invariant_of-self-2 c =
    let new = pushed c.self.inside.form c.self.inside.blocks.items c.push.new.self.items c.args.self.now c.args.block c.self.inside.len c.len.result c.self.invariant.0 c.self.invariant.1 c.len.ensures c.self.view_is c.requires.form c.requires.full c.requires.some c.requires.few c.in_ok-push.ensures.items in
    (new.0, new.1)

pub returns : goal.returns
returns c =
    (pushed c.self.inside.form c.self.inside.blocks.items c.push.new.self.items c.args.self.now c.args.block c.self.inside.len c.len.result c.self.invariant.0 c.self.invariant.1 c.len.ensures c.self.view_is c.requires.form c.requires.full c.requires.some c.requires.few c.in_ok-push.ensures.items).2
