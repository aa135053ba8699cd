use Rattle.kt_pool.proofs.Placing.{chain_mid, filled_two}
use Rattle.kt_pool.proofs.cells.fill_two.Goals as goal

pub write-after-requires-clause-chain : goal.write-after-requires-clause-chain
write-after-requires-clause-chain c =
    let p = c.put in
    chain_mid c.args.cells.now p.new.cells c.args.first c.args.front.now c.args.behind.now c.requires.chain c.requires.full c.requires.small p.ensures.kept p.ensures.others p.ensures.load

pub returns : goal.returns
returns c =
    let p = c.put in
    let w = c.write-after in
    filled_two c.args.cells.now p.new.cells c.args.first c.args.front.now c.args.behind.now c.requires.chain c.requires.full c.requires.small p.ensures.kept p.ensures.others p.ensures.load w.new.cells w.result w.ensures.kept w.ensures.next w.ensures.bytes w.ensures.frame
