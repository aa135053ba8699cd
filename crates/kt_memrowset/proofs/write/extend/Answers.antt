use Rattle.kt_memrowset.specs.Links.{link_at}
use Rattle.kt_memrowset.proofs.Extending.{last_room, head_room, chain_extended}
use Rattle.kt_memrowset.proofs.write.extend.Goals as goal

pub set_number-requires-clause-stands : goal.set_number-requires-clause-stands
set_number-requires-clause-stands c = (last_room c.args.pool.now c.args.first c.last_of-last.result c.requires.row c.last_of-last.ensures).0

pub set_number-requires-clause-within : goal.set_number-requires-clause-within
set_number-requires-clause-within c = (last_room c.args.pool.now c.args.first c.last_of-last.result c.requires.row c.last_of-last.ensures).1

pub set_number-requires-2-clause-stands : goal.set_number-requires-2-clause-stands
set_number-requires-2-clause-stands c = (head_room c.args.pool.now c.set_number.new.pool c.args.first c.last_of-last.result (link_at c.args.pool.now c.args.fresh) c.last_of-last.ensures c.set_number.ensures c.requires.row c.requires.alone c.requires.link).0

pub set_number-requires-2-clause-within : goal.set_number-requires-2-clause-within
set_number-requires-2-clause-within c = (head_room c.args.pool.now c.set_number.new.pool c.args.first c.last_of-last.result (link_at c.args.pool.now c.args.fresh) c.last_of-last.ensures c.set_number.ensures c.requires.row c.requires.alone c.requires.link).1

pub returns : goal.returns
returns c = chain_extended c.args.pool.now c.set_number.new.pool c.args.first c.last_of-last.result (link_at c.args.pool.now c.args.fresh) c.last_of-last.ensures c.set_number.ensures c.set_number-2.new.pool c.set_number-2.ensures c.requires.row c.requires.alone c.requires.link
