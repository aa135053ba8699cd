use Rattle.kt_column.specs.Held.{cells_of}
use Rattle.kt_column.proofs.Bodies.{body_form, body_found, body_only, body_stop}
use Rattle.kt_column.proofs.decoding.body.Goals as goal

pub block_of-requires-clause-stands : goal.block_of-requires-clause-stands
block_of-requires-clause-stands c = (c.in-Ok.ensures.found.values, (c.requires.open, c.in-Ok.ensures.found.encoded))

pub returns-in-Ok-clause-form : goal.returns-in-Ok-clause-form
returns-in-Ok-clause-form c = body_form c.args.form (cells_of c.args.form c.in-Ok.read.nulls c.in-Ok.read.values) c.block_of.result c.block_of.ensures.found

pub returns-in-Ok-clause-found : goal.returns-in-Ok-clause-found
returns-in-Ok-clause-found c =
    body_found c.args.form c.args.head.encoding c.args.n c.args.head.len c.args.head.rest.now (cells_of c.args.form c.in-Ok.read.nulls c.in-Ok.read.values) c.block_of.result c.in-Ok.ensures.within c.in-Ok.ensures.found c.block_of.ensures.found c.block_of.ensures.yes

pub returns-in-Ok-clause-only : goal.returns-in-Ok-clause-only
returns-in-Ok-clause-only c cs b =
    body_only c.args.form c.args.head.encoding c.args.n c.args.head.len c.args.head.rest.now (cells_of c.args.form c.in-Ok.read.nulls c.in-Ok.read.values) cs c.block_of.result c.requires.open (c.in-Ok.ensures.only cs b.within b.content) b c.block_of.ensures.found c.block_of.ensures.no

pub returns-in-Ok-clause-stop : goal.returns-in-Ok-clause-stop
returns-in-Ok-clause-stop c =
    body_stop c.args.form c.args.head.encoding c.args.n c.args.head.len c.args.head.rest.now (cells_of c.args.form c.in-Ok.read.nulls c.in-Ok.read.values) c.block_of.result c.in-Ok.ensures.within c.in-Ok.ensures.found c.block_of.ensures.no

pub returns-in-Err-clause-only : goal.returns-in-Err-clause-only
returns-in-Err-clause-only c cs b = c.in-Err.ensures.only cs b.within b.content
