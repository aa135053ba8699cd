use Rattle.std.proofs.Common.{◌++◌, refl, arith}
use Rattle.std.specs.Prelude.{codes}
use Rattle.std.specs.Fmt.{decimal}
use Rattle.kt_script.specs.OutForms.{LONG, IsCounted}
use Rattle.kt_script.proofs.OutForms.{word_spaced, chain_stop, chain_more}
use Rattle.kt_opening.proofs.line_fronts.write_front.Goals as goal

-- a number behind it
some : IsCounted (codes " ") LONG (codes " " ++ decimal 0)
some = (codes " ", decimal 0, refl, (0, omega arith, refl), refl)

pub returns-in-Err : goal.returns-in-Err
returns-in-Err c = chain_stop (codes "write ") LONG (IsCounted (codes " ") LONG) c.args.line.now c.in-Err.n (omega arith) (word_spaced (codes "") LONG) _ some c.in-Err.ensures

pub returns-in-Ok-counted_front : goal.returns-in-Ok-counted_front
returns-in-Ok-counted_front c = chain_more (codes "write ") LONG (IsCounted (codes " ") LONG) c.args.line.now c.in-Ok.n (omega arith) (word_spaced (codes "") LONG) c.split_at.result.1.now c.in-Ok-counted_front.n c.in-Ok.ensures c.split_at.ensures.back c.in-Ok-counted_front.ensures.0

pub returns-in-Err-counted_front : goal.returns-in-Err-counted_front
returns-in-Err-counted_front c = chain_more (codes "write ") LONG (IsCounted (codes " ") LONG) c.args.line.now c.in-Ok.n (omega arith) (word_spaced (codes "") LONG) c.split_at.result.1.now c.in-Err-counted_front.n c.in-Ok.ensures c.split_at.ensures.back c.in-Err-counted_front.ensures.0
