use Rattle.std.proofs.Common.{◌++◌, ◌∙◌, ℕ, [], ap, arith}
use Rattle.std.proofs.lemmas.List.{take_more}
use Rattle.kt_dict.specs.Spelling.{short, place, code}
use Rattle.kt_dict.proofs.Words.{nows, place-le}
use Rattle.kt_dict.proofs.Sums.{written_more}
use Rattle.kt_dict.proofs.writing.put_codes.Goals as goal

pub put_short-requires : goal.put_short-requires
put_short-requires c = omega (arith, c.requires, c.place_of.ensures, place-le (nows c.args.table.now.keys) c.get.result.now)

pub loop-i-preserved : goal.loop-i-preserved
loop-i-preserved c =
    let entries = nows c.args.table.now.keys in
    written_more (code entries) _ _ _ _ _ _ (take_more c.args.cells.now c.loop-i.i [] (omega arith)) c.loop-i.invariant (c.in-Ok.ensures ∙ ap (λ (k : ℕ). c.loop-i.out.items ++ short k) (c.place_of.ensures ∙ ap (place entries) c.get.ensures))
