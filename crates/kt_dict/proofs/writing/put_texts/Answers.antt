use Rattle.std.proofs.Common.{◌++◌, ◌∙◌, List, ℕ, [], ap, arith}
use Rattle.std.proofs.lemmas.List.{take_more}
use Rattle.kt_dict.specs.Writing.{text}
use Rattle.kt_dict.proofs.Sums.{entry_short, written_more}
use Rattle.kt_dict.proofs.writing.put_texts.Goals as goal

pub put_entry-requires : goal.put_entry-requires
put_entry-requires c = rw c.get.ensures (entry_short c.args.entries.now c.loop-i.i c.requires (omega arith))

pub loop-i-preserved : goal.loop-i-preserved
loop-i-preserved c = written_more text _ _ _ _ _ _ (take_more c.args.entries.now c.loop-i.i [] (omega arith)) c.loop-i.invariant (c.in-Ok.ensures ∙ ap (λ (t : List ℕ). c.loop-i.out.items ++ text t) c.get.ensures)
