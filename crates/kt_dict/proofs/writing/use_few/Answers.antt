use Rattle.std.proofs.Common.{◌≡◌, ◌<◌, ◌∙◌, List, ℕ, length, get_or, [], ap, arith}
use Rattle.std.proofs.lemmas.List.{length-map}
use Rattle.std.specs.Borrow.{Bor}
use Rattle.kt_dict.specs.Spelling.{with_entry}
use Rattle.kt_dict.proofs.Words.{nows}
use Rattle.kt_dict.proofs.Short.{one_more, too_many}
use Rattle.kt_dict.proofs.writing.use_few.Goals as goal

pub returns-then-len-gt-MOST-clause-over : goal.returns-then-len-gt-MOST-clause-over
returns-then-len-gt-MOST-clause-over c =
    let keys = c.use_item.new.entries.keys in
    let known = nows c.loop-i.table.keys in
    let is : nows keys ≡ with_entry known (get_or c.args.cells.now c.loop-i.i []) = c.in-Ok.ensures.entries ∙ ap (with_entry known) c.get.ensures in
    let many : 4096 < length (nows keys) = omega (arith, c.if-len-gt-MOST.true, c.len.ensures.len, length-map keys (λ (k : Bor (List ℕ)). k.now)) in
    too_many c.args.cells.now known (nows keys) _ c.loop-i.i (omega arith) c.loop-i.invariant.so_far is many

pub loop-i-preserved : goal.loop-i-preserved
loop-i-preserved c =
    let keys = c.use_item.new.entries.keys in
    let known = nows c.loop-i.table.keys in
    record {
      so_far = one_more c.args.cells.now known (nows keys) _ c.loop-i.i (omega arith) c.loop-i.invariant.so_far (c.in-Ok.ensures.entries ∙ ap (with_entry known) c.get.ensures);
      few = omega (arith, c.if-len-gt-MOST.false, c.len.ensures.len, length-map keys (λ (k : Bor (List ℕ)). k.now));
    }
