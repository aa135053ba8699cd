use Rattle.std.proofs.Common.{List, ℕ, []}
use Rattle.std.specs.Borrow.{Bor}
use Rattle.std.proofs.lemmas.List.{map_more}
use Rattle.kt_dict.specs.Writing.{text}
use Rattle.kt_dict.proofs.Sums.{written_more}
use Rattle.kt_dict.proofs.writing.put_entries.Goals as goal

pub put_entry-requires : goal.put_entry-requires
put_entry-requires c = c.requires c.loop-bytes.bytes-index (record { ref_ptr = (0, 0); now = [] }) c.loop-bytes-test.true

pub loop-bytes-preserved : goal.loop-bytes-preserved
loop-bytes-preserved c =
    written_more text _ _ _ _ _ _ (map_more (λ (k : Bor (List ℕ)). k.now) c.args.entries.now c.loop-bytes.bytes-index (record { ref_ptr = (0, 0); now = [] }) c.loop-bytes-test.true) c.loop-bytes.invariant c.in-Ok.ensures
