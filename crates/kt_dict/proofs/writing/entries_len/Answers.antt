use Rattle.std.proofs.Common.{arith, []}
use Rattle.kt_dict.proofs.Short.{entries_more}
use Rattle.kt_dict.proofs.writing.entries_len.Goals as goal

pub loop-bytes-preserved : goal.loop-bytes-preserved
loop-bytes-preserved c =
    record {
      so_far = omega (arith, c.loop-bytes.invariant.so_far, entries_more c.args.entries.now c.loop-bytes.bytes-index (record { ref_ptr = (0, 0); now = [] }) c.loop-bytes-test.true);
      most = omega (arith, c.loop-bytes.invariant.most, c.requires.small c.loop-bytes.bytes-index (record { ref_ptr = (0, 0); now = [] }) c.loop-bytes-test.true);
    }
