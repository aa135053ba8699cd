use Rattle.kt_dms.proofs.Frames.{is_still, deltas_still, had_still, owns_back, owns_on}
use Rattle.kt_dms.proofs.laws.frame_law.Goals as goal

pub returns : goal.returns
returns c = λ s old new st same. record {
  stands = is_still s old new st same;
  same = deltas_still s old new st same;
  owns = λ k. (owns_back s old new st same k, owns_on s old new st same k);
  had = had_still s old new st same;
}
