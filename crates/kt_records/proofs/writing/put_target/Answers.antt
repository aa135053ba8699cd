use Rattle.kt_records.proofs.Items.{tagged}
use Rattle.kt_records.proofs.writing.put_target.Goals as goal

pub returns-in_ok-extend-in-Delta-2-clause-ok : goal.returns-in_ok-extend-in-Delta-2-clause-ok
returns-in_ok-extend-in-Delta-2-clause-ok c = rw c.in-Delta.is (tagged _ _ _ _ _ _ _ _ _ c.in_ok-push-in-Delta.ensures.ok c.in_ok-extend-in-Delta.ensures.ok c.in_ok-extend-in-Delta-2.ensures.ok c.to_le_bytes-in-Delta.ensures c.to_le_bytes-in-Delta-2.ensures)
