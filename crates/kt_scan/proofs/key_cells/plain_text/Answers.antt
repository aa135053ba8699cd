use Rattle.kt_scan.proofs.KeyTexts.{plain_end}
use Rattle.kt_scan.proofs.key_cells.plain_text.Goals as goal

pub returns-in-End : goal.returns-in-End
returns-in-End c = plain_end c.args.bytes.now c.split_at.result.0.now c.split_at.result.1.now c.split_at-in-End.result.1.now c.in-Some.zero c.in-Some.ensures c.split_at.ensures.front c.split_at.ensures.back c.split_at-in-End.ensures.back c.in-End.ensures.1
