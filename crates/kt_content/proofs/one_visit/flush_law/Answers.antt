use Rattle.kt_content.proofs.Flushes.{publishes, flush_stands}
use Rattle.kt_content.proofs.one_visit.flush_law.Goals as goal

pub returns-clause-publishes : goal.returns-clause-publishes
returns-clause-publishes c = publishes

pub returns-clause-stands : goal.returns-clause-stands
returns-clause-stands c = flush_stands
