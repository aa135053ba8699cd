use Rattle.kt_content.proofs.FreshNumbers.{memrowset_frozen, deltamemstore_frozen, outputs_fresh, gone_fresh, job_fresh}
use Rattle.kt_content.proofs.recoverable.numbers_law.Goals as goal

pub returns : goal.returns
returns c = record { memrowset = memrowset_frozen; deltamemstore = deltamemstore_frozen; outputs = outputs_fresh; gone = gone_fresh; job = job_fresh }
