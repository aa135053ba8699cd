use Rattle.std.proofs.Common.{ap, subst, ◌∙◌, arith}
use Rattle.kt_bytes.specs.Reading.{Answers}
use Rattle.kt_records.specs.Reading.{record_of}
use Rattle.kt_records.proofs.Records.{is_found, is_placed, record_again}
use Rattle.kt_records.proofs.reading.read_record.Goals as goal

pub returns-clause-found : goal.returns-clause-found
returns-clause-found c = is_found c.args.bytes.now c.record_from.result (λ i. omega (arith, c.type_inv.bytes i)) c.record_from.ensures

pub returns-clause-only : goal.returns-clause-only
returns-clause-only c = λ entry fits e. subst (λ read. Answers c.record_from.result read) (ap record_of e ∙ record_again entry fits) c.record_from.ensures

pub returns-clause-place : goal.returns-clause-place
returns-clause-place c = is_placed c.args.bytes.now c.record_from.result (λ i. omega (arith, c.type_inv.bytes i)) c.record_from.ensures
