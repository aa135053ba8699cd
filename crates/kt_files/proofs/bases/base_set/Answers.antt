use Rattle.std.proofs.Common.{◌≡◌, ◌-◌, ◌∙◌, ℕ, length, sym}
use Rattle.kt_baseset.specs.Reading.{IsFault}
use Rattle.kt_files.proofs.bases.base_set.Goals as goal

pub returns-in-Err-Place-clause-place : goal.returns-in-Err-Place-clause-place
returns-in-Err-Place-clause-place c at offset e =
    let name : c.args.file ≡ at = cc in
    let same : c.in-Err-Place.offset ≡ offset = cc in
    let own : (left : ℕ) × IsFault c.args.bytes.now left × (c.in-Err-Place.offset ≡ length c.args.bytes.now - left) = rw c.in-Err-Place.field-0-is at c.in-Err-Place.ensures.place in
    (sym name, record { left = own.0; fault = own.1; at = sym same ∙ own.2 })
