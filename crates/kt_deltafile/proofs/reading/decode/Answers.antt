use Rattle.std.proofs.Common.{◌≡◌, ◌-◌, length, Ok, Err, ap, subst, arith}
use Rattle.kt_bytes.specs.Places.{IsFault}
use Rattle.kt_bytes.specs.Reading.{with_offset}
use Rattle.kt_bytes.proofs.Numbers.{IsBytes}
use Rattle.kt_deltafile.specs.File.{FileView}
use Rattle.kt_deltafile.specs.Fields.{Spelled}
use Rattle.kt_deltafile.specs.Reading.{whole_at}
use Rattle.kt_deltafile.proofs.Files.{whole_takes, read_found, read_only, not_refused, file_place}
use Rattle.kt_deltafile.proofs.Sorted.{is_file}
use Rattle.kt_deltafile.proofs.reading.decode.Goals as goal

pub of-requires : goal.of-requires
of-requires c =
    let t = whole_takes c.args.rows c.args.bytes.now (record { way = c.in-Ok.way; list = c.in-Ok.list }) (λ i. omega (arith, c.type_inv.bytes i)) c.in-Ok.ensures in
    is_file c.in-Ok.way c.args.rows c.in-Ok.list (omega arith) t.0

pub returns-in-Ok-clause-found : goal.returns-in-Ok-clause-found
returns-in-Ok-clause-found c = read_found c.args.rows c.args.bytes.now c.of.result c.in-Ok.way c.in-Ok.list (λ i. omega (arith, c.type_inv.bytes i)) c.in-Ok.ensures c.of.ensures.way c.of.ensures.list

pub returns-in-Ok-clause-only : goal.returns-in-Ok-clause-only
returns-in-Ok-clause-only c = λ way list fits e. ap (λ (f : FileView). Ok f) (read_only c.args.rows c.args.bytes.now c.of.result c.in-Ok.way c.in-Ok.list (record { way = way; list = list }) c.in-Ok.ensures c.of.ensures.way c.of.ensures.list fits e)

pub returns-in-Err-Left-clause-only : goal.returns-in-Err-Left-clause-only
returns-in-Err-Left-clause-only c = λ way list fits e. absurd (not_refused c.args.rows c.args.bytes.now c.in-Err-Left.left (record { way = way; list = list }) (rw c.in-Err-Left.field-0-is at c.in-Err-Left.ensures) fits e)

pub returns-in-Err-Left-clause-place : goal.returns-in-Err-Left-clause-place
returns-in-Err-Left-clause-place c =
    let fits : IsBytes c.args.bytes.now = λ i. omega (arith, c.type_inv.bytes i) in
    let read : whole_at c.args.rows c.args.bytes.now ≡ Err c.in-Err-Left.left = rw c.in-Err-Left.field-0-is at c.in-Err-Left.ensures in
    let at : length c.args.bytes.now - c.in-Err-Left.left ≡ c.saturating_sub-offset.result = omega arith in
    subst (IsFault (Spelled c.args.rows) c.args.bytes.now) at (file_place c.args.rows c.args.bytes.now (length c.args.bytes.now - c.in-Err-Left.left) fits (ap (with_offset (length c.args.bytes.now)) read))
