use Rattle.std.proofs.Common.{◌≡◌, None, Some, inr, ap, ◌∙◌}
use Rattle.kt_records.specs.Reading.{record_of}
use Rattle.kt_journal.specs.Frames.{body_at}
use Rattle.kt_journal.specs.Log.{following}
use Rattle.kt_journal.proofs.Frames.{body_again}
use Rattle.kt_journal.proofs.reading.next_record.Goals as goal

pub returns-else-branch : goal.returns-else-branch
returns-else-branch c = λ before tracks.
    let payload = c.in-Some.payload.now in
    let rest = c.in-Some.field-0-1.now in
    let some : body_at c.args.bytes.now ≡ Some (payload, rest) = ap body_at c.in-Some.ensures.found.0 ∙ body_again payload rest c.in-Some.ensures.found.1 in
    let none : following before (record_of payload) ≡ None = rw c.if-branch.false at (c.in_ok-following_record.ensures before tracks) in
    inr (payload, rest, some, none)
