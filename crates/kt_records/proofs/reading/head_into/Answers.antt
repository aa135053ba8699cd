use Rattle.std.proofs.Common.{◌≡◌, length, ap, ◌∙◌}
use Rattle.kt_records.specs.Reading.{entry_at, replicate_at, commit_at}
use Rattle.kt_records.specs.Shared.{read_as}
use Rattle.kt_records.proofs.reading.head_into.Goals as goal

pub returns-in-Ok-Replicate-default-clause-read : goal.returns-in-Ok-Replicate-default-clause-read
returns-in-Ok-Replicate-default-clause-read c =
    let rest = c.in-Ok-Replicate-default.rest.now in
    let is : entry_at c.args.bytes.now ≡ replicate_at rest = c.in-Ok-Replicate-default.ensures.ok ∙ ap (λ w. read_as w rest) c.in-Ok-Replicate-default.field-0-0-is in
    rw is (c.replicate_into.ensures.read c.args.rows.now.items)

pub returns-in-Ok-Replicate-default-clause-newest : goal.returns-in-Ok-Replicate-default-clause-newest
returns-in-Ok-Replicate-default-clause-newest c = c.replicate_into.ensures.newest (length c.args.rows.now.items) c.args.rows.now.items

pub returns-in-Ok-Commit-default-clause-read : goal.returns-in-Ok-Commit-default-clause-read
returns-in-Ok-Commit-default-clause-read c =
    let rest = c.in-Ok-Commit-default.rest.now in
    let is : entry_at c.args.bytes.now ≡ commit_at rest = c.in-Ok-Commit-default.ensures.ok ∙ ap (λ w. read_as w rest) c.in-Ok-Commit-default.field-0-0-is in
    rw is (c.commit_into.ensures.read c.args.ops.now)

pub returns-in-Ok-Commit-default-clause-newest : goal.returns-in-Ok-Commit-default-clause-newest
returns-in-Ok-Commit-default-clause-newest c = c.commit_into.ensures.newest (length c.args.ops.now) c.args.ops.now
