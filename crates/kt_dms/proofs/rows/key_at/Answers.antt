use Rattle.std.proofs.Common.{◌≤◌, ◌∙◌, arith, length}
use Rattle.std.proofs.lemmas.List.{take_all}
use Rattle.kt_pool.specs.Contents.{bytes_at}
use Rattle.kt_dms.proofs.rows.key_at.Goals as goal

pub returns : goal.returns
returns c =
    let all : length (bytes_at c.args.pool.now c.args.place.cell) ≤ 12 = omega arith in
    c.copy_from_slice.ensures.after ∙ c.front.ensures ∙ take_all 12 (bytes_at c.args.pool.now c.args.place.cell) all
