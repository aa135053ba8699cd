use Rattle.std.proofs.Common.{Option, Some, ℕ, sym, ap, ◌∙◌}
use Rattle.std.specs.Option.{option_or}
use Rattle.kt_baseset.specs.Tables.{cells_in}
use Rattle.kt_history.specs.Rows.{Row}
use Rattle.kt_history.specs.Stores.{Hist}
use Rattle.kt_rowfiles.specs.Files.{row_with}
use Rattle.kt_diskrowset.specs.First.{first_above}
use Rattle.kt_diskrowset.specs.Rows.{hist_found}
use Rattle.kt_diskrowset.specs.Rowset.{files_of, fresh_of}
use Rattle.kt_diskrowset.proofs.Firsts.{first-append, none_first}
use Rattle.kt_diskrowset.proofs.Histories.{hist_is}
use Rattle.kt_diskrowset.proofs.rowset.DiskRowSet.first_above.Goals as goal

pub returns-in-Some : goal.returns-in-Some
returns-in-Some c =
    let s = c.args.self.now in
    let files = files_of s in
    let fresh = fresh_of s c.args.pool.now in
    let n = c.in-Some.ordinal in
    let found : ℕ × Row = (n, cells_in s.base.set.value.rows n) in
    let before = (row_with files (Some found)).steps in
    c.first_fresh.ensures
    ∙ sym (ap (λ (h : Hist). first_above c.args.above h.steps) (hist_is files fresh c.args.key.now ∙ ap (hist_found files fresh) c.in-Some.ensures.row.1)
    ∙ first-append c.args.above before (fresh n) ∙ ap (λ (o : Option ℕ). option_or o (first_above c.args.above (fresh n))) (none_first c.args.above before (c.requires.files found)))

pub returns-in-None : goal.returns-in-None
returns-in-None c =
    let s = c.args.self.now in
    let files = files_of s in
    let fresh = fresh_of s c.args.pool.now in
    sym (ap (λ (h : Hist). first_above c.args.above h.steps) (hist_is files fresh c.args.key.now ∙ ap (hist_found files fresh) c.in-None.ensures.row))
