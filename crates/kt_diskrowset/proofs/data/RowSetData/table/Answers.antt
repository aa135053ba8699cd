use Rattle.std.proofs.Common.{ap, ◌∙◌}
use Rattle.std.specs.FinMap.Entries.{find, is_sorted}
use Rattle.kt_history.specs.Rows.{key_cmp}
use Rattle.kt_diskrowset.specs.Data.{keys_of}
use Rattle.kt_diskrowset.specs.Page.{told_at}
use Rattle.kt_diskrowset.proofs.Tables.{sorted_rows, told_rows}
use Rattle.kt_diskrowset.proofs.data.RowSetData.table.Goals as goal

pub of-requires : goal.of-requires
of-requires c =
    let d = c.args.self.now in
    ap (is_sorted key_cmp) c.in_ok-rows.ensures ∙ sorted_rows (told_at c.args.t d) (keys_of d) c.standing.ensures

pub returns : goal.returns
returns c =
    let d = c.args.self.now in
    λ key. ap (find key_cmp key) (c.of.ensures ∙ c.in_ok-rows.ensures) ∙ told_rows d c.args.t key
