use Rattle.std.proofs.Common.{◌+◌, length, refl, arith}
use Rattle.std.specs.List.{between}
use Rattle.std.specs.Option.{option_copied}
use Rattle.std.proofs.lemmas.Bool.{ltb-true, ltb-false}
use Rattle.kt_diskrowset.specs.Data.{keys_of}
use Rattle.kt_diskrowset.specs.Page.{told_at, rows_under}
use Rattle.kt_diskrowset.proofs.Pages.{held_pieces, held_shows, page_is}
use Rattle.kt_diskrowset.proofs.data.RowSetData.page.Goals as goal

pub lines_of-requires : goal.lines_of-requires
lines_of-requires c =
    let d = c.args.self.now in
    let end = c.place_above-start.result + c.min.result in
    held_pieces c.args.columns.now (rows_under (told_at c.args.t d) (between c.place_above-start.result end (keys_of d))) c.in_ok-gathered.gathered (length c.args.columns.now) c.len.result c.deref.result.now c.in_ok-gathered.ensures refl c.len.ensures c.deref.ensures.value

pub returns : goal.returns
returns c =
    let d = c.args.self.now in
    let start = c.place_above-start.result in
    let end = c.place_above-start.result + c.min.result in
    let told = rows_under (told_at c.args.t d) (between start end (keys_of d)) in
    page_is d c.args.t (option_copied c.args.after) c.args.columns.now start end _ (omega arith) (omega arith) c.place_above-start.ensures.behind (omega arith)
    (λ e. let le = ltb-false end c.rows-count.result e in omega arith)
    (λ e. (let lt = ltb-true end c.rows-count.result e in omega arith, c.in_ok-last.ensures e))
    (held_shows c.args.columns.now told c.in_ok-gathered.gathered (length c.args.columns.now) c.len.result c.deref.result.now c.in_ok-gathered.ensures refl c.len.ensures c.deref.ensures.value _ refl c.in_ok-rows.ensures)
