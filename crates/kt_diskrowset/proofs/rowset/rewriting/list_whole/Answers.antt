use Rattle.std.proofs.Common.{◌≡◌, ◌++◌, ◌∙◌, List, length, length-append, ap, arith}
use Rattle.std.specs.Prelude.{nat_le}
use Rattle.kt_history.specs.declared.changes.Delta.{Delta}
use Rattle.kt_dms.specs.Stores.{deltas_of, deltas_upto}
use Rattle.kt_diskrowset.proofs.Wholes.{filter_whole}
use Rattle.kt_diskrowset.proofs.rowset.rewriting.list_whole.Goals as goal

pub returns : goal.returns
returns c =
    let old = c.args.list.now.items in
    let deltas = deltas_of c.args.mem.now c.args.pool.now in
    let is = c.in_ok-list_changes.ensures in
    let long = ap length is ∙ length-append old (deltas_upto 18446744073709551615 deltas) in
    let count = c.len-2.ensures c.args.pool.now c.requires in
    let all : length (deltas_upto 18446744073709551615 deltas) ≡ length deltas = omega (arith, long, count, c.if-len-before.false, c.len-before.ensures, c.len.ensures) in
    is ∙ ap (λ (l : List Delta). old ++ l) (filter_whole (λ (d : Delta). nat_le d.ts 18446744073709551615) deltas all)
