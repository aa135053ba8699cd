use Rattle.std.proofs.Common.{◌-◌, ◌<◌, length, arith}
use Rattle.std.proofs.lemmas.Bool.{ltb-true}
use Rattle.kt_deltafile.proofs.Sorted.{ordinal_is, all_before, all_behind}
use Rattle.kt_deltafile.proofs.file.is_first.Goals as goal

pub returns-then-at-eq0-clause-behind : goal.returns-then-at-eq0-clause-behind
returns-then-at-eq0-clause-behind c = λ is.
    let list = c.args.records.now in
    let at = c.args.at in
    let here = ordinal_is list at c.index-records-at.result (omega (arith, c.if-at-records.false)) in
    all_behind list c.args.ordinal at c.requires (omega (arith, here, c.from.ensures, c.if-from-ordinal.false))

pub returns : goal.returns
returns c =
    let list = c.args.records.now in
    let at = c.args.at in
    let within : at < length list = omega (arith, c.if-at-records.false) in
    let some : 0 < at = omega (arith, c.if-at-eq0.false) in
    let here = ordinal_is list at c.index-records-at.result within in
    let before = ordinal_is list (at - 1) c.index-records-at-2.result (omega (arith, within, some)) in
    record {
      within = λ is. within;
      before = λ is i lt. all_before list c.args.ordinal (at - 1) c.requires (omega (arith, within, some)) (omega (arith, before, c.from-2.ensures, ltb-true c.from-2.result c.args.ordinal is)) i (omega (arith, lt, some));
      behind = λ is. all_behind list c.args.ordinal at c.requires (omega (arith, here, c.from.ensures, c.if-from-ordinal.false));
    }
