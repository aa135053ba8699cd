use Rattle.std.proofs.Common.{◌≡◌, ◌<◌, ◌∙◌, List, length, get_or, set, ap, subst, arith}
use Rattle.kt_merge.specs.declared.heads.Head.{Head}
use Rattle.kt_merge.proofs.HeadsTaken.{passed_next}
use Rattle.kt_merge.proofs.heads.pass_key.Goals as goal

pub heads-preserved : goal.heads-preserved
heads-preserved c =
    let all = c.args.heads.now.items in
    let q = c.args.key.now in
    let i = c.heads.at in
    let so = c.heads.invariant in
    let x = c.index.result.now in
    let y = c.index_mut.result.now in
    let low : i < length all = omega (arith, c.heads-test.true, c.len-at-end.ensures, c.args.heads.now.ok) in
    let new : Head = record { source = y.source; key = c.in_ok-next.next } in
    ap (λ (l : List Head). set l i new) so
    ∙ passed_next q all i x y c.in_ok-next.next low (subst (λ (l : List Head). x ≡ get_or l i x) so c.index.ensures) (subst (λ (l : List Head). y ≡ get_or l i y) so c.index_mut.ensures.value) c.in_ok-next.ensures
