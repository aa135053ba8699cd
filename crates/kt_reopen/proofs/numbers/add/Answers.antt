use Rattle.std.proofs.Common.{◌∙◌, max, unwrap_or, ap, cond, Some}
use Rattle.std.specs.Prelude.{◌==◌}
use Rattle.std.specs.Ordering.{nat_cmp}
use Rattle.std.specs.BTreeMap.{get}
use Rattle.kt_reopen.proofs.Placing.{at_is}
use Rattle.kt_reopen.proofs.Adding.{mem_added, dms_added, put_or}
use Rattle.kt_reopen.proofs.numbers.add.Goals as goal

pub returns-in-Mem : goal.returns-in-Mem
returns-in-Mem c targets h = rw c.in-Mem.is (mem_added c.args.named.now.mem c.args.named.now.next c.in-Mem.number c.max-named.result _ targets c.max-named.ensures h)

pub returns-in_ok-insert-in-Delta : goal.returns-in_ok-insert-in-Delta
returns-in_ok-insert-in-Delta c targets h =
    let old = c.args.named.now in
    let s = c.in-Delta.rowset in
    let n = c.in-Delta.dms in
    let greatest = c.max-greatest.result in
    rw c.in-Delta.is (dms_added old.mem old.next s n c.max-named-in-Delta.result greatest (λ r. unwrap_or (get nat_cmp old.dms r) 0) _ targets
    (c.max-named-in-Delta.ensures ∙ ap (max old.next) c.saturating_add.ensures)
    (c.max-greatest.ensures ∙ ap (λ x. max x n) (c.unwrap_or.ensures ∙ ap (λ o. unwrap_or o 0) (c.copied.ensures ∙ c.get.ensures.value)))
    (λ r. ap (λ o. unwrap_or o 0) (c.in_ok-insert-in-Delta.ensures.updates.0 r ∙ ap (λ b. cond b (Some greatest) (get nat_cmp old.dms r)) (at_is s r)) ∙ put_or (s == r) greatest (get nat_cmp old.dms r))
    h)
