use Rattle.std.proofs.Common.{◌≡◌, ℕ, Bool, List, ap, ◌∙◌, rules}
use Rattle.std.specs.Prelude.{not}
use Rattle.std.specs.Ordering.{is_lt}
use Rattle.std.specs.List.Sorted.{IsPartitionedBy}
use Rattle.std.proofs.lemmas.List.Sorted.{IsPartitionPoint-from_clause}
use Rattle.kt_history.specs.declared.changes.KeyChange.{KeyChange}
use Rattle.kt_history.specs.Rows.{key_cmp}
use Rattle.kt_history.specs.AsBytes.{change_at, changes_at}
use Rattle.kt_history.proofs.AsBytes.{parted, parted_at}
use Rattle.kt_history.proofs.change_list.ChangeList.count_not_above.Goals as goal

test : List ℕ → KeyChange → Bool
test q = λ c. not (is_lt (key_cmp q c.key))

pub returns-clause-parts : goal.returns-clause-parts
unfolding test
returns-clause-parts c =
    let bytes = c.as_slice-bytes.result.now in
    let heads = c.self.inside.heads.items in
    let view : changes_at bytes heads ≡ c.args.self.now = ap (λ (bs : List ℕ). changes_at bs heads) c.as_slice-bytes.ensures.value ∙ c.self.view_is in
    let parts : IsPartitionedBy (test c.args.key.now) c.args.self.now = c.requires in
    let parted_heads : IsPartitionedBy (λ h. test c.args.key.now (change_at bytes h)) c.deref.result.now = rw c.deref.ensures.value (parted (test c.args.key.now) bytes heads (rw view parts)) in
    let point = IsPartitionPoint-from_clause (λ h. test c.args.key.now (change_at bytes h)) _ _ c.partition_point.ensures.partitioned parted_heads (λ a r f k. search rules) in
    rw (← view) (parted_at (test c.args.key.now) bytes heads c.partition_point.result (rw c.deref.ensures.value at c.partition_point.ensures.bound) (rw c.deref.ensures.value at point))
