use Rattle.std.proofs.Common.{◌≡◌, ◌≤◌, ◌<◌, List, ℕ, [], length}
use Rattle.kt_front.specs.Walking.{IsBlock, behind, Meets, before_at}
use Rattle.kt_front.proofs.walking.order_in.Given as goal

abbrev pub invariant-loop : goal.invariant-loop
invariant-loop l = record {
  within : l.meeting.matched ≤ length l.key;
  so_far : (items : List (List ℕ)) → IsBlock l.bytes items → l.k < length items → (l.rest ≡ behind l.counter 0 [] items) × Meets l.meeting.matched l.meeting.way (before_at l.counter [] items) l.key;
}
