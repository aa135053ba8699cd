use Rattle.std.proofs.Common.{◌≡◌, ◌<◌, List, ℕ, [], length}
use Rattle.kt_front.specs.Walking.{IsBlock, behind, before_at}
use Rattle.kt_front.proofs.walking.copy_in.Given as goal

abbrev pub invariant-loop : goal.invariant-loop
invariant-loop l = (items : List (List ℕ)) → IsBlock l.bytes items → l.k < length items → (l.rest ≡ behind l.counter 0 [] items) × (l.out ≡ before_at l.counter [] items)
