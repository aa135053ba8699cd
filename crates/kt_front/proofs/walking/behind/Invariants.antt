use Rattle.std.proofs.Common.{◌≡◌, ◌≤◌, List, ℕ, [], length}
use Rattle.kt_front.specs.Walking.{IsBlock, behind}
use Rattle.kt_front.proofs.walking.behind.Given as goal

abbrev pub invariant-loop : goal.invariant-loop
invariant-loop l = record {
  there : (items : List (List ℕ)) → IsBlock l.bytes items → l.n ≤ length items → l.rest ≡ behind l.counter 0 [] items;
  within : length l.rest ≤ length l.bytes;
}
