use Rattle.std.proofs.Common.{◌≡◌, ◌≤◌, ◌++◌, List, ℕ, [], length, take}
use Rattle.kt_front.specs.Walking.{IsBlock, behind}
use Rattle.kt_front.proofs.walking.push_items.Given as goal

abbrev pub invariant-loop : goal.invariant-loop
invariant-loop l = (items : List (List ℕ)) → IsBlock l.bytes items → l.n ≤ length items → (l.rest ≡ behind l.counter 0 [] items) × (l.out ≡ l.initial.out ++ take l.counter items)
