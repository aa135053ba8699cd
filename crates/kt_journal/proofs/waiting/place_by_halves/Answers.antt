use Rattle.std.proofs.Common.{◌≡◌, ℕ, List, Option, None, sym, ap, ◌∙◌, subst, rules, arith}
use Rattle.std.specs.Prelude.{nat_lt, IfNone}
use Rattle.std.proofs.lemmas.Bool.{false≢true}
use Rattle.std.proofs.lemmas.List.{get_or_default}
use Rattle.std.proofs.lemmas.List.Sorted.{IsPartitionPoint-from_clause, IsPartitionedBy-ltb}
use Rattle.kt_journal.specs.declared.waiting.Held.{Held}
use Rattle.kt_journal.specs.Waiting.{number_in}
use Rattle.kt_journal.proofs.Waits.{missing, searched}
use Rattle.kt_journal.proofs.waiting.place_by_halves.Goals as goal

pub returns-in_err-here-clause-none : goal.returns-in_err-here-clause-none
returns-in_err-here-clause-none c =
    let held : List Held = c.args.held.now.items in
    subst (λ (r : Option ℕ). IfNone r (number_in held c.args.ts ≡ None)) (sym c.from_residual.ensures)
    (missing held c.partition_point-at.result c.args.ts c.requires
    (IsPartitionPoint-from_clause (λ (a : Held). nat_lt a.ts c.args.ts) _ _ c.partition_point-at.ensures.partitioned (IsPartitionedBy-ltb (λ (a : Held). a.ts) held c.args.ts (searched held c.requires)) (λ a r q k. search rules))
    (λ d lt is. false≢true (c.in_err-here.ensures.variant.1 (omega arith))))

pub returns-else-here-ts-clause-none : goal.returns-else-here-ts-clause-none
returns-else-here-ts-clause-none c =
    let held : List Held = c.args.held.now.items in
    missing held c.partition_point-at.result c.args.ts c.requires
    (IsPartitionPoint-from_clause (λ (a : Held). nat_lt a.ts c.args.ts) _ _ c.partition_point-at.ensures.partitioned (IsPartitionedBy-ltb (λ (a : Held). a.ts) held c.args.ts (searched held c.requires)) (λ a r q k. search rules))
    (λ d lt is. c.if-here-ts.false (ap (λ (h : Held). h.ts) (c.in_ok-here.ensures.lookup ∙ get_or_default held c.partition_point-at.result c.in_ok-here.here.now d lt) ∙ is))
