use Rattle.std.proofs.Common.{ℕ, List, ◌++◌, sym, ◌∙◌, ap}
use Rattle.std.specs.Ordering.{is_eq, nat_cmp}
use Rattle.std.specs.Map.{lookup}
use Rattle.std.proofs.lemmas.List.{append-nil}
use Rattle.kt_disk.proofs.Listed.{pairs, listed_pairs}
use Rattle.kt_disk.proofs.crash.list_of.Goals as goal

pub returns : goal.returns
returns c n =
    let list = c.loop-file.list.items in
    listed_pairs list n
    ∙ ap (λ (es : List (ℕ × List ℕ)). lookup (λ k. is_eq (nat_cmp n k)) es)
    (sym (append-nil (pairs list)) ∙ ap (λ (es : List (ℕ × List ℕ)). pairs list ++ es) (sym c.in-None.ensures.steps.0) ∙ c.loop-file.invariant)
