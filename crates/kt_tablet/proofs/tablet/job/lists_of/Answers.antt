use Rattle.std.proofs.Common.{◌+◌, ◌++◌, ◌∷◌, [], suc, List, ℕ, map, take, refl, sym, ap, ◌∙◌, arith}
use Rattle.kt_history.specs.declared.changes.KeyChange.{KeyChange}
use Rattle.kt_history.specs.Stores.{changes_upto}
use Rattle.kt_stores.specs.Shelf.{stores_of}
use Rattle.kt_tablet.proofs.InMemory.{next_list}
use Rattle.kt_tablet.proofs.tablet.job.lists_of.Goals as goal

pub frozen-init : goal.frozen-init
frozen-init g c =
    c.in_ok-push.ensures.items ∙ ap (λ (l : List (List KeyChange)). l ++ c.in_ok-changes.field-0 ∷ []) c.new-lists.ensures.items
    ∙ sym (next_list c.args.upto 0 0 (stores_of c.args.stores.now) c.in_ok-changes.field-0 refl c.in_ok-changes.ensures)

pub frozen-preserved : goal.frozen-preserved
frozen-preserved g c =
    c.in_ok-push-2.ensures.items ∙ ap (λ (l : List (List KeyChange)). l ++ c.in_ok-changes-2.field-0 ∷ []) c.frozen.invariant
    ∙ sym (next_list c.args.upto (suc c.frozen.at) (c.frozen.at + 1) (stores_of c.args.stores.now) c.in_ok-changes-2.field-0 (omega arith) c.in_ok-changes-2.ensures)

pub returns : goal.returns
returns g c = c.frozen.invariant ∙ ap (λ (n : ℕ). map (changes_upto c.args.upto) (take (suc n) (stores_of c.args.stores.now))) (omega arith)
