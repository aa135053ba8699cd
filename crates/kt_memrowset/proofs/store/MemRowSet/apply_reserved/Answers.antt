use Rattle.std.proofs.Common.{◌∙◌, List, ℕ, ap, subst}
use Rattle.std.specs.Option.{option_map}
use Rattle.kt_tree.specs.Entries.{value_of}
use Rattle.kt_tree.specs.Trees.{IsSeat, entries, place_at}
use Rattle.kt_memrowset.proofs.store.MemRowSet.apply_reserved.Goals as goal

pub join-requires-clause-found : goal.join-requires-clause-found
join-requires-clause-found c = c.seek-seat.ensures.value ∙ ap (λ (k : List ℕ). option_map place_at (value_of k (entries c.args.self.now.tree c.args.pool.now))) c.key.ensures

pub join-requires-clause-seat : goal.join-requires-clause-seat
join-requires-clause-seat c = subst (λ (k : List ℕ). IsSeat c.args.self.now.tree c.args.pool.now k c.seek-seat.result) c.key.ensures c.seek-seat.ensures.seat
