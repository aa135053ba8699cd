use Rattle.std.proofs.Common.{◌∙◌, List, ℕ, ap, sym, subst}
use Rattle.std.specs.Option.{option_map}
use Rattle.kt_history.specs.declared.operation.OpKind.{OpKind}
use Rattle.kt_history.specs.Stores.{hist_in, last_row, kind_made}
use Rattle.kt_tree.specs.Entries.{value_of}
use Rattle.kt_tree.specs.Trees.{IsSeat, entries, place_at}
use Rattle.kt_memrowset.specs.Stores.{store_of}
use Rattle.kt_memrowset.proofs.Rows.{found_stands, found_live, made_fits}
use Rattle.kt_memrowset.proofs.store.MemRowSet.take.Goals as goal

pub is_live-there-requires : goal.is_live-there-requires
is_live-there-requires c = found_stands c.args.self.now c.args.pool.now c.args.op.now.key c.seek-seat.result.value c.requires.store (c.seek-seat.ensures.value ∙ ap (λ (k : List ℕ). option_map place_at (value_of k (entries c.args.self.now.tree c.args.pool.now))) c.key.ensures)

pub join-target-requires-clause-found : goal.join-target-requires-clause-found
join-target-requires-clause-found c = (c.seek-seat.ensures.value ∙ ap (λ (k : List ℕ). option_map place_at (value_of k (entries c.args.self.now.tree c.args.pool.now))) c.key.ensures)

pub join-target-requires-clause-seat : goal.join-target-requires-clause-seat
join-target-requires-clause-seat c = subst (λ (k : List ℕ). IsSeat c.args.self.now.tree c.args.pool.now k c.seek-seat.result) c.key.ensures c.seek-seat.ensures.seat

pub join-target-requires-clause-fits : goal.join-target-requires-clause-fits
join-target-requires-clause-fits c =
    let there = (found_live c.args.self.now c.args.pool.now c.args.op.now.key c.seek-seat.result.value c.is_live-there.result (c.seek-seat.ensures.value ∙ ap (λ (k : List ℕ). option_map place_at (value_of k (entries c.args.self.now.tree c.args.pool.now))) c.key.ensures) c.is_live-there.ensures) in
    made_fits c.args.op.now c.in-Some.kind (last_row (hist_in c.args.op.now.key (store_of c.args.self.now c.args.pool.now))) (ap (kind_made c.args.op.now.kind) (sym there) ∙ ap (λ (k : OpKind). kind_made k c.is_live-there.result) (sym c.kind.ensures) ∙ sym c.in-Some.ensures)

pub returns-clause-there : goal.returns-clause-there
returns-clause-there c = (found_live c.args.self.now c.args.pool.now c.args.op.now.key c.seek-seat.result.value c.is_live-there.result (c.seek-seat.ensures.value ∙ ap (λ (k : List ℕ). option_map place_at (value_of k (entries c.args.self.now.tree c.args.pool.now))) c.key.ensures) c.is_live-there.ensures)

pub returns-in_default-clause-there : goal.returns-in_default-clause-there
returns-in_default-clause-there c = (found_live c.args.self.now c.args.pool.now c.args.op.now.key c.seek-seat.result.value c.is_live-there.result (c.seek-seat.ensures.value ∙ ap (λ (k : List ℕ). option_map place_at (value_of k (entries c.args.self.now.tree c.args.pool.now))) c.key.ensures) c.is_live-there.ensures)
