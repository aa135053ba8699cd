use Rattle.std.proofs.Common.{◌≡◌, ◌≤◌, ◌∙◌, ℕ, Bool, Option, Some, None, is_some, refl, sym, ap, subst}
use Rattle.std.specs.Option.{option_map}
use Rattle.kt_history.specs.declared.operation.RowOp.{RowOp}
use Rattle.kt_history.specs.declared.target.Kindly.{Kindly}
use Rattle.kt_history.specs.declared.target.Target.{Target}
use Rattle.kt_history.specs.declared.target.Target.TheVariants.{Mem}
use Rattle.kt_history.specs.Rows.{Row}
use Rattle.kt_history.specs.Stores.{kind_made, share}
use Rattle.kt_pool.specs.Contents.{Contents}
use Rattle.kt_memrowset.specs.declared.store.MemRowSet.{MemRowSet}
use Rattle.kt_memrowset.specs.Stores as mem
use Rattle.kt_memrowset.specs.Taking.{JoinsIf}
use Rattle.kt_reopen.specs.declared.stores.Opening.{Opening}
use Rattle.kt_reopen.specs.Standing.{placed, AreKeptIn}
use Rattle.kt_reopen.specs.Steps.{had_at}
use Rattle.kt_reopen.specs.Walks.{FitsAt}
use Rattle.kt_reopen.proofs.Doing.{fits_none, fits_done}
use Rattle.kt_reopen.proofs.Growing.{mem_joined}
use Rattle.kt_reopen.proofs.Had.{mem_had}
use Rattle.kt_reopen.proofs.stores.Opening.take_in_mem.Goals as goal

-- whether the MemRowSet took a change is whether it names itself
took : (o : Opening) (ts : ℕ) (op : RowOp) (there : Bool) (t : MemRowSet) (new : Contents) (name : Target) (r : Option Target) (made : Option Kindly)
    → ((fill : Row) → had_at ts op.key 0 (placed fill o) ≡ Some there) → kind_made op.kind there ≡ made → AreKeptIn o → share op ≤ o.pool.reserved → JoinsIf o.mem t o.pool new op ts made → r ≡ option_map (λ _. name) made
    → FitsAt o (record { mem = t; rowsets = o.rowsets; pool = new }) 0 ts op (is_some r)
took o ts op there t new name r None found made kept enough joins is =
    let after : Opening = record { mem = t; rowsets = o.rowsets; pool = new } in
    subst (λ (r : Option Target). FitsAt o after 0 ts op (is_some r)) (sym is) (fits_none o 0 ts op there found after made)
took o ts op there t new name r (Some kind) found made kept enough joins is =
    let after : Opening = record { mem = t; rowsets = o.rowsets; pool = new } in
    subst (λ (r : Option Target). FitsAt o after 0 ts op (is_some r)) (sym is) (fits_done o after 0 ts op there kind found made (λ _. refl) (mem_joined o ts op kind kept enough t new joins))

pub returns : goal.returns
returns c =
    let o = c.args.self.now in
    let op = c.args.op.now in
    let there = c.take.result.there in
    let found : (fill : Row) → had_at c.args.ts op.key 0 (placed fill o) ≡ Some there = λ fill. ap (λ (b : Bool). Some b) (mem_had fill c.args.ts op.key (mem.store_of o.mem o.pool) c.requires.under ∙ sym c.take.ensures.there) in
    subst (λ (b : Bool). FitsAt o (record { mem = c.take.new.self; rowsets = o.rowsets; pool = c.take.new.pool }) 0 c.args.ts op b) (sym c.is_some.ensures)
    (took o c.args.ts op there c.take.new.self c.take.new.pool (Mem (mem.number_of o.mem)) c.take.result.target (kind_made op.kind there) found refl c.requires.kept c.requires.reserved c.take.ensures.joins c.take.ensures.target)
