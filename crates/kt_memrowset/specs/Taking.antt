-- What a store does with an operation, by its kind and whether its row is there.
use Rattle.std.specs.Prelude.{◌≡◌, ℕ, List, [], Option, Some, None}
use Rattle.kt_history.specs.declared.operation.RowOp.{RowOp}
use Rattle.kt_history.specs.declared.target.Kindly.{Kindly}
use Rattle.kt_pool.specs.Contents.{Contents}
use Rattle.kt_pool.specs.declared.place.Place.{Place}
use Rattle.kt_memrowset.specs.Links.{Link, chain}
use Rattle.kt_memrowset.specs.Stores.{Joins}
use Rattle.kt_memrowset.specs.declared.store.MemRowSet.{MemRowSet}

-- the changes of a row whose first one is placed here, if it has any
abbrev pub links_from : Contents → Option Place → List Link
links_from pool None = []
links_from pool (Some first) = chain pool first.cell

-- the operation's change of this kind has joined the store; or there was none, and nothing has changed
abbrev pub JoinsIf : MemRowSet → MemRowSet → Contents → Contents → RowOp → ℕ → Option Kindly → Type 0
JoinsIf s t old new op ts None = (t ≡ s) × (new ≡ old)
JoinsIf s t old new op ts (Some kind) = Joins s t old new op ts kind
