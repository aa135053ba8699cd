-- What an operation changes and needs.
use Rattle.std.proofs.Common.{◌≡◌, ℕ, zero, suc, ◌+◌, ◌*◌, ◌/◌, List, [], ◌∷◌, Option, Some, None, refl, sym, ap, ◌∙◌, arith, is_some, drop}
use Rattle.std.specs.Prelude.{slice_get}
use Rattle.std.specs.Option.{option_map}
use Rattle.std.proofs.lemmas.List.Sums.{sum_by-cons}
use Rattle.kt_history.specs.declared.operation.OpKind.{OpKind}
use Rattle.kt_history.specs.declared.operation.OpKind.TheVariants.{Insert, Upsert, Update, Delete, InsertIgnore, UpdateIgnore, DeleteIgnore}
use Rattle.kt_history.specs.declared.operation.RowOp.{RowOp}
use Rattle.kt_history.specs.Operations.{effect, need, op_len}
use Rattle.kt_history.specs.Rows.{Row}
use Rattle.kt_history.specs.Stores.{change_of, change_by, share, kind_made}
use Rattle.kt_tablet.specs.Filling.{filled_change}

none_is_some : (op : RowOp) → None ≡ Some op → ⊥
none_is_some op e = cc

some_is : (x op : RowOp) → Some x ≡ Some op → x ≡ op
some_is x op e = cc

-- filled, it is the change that the operation has on a row that is there as the store's is
pub change_alike : (fill : Row) (op : RowOp) (row : Option Row) → option_map (filled_change fill) (change_by op (is_some row)) ≡ (effect fill op.kind op.cells row).0
change_alike fill op row = by op.kind row
  where
    by : (k : OpKind) (row : Option Row) → option_map (filled_change fill) (option_map (λ kind. change_of kind op.cells) (kind_made k (is_some row))) ≡ (effect fill k op.cells row).0
    by Insert None = refl
    by Insert (Some r) = refl
    by Upsert None = refl
    by Upsert (Some r) = refl
    by Update None = refl
    by Update (Some r) = refl
    by Delete None = refl
    by Delete (Some r) = refl
    by InsertIgnore None = refl
    by InsertIgnore (Some r) = refl
    by UpdateIgnore None = refl
    by UpdateIgnore (Some r) = refl
    by DeleteIgnore None = refl
    by DeleteIgnore (Some r) = refl

-- what the rows from this one on need
pub need_at : (ops : List RowOp) (n : ℕ) (op : RowOp) → slice_get ops n ≡ Some op → need (drop n ops) ≡ 2 * share op + need (drop (n + 1) ops)
need_at [] n op h = absurd (none_is_some op h)
need_at (x ∷ ops) zero op h = sum_by-cons (λ (op : RowOp). 2 * ((op_len op + 55) / 56 + 4)) x ops ∙ ap (λ o. 2 * share o + need ops) (some_is x op h)
need_at (x ∷ ops) (suc n) op h = let e : suc n + 1 ≡ suc (n + 1) = omega arith in need_at ops n op h ∙ ap (λ m. 2 * share op + need (drop m (x ∷ ops))) (sym e)
