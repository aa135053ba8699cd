-- What operations make of a row, whatever their kind: a change that fits it.
use Rattle.std.proofs.Common.{◌≡◌, ℕ, Some, None, Option, refl, true, false}
use Rattle.std.specs.Prelude.{is_some}
use Rattle.kt_history.specs.declared.change.Change.{Change}
use Rattle.kt_history.specs.declared.change.Change.TheVariants.{Ins, Upd, Del}
use Rattle.kt_history.specs.declared.operation.OpKind.{OpKind}
use Rattle.kt_history.specs.declared.operation.OpKind.TheVariants.{Insert, Upsert, Update, Delete, InsertIgnore, UpdateIgnore, DeleteIgnore}
use Rattle.kt_history.specs.Rows.{Row, fits}
use Rattle.kt_history.specs.Operations.{effect}
use Rattle.kt_histlaws.proofs.Fitting.{effect_fits}
use Rattle.kt_content.specs.Places.{Place, memory, disk}
use Rattle.kt_content.specs.KeyOps.{may_join}

-- a change of a row that is there is no insert, so each store may take it
pub there_may_join : (fill : Row) (kind : OpKind) (cells row : Row) (p : Place) → may_join p (effect fill kind cells (Some row)).0 ≡ (effect fill kind cells (Some row)).0
there_may_join fill kind cells row p = joins (effect fill kind cells (Some row)).0 (λ c e. effect_fits fill cells kind (Some row) c e) p
  where
    joins : (o : Option Change) → ((c : Change) → o ≡ Some c → fits c (Some row) ≡ true) → (p : Place) → may_join p o ≡ o
    joins None f p = refl
    joins (Some (Ins r)) f p = absurd (let g : false ≡ true = f (Ins r) refl in cc)
    joins (Some (Upd u)) f memory = refl
    joins (Some (Upd u)) f (disk r) = refl
    joins (Some Del) f memory = refl
    joins (Some Del) f (disk r) = refl

pub memory_may_join : (o : Option Change) → may_join memory o ≡ o
memory_may_join None = refl
memory_may_join (Some c) = refl

-- and one of a row that is not there is an insert, which a disk rowset does not take
pub none_joins : (fill : Row) (r : ℕ) (kind : OpKind) (cells : Row) → may_join (disk r) (effect fill kind cells None).0 ≡ None
none_joins fill r kind cells = apart (effect fill kind cells None).0 (λ c e. effect_fits fill cells kind None c e)
  where
    apart : (o : Option Change) → ((c : Change) → o ≡ Some c → fits c None ≡ true) → may_join (disk r) o ≡ None
    apart None f = refl
    apart (Some (Ins row)) f = refl
    apart (Some (Upd u)) f = absurd (let g : false ≡ true = f (Upd u) refl in cc)
    apart (Some Del) f = absurd (let g : false ≡ true = f Del refl in cc)

-- what fits a row that is there fits only where there is one
pub there_is_one : (fill : Row) (kind : OpKind) (cells row : Row) (c : Change) (o : Option Row) → (effect fill kind cells (Some row)).0 ≡ Some c → fits c o ≡ true → is_some o ≡ true
there_is_one fill kind cells row c o e f = asks c (effect_fits fill cells kind (Some row) c e) f
  where
    asks : (c : Change) → fits c (Some row) ≡ true → fits c o ≡ true → is_some o ≡ true
    asks (Ins r) g f = absurd (let h : false ≡ true = g in cc)
    asks (Upd u) g f = f
    asks Del g f = f

-- what an operation makes of a row that is there does not depend on the row: this alone goes through the kinds
pub same_change : (fill : Row) (kind : OpKind) (cells a b : Row) → (effect fill kind cells (Some a)).0 ≡ (effect fill kind cells (Some b)).0
same_change fill Insert cells a b = refl
same_change fill Upsert cells a b = refl
same_change fill Update cells a b = refl
same_change fill Delete cells a b = refl
same_change fill InsertIgnore cells a b = refl
same_change fill UpdateIgnore cells a b = refl
same_change fill DeleteIgnore cells a b = refl
