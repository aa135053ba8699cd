-- The kinds of the columns that a scan shows.
use Rattle.std.proofs.Common.{◌≡◌, ℕ, List, [], ◌∷◌, ◌++◌, refl, ap, map}
use Rattle.kt_base.specs.declared.cell.Kind.{Kind}
use Rattle.kt_schema.specs.declared.column.Column.{Column}

same_kinds : (columns : List Column) → map (λ c. c.kind) columns ≡ map (λ (k : ℕ × Kind). k.1) (map (λ c. (c.id, c.kind)) columns)
same_kinds [] = refl
same_kinds (c ∷ columns) = ap (λ kinds. c.kind ∷ kinds) (same_kinds columns)

-- the kinds of the key columns, and those of the others
pub all_kinds_are : (keys others : List Column) → map (λ c. c.kind) keys ++ map (λ c. c.kind) others ≡ map (λ (k : ℕ × Kind). k.1) (map (λ c. (c.id, c.kind)) keys ++ map (λ c. (c.id, c.kind)) others)
all_kinds_are [] others = same_kinds others
all_kinds_are (c ∷ keys) others = ap (λ kinds. c.kind ∷ kinds) (all_kinds_are keys others)
