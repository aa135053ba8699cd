-- A view of a single row.
use Rattle.std.specs.Prelude.{◌≡◌, ℕ, ◌&&◌, List, [], ◌∷◌, Option, Some, None, IsSome, if◌then◌else◌, nat_le}
use Rattle.std.proofs.Common.{refl, sym, lit<}
use Rattle.std.specs.declared.cmp.Ordering.{Ordering}
use Rattle.std.specs.declared.cmp.Ordering.TheVariants.{Less, Equal, Greater}
use Rattle.std.proofs.lemmas.Bool.{false≢true}
use Rattle.std.specs.List.{Contains}
use Rattle.std.specs.Ordering.{is_eq}
use Rattle.std.specs.FinMap.{nat_cmp-IsAntisymmetric, slice_cmp-IsAntisymmetric}
use Rattle.kt_history.specs.Rows.{Row, key_cmp}

-- the row of one key, from a time on
abbrev pub single_row : List ℕ → ℕ → Row → List ℕ → ℕ → Option Row
single_row key from cells asked t = if is_eq (key_cmp asked key) && nat_le from t then Some cells else None

pub single_has_key : (key : List ℕ) (from : ℕ) (cells : Row) (asked : List ℕ) (t : ℕ) → IsSome (single_row key from cells asked t) → Contains (key ∷ []) asked
single_has_key key from cells asked t some = by (key_cmp asked key) refl some
  where
    by : (o : Ordering) → key_cmp asked key ≡ o → IsSome {T = Row} (if is_eq o && nat_le from t then Some cells else None) → Contains (key ∷ []) asked
    by Less e h = absurd (false≢true h)
    by Equal e h = (0, lit< tt, sym (slice_cmp-IsAntisymmetric nat_cmp-IsAntisymmetric asked key e))
    by Greater e h = absurd (false≢true h)
