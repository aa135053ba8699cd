-- Of rows by rising key: their keys rise, and a key that has a row is one of them.
use Rattle.std.specs.Prelude.{◌≡◌, ℕ, suc, true, false, List, [], ◌∷◌, length, Some, IsSome, if◌then◌else◌}
use Rattle.std.proofs.Common.{refl, sym, subst}
use Rattle.std.proofs.Math.Nat.{zero-lt-suc, suc-le-suc_iff}
use Rattle.std.specs.List.{AllByRecursion, Contains}
use Rattle.std.specs.Ordering.{is_lt, is_eq, eq_by_cmp}
use Rattle.std.specs.declared.cmp.Ordering.{Ordering}
use Rattle.std.specs.declared.cmp.Ordering.TheVariants.{Less, Equal, Greater}
use Rattle.std.specs.FinMap.{nat_cmp-IsAntisymmetric, slice_cmp-IsAntisymmetric}
use Rattle.std.specs.FinMap.Entries.{find, below_all, is_sorted}
use Rattle.std.proofs.lemmas.Bool.{and_parts, false≢true}
use Rattle.kt_history.specs.Rows.{Rows, key_cmp}
use Rattle.kt_history.specs.Views.{AreRising}
use Rattle.kt_views.specs.Keys.{keys_under}

less : (o : Ordering) → is_lt o ≡ true → o ≡ Less
less Less h = refl
less Equal h = absurd (false≢true h)
less Greater h = absurd (false≢true h)

equal : (o : Ordering) → is_eq o ≡ true → o ≡ Equal
equal Less h = absurd (false≢true h)
equal Equal h = refl
equal Greater h = absurd (false≢true h)

all_above : (x : List ℕ) (rows : Rows) → below_all key_cmp x rows ≡ true → AllByRecursion (λ other. key_cmp x other ≡ Less) (keys_under rows)
all_above x [] h = tt
all_above x (r ∷ rows) h = (less _ (and_parts _ _ h).0, all_above x rows (and_parts _ _ h).1)

pub keys_rise : (rows : Rows) → is_sorted key_cmp rows ≡ true → AreRising (keys_under rows)
keys_rise [] h = tt
keys_rise (r ∷ rows) h = (all_above r.0 rows (and_parts _ _ h).0, keys_rise rows (and_parts _ _ h).1)

-- a key that has a row is one of them
pub has_key : (rows : Rows) (key : List ℕ) → IsSome (find key_cmp key rows) → Contains (keys_under rows) key
has_key [] key h = absurd (false≢true h)
has_key (r ∷ rows) key h =
    elim (eq_by_cmp key_cmp key r.0) as (λ b. eq_by_cmp key_cmp key r.0 ≡ b → Contains (keys_under (r ∷ rows)) key) [
      | true ↦ λ same. (0, zero-lt-suc (length (keys_under rows)), sym (slice_cmp-IsAntisymmetric nat_cmp-IsAntisymmetric key r.0 (equal _ same)))
      | false ↦ λ other.
          let rest = has_key rows key (subst (λ b. IsSome (if b then Some r.1 else find key_cmp key rows)) other h) in
          (suc rest.0, suc-le-suc_iff.1 rest.1, rest.2)
    ] refl
