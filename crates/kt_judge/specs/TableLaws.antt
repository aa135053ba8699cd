-- Of any table: its keys rise, and a key that has a row is one of them.
use Rattle.std.specs.Prelude.{◌≡◌, ℕ, suc, true, false, List, [], ◌∷◌, length, Some, None, IsSome, if◌then◌else◌}
use Rattle.std.proofs.Common.{refl, sym, subst}
use Rattle.std.proofs.Math.Nat.{zero-lt-suc, suc-le-suc_iff}
use Rattle.std.specs.List.{AllByRecursion, Contains}
use Rattle.std.specs.Ordering.{is_lt, is_eq, eq_by_cmp}
use Rattle.std.specs.declared.cmp.Ordering.{Ordering}
use Rattle.std.specs.declared.cmp.Ordering.TheVariants.{Less, Equal, Greater}
use Rattle.std.specs.FinMap.{nat_cmp-IsAntisymmetric, slice_cmp-IsAntisymmetric}
use Rattle.std.specs.FinMap.Entries.{find, below_all, is_sorted}
use Rattle.std.proofs.lemmas.Bool.{and_parts, false≢true}
use Rattle.kt_history.specs.Rows.{key_cmp}
use Rattle.kt_history.specs.Views.{AreRising}
use Rattle.kt_judge.specs.Tables.{Entries, keys_in, row_of, row_from, versions_in}

less : (o : Ordering) → is_lt o ≡ true → o ≡ Less
less Less h = refl
less Equal h = absurd (false≢true h)
less Greater h = absurd (false≢true h)

equal : (o : Ordering) → is_eq o ≡ true → o ≡ Equal
equal Less h = absurd (false≢true h)
equal Equal h = refl
equal Greater h = absurd (false≢true h)

all_above : (x : List ℕ) (es : Entries) → below_all key_cmp x es ≡ true → AllByRecursion (λ other. key_cmp x other ≡ Less) (keys_in es)
all_above x [] h = tt
all_above x (e ∷ es) h = (less _ (and_parts _ _ h).0, all_above x es (and_parts _ _ h).1)

pub keys_rise : (es : Entries) → is_sorted key_cmp es ≡ true → AreRising (keys_in es)
keys_rise [] h = tt
keys_rise (e ∷ es) h = (all_above e.0 es (and_parts _ _ h).0, keys_rise es (and_parts _ _ h).1)

-- a key that has a row is one of them
pub has_key : (es : Entries) (key : List ℕ) (t : ℕ) → IsSome (row_of es key t) → Contains (keys_in es) key
has_key [] key t h = absurd (false≢true h)
has_key (e ∷ es) key t h =
    elim (eq_by_cmp key_cmp key e.0) as (λ b. eq_by_cmp key_cmp key e.0 ≡ b → Contains (keys_in (e ∷ es)) key) [
      | true ↦ λ same. (0, zero-lt-suc (length (keys_in es)), sym (slice_cmp-IsAntisymmetric nat_cmp-IsAntisymmetric key e.0 (equal _ same)))
      | false ↦ λ other.
          let rest = has_key es key t (subst (λ b. IsSome (row_from None t (versions_in (if b then Some e.1 else find key_cmp key es)))) other h) in
          (suc rest.0, suc-le-suc_iff.1 rest.1, rest.2)
    ] refl
