-- The widths of the numbers in keys.
use Rattle.std.proofs.Common.{◌≡◌, refl}
use Rattle.std.specs.Int.{w64}
use Rattle.kt_base.specs.declared.cell.Kind.{Kind}
use Rattle.kt_base.specs.declared.cell.Kind.TheVariants as kind
use Rattle.kt_base.specs.Keys.{width_of}

-- a number of no other width takes eight bytes
pub wide : (k : Kind) → (k ≡ kind.Int8 → ⊥) → (k ≡ kind.Int16 → ⊥) → (k ≡ kind.Int32 → ⊥) → width_of k ≡ w64
wide kind.Int8 a b c = absurd (a refl)
wide kind.Int16 a b c = absurd (b refl)
wide kind.Int32 a b c = absurd (c refl)
wide kind.Bool a b c = refl
wide kind.Int64 a b c = refl
wide kind.String a b c = refl
wide kind.Binary a b c = refl
