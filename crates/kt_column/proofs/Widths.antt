-- The widths of the codecs, against one another.
use Rattle.std.proofs.Common.{◌≡◌, ◌<◌, ◌^◌, ℕ, ℤ, List, length, All, arith, refl, ◌∙◌, ap}
use Rattle.std.specs.List.{concat, sum_by}
use Rattle.std.proofs.lemmas.List.Concat.{length-flat_map, concat_is}
use Rattle.kt_plain.specs.declared.widths.Width.{Width}
use Rattle.kt_plain.specs.declared.widths.Width.TheVariants as widths
use Rattle.kt_plain.specs.Spelling as plain
use Rattle.kt_plain.specs.declared.items.Items.TheVariants.{Numbers, Texts}
use Rattle.kt_plain.specs.Widths as run_length
use Rattle.kt_column.specs.declared.form.Form.{Form}
use Rattle.kt_column.specs.Forms.{width, IsInWidth, IsNumeric}
use Rattle.kt_column.specs.Values.{run_width, AreValues}

pub in_run_width : (w : Width) (z : ℤ) → IsInWidth w z → run_length.IsInWidth (run_width w) z
in_run_width (widths.Numbers w) z h = h
in_run_width widths.Bytes z h = elim h [ ]

pub all_in_run_width : (w : Width) (zs : List ℤ) → All (IsInWidth w) zs → All (run_length.IsInWidth (run_width w)) zs
all_in_run_width w zs h = λ k d lt. in_run_width w _ (h k d lt)

-- values that have a plain spelling, and what has one
pub fits_numbers : (w : Width) (zs : List ℤ) → plain.Fits w (Numbers zs) → IsNumeric w × (length zs < 2 ^ 32) × All (IsInWidth w) zs
fits_numbers (widths.Numbers w) zs f = (tt, f.0, f.1)
fits_numbers widths.Bytes zs f = elim f [ ]

pub numbers_fit_in : (w : Width) (zs : List ℤ) → IsNumeric w → length zs < 2 ^ 32 → All (IsInWidth w) zs → plain.Fits w (Numbers zs)
numbers_fit_in (widths.Numbers w) zs n few all = (few, all)
numbers_fit_in widths.Bytes zs n few all = elim n [ ]

pub fits_texts : (w : Width) (ts : List (List ℕ)) → plain.Fits w (Texts ts) → (w ≡ widths.Bytes) × (length ts < 2 ^ 32) × (length (concat ts) < 2 ^ 32)
fits_texts (widths.Numbers w) ts f = elim f [ ]
fits_texts widths.Bytes ts f = (refl, f.0, f.1)

pub texts_fit_in : (w : Width) (ts : List (List ℕ)) → w ≡ widths.Bytes → length ts < 2 ^ 32 → length (concat ts) < 2 ^ 32 → plain.Fits w (Texts ts)
texts_fit_in (widths.Numbers w) ts e few small = absurd cc
texts_fit_in widths.Bytes ts e few small = (few, small)

pub sum_of_concat : (ts : List (List ℕ)) → length (concat ts) ≡ sum_by length ts
sum_of_concat ts = ap length (concat_is ts) ∙ length-flat_map (λ x. x) ts

-- byte lists that may stand in a block are few bytes together
pub small_texts : (form : Form) (ts : List (List ℕ)) → AreValues form (Texts ts) → sum_by length ts < 2 ^ 32
small_texts form ts h = omega (arith, sum_of_concat ts, (fits_texts (width form) ts h.fits).2)
