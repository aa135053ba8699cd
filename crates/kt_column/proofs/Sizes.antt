-- How many bytes the values take in an encoding.
use Rattle.std.proofs.Common.{◌≡◌, ◌<◌, ◌+◌, ◌-◌, ◌^◌, ℕ, List, [], length, get_or, take, arith, ◌∙◌, ap, sym, subst, refl}
use Rattle.std.specs.List.{sum_by}
use Rattle.std.proofs.lemmas.List.{length-append}
use Rattle.std.proofs.lemmas.List.Sums.{get_or-le-sum_by}
use Rattle.kt_plain.specs.declared.items.Items.TheVariants.{Texts}
use Rattle.kt_front.specs.Spelling as prefix
use Rattle.kt_front.proofs.Cells.{spelling_more, fits_together}
use Rattle.kt_front.proofs.Fields.{len_of_cell}
use Rattle.kt_plain.specs.declared.items.Items.{Items}
use Rattle.kt_column.specs.declared.form.Form.{Form}
use Rattle.kt_column.specs.declared.form.Encoding.{Encoding}
use Rattle.kt_column.specs.declared.form.Encoding.TheVariants.{Prefix}
use Rattle.kt_column.specs.Forms.{MayUse}
use Rattle.kt_column.specs.Values.{AreValues, Takes}
use Rattle.kt_column.proofs.Widths.{small_texts}

-- a cell more
pub prefix_more : (ts : List (List ℕ)) (i : ℕ) (before : List ℕ) → i < length ts → (0 < i → before ≡ get_or ts (i - 1) [])
    → length (prefix.spelling (take (i + 1) ts)) ≡ length (prefix.spelling (take i ts)) + length (prefix.cell (prefix.base i before) (get_or ts i []))
prefix_more ts i before lt is =
    ap length (spelling_more ts i before lt is) ∙ length-append (prefix.spelling (take i ts)) (prefix.cell (prefix.base i before) (get_or ts i []))

-- and the most that it takes
pub cell_most : (ts : List (List ℕ)) (i : ℕ) (before : List ℕ) → i < length ts → sum_by length ts < 2 ^ 32 → length (prefix.cell (prefix.base i before) (get_or ts i [])) < 8 + 2 ^ 32
cell_most ts i before lt small = omega (arith, len_of_cell (prefix.base i before) (get_or ts i []), get_or-le-sum_by length ts i [] lt)

pub prefix_takes : (form : Form) (items : Items) (e : Encoding) (ts : List (List ℕ)) (n : ℕ) → AreValues form items → MayUse form e → e ≡ Prefix → items ≡ Texts ts → n ≡ length (prefix.spelling ts) → Takes form items e n
prefix_takes form items e ts n values may at is len =
    let small : sum_by length ts < 2 ^ 32 = small_texts form ts (subst (AreValues form) is values) in
    let here : MayUse form Prefix = subst (MayUse form) at may in
    let takes : Takes form (Texts ts) Prefix n = (prefix.spelling ts, (here, (fits_together ts small, refl)), sym len) in
    subst (λ f. Takes form items f n) (sym at) (subst (λ xs. Takes form xs Prefix n) (sym is) takes)
