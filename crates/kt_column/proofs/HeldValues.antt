-- A value among those that are held.
use Rattle.std.proofs.Common.{◌≡◌, ◌<◌, ℕ, ℤ, zero, suc, List, [], ◌∷◌, length, map, get_or, refl, sym, ◌∙◌, subst, arith}
use Rattle.kt_base.specs.declared.cell.Cell.TheVariants.{Null, Bytes}
use Rattle.kt_plain.specs.declared.widths.Width.{Width}
use Rattle.kt_plain.specs.declared.widths.Width.TheVariants as widths
use Rattle.kt_plain.specs.declared.widths.NumberWidth.TheVariants as number_widths
use Rattle.kt_column.specs.declared.form.Form.{Form}
use Rattle.kt_column.specs.declared.held.Values.{Values}
use Rattle.kt_column.specs.declared.held.Values.TheVariants as held
use Rattle.kt_column.specs.Blocks.{number_cell}
use Rattle.kt_plain.specs.declared.items.Items.TheVariants.{Numbers, Texts}
use Rattle.kt_rle.specs.Spelling as run_length
use Rattle.kt_dict.specs.Spelling as dictionary
use Rattle.kt_front.specs.Spelling as prefix
use Rattle.kt_column.specs.declared.form.Encoding.TheVariants.{RunLength, Dictionary, Prefix}
use Rattle.kt_column.specs.Forms.{width}
use Rattle.kt_column.specs.Values.{IsShortest, run_width}
use Rattle.kt_column.proofs.Chosen.{shortest_again}
use Rattle.kt_column.specs.Held.{items_of, encoding_of, IsChosen}

-- a byte list at a place, as a cell
pub text_at : (ts : List (List ℕ)) (i : ℕ) → i < length ts → Bytes (get_or ts i []) ≡ get_or (map Bytes ts) i Null
text_at [] i lt = absurd (omega arith)
text_at (t ∷ ts) zero lt = refl
text_at (t ∷ ts) (suc i) lt = text_at ts i (omega arith)

one_text : (t u : List ℕ) → Bytes t ≡ Bytes u → t ≡ u
one_text t u e = cc

pub text_is : (ts : List (List ℕ)) (i : ℕ) (bytes : List ℕ) → i < length ts → get_or (map Bytes ts) i Null ≡ Bytes bytes → get_or ts i [] ≡ bytes
text_is ts i bytes lt e = one_text (get_or ts i []) bytes (text_at ts i lt ∙ e)

-- a number is no byte list
no_bytes : (w : Width) (z : ℤ) (bytes : List ℕ) → number_cell w z ≡ Bytes bytes → ⊥
no_bytes (widths.Numbers number_widths.Bit) z bytes e = cc
no_bytes (widths.Numbers number_widths.One) z bytes e = cc
no_bytes (widths.Numbers number_widths.Two) z bytes e = cc
no_bytes (widths.Numbers number_widths.Four) z bytes e = cc
no_bytes (widths.Numbers number_widths.Eight) z bytes e = cc
no_bytes widths.Bytes z bytes e = cc

pub no_text : (w : Width) (zs : List ℤ) (i : ℕ) (bytes : List ℕ) → get_or (map (number_cell w) zs) i Null ≡ Bytes bytes → ⊥
no_text w [] i bytes e = cc
no_text w (z ∷ zs) zero bytes e = no_bytes w z bytes e
no_text w (z ∷ zs) (suc i) bytes e = no_text w zs i bytes e

-- values in the shortest encoding are chosen
pub chosen : (form : Form) (v : Values) (a : List ℕ) → IsShortest form (items_of v) (encoding_of v) a → IsChosen form v
chosen form (held.Plain items) a p = tt
chosen form (held.Runs zs) a p = (a, p)
chosen form (held.Dictionary ts) a p = (a, p)
chosen form (held.Prefixes ts) a p = (a, p)

-- what values that are held are spelled in is the shortest
pub runs_chosen : (form : Form) (v : Values) (zs : List ℤ) (b : List ℕ) → v ≡ held.Runs zs → IsChosen form v → run_length.Spells (run_width (width form)) (length zs) zs b → IsShortest form (items_of v) RunLength b
runs_chosen form v zs b is own s =
    let p : IsChosen form (held.Runs zs) = subst (IsChosen form) is own in
    subst (λ u. IsShortest form (items_of u) RunLength b) (sym is) (shortest_again form (Numbers zs) RunLength RunLength p.0 b p.1 refl (p.1.stands.0, s))

pub dictionary_chosen : (form : Form) (v : Values) (ts : List (List ℕ)) (b : List ℕ) → v ≡ held.Dictionary ts → IsChosen form v → dictionary.Fits ts → b ≡ dictionary.spelling ts → IsShortest form (items_of v) Dictionary b
dictionary_chosen form v ts b is own fits s =
    let p : IsChosen form (held.Dictionary ts) = subst (IsChosen form) is own in
    subst (λ u. IsShortest form (items_of u) Dictionary b) (sym is) (shortest_again form (Texts ts) Dictionary Dictionary p.0 b p.1 refl (p.1.stands.0, (fits, s)))

pub prefixes_chosen : (form : Form) (v : Values) (ts : List (List ℕ)) (b : List ℕ) → v ≡ held.Prefixes ts → IsChosen form v → prefix.Fits ts → b ≡ prefix.spelling ts → IsShortest form (items_of v) Prefix b
prefixes_chosen form v ts b is own fits s =
    let p : IsChosen form (held.Prefixes ts) = subst (IsChosen form) is own in
    subst (λ u. IsShortest form (items_of u) Prefix b) (sym is) (shortest_again form (Texts ts) Prefix Prefix p.0 b p.1 refl (p.1.stands.0, (fits, s)))
