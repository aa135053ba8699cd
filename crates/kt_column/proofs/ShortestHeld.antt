-- Values that are held in an encoding, against the other encodings.
use Rattle.std.proofs.Common.{◌≡◌, ◌<◌, ◌≤◌, ◌+◌, ◌*◌, ◌^◌, ◌⊎◌, inl, inr, ℕ, ℤ, suc, List, [], ◌∷◌, ◌++◌, length, get_or, take, drop, drop-cons, true, false, cond, All, arith, refl, sym, ap, ◌∙◌}
use Rattle.std.specs.List.{concat, flat_map, sum_by}
use Rattle.std.proofs.lemmas.Bool.{cases_lt}
use Rattle.std.proofs.lemmas.List.{length-append, length-drop, nil_from_length, take_more}
use Rattle.std.proofs.lemmas.List.Sums.{sum_by_push, sum_by-le}
use Rattle.std.specs.Int.{w32, to_le_bytes}
use Rattle.kt_bytes.specs.Cuts.{ends_of}
use Rattle.kt_bytes.proofs.Cuts.{length-ends_of}
use Rattle.kt_plain.specs.declared.widths.Width.{Width}
use Rattle.kt_plain.specs.declared.widths.Width.TheVariants as widths
use Rattle.kt_plain.specs.declared.items.Items.TheVariants.{Numbers, Texts}
use Rattle.kt_plain.specs.Widths.{number}
use Rattle.kt_plain.specs.Spelling as plain
use Rattle.kt_plain.proofs.Ends.{length-le32}
use Rattle.kt_rle.specs.Spelling as run_length
use Rattle.kt_rle.proofs.Once.{spelled_once}
use Rattle.kt_dict.specs.Spelling as dictionary
use Rattle.kt_dict.specs.Writing.{text}
use Rattle.kt_dict.proofs.Short.{no_longer, short_entries, length-spelling}
use Rattle.kt_dict.proofs.Held.{so_far_less}
use Rattle.kt_dict.proofs.Owned.{text_more}
use Rattle.kt_front.specs.Spelling as prefix
use Rattle.kt_front.specs.Walking.{behind}
use Rattle.kt_front.proofs.Cells.{fits_together}
use Rattle.kt_front.proofs.Walk.{spelling-split}
use Rattle.kt_column.specs.declared.form.Form.{Form}
use Rattle.kt_column.specs.declared.form.Form.TheVariants.{Cells, Keys}
use Rattle.kt_column.specs.declared.form.Encoding.{Encoding}
use Rattle.kt_column.specs.declared.form.Encoding.TheVariants.{Plain, RunLength, Dictionary, Prefix}
use Rattle.kt_column.specs.Forms.{width, IsNumeric, MayUse}
use Rattle.kt_column.specs.Values.{run_width, MayStand, IsBefore, IsShortest}
use Rattle.kt_column.proofs.Chosen.{encoded_once}
use Rattle.kt_column.proofs.Widths.{sum_of_concat}

-- what else the column may use
pub plain_beside_runs : (form : Form) → MayUse form RunLength → MayUse form Plain
plain_beside_runs (Cells kind nullable) may = tt
plain_beside_runs Keys may = absurd cc

pub plain_beside_dictionary : (form : Form) → MayUse form Dictionary → MayUse form Plain
plain_beside_dictionary (Cells kind nullable) may = tt
plain_beside_dictionary Keys may = absurd cc

pub prefix_beside_dictionary : (form : Form) → MayUse form Dictionary → MayUse form Prefix
prefix_beside_dictionary (Cells kind nullable) may = may
prefix_beside_dictionary Keys may = absurd cc

pub dictionary_beside_prefix : (form : Form) → MayUse form Plain → MayUse form Prefix → MayUse form Dictionary
dictionary_beside_prefix (Cells kind nullable) plain may = may
dictionary_beside_prefix Keys plain may = absurd cc

-- ---- how long values are in an encoding

numbers_plain : (w : Width) (zs : List ℤ) → IsNumeric w → plain.spelling w (Numbers zs) ≡ flat_map (number (run_width w)) zs
numbers_plain (widths.Numbers w) zs n = refl
numbers_plain widths.Bytes zs n = elim n [ ]

numeric : (form : Form) → MayUse form RunLength → IsNumeric (width form)
numeric (Cells kind nullable) may = may
numeric Keys may = absurd cc

pub plain_len : (form : Form) (zs : List ℤ) → MayUse form RunLength → length (plain.spelling (width form) (Numbers zs)) ≡ length (flat_map (number (run_width (width form))) zs)
plain_len form zs may = ap length (numbers_plain (width form) zs (numeric form may))

pub texts_len : (w : Width) (ts : List (List ℕ)) → length (plain.spelling w (Texts ts)) ≡ 4 * length ts + sum_by length ts
texts_len w ts = omega (arith, length-append (flat_map (to_le_bytes w32) (ends_of 0 ts)) (concat ts), length-le32 (ends_of 0 ts), length-ends_of 0 ts, sum_of_concat ts)

-- ---- runs

pub runs_shortest : (form : Form) (zs : List ℤ) (n : ℕ) (a : List ℕ) → run_length.Takes (run_width (width form)) zs n → n < length (flat_map (number (run_width (width form))) zs) → MayStand form (Numbers zs) RunLength a → IsShortest form (Numbers zs) RunLength a
runs_shortest form zs n a takes lt stands = record { stands = stands; least = least }
  where
    same : a ≡ takes.0
    same = spelled_once (run_width (width form)) (length zs) zs a takes.0 stands.1 takes.1

    least : (other : Encoding) (others : List ℕ) → MayStand form (Numbers zs) other others → IsBefore RunLength a other others
    least Plain others p = inl (omega (arith, ap length same, takes.2, ap length p.1, plain_len form zs stands.0, lt))
    least RunLength others p = inr (ap length (encoded_once (width form) RunLength (Numbers zs) a others stands.1 p.1), omega arith)
    least Dictionary others p = elim p.1 [ ]
    least Prefix others p = elim p.1 [ ]

pub runs_longer : (form : Form) (zs : List ℤ) (n : ℕ) (a : List ℕ) → MayUse form RunLength → run_length.Takes (run_width (width form)) zs n → length (flat_map (number (run_width (width form))) zs) ≤ n → IsShortest form (Numbers zs) RunLength a → ⊥
runs_longer form zs n a may takes le p =
    let same : a ≡ takes.0 = spelled_once (run_width (width form)) (length zs) zs a takes.0 p.stands.1 takes.1 in
    elim (p.least Plain (plain.spelling (width form) (Numbers zs)) (plain_beside_runs form may, refl)) [
      | inl less ↦ omega (arith, less, ap length same, takes.2, plain_len form zs may, le)
      | inr equal ↦ omega (arith, equal.1)
    ]

-- ---- a dictionary

pub dictionary_shortest : (form : Form) (ts : List (List ℕ)) (a : List ℕ) → length (dictionary.spelling ts) < 4 * length ts + sum_by length ts → length (dictionary.spelling ts) ≤ length (prefix.spelling ts) → MayStand form (Texts ts) Dictionary a → IsShortest form (Texts ts) Dictionary a
dictionary_shortest form ts a lt le stands = record { stands = stands; least = least }
  where
    least : (other : Encoding) (others : List ℕ) → MayStand form (Texts ts) other others → IsBefore Dictionary a other others
    least Plain others p = inl (omega (arith, ap length stands.1.1, ap length p.1, texts_len (width form) ts, lt))
    least RunLength others p = elim p.1 [ ]
    least Dictionary others p = inr (ap length (encoded_once (width form) Dictionary (Texts ts) a others stands.1 p.1), omega arith)
    least Prefix others p =
        elim (cases_lt (length a) (length others)) [
          | inl less ↦ inl less
          | inr ge ↦ inr (omega (arith, ge, ap length stands.1.1, ap length p.1.1, le), omega arith)
        ]

pub plain_before_dictionary : (form : Form) (ts : List (List ℕ)) (a : List ℕ) → MayUse form Dictionary → 4 * length ts + sum_by length ts ≤ length (dictionary.spelling ts) → IsShortest form (Texts ts) Dictionary a → ⊥
plain_before_dictionary form ts a may le p =
    elim (p.least Plain (plain.spelling (width form) (Texts ts)) (plain_beside_dictionary form may, refl)) [
      | inl less ↦ omega (arith, less, ap length p.stands.1.1, texts_len (width form) ts, le)
      | inr equal ↦ omega (arith, equal.1)
    ]

pub prefix_before_dictionary : (form : Form) (ts : List (List ℕ)) (a : List ℕ) → MayUse form Dictionary → sum_by length ts < 2 ^ 32 → length (prefix.spelling ts) < length (dictionary.spelling ts) → IsShortest form (Texts ts) Dictionary a → ⊥
prefix_before_dictionary form ts a may small lt p =
    elim (p.least Prefix (prefix.spelling ts) (prefix_beside_dictionary form may, (fits_together ts small, refl))) [
      | inl less ↦ omega (arith, less, ap length p.stands.1.1, lt)
      | inr equal ↦ omega (arith, equal.0, ap length p.stands.1.1, lt)
    ]

-- ---- prefixes

-- the first items take no more than all
pub front_less : (ts : List (List ℕ)) (i : ℕ) → i ≤ length ts → length (prefix.spelling (take i ts)) ≤ length (prefix.spelling ts)
front_less ts i le = omega (arith, ap length (spelling-split ts i le), length-append (prefix.spelling (take i ts)) (behind i 0 [] ts))

pub prefixes_shortest : (form : Form) (ts : List (List ℕ)) (a : List ℕ)
    → (MayUse form Plain → length (prefix.spelling ts) < 4 * length ts + sum_by length ts) → (MayUse form Dictionary → dictionary.Fits ts → length (prefix.spelling ts) < length (dictionary.spelling ts))
    → MayStand form (Texts ts) Prefix a → IsShortest form (Texts ts) Prefix a
prefixes_shortest form ts a before_plain before_dictionary stands = record { stands = stands; least = least }
  where
    least : (other : Encoding) (others : List ℕ) → MayStand form (Texts ts) other others → IsBefore Prefix a other others
    least Plain others p = inl (omega (arith, before_plain p.0, ap length stands.1.1, ap length p.1, texts_len (width form) ts))
    least RunLength others p = elim p.1 [ ]
    least Dictionary others p = inl (omega (arith, before_dictionary p.0 p.1.0, ap length stands.1.1, ap length p.1.1))
    least Prefix others p = inr (ap length (encoded_once (width form) Prefix (Texts ts) a others stands.1 p.1), omega arith)

pub alone_shortest : (form : Form) (ts : List (List ℕ)) (a : List ℕ) → ¬ MayUse form Plain → MayStand form (Texts ts) Prefix a → IsShortest form (Texts ts) Prefix a
alone_shortest form ts a alone stands = prefixes_shortest form ts a (λ may. absurd (alone may)) (λ may fits. absurd (alone (plain_beside_dictionary form may))) stands

pub plain_before_prefixes : (form : Form) (ts : List (List ℕ)) (a : List ℕ) → MayUse form Plain → 4 * length ts + sum_by length ts ≤ length (prefix.spelling ts) → IsShortest form (Texts ts) Prefix a → ⊥
plain_before_prefixes form ts a may le p =
    elim (p.least Plain (plain.spelling (width form) (Texts ts)) (may, refl)) [
      | inl less ↦ omega (arith, less, ap length p.stands.1.1, texts_len (width form) ts, le)
      | inr equal ↦ omega (arith, equal.1)
    ]

pub dictionary_before_prefixes : (form : Form) (ts : List (List ℕ)) (a : List ℕ) → MayUse form Dictionary → dictionary.Fits ts × (length (dictionary.spelling ts) ≤ length (prefix.spelling ts)) → IsShortest form (Texts ts) Prefix a → ⊥
dictionary_before_prefixes form ts a may h p =
    elim (p.least Dictionary (dictionary.spelling ts) (may, (h.0, refl))) [
      | inl less ↦ omega (arith, less, ap length p.stands.1.1, h.1)
      | inr equal ↦ omega (arith, equal.1)
    ]

-- ---- the entries of a list that is gone over

-- an item more takes so many bytes more at most
pub used_more : (ds : List (List ℕ)) (x : List ℕ) → length (flat_map text (dictionary.with_entry ds x)) ≤ length (flat_map text ds) + (4 + length x)
used_more ds x = elim (dictionary.has ds x) as (λ b. length (flat_map text (cond b ds (ds ++ x ∷ []))) ≤ length (flat_map text ds) + (4 + length x)) [ true ↦ omega arith | false ↦ omega (arith, text_more ds x) ]

pub used_next : (items ds : List (List ℕ)) (i : ℕ) → i < length items → dictionary.entries_after ds (drop i items) ≡ dictionary.dictionary items → dictionary.entries_after (dictionary.with_entry ds (get_or items i [])) (drop (i + 1) items) ≡ dictionary.dictionary items
used_next items ds i lt so_far =
    let next : suc i ≡ i + 1 = omega arith in
    let one : drop i items ≡ get_or items i [] ∷ drop (i + 1) items = drop-cons items i [] lt ∙ ap (λ (k : ℕ). get_or items i [] ∷ drop k items) next in
    sym (ap (dictionary.entries_after ds) one) ∙ so_far

-- too many, or too long: so is the dictionary of the whole list
pub used_too_much : (items ds rest : List (List ℕ)) (most : ℕ) → dictionary.entries_after ds rest ≡ dictionary.dictionary items → ((length ds ≤ 4096 → ⊥) ⊎ (most < 2 + length (flat_map text ds) + 2 * length items)) → dictionary.Fits items → most < length (dictionary.spelling items)
used_too_much items ds rest most so_far (inl many) fits = absurd (many (let less = so_far_less items ds rest so_far in omega (arith, less.0, fits.few)))
used_too_much items ds rest most so_far (inr long) fits = (let less = so_far_less items ds rest so_far in omega (arith, less.1, long, length-spelling items (dictionary.dictionary items) refl))

-- all of the list
pub used_up : (items ds : List (List ℕ)) → length ds ≤ 4096 → sum_by length items < 2 ^ 32 → ds ≡ dictionary.dictionary items → dictionary.Fits items × (length (dictionary.spelling items) ≡ 2 + length (flat_map text ds) + 2 * length items)
used_up items ds few small is = (record { few = omega (arith, ap length is, few); each = no_longer (dictionary.dictionary items) (short_entries items small) }, length-spelling items ds is)

-- byte lists gone over
pub sum_more : (ts : List (List ℕ)) (i : ℕ) → i < length ts → sum_by length (take (i + 1) ts) ≡ sum_by length (take i ts) + length (get_or ts i [])
sum_more ts i lt = ap (sum_by length) (take_more ts i [] lt) ∙ sum_by_push length (take i ts) (get_or ts i [])

pub few_bytes : (ts : List (List ℕ)) → length ts ≤ 8192 → All (λ t. length t ≤ 65536) ts → sum_by length ts < 2 ^ 32
few_bytes ts few short = (let together = sum_by-le length 65536 ts short in omega (arith, together, few))

pub used_end : (items ds : List (List ℕ)) (i : ℕ) → length items ≤ i → dictionary.entries_after ds (drop i items) ≡ dictionary.dictionary items → ds ≡ dictionary.dictionary items
used_end items ds i le so_far =
    let none : drop i items ≡ [] = nil_from_length (drop i items) (omega (arith, le, length-drop i items)) in
    ap (dictionary.entries_after ds) (sym none) ∙ so_far
