-- What a decoder reads is what was spelled.
use Rattle.std.proofs.Common.{◌≡◌, ℕ, ◌+◌, ◌*◌, ◌^◌, ◌<◌, List, [], ◌∷◌, ◌++◌, length, drop, map, ℤ, refl, sym, ap, ◌∙◌, subst, arith}
use Rattle.std.specs.List.{concat, flat_map}
use Rattle.std.specs.Int.{w32, to_le_bytes}
use Rattle.std.proofs.lemmas.List.{append-nil, drop_at, length-append}
use Rattle.std.proofs.lemmas.List.Folds.{concat-append}
use Rattle.kt_bytes.specs.Cuts.{pieces, IsCut, ends_of}
use Rattle.kt_bytes.specs.Places.{Delimited}
use Rattle.kt_bytes.proofs.Cuts.{IsCut-ends_of, length-ends_of, pieces-ends_of}
use Rattle.kt_bytes.proofs.Fronts.{concat-map, refused, IsWhole}
use Rattle.kt_plain.specs.declared.widths.NumberWidth.{NumberWidth}
use Rattle.kt_plain.specs.declared.widths.Width.{Width}
use Rattle.kt_plain.specs.declared.widths.Width.TheVariants as widths
use Rattle.kt_plain.specs.declared.items.Items.{Items}
use Rattle.kt_plain.specs.declared.items.Items.TheVariants.{Numbers, Texts}
use Rattle.kt_plain.specs.Widths.{number, AreNumbers}
use Rattle.kt_plain.specs.Spelling.{fields, SpellsWithin, Spells, SpellsOne, Spelled, SpelledWithin, IsJoined}
use Rattle.kt_plain.specs.Reading.{AreTexts, ends_in, IsAtFaultWithin}
use Rattle.kt_plain.proofs.Fields.{numbers_are}
use Rattle.kt_plain.proofs.Ends.{ends_in-spelled, length-le32}
use Rattle.kt_plain.proofs.NumbersFault.{numbers_delimited, numbers_whole}
use Rattle.kt_plain.proofs.TextsFault.{end_bytes, texts_delimited, texts_whole}
use Rattle.kt_plain.proofs.Within.{any_length, room_length, delimited_same, whole_same}

-- items that are spelled in a width of numbers are numbers
pub as_numbers : (w : NumberWidth) (n : ℕ) (items : Items) (bytes : List ℕ) → Spells (widths.Numbers w) n items bytes → (zs : List ℤ) × (items ≡ Numbers zs) × AreNumbers w zs bytes
as_numbers w n (Numbers zs) bytes s = (zs, refl, record { fit = s.fits.1; spelled = s.spelled })
as_numbers w n (Texts ts) bytes s = absurd s.fits

-- items that are spelled as byte lists are byte lists
pub as_texts : (n : ℕ) (items : Items) (bytes : List ℕ) → Spells widths.Bytes n items bytes → (ts : List (List ℕ)) × (items ≡ Texts ts) × AreTexts n ts bytes
as_texts n (Numbers zs) bytes s = absurd s.fits
as_texts n (Texts ts) bytes s = (ts, refl, record { counted = s.counted; few = subst (λ (k : ℕ). k < 2 ^ 32) s.counted s.fits.0; fits = s.fits.1; spelled = s.spelled })

-- ---- byte lists

-- how many bytes they have
pub texts_len : (n : ℕ) (ts : List (List ℕ)) (bytes : List ℕ) → AreTexts n ts bytes → 4 * n + length (concat ts) ≡ length bytes
texts_len n ts bytes a =
    let all = ap (λ (xs : List ℕ). length xs) a.spelled in
    let count : length (ends_of 0 ts) ≡ n = length-ends_of 0 ts ∙ a.counted in
    omega (arith, all, count, length-append (flat_map (to_le_bytes w32) (ends_of 0 ts)) (concat ts), length-le32 (ends_of 0 ts))

-- their ends and their bytes
pub texts_ends : (n : ℕ) (ts : List (List ℕ)) (bytes : List ℕ) → AreTexts n ts bytes → ends_in n bytes ≡ ends_of 0 ts
texts_ends n ts bytes a =
    let count : length (ends_of 0 ts) ≡ n = length-ends_of 0 ts ∙ a.counted in
    let total : 0 + length (concat ts) < 2 ^ 32 = let small = a.fits in omega arith in
    ap (ends_in n) a.spelled ∙ ap (λ (k : ℕ). ends_in k (flat_map (to_le_bytes w32) (ends_of 0 ts) ++ concat ts)) (sym count)
    ∙ ends_in-spelled 0 (ends_of 0 ts) (0 + length (concat ts)) (concat ts) (IsCut-ends_of 0 ts) total

pub texts_body : (n : ℕ) (ts : List (List ℕ)) (bytes : List ℕ) → AreTexts n ts bytes → drop (4 * n) bytes ≡ concat ts
texts_body n ts bytes a =
    let ends : List ℕ = flat_map (to_le_bytes w32) (ends_of 0 ts) in
    let len : length ends ≡ 4 * n = length-le32 (ends_of 0 ts) ∙ ap (λ (k : ℕ). 4 * k) (length-ends_of 0 ts ∙ a.counted) in
    ap (λ (xs : List ℕ). drop (4 * n) xs) a.spelled ∙ drop_at ends (concat ts) (4 * n) len

-- ends and bytes that were read are cut as they are
pub read_cut : (n : ℕ) (ts : List (List ℕ)) (bytes es body : List ℕ) → AreTexts n ts bytes → es ≡ ends_in n bytes → body ≡ drop (4 * n) bytes → IsCut 0 es (length body)
read_cut n ts bytes es body a is rest =
    let same : es ≡ ends_of 0 ts = is ∙ texts_ends n ts bytes a in
    let len : length body ≡ 0 + length (concat ts) = ap (λ (xs : List ℕ). length xs) (rest ∙ texts_body n ts bytes a) ∙ omega arith in
    rw (same, len) (IsCut-ends_of 0 ts)

pub read_pieces : (n : ℕ) (ts : List (List ℕ)) (bytes es body : List ℕ) → AreTexts n ts bytes → es ≡ ends_in n bytes → body ≡ drop (4 * n) bytes → pieces 0 es body ≡ ts
read_pieces n ts bytes es body a is rest = rw (is ∙ texts_ends n ts bytes a, rest ∙ texts_body n ts bytes a) (pieces-ends_of 0 [] ts refl)

-- ---- laws

-- bytes spell one list of items at most
pub spells_one : SpellsOne
spells_one (widths.Numbers w) n bytes a b s t =
    let x = as_numbers w n a bytes s in
    let y = as_numbers w n b bytes t in
    x.1 ∙ ap Numbers (sym (numbers_are w x.0 bytes x.2) ∙ numbers_are w y.0 bytes y.2) ∙ sym y.1
spells_one widths.Bytes n bytes a b s t =
    let x = as_texts n a bytes s in
    let y = as_texts n b bytes t in
    let of : (ts : List (List ℕ)) → AreTexts n ts bytes → pieces 0 (ends_in n bytes) (drop (4 * n) bytes) ≡ ts = λ ts are. read_pieces n ts bytes (ends_in n bytes) (drop (4 * n) bytes) are refl refl in
    x.1 ∙ ap Texts (sym (of x.0 x.2) ∙ of y.0 y.2) ∙ sym y.1

-- a spelling is its fields joined
pub joined : IsJoined
joined (widths.Numbers w) (Numbers zs) fits = sym (concat-map (number w) zs)
joined (widths.Numbers w) (Texts ts) fits = absurd fits
joined widths.Bytes (Numbers zs) fits = absurd fits
joined widths.Bytes (Texts ts) fits =
    sym (concat-append (map end_bytes (ends_of 0 ts)) (concat ts ∷ []) ∙ ap (λ (xs : List ℕ). xs ++ (concat ts ++ [])) (concat-map end_bytes (ends_of 0 ts))
    ∙ ap (λ (xs : List ℕ). flat_map end_bytes (ends_of 0 ts) ++ xs) (append-nil (concat ts)))

pub spelled_delimited : (width : Width) (n : ℕ) → Delimited (Spelled width n)
spelled_delimited (widths.Numbers w) n = numbers_delimited w n
spelled_delimited widths.Bytes n = delimited_same (Spelled widths.Bytes n) (SpelledWithin 4294967295 widths.Bytes n) (room_length widths.Bytes n) (texts_delimited 4294967295 n)

pub within_delimited : (most : ℕ) (width : Width) (n : ℕ) → Delimited (SpelledWithin most width n)
within_delimited most width n = delimited_same (SpelledWithin most width n) (Spelled width n) (any_length most width n) (spelled_delimited width n)

spelled_whole : (width : Width) (n : ℕ) → IsWhole (Spelled width n)
spelled_whole (widths.Numbers w) n = numbers_whole w n
spelled_whole widths.Bytes n = whole_same (Spelled widths.Bytes n) (SpelledWithin 4294967295 widths.Bytes n) (room_length widths.Bytes n) (texts_whole 4294967295 n)

pub within_whole : (most : ℕ) (width : Width) (n : ℕ) → IsWhole (SpelledWithin most width n)
within_whole most width n = whole_same (SpelledWithin most width n) (Spelled width n) (any_length most width n) (spelled_whole width n)

-- bytes with a fault spell no items
pub none_spelled : (most : ℕ) (width : Width) (n : ℕ) (bytes : List ℕ) (place : ℕ) → IsAtFaultWithin most width n bytes place → (items : Items) → SpellsWithin most width n items bytes → ⊥
none_spelled most width n bytes place f items s =
    refused (SpelledWithin most width n) bytes place (within_delimited most width n) (within_whole most width n) f (fields width items)
    (record { items = items; fits = s.spells.fits; short = s.short; counted = s.spells.counted; spelled = refl }) (s.spells.spelled ∙ joined width items s.spells.fits)
