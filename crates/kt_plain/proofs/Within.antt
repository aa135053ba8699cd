-- Items without a byte list that is too long: what goes on as their fields do, and the first fault.
use Rattle.std.proofs.Common.{ℕ, zero, suc, ◌<◌, ◌≤◌, List, [], ◌∷◌, ◌++◌, length, get_or, Result, Ok, Err, arith, inl, inr}
use Rattle.std.specs.Prelude.{MatchOption, Option, Some, None}
use Rattle.std.specs.List.{concat}
use Rattle.std.proofs.lemmas.List.{length-append}
use Rattle.kt_bytes.specs.declared.fault.CodecNo.{CodecNo}
use Rattle.kt_bytes.specs.declared.fault.CodecNo.TheVariants as answers
use Rattle.kt_bytes.specs.Reading.{IfPlace}
use Rattle.kt_bytes.specs.Places.{Begins, GoesOn, Delimited, IsPlace, IsFault}
use Rattle.kt_bytes.proofs.Fronts.{IsWhole}
use Rattle.kt_plain.specs.declared.widths.NumberWidth.{NumberWidth}
use Rattle.kt_plain.specs.declared.widths.Width.{Width}
use Rattle.kt_plain.specs.declared.widths.Width.TheVariants as widths
use Rattle.kt_plain.specs.declared.items.Items.{Items}
use Rattle.kt_plain.specs.declared.items.Items.TheVariants.{Numbers, Texts}
use Rattle.kt_plain.specs.Spelling.{AreShort, Fits, Spells, SpellsWithin, Spelled, SpelledWithin}
use Rattle.kt_plain.specs.Reading.{IsSpelling, IsSpellingWithin, IsAtFault, IsAtFaultWithin}

-- ---- two formats, each of whose spellings are the other's

begins_same : (S T : List (List ℕ) → Type 0) → ((all : List (List ℕ)) → S all → T all) → (front : List (List ℕ)) → Begins S front → Begins T front
begins_same S T to front b = (b.0, to (front ++ b.0) b.1)

pub goes_same : (S T : List (List ℕ) → Type 0) → ((all : List (List ℕ)) → S all → T all) → (front : List (List ℕ)) (field : List ℕ) → GoesOn S front field → GoesOn T front field
goes_same S T to front field on = begins_same S T to (front ++ field ∷ []) on

pub delimited_same : (S T : List (List ℕ) → Type 0) → ((all : List (List ℕ)) → S all → T all) → Delimited T → Delimited S
delimited_same S T to d front a b p q = d front a b (goes_same S T to front a p) (goes_same S T to front b q)

pub whole_same : (S T : List (List ℕ) → Type 0) → ((all : List (List ℕ)) → S all → T all) → IsWhole T → IsWhole S
whole_same S T to whole front field s on = whole front field (to front s) (goes_same S T to front field on)

pub fault_same : (S T : List (List ℕ) → Type 0) → ((all : List (List ℕ)) → S all → T all) → ((all : List (List ℕ)) → T all → S all) → (bytes : List ℕ) (place : ℕ) → IsFault S bytes place → IsFault T bytes place
fault_same S T to from bytes place f = record {
  front = f.front;
  rest = f.rest;
  parts = f.parts;
  begins = begins_same S T to f.front f.begins;
  ends = λ field on. f.ends field (goes_same T S from f.front field on);
  more = λ t. f.more (from f.front t);
  at = at f.front f.rest f.at;
}
  where
    at : (front : List (List ℕ)) (rest : List ℕ) → IsPlace S front rest place → IsPlace T front rest place
    at front rest (inl p) = inl (p.0, goes_same S T to front p.0 p.1, p.2, p.3)
    at front rest (inr p) = inr ((λ field on. p.0 field (goes_same T S from front field on)), p.1)

-- ---- with a limit and without

pub any_length : (most : ℕ) (width : Width) (n : ℕ) (fs : List (List ℕ)) → SpelledWithin most width n fs → Spelled width n fs
any_length most width n fs s = record { items = s.items; fits = s.fits; counted = s.counted; spelled = s.spelled }

each_below : (ts : List (List ℕ)) (d : List ℕ) (k : ℕ) → k < length ts → length (get_or ts k d) ≤ length (concat ts)
each_below [] d k lt = absurd (omega arith)
each_below (t ∷ ts) d zero lt = omega (arith, length-append t (concat ts))
each_below (t ∷ ts) d (suc k) lt = omega (arith, length-append t (concat ts), each_below ts d k (omega arith))

-- byte lists that fit have room in their end positions
pub fit_short : (width : Width) (items : Items) → Fits width items → AreShort 4294967295 items
fit_short (widths.Numbers w) (Numbers zs) fits = tt
fit_short (widths.Numbers w) (Texts ts) fits = absurd fits
fit_short widths.Bytes (Numbers zs) fits = absurd fits
fit_short widths.Bytes (Texts ts) fits = λ k d lt. omega (arith, fits.1, each_below ts d k lt)

pub room_length : (width : Width) (n : ℕ) (fs : List (List ℕ)) → Spelled width n fs → SpelledWithin 4294967295 width n fs
room_length width n fs s = record { items = s.items; fits = s.fits; short = fit_short width s.items s.fits; counted = s.counted; spelled = s.spelled }

pub fault_any : (width : Width) (n : ℕ) (bytes : List ℕ) (place : ℕ) → IsAtFaultWithin 4294967295 width n bytes place → IsAtFault width n bytes place
fault_any width n bytes place f = fault_same (SpelledWithin 4294967295 width n) (Spelled width n) (any_length 4294967295 width n) (room_length width n) bytes place f

pub place_any : (width : Width) (n : ℕ) (bytes : List ℕ) (result : Result Items CodecNo) → IfPlace result (IsAtFaultWithin 4294967295 width n bytes) → IfPlace result (IsAtFault width n bytes)
place_any width n bytes (Ok items) f = tt
place_any width n bytes (Err (answers.Place offset)) f = fault_any width n bytes offset f
place_any width n bytes (Err answers.Memory) f = tt

pub spells_room : (width : Width) (n : ℕ) (items : Items) (bytes : List ℕ) → Spells width n items bytes → SpellsWithin 4294967295 width n items bytes
spells_room width n items bytes s = record { spells = s; short = fit_short width items s.fits }

-- ---- numbers have no length

numbers_short : (most : ℕ) (w : NumberWidth) (items : Items) → Fits (widths.Numbers w) items → AreShort most items
numbers_short most w (Numbers zs) fits = tt
numbers_short most w (Texts ts) fits = absurd fits

number_length : (most : ℕ) (w : NumberWidth) (n : ℕ) (fs : List (List ℕ)) → Spelled (widths.Numbers w) n fs → SpelledWithin most (widths.Numbers w) n fs
number_length most w n fs s = record { items = s.items; fits = s.fits; short = numbers_short most w s.items s.fits; counted = s.counted; spelled = s.spelled }

pub numbers_within : (most : ℕ) (w : NumberWidth) (n : ℕ) (bytes : List ℕ) (found : Option ℕ) → MatchOption found (IsSpelling (widths.Numbers w) n bytes) (IsAtFault (widths.Numbers w) n bytes)
    → MatchOption found (IsSpellingWithin most (widths.Numbers w) n bytes) (IsAtFaultWithin most (widths.Numbers w) n bytes)
numbers_within most w n bytes None s = (s.0, record { spells = s.1; short = numbers_short most w s.0 s.1.fits })
numbers_within most w n bytes (Some place) f = fault_same (Spelled (widths.Numbers w) n) (SpelledWithin most (widths.Numbers w) n) (number_length most w n) (any_length most (widths.Numbers w) n) bytes place f
