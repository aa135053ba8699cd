use Rattle.std.proofs.Common.{◌≡◌, ℕ, ◌+◌, List, ◌++◌, drop, Ok, refl, subst, arith}
use Rattle.std.specs.Prelude.{codes}
use Rattle.std.specs.Fmt.{decimal}
use Rattle.kt_script.specs.Places.{IsFault}
use Rattle.kt_script.specs.Fronts.{Chain}
use Rattle.kt_script.specs.OutForms.{LONG, IsCounted, IsFront, IsNumbersLine}
use Rattle.kt_script.proofs.OutForms.{word_spaced, chain_spaced, chain_stop, chain_more}
use Rattle.kt_script.proofs.out_fronts.numbers_front.Goals as goal

abbrev Rowsets : List ℕ → Type 0
Rowsets x = IsCounted (codes " rowsets ") LONG x

abbrev Last : List ℕ → Type 0
Last x = Chain (IsCounted (codes " last ") LONG) Rowsets x

a_number : (before : List ℕ) → IsCounted before LONG (before ++ decimal 0)
a_number before = (before, decimal 0, refl, (0, omega arith, refl), refl)

some_rowsets : Rowsets (codes " rowsets " ++ decimal 0)
some_rowsets = a_number (codes " rowsets ")

some_last : Last ((codes " last " ++ decimal 0) ++ (codes " rowsets " ++ decimal 0))
some_last = (codes " last " ++ decimal 0, codes " rowsets " ++ decimal 0, a_number (codes " last "), some_rowsets, refl)

-- the fault is in the third number, or behind it
all_three : (text rest tail : List ℕ) (a k n : ℕ) → IsFront (IsCounted (codes "tablet ahm ") LONG) text (Ok a) → rest ≡ drop a text → IsFront (IsCounted (codes " last ") LONG) rest (Ok k) → tail ≡ drop k rest → IsFault Rowsets tail n → IsFault IsNumbersLine text (a + k + n)
all_three text rest tail a k n first is second tail_is third =
    let same : a + (k + n) ≡ a + k + n = omega arith in
    subst (λ m. IsFault IsNumbersLine text m) same
    (chain_more (codes "tablet ahm ") LONG Last text a (omega arith) (chain_spaced (codes "last ") LONG Rowsets) rest (k + n) first is
    (chain_more (codes " last ") LONG Rowsets rest k (omega arith) (word_spaced (codes "rowsets ") LONG) tail n second tail_is third))

pub returns-in-Err : goal.returns-in-Err
returns-in-Err c = chain_stop (codes "tablet ahm ") LONG Last c.args.line.now c.in-Err.n (omega arith) (chain_spaced (codes "last ") LONG Rowsets) _ some_last c.in-Err.ensures

pub returns-in-Err-counted_front : goal.returns-in-Err-counted_front
returns-in-Err-counted_front c =
    chain_more (codes "tablet ahm ") LONG Last c.args.line.now c.in-Ok.n (omega arith) (chain_spaced (codes "last ") LONG Rowsets) c.split_at.result.1.now c.in-Err-counted_front.n c.in-Ok.ensures c.split_at.ensures.back
    (chain_stop (codes " last ") LONG Rowsets c.split_at.result.1.now c.in-Err-counted_front.n (omega arith) (word_spaced (codes "rowsets ") LONG) _ some_rowsets c.in-Err-counted_front.ensures)

pub returns-in-Ok-counted_front-2 : goal.returns-in-Ok-counted_front-2
returns-in-Ok-counted_front-2 c = all_three c.args.line.now c.split_at.result.1.now c.split_at-2.result.1.now c.in-Ok.n c.in-Ok-counted_front.n c.in-Ok-counted_front-2.n c.in-Ok.ensures c.split_at.ensures.back c.in-Ok-counted_front.ensures c.split_at-2.ensures.back c.in-Ok-counted_front-2.ensures.0

pub returns-in-Err-counted_front-2 : goal.returns-in-Err-counted_front-2
returns-in-Err-counted_front-2 c = all_three c.args.line.now c.split_at.result.1.now c.split_at-2.result.1.now c.in-Ok.n c.in-Ok-counted_front.n c.in-Err-counted_front-2.n c.in-Ok.ensures c.split_at.ensures.back c.in-Ok-counted_front.ensures c.split_at-2.ensures.back c.in-Err-counted_front-2.ensures.0
