-- No file that a superblock keeps has a number that it has not given.
use Rattle.std.proofs.Common.{◌≡◌, ◌≤◌, ◌<◌, ℕ, Bool, true, false, refl, ◌||◌, arith}
use Rattle.std.specs.Prelude.{◌==◌}
use Rattle.std.proofs.lemmas.Bool.Decides.{nat_tests}
use Rattle.kt_super.specs.declared.meta.Meta.{Meta}
use Rattle.kt_super.specs.Body.{IsMeta}
use Rattle.kt_super.specs.Rowsets.{has}
use Rattle.kt_files.specs.Named.{named_in, is_kept}
use Rattle.kt_storeside.proofs.Named.{named_between, first_file}

differ : (n k : ℕ) → k < n → (n == k) ≡ false
differ n k low = grind (arith, nat_tests)

none : (b : Bool) → (b ≡ true → ⊥) → b ≡ false
none true h = absurd (h refl)
none false h = refl

pub not_kept : (m : Meta) (n : ℕ) → IsMeta m → m.next_file ≤ n → is_kept (named_in m.rowsets) n ≡ false
not_kept m n rules behind =
    let least = first_file m rules in
    let one : (n == 1) ≡ false = differ n 1 (omega arith) in
    let two : (n == 2) ≡ false = differ n 2 (omega arith) in
    let named : has (named_in m.rowsets) n ≡ false = none (has (named_in m.rowsets) n) (λ is. let between = named_between m n rules is in let below = between.below in omega arith) in
    λ i. one i || (two i || named i)
