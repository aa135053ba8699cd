-- Lists of words with a word between each two.
use Rattle.std.proofs.Common.{ℕ, List, [], ◌∷◌}
use Rattle.std.specs.List.{flat_map, AllByRecursion}
use Rattle.kt_script.specs.Print.{parted}
use Rattle.kt_script.proofs.InLine.{join}

-- what holds of the word and of each word of the lists holds of all
pub parted_each : (P : List ℕ → Type 0) (word : List ℕ) (lists : List (List (List ℕ))) → P word → AllByRecursion (AllByRecursion P) lists → AllByRecursion P (parted word lists)
parted_each P word [] here all = tt
parted_each P word (ws ∷ more) here all = join P ws (flat_map (λ vs. word ∷ vs) more) all.0 (behind more all.1)
  where
    behind : (lists : List (List (List ℕ))) → AllByRecursion (AllByRecursion P) lists → AllByRecursion P (flat_map (λ vs. word ∷ vs) lists)
    behind [] p = tt
    behind (vs ∷ lists) p = (here, join P vs (flat_map (λ us. word ∷ us) lists) p.0 (behind lists p.1))
