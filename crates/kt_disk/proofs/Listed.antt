-- Files as a map and as a list.
use Rattle.std.proofs.Common.{◌≡◌, ℕ, List, [], ◌∷◌, map, refl, arith}
use Rattle.std.specs.Ordering.{is_eq, nat_cmp}
use Rattle.std.specs.Map.{lookup}
use Rattle.std.proofs.lemmas.Bool.Decides.{nat_tests}
use Rattle.kt_disk.specs.Memory.{listed}
use Rattle.kt_disk.specs.declared.lists.FileBytes.{FileBytes}

-- the files of a list by number
abbrev pub pairs : List FileBytes → List (ℕ × List ℕ)
pairs files = map (λ f. (f.file, f.bytes)) files

pub listed_pairs : (files : List FileBytes) (n : ℕ) → listed files n ≡ lookup (λ k. is_eq (nat_cmp n k)) (pairs files)
listed_pairs [] n = refl
listed_pairs (f ∷ files) n = let rest = listed_pairs files n in grind (arith, nat_tests)
