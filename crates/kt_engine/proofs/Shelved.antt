-- The names of a tablet's stores: those of the MemRowSets by falling number, and behind them those of disk rowsets.
use Rattle.std.proofs.Common.{◌≡◌, ℕ, zero, suc, ◌<◌, ◌≤◌, ◌+◌, ◌^◌, Bool, true, false, cond, List, [], ◌∷◌, ◌++◌, map, length, take, drop, sym, subst, arith}
use Rattle.kt_history.specs.declared.target.Target.{Target}
use Rattle.kt_history.specs.declared.target.Target.TheVariants.{Mem, Delta}
use Rattle.kt_rowfiles.specs.Files.{DiskRowset}
use Rattle.kt_content.specs.RunEvents.{Numbers, StoresBelow}
use Rattle.kt_stores.specs.Takes.{Takes, takes, of_left, over_to}
use Rattle.kt_engine.specs.Memory.{name_of}
use Rattle.kt_engine.specs.Over.{first_name, AreLeft, AreRowsetNames, AreShelved}
use Rattle.kt_engine.specs.JobSteps.{AreUpTo}

-- ---- a freeze

pub next_is : (n : ℕ) → suc n ≡ n + 1
next_is n = omega arith

-- those that are there lie below the next number
pub lower_shelved : (number frozen : ℕ) (others names : List Target) → names ≡ Mem number ∷ others → AreShelved (suc frozen) (2 ^ 64) names → AreShelved (suc frozen) (number + 1) names
lower_shelved number frozen others names was are =
    let old : AreShelved (suc frozen) (2 ^ 64) (Mem number ∷ others) = subst (AreShelved (suc frozen) (2 ^ 64)) was are in
    let new : AreShelved (suc frozen) (number + 1) (Mem number ∷ others) = (omega arith, old.1) in
    subst (AreShelved (suc frozen) (number + 1)) (sym was) new

-- a new one of the next number in front
pub frozen_shelved : (number frozen : ℕ) (others names : List Target) → names ≡ Mem number ∷ others → number + 1 < 2 ^ 64 → AreShelved (suc frozen) (2 ^ 64) names → AreShelved (suc (frozen + 1)) (2 ^ 64) (Mem (number + 1) ∷ names)
frozen_shelved number frozen others names was fits are =
    (fits, subst (λ (many : ℕ). AreShelved many (number + 1) names) (next_is frozen) (lower_shelved number frozen others names was are))

-- ---- those that are frozen, and those behind them

pub shelved_upto : (many below last : ℕ) (names : List Target) → below ≤ last + 1 → AreShelved many below names → AreUpTo last (take many names)
shelved_upto zero below last names le are = tt
shelved_upto (suc many) below last [] le are = absurd are
shelved_upto (suc many) below last (Mem n ∷ names) le are = (let low = are.0 in omega arith, shelved_upto many n last names (let low = are.0 in omega arith) are.1)
shelved_upto (suc many) below last (Delta r n ∷ names) le are = absurd are

pub shelved_behind : (many below : ℕ) (names : List Target) → AreShelved many below names → AreRowsetNames (drop many names)
shelved_behind zero below names are = are
shelved_behind (suc many) below [] are = absurd are
shelved_behind (suc many) below (Mem n ∷ names) are = shelved_behind many n names are.1
shelved_behind (suc many) below (Delta r n ∷ names) are = absurd are

pub left_of : (numbers : Numbers) (next : ℕ) (names : List Target) → numbers.next ≡ next → AreRowsetNames names → StoresBelow numbers (map name_of names) → AreLeft next names
left_of numbers next [] is are below = tt
left_of numbers next (Mem n ∷ names) is are below = absurd are
left_of numbers next (Delta r n ∷ names) is are below = (let low = below.0 in omega arith, left_of numbers next names is are below.1)

pub names_behind : (numbers : Numbers) (many : ℕ) (names : List Target) → StoresBelow numbers (map name_of names) → StoresBelow numbers (map name_of (drop many names))
names_behind numbers zero names below = below
names_behind numbers (suc many) [] below = below
names_behind numbers (suc many) (Mem n ∷ names) below = names_behind numbers many names below.1
names_behind numbers (suc many) (Delta r n ∷ names) below = names_behind numbers many names below.1

-- ---- a job is over

rowsets_behind : (outputs : List DiskRowset) → AreRowsetNames (map first_name outputs)
rowsets_behind [] = tt
rowsets_behind (d ∷ outputs) = rowsets_behind outputs

rowsets_left : (t : Takes) (outputs : List DiskRowset) (names : List Target) → AreRowsetNames names → AreRowsetNames (of_left t names names ++ map first_name outputs)
rowsets_left t outputs [] are = rowsets_behind outputs
rowsets_left t outputs (Mem n ∷ names) are = absurd are
rowsets_left t outputs (Delta r n ∷ names) are = elim (takes t (Delta r n)) as (λ (b : Bool). AreRowsetNames (cond b (of_left t names names) (Delta r n ∷ of_left t names names) ++ map first_name outputs)) [
  | true ↦ rowsets_left t outputs names are
  | false ↦ rowsets_left t outputs names are
]

higher_shelved : (many low high : ℕ) (names : List Target) → low ≤ high → AreShelved many low names → AreShelved many high names
higher_shelved zero low high names le are = are
higher_shelved (suc many) low high [] le are = absurd are
higher_shelved (suc many) low high (Mem n ∷ names) le are = (let lt = are.0 in omega arith, are.1)
higher_shelved (suc many) low high (Delta r n ∷ names) le are = absurd are

left_shelved : (t : Takes) (outputs : List DiskRowset) (many below : ℕ) (names : List Target) → AreShelved many below names
    → AreShelved (length (of_left t (take many names) (take many names))) below (of_left t names names ++ map first_name outputs)
left_shelved t outputs zero below names are = rowsets_left t outputs names are
left_shelved t outputs (suc many) below [] are = absurd are
left_shelved t outputs (suc many) below (Mem n ∷ names) are = elim (takes t (Mem n)) as (λ (b : Bool). AreShelved (length (cond b (of_left t (take many names) (take many names)) (Mem n ∷ of_left t (take many names) (take many names)))) below (cond b (of_left t names names) (Mem n ∷ of_left t names names) ++ map first_name outputs)) [
  | true ↦ higher_shelved (length (of_left t (take many names) (take many names))) n below (of_left t names names ++ map first_name outputs) (let lt = are.0 in omega arith) (left_shelved t outputs many n names are.1)
  | false ↦ (are.0, left_shelved t outputs many n names are.1)
]
left_shelved t outputs (suc many) below (Delta r n ∷ names) are = absurd are

-- the outputs stand behind what is left
pub over_shelved : (t : Takes) (frozen : ℕ) (outputs : List DiskRowset) (names : List Target) → AreShelved (suc frozen) (2 ^ 64) names
    → AreShelved (suc (length (of_left t (take frozen (drop 1 names)) (take frozen (drop 1 names))))) (2 ^ 64) (over_to t (map first_name outputs) names names)
over_shelved t frozen outputs [] are = absurd are
over_shelved t frozen outputs (Mem n ∷ names) are = (are.0, left_shelved t outputs frozen n names are.1)
over_shelved t frozen outputs (Delta r n ∷ names) are = absurd are
