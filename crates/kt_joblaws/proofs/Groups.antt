-- The stores in memory that stand for a place, before and after a flush.
use Rattle.std.proofs.Common.{◌≡◌, ◌≢◌, ◌≤◌, ◌<◌, ℕ, Bool, true, false, List, [], ◌∷◌, ◌++◌, Option, Some, None, refl, sym, ap, ◌∙◌, subst, arith, cond}
use Rattle.std.specs.Prelude.{◌==◌, is_some, nat_lt}
use Rattle.std.proofs.lemmas.Bool.{lt-ltb, le-ltb, ne_eqb, eq-eqb, eqb-true}
use Rattle.kt_history.specs.Stores.{Hist}
use Rattle.kt_histlaws.specs.Jobs.{AreAlike}
use Rattle.kt_rowfiles.specs.Files.{DiskRowset, hist_in_files}
use Rattle.kt_content.specs.Places.{Super, Place, memory, disk, last_dms_of, in_files, newer}
use Rattle.kt_content.specs.Content.{NumbersDiffer, LacksNumber}
use Rattle.kt_content.specs.InMemory.{Name, mem_rows, rowset, Stores, if_there, stands_for, is_at, group, hist_at}
use Rattle.kt_content.specs.RunEvents.{RowsetsBelow}
use Rattle.kt_content.specs.Flushes.{flushed, AreFrom, before}
use Rattle.kt_content.proofs.RunEvents.{none_named}
use Rattle.kt_content.proofs.Lending.{alike_itself, alike_to_never}
use Rattle.kt_joblaws.specs.ChangesOver.{hists_of, AreFrozen, AreOlder, in_memory}

pub group-append : (super : Super) (p : Place) (xs ys : Stores) → group super p (xs ++ ys) ≡ group super p xs ++ group super p ys
group-append super p [] ys = refl
group-append super p (x ∷ xs) ys = elim (is_at p (stands_for super x.0)) as (λ (b : Bool). cond b (x.1 ∷ group super p (xs ++ ys)) (group super p (xs ++ ys)) ≡ cond b (x.1 ∷ group super p xs) (group super p xs) ++ group super p ys) [
  | true ↦ ap (λ (l : List Hist). x.1 ∷ l) (group-append super p xs ys)
  | false ↦ group-append super p xs ys
]

-- a store that is not in a group, and one that is
pub skip : (super : Super) (p : Place) (x : Name × Hist) (xs : Stores) → is_at p (stands_for super x.0) ≡ false → group super p (x ∷ xs) ≡ group super p xs
skip super p x xs e = ap (λ (b : Bool). cond b (x.1 ∷ group super p xs) (group super p xs)) e

take_it : (super : Super) (p : Place) (x : Name × Hist) (xs : Stores) → is_at p (stands_for super x.0) ≡ true → group super p (x ∷ xs) ≡ x.1 ∷ group super p xs
take_it super p x xs e = ap (λ (b : Bool). cond b (x.1 ∷ group super p xs) (group super p xs)) e

-- ---- which rowsets a superblock names

-- rowsets more leave the others' DeltaMemStores as they are
pub last_more : (r : ℕ) (xs ys : List DiskRowset) → last_dms_of r ys ≡ None → last_dms_of r (xs ++ ys) ≡ last_dms_of r xs
last_more r [] ys none = none
last_more r (d ∷ xs) ys none = ap (λ (o : Option ℕ). cond (d.rowset == r) (Some d.last_dms) o) (last_more r xs ys none)

-- no output has a number below the next one
pub none_from : (next r : ℕ) (outputs : List DiskRowset) → AreFrom next outputs → r < next → last_dms_of r outputs ≡ None
none_from next r [] from lt = refl
none_from next r (d ∷ outputs) from lt =
    ap (λ (b : Bool). cond b (Some d.last_dms) (last_dms_of r outputs)) (ne_eqb d.rowset r (λ e. let a = from.0 in omega arith)) ∙ none_from next r outputs from.1 lt

-- an output is named behind others
abbrev pub AllNamed : List DiskRowset → List DiskRowset → Type 0
AllNamed rowsets [] = Unit {0}
AllNamed rowsets (d ∷ outputs) = (is_some (last_dms_of d.rowset rowsets) ≡ true) × AllNamed rowsets outputs

named_behind : (r : ℕ) (xs ys : List DiskRowset) → is_some (last_dms_of r ys) ≡ true → is_some (last_dms_of r (xs ++ ys)) ≡ true
named_behind r [] ys named = named
named_behind r (d ∷ xs) ys named = elim (d.rowset == r) as (λ (b : Bool). is_some (cond b (Some d.last_dms) (last_dms_of r (xs ++ ys))) ≡ true) [
  | true ↦ refl
  | false ↦ named_behind r xs ys named
]

named_later : (xs ys outputs : List DiskRowset) → AllNamed ys outputs → AllNamed (xs ++ ys) outputs
named_later xs ys [] named = tt
named_later xs ys (d ∷ outputs) named = (named_behind d.rowset xs ys named.0, named_later xs ys outputs named.1)

pub all_named : (xs outputs : List DiskRowset) → AllNamed (xs ++ outputs) outputs
all_named xs outputs = named_later xs outputs outputs (own outputs)
  where
    front : (d : DiskRowset) (ys zs : List DiskRowset) → AllNamed ys zs → AllNamed (d ∷ ys) zs
    front d ys [] named = tt
    front d ys (z ∷ zs) named = (named_behind z.rowset (d ∷ []) ys named.0, front d ys zs named.1)

    own : (zs : List DiskRowset) → AllNamed zs zs
    own [] = tt
    own (z ∷ zs) = (ap (λ (b : Bool). is_some (cond b (Some z.last_dms) (last_dms_of z.rowset zs))) (eq-eqb z.rowset z.rowset refl), front z zs zs (own zs))

-- ---- the groups of each kind of store

-- a MemRowSet is no rowset
pub mem_at : (r n last : ℕ) → is_at (disk r) (newer memory n (Some last)) ≡ false
mem_at r n last = elim (nat_lt last n) as (λ (b : Bool). is_at (disk r) (cond b (Some memory) None) ≡ false) [
  | true ↦ refl
  | false ↦ refl
]

-- nor is a rowset one
pub rowset_at : (r : ℕ) (o : Option ℕ) → is_at memory (if_there (disk r) o) ≡ false
rowset_at r None = refl
rowset_at r (Some last) = refl

-- and rowsets of two numbers are two
pub other_at : (r s : ℕ) (o : Option ℕ) → r ≢ s → is_at (disk r) (if_there (disk s) o) ≡ false
other_at r s None ne = refl
other_at r s (Some last) ne = ne_eqb r s ne

named_at : (r s : ℕ) (o : Option ℕ) → is_some o ≡ true → is_at (disk r) (if_there (disk s) o) ≡ (r == s)
named_at r s None named = absurd (cc)
named_at r s (Some last) named = refl

-- under the superblock from before, the frozen MemRowSets stand for memory
pub frozen_memory : (super : Super) (last : ℕ) (stores : Stores) → AreFrozen super.last_mem last stores → group super memory stores ≡ hists_of stores
frozen_memory super last [] f = refl
frozen_memory super last ((mem_rows n, h) ∷ stores) f =
    take_it super memory (mem_rows n, h) stores (ap (λ (b : Bool). is_at memory (cond b (Some memory) None)) (lt-ltb super.last_mem n f.0.0)) ∙ ap (λ (l : List Hist). h ∷ l) (frozen_memory super last stores f.1)
frozen_memory super last ((rowset r, h) ∷ stores) f = absurd f.0

pub frozen_disk : (super : Super) (low last r : ℕ) (stores : Stores) → AreFrozen low last stores → group super (disk r) stores ≡ []
frozen_disk super low last r [] f = refl
frozen_disk super low last r ((mem_rows n, h) ∷ stores) f = skip super (disk r) (mem_rows n, h) stores (mem_at r n super.last_mem) ∙ frozen_disk super low last r stores f.1
frozen_disk super low last r ((rowset s, h) ∷ stores) f = absurd f.0

-- and for none under the one that holds them
pub frozen_none : (super : Super) (low : ℕ) (p : Place) (stores : Stores) → AreFrozen low super.last_mem stores → group super p stores ≡ []
frozen_none super low p [] f = refl
frozen_none super low p ((mem_rows n, h) ∷ stores) f =
    skip super p (mem_rows n, h) stores (ap (λ (b : Bool). is_at p (cond b (Some memory) None)) (le-ltb super.last_mem n f.0.1)) ∙ frozen_none super low p stores f.1
frozen_none super low p ((rowset r, h) ∷ stores) f = absurd f.0

pub older_memory : (super : Super) (next : ℕ) (stores : Stores) → AreOlder next stores → group super memory stores ≡ []
older_memory super next [] o = refl
older_memory super next ((mem_rows n, h) ∷ stores) o = absurd o.0
older_memory super next ((rowset r, h) ∷ stores) o = skip super memory (rowset r, h) stores (rowset_at r (last_dms_of r super.rowsets)) ∙ older_memory super next stores o.1

pub older_above : (super : Super) (next r : ℕ) (stores : Stores) → AreOlder next stores → next ≤ r → group super (disk r) stores ≡ []
older_above super next r [] o up = refl
older_above super next r ((mem_rows n, h) ∷ stores) o up = absurd o.0
older_above super next r ((rowset s, h) ∷ stores) o up =
    skip super (disk r) (rowset s, h) stores (other_at r s (last_dms_of s super.rowsets) (λ e. let lt = o.0 in omega arith)) ∙ older_above super next r stores o.1 up

-- what a superblock with the outputs behind its rowsets says of the others is as before
pub older_same : (old : Super) (a c need last_mem next : ℕ) (outputs : List DiskRowset) (r : ℕ) (stores : Stores) → AreFrom next outputs → AreOlder next stores
    → group (flushed old a c need last_mem outputs) (disk r) stores ≡ group old (disk r) stores
older_same old a c need last_mem next outputs r [] from o = refl
older_same old a c need last_mem next outputs r ((mem_rows n, h) ∷ stores) from o = absurd o.0
older_same old a c need last_mem next outputs r ((rowset s, h) ∷ stores) from o =
    ap (λ (k : Option ℕ). cond (is_at (disk r) (if_there (disk s) k)) (h ∷ group (flushed old a c need last_mem outputs) (disk r) stores) (group (flushed old a c need last_mem outputs) (disk r) stores))
    (last_more s old.rowsets outputs (none_from next s outputs from o.0))
    ∙ ap (λ (l : List Hist). cond (is_at (disk r) (if_there (disk s) (last_dms_of s old.rowsets))) (h ∷ l) l) (older_same old a c need last_mem next outputs r stores from o.1)

-- the outputs stand for none under the superblock from before
pub outputs_none : (super : Super) (next last_mem : ℕ) (p : Place) (q : List ℕ) (outputs : List DiskRowset) → RowsetsBelow (before next last_mem) super.rowsets → AreFrom next outputs → group super p (in_memory q outputs) ≡ []
outputs_none super next last_mem p q [] below from = refl
outputs_none super next last_mem p q (d ∷ outputs) below from =
    skip super p (rowset d.rowset, hist_in_files q d) (in_memory q outputs) (ap (λ (o : Option ℕ). is_at p (if_there (disk d.rowset) o)) (none_named (before next last_mem) super.rowsets d.rowset below from.0))
    ∙ outputs_none super next last_mem p q outputs below from.1

pub outputs_memory : (super : Super) (q : List ℕ) (outputs : List DiskRowset) → group super memory (in_memory q outputs) ≡ []
outputs_memory super q [] = refl
outputs_memory super q (d ∷ outputs) = skip super memory (rowset d.rowset, hist_in_files q d) (in_memory q outputs) (rowset_at d.rowset (last_dms_of d.rowset super.rowsets)) ∙ outputs_memory super q outputs

pub outputs_below : (super : Super) (next r : ℕ) (q : List ℕ) (outputs : List DiskRowset) → AreFrom next outputs → r < next → group super (disk r) (in_memory q outputs) ≡ []
outputs_below super next r q [] from lt = refl
outputs_below super next r q (d ∷ outputs) from lt =
    skip super (disk r) (rowset d.rowset, hist_in_files q d) (in_memory q outputs) (other_at r d.rowset (last_dms_of d.rowset super.rowsets) (λ e. let up = from.0 in omega arith)) ∙ outputs_below super next r q outputs from.1 lt

-- and each for its own place under the one that names them
lacked : (super : Super) (r : ℕ) (q : List ℕ) (outputs : List DiskRowset) → LacksNumber r outputs → group super (disk r) (in_memory q outputs) ≡ []
lacked super r q [] lacks = refl
lacked super r q (d ∷ outputs) lacks =
    skip super (disk r) (rowset d.rowset, hist_in_files q d) (in_memory q outputs) (at (last_dms_of d.rowset super.rowsets)) ∙ lacked super r q outputs lacks.1
  where
    at : (o : Option ℕ) → is_at (disk r) (if_there (disk d.rowset) o) ≡ false
    at None = refl
    at (Some last) = lacks.0

number_is : (r s : ℕ) → (r == s) ≡ true → r ≡ s
number_is r s e = eqb-true r s e

pub outputs_stand : (super : Super) (b r : ℕ) (q : List ℕ) (outputs : List DiskRowset) → AllNamed super.rowsets outputs → NumbersDiffer outputs
    → AreAlike b (group super (disk r) (in_memory q outputs)) (hist_at (disk r) (in_files q outputs) ∷ [])
outputs_stand super b r q [] named differ = alike_to_never b
outputs_stand super b r q (d ∷ outputs) named differ = by (outputs_stand super b r q outputs named.1 differ.1) (r == d.rowset) refl
  where
    x : Name × Hist
    x = (rowset d.rowset, hist_in_files q d)

    at : (k : Bool) → (r == d.rowset) ≡ k → is_at (disk r) (stands_for super x.0) ≡ k
    at k e = named_at r d.rowset (last_dms_of d.rowset super.rowsets) named.0 ∙ e

    by : AreAlike b (group super (disk r) (in_memory q outputs)) (hist_at (disk r) (in_files q outputs) ∷ []) → (k : Bool) → (r == d.rowset) ≡ k → AreAlike b (group super (disk r) (in_memory q (d ∷ outputs))) (hist_at (disk r) (in_files q (d ∷ outputs)) ∷ [])
    by later true e =
        let mine : group super (disk r) (in_memory q (d ∷ outputs)) ≡ hist_in_files q d ∷ [] =
        take_it super (disk r) x (in_memory q outputs) (at true e)
        ∙ ap (λ (l : List Hist). hist_in_files q d ∷ l) (lacked super r q outputs (subst (λ (n : ℕ). LacksNumber n outputs) (sym (number_is r d.rowset e)) differ.0)) in
        subst (λ (l : List Hist). AreAlike b l (hist_at (disk r) (in_files q (d ∷ outputs)) ∷ [])) (sym mine)
        (subst (λ (k : Bool). AreAlike b (hist_in_files q d ∷ []) (cond k (hist_in_files q d) (hist_at (disk r) (in_files q outputs)) ∷ [])) (sym e) (alike_itself b (hist_in_files q d)))
    by later false e =
        subst (λ (l : List Hist). AreAlike b l (hist_at (disk r) (in_files q (d ∷ outputs)) ∷ [])) (sym (skip super (disk r) x (in_memory q outputs) (at false e)))
        (subst (λ (k : Bool). AreAlike b (group super (disk r) (in_memory q outputs)) (cond k (hist_in_files q d) (hist_at (disk r) (in_files q outputs)) ∷ [])) (sym e) later)
