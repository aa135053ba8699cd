-- The names of a tablet's stores where the DeltaMemStore of a disk rowset is frozen.
use Rattle.std.proofs.Common.{◌≡◌, ◌≤◌, ◌<◌, ◌+◌, ◌^◌, ℕ, suc, zero, Bool, true, false, List, [], ◌∷◌, map, length, Option, Some, None, refl, sym, ap, ◌∙◌, subst, arith, cond, inl, inr}
use Rattle.std.specs.Prelude.{◌==◌, is_some}
use Rattle.std.specs.List.{All}
use Rattle.std.proofs.lemmas.Bool.{eqb-true, eqb-false, eq-eqb, ne_eqb}
use Rattle.kt_history.specs.declared.target.Target.{Target}
use Rattle.kt_history.specs.declared.target.Target.TheVariants.{Mem, Delta}
use Rattle.kt_history.specs.Stores.{Hist, Store, hist_in}
use Rattle.kt_histlaws.specs.Histories.{hists}
use Rattle.kt_records.specs.declared.entry.CommitRow.{CommitRow}
use Rattle.kt_records.specs.declared.entry.Entry.{Entry}
use Rattle.kt_records.specs.declared.entry.Entry.TheVariants.{Replicate, Commit}
use Rattle.kt_records.specs.Rules.{TargetFits}
use Rattle.kt_rowfiles.specs.Files.{DiskRowset}
use Rattle.kt_content.specs.DeltaFlushes.{IsUpTo, TargetsUpTo, RowsUpTo, DeltasUpTo, replaced, with_deltas}
use Rattle.kt_content.specs.InMemory.{Name, mem_rows, rowset, same_name, Stores}
use Rattle.kt_content.specs.Places.{Super, last_dms_of}
use Rattle.kt_content.specs.Rules.{Rules, HistPasses}
use Rattle.kt_content.specs.RunEvents.{Numbers, StoresBelow}
use Rattle.kt_joblaws.specs.DeltaJobs.{LacksRowset, IsAlone}
use Rattle.kt_tablet.specs.Jobs.{dms_in, store_in_names, next_dms}
use Rattle.kt_engine.specs.Memory.{name_of, by_name, IsNamed, FirstIsMem, LacksName, NamesDiffer, AreNamed}
use Rattle.kt_engine.specs.Logged.{DeltasBelow, StoresPass}
use Rattle.kt_engine.specs.Near.{first_number, IsKnown, NamesEach, AreNear, most_deltas}
use Rattle.kt_engine.specs.Over.{AreRowsetNames, AreShelved}
use Rattle.kt_engine.proofs.Lists.{all_none, all_head, all_tail, all_cons}
use Rattle.kt_engine.proofs.Passed.{never_passes}

some_same : (n m : ℕ) → Some n ≡ Some m → n ≡ m
some_same n m e = cc

flipped : (r s : ℕ) → (s == r) ≡ false → (r == s) ≡ false
flipped r s e = ne_eqb r s (λ same. eqb-false s r e (sym same))

same_flipped : (x r s : ℕ) → (x == r) ≡ true → (s == r) ≡ false → (x == s) ≡ false
same_flipped x r s own other = ne_eqb x s (λ same. eqb-false s r other (sym same ∙ eqb-true x r own))

-- ---- what a name stands for is as before

pub names_same : (r : ℕ) (names : List Target) → map name_of (next_dms r names) ≡ map name_of names
names_same r [] = refl
names_same r (Mem n ∷ names) = ap (λ (l : List Name). mem_rows n ∷ l) (names_same r names)
names_same r (Delta s n ∷ names) = elim (s == r) as (λ (b : Bool). map name_of (cond b (Delta s (n + 1) ∷ names) (Delta s n ∷ next_dms r names)) ≡ rowset s ∷ map name_of names) [
  | true ↦ refl
  | false ↦ ap (λ (l : List Name). rowset s ∷ l) (names_same r names)
]

pub stores_same : (r : ℕ) (names : List Target) (hs : List Hist) → by_name (next_dms r names) hs ≡ by_name names hs
stores_same r [] hs = refl
stores_same r (Mem n ∷ names) [] = refl
stores_same r (Mem n ∷ names) (h ∷ hs) = ap (λ (l : Stores). (mem_rows n, h) ∷ l) (stores_same r names hs)
stores_same r (Delta s n ∷ names) [] = elim (s == r) as (λ (b : Bool). by_name (cond b (Delta s (n + 1) ∷ names) (Delta s n ∷ next_dms r names)) [] ≡ []) [
  | true ↦ refl
  | false ↦ refl
]
stores_same r (Delta s n ∷ names) (h ∷ hs) = elim (s == r) as (λ (b : Bool). by_name (cond b (Delta s (n + 1) ∷ names) (Delta s n ∷ next_dms r names)) (h ∷ hs) ≡ (rowset s, h) ∷ by_name names hs) [
  | true ↦ refl
  | false ↦ ap (λ (l : Stores). (rowset s, h) ∷ l) (stores_same r names hs)
]

pub first_same : (r : ℕ) (names : List Target) → first_number (next_dms r names) ≡ first_number names
first_same r [] = refl
first_same r (Mem n ∷ names) = refl
first_same r (Delta s n ∷ names) = elim (s == r) as (λ (b : Bool). first_number (cond b (Delta s (n + 1) ∷ names) (Delta s n ∷ next_dms r names)) ≡ 0) [
  | true ↦ refl
  | false ↦ refl
]

pub rowsets_same : (r : ℕ) (names : List Target) → AreRowsetNames names → AreRowsetNames (next_dms r names)
rowsets_same r [] are = tt
rowsets_same r (Mem n ∷ names) are = absurd are
rowsets_same r (Delta s n ∷ names) are = elim (s == r) as (λ (b : Bool). AreRowsetNames (cond b (Delta s (n + 1) ∷ names) (Delta s n ∷ next_dms r names))) [
  | true ↦ are
  | false ↦ rowsets_same r names are
]

pub shelved_same : (r many last : ℕ) (names : List Target) → AreShelved many last names → AreShelved many last (next_dms r names)
shelved_same r zero last names are = rowsets_same r names are
shelved_same r (suc many) last [] are = absurd are
shelved_same r (suc many) last (Mem n ∷ names) are = (are.0, shelved_same r many n names are.1)
shelved_same r (suc many) last (Delta s n ∷ names) are = absurd are

-- ---- what holds of each name

-- of the new one, and of the others as before
each_next : (P : Target → Type 0) (r : ℕ) (names : List Target) → ((n : ℕ) → dms_in r names ≡ Some n → P (Delta r n) → P (Delta r (n + 1))) → All P names → All P (next_dms r names)
each_next P r [] new each = each
each_next P r (Mem n ∷ names) new each = all_cons P (Mem n) (next_dms r names) (all_head P (Mem n) names each) (each_next P r names new (all_tail P (Mem n) names each))
each_next P r (Delta s n ∷ names) new each = either (s == r) refl new (each_next P r names)
  where
    either : (b : Bool) → (s == r) ≡ b → ((m : ℕ) → cond b (Some n) (dms_in r names) ≡ Some m → P (Delta r m) → P (Delta r (m + 1))) → (((m : ℕ) → dms_in r names ≡ Some m → P (Delta r m) → P (Delta r (m + 1))) → All P names → All P (next_dms r names))
        → All P (cond b (Delta s (n + 1) ∷ names) (Delta s n ∷ next_dms r names))
    either true e own rest =
        let same : s ≡ r = eqb-true s r e in
        all_cons P (Delta s (n + 1)) names (subst (λ (k : ℕ). P (Delta k (n + 1))) (sym same) (own n refl (subst (λ (k : ℕ). P (Delta k n)) same (all_head P (Delta s n) names each)))) (all_tail P (Delta s n) names each)
    either false e own rest = all_cons P (Delta s n) (next_dms r names) (all_head P (Delta s n) names each) (rest own (all_tail P (Delta s n) names each))

pub spelled_next : (r n : ℕ) (names : List Target) → dms_in r names ≡ Some n → n + 1 < 2 ^ 64 → All TargetFits names → All TargetFits (next_dms r names)
spelled_next r n names at fits each = each_next TargetFits r names (λ m here own. (own.0, let same : m ≡ n = some_same m n (sym here ∙ at) in omega arith)) each

lacks_next : (r : ℕ) (x : Name) (names : List Target) → LacksName x names → LacksName x (next_dms r names)
lacks_next r x [] l = tt
lacks_next r x (Mem n ∷ names) l = (l.0, lacks_next r x names l.1)
lacks_next r x (Delta s n ∷ names) l = elim (s == r) as (λ (b : Bool). LacksName x (cond b (Delta s (n + 1) ∷ names) (Delta s n ∷ next_dms r names))) [
  | true ↦ l
  | false ↦ (l.0, lacks_next r x names l.1)
]

differ_next : (r : ℕ) (names : List Target) → NamesDiffer names → NamesDiffer (next_dms r names)
differ_next r [] d = tt
differ_next r (Mem n ∷ names) d = (lacks_next r (mem_rows n) names d.0, differ_next r names d.1)
differ_next r (Delta s n ∷ names) d = elim (s == r) as (λ (b : Bool). NamesDiffer (cond b (Delta s (n + 1) ∷ names) (Delta s n ∷ next_dms r names))) [
  | true ↦ d
  | false ↦ (lacks_next r (rowset s) names d.0, differ_next r names d.1)
]

first_next : (r : ℕ) (names : List Target) → FirstIsMem names → FirstIsMem (next_dms r names)
first_next r [] f = tt
first_next r (Mem n ∷ names) f = tt
first_next r (Delta s n ∷ names) f = absurd f

-- they are names under the same superblock
pub named_next : (super : Super) (r n : ℕ) (names : List Target) → dms_in r names ≡ Some n → n + 1 < 2 ^ 64 → AreNamed super names → AreNamed super (next_dms r names)
named_next super r n names at fits k = record {
  each = each_next (IsNamed super) r names (λ m here own. let same : m ≡ n = some_same m n (sym here ∙ at) in let low = own.0.2 in ((own.0.0, own.0.1, omega arith), own.1, omega arith)) k.each;
  first = first_next r names k.first;
  differ = differ_next r names k.differ;
}

-- ---- under the superblock with the files that were written

module _ (d : DiskRowset) where
  last_other : (s : ℕ) (rowsets : List DiskRowset) → (s == d.rowset) ≡ false → last_dms_of s (replaced d.rowset d rowsets) ≡ last_dms_of s rowsets
  last_other s [] ne = refl
  last_other s (x ∷ rowsets) ne =
      let rest = last_other s rowsets ne in
      elim (x.rowset == d.rowset) as (λ (b : Bool). (x.rowset == d.rowset) ≡ b → cond ((cond b d x).rowset == s) (Some (cond b d x).last_dms) (last_dms_of s (replaced d.rowset d rowsets)) ≡ cond (x.rowset == s) (Some x.last_dms) (last_dms_of s rowsets)) [
        | true ↦ λ e.
            let own : (d.rowset == s) ≡ false = flipped d.rowset s ne in
            let its : (x.rowset == s) ≡ false = same_flipped x.rowset d.rowset s e ne in
            ap (λ (c : Bool). cond c (Some d.last_dms) (last_dms_of s (replaced d.rowset d rowsets))) own ∙ rest ∙ sym (ap (λ (c : Bool). cond c (Some x.last_dms) (last_dms_of s rowsets)) its)
        | false ↦ λ e. ap (λ (o : Option ℕ). cond (x.rowset == s) (Some x.last_dms) o) rest
      ] refl

  last_own : (rowsets : List DiskRowset) → is_some (last_dms_of d.rowset rowsets) ≡ true → last_dms_of d.rowset (replaced d.rowset d rowsets) ≡ Some d.last_dms
  last_own [] there = absurd (let no : false ≡ true = there in cc)
  last_own (x ∷ rowsets) there =
      elim (x.rowset == d.rowset) as (λ (b : Bool). (x.rowset == d.rowset) ≡ b → is_some (cond b (Some x.last_dms) (last_dms_of d.rowset rowsets)) ≡ true
      → cond ((cond b d x).rowset == d.rowset) (Some (cond b d x).last_dms) (last_dms_of d.rowset (replaced d.rowset d rowsets)) ≡ Some d.last_dms) [
        | true ↦ λ e h. ap (λ (c : Bool). cond c (Some d.last_dms) (last_dms_of d.rowset (replaced d.rowset d rowsets))) (eq-eqb d.rowset d.rowset refl)
        | false ↦ λ e h. ap (λ (c : Bool). cond c (Some x.last_dms) (last_dms_of d.rowset (replaced d.rowset d rowsets))) e ∙ last_own rowsets h
      ] refl there

  module _ (super : Super) (a c need : ℕ) where
    abbrev pub later : Super
    later = with_deltas super a c need d

    still_named : (t : Target) → same_name (name_of t) (rowset d.rowset) ≡ false → IsNamed super t → IsNamed later t
    still_named (Mem n) ne is = is
    still_named (Delta s n) ne is = ((is.0.0, last_other s super.rowsets ne ∙ is.0.1, is.0.2), is.1, is.2)

    others_named : (names : List Target) → LacksName (rowset d.rowset) names → All (IsNamed super) names → All (IsNamed later) names
    others_named [] l each = all_none (IsNamed later)
    others_named (t ∷ names) l each = all_cons (IsNamed later) t names (still_named t l.0 (all_head (IsNamed super) t names each)) (others_named names l.1 (all_tail (IsNamed super) t names each))

    each_later : (names : List Target) → dms_in d.rowset names ≡ Some d.last_dms → d.last_dms + 1 < 2 ^ 64 → NamesDiffer names → All (IsNamed super) names → All (IsNamed later) (next_dms d.rowset names)
    each_later [] at fits differ each = absurd (let no : None ≡ Some d.last_dms = at in cc)
    each_later (Mem n ∷ names) at fits differ each = all_cons (IsNamed later) (Mem n) (next_dms d.rowset names) (all_head (IsNamed super) (Mem n) names each) (each_later names at fits differ.1 (all_tail (IsNamed super) (Mem n) names each))
    each_later (Delta s n ∷ names) at fits differ each = either (s == d.rowset) refl at (λ here. each_later names here fits differ.1 (all_tail (IsNamed super) (Delta s n) names each))
      where
        own : IsNamed super (Delta s n)
        own = all_head (IsNamed super) (Delta s n) names each

        either : (b : Bool) → (s == d.rowset) ≡ b → cond b (Some n) (dms_in d.rowset names) ≡ Some d.last_dms → (dms_in d.rowset names ≡ Some d.last_dms → All (IsNamed later) (next_dms d.rowset names))
            → All (IsNamed later) (cond b (Delta s (n + 1) ∷ names) (Delta s n ∷ next_dms d.rowset names))
        either true e here rest =
            let same : s ≡ d.rowset = eqb-true s d.rowset e in
            let last : n ≡ d.last_dms = some_same n d.last_dms here in
            let there : is_some (last_dms_of d.rowset super.rowsets) ≡ true = ap is_some (ap (λ (k : ℕ). last_dms_of k super.rowsets) (sym same) ∙ own.0.1) in
            all_cons (IsNamed later) (Delta s (n + 1)) names
            ((d.last_dms, ap (λ (k : ℕ). last_dms_of k (replaced d.rowset d super.rowsets)) same ∙ last_own super.rowsets there, omega arith), own.1, omega arith)
            (others_named names (subst (λ (k : ℕ). LacksName (rowset k) names) same differ.0) (all_tail (IsNamed super) (Delta s n) names each))
        either false e here rest = all_cons (IsNamed later) (Delta s n) (next_dms d.rowset names) (still_named (Delta s n) e own) (rest here)

    pub later_named : (names : List Target) → dms_in d.rowset names ≡ Some d.last_dms → d.last_dms + 1 < 2 ^ 64 → AreNamed super names → AreNamed later (next_dms d.rowset names)
    later_named names at fits k = record { each = each_later names at fits k.differ k.each; first = first_next d.rowset names k.first; differ = differ_next d.rowset names k.differ }

-- the superblock names the rowset
pub rowset_named : (super : Super) (r n : ℕ) (names : List Target) → dms_in r names ≡ Some n → All (IsNamed super) names → is_some (last_dms_of r super.rowsets) ≡ true
rowset_named super r n [] at each = absurd (let no : None ≡ Some n = at in cc)
rowset_named super r n (Mem m ∷ names) at each = rowset_named super r n names at (all_tail (IsNamed super) (Mem m) names each)
rowset_named super r n (Delta s m ∷ names) at each = elim (s == r) as (λ (b : Bool). (s == r) ≡ b → cond b (Some m) (dms_in r names) ≡ Some n → is_some (last_dms_of r super.rowsets) ≡ true) [
  | true ↦ λ e here. ap is_some (ap (λ (k : ℕ). last_dms_of k super.rowsets) (sym (eqb-true s r e)) ∙ (all_head (IsNamed super) (Delta s m) names each).0.1)
  | false ↦ λ e here. rowset_named super r n names here (all_tail (IsNamed super) (Delta s m) names each)
] refl at

-- ---- records

target_more : (r n : ℕ) (t : Target) → IsUpTo r n t → IsUpTo r (n + 1) t
target_more r n (Mem m) u = tt
target_more r n (Delta s m) (inl other) = inl other
target_more r n (Delta s m) (inr own) = inr (own.0, let le = own.1 in omega arith)

targets_more : (r n : ℕ) (targets : List Target) → TargetsUpTo r n targets → TargetsUpTo r (n + 1) targets
targets_more r n [] u = tt
targets_more r n (t ∷ targets) u = (target_more r n t u.0, targets_more r n targets u.1)

rows_more : (r n : ℕ) (rows : List CommitRow) → RowsUpTo r n rows → RowsUpTo r (n + 1) rows
rows_more r n [] u = tt
rows_more r n (row ∷ rows) u = (targets_more r n row.targets u.0, rows_more r n rows u.1)

up_to_more : (r n : ℕ) (records : List Entry) → DeltasUpTo r n records → DeltasUpTo r (n + 1) records
up_to_more r n [] u = tt
up_to_more r n (Replicate ts ops ∷ records) u = up_to_more r n records u
up_to_more r n (Commit ts rows ∷ records) u = (rows_more r n rows u.0, up_to_more r n records u.1)

pub deltas_next : (r : ℕ) (names : List Target) (records : List Entry) → DeltasBelow names records → DeltasBelow (next_dms r names) records
deltas_next r [] records u = tt
deltas_next r (Mem n ∷ names) records u = deltas_next r names records u
deltas_next r (Delta s n ∷ names) records u = elim (s == r) as (λ (b : Bool). DeltasBelow (cond b (Delta s (n + 1) ∷ names) (Delta s n ∷ next_dms r names)) records) [
  | true ↦ (up_to_more s n records u.0, u.1)
  | false ↦ (u.0, deltas_next r names records u.1)
]

pub deltas_at : (r n : ℕ) (names : List Target) (records : List Entry) → dms_in r names ≡ Some n → DeltasBelow names records → DeltasUpTo r n records
deltas_at r n [] records at b = absurd (let no : None ≡ Some n = at in cc)
deltas_at r n (Mem m ∷ names) records at b = deltas_at r n names records at b
deltas_at r n (Delta s m ∷ names) records at b = elim (s == r) as (λ (c : Bool). (s == r) ≡ c → cond c (Some m) (dms_in r names) ≡ Some n → DeltasUpTo r n records) [
  | true ↦ λ e here. subst (λ (k : ℕ). DeltasUpTo k n records) (eqb-true s r e) (subst (λ (k : ℕ). DeltasUpTo s k records) (some_same m n here) b.0)
  | false ↦ λ e here. deltas_at r n names records here b.1
] refl at

-- ---- its store

others_lack : (r s : ℕ) → s ≡ r → (ns : List Target) (hs : List Hist) → LacksName (rowset s) ns → LacksRowset r (by_name ns hs)
others_lack r s same [] hs l = tt
others_lack r s same (Mem k ∷ ns) [] l = tt
others_lack r s same (Delta k j ∷ ns) [] l = tt
others_lack r s same (Mem k ∷ ns) (h ∷ hs) l = (tt, others_lack r s same ns hs l.1)
others_lack r s same (Delta k j ∷ ns) (h ∷ hs) l = (flipped r k (subst (λ (x : ℕ). (k == x) ≡ false) same l.0), others_lack r s same ns hs l.1)

pub alone_there : (q : List ℕ) (r n : ℕ) (names : List Target) (stores : List Store) → length names ≡ length stores → NamesDiffer names → dms_in r names ≡ Some n → IsAlone r (hist_in q (store_in_names r names stores)) (by_name names (hists q stores))
alone_there q r n [] stores many differ at = absurd (let no : None ≡ Some n = at in cc)
alone_there q r n (Mem m ∷ names) [] many differ at = absurd (omega arith)
alone_there q r n (Delta s m ∷ names) [] many differ at = absurd (omega arith)
alone_there q r n (Mem m ∷ names) (x ∷ stores) many differ at =
    let rest = alone_there q r n names stores (omega arith) differ.1 at in
    record { front = (mem_rows m, hist_in q x) ∷ rest.front; behind = rest.behind; are = ap (λ (l : Stores). (mem_rows m, hist_in q x) ∷ l) rest.are; before = (tt, rest.before); after = rest.after }
alone_there q r n (Delta s m ∷ names) (x ∷ stores) many differ at =
    elim (s == r) as (λ (b : Bool). (s == r) ≡ b → cond b (Some m) (dms_in r names) ≡ Some n → IsAlone r (hist_in q (cond b x (store_in_names r names stores))) ((rowset s, hist_in q x) ∷ by_name names (hists q stores))) [
      | true ↦ λ e here. record {
        front = [];
        behind = by_name names (hists q stores);
        are = ap (λ (k : ℕ). (rowset k, hist_in q x) ∷ by_name names (hists q stores)) (eqb-true s r e);
        before = tt;
        after = others_lack r s (eqb-true s r e) names (hists q stores) differ.0;
      }
      | false ↦ λ e here.
          let rest = alone_there q r n names stores (omega arith) differ.1 here in
          record { front = (rowset s, hist_in q x) ∷ rest.front; behind = rest.behind; are = ap (λ (l : Stores). (rowset s, hist_in q x) ∷ l) rest.are; before = (flipped r s e, rest.before); after = rest.after }
    ] refl at

-- what it has passes, where what all stores have does
pub there_passes : (rules : Rules) (r : ℕ) (names : List Target) (stores : List Store) → StoresPass rules stores → (q : List ℕ) → HistPasses rules q (hist_in q (store_in_names r names stores))
there_passes rules r [] stores all q = never_passes rules q
there_passes rules r (Mem m ∷ names) [] all q = never_passes rules q
there_passes rules r (Delta s m ∷ names) [] all q = never_passes rules q
there_passes rules r (Mem m ∷ names) (x ∷ stores) all q = there_passes rules r names stores (λ k. (all k).1) q
there_passes rules r (Delta s m ∷ names) (x ∷ stores) all q =
    let rest = there_passes rules r names stores (λ k. (all k).1) q in
    elim (s == r) as (λ (b : Bool). HistPasses rules q (hist_in q (cond b x (store_in_names r names stores)))) [
      | true ↦ (all q).0
      | false ↦ rest
    ]

-- ---- near what opening found

pub near_next : (found : List Target) (first next begun r n : ℕ) (names : List Target) (run : List Entry) → dms_in r names ≡ Some n → r < next → n < most_deltas first → AreNear found names first next begun run → AreNear found (next_dms r names) first next begun run
near_next found first next begun r n names run at low few is =
    let P = IsKnown found (first_number names) (most_deltas first) next in
    let first_is = sym (first_same r names) in
    record {
      names_known = subst (λ (m : ℕ). All (IsKnown found m (most_deltas first) next) (next_dms r names)) first_is
          (each_next P r names (λ m here own. inr (low, let same : m ≡ n = some_same m n (sym here ∙ at) in omega arith)) is.names_known);
      run_known = subst (λ (m : ℕ). All (NamesEach (IsKnown found m (most_deltas first) next)) run) first_is is.run_known;
      mems = subst (λ (m : ℕ). m ≤ first_number found + begun) first_is is.mems;
      jobs = is.jobs;
      rowsets = is.rowsets;
    }

-- its number is one that was given
pub rowset_below : (numbers : Numbers) (r n : ℕ) (names : List Target) → dms_in r names ≡ Some n → StoresBelow numbers (map name_of names) → r < numbers.next
rowset_below numbers r n [] at below = absurd (let no : None ≡ Some n = at in cc)
rowset_below numbers r n (Mem m ∷ names) at below = rowset_below numbers r n names at below.1
rowset_below numbers r n (Delta s m ∷ names) at below = elim (s == r) as (λ (b : Bool). (s == r) ≡ b → cond b (Some m) (dms_in r names) ≡ Some n → r < numbers.next) [
  | true ↦ λ e here. subst (λ (k : ℕ). k < numbers.next) (eqb-true s r e) below.0
  | false ↦ λ e here. rowset_below numbers r n names here below.1
] refl at
