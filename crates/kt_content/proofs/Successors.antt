-- The superblock that a job publishes.
use Rattle.std.proofs.Common.{◌≡◌, ℕ, List, [], ◌∷◌, ◌++◌, Some, None, Option, refl, sym, ap, ◌∙◌, arith, cond, true, false, Bool, ◌⊎◌, inl, inr}
use Rattle.std.specs.Prelude.{◌==◌, nat_lt}
use Rattle.std.specs.List.{list_any}
use Rattle.std.specs.Ordering.{eq_by_cmp}
use Rattle.std.proofs.lemmas.Bool.Decides.{nat_tests}
use Rattle.kt_history.specs.declared.operation.RowOp.{RowOp}
use Rattle.kt_history.specs.declared.target.Target.{Target}
use Rattle.kt_history.specs.declared.target.Target.TheVariants.{Mem, Delta}
use Rattle.kt_history.specs.Rows.{key_cmp}
use Rattle.kt_records.specs.declared.entry.Entry.TheVariants.{Replicate, Commit}
use Rattle.kt_records.specs.declared.entry.CommitRow.{CommitRow}
use Rattle.kt_history.specs.Stores.{never}
use Rattle.kt_loglaws.specs.Replay.{commit_of}
use Rattle.kt_rowfiles.specs.Files.{DiskRowset, hist_in_files}
use Rattle.kt_content.specs.Places.{Super, Place, memory, disk, same_place, needs, newer, last_dms_of, and_place, needed_in, in_files}
use Rattle.kt_content.specs.KeyOps.{KeyOp, op_on, seen}
use Rattle.kt_content.specs.MoreOps.{told}
use Rattle.kt_content.specs.Publishing.{kept, AllKept, AllGone, IsCarried, AllCarried}
use Rattle.kt_content.specs.Successors.{kept_rowsets, Succeeds, place_named, AllLeft, AllCovered, RowsCarry, IfTold, other_rowsets_are_the_same, other_stores_are_needed_as_before, each_operation_carries_over}

files_kept : (keep : Place → Bool) (q : List ℕ) (rowsets : List DiskRowset) → kept keep (in_files q rowsets) ≡ in_files q (kept_rowsets keep rowsets)
files_kept keep q [] = refl
files_kept keep q (d ∷ rowsets) = elim (keep (disk d.rowset)) as (λ b. cond b ((disk d.rowset, hist_in_files q d) ∷ kept keep (in_files q rowsets)) (kept keep (in_files q rowsets)) ≡ in_files q (cond b (d ∷ kept_rowsets keep rowsets) (kept_rowsets keep rowsets))) [
  | true ↦ ap (λ l. (disk d.rowset, hist_in_files q d) ∷ l) (files_kept keep q rowsets)
  | false ↦ files_kept keep q rowsets
]

pub same_rest : other_rowsets_are_the_same
same_rest keep old new q s =
    let files : kept keep (in_files q new.rowsets) ≡ kept keep (in_files q old.rowsets) = files_kept keep q new.rowsets ∙ ap (in_files q) s.rowsets ∙ sym (files_kept keep q old.rowsets) in
    elim (keep memory) as (λ b. cond b ((memory, never) ∷ kept keep (in_files q new.rowsets)) (kept keep (in_files q new.rowsets))
    ≡ cond b ((memory, never) ∷ kept keep (in_files q old.rowsets)) (kept keep (in_files q old.rowsets))) [
      | true ↦ ap (λ l. (memory, never) ∷ l) files
      | false ↦ files
    ]

pub last_kept : (keep : Place → Bool) (r : ℕ) (rowsets : List DiskRowset) → keep (disk r) ≡ true → last_dms_of r rowsets ≡ last_dms_of r (kept_rowsets keep rowsets)
last_kept keep r [] k = refl
last_kept keep r (d ∷ rowsets) k = elim (d.rowset == r) as (λ b. (d.rowset == r) ≡ b → cond b (Some d.last_dms) (last_dms_of r rowsets) ≡ last_dms_of r (cond (keep (disk d.rowset)) (d ∷ kept_rowsets keep rowsets) (kept_rowsets keep rowsets))) [
  | true ↦ λ e. let same : d.rowset ≡ r = grind (arith, nat_tests) in let here : keep (disk d.rowset) ≡ true = ap (λ n. keep (disk n)) same ∙ k in rw (here, e) refl
  | false ↦ λ e. elim (keep (disk d.rowset)) as (λ b. last_dms_of r rowsets ≡ last_dms_of r (cond b (d ∷ kept_rowsets keep rowsets) (kept_rowsets keep rowsets))) [
    | true ↦ rw e (last_kept keep r rowsets k)
    | false ↦ last_kept keep r rowsets k
  ]
] refl

pub same_needs : other_stores_are_needed_as_before
same_needs keep old new (Mem n) s k = ap (λ m. newer memory n (Some m)) (s.mem k)
same_needs keep old new (Delta r n) s k = ap (newer (disk r) n) (last_kept keep r new.rowsets k ∙ ap (last_dms_of r) s.rowsets ∙ sym (last_kept keep r old.rowsets k))

-- what is needed is needed where it is named
newer_is : (p : Place) (n : ℕ) (last : Option ℕ) (q : Place) → newer p n last ≡ Some q → p ≡ q
newer_is p n None q h = cc
newer_is p n (Some last) q h = elim (nat_lt last n) as (λ b. cond b (Some p) None ≡ Some q → p ≡ q) [ true ↦ λ e. (let f : p ≡ q = cc in f) | false ↦ λ e. absurd (cc) ] h

pub needs_named : (super : Super) (t : Target) (p : Place) → needs super t ≡ Some p → place_named t ≡ p
needs_named super (Mem n) p h = newer_is memory n (Some super.last_mem) p h
needs_named super (Delta r n) p h = newer_is (disk r) n (last_dms_of r super.rowsets) p h

pub and_kept : (keep : Place → Bool) (o : Option Place) (places : List Place) → ((p : Place) → o ≡ Some p → keep p ≡ true) → AllKept keep places → AllKept keep (and_place o places)
and_kept keep None places k all = all
and_kept keep (Some p) places k all = elim (list_any (same_place p) places) as (λ b. AllKept keep (cond b places (p ∷ places))) [ true ↦ all | false ↦ (k p refl, all) ]

pub and_gone : (keep : Place → Bool) (o : Option Place) (places : List Place) → ((p : Place) → o ≡ Some p → keep p ≡ false) → AllGone keep places → AllGone keep (and_place o places)
and_gone keep None places k all = all
and_gone keep (Some p) places k all = elim (list_any (same_place p) places) as (λ b. AllGone keep (cond b places (p ∷ places))) [ true ↦ all | false ↦ (k p refl, all) ]

all_left : (keep : Place → Bool) (old new : Super) (targets : List Target) → Succeeds keep old new → AllLeft keep targets → AllKept keep (needed_in old targets) × (needed_in new targets ≡ needed_in old targets)
all_left keep old new [] s l = (tt, refl)
all_left keep old new (t ∷ targets) s l =
    let rest = all_left keep old new targets s l.1 in (
      and_kept keep (needs old t) (needed_in old targets) (λ p e. ap keep (sym (needs_named old t p e)) ∙ l.0) rest.0,
      ap (λ o. and_place o (needed_in new targets)) (same_needs keep old new t s l.0) ∙ ap (and_place (needs old t)) rest.1,
    )

all_covered : (keep : Place → Bool) (old new : Super) (targets : List Target) → AllCovered keep new targets → AllGone keep (needed_in old targets) × (needed_in new targets ≡ [])
all_covered keep old new [] c = (tt, refl)
all_covered keep old new (t ∷ targets) c =
    let rest = all_covered keep old new targets c.2 in (
      and_gone keep (needs old t) (needed_in old targets) (λ p e. ap keep (sym (needs_named old t p e)) ∙ c.0) rest.0,
      ap (λ o. and_place o (needed_in new targets)) c.1 ∙ rest.1,
    )

row_carries : (keep : Place → Bool) (old new : Super) (targets : List Target) → Succeeds keep old new → (AllLeft keep targets ⊎ AllCovered keep new targets) → IsCarried keep old new (Some targets)
row_carries keep old new targets s (inl l) = inl (all_left keep old new targets s l)
row_carries keep old new targets s (inr c) = inr (all_covered keep old new targets c)

touched_carry : (keep : Place → Bool) (old new : Super) (q : List ℕ) (ts : ℕ) (ops : List RowOp) (rows : List CommitRow) (rest : List KeyOp) → Succeeds keep old new → RowsCarry keep new rows → AllCarried keep old new rest
    → AllCarried keep old new (op_on q ts ops (Some rows) ++ rest)
touched_carry keep old new q ts [] rows rest s c all = all
touched_carry keep old new q ts (op ∷ ops) [] rest s c all = all
touched_carry keep old new q ts (op ∷ ops) (row ∷ rows) rest s c all = elim (eq_by_cmp key_cmp q op.key) as (λ b. AllCarried keep old new (cond b (told ts op row.targets ∷ []) (op_on q ts ops (Some rows)) ++ rest)) [
  | true ↦ (row_carries keep old new row.targets s c.0, all)
  | false ↦ touched_carry keep old new q ts ops rows rest s c.1 all
]

write_carries : (keep : Place → Bool) (old new : Super) (q : List ℕ) (ts : ℕ) (ops : List RowOp) (told : Option (List CommitRow)) (rest : List KeyOp) → Succeeds keep old new → IfTold keep new told → AllCarried keep old new rest
    → AllCarried keep old new (op_on q ts ops told ++ rest)
write_carries keep old new q ts ops None rest s c all = absurd c
write_carries keep old new q ts ops (Some rows) rest s c all = touched_carry keep old new q ts ops rows rest s c all

pub all_carry_over : each_operation_carries_over
all_carry_over keep old new q all [] s c = tt
all_carry_over keep old new q all (Replicate ts ops ∷ records) s c = write_carries keep old new q ts ops (commit_of ts all) (seen q all records) s c.0 (all_carry_over keep old new q all records s c.1)
all_carry_over keep old new q all (Commit ts rows ∷ records) s c = all_carry_over keep old new q all records s c
