-- A row of a disk rowset after all changes, and at a time; and the rowset after one change more.
use Rattle.std.proofs.Common.{◌≡◌, ◌≢◌, ◌↔◌, ◌≤◌, ◌^◌, ℕ, inl, inr, Bool, true, List, [], ◌∷◌, ◌++◌, append_assoc, Option, Some, None, is_some, refl, sym, ap, subst, ◌∙◌, arith, MatchOption}
use Rattle.std.proofs.lemmas.List.{append-nil, map-append}
use Rattle.std.proofs.lemmas.Bool.{ne_eqb}
use Rattle.std.specs.Prelude.{cond}
use Rattle.std.specs.FinMap.Entries.{put}
use Rattle.kt_history.specs.declared.change.Change.{Change}
use Rattle.kt_history.specs.declared.changes.Delta.{Delta}
use Rattle.kt_history.specs.declared.operation.RowOp.{RowOp}
use Rattle.kt_history.specs.declared.target.Kindly.{Kindly}
use Rattle.kt_history.specs.declared.target.Kindly.TheVariants.{Ins, Upd, Del}
use Rattle.kt_history.specs.declared.target.Target.TheVariants as target
use Rattle.kt_history.specs.Rows.{Row, key_cmp, apply, undo, fits}
use Rattle.kt_history.specs.Views.{AreRising}
use Rattle.kt_history.specs.Stores.{Steps, Hist, push, hist_in, after_steps, row_of, apply_all, last_row, step_at, Under, change_of, share, TakesUpTo}
use Rattle.kt_histlaws.specs.Disks.{disk_row_at, before_all, led_over, AreUndos}
use Rattle.kt_histlaws.proofs.Disks.{disk-row}
use Rattle.kt_histlaws.proofs.OneKey.{after_steps-append}
use Rattle.kt_pool.specs.Contents.{Contents, Stands, at_cell}
use Rattle.kt_tree.specs.Trees.{entries}
use Rattle.kt_rowfiles.specs.Files.{DiskRowset, row_under, records_in, rising, falling, row_with}
use Rattle.kt_rowfiles.specs.Reading.{disk_row}
use Rattle.kt_dms.specs.declared.store.DeltaMem.{DeltaMem}
use Rattle.kt_dms.specs.Stores as dms
use Rattle.kt_dms.specs.Stores.{deltas_of, steps_for, number_of, delta_by, Joins, cells_taken}
use Rattle.kt_dms.proofs.OneRow.{are_sorted}
use Rattle.kt_dms.proofs.RowsJoined.{joins_row, leaves_rows}
use Rattle.kt_diskrowset.specs.declared.rowset.DiskRowSet.{DiskRowSet}
use Rattle.kt_diskrowset.specs.Files.{lists_of, row_with_files}
use Rattle.kt_diskrowset.specs.Mems.{AllStand, AreApart, steps_in_mems, told_by, OwnedBy, cells_in}
use Rattle.kt_diskrowset.specs.Rows.{Fresh, hist_at, hist_found, store_with, UndosLeadBack}
use Rattle.kt_diskrowset.specs.Rowset.{mems_of, held_of, files_of, fresh_of, store_of, IsStore, Owns, cells_had, name_of}
use Rattle.kt_diskrowset.specs.Joining.{Joined, IsFrozen, KeyUnder}
use Rattle.kt_diskrowset.proofs.Beside.{HasGrown, last_grew, last_stands, all_stay, all_placed, told_same, stand_both, apart_both, owned_either, owned_front, cells-append, steps-append}
use Rattle.kt_diskrowset.proofs.Histories.{keys_under, hist_is, hists_same, pushed_in}

-- ---- a row after all changes

pub apply_all-append : (xs ys : Steps) (row : Option Row) → apply_all (xs ++ ys) row ≡ apply_all ys (apply_all xs row)
apply_all-append [] ys row = refl
apply_all-append (c ∷ xs) ys row = apply_all-append xs ys (apply c.1 row)

-- the changes that UNDO records lead back over make the base row
all_undone : (top : ℕ) (undos : Steps) (row : Option Row) → AreUndos top undos row → apply_all (led_over undos row) (before_all undos row) ≡ row
all_undone top [] row h = refl
all_undone top (u ∷ undos) row h =
    apply_all-append (led_over undos (apply u.1 row)) ((u.0, undo u.1 row) ∷ []) (before_all undos (apply u.1 row))
    ∙ ap (apply (undo u.1 row)) (all_undone u.0 undos (apply u.1 row) h.2) ∙ h.1

-- the row after all changes is that after the REDO records, and then after those in memory
pub last_is : (d : DiskRowset) (fresh : Fresh) (q : List ℕ) (found : ℕ × Row) → UndosLeadBack d → row_under q 0 d.base ≡ Some found
    → last_row (hist_at d fresh found) ≡ apply_all (fresh found.0) (apply_all (rising (records_in found.0 d.redos)) (Some found.1))
last_is d fresh q found lead at =
    let undos = falling (records_in found.0 d.undos) in
    let redos = rising (records_in found.0 d.redos) in
    apply_all-append (led_over undos (Some found.1) ++ redos) (fresh found.0) (before_all undos (Some found.1))
    ∙ ap (apply_all (fresh found.0)) (apply_all-append (led_over undos (Some found.1)) redos (before_all undos (Some found.1)) ∙ ap (apply_all redos) (all_undone (2 ^ 64) undos (Some found.1) (lead q found at)))

-- and the row at a time
pub row_is : (d : DiskRowset) (fresh : Fresh) (q : List ℕ) (found : ℕ × Row) (t : ℕ) → UndosLeadBack d → row_under q 0 d.base ≡ Some found
    → row_of t (hist_at d fresh found) ≡ after_steps t (fresh found.0) (disk_row_at t (disk_row d found))
row_is d fresh q found t lead at =
    after_steps-append t (row_with d (Some found)).steps (fresh found.0) (row_with d (Some found)).first
    ∙ ap (after_steps t (fresh found.0)) (disk-row (2 ^ 64) t (disk_row d found) (lead q found at))

-- ---- the stores behind the first ones

module _ (pool : Contents) (n : ℕ) (frozen : List DeltaMem) (active : DeltaMem) where
  pub behind_frozen : steps_in_mems pool n (frozen ++ active ∷ []) ≡ steps_in_mems pool n frozen ++ steps_for n (deltas_of active pool)
  behind_frozen = steps-append pool n frozen (active ∷ []) ∙ ap (λ steps. steps_in_mems pool n frozen ++ steps) (append-nil (steps_for n (deltas_of active pool)))

  pub last_in_mems : (row : Option Row) → apply_all (steps_in_mems pool n (frozen ++ active ∷ [])) row ≡ apply_all (steps_for n (deltas_of active pool)) (apply_all (steps_in_mems pool n frozen) row)
  last_in_mems row = ap (λ steps. apply_all steps row) behind_frozen ∙ apply_all-append (steps_in_mems pool n frozen) (steps_for n (deltas_of active pool)) row

  pub row_in_mems : (t : ℕ) (row : Option Row) → after_steps t (steps_in_mems pool n (frozen ++ active ∷ [])) row ≡ after_steps t (steps_for n (deltas_of active pool)) (after_steps t (steps_in_mems pool n frozen) row)
  row_in_mems t row = ap (λ steps. after_steps t steps row) behind_frozen ∙ after_steps-append t (steps_in_mems pool n frozen) (steps_for n (deltas_of active pool)) row

-- ---- below a time

pub under_back : (ts : ℕ) (xs ys : Steps) → Under ts (xs ++ ys) → Under ts ys
under_back ts [] ys h = h
under_back ts (c ∷ xs) ys h = under_back ts xs ys h.1

none_at : (ts : ℕ) (steps : Steps) → Under ts steps → step_at ts steps ≡ None
none_at ts [] h = refl
none_at ts (c ∷ steps) h = ap (λ b. cond b (Some c.1) (step_at ts steps)) (ne_eqb c.0 ts (λ e. absurd (let low = h.0 in omega arith))) ∙ none_at ts steps h.1

-- ---- one change more

clash : (c : Change) {o : Option Change} → o ≡ Some c → o ≡ None → ⊥
clash c e f = let g : Some c ≡ None = sym e ∙ f in cc

takes_share : (op : RowOp) (old new : Contents) (s t : DeltaMem) (ordinal ts : ℕ) (kind : Kindly) → cells_taken op ≤ share op → share op ≤ old.reserved → Joins s t old new ordinal ts op kind → TakesUpTo (share op) old new
takes_share op old new s t ordinal ts kind few room j = record {
  cells = cells_taken op;
  few = few;
  used = j.takes.used;
  reserved = let e = j.takes.reserved in omega arith;
  size = j.takes.size;
}

module _ (s : DiskRowSet) (a : DeltaMem) (old new : Contents) (ordinal ts : ℕ) (op : RowOp) (kind : Kindly) (st : IsStore s old) (few : cells_taken op ≤ share op) (room : share op ≤ old.reserved) where
  in_active : Under ts (fresh_of s old ordinal) → Under ts (steps_for ordinal (deltas_of s.active old))
  in_active h = under_back ts (steps_in_mems old ordinal s.frozen.items) (steps_for ordinal (deltas_of s.active old)) (subst (Under ts) (behind_frozen old ordinal s.frozen.items s.active) h)

  grew_by : Joins s.active a old new ordinal ts op kind → HasGrown s.active a old new
  grew_by j = record { here = j.stands; keeps = j.keeps; grows = j.grows; frame = j.frame }

  joined_one : Joins s.active a old new ordinal ts op kind → Joined s (record s { active = a }) old new ordinal ts op kind
  joined_one j =
      let last = last_grew s.frozen.items s.active a old new st.stand st.apart (grew_by j) in
      let here = last_stands old s.frozen.items s.active st.stand in
      let sorted = are_sorted old (entries s.active.tree old) here.tree.rising here.each in
      record {
        stands = record { stand = last.stand; apart = last.apart; lead = st.lead };
        held = refl;
        files = refl;
        frozen = told_same old new s.frozen.items last.others.kept;
        row = λ h.
            behind_frozen new ordinal s.frozen.items a
            ∙ ap (λ steps. steps ++ steps_for ordinal (deltas_of a new)) (last.others.steps ordinal)
            ∙ ap (λ deltas. steps_in_mems old ordinal s.frozen.items ++ steps_for ordinal deltas) j.joined
            ∙ ap (λ steps. steps_in_mems old ordinal s.frozen.items ++ steps) (joins_row (delta_by ordinal ts kind op) (deltas_of s.active old) sorted (in_active h))
            ∙ sym (append_assoc (steps_in_mems old ordinal s.frozen.items) (steps_for ordinal (deltas_of s.active old)) ((ts, change_of kind op.cells) ∷ []))
            ∙ ap (λ steps. steps ++ (ts, change_of kind op.cells) ∷ []) (sym (behind_frozen old ordinal s.frozen.items s.active));
        rest = λ h n other.
            behind_frozen new n s.frozen.items a
            ∙ ap (λ steps. steps ++ steps_for n (deltas_of a new)) (last.others.steps n)
            ∙ ap (λ deltas. steps_in_mems old n s.frozen.items ++ steps_for n deltas) j.joined
            ∙ ap (λ steps. steps_in_mems old n s.frozen.items ++ steps) (leaves_rows n (delta_by ordinal ts kind op) (deltas_of s.active old) other)
            ∙ sym (behind_frozen old n s.frozen.items s.active);
        name = ap (λ n. target.Delta s.number n) j.number;
        takes = takes_share op old new s.active a ordinal ts kind few room j;
        more =
            let x = cells-append new s.frozen.items (a ∷ []) in
            let y = cells-append old s.frozen.items (s.active ∷ []) in
            let same = last.others.cells in
            let had = j.had in
            let took = j.takes.used in
            omega arith;
        keeps = last.keeps;
        grows = last.grows;
        frame = last.frame;
      }

  -- the change of the row that was there at its time stays
  joined_still : (c : Change) → step_at ts (steps_for ordinal (deltas_of s.active old)) ≡ Some c → Joined s s old old ordinal ts op kind
  joined_still c e = record {
    stands = st;
    held = refl;
    files = refl;
    frozen = refl;
    row = λ h. absurd (clash c e (none_at ts (steps_for ordinal (deltas_of s.active old)) (in_active h)));
    rest = λ h n other. refl;
    name = refl;
    takes = record { cells = 0; few = omega arith; used = omega arith; reserved = omega arith; size = refl };
    more = refl;
    keeps = λ k own. own;
    grows = λ k own. inl own;
    frame = λ k none. refl;
  }

  joined_by : (o : Option Change) → step_at ts (steps_for ordinal (deltas_of s.active old)) ≡ o → MatchOption o (Joins s.active a old new ordinal ts op kind) (λ _. (a ≡ s.active) × (new ≡ old)) → Joined s (record s { active = a }) old new ordinal ts op kind
  joined_by None e m = joined_one m
  joined_by (Some c) e m =
      subst (λ (pool : Contents). Joined s (record s { active = a }) old pool ordinal ts op kind) (sym m.1)
      (subst (λ (x : DeltaMem). Joined s (record s { active = x }) old old ordinal ts op kind) (sym m.0) (joined_still c e))

  pub joined : MatchOption (step_at ts (steps_for ordinal (deltas_of s.active old))) (Joins s.active a old new ordinal ts op kind) (λ _. (a ≡ s.active) × (new ≡ old)) → Joined s (record s { active = a }) old new ordinal ts op kind
  joined m = joined_by (step_at ts (steps_for ordinal (deltas_of s.active old))) refl m

-- ---- the store

-- a change, which is no insert, fits a row that is there
pub fits_there : (kind : Kindly) (cells : Row) (row : Option Row) → kind ≢ Ins → fits (change_of kind cells) row ≡ true → is_some row ≡ true
fits_there Ins cells row no_ h = absurd (no_ refl)
fits_there Upd cells row no_ h = h
fits_there Del cells row no_ h = h

-- the change stands behind the history of its key, whatever the times of what its files have, and every other is as before
pub store_rejoined : (s t : DiskRowSet) (old new : Contents) (ordinal ts : ℕ) (op : RowOp) (kind : Kindly) (row : Row) → Joined s t old new ordinal ts op kind → AreRising (keys_under (files_of s).base)
    → row_under op.key 0 (files_of s).base ≡ Some (ordinal, row) → Under ts (fresh_of s old ordinal)
    → store_of t new ≡ put key_cmp op.key (push ts (change_of kind op.cells) (hist_in op.key (store_of s old))) (store_of s old)
store_rejoined s t old new ordinal ts op kind row j rise at low =
    let is : hist_in op.key (store_of s old) ≡ hist_at (files_of s) (fresh_of s old) (ordinal, row) = hist_is (files_of s) (fresh_of s old) op.key ∙ ap (hist_found (files_of s) (fresh_of s old)) at in
    ap (λ (d : DiskRowset). store_with d (fresh_of t new)) j.files
    ∙ pushed_in (files_of s) (fresh_of s old) (fresh_of t new) op.key ts (change_of kind op.cells) 0 (files_of s).base (ordinal, row) rise at (j.row low) (j.rest low)
    ∙ ap (λ (h : Hist). put key_cmp op.key (push ts (change_of kind op.cells) h) (store_of s old)) (sym is)

-- so it does where all that the rowset has of the key lies below it
pub store_joined : (s t : DiskRowSet) (old new : Contents) (ordinal ts : ℕ) (op : RowOp) (kind : Kindly) (row : Row) → Joined s t old new ordinal ts op kind → AreRising (keys_under (files_of s).base)
    → row_under op.key 0 (files_of s).base ≡ Some (ordinal, row) → Under ts (hist_in op.key (store_of s old)).steps
    → store_of t new ≡ put key_cmp op.key (push ts (change_of kind op.cells) (hist_in op.key (store_of s old))) (store_of s old)
store_joined s t old new ordinal ts op kind row j rise at under =
    let is : hist_in op.key (store_of s old) ≡ hist_at (files_of s) (fresh_of s old) (ordinal, row) = hist_is (files_of s) (fresh_of s old) op.key ∙ ap (hist_found (files_of s) (fresh_of s old)) at in
    store_rejoined s t old new ordinal ts op kind row j rise at (under_back ts (row_with (files_of s) (Some (ordinal, row))).steps (fresh_of s old ordinal) (subst (λ (h : Hist). Under ts h.steps) is under))

-- ---- where no place of its own has changed

pub stays : (s : DiskRowSet) (old new : Contents) → IsStore s old → ((k : ℕ) → Owns s old k → at_cell new k ≡ at_cell old k)
    → IsStore s new × (store_of s new ≡ store_of s old) × (cells_had s new ≡ cells_had s old) × ((k : ℕ) → Owns s new k ↔ Owns s old k)
stays s old new st same = let still = all_stay old new (mems_of s) st.stand same in (
  record { stand = still.stand; apart = still.apart st.apart; lead = st.lead },
  hists_same (files_of s) (fresh_of s old) (fresh_of s new) 0 (files_of s).base (λ m low. still.steps m),
  still.cells,
  (λ k. (still.back k, still.on k)),
)

-- and what lies in memory below a time does so still
pub under_stays : (s : DiskRowSet) (old new : Contents) (ts : ℕ) (q : List ℕ) → IsStore s old → ((k : ℕ) → Owns s old k → at_cell new k ≡ at_cell old k) → KeyUnder ts q s old → KeyUnder ts q s new
under_stays s old new ts q st same under found at = subst (Under ts) (sym ((all_stay old new (mems_of s) st.stand same).steps found.0)) (under found at)

abbrev first_deltas : List (ℕ × List Delta) → List Delta
first_deltas [] = []
first_deltas (told ∷ rest) = told.1

-- where nothing is told of them, they have no change of any row
steps_told : (pool : Contents) (n : ℕ) (xs : List DeltaMem) (number : ℕ) → told_by pool xs ≡ (number, []) ∷ [] → steps_in_mems pool n xs ≡ []
steps_told pool n [] number e = refl
steps_told pool n (x ∷ []) number e = let none : deltas_of x pool ≡ [] = ap first_deltas e in ap (λ (deltas : List Delta). steps_for n deltas ++ []) none
steps_told pool n (x ∷ y ∷ xs) number e = absurd (cc)

pub under_told : (s : DiskRowSet) (number : ℕ) (pool : Contents) → told_by pool (mems_of s) ≡ (number, []) ∷ [] → (ts : ℕ) (q : List ℕ) → KeyUnder ts q s pool
under_told s number pool told ts q found at = subst (Under ts) (sym (steps_told pool found.0 (mems_of s) number told)) tt

pub is_placed : (s : DiskRowSet) (pool : Contents) (k : ℕ) → IsStore s pool → Owns s pool k → Stands pool k
is_placed s pool k st own = all_placed pool (mems_of s) k st.stand own

-- ---- an empty DeltaMemStore behind the others

pub record IsEmpty (a : DeltaMem) : Type 0 where
  pub stands : (pool : Contents) → dms.IsStore a pool
  pub none : (pool : Contents) → deltas_of a pool ≡ []
  pub bare : (pool : Contents) (k : ℕ) → ¬ dms.Owns a pool k
  pub cells : (pool : Contents) → dms.cells_had a pool ≡ 0

module _ (pool : Contents) (xs : List DeltaMem) (a : DeltaMem) (empty : IsEmpty a) where
  none_owned : (k : ℕ) → ¬ OwnedBy pool (a ∷ []) k
  none_owned k last = elim last [ inl mine ↦ empty.bare pool k mine | inr none ↦ none ]

  more_steps : (n : ℕ) → steps_in_mems pool n (xs ++ a ∷ []) ≡ steps_in_mems pool n xs
  more_steps n = steps-append pool n xs (a ∷ []) ∙ ap (λ deltas. steps_in_mems pool n xs ++ (steps_for n deltas ++ [])) (empty.none pool) ∙ append-nil (steps_in_mems pool n xs)

  more_stand : AllStand pool xs → AllStand pool (xs ++ a ∷ [])
  more_stand st = stand_both pool xs (a ∷ []) st (empty.stands pool, tt)

  more_apart : AreApart pool xs → AreApart pool (xs ++ a ∷ [])
  more_apart apart = apart_both pool xs (a ∷ []) apart ((λ k own none. none), tt) (λ k own. none_owned k)

  more_owned : (k : ℕ) → OwnedBy pool (xs ++ a ∷ []) k → OwnedBy pool xs k
  more_owned k own = elim (owned_either pool xs (a ∷ []) k own) [ inl front ↦ front | inr last ↦ absurd (none_owned k last) ]

  more_cells : cells_in pool (xs ++ a ∷ []) ≡ cells_in pool xs
  more_cells = let e = cells-append pool xs (a ∷ []) in let z = empty.cells pool in omega arith

told_behind : (pool : Contents) (xs : List DeltaMem) (a : DeltaMem) (number : ℕ) → number_of a ≡ number → deltas_of a pool ≡ [] → told_by pool (xs ++ a ∷ []) ≡ told_by pool xs ++ (number, []) ∷ []
told_behind pool xs a number is none =
    map-append (λ (m : DeltaMem). (number_of m, deltas_of m pool)) xs (a ∷ [])
    ∙ ap (λ (n : ℕ). told_by pool xs ++ (n, deltas_of a pool) ∷ []) is ∙ ap (λ (deltas : List Delta). told_by pool xs ++ (number, deltas) ∷ []) none

pub frozen_is : (s t : DiskRowSet) (a : DeltaMem) (number : ℕ) → IsEmpty a → number_of a ≡ number → held_of t ≡ held_of s → files_of t ≡ files_of s → mems_of t ≡ mems_of s ++ a ∷ [] → name_of t ≡ target.Delta s.number number
    → IsFrozen s t number
frozen_is s t a number empty is held files mems name = record {
  held = held;
  told = λ pool. ap (told_by pool) mems ∙ told_behind pool (mems_of s) a number is (empty.none pool);
  name = name;
  stands = λ pool st. record {
    stand = subst (AllStand pool) (sym mems) (more_stand pool (mems_of s) a empty st.stand);
    apart = subst (AreApart pool) (sym mems) (more_apart pool (mems_of s) a empty st.apart);
    lead = subst UndosLeadBack (sym files) st.lead;
  };
  same = λ pool. ap (λ (d : DiskRowset). store_with d (fresh_of t pool)) files
      ∙ hists_same (files_of s) (fresh_of s pool) (fresh_of t pool) 0 (files_of s).base (λ m low. ap (steps_in_mems pool m) mems ∙ more_steps pool (mems_of s) a empty m);
  owns = λ pool k. (
    (λ own. more_owned pool (mems_of s) a empty k (subst (λ (xs : List DeltaMem). OwnedBy pool xs k) mems own)),
    (λ own. subst (λ (xs : List DeltaMem). OwnedBy pool xs k) (sym mems) (owned_front pool (mems_of s) (a ∷ []) k own)),
  );
  had = λ pool. ap (cells_in pool) mems ∙ more_cells pool (mems_of s) a empty;
}

-- ---- what is read of a row

module _ (s : DiskRowSet) (pool : Contents) (st : IsStore s pool) (q : List ℕ) (frozen : List DeltaMem) (same : frozen ≡ s.frozen.items) where
  pub live_is : (found : ℕ × Row) (n : ℕ) (x : Bool) → row_under q 0 (files_of s).base ≡ Some found → found.0 ≡ n
      → x ≡ is_some (apply_all (steps_for n (deltas_of s.active pool)) (apply_all (steps_in_mems pool n frozen) (apply_all (rising (records_in n (lists_of s.redo))) (Some found.1))))
      → x ≡ is_some (last_row (hist_at (files_of s) (fresh_of s pool) found))
  live_is found n x at is e =
      e
      ∙ ap (λ (fs : List DeltaMem). is_some (apply_all (steps_for n (deltas_of s.active pool)) (apply_all (steps_in_mems pool n fs) (apply_all (rising (records_in n (lists_of s.redo))) (Some found.1))))) same
      ∙ ap (λ (row : Option Row). is_some row) (sym (last_in_mems pool n s.frozen.items s.active (apply_all (rising (records_in n (lists_of s.redo))) (Some found.1))))
      ∙ ap (λ (m : ℕ). is_some (apply_all (fresh_of s pool m) (apply_all (rising (records_in m (lists_of s.redo))) (Some found.1)))) (sym is)
      ∙ ap (λ (row : Option Row). is_some row) (sym (last_is (files_of s) (fresh_of s pool) q found st.lead at))

  pub row_read : (n t : ℕ) (base : Row) (row : Option Row) → row_under q 0 (files_of s).base ≡ Some (n, base)
      → row ≡ after_steps t (steps_for n (deltas_of s.active pool)) (after_steps t (steps_in_mems pool n frozen) (disk_row_at t (row_with_files s.undo s.redo n base)))
      → row ≡ row_of t (hist_at (files_of s) (fresh_of s pool) (n, base))
  row_read n t base row at e =
      e
      ∙ ap (λ (fs : List DeltaMem). after_steps t (steps_for n (deltas_of s.active pool)) (after_steps t (steps_in_mems pool n fs) (disk_row_at t (row_with_files s.undo s.redo n base)))) same
      ∙ sym (row_in_mems pool n s.frozen.items s.active t (disk_row_at t (row_with_files s.undo s.redo n base)))
      ∙ sym (row_is (files_of s) (fresh_of s pool) q (n, base) t st.lead at)
