-- The next superblock keeps the rules, and may be lent.
use Rattle.std.proofs.Common.{◌≡◌, ℕ, ◌≤◌, ◌<◌, ◌+◌, ◌^◌, ◌&&◌, Bool, true, false, leb, ltb, List, [], ◌∷◌, ◌++◌, refl, arith}
use Rattle.std.proofs.lemmas.Bool.{eq-eqb, leb-true, ltb-true, lt-ltb, le-leb}
use Rattle.kt_base.proofs.Values.{both_true}
use Rattle.kt_disk.specs.Disk.{Files}
use Rattle.kt_super.specs.declared.meta.FileRef.{FileRef}
use Rattle.kt_super.specs.declared.meta.MetaRowset.{MetaRowset}
use Rattle.kt_super.specs.declared.meta.Meta.{Meta}
use Rattle.kt_super.specs.Body.{slot_for, IsMeta}
use Rattle.kt_super.specs.Rowsets.{numbers_of, is_small, is_free, IsFile, AreFiles, taken_by, IsRowset, AreRowsets}
use Rattle.kt_storeside.specs.Sides.{StoreView, MayBeLent, IsSide}
use Rattle.kt_storeside.specs.Next.{next_meta}

-- ---- rowsets keep their rules where greater numbers come next

both : (a b : Bool) → a ≡ true → b ≡ true → (a && b) ≡ true
both true b e f = f
both false b e f = absurd cc

lt_more : (n next later : ℕ) → next ≤ later → ltb n next ≡ true → ltb n later ≡ true
lt_more n next later le e = let low = ltb-true n next e in lt-ltb n later (omega arith)

-- the test of a file is the conjunction of three
free_more : (next later n : ℕ) (taken : List ℕ) → next ≤ later → is_free next taken n ≡ true → is_free later taken n ≡ true
free_more next later n taken le e =
    let all = both_true (leb 3 n && ltb n next) _ e in
    let two = both_true (leb 3 n) _ all.0 in
    both (leb 3 n && ltb n later) _ (both (leb 3 n) _ two.0 (lt_more n next later le two.1)) all.1

file_more : (next later : ℕ) (taken : List ℕ) (f : FileRef) → next ≤ later → IsFile next taken f → IsFile later taken f
file_more next later taken f le is = (free_more next later f.file taken le is.0, is.1)

files_more : (next later : ℕ) (taken : List ℕ) (files : List FileRef) → next ≤ later → AreFiles next taken files → AreFiles later taken files
files_more next later taken [] le are = tt
files_more next later taken (f ∷ files) le are = (file_more next later taken f le are.0, files_more next later (taken ++ f.file ∷ []) files le are.1)

rowset_more : (rowset rowset_later file file_later least : ℕ) (taken : List ℕ) (r : MetaRowset) → rowset ≤ rowset_later → file ≤ file_later → IsRowset rowset file least taken r → IsRowset rowset_later file_later least taken r
rowset_more rowset rowset_later file file_later least taken r le more is = record {
  rowset = (let two = both_true (leb least r.rowset) (ltb r.rowset rowset) is.rowset in both (leb least r.rowset) (ltb r.rowset rowset_later) two.0 (lt_more r.rowset rowset rowset_later le two.1));
  last_dms = is.last_dms;
  base = file_more file file_later taken r.base more is.base;
  undo = files_more file file_later (taken ++ r.base.file ∷ []) r.undo more is.undo;
  redo = files_more file file_later (taken ++ r.base.file ∷ [] ++ numbers_of r.undo) r.redo more is.redo;
}

rowsets_more : (rowset rowset_later file file_later least : ℕ) (taken : List ℕ) (rs : List MetaRowset) → rowset ≤ rowset_later → file ≤ file_later → AreRowsets rowset file least taken rs → AreRowsets rowset_later file_later least taken rs
rowsets_more rowset rowset_later file file_later least taken [] le more are = tt
rowsets_more rowset rowset_later file file_later least taken (r ∷ rs) le more are =
    (rowset_more rowset rowset_later file file_later least taken r le more are.0, rowsets_more rowset rowset_later file file_later (r.rowset + 1) (taken_by taken r) rs le more are.1)

-- ---- the superblock

module _ {D : Type 0} (tells : Bool) (seen : D → Files) (now : D → ℕ) (leaves : D → ℕ → Files → Type 0) (faults : D → ℕ) (v : StoreView D) (s : IsSide tells seen now leaves faults v) (a c need : ℕ)
    (a_fits : a < 2 ^ 64) (c_fits : c < 2 ^ 64) (number : v.meta.number + 1 < 2 ^ 62) (few : v.meta.number + 1 ≤ v.first.most.number) (need_fits : need < 2 ^ 62) (rowset_fits : v.next_rowset < 2 ^ 62) (file_fits : v.next_file < 2 ^ 62) where
  abbrev next : Meta
  next = next_meta v a c need

  next_rules : IsMeta next
  next_rules =
      let low = leb-true 3 v.meta.next_file (both_true (leb 3 v.meta.next_file) _ s.rules.next_file).0 in
      let more = s.files in
      record {
        number = both (leb 1 next.number && is_small next.number) _ (both (leb 1 next.number) _ (le-leb 1 next.number (omega arith)) (lt-ltb next.number (2 ^ 62) number)) (eq-eqb (slot_for next.number) (slot_for next.number) refl);
        a = a_fits;
        c = c_fits;
        need = lt-ltb need (2 ^ 62) need_fits;
        last_mem = s.rules.last_mem;
        next_rowset = lt-ltb v.next_rowset (2 ^ 62) rowset_fits;
        next_file = both (leb 3 v.next_file) _ (le-leb 3 v.next_file (omega (arith, low, more))) (lt-ltb v.next_file (2 ^ 62) file_fits);
        next_column = s.rules.next_column;
        count = s.rules.count;
        columns = s.rules.columns;
        schema = s.rules.schema;
        rowsets = rowsets_more v.meta.next_rowset v.next_rowset v.meta.next_file v.next_file 0 [] v.meta.rowsets s.rowsets s.files s.rules.rowsets;
      }

  pub next_may_be_lent : MayBeLent tells seen now leaves v next
  next_may_be_lent = record {
    next = record { rules = next_rules; number = refl; rowsets = omega arith; files = omega arith };
    within = record { number = few; last_mem = s.within.last_mem; last_dms = s.within.last_dms };
    files = λ t image left n named. (s.publishes t).files image left n named;
  }

  -- the same of a superblock that is that one
  pub may_be_lent : (m : Meta) → m ≡ next → MayBeLent tells seen now leaves v m
  may_be_lent m is = rw is next_may_be_lent
