-- A change of a log that is taken again, and the row just before it.
use Rattle.std.proofs.Common.{◌≡◌, ◌≢◌, ◌<◌, ◌≤◌, ℕ, suc, Bool, true, false, cond, List, [], ◌∷◌, ◌++◌, inl, inr, Some, None, refl, sym, ap, subst, ◌∙◌, arith}
use Rattle.std.proofs.lemmas.Bool.{cases_lt}
use Rattle.kt_history.specs.declared.change.Change.{Change}
use Rattle.kt_history.specs.declared.operation.RowOp.{RowOp}
use Rattle.kt_history.specs.declared.target.Kindly.{Kindly}
use Rattle.std.specs.Ordering.{is_eq, eq_by_cmp}
use Rattle.std.specs.declared.cmp.Ordering.{Ordering}
use Rattle.std.specs.declared.cmp.Ordering.TheVariants.{Less, Equal, Greater}
use Rattle.std.specs.FinMap.{nat_cmp-IsAntisymmetric, slice_cmp-IsAntisymmetric}
use Rattle.kt_history.specs.Rows.{Row, Rows, key_cmp}
use Rattle.kt_history.specs.Views.{AreRising}
use Rattle.kt_history.specs.Stores.{Steps, Hist, Under, hist_in, never, change_of}
use Rattle.kt_histlaws.specs.Disks.{before_all}
use Rattle.kt_pool.specs.Contents.{Contents}
use Rattle.kt_rowfiles.specs.Files.{DiskRowset, row_under, records_in, falling}
use Rattle.kt_diskrowset.specs.declared.rowset.DiskRowSet.{DiskRowSet}
use Rattle.kt_diskrowset.specs.Rows.{Fresh, hist_found, store_with}
use Rattle.kt_diskrowset.specs.Rowset.{files_of, fresh_of}
use Rattle.kt_diskrowset.specs.Joining.{Joined, KeyUnder, Rejoined}
use Rattle.kt_diskrowset.proofs.Histories.{keys_under, hist_is}
use Rattle.kt_diskrowset.proofs.Rowsets.{store_rejoined}

under_more : (a b : ℕ) (steps : Steps) → a < b → Under a steps → Under b steps
under_more a b [] lt h = tt
under_more a b (c ∷ steps) lt h = (let low = h.0 in omega arith, under_more a b steps lt h.1)

under_push : (a b : ℕ) (c : Change) (steps : Steps) → a < b → Under a steps → Under b (steps ++ (a, c) ∷ [])
under_push a b c [] lt h = (lt, tt)
under_push a b c (x ∷ steps) lt h = (let low = h.0 in omega arith, under_push a b c steps lt h.1)

-- ---- different keys have different places

same_key : (a b : List ℕ) → eq_by_cmp key_cmp a b ≡ true → a ≡ b
same_key a b h = slice_cmp-IsAntisymmetric nat_cmp-IsAntisymmetric a b (equal (key_cmp a b) h)
  where
    equal : (o : Ordering) → is_eq o ≡ true → o ≡ Equal
    equal Less e = cc
    equal Equal e = refl
    equal Greater e = cc

some_is : {X : Type 0} (x y : X) → Some x ≡ Some y → x ≡ y
some_is x y e = cc

at_least : (q : List ℕ) (n : ℕ) (rows : Rows) (found : ℕ × Row) → row_under q n rows ≡ Some found → n ≤ found.0
at_least q n [] found e = absurd (let f : None ≡ Some found = e in cc)
at_least q n (r ∷ rows) found e = by (eq_by_cmp key_cmp q r.0) e (λ f. at_least q (suc n) rows found f)
  where
    by : (b : Bool) → cond b (Some (n, r.1)) (row_under q (suc n) rows) ≡ Some found → (row_under q (suc n) rows ≡ Some found → suc n ≤ found.0) → n ≤ found.0
    by true f more = let at = ap (λ (x : ℕ × Row). x.0) (some_is (n, r.1) found f) in omega arith
    by false f more = let k = more f in omega arith

one_place : (q k : List ℕ) (n : ℕ) (rows : Rows) (x y : ℕ × Row) → row_under q n rows ≡ Some x → row_under k n rows ≡ Some y → x.0 ≡ y.0 → q ≡ k
one_place q k n [] x y e f same = absurd (let g : None ≡ Some x = e in cc)
one_place q k n (r ∷ rows) x y e f same = by (eq_by_cmp key_cmp q r.0) (eq_by_cmp key_cmp k r.0) refl refl e f (λ g h. one_place q k (suc n) rows x y g h same)
  where
    by : (a b : Bool) → eq_by_cmp key_cmp q r.0 ≡ a → eq_by_cmp key_cmp k r.0 ≡ b → cond a (Some (n, r.1)) (row_under q (suc n) rows) ≡ Some x → cond b (Some (n, r.1)) (row_under k (suc n) rows) ≡ Some y
        → (row_under q (suc n) rows ≡ Some x → row_under k (suc n) rows ≡ Some y → q ≡ k) → q ≡ k
    by true true a b g h more = same_key q r.0 a ∙ sym (same_key k r.0 b)
    by true false a b g h more = let at = ap (λ (v : ℕ × Row). v.0) (some_is (n, r.1) x g) in let low = at_least k (suc n) rows y h in absurd (omega arith)
    by false true a b g h more = let at = ap (λ (v : ℕ × Row). v.0) (some_is (n, r.1) y h) in let low = at_least q (suc n) rows x g in absurd (omega arith)
    by false false a b g h more = more g h

-- ---- the change of a row

module _ (s t : DiskRowSet) (old new : Contents) (ordinal ts : ℕ) (op : RowOp) (kind : Kindly) (row : Row) (j : Joined s t old new ordinal ts op kind)
    (at : row_under op.key 0 (files_of s).base ≡ Some (ordinal, row)) (low : Under ts (fresh_of s old ordinal)) where
  in_files : (q : List ℕ) (found : ℕ × Row) → row_under q 0 (files_of t).base ≡ Some found → row_under q 0 (files_of s).base ≡ Some found
  in_files q found e = ap (λ (d : DiskRowset). row_under q 0 d.base) (sym j.files) ∙ e

  here : (later : ℕ) → ts < later → Under later (fresh_of t new ordinal)
  here later lt = subst (Under later) (sym (j.row low)) (under_push ts later (change_of kind op.cells) (fresh_of s old ordinal) lt low)

  other : (u n : ℕ) → ordinal ≢ n → Under u (fresh_of s old n) → Under u (fresh_of t new n)
  other u n apart h = subst (Under u) (sym (j.rest low n apart)) h

  after : (later : ℕ) → ts < later → ((q : List ℕ) → KeyUnder later q s old) → (q : List ℕ) → KeyUnder later q t new
  after later lt all q found e = elim (cases_lt ordinal found.0) [
    | inl less ↦ other later found.0 (λ same. absurd (omega arith)) (all q found (in_files q found e))
    | inr more ↦ elim (cases_lt found.0 ordinal) [
      | inl less ↦ other later found.0 (λ same. absurd (omega arith)) (all q found (in_files q found e))
      | inr back ↦ let same : ordinal ≡ found.0 = omega arith in subst (λ (k : ℕ). Under later (fresh_of t new k)) same (here later lt)
    ]
  ]

  beside : (q : List ℕ) → q ≢ op.key → KeyUnder ts q s old → KeyUnder ts q t new
  beside q apart under found e =
      let was = in_files q found e in
      other ts found.0 (λ same. apart (one_place q op.key 0 (files_of s).base found (ordinal, row) was at (sym same))) (under found was)

  pub rejoined : AreRising (keys_under (files_of s).base) → Rejoined s t old new ts op kind
  rejoined rise = record {
    stands = j.stands;
    store = store_rejoined s t old new ordinal ts op kind row j rise at low;
    apart = beside;
    later = after;
    held = j.held;
    name = j.name;
    takes = j.takes;
    more = j.more;
    grows = j.grows;
    frame = j.frame;
  }

-- a key that no row has, has nothing
pub never_there : (d : DiskRowset) (fresh : Fresh) (q : List ℕ) → row_under q 0 d.base ≡ None → hist_in q (store_with d fresh) ≡ never
never_there d fresh q none = hist_is d fresh q ∙ ap (hist_found d fresh) none

-- the row before all changes of a key
pub first_is : (d : DiskRowset) (fresh : Fresh) (q : List ℕ) (found : ℕ × Row) → row_under q 0 d.base ≡ Some found → before_all (falling (records_in found.0 d.undos)) (Some found.1) ≡ (hist_in q (store_with d fresh)).first
first_is d fresh q found at = sym (ap (λ (h : Hist). h.first) (hist_is d fresh q ∙ ap (hist_found d fresh) at))
