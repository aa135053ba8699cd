-- What a job that is outside takes of the stores, as events change them.
use Rattle.std.proofs.Common.{◌≡◌, ◌<◌, ℕ, zero, suc, Bool, true, false, cond, List, [], ◌∷◌, map, length, Option, Some, None, refl, sym, ap, ◌∙◌, subst, arith, inl, inr}
use Rattle.std.specs.List.{All}
use Rattle.std.proofs.lemmas.Bool.{le-leb}
use Rattle.std.specs.Prelude.{slice_get, is_some}
use Rattle.kt_history.specs.Rows.{Row, apply}
use Rattle.kt_history.specs.Stores.{Steps, Store, Hist, Under, hist_in, row_of, after_steps, apply_all, last_row}
use Rattle.kt_history.specs.Operations.{effect}
use Rattle.kt_history.specs.declared.change.Change.{Change}
use Rattle.kt_history.specs.declared.change.Change.TheVariants.{Upd, Del}
use Rattle.kt_history.specs.declared.operation.OpKind.{OpKind}
use Rattle.kt_history.specs.declared.operation.OpKind.TheVariants.{Insert, Upsert, Update, Delete, InsertIgnore, UpdateIgnore, DeleteIgnore}
use Rattle.kt_history.specs.declared.target.Target.{Target}
use Rattle.kt_history.specs.declared.target.Target.TheVariants.{Mem, Delta}
use Rattle.kt_histlaws.specs.Core.{live}
use Rattle.kt_histlaws.specs.Flights.{AllUnder}
use Rattle.kt_histlaws.specs.Histories.{hists, first_some, on_nth, nth_option, AtMostOne, Alone}
use Rattle.kt_histlaws.proofs.OneKey.{alone_of_one, alone_of_none, length_map}
use Rattle.kt_content.specs.MissedChanges.{is_insert}
use Rattle.kt_content.specs.Flushes.{before}
use Rattle.kt_content.specs.RunEvents.{Numbers, StoresBelow, IsBelow}
use Rattle.kt_stores.specs.Shelf.{place_of}
use Rattle.kt_tablet.proofs.Targets.{taken_live}
use Rattle.kt_engine.specs.Memory.{name_of}
use Rattle.kt_engine.specs.Over.{AreLow}
use Rattle.kt_engine.proofs.Lists.{all_none, all_cons}
use Rattle.kt_stores.specs.Takes.{Takes, rowsets as disks, takes, of_taken}

the_same : (a b : Target) → Some a ≡ Some b → a ≡ b
the_same a b e = cc

-- a MemRowSet that comes in front is not taken
pub taken_frozen : {A : Type 0} (numbers : List ℕ) (n : ℕ) (names : List Target) (x : A) (xs : List A) → of_taken (disks numbers) (Mem n ∷ names) (x ∷ xs) ≡ of_taken (disks numbers) names xs
taken_frozen numbers n names x xs = refl

-- the place of a store among those that are taken
abbrev pub among : Takes → ℕ → List Target → ℕ
among t i [] = 0
among t zero (name ∷ names) = 0
among t (suc i) (name ∷ names) = cond (takes t name) (suc (among t i names)) (among t i names)

-- a store that is taken changes there,
pub taken_changed : {A : Type 0} (t : Takes) (f : A → A) (i : ℕ) (name : Target) (names : List Target) (xs : List A) → slice_get names i ≡ Some name → takes t name ≡ true → of_taken t names (on_nth i f xs) ≡ on_nth (among t i names) f (of_taken t names xs)
taken_changed t f i name [] xs at is = absurd (cc)
taken_changed t f zero name (other ∷ names) [] at is = refl
taken_changed t f (suc i) name (other ∷ names) [] at is = by (takes t other)
  where
    by : (b : Bool) → [] ≡ on_nth (cond b (suc (among t i names)) (among t i names)) f []
    by true = refl
    by false = refl
taken_changed t f zero name (other ∷ names) (x ∷ xs) at is =
    let here : takes t other ≡ true = ap (takes t) (the_same other name at) ∙ is in
    ap (λ (b : Bool). cond b (f x ∷ of_taken t names xs) (of_taken t names xs)) here ∙ sym (ap (λ (b : Bool). on_nth zero f (cond b (x ∷ of_taken t names xs) (of_taken t names xs))) here)
taken_changed t f (suc i) name (other ∷ names) (x ∷ xs) at is = by (takes t other) (taken_changed t f i name names xs at is)
  where
    by : (b : Bool) → of_taken t names (on_nth i f xs) ≡ on_nth (among t i names) f (of_taken t names xs)
        → cond b (x ∷ of_taken t names (on_nth i f xs)) (of_taken t names (on_nth i f xs)) ≡ on_nth (cond b (suc (among t i names)) (among t i names)) f (cond b (x ∷ of_taken t names xs) (of_taken t names xs))
    by true rest = ap (λ l. x ∷ l) rest
    by false rest = rest

-- and has there what it has among all;
pub taken_has : {A B : Type 0} (t : Takes) (g : A → Option B) (i : ℕ) (name : Target) (names : List Target) (xs : List A) → slice_get names i ≡ Some name → takes t name ≡ true → nth_option (among t i names) (map g (of_taken t names xs)) ≡ nth_option i (map g xs)
taken_has t g i name [] xs at is = absurd (cc)
taken_has t g zero name (other ∷ names) [] at is = refl
taken_has t g (suc i) name (other ∷ names) [] at is = by (takes t other)
  where
    by : (b : Bool) → nth_option (cond b (suc (among t i names)) (among t i names)) (map g []) ≡ None
    by true = refl
    by false = refl
taken_has t g zero name (other ∷ names) (x ∷ xs) at is =
    let here : takes t other ≡ true = ap (takes t) (the_same other name at) ∙ is in
    ap (λ (b : Bool). nth_option zero (map g (cond b (x ∷ of_taken t names xs) (of_taken t names xs)))) here
taken_has t g (suc i) name (other ∷ names) (x ∷ xs) at is = by (takes t other) (taken_has t g i name names xs at is)
  where
    by : (b : Bool) → nth_option (among t i names) (map g (of_taken t names xs)) ≡ nth_option i (map g xs)
        → nth_option (cond b (suc (among t i names)) (among t i names)) (map g (cond b (x ∷ of_taken t names xs) (of_taken t names xs))) ≡ nth_option i (map g xs)
    by true rest = rest
    by false rest = rest

-- one that is not taken changes nothing
pub left_changed : {A : Type 0} (t : Takes) (f : A → A) (i : ℕ) (name : Target) (names : List Target) (xs : List A) → slice_get names i ≡ Some name → takes t name ≡ false → of_taken t names (on_nth i f xs) ≡ of_taken t names xs
left_changed t f i name [] xs at is = absurd (cc)
left_changed t f zero name (other ∷ names) [] at is = refl
left_changed t f (suc i) name (other ∷ names) [] at is = refl
left_changed t f zero name (other ∷ names) (x ∷ xs) at is =
    let here : takes t other ≡ false = ap (takes t) (the_same other name at) ∙ is in
    ap (λ (b : Bool). cond b (f x ∷ of_taken t names xs) (of_taken t names xs)) here ∙ sym (ap (λ (b : Bool). cond b (x ∷ of_taken t names xs) (of_taken t names xs)) here)
left_changed t f (suc i) name (other ∷ names) (x ∷ xs) at is = ap (λ l. cond (takes t other) (x ∷ l) l) (left_changed t f i name names xs at is)

-- ---- the row that an operation finds

first_there : {A : Type 0} (i : ℕ) (xs : List (Option A)) → is_some (nth_option i xs) ≡ true → is_some (first_some xs) ≡ true
first_there i [] e = absurd (let no : false ≡ true = e in cc)
first_there i (Some x ∷ xs) e = refl
first_there zero (None ∷ xs) e = absurd (let no : false ≡ true = e in cc)
first_there (suc i) (None ∷ xs) e = first_there i xs e

option_at : {A B : Type 0} (f : A → Option B) (i : ℕ) (xs : List A) (x : A) → slice_get xs i ≡ Some x → nth_option i (map f xs) ≡ f x
option_at f i [] x at = absurd (let no : None ≡ Some x = at in cc)
option_at f zero (y ∷ xs) x at = let same : y ≡ x = cc in ap f same
option_at f (suc i) (y ∷ xs) x at = option_at f i xs x at

-- where no change lies above a time, the row after all of them is that at the time
last_under : (ts : ℕ) (steps : Steps) (row : Option Row) → Under ts steps → apply_all steps row ≡ after_steps ts steps row
last_under ts [] row under = refl
last_under ts (c ∷ steps) row under = last_under ts steps (apply c.1 row) under.1 ∙ sym (ap (λ (b : Bool). after_steps ts steps (cond b (apply c.1 row) row)) (le-leb c.0 ts (omega (arith, under.0))))

under_one : (ts : ℕ) (hs : List Hist) (i : ℕ) (h : Hist) → AllUnder ts hs → slice_get hs i ≡ Some h → last_row h ≡ row_of ts h
under_one ts [] i h under at = absurd (let no : None ≡ Some h = at in cc)
under_one ts (g ∷ hs) zero h under at = let same : g ≡ h = cc in ap last_row (sym same) ∙ last_under ts g.steps g.first under.0 ∙ ap (row_of ts) same
under_one ts (g ∷ hs) (suc i) h under at = under_one ts hs i h under.1 at

there_is : {A B : Type 0} (names : List A) (f : Store → B) (stores : List Store) (i : ℕ) (name : A) → length names ≡ length stores → slice_get names i ≡ Some name → (h : B) × (slice_get (map f stores) i ≡ Some h)
there_is [] f stores i name many at = absurd (let no : None ≡ Some name = at in cc)
there_is (n ∷ names) f [] i name many at = absurd (omega (arith, many))
there_is (n ∷ names) f (s ∷ stores) zero name many at = (f s, refl)
there_is (n ∷ names) f (s ∷ stores) (suc i) name many at = there_is names f stores i name (omega (arith, many)) at

-- behind the first store the row is there, and it is live
pub row_there : (q : List ℕ) (ts k : ℕ) (names : List Target) (name : Target) (stores : List Store) → place_of q stores ≡ suc k → length names ≡ length stores → slice_get names (place_of q stores) ≡ Some name → AllUnder ts (hists q stores)
    → (is_some (live stores q ts) ≡ true) × (is_some (nth_option (place_of q stores) (map last_row (hists q stores))) ≡ true)
row_there q ts k names name stores behind many at under =
    let hs = hists q stores in
    let h = there_is names (hist_in q) stores (place_of q stores) name many at in
    elim (taken_live q ts stores h.0 under h.1) [
      | inl lives ↦ (
        first_there (place_of q stores) (map (row_of ts) hs) (ap is_some (option_at (row_of ts) (place_of q stores) hs h.0 h.1) ∙ lives),
        ap is_some (option_at last_row (place_of q stores) hs h.0 h.1 ∙ under_one ts hs (place_of q stores) h.0 under h.1) ∙ lives,
      )
      | inr none ↦ absurd (let first = none.1 in omega (arith, behind, first))
    ]

inside_at : {A : Type 0} (xs : List A) (i : ℕ) (x : A) → slice_get xs i ≡ Some x → i < length xs
inside_at [] i x at = absurd (let no : None ≡ Some x = at in cc)
inside_at (y ∷ xs) zero x at = omega arith
inside_at (y ∷ xs) (suc i) x at = let low = inside_at xs i x at in omega arith

-- and no other store has it there
pub row_alone : (q : List ℕ) (ts : ℕ) (names : List Target) (name : Target) (stores : List Store) → length names ≡ length stores → slice_get names (place_of q stores) ≡ Some name → AllUnder ts (hists q stores) → AtMostOne (map (row_of ts) (hists q stores))
    → (place_of q stores < length stores) × Alone (place_of q stores) (map (row_of ts) (hists q stores))
row_alone q ts names name stores many at under one =
    let hs = hists q stores in
    let h = there_is names (hist_in q) stores (place_of q stores) name many at in
    let inside = inside_at names (place_of q stores) name at in (
      omega arith,
      elim (taken_live q ts stores h.0 under h.1) [
        | inl lives ↦ alone_of_one (place_of q stores) (map (row_of ts) hs) one (ap is_some (option_at (row_of ts) (place_of q stores) hs h.0 h.1) ∙ lives)
        | inr none ↦ subst (λ (i : ℕ). Alone i (map (row_of ts) hs)) (sym none.1) (alone_of_none zero (map (row_of ts) hs) (subst (λ (i : ℕ). i < length (map (row_of ts) hs)) none.1 (long (inside_at hs (place_of q stores) h.0 h.1))) none.0)
      ],
    )
  where
    long : place_of q stores < length (hists q stores) → place_of q stores < length (map (row_of ts) (hists q stores))
    long lt = subst (λ (n : ℕ). place_of q stores < n) (sym (length_map (row_of ts) (hists q stores))) lt

upd_plain : (cells : Row) (c : Change) → Some (Upd cells) ≡ Some c → is_insert c ≡ false
upd_plain cells c e = let same : Upd cells ≡ c = cc in sym (ap is_insert same)

del_plain : (c : Change) → Some Del ≡ Some c → is_insert c ≡ false
del_plain c e = let same : Del ≡ c = cc in sym (ap is_insert same)

no_change : (c : Change) → None ≡ Some c → is_insert c ≡ false
no_change c e = absurd (let no : None ≡ Some c = e in cc)

-- a change of a row that is there is no insert
pub plain_change : (fill : Row) (kind : OpKind) (cells : Row) (row : Option Row) (c : Change) → is_some row ≡ true → (effect fill kind cells row).0 ≡ Some c → is_insert c ≡ false
plain_change fill kind cells None c there e = absurd (let no : false ≡ true = there in cc)
plain_change fill Insert cells (Some row) c there e = no_change c e
plain_change fill Upsert cells (Some row) c there e = upd_plain cells c e
plain_change fill Update cells (Some row) c there e = upd_plain cells c e
plain_change fill Delete cells (Some row) c there e = del_plain c e
plain_change fill InsertIgnore cells (Some row) c there e = no_change c e
plain_change fill UpdateIgnore cells (Some row) c there e = upd_plain cells c e
plain_change fill DeleteIgnore cells (Some row) c there e = del_plain c e

-- ---- names

-- names of disk rowsets below a number, and those that were given
pub named_low : (next : ℕ) (numbers : Numbers) (names : List Target) → AreLow next names → StoresBelow numbers (map name_of names) → All (IsBelow (before next numbers.active)) names
named_low next numbers [] low below = all_none (IsBelow (before next numbers.active))
named_low next numbers (Mem n ∷ names) low below = all_cons (IsBelow (before next numbers.active)) (Mem n) names below.0 (named_low next numbers names low below.1)
named_low next numbers (Delta r n ∷ names) low below = all_cons (IsBelow (before next numbers.active)) (Delta r n) names low.0 (named_low next numbers names low.1 below.1)
