-- One operation on the stores of an opening, counted from 0, and on their places.
use Rattle.std.proofs.Common.{◌≡◌, ℕ, zero, suc, List, [], ◌∷◌, map, Option, Some, None, is_some, refl, sym, ap, ◌∙◌, subst, cond, true, false, Bool, ◌+◌, take, arith}
use Rattle.std.specs.Prelude.{slice_get}
use Rattle.std.specs.Option.{option_map}
use Rattle.std.specs.List.{AllByRecursion}
use Rattle.std.specs.FinMap.Entries.{put}
use Rattle.std.proofs.lemmas.Bool.Decides.{nat_tests}
use Rattle.kt_history.specs.declared.change.Change.{Change}
use Rattle.kt_history.specs.declared.operation.OpKind.{OpKind}
use Rattle.kt_history.specs.declared.operation.OpKind.TheVariants.{Insert, Upsert, Update, Delete, InsertIgnore, UpdateIgnore, DeleteIgnore}
use Rattle.kt_history.specs.declared.operation.RowOp.{RowOp}
use Rattle.kt_history.specs.declared.target.Kindly.{Kindly}
use Rattle.kt_history.specs.declared.target.Kindly.TheVariants.{Ins, Upd, Del}
use Rattle.kt_history.specs.Rows.{Row, key_cmp}
use Rattle.kt_history.specs.Operations.{effect}
use Rattle.kt_history.specs.Stores.{Hist, Store, hist_in, push, kind_made, change_of}
use Rattle.kt_tablet.specs.Filling.{filled}
use Rattle.kt_tablet.proofs.Filling.{find-filled, push-filled, put-filled}
use Rattle.kt_content.specs.Places.{Place, memory, disk, same_place, row_before, standing, row_there, or_live, live_in}
use Rattle.kt_content.specs.KeyOps.{may_join}
use Rattle.kt_content.specs.Opening.{Placed, held_of, joined_store}
use Rattle.kt_content.proofs.MoreOps.{place_itself, is_same}
use Rattle.kt_reopen.specs.Standing.{joined_nth, change_by}
use Rattle.kt_reopen.specs.Steps.{had_in, had_at}
use Rattle.kt_reopen.specs.Walks.{row_nth, IsFirst}

some_is : {X : Type 0} (x y : X) → Some x ≡ Some y → x ≡ y
some_is x y e = cc

-- ---- places

-- a store is at none of these places
abbrev pub Lacks : Place → Placed → Type 0
Lacks p [] = Unit {0}
Lacks p (s ∷ stores) = (same_place p s.0 ≡ false) × Lacks p stores

-- no place is there twice
abbrev pub AreApart : Placed → Type 0
AreApart [] = Unit {0}
AreApart (s ∷ stores) = Lacks s.0 stores × AreApart stores

abbrev pub places : Placed → List Place
places stores = map (λ (s : Place × Store). s.0) stores

turned : (p q : Place) → same_place p q ≡ false → same_place q p ≡ false
turned memory memory h = cc
turned memory (disk s) h = refl
turned (disk r) memory h = refl
turned (disk r) (disk s) h = grind (arith, nat_tests)

lacks_at : (p q : Place) (stores : Placed) (at : ℕ) → Lacks p stores → slice_get (places stores) at ≡ Some q → same_place p q ≡ false
lacks_at p q [] at l e = absurd (cc)
lacks_at p q (s ∷ stores) zero l e = subst (λ (x : Place). same_place p x ≡ false) (some_is s.0 q e) l.0
lacks_at p q (s ∷ stores) (suc at) l e = lacks_at p q stores at l.1 e

-- a change of the store at a place, by its number or by its place
pub nth_is : (at ts : ℕ) (p : Place) (q : List ℕ) (c : Change) (stores : Placed) → AreApart stores → slice_get (places stores) at ≡ Some p → joined_nth at ts q c stores ≡ joined_store p ts q c stores
nth_is at ts p q c [] d e = absurd (cc)
nth_is zero ts p q c (s ∷ stores) d e =
    let here : same_place p s.0 ≡ true = subst (λ (x : Place). same_place p x ≡ true) (sym (some_is s.0 p e)) (place_itself p) in
    sym (ap (λ b. cond b ((s.0, put key_cmp q (push ts c (hist_in q s.1)) s.1) ∷ stores) (s ∷ joined_store p ts q c stores)) here)
nth_is (suc at) ts p q c (s ∷ stores) d e =
    let other : same_place p s.0 ≡ false = turned s.0 p (lacks_at s.0 p stores at d.0 e) in
    ap (λ l. s ∷ l) (nth_is at ts p q c stores d.1 e) ∙ sym (ap (λ b. cond b ((s.0, put key_cmp q (push ts c (hist_in q s.1)) s.1) ∷ stores) (s ∷ joined_store p ts q c stores)) other)

-- the row of a key there
pub row_is : (at ts : ℕ) (p : Place) (q : List ℕ) (stores : Placed) → AreApart stores → slice_get (places stores) at ≡ Some p → row_there p (standing ts (held_of q stores)) ≡ row_nth ts q at stores
row_is at ts p q [] d e = absurd (cc)
row_is zero ts p q (s ∷ stores) d e =
    let here : same_place p s.0 ≡ true = subst (λ (x : Place). same_place p x ≡ true) (sym (some_is s.0 p e)) (place_itself p) in
    ap (λ b. cond b (row_before ts (hist_in q s.1)) (row_there p (standing ts (held_of q stores)))) here
row_is (suc at) ts p q (s ∷ stores) d e =
    let other : same_place p s.0 ≡ false = turned s.0 p (lacks_at s.0 p stores at d.0 e) in
    ap (λ b. cond b (row_before ts (hist_in q s.1)) (row_there p (standing ts (held_of q stores)))) other ∙ row_is at ts p q stores d.1 e

-- a change of the key leaves the places where they are
pub places_joined : (p : Place) (ts : ℕ) (q : List ℕ) (c : Change) (stores : Placed) → places (joined_store p ts q c stores) ≡ places stores
places_joined p ts q c [] = refl
places_joined p ts q c (s ∷ stores) = elim (same_place p s.0) as (λ b. places (cond b ((s.0, put key_cmp q (push ts c (hist_in q s.1)) s.1) ∷ stores) (s ∷ joined_store p ts q c stores)) ≡ s.0 ∷ places stores) [
  | true ↦ refl
  | false ↦ ap (λ l. s.0 ∷ l) (places_joined p ts q c stores)
]

-- and the rows of the other places as they are
pub row_beside : (p r : Place) (ts u : ℕ) (q : List ℕ) (c : Change) (stores : Placed) → same_place r p ≡ false → row_there r (standing u (held_of q (joined_store p ts q c stores))) ≡ row_there r (standing u (held_of q stores))
row_beside p r ts u q c [] apart = refl
row_beside p r ts u q c (s ∷ stores) apart = by (same_place p s.0) refl (row_beside p r ts u q c stores apart)
  where
    by : (b : Bool) → same_place p s.0 ≡ b → row_there r (standing u (held_of q (joined_store p ts q c stores))) ≡ row_there r (standing u (held_of q stores))
        → row_there r (standing u (held_of q (cond b ((s.0, put key_cmp q (push ts c (hist_in q s.1)) s.1) ∷ stores) (s ∷ joined_store p ts q c stores)))) ≡ row_there r (standing u (held_of q (s ∷ stores)))
    by true here more =
        let same : p ≡ s.0 = is_same p s.0 here in
        let other : same_place r s.0 ≡ false = subst (λ (x : Place). same_place r x ≡ false) same apart in
        ap (λ b. cond b (row_before u (hist_in q (put key_cmp q (push ts c (hist_in q s.1)) s.1))) (row_there r (standing u (held_of q stores)))) other
        ∙ sym (ap (λ b. cond b (row_before u (hist_in q s.1)) (row_there r (standing u (held_of q stores)))) other)
    by false here more = ap (λ o. cond (same_place r s.0) (row_before u (hist_in q s.1)) o) more

-- ---- the store that has a key live

none_there : (o : Option Row) → is_some o ≡ false → o ≡ None
none_there None h = refl
none_there (Some row) h = cc

one_there : (o : Option Row) → is_some o ≡ true → (row : Row) × (o ≡ Some row)
one_there None h = cc
one_there (Some row) h = (row, refl)

pub live_nowhere : (ts : ℕ) (q : List ℕ) (stores : Placed) → IsFirst ts q None stores → live_in (standing ts (held_of q stores)) ≡ None
live_nowhere ts q [] h = refl
live_nowhere ts q (s ∷ stores) h =
    ap (λ o. or_live s.0 o (live_in (standing ts (held_of q stores)))) (none_there (row_before ts (hist_in q s.1)) h.0) ∙ live_nowhere ts q stores h.1

pub live_there : (ts : ℕ) (q : List ℕ) (stores : Placed) (at : ℕ) (p : Place) → IsFirst ts q (Some at) stores → slice_get (places stores) at ≡ Some p
    → (row : Row) × (live_in (standing ts (held_of q stores)) ≡ Some (p, row)) × (row_nth ts q at stores ≡ Some row)
live_there ts q [] at p h e = absurd (cc)
live_there ts q (s ∷ stores) zero p h e =
    let found : is_some (row_before ts (hist_in q s.1)) ≡ true = some_is (had_in ts q s) true h.1 in
    let row = one_there (row_before ts (hist_in q s.1)) found in
    (row.0, ap (λ o. or_live s.0 o (live_in (standing ts (held_of q stores)))) row.1 ∙ ap (λ (x : Place). Some (x, row.0)) (some_is s.0 p e), row.1)
live_there ts q (s ∷ stores) (suc at) p h e =
    let more = live_there ts q stores at p (h.0.1, h.1) e in
    (more.0, ap (λ o. or_live s.0 o (live_in (standing ts (held_of q stores)))) (none_there (row_before ts (hist_in q s.1)) h.0.0) ∙ more.1, more.2)

-- the stores before a place have no row of the key, and neither has the one there
pub had_is : (ts : ℕ) (q : List ℕ) (at : ℕ) (stores : Placed) (had : Bool) (s : Place × Store) → had_at ts q at stores ≡ Some had → slice_get stores at ≡ Some s → had_in ts q s ≡ had
had_is ts q at stores had s h there = some_is (had_in ts q s) had (sym (ap (option_map (had_in ts q)) there) ∙ h)

pub none_more : (ts : ℕ) (q : List ℕ) (stores : Placed) (at : ℕ) → AllByRecursion (λ (s : Place × Store). had_in ts q s ≡ false) (take at stores) → ((s : Place × Store) → slice_get stores at ≡ Some s → had_in ts q s ≡ false)
    → AllByRecursion (λ (s : Place × Store). had_in ts q s ≡ false) (take (at + 1) stores)
none_more ts q [] zero h one = tt
none_more ts q (s ∷ stores) zero h one = (one s refl, tt)
none_more ts q [] (suc at) h one = let e : suc at + 1 ≡ suc (at + 1) = omega arith in subst (λ (n : ℕ). AllByRecursion (λ (s : Place × Store). had_in ts q s ≡ false) (take n [])) (sym e) tt
none_more ts q (s ∷ stores) (suc at) h one =
    let e : suc at + 1 ≡ suc (at + 1) = omega arith in
    subst (λ (n : ℕ). AllByRecursion (λ (s : Place × Store). had_in ts q s ≡ false) (take n (s ∷ stores))) (sym e) (h.0, none_more ts q stores at h.1 one)

-- ---- what an operation makes

-- the change of an operation on a row is told by its kind and by whether the row is there
pub made_is : (fill : Row) (kind : OpKind) (key : List ℕ) (cells : Row) (row : Option Row) → (effect fill kind cells row).0 ≡ option_map (λ k. change_by fill k (record { kind = kind; key = key; cells = cells })) (kind_made kind (is_some row))
made_is fill Insert key cells None = refl
made_is fill Insert key cells (Some row) = refl
made_is fill Upsert key cells None = refl
made_is fill Upsert key cells (Some row) = refl
made_is fill Update key cells None = refl
made_is fill Update key cells (Some row) = refl
made_is fill Delete key cells None = refl
made_is fill Delete key cells (Some row) = refl
made_is fill InsertIgnore key cells None = refl
made_is fill InsertIgnore key cells (Some row) = refl
made_is fill UpdateIgnore key cells None = refl
made_is fill UpdateIgnore key cells (Some row) = refl
made_is fill DeleteIgnore key cells None = refl
made_is fill DeleteIgnore key cells (Some row) = refl

abbrev is_insert : Kindly → Bool
is_insert Ins = true
is_insert Upd = false
is_insert Del = false

-- a change that is no insert joins any store, and an insert the MemRowSet alone
pub joins_memory : (o : Option Change) → may_join memory o ≡ o
joins_memory None = refl
joins_memory (Some c) = refl

pub joins_disk : (fill : Row) (r : ℕ) (kind : Kindly) (op : RowOp) → may_join (disk r) (Some (change_by fill kind op)) ≡ (cond (is_insert kind) None (Some (change_by fill kind op)))
joins_disk fill r Ins op = refl
joins_disk fill r Upd op = refl
joins_disk fill r Del op = refl

-- ---- the MemRowSet with one change more, filled

pub filled_put : (fill : Row) (kind : Kindly) (op : RowOp) (ts : ℕ) (store : Store)
    → filled fill (put key_cmp op.key (push ts (change_of kind op.cells) (hist_in op.key store)) store) ≡ put key_cmp op.key (push ts (change_by fill kind op) (hist_in op.key (filled fill store))) (filled fill store)
filled_put fill kind op ts store =
    sym (put-filled fill op.key (push ts (change_of kind op.cells) (hist_in op.key store)) store)
    ∙ ap (λ (h : Hist). put key_cmp op.key h (filled fill store)) (sym (push-filled fill ts (change_of kind op.cells) (hist_in op.key store)) ∙ ap (push ts (change_by fill kind op)) (sym (find-filled fill op.key store)))
