-- One change more in one store: all of them stand as an opening has them.
use Rattle.std.proofs.Common.{◌≡◌, ◌⊎◌, ◌≤◌, ◌<◌, ℕ, zero, suc, ◌+◌, List, [], ◌∷◌, ◌++◌, map, Some, Bool, true, false, cond, refl, sym, ap, ◌∙◌, subst, inl, inr, arith}
use Rattle.std.specs.Prelude.{◌≢◌, is_some, slice_get}
use Rattle.std.specs.List.{AllByRecursion}
use Rattle.std.specs.Ordering.{eq_by_cmp}
use Rattle.std.specs.declared.cmp.Ordering.TheVariants.{Less, Equal, Greater}
use Rattle.std.specs.FinMap.Entries.{by_order, find, put}
use Rattle.kt_history.specs.declared.change.Change.{Change}
use Rattle.kt_history.specs.declared.operation.RowOp.{RowOp}
use Rattle.kt_history.specs.declared.target.Kindly.{Kindly}
use Rattle.kt_history.specs.declared.target.Target.TheVariants.{Mem}
use Rattle.kt_history.specs.Beside.{AllStand, AreApart}
use Rattle.kt_history.specs.Rows.{Row, key_cmp}
use Rattle.kt_history.specs.Stores.{Hist, Steps, Store, Under, hist_in, push, share, change_of}
use Rattle.kt_history.proofs.Beside.{Stays, IsPlaced, vacant}
use Rattle.kt_histlaws.specs.Histories.{on_nth}
use Rattle.kt_histlaws.proofs.Pending.{same_key}
use Rattle.kt_pool.specs.Contents.{Contents, at_cell, used}
use Rattle.kt_tree.specs.Trees.{need as tree_need}
use Rattle.kt_memrowset.specs.declared.store.MemRowSet.{MemRowSet}
use Rattle.kt_memrowset.specs.Stores as mem
use Rattle.kt_memrowset.proofs.Applying.{share_covers}
use Rattle.kt_diskrowset.specs.declared.rowset.DiskRowSet.{DiskRowSet}
use Rattle.kt_diskrowset.specs.Rowset as rowset
use Rattle.kt_diskrowset.specs.Joining.{KeyUnder, Rejoined}
use Rattle.kt_diskrowset.proofs.Rowsets.{stays, under_stays, is_placed}
use Rattle.kt_stores.specs.Shelf.{Shelved}
use Rattle.kt_stores.specs.Parts.{kept, shelved, stands_by, owns_by, read_by, AreKept, HasGrown}
use Rattle.kt_stores.proofs.Beside.{none_some, some_is, nth_owned, on_nth_same, map-on_nth, map_at, kept_grown}
use Rattle.kt_stores.proofs.Either.{stays_of, stays_by, placed_by}
use Rattle.kt_tablet.specs.Filling.{filled}
use Rattle.kt_content.specs.Places.{Place, memory, disk}
use Rattle.kt_content.proofs.Opening.{hist_in-put}
use Rattle.kt_reopen.specs.declared.stores.Opening.{Opening}
use Rattle.kt_reopen.specs.Standing.{joined_nth, change_by, AreKeptIn, KeyUnderIn, KeyUnderAt, JoinsAt}
use Rattle.kt_reopen.proofs.Joined.{filled_put}

-- ---- stores of either kind

abbrev Either : Type 0
Either = MemRowSet ⊎ DiskRowSet

abbrev stands : Either → Contents → Type 0
stands = stands_by rowset.IsStore

abbrev owns : Either → Contents → ℕ → Type 0
owns = owns_by rowset.Owns

abbrev reads : DiskRowSet → Contents → Shelved
reads = shelved rowset.name_of rowset.store_of (λ s. true) rowset.cells_had

abbrev read : Either → Contents → Shelved
read = read_by reads

abbrev all_of : Opening → List Either
all_of o = kept o.mem [] o.rowsets.items

pub their_stays : Stays stands owns read
their_stays = stays_by rowset.IsStore rowset.Owns reads (stays_of rowset.IsStore rowset.Owns rowset.name_of rowset.store_of (λ s. true) rowset.cells_had stays)

pub their_placed : IsPlaced stands owns
their_placed = placed_by rowset.IsStore rowset.Owns reads is_placed

stands_at : (pool : Contents) (xs : List Either) (i : ℕ) (x : Either) → AllStand stands pool xs → slice_get xs i ≡ Some x → stands x pool
stands_at pool [] i x st at = none_some x at
stands_at pool (z ∷ xs) zero x st at = subst (λ (z : Either). stands z pool) (some_is z x at) st.0
stands_at pool (z ∷ xs) (suc i) x st at = stands_at pool xs i x st.1 at

pub rowset_in : (o : Opening) → AreKeptIn o → (i : ℕ) (d : DiskRowSet) → slice_get o.rowsets.items i ≡ Some d → rowset.IsStore d o.pool
rowset_in o stand i d at = stands_at o.pool (all_of o) (suc i) (inr d) stand.stand (map_at i (λ (d : DiskRowSet). inr d) d o.rowsets.items at)

apart_two : (pool : Contents) (xs : List Either) (i j : ℕ) (x z : Either) (k : ℕ) → slice_get xs i ≡ Some x → slice_get xs j ≡ Some z → i ≢ j → AreApart owns pool xs → owns x pool k → owns z pool k → ⊥
apart_two pool [] i j x z k at there ne apart own other = none_some x at
apart_two pool (y ∷ xs) zero zero x z k at there ne apart own other = ne refl
apart_two pool (y ∷ xs) zero (suc j) x z k at there ne apart own other =
    apart.0 k (subst (λ (v : Either). owns v pool k) (sym (some_is y x at)) own) (nth_owned stands owns read their_stays their_placed pool z j xs k there other)
apart_two pool (y ∷ xs) (suc i) zero x z k at there ne apart own other =
    apart.0 k (subst (λ (v : Either). owns v pool k) (sym (some_is y z there)) other) (nth_owned stands owns read their_stays their_placed pool x i xs k at own)
apart_two pool (y ∷ xs) (suc i) (suc j) x z k at there ne apart own other = apart_two pool xs i j x z k at there (λ e. ne (ap suc e)) apart.1 own other

-- where one of them has grown, no place of another has changed
others_still : (old new : Contents) (xs : List Either) (x y : Either) (i : ℕ) → slice_get xs i ≡ Some x → AllStand stands old xs → AreApart owns old xs → HasGrown stands owns x y old new
    → (j : ℕ) (z : Either) → slice_get xs j ≡ Some z → i ≢ j → (k : ℕ) → owns z old k → at_cell new k ≡ at_cell old k
others_still old new xs x y i at st apart grew j z there ne k own =
    grew.frame k (λ mine. elim (grew.grows k mine) [
      | inl was ↦ apart_two old xs i j x z k at there ne apart was own
      | inr none ↦ vacant old k none (their_placed z old k (stands_at old xs j z st there) own)
    ])

-- a store with a key is not empty
not_bare : (k : List ℕ) (h : Hist) (store : Store) → ¬ (put key_cmp k h store ≡ [])
not_bare k h [] = λ e. cc
not_bare k h (r ∷ store) = elim (key_cmp k r.0) as (λ o. ¬ (by_order o ((k, h) ∷ r ∷ store) ((r.0, h) ∷ store) (r ∷ put key_cmp k h store) ≡ [])) [
  | Less ↦ λ e. cc
  | Equal ↦ λ e. cc
  | Greater ↦ λ e. cc
]

-- ---- lists

pub nth_all : (P : DiskRowSet → Type 0) (xs : List DiskRowSet) (i : ℕ) (x : DiskRowSet) → slice_get xs i ≡ Some x → AllByRecursion P xs → P x
nth_all P [] i x at h = none_some x at
nth_all P (z ∷ xs) zero x at h = subst P (some_is z x at) h.0
nth_all P (z ∷ xs) (suc i) x at h = nth_all P xs i x at h.1

each_of : (P Q : DiskRowSet → Type 0) (xs : List DiskRowSet) → ((j : ℕ) (x : DiskRowSet) → slice_get xs j ≡ Some x → P x → Q x) → AllByRecursion P xs → AllByRecursion Q xs
each_of P Q [] more h = tt
each_of P Q (x ∷ xs) more h = (more 0 x refl h.0, each_of P Q xs (λ j. more (suc j)) h.1)

each_on_nth : (P Q : DiskRowSet → Type 0) (xs : List DiskRowSet) (i : ℕ) (y : DiskRowSet) → Q y → ((j : ℕ) (x : DiskRowSet) → slice_get xs j ≡ Some x → i ≢ j → P x → Q x) → AllByRecursion P xs → AllByRecursion Q (on_nth i (λ _. y) xs)
each_on_nth P Q [] i y one more h = tt
each_on_nth P Q (x ∷ xs) zero y one more h = (one, each_of P Q xs (λ j x at. more (suc j) x at (λ e. cc)) h.1)
each_on_nth P Q (x ∷ xs) (suc i) y one more h = (more 0 x refl (λ e. cc) h.0, each_on_nth P Q xs i y one (λ j x at ne. more (suc j) x at (λ e. ne (let s : i ≡ j = omega (arith, e) in s))) h.1)

other_nth : (i j : ℕ) (y : DiskRowSet) (xs : List DiskRowSet) → i ≢ j → slice_get (on_nth i (λ _. y) xs) j ≡ slice_get xs j
other_nth i j y [] ne = refl
other_nth zero zero y (x ∷ xs) ne = absurd (ne refl)
other_nth zero (suc j) y (x ∷ xs) ne = refl
other_nth (suc i) zero y (x ∷ xs) ne = refl
other_nth (suc i) (suc j) y (x ∷ xs) ne = other_nth i j y xs (λ e. ne (ap suc e))

-- ---- keys and times

not_same : (q k : List ℕ) → q ≢ k → eq_by_cmp key_cmp q k ≡ false
not_same q k ne = by (eq_by_cmp key_cmp q k) refl
  where
    by : (b : Bool) → eq_by_cmp key_cmp q k ≡ b → eq_by_cmp key_cmp q k ≡ false
    by true e = absurd (ne (same_key q k e))
    by false e = e

under_push : (ts t : ℕ) (c : Change) (steps : Steps) → ts < t → Under t steps → Under t (steps ++ (ts, c) ∷ [])
under_push ts t c [] lt h = (lt, tt)
under_push ts t c (x ∷ steps) lt h = (h.0, under_push ts t c steps lt h.1)

-- a change of one key leaves what lies below a time, of other keys and for later times
under_apart : (ts u : ℕ) (q k : List ℕ) (c : Change) (store : Store) → q ≢ k → Under u (hist_in q store).steps → Under u (hist_in q (put key_cmp k (push ts c (hist_in k store)) store)).steps
under_apart ts u q k c store ne h =
    subst (λ (g : Hist). Under u g.steps) (sym (hist_in-put q k (push ts c (hist_in k store)) store ∙ ap (λ b. cond b (push ts c (hist_in k store)) (hist_in q store)) (not_same q k ne))) h

under_put : (ts u : ℕ) (q k : List ℕ) (c : Change) (store : Store) → ts < u → ((q : List ℕ) → Under u (hist_in q store).steps) → Under u (hist_in q (put key_cmp k (push ts c (hist_in k store)) store)).steps
under_put ts u q k c store lt h =
    subst (λ (g : Hist). Under u g.steps) (sym (hist_in-put q k (push ts c (hist_in k store)) store)) (elim (eq_by_cmp key_cmp q k) as (λ b. Under u (cond b (push ts c (hist_in k store)) (hist_in q store)).steps) [
      | true ↦ under_push ts u c (hist_in k store).steps lt (h k)
      | false ↦ h q
    ])

-- ---- the MemRowSet

-- the place and the store of a rowset
abbrev of_rowset : Contents → DiskRowSet → Place × Store
of_rowset pool d = (disk (rowset.held_of d).number, rowset.store_of d pool)

all_same : (old new : Contents) (rs : List DiskRowSet) → ((j : ℕ) (d : DiskRowSet) → slice_get rs j ≡ Some d → rowset.store_of d new ≡ rowset.store_of d old) → map (of_rowset new) rs ≡ map (of_rowset old) rs
all_same old new [] h = refl
all_same old new (d ∷ rs) h = (λ i. (disk (rowset.held_of d).number, h 0 d refl i) ∷ all_same old new rs (λ j. h (suc j)) i)

module _ (o : Opening) (ts : ℕ) (op : RowOp) (kind : Kindly) (stand : AreKeptIn o) (enough : share op ≤ o.pool.reserved) where
  rowset_at : (j : ℕ) (d : DiskRowSet) → slice_get o.rowsets.items j ≡ Some d → slice_get (all_of o) (suc j) ≡ Some (inr d)
  rowset_at j d at = map_at j (λ (d : DiskRowSet). inr d) d o.rowsets.items at

  rowset_stands : (j : ℕ) (d : DiskRowSet) → slice_get o.rowsets.items j ≡ Some d → rowset.IsStore d o.pool
  rowset_stands j d at = stands_at o.pool (all_of o) (suc j) (inr d) stand.stand (rowset_at j d at)

  module _ (t : MemRowSet) (new : Contents) (joins : mem.Joins o.mem t o.pool new op ts kind) where
    abbrev pub with_mem : Opening
    with_mem = record { mem = t; rowsets = o.rowsets; pool = new }

    mem_grew : HasGrown stands owns (inl o.mem) (inl t) o.pool new
    mem_grew = record { here = joins.stands; grows = joins.grows; frame = joins.frame }

    rows_still : (j : ℕ) (d : DiskRowSet) → slice_get o.rowsets.items j ≡ Some d → (k : ℕ) → rowset.Owns d o.pool k → at_cell new k ≡ at_cell o.pool k
    rows_still j d at = others_still o.pool new (all_of o) (inl o.mem) (inl t) 0 refl stand.stand stand.apart mem_grew (suc j) (inr d) (rowset_at j d at) (λ e. cc)

    rows_under : (u : ℕ) (q : List ℕ) → AllByRecursion (λ (d : DiskRowSet). KeyUnder u q d o.pool) o.rowsets.items → AllByRecursion (λ (d : DiskRowSet). KeyUnder u q d new) o.rowsets.items
    rows_under u q h = each_of (λ (d : DiskRowSet). KeyUnder u q d o.pool) (λ (d : DiskRowSet). KeyUnder u q d new) o.rowsets.items (λ j d at under. under_stays d o.pool new u q (rowset_stands j d at) (rows_still j d at) under) h

    taken_few : mem.cells_taken op (mem.store_of o.mem o.pool) ≤ share op
    taken_few =
        let all = share_covers op in
        elim (is_some (find key_cmp op.key (mem.store_of o.mem o.pool))) as (λ b. mem.link_need op.cells + cond b 0 (tree_need op.key) ≤ share op) [ true ↦ omega arith | false ↦ omega arith ]

    pub mem_joined : JoinsAt o with_mem 0 ts op kind (share op)
    mem_joined = record {
      goes = record {
        ends = record {
          kept = (kept_grown stands owns read their_stays their_placed o.pool new (inl o.mem) (inl t) 0 (all_of o) stand refl mem_grew (let had = joins.had in let came = joins.takes.used in omega arith) joins.frozen
              (λ e. absurd (not_bare op.key (push ts (mem.change_by kind op) (hist_in op.key (mem.store_of o.mem o.pool))) (mem.store_of o.mem o.pool) (sym joins.joined ∙ e)))).0;
          places = refl;
          names = ap (λ n. Mem n ∷ map rowset.name_of o.rowsets.items) joins.number;
          files = refl;
          open_ = joins.frozen;
          even = (let few = taken_few in let went = joins.takes.reserved in let came = joins.takes.used in omega (arith, enough));
          size = joins.takes.size;
        };
        apart = λ q none under. record {
          mem = subst (λ (store : Store). Under ts (hist_in q store).steps) (sym joins.joined) (under_apart ts ts q op.key (mem.change_by kind op) (mem.store_of o.mem o.pool) none.0 under.mem);
          rowsets = rows_under ts q under.rowsets;
        };
        later = λ u lt h q. record {
          mem = subst (λ (store : Store). Under u (hist_in q store).steps) (sym joins.joined) (under_put ts u q op.key (mem.change_by kind op) (mem.store_of o.mem o.pool) lt (λ k. (h k).mem));
          rowsets = rows_under u q (h q).rowsets;
        };
        room = λ k h. (let few = taken_few in let went = joins.takes.reserved in omega (arith, h));
      };
      beside = beside;
      joined = λ fill i. (
          (memory, (ap (filled fill) joins.joined ∙ filled_put fill kind op ts (mem.store_of o.mem o.pool)) i)
          ∷ all_same o.pool new o.rowsets.items (λ j d at. (stays d o.pool new (rowset_stands j d at) (rows_still j d at)).1) i
          );
    }
      where
        beside : (other : ℕ) → other ≢ 0 → KeyUnderAt ts op.key other o → KeyUnderAt ts op.key other with_mem
        beside zero ne under = absurd (ne refl)
        beside (suc j) ne under = λ d at. under_stays d o.pool new ts op.key (rowset_stands j d at) (rows_still j d at) (under d at)

  -- ---- a disk rowset, which takes no insert

  module _ (n : Opening) (i : ℕ) (d e : DiskRowSet) (at : slice_get o.rowsets.items i ≡ Some d) (mem_is : n.mem ≡ o.mem) (are : n.rowsets.items ≡ on_nth i (λ _. e) o.rowsets.items) (joins : Rejoined d e o.pool n.pool ts op kind)
      (plain : (fill : Row) → change_by fill kind op ≡ change_of kind op.cells) where
    disk_grew : HasGrown stands owns (inr d) (inr e) o.pool n.pool
    disk_grew = record { here = joins.stands; grows = joins.grows; frame = joins.frame }

    others : (j : ℕ) (x : DiskRowSet) → slice_get o.rowsets.items j ≡ Some x → i ≢ j → (k : ℕ) → rowset.Owns x o.pool k → at_cell n.pool k ≡ at_cell o.pool k
    others j x there ne = others_still o.pool n.pool (all_of o) (inr d) (inr e) (suc i) (rowset_at i d at) stand.stand stand.apart disk_grew (suc j) (inr x) (rowset_at j x there) (λ s. ne (let same : i ≡ j = omega (arith, s) in same))

    mem_store : mem.store_of n.mem n.pool ≡ mem.store_of o.mem o.pool
    mem_store =
        ap (λ (m : MemRowSet). mem.store_of m n.pool) mem_is
        ∙ ap (λ (s : Shelved). s.store) (their_stays (inl o.mem) o.pool n.pool stand.stand.0 (others_still o.pool n.pool (all_of o) (inr d) (inr e) (suc i) (rowset_at i d at) stand.stand stand.apart disk_grew 0 (inl o.mem) refl (λ s. cc))).1

    lists : all_of n ≡ on_nth (suc i) (λ _. inr e) (all_of o)
    lists = (λ k. inl (mem_is k) ∷ (ap (map (λ (d : DiskRowSet). inr d)) are ∙ map-on_nth i (λ (d : DiskRowSet). inr d) e o.rowsets.items) k)

    -- what is read of each rowset is as it was, if it is of this one
    still_on : {V : Type 0} (f : DiskRowSet → V) → f e ≡ f d → map f n.rowsets.items ≡ map f o.rowsets.items
    still_on f same = ap (map f) are ∙ map-on_nth i f e o.rowsets.items ∙ ap (λ v. on_nth i (λ _. v) (map f o.rowsets.items)) same ∙ on_nth_same i (f d) (map f o.rowsets.items) (map_at i f d o.rowsets.items at)

    rows_on : (u : ℕ) (q : List ℕ) → KeyUnder u q e n.pool → AllByRecursion (λ (x : DiskRowSet). KeyUnder u q x o.pool) o.rowsets.items → AllByRecursion (λ (x : DiskRowSet). KeyUnder u q x n.pool) n.rowsets.items
    rows_on u q one h =
        subst (AllByRecursion (λ (x : DiskRowSet). KeyUnder u q x n.pool)) (sym are)
        (each_on_nth (λ (x : DiskRowSet). KeyUnder u q x o.pool) (λ (x : DiskRowSet). KeyUnder u q x n.pool) o.rowsets.items i e one (λ j x there ne under. under_stays x o.pool n.pool u q (rowset_stands j x there) (others j x there ne) under) h)

    own_under : (u : ℕ) (q : List ℕ) → KeyUnderIn u q o → KeyUnder u q d o.pool
    own_under u q h = nth_all (λ (x : DiskRowSet). KeyUnder u q x o.pool) o.rowsets.items i d at h.rowsets

    one_joined : (fill : Row) (rs : List DiskRowSet) (j : ℕ) → slice_get rs j ≡ Some d → ((k : ℕ) (x : DiskRowSet) → slice_get rs k ≡ Some x → j ≢ k → rowset.store_of x n.pool ≡ rowset.store_of x o.pool)
        → map (of_rowset n.pool) (on_nth j (λ _. e) rs) ≡ joined_nth j ts op.key (change_by fill kind op) (map (of_rowset o.pool) rs)
    one_joined fill [] j there same = none_some d there
    one_joined fill (x ∷ rs) zero there same =
        let is : d ≡ x = sym (some_is x d there) in
        (λ k. (disk ((joins.held ∙ ap rowset.held_of is) k).number, own is k) ∷ all_same o.pool n.pool rs (λ m z at. same (suc m) z at (λ s. cc)) k)
      where
        own : d ≡ x → rowset.store_of e n.pool ≡ put key_cmp op.key (push ts (change_by fill kind op) (hist_in op.key (rowset.store_of x o.pool))) (rowset.store_of x o.pool)
        own is =
            joins.store
            ∙ ap (λ (c : Change). put key_cmp op.key (push ts c (hist_in op.key (rowset.store_of d o.pool))) (rowset.store_of d o.pool)) (sym (plain fill))
            ∙ ap (λ (z : DiskRowSet). put key_cmp op.key (push ts (change_by fill kind op) (hist_in op.key (rowset.store_of z o.pool))) (rowset.store_of z o.pool)) is
    one_joined fill (x ∷ rs) (suc j) there same =
        (λ k. (disk (rowset.held_of x).number, same 0 x refl (λ s. cc) k) ∷ one_joined fill rs j there (λ m z at ne. same (suc m) z at (λ s. ne (let is : j ≡ m = omega (arith, s) in is))) k)

    pub disk_joined : JoinsAt o n (suc i) ts op kind (share op)
    disk_joined = record {
      goes = record {
        ends = record {
          kept = subst (λ xs. AreKept stands owns read xs n.pool) (sym lists)
              (kept_grown stands owns read their_stays their_placed o.pool n.pool (inr d) (inr e) (suc i) (all_of o) stand (rowset_at i d at) disk_grew joins.more refl
              (λ none. absurd (not_bare op.key (push ts (change_of kind op.cells) (hist_in op.key (rowset.store_of d o.pool))) (rowset.store_of d o.pool) (sym joins.store ∙ none)))).0;
          places = ap (λ ps. memory ∷ ps) (still_on (λ (x : DiskRowSet). disk (rowset.held_of x).number) (ap (λ h. disk h.number) joins.held));
          names = (λ k. Mem (mem.number_of (mem_is k)) ∷ still_on rowset.name_of joins.name k);
          files = still_on rowset.held_of joins.held;
          open_ = ap mem.is_frozen mem_is;
          even = (let came = joins.takes.used in let went = joins.takes.reserved in omega arith);
          size = joins.takes.size;
        };
        apart = λ q none under. record {
          mem = subst (λ (store : Store). Under ts (hist_in q store).steps) (sym mem_store) under.mem;
          rowsets = rows_on ts q (joins.apart q none.0 (own_under ts q under)) under.rowsets;
        };
        later = λ u lt h q. record {
          mem = subst (λ (store : Store). Under u (hist_in q store).steps) (sym mem_store) (h q).mem;
          rowsets = rows_on u q (joins.later u lt (λ p. own_under u p (h p)) q) (h q).rowsets;
        };
        room = λ k h. (let few = joins.takes.few in let went = joins.takes.reserved in omega (arith, h));
      };
      beside = beside;
      joined = λ fill. (λ k. (memory, filled fill (mem_store k)) ∷ (ap (map (of_rowset n.pool)) are ∙ one_joined fill o.rowsets.items i at (λ j x there ne. (stays x o.pool n.pool (rowset_stands j x there) (others j x there ne)).1)) k);
    }
      where
        beside : (other : ℕ) → other ≢ suc i → KeyUnderAt ts op.key other o → KeyUnderAt ts op.key other n
        beside zero ne under = subst (λ (store : Store). Under ts (hist_in op.key store).steps) (sym mem_store) under
        beside (suc j) ne under =
            let apart : i ≢ j = λ same. ne (ap suc (sym same)) in
            λ x there. let old : slice_get o.rowsets.items j ≡ Some x = sym (other_nth i j e o.rowsets.items apart) ∙ ap (λ (rs : List DiskRowSet). slice_get rs j) (sym are) ∙ there in
            under_stays x o.pool n.pool ts op.key (rowset_stands j x old) (others j x old apart) (under x old)
