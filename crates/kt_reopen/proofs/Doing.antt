-- One operation on the stores that need it, or on the one that has its key live.
use Rattle.std.proofs.Common.{◌≡◌, ◌≤◌, ℕ, zero, suc, ◌+◌, List, [], ◌∷◌, map, Option, Some, None, is_some, Bool, true, false, refl, sym, ap, ◌∙◌, subst, arith}
use Rattle.std.specs.Prelude.{slice_get}
use Rattle.std.specs.Option.{option_map}
use Rattle.std.specs.List.{cons_option}
use Rattle.kt_history.specs.declared.operation.OpKind.{OpKind}
use Rattle.kt_history.specs.declared.operation.OpKind.TheVariants.{Insert, Upsert, Update, Delete, InsertIgnore, UpdateIgnore, DeleteIgnore}
use Rattle.kt_history.specs.declared.operation.RowOp.{RowOp}
use Rattle.kt_history.specs.declared.target.Kindly.{Kindly}
use Rattle.kt_history.specs.declared.target.Kindly.TheVariants.{Ins, Upd, Del}
use Rattle.kt_history.specs.declared.target.Target.{Target}
use Rattle.kt_history.specs.Rows.{Row}
use Rattle.kt_history.specs.Operations.{effect, need}
use Rattle.kt_history.specs.Stores.{Store, kind_made, share}
use Rattle.kt_diskrowset.specs.declared.rowset.DiskRowSet.{DiskRowSet}
use Rattle.kt_diskrowset.specs.Rowset as rowset
use Rattle.kt_super.specs.declared.meta.Meta.{Meta}
use Rattle.kt_content.specs.Places.{Place, memory, disk, same_place, Moves, standing, row_there, live_in, needed_in, places_of}
use Rattle.kt_content.specs.KeyOps.{may_join, with_move, to_each, to_place, to_live}
use Rattle.kt_content.specs.Opening.{Placed, held_of, joined_store}
use Rattle.kt_reopen.specs.declared.stores.Opening.{Opening}
use Rattle.kt_reopen.specs.Bare.{bare, LacksPlace, PlacesApart}
use Rattle.kt_reopen.specs.Needed.{is_any, is_replayed, need_if}
use Rattle.kt_reopen.specs.Owed.{row_found}
use Rattle.kt_reopen.specs.Standing.{placed, places_in, change_by, AreKeptIn, Ends, Goes, JoinsAt}
use Rattle.kt_reopen.specs.Steps.{had_in, had_at, MayJoin, Does, DoesNotFit}
use Rattle.kt_reopen.specs.Walks.{row_of_store, row_nth, FitsAt, IsFirst}
use Rattle.kt_reopen.proofs.Joined.{Lacks, AreApart, places, nth_is, row_is, row_beside, live_nowhere, live_there, made_is}

some_is : {X : Type 0} (x y : X) → Some x ≡ Some y → x ≡ y
some_is x y e = cc

-- ---- places of an opening

lacks_of : (p : Place) (stores : Placed) → LacksPlace p (places stores) → Lacks p stores
lacks_of p [] h = tt
lacks_of p (s ∷ stores) h = (h.0, lacks_of p stores h.1)

apart_of : (stores : Placed) → PlacesApart (places stores) → AreApart stores
apart_of [] h = tt
apart_of (s ∷ stores) h = (lacks_of s.0 stores h.0, apart_of stores h.1)

pub places_placed : (fill : Row) (o : Opening) → places (placed fill o) ≡ places_in o
places_placed fill o = ap (λ ps. memory ∷ ps) (by o.rowsets.items)
  where
    by : (rs : List DiskRowSet) → map (λ (s : Place × Store). s.0) (map (λ (d : DiskRowSet). (disk (rowset.held_of d).number, rowset.store_of d o.pool)) rs) ≡ map (λ (d : DiskRowSet). disk (rowset.held_of d).number) rs
    by [] = refl
    by (d ∷ rs) = ap (λ ps. disk (rowset.held_of d).number ∷ ps) (by rs)

pub stores_apart : (fill : Row) (o : Opening) → PlacesApart (places_in o) → AreApart (placed fill o)
stores_apart fill o h = apart_of (placed fill o) (subst PlacesApart (sym (places_placed fill o)) h)

place_there : (fill : Row) (o : Opening) (at : ℕ) (p : Place) → slice_get (places_in o) at ≡ Some p → slice_get (places (placed fill o)) at ≡ Some p
place_there fill o at p e = ap (λ ps. slice_get ps at) (places_placed fill o) ∙ e

disk_place : (rs : List DiskRowSet) (i : ℕ) (p : Place) → slice_get (map (λ (d : DiskRowSet). disk (rowset.held_of d).number) rs) i ≡ Some p → (r : ℕ) × (p ≡ disk r)
disk_place [] i p e = absurd (cc)
disk_place (d ∷ rs) zero p e = ((rowset.held_of d).number, sym (some_is (disk (rowset.held_of d).number) p e))
disk_place (d ∷ rs) (suc i) p e = disk_place rs i p e

-- ---- an operation at a place, by whether the store there had its row

had_row : (ts : ℕ) (q : List ℕ) (at : ℕ) (stores : Placed) (had : Bool) → had_at ts q at stores ≡ Some had → is_some (row_nth ts q at stores) ≡ had
had_row ts q at stores had h = elim (slice_get stores at) as (λ o. option_map (had_in ts q) o ≡ Some had → is_some (row_of_store ts q o) ≡ had) [
  | None ↦ λ e. let bad : None ≡ Some had = e in cc
  | Some s ↦ λ e. some_is (had_in ts q s) had e
] h

-- the kind of a change tells whether the row was there
pub kind_may : (kind : OpKind) (had : Bool) (made : Kindly) (ts : ℕ) (q : List ℕ) (at : ℕ) (stores : Placed) → kind_made kind had ≡ Some made → had_at ts q at stores ≡ Some had → (made ≡ Ins → at ≡ 0) → MayJoin ts q at made stores
kind_may kind had Ins ts q at stores e h low = (low refl, h ∙ ap (λ b. Some b) (ins_is kind had e))
  where
    ins_is : (kind : OpKind) (had : Bool) → kind_made kind had ≡ Some Ins → had ≡ false
    ins_is kind false e = refl
    ins_is Insert true e = cc
    ins_is Upsert true e = cc
    ins_is Update true e = cc
    ins_is Delete true e = cc
    ins_is InsertIgnore true e = cc
    ins_is UpdateIgnore true e = cc
    ins_is DeleteIgnore true e = cc
kind_may kind had Upd ts q at stores e h low = h ∙ ap (λ b. Some b) (upd_is kind had e)
  where
    upd_is : (kind : OpKind) (had : Bool) → kind_made kind had ≡ Some Upd → had ≡ true
    upd_is kind true e = refl
    upd_is Insert false e = cc
    upd_is Upsert false e = cc
    upd_is Update false e = cc
    upd_is Delete false e = cc
    upd_is InsertIgnore false e = cc
    upd_is UpdateIgnore false e = cc
    upd_is DeleteIgnore false e = cc
kind_may kind had Del ts q at stores e h low = h ∙ ap (λ b. Some b) (del_is kind had e)
  where
    del_is : (kind : OpKind) (had : Bool) → kind_made kind had ≡ Some Del → had ≡ true
    del_is kind true e = refl
    del_is Insert false e = cc
    del_is Upsert false e = cc
    del_is Update false e = cc
    del_is Delete false e = cc
    del_is InsertIgnore false e = cc
    del_is UpdateIgnore false e = cc
    del_is DeleteIgnore false e = cc

module _ (o : Opening) (at ts : ℕ) (op : RowOp) (had : Bool) (found : (fill : Row) → had_at ts op.key at (placed fill o) ≡ Some had) where
  made : (fill : Row) → (effect fill op.kind op.cells (row_nth ts op.key at (placed fill o))).0 ≡ option_map (λ k. change_by fill k op) (kind_made op.kind had)
  made fill = made_is fill op.kind op.key op.cells (row_nth ts op.key at (placed fill o)) ∙ ap (λ b. option_map (λ k. change_by fill k op) (kind_made op.kind b)) (had_row ts op.key at (placed fill o) had (found fill))

  -- it makes no change
  pub fits_none : (n : Opening) → kind_made op.kind had ≡ None → FitsAt o n at ts op false
  fits_none n none = λ fill p there. ap (may_join p) (made fill ∙ ap (option_map (λ k. change_by fill k op)) none)

-- or an insert, which a disk rowset does not take
pub fits_no_insert : (o n : Opening) (i ts : ℕ) (op : RowOp) (had : Bool) → ((fill : Row) → had_at ts op.key (suc i) (placed fill o) ≡ Some had) → kind_made op.kind had ≡ Some Ins → FitsAt o n (suc i) ts op false
fits_no_insert o n i ts op had found ins = λ fill p there.
    let r = disk_place o.rowsets.items i p there in
    ap (may_join p) (made o (suc i) ts op had found fill ∙ ap (option_map (λ k. change_by fill k op)) ins) ∙ ap (λ (p : Place). may_join p (Some (change_by fill Ins op))) r.1

-- or one that the store takes
pub fits_done : (o n : Opening) (at ts : ℕ) (op : RowOp) (had : Bool) (kind : Kindly) → ((fill : Row) → had_at ts op.key at (placed fill o) ≡ Some had) → kind_made op.kind had ≡ Some kind → (kind ≡ Ins → at ≡ 0)
    → JoinsAt o n at ts op kind (share op) → FitsAt o n at ts op true
fits_done o n at ts op had kind found is low joins =
    (kind, joins, λ fill p there. ap (may_join p) (made o at ts op had found fill ∙ ap (option_map (λ k. change_by fill k op)) is) ∙ takes fill p (λ ins. low_place p (low ins) there) kind refl)
  where
    low_place : (p : Place) → at ≡ 0 → slice_get (places_in o) at ≡ Some p → p ≡ memory
    low_place p e there = some_is p memory (sym there ∙ ap (slice_get (places_in o)) e)

    takes : (fill : Row) (p : Place) → (kind ≡ Ins → p ≡ memory) → (k : Kindly) → k ≡ kind → may_join p (Some (change_by fill k op)) ≡ Some (change_by fill k op)
    takes fill memory low k e = refl
    takes fill (disk r) low Ins e = absurd (let bad : disk r ≡ memory = low (sym e) in cc)
    takes fill (disk r) low Upd e = refl
    takes fill (disk r) low Del e = refl

-- ---- on the stores that need it

goes_two : (o t n : Opening) (ts a b : ℕ) (keys : List (List ℕ)) → Ends o n → Goes o t ts a keys → Goes t n ts b keys → Goes o n ts (a + b) keys
goes_two o t n ts a b keys ends one two = record {
  ends = ends;
  apart = λ q none under. two.apart q none (one.apart q none under);
  later = λ u lt h. two.later u lt (one.later u lt h);
  room = λ k h. two.room k (one.room (b + k) (omega (arith, h)));
}

-- less room may be told to be taken
goes_more : (o n : Opening) (ts a b : ℕ) (keys : List (List ℕ)) → a ≤ b → Goes o n ts a keys → Goes o n ts b keys
goes_more o n ts a b keys le goes = record { ends = goes.ends; apart = goes.apart; later = goes.later; room = λ k h. goes.room k (omega (arith, le, h)) }

pub two_shares : (op : RowOp) → share op + share op ≤ need (op ∷ [])
two_shares op = omega arith

module _ (o : Opening) (m : Meta) (ts : ℕ) (op : RowOp) (targets : List Target) where
  abbrev cells_told : List Place → ℕ
  cells_told ps = need_if (is_any ps) op

  told_cells : (ps : List Place) → needed_in (bare m) targets ≡ ps → cells_told ps ≡ need_if (is_replayed (bare m) (Some targets)) op
  told_cells ps e = ap cells_told (sym e)

  -- on none
  pub does_none : AreKeptIn o → needed_in (bare m) targets ≡ [] → Does o o m ts op (Some targets)
  does_none kept none = record {
    goes = record {
      ends = record { kept = kept; places = refl; names = refl; files = refl; open_ = refl; even = refl; size = refl };
      apart = λ q apart under. under;
      later = λ u lt h. h;
      room = λ k h. omega (arith, h);
    };
    moves = λ fill. [];
    decided_is = λ fill. ap (to_each fill op (standing ts (held_of op.key (placed fill o)))) none;
    moved = λ fill. refl;
  }

  module _ (p : Place) (at : ℕ) (apart : PlacesApart (places_in o)) (there : slice_get (places_in o) at ≡ Some p) where
    row_at : (fill : Row) → row_there p (standing ts (held_of op.key (placed fill o))) ≡ row_nth ts op.key at (placed fill o)
    row_at fill = row_is at ts p op.key (placed fill o) (stores_apart fill o apart) (place_there fill o at p there)

    first_is : (n : Opening) (fits : FitsAt o n at ts op true) (fill : Row) → may_join p (effect fill op.kind op.cells (row_there p (standing ts (held_of op.key (placed fill o))))).0 ≡ Some (change_by fill fits.0 op)
    first_is n fits fill = ap (λ row. may_join p (effect fill op.kind op.cells row).0) (row_at fill) ∙ fits.2 fill p there

    first_not : (n : Opening) → FitsAt o n at ts op false → (fill : Row) → may_join p (effect fill op.kind op.cells (row_there p (standing ts (held_of op.key (placed fill o))))).0 ≡ None
    first_not n fits fill = ap (λ row. may_join p (effect fill op.kind op.cells row).0) (row_at fill) ∙ fits fill p there

    stores_is : (n : Opening) (fits : FitsAt o n at ts op true) (fill : Row) → placed fill n ≡ joined_store p ts op.key (change_by fill fits.0 op) (placed fill o)
    stores_is n fits fill = fits.1.joined fill ∙ nth_is at ts p op.key (change_by fill fits.0 op) (placed fill o) (stores_apart fill o apart) (place_there fill o at p there)

    -- on one
    pub does_one : (n : Opening) → FitsAt o n at ts op true → needed_in (bare m) targets ≡ p ∷ [] → Does o n m ts op (Some targets)
    does_one n fits one = record {
      goes = subst (λ (c : ℕ). Goes o n ts c (op.key ∷ [])) (told_cells (p ∷ []) one) (goes_more o n ts (share op) (need (op ∷ [])) (op.key ∷ []) (let two = two_shares op in omega arith) fits.1.goes);
      moves = λ fill. (p, change_by fill fits.0 op) ∷ [];
      decided_is = λ fill. ap (to_each fill op (standing ts (held_of op.key (placed fill o)))) one ∙ ap (λ c. with_move p c (Some [])) (first_is n fits fill);
      moved = stores_is n fits;
    }

    -- or it does not fit the first
    pub late_one : (n : Opening) (rest : List Place) → FitsAt o n at ts op false → needed_in (bare m) targets ≡ p ∷ rest → DoesNotFit o m ts op (Some targets)
    late_one n rest fits some = λ fill.
        ap (to_each fill op (standing ts (held_of op.key (placed fill o)))) some
        ∙ ap (λ c. with_move p c (to_each fill op (standing ts (held_of op.key (placed fill o))) rest)) (first_not n fits fill)

    -- on two: the row of the second is as it was
    module _ (t : Opening) (fits : FitsAt o t at ts op true) (r : Place) (next : ℕ) (behind : slice_get (places_in o) next ≡ Some r) (differ : same_place r p ≡ false) (both : needed_in (bare m) targets ≡ p ∷ r ∷ []) where
      second_row : (fill : Row) → row_there r (standing ts (held_of op.key (placed fill t))) ≡ row_there r (standing ts (held_of op.key (placed fill o)))
      second_row fill = ap (λ (stores : Placed). row_there r (standing ts (held_of op.key stores))) (stores_is t fits fill) ∙ row_beside p r ts ts op.key (change_by fill fits.0 op) (placed fill o) differ

      t_apart : PlacesApart (places_in t)
      t_apart = subst PlacesApart (sym fits.1.goes.ends.places) apart

      t_there : slice_get (places_in t) next ≡ Some r
      t_there = ap (λ ps. slice_get ps next) fits.1.goes.ends.places ∙ behind

      t_row : (fill : Row) → row_there r (standing ts (held_of op.key (placed fill o))) ≡ row_nth ts op.key next (placed fill t)
      t_row fill = sym (second_row fill) ∙ row_is next ts r op.key (placed fill t) (stores_apart fill t t_apart) (place_there fill t next r t_there)

      pub does_two : (n : Opening) → FitsAt t n next ts op true → Does o n m ts op (Some targets)
      does_two n more = record {
        goes = subst (λ (c : ℕ). Goes o n ts c (op.key ∷ [])) (told_cells (p ∷ r ∷ []) both)
            (goes_more o n ts (share op + share op) (need (op ∷ [])) (op.key ∷ []) (two_shares op) (goes_two o t n ts (share op) (share op) (op.key ∷ []) (ends_two o t n fits.1.goes.ends more.1.goes.ends) fits.1.goes more.1.goes));
        moves = λ fill. (p, change_by fill fits.0 op) ∷ (r, change_by fill more.0 op) ∷ [];
        decided_is = λ fill.
            let rows = standing ts (held_of op.key (placed fill o)) in
            let second : may_join r (effect fill op.kind op.cells (row_there r rows)).0 ≡ Some (change_by fill more.0 op) = ap (λ row. may_join r (effect fill op.kind op.cells row).0) (t_row fill) ∙ more.2 fill r t_there in
            ap (to_each fill op rows) both
            ∙ (λ i. with_move p (first_is t fits fill i) (with_move r (second i) (Some [])));
        moved = λ fill.
            more.1.joined fill ∙ nth_is next ts r op.key (change_by fill more.0 op) (placed fill t) (stores_apart fill t t_apart) (place_there fill t next r t_there)
            ∙ ap (joined_store r ts op.key (change_by fill more.0 op)) (stores_is t fits fill);
      }
        where
          ends_two : (o t n : Opening) → Ends o t → Ends t n → Ends o n
          ends_two o t n a b = record { kept = b.kept; places = b.places ∙ a.places; names = b.names ∙ a.names; files = b.files ∙ a.files; open_ = b.open_ ∙ a.open_; even = b.even ∙ a.even; size = b.size ∙ a.size }

      -- or it does not fit the second
      pub late_two : (n : Opening) → FitsAt t n next ts op false → DoesNotFit o m ts op (Some targets)
      late_two n more = λ fill.
          let rows = standing ts (held_of op.key (placed fill o)) in
          let second : may_join r (effect fill op.kind op.cells (row_there r rows)).0 ≡ None = ap (λ row. may_join r (effect fill op.kind op.cells row).0) (t_row fill) ∙ more fill r t_there in
          ap (to_each fill op rows) both ∙ (λ i. with_move p (first_is t fits fill i) (with_move r (second i) (Some [])))

-- ---- on the store that has its key live, or else on the MemRowSet

-- what the operation makes there, by whether one had it
abbrev pub live_by : Row → RowOp → Place → Bool → Moves
live_by fill op p b = to_place p (option_map (λ k. change_by fill k op) (kind_made op.kind b))

pub live_none : (fill : Row) (o : Opening) (ts : ℕ) (op : RowOp) → IsFirst ts op.key None (placed fill o) → to_live fill op (live_in (standing ts (held_of op.key (placed fill o)))) ≡ live_by fill op memory false
live_none fill o ts op first = ap (to_live fill op) (live_nowhere ts op.key (placed fill o) first) ∙ ap (to_place memory) (made_is fill op.kind op.key op.cells None)

pub live_one : (fill : Row) (o : Opening) (ts : ℕ) (op : RowOp) (at : ℕ) (p : Place) → IsFirst ts op.key (Some at) (placed fill o) → slice_get (places_in o) at ≡ Some p
    → to_live fill op (live_in (standing ts (held_of op.key (placed fill o)))) ≡ live_by fill op p true
live_one fill o ts op at p first there =
    let found = live_there ts op.key (placed fill o) at p first (place_there fill o at p there) in
    ap (to_live fill op) found.1 ∙ ap (to_place p) (made_is fill op.kind op.key op.cells (Some found.0))

module _ (o : Opening) (m : Meta) (ts : ℕ) (op : RowOp) (p : Place) (b : Bool) (live : (fill : Row) → to_live fill op (live_in (standing ts (held_of op.key (placed fill o)))) ≡ live_by fill op p b) where
  moves_are : (made : Option Kindly) → kind_made op.kind b ≡ made → (fill : Row) → to_live fill op (live_in (standing ts (held_of op.key (placed fill o)))) ≡ to_place p (option_map (λ k. change_by fill k op) made)
  moves_are made is fill = live fill ∙ ap (λ (made : Option Kindly). to_place p (option_map (λ k. change_by fill k op) made)) is

  -- it makes a change
  pub does_live : (n : Opening) (at : ℕ) (kind : Kindly) → PlacesApart (places_in o) → slice_get (places_in o) at ≡ Some p → kind_made op.kind b ≡ Some kind → JoinsAt o n at ts op kind (share op) → Does o n m ts op None
  does_live n at kind apart there is joins = record {
    goes = goes_more o n ts (share op) (need (op ∷ [])) (op.key ∷ []) (let two = two_shares op in omega arith) joins.goes;
    moves = λ fill. (p, change_by fill kind op) ∷ [];
    decided_is = λ fill. ap (λ (ms : Moves). Some ms) (moves_are (Some kind) is fill);
    moved = λ fill. joins.joined fill ∙ nth_is at ts p op.key (change_by fill kind op) (placed fill o) (stores_apart fill o apart) (place_there fill o at p there);
  }

  -- or none
  pub does_not : AreKeptIn o → kind_made op.kind b ≡ None → Does o o m ts op None
  does_not kept is = record {
    goes = record {
      ends = record { kept = kept; places = refl; names = refl; files = refl; open_ = refl; even = refl; size = refl };
      apart = λ q apart under. under;
      later = λ u lt h. h;
      room = λ k h. omega (arith, h);
    };
    moves = λ fill. [];
    decided_is = λ fill. ap (λ (ms : Moves). Some ms) (moves_are None is fill);
    moved = λ fill. refl;
  }

-- the row of its COMMIT names that store where it makes a change
pub told_by : (fill : Row) (name : Place → Target) (o : Opening) (ts : ℕ) (op : RowOp) (p : Place) (made : Option Kindly) → to_live fill op (live_in (standing ts (held_of op.key (placed fill o)))) ≡ to_place p (option_map (λ k. change_by fill k op) made)
    → map name (places_of (to_live fill op (live_in (standing ts (held_of op.key (placed fill o)))))) ≡ cons_option (option_map (λ _. name p) made) []
told_by fill name o ts op p made is = ap (λ (ms : Moves). map name (places_of ms)) is ∙ by made
  where
    by : (made : Option Kindly) → map name (places_of (to_place p (option_map (λ k. change_by fill k op) made))) ≡ cons_option (option_map (λ _. name p) made) []
    by None = refl
    by (Some kind) = refl

-- what is found of it there
pub outcome_by : (fill : Row) (o : Opening) (ts : ℕ) (op : RowOp) (at : Option (Place × Row)) → live_in (standing ts (held_of op.key (placed fill o))) ≡ at
    → (effect fill op.kind op.cells (row_found (live_in (standing ts (held_of op.key (placed fill o)))))).1 ≡ (effect fill op.kind op.cells (row_found at)).1
outcome_by fill o ts op at is = ap (λ (at : Option (Place × Row)). (effect fill op.kind op.cells (row_found at)).1) is
