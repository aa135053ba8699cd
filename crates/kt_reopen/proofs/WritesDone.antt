-- How far the operations of a write are done on the stores.
use Rattle.std.proofs.Common.{◌≡◌, ◌≤◌, ◌<◌, ℕ, ◌+◌, List, [], ◌∷◌, ◌++◌, map, Option, Some, None, Err, false, refl, sym, ap, ◌∙◌, subst, arith, append_assoc}
use Rattle.std.specs.Prelude.{◌≢◌}
use Rattle.std.specs.List.{list_any}
use Rattle.std.specs.Ordering.{eq_by_cmp}
use Rattle.std.proofs.lemmas.Bool.{or_parts}
use Rattle.kt_history.specs.declared.operation.RowOp.{RowOp}
use Rattle.kt_history.specs.declared.target.Target.{Target}
use Rattle.kt_history.specs.Rows.{Row, key_cmp}
use Rattle.kt_history.specs.Operations.{need}
use Rattle.kt_histlaws.specs.Flights.{AllOps}
use Rattle.kt_histlaws.proofs.Pending.{itself}
use Rattle.kt_records.specs.declared.entry.CommitRow.{CommitRow}
use Rattle.kt_super.specs.declared.meta.Meta.{Meta}
use Rattle.kt_content.specs.Places.{Place, Moves, standing, live_in}
use Rattle.kt_content.specs.KeyOps.{decided, to_live}
use Rattle.kt_content.specs.Opening.{held_of, moved_stores, names_at, rows_behind, if_it_fits, write_opened}
use Rattle.kt_reopen.specs.declared.stores.Opening.{Opening}
use Rattle.kt_reopen.specs.Bare.{bare, PlacesApart}
use Rattle.kt_reopen.specs.Needed.{replayed, is_replayed, need_if}
use Rattle.kt_reopen.specs.Owed.{row_told, rows_told}
use Rattle.kt_reopen.specs.Standing.{placed, KeyUnderIn, AllUnder, IsNone, Ends, Goes}
use Rattle.kt_reopen.specs.Steps.{Does, DoesNotFit, DoesAll}
use Rattle.kt_reopen.specs.Walks.{MayDo, MayDoAll, NamesEach}
use Rattle.kt_reopen.proofs.NeedLaws.{need_split, rows_rest, few_rest}

some_is : {X : Type 0} (x y : X) → Some x ≡ Some y → x ≡ y
some_is x y e = cc

abbrev pub keys_of : List RowOp → List (List ℕ)
keys_of ops = map (λ (op : RowOp). op.key) ops

-- ---- they stand, one change after another

pub ends_on : (o t u : Opening) → Ends o t → Ends t u → Ends o u
ends_on o t u a b = record {
  kept = b.kept;
  places = b.places ∙ a.places;
  names = b.names ∙ a.names;
  files = b.files ∙ a.files;
  open_ = b.open_ ∙ a.open_;
  even = b.even ∙ a.even;
  size = b.size ∙ a.size;
}

pub names_on : (name : Place → Target) (o t : Opening) → Ends o t → NamesEach name o → NamesEach name t
names_on name o t ends h = ends.names ∙ h ∙ ap (map name) (sym ends.places)

-- a key that differs from the first one
pub differs_first : (op other : RowOp) → eq_by_cmp key_cmp op.key other.key ≡ false → other.key ≢ op.key
differs_first op other apart same =
    let bad : eq_by_cmp key_cmp op.key op.key ≡ false = subst (λ (q : List ℕ). eq_by_cmp key_cmp op.key q ≡ false) same apart in
    let good = itself op.key in cc

-- the other operations of a write may be done behind one
pub may_rest : (m : Meta) (t u : Opening) (ts most : ℕ) (op : RowOp) (ops : List RowOp) → Goes t u ts most (op.key ∷ []) → list_any (λ (other : RowOp). eq_by_cmp key_cmp op.key other.key) ops ≡ false
    → AllOps (λ (op : RowOp). MayDo t ts op.key) ops → AllOps (λ (op : RowOp). MayDo u ts op.key) ops
may_rest m t u ts most op [] goes none may = tt
may_rest m t u ts most op (x ∷ ops) goes none may =
    let parts = or_parts (eq_by_cmp key_cmp op.key x.key) (list_any (λ (other : RowOp). eq_by_cmp key_cmp op.key other.key) ops) none in (
      record {
        kept = goes.ends.kept;
        apart = subst PlacesApart (sym goes.ends.places) may.0.apart;
        thawed = goes.ends.open_ ∙ may.0.thawed;
        under = goes.apart x.key (differs_first op x parts.0, tt) may.0.under;
      },
      may_rest m t u ts most op ops goes parts.1 may.1,
    )

-- ---- how far

-- The operations are done but for these, of which the COMMIT tells so
pub record AlongOps (m : Meta) (ts : ℕ) (o : Opening) (ops : List RowOp) (told : Option (List CommitRow)) (t : Opening) (rest : List RowOp) (left : Option (List CommitRow)) : Type 0 where
  pub ends : Ends o t
  pub room : (k : ℕ) → need (replayed (bare m) ops told) + k ≤ o.pool.reserved → need (replayed (bare m) rest left) + k ≤ t.pool.reserved
  pub apart : (q : List ℕ) → IsNone q (keys_of ops) → IsNone q (keys_of rest) × (KeyUnderIn ts q o → KeyUnderIn ts q t)
  pub later : (later : ℕ) → ts < later → AllUnder later o → AllUnder later t
  pub may : MayDoAll t m ts rest left
  pub goes_on : (fill : Row) → write_opened fill (bare m) ts rest left (placed fill t) ≡ write_opened fill (bare m) ts ops told (placed fill o)

-- none is done
pub along_none : (m : Meta) (ts : ℕ) (o : Opening) (ops : List RowOp) (told : Option (List CommitRow)) → MayDoAll o m ts ops told → AlongOps m ts o ops told o ops told
along_none m ts o ops told may = record {
  ends = record { kept = may.kept; places = refl; names = refl; files = refl; open_ = refl; even = refl; size = refl };
  room = λ k h. h;
  apart = λ q none. (none, λ under. under);
  later = λ later lt h. h;
  may = may;
  goes_on = λ fill. refl;
}

module _ (m : Meta) (ts : ℕ) (o : Opening) (ops : List RowOp) (told : Option (List CommitRow)) (t : Opening) (op : RowOp) (rest : List RowOp) (left : Option (List CommitRow)) (a : AlongOps m ts o ops told t (op ∷ rest) left) where
  -- the first that is left may be done
  pub room_one : need_if (is_replayed (bare m) (names_at left)) op ≤ t.pool.reserved
  room_one = let all = a.may.room in let split = need_split (bare m) op rest left in omega arith

  write_on : (fill : Row) (moves : Moves) → decided fill (bare m) (standing ts (held_of op.key (placed fill t))) op (names_at left) ≡ Some moves
      → write_opened fill (bare m) ts (op ∷ rest) left (placed fill t) ≡ write_opened fill (bare m) ts rest (rows_behind left) (moved_stores ts op.key moves (placed fill t))
  write_on fill moves e = ap (if_it_fits ts (λ ms. write_opened fill (bare m) ts rest (rows_behind left) (moved_stores ts op.key ms (placed fill t)))) e

  -- and is done
  pub along_next : (u : Opening) → Does t u m ts op (names_at left) → AlongOps m ts o ops told u rest (rows_behind left)
  along_next u does =
      let goes = does.goes in
      let split = need_split (bare m) op rest left in
      let more : (k : ℕ) → need (replayed (bare m) (op ∷ rest) left) + k ≤ t.pool.reserved → need (replayed (bare m) rest (rows_behind left)) + k ≤ u.pool.reserved =
      λ k h. goes.room (need (replayed (bare m) rest (rows_behind left)) + k) (omega (arith, split, h))
      in
      record {
        ends = ends_on o t u a.ends goes.ends;
        room = λ k h. more k (a.room k h);
        apart = λ q none. let before = a.apart q none in (before.0.1, λ under. goes.apart q (before.0.0, tt) (before.1 under));
        later = λ later lt h. goes.later later lt (a.later later lt h);
        may = record {
          kept = goes.ends.kept;
          apart = subst PlacesApart (sym goes.ends.places) a.may.apart;
          thawed = goes.ends.open_ ∙ a.may.thawed;
          may = may_rest m t u ts (need_if (is_replayed (bare m) (names_at left)) op) op rest goes a.may.keys.0 a.may.may.1;
          places = goes.ends.places ∙ a.may.places;
          keys = a.may.keys.1;
          rows = rows_rest op rest left a.may.rows;
          few = few_rest left a.may.few;
          room = (let enough = more 0 (let all = a.may.room in omega arith) in omega arith);
        };
        goes_on = λ fill. ap (write_opened fill (bare m) ts rest (rows_behind left)) (does.moved fill) ∙ sym (write_on fill (does.moves fill) (does.decided_is fill)) ∙ a.goes_on fill;
      }

  -- or does not fit, and nothing of the write is opened
  pub late_here : DoesNotFit t m ts op (names_at left) → (fill : Row) → write_opened fill (bare m) ts ops told (placed fill o) ≡ Err ts
  late_here unfits fill = sym (a.goes_on fill) ∙ ap (if_it_fits ts (λ ms. write_opened fill (bare m) ts rest (rows_behind left) (moved_stores ts op.key ms (placed fill t)))) (unfits fill)

-- nothing is left
pub all_done : (m : Meta) (ts : ℕ) (o : Opening) (ops : List RowOp) (told : Option (List CommitRow)) (t : Opening) (left : Option (List CommitRow)) → AlongOps m ts o ops told t [] left → DoesAll o t m ts ops told
all_done m ts o ops told t left a = record {
  goes = record {
    ends = a.ends;
    apart = λ q none. (a.apart q none).1;
    later = a.later;
    room = λ k h. (let all = a.room k h in omega arith);
  };
  opened_is = λ fill. sym (a.goes_on fill);
}

-- ---- what is told of operations without a COMMIT

pub live_moved : (m : Meta) (ts : ℕ) (t u : Opening) (op : RowOp) (fill : Row) → Does t u m ts op None
    → placed fill u ≡ moved_stores ts op.key (to_live fill op (live_in (standing ts (held_of op.key (placed fill t))))) (placed fill t)
live_moved m ts t u op fill does =
    does.moved fill
    ∙ ap (λ (ms : Moves). moved_stores ts op.key ms (placed fill t)) (some_is (does.moves fill) (to_live fill op (live_in (standing ts (held_of op.key (placed fill t))))) (sym (does.decided_is fill)))

-- one row more
pub told_more : (m : Meta) (ts : ℕ) (t u : Opening) (op : RowOp) (rest : List RowOp) (fill : Row) (name : Place → Target) (rows more all : List CommitRow) (row : CommitRow) → Does t u m ts op None
    → row ≡ row_told fill name (standing ts (held_of op.key (placed fill t))) op → more ≡ rows ++ row ∷ []
    → rows ++ rows_told fill name ts (op ∷ rest) (placed fill t) ≡ all → more ++ rows_told fill name ts rest (placed fill u) ≡ all
told_more m ts t u op rest fill name rows more all row does is adds h =
    (λ i. adds i ++ rows_told fill name ts rest (live_moved m ts t u op fill does i))
    ∙ append_assoc rows (row ∷ []) (rows_told fill name ts rest (moved_stores ts op.key (to_live fill op (live_in (standing ts (held_of op.key (placed fill t))))) (placed fill t)))
    ∙ ap (λ r. rows ++ r ∷ rows_told fill name ts rest (moved_stores ts op.key (to_live fill op (live_in (standing ts (held_of op.key (placed fill t))))) (placed fill t))) is
    ∙ h
