-- The insert on which the row of a key rests, found from the first change on, and the changes since then, done from the last one back.
use Rattle.std.proofs.Common.{◌≡◌, ℕ, ◌+◌, ◌<◌, List, [], ◌∷◌, Bool, true, false, cond, Option, Some, None, is_some, refl, sym, ap, ◌∙◌, subst, arith, inl, inr}
use Rattle.std.specs.Prelude.{nat_le, slice_get}
use Rattle.std.specs.Ordering.{nat_cmp}
use Rattle.std.specs.FinMap.Entries.{find}
use Rattle.std.specs.Option.{option_map}
use Rattle.std.proofs.lemmas.Bool.{false≢true, cases_lt}
use Rattle.kt_history.specs.declared.changes.KeyChange.{KeyChange}
use Rattle.kt_history.specs.declared.target.Kindly.{Kindly}
use Rattle.kt_history.specs.declared.target.Kindly.TheVariants.{Ins, Upd, Del}
use Rattle.kt_history.specs.AsBytes.{change_with, step_of}
use Rattle.kt_history.specs.Rows.{Row, apply, with_cells, AgreeIn, AgreeOn}
use Rattle.kt_history.proofs.Asking.{agree_then}
use Rattle.kt_history.specs.Stores.{after_steps}
use Rattle.kt_tablet.specs.Bases.{row_by, IsBase, RestsOn, base_by, updated}
use Rattle.kt_tablet.specs.Filling.{filled_change}
use Rattle.kt_tablet.specs.SnapLaws.{by_bool}
use Rattle.kt_tablet.specs.Snaps.{change_there}
use Rattle.kt_tablet.proofs.Snaps.{row_goes_on}

-- ---- one change, which is done or is too late

-- the row after it
abbrev after_one : Row → Bool → Kindly → Row → Option Row → Option Row
after_one fill done kind cells row = cond done (apply (filled_change fill (change_with kind cells)) row) row

-- a row that stays is as the change says
stays_updated : (fill : Row) (done : Bool) (kind : Kindly) (cells old : Row) → is_some (after_one fill done kind cells (Some old)) ≡ true → after_one fill done kind cells (Some old) ≡ Some (updated done kind cells old)
stays_updated fill false Ins cells old some = refl
stays_updated fill false Upd cells old some = refl
stays_updated fill false Del cells old some = refl
stays_updated fill true Ins cells old some = refl
stays_updated fill true Upd cells old some = refl
stays_updated fill true Del cells old some = absurd (false≢true some)

-- a row that comes to be is the insert's, filled
from_none : (fill : Row) (done : Bool) (kind : Kindly) (cells : Row) → is_some (after_one fill done kind cells None) ≡ true → after_one fill done kind cells None ≡ Some (with_cells cells fill)
from_none fill false kind cells some = absurd (false≢true some)
from_none fill true Ins cells some = refl
from_none fill true Upd cells some = absurd (false≢true some)
from_none fill true Del cells some = absurd (false≢true some)

-- no insert ends a row, and no update
insert_stays : (fill cells : Row) (old : Option Row) → is_some old ≡ true → is_some (apply (filled_change fill (change_with Ins cells)) old) ≡ true
insert_stays fill cells None some = absurd (false≢true some)
insert_stays fill cells (Some row) some = refl

update_stays : (fill cells : Row) (old : Option Row) → is_some old ≡ true → is_some (apply (filled_change fill (change_with Upd cells)) old) ≡ true
update_stays fill cells None some = absurd (false≢true some)
update_stays fill cells (Some row) some = refl

-- what lies over a change is told by its kind
pub set_updated : (done : Bool) (kind : Kindly) (cells over new : Row) → (done ≡ false → new ≡ over) → ((kind ≡ Upd → ⊥) → new ≡ over) → (done ≡ true → kind ≡ Upd → (old : Row) → with_cells new old ≡ with_cells over (with_cells cells old))
    → (old : Row) → with_cells new old ≡ with_cells over (updated done kind cells old)
set_updated false kind cells over new late other update old = ap (λ (l : Row). with_cells l old) (late refl)
set_updated true Ins cells over new late other update old = ap (λ (l : Row). with_cells l old) (other (λ is. absurd cc))
set_updated true Upd cells over new late other update old = update refl refl old
set_updated true Del cells over new late other update old = ap (λ (l : Row). with_cells l old) (other (λ is. absurd cc))

-- the same in some columns
pub asked_updated : (ids : List ℕ) (done : Bool) (kind : Kindly) (cells over new : Row) → (done ≡ false → new ≡ over) → ((kind ≡ Upd → ⊥) → new ≡ over) → (done ≡ true → kind ≡ Upd → (old : Row) → AgreeIn ids (with_cells new old) (with_cells over (with_cells cells old)))
    → (old : Row) → AgreeIn ids (with_cells new old) (with_cells over (updated done kind cells old))
asked_updated ids false kind cells over new late other update old = λ id yes. ap (λ (l : Row). find nat_cmp id (with_cells l old)) (late refl)
asked_updated ids true Ins cells over new late other update old = λ id yes. ap (λ (l : Row). find nat_cmp id (with_cells l old)) (other (λ is. absurd cc))
asked_updated ids true Upd cells over new late other update old = update refl refl old
asked_updated ids true Del cells over new late other update old = λ id yes. ap (λ (l : Row). find nat_cmp id (with_cells l old)) (other (λ is. absurd cc))

pub asked_all : (ids : List ℕ) (done : Bool) (kind : Kindly) (cells over new : Row) → done ≡ true → kind ≡ Upd → ((old : Row) → AgreeIn ids new (with_cells over (with_cells cells old))) → (old : Row) → AgreeIn ids new (with_cells over (updated done kind cells old))
asked_all ids done kind cells over new is_done is_update all old = rw (is_done, is_update) (all old)

-- nothing lies over a row
pub over_none : (row : Option Row) → row ≡ option_map (with_cells []) row
over_none None = refl
over_none (Some row) = refl

module _ (fill : Row) (q : List ℕ) (t : ℕ) (cs : List KeyChange) where
  -- the row after one change of the key more
  one_more : (at ts : ℕ) (kind : Kindly) (cells : Row) → Some (ts, change_with kind cells) ≡ option_map step_of (change_there q (slice_get cs at)) → row_by fill cs q t (at + 1) ≡ after_one fill (nat_le ts t) kind cells (row_by fill cs q t at)
  one_more at ts kind cells told =
      sym (row_goes_on fill q t cs at (ts, change_with kind cells) (row_by fill cs q t at) (after_steps t ((ts, filled_change fill (change_with kind cells)) ∷ []) (row_by fill cs q t at)) told refl refl).1

  -- ---- forth

  -- a row that rests on a change does so after one change more that leaves it there
  kept : (base at : ℕ) → IsBase fill cs q t base at → option_map (λ c. c.key) (slice_get cs at) ≡ Some q → is_some (row_by fill cs q t (at + 1)) ≡ true → IsBase fill cs q t base (at + 1)
  kept base at is here some = record {
    before = is.before;
    stays = λ k above upto. elim (cases_lt at k) [
      | inl last ↦ let same : at + 1 ≡ k = omega (arith, last, upto) in subst (λ n. is_some (row_by fill cs q t n) ≡ true) same some
      | inr first ↦ is.stays k above first
    ];
    own = λ k from below. elim (cases_lt k at) [
      | inl before ↦ is.own k from before
      | inr last ↦ let same : at ≡ k = omega (arith, last, below) in subst (λ n. option_map (λ (c : KeyChange). c.key) (slice_get cs n) ≡ Some q) same here
    ];
    inside = omega (arith, is.inside);
  }

  -- a row that comes to be rests on the change that made it
  begun : (at : ℕ) → row_by fill cs q t at ≡ None → option_map (λ c. c.key) (slice_get cs at) ≡ Some q → is_some (row_by fill cs q t (at + 1)) ≡ true → IsBase fill cs q t at (at + 1)
  begun at none here some = record {
    before = none;
    stays = λ k above upto. let same : at + 1 ≡ k = omega (arith, above, upto) in subst (λ n. is_some (row_by fill cs q t n) ≡ true) same some;
    own = λ k from below. let same : at ≡ k = omega (arith, from, below) in subst (λ n. option_map (λ (c : KeyChange). c.key) (slice_get cs n) ≡ Some q) same here;
    inside = omega arith;
  }

  -- the row was there
  was : (base at : ℕ) → IsBase fill cs q t base at → is_some (row_by fill cs q t at) ≡ true
  was base at is = is.stays at is.inside (omega arith)

  done_more : (base : Option ℕ) (at : ℕ) (kind : Kindly) (cells : Row) → option_map (λ c. c.key) (slice_get cs at) ≡ Some q → row_by fill cs q t (at + 1) ≡ apply (filled_change fill (change_with kind cells)) (row_by fill cs q t at) → RestsOn fill cs q t base at → RestsOn fill cs q t (base_by kind at base) (at + 1)
  done_more None at Ins cells here one rests = begun at rests here (ap is_some (one ∙ ap (apply (filled_change fill (change_with Ins cells))) rests))
  done_more (Some base) at Ins cells here one rests = kept base at rests here (ap is_some one ∙ insert_stays fill cells (row_by fill cs q t at) (was base at rests))
  done_more None at Upd cells here one rests = one ∙ ap (apply (filled_change fill (change_with Upd cells))) rests
  done_more (Some base) at Upd cells here one rests = kept base at rests here (ap is_some one ∙ update_stays fill cells (row_by fill cs q t at) (was base at rests))
  done_more base at Del cells here one rests = one

  late_more : (base : Option ℕ) (at : ℕ) → option_map (λ c. c.key) (slice_get cs at) ≡ Some q → row_by fill cs q t (at + 1) ≡ row_by fill cs q t at → RestsOn fill cs q t base at → RestsOn fill cs q t base (at + 1)
  late_more None at here same rests = same ∙ rests
  late_more (Some base) at here same rests = kept base at rests here (ap is_some same ∙ was base at rests)

  pub rests_more : (base : Option ℕ) (at ts : ℕ) (kind : Kindly) (cells : Row) → Some (ts, change_with kind cells) ≡ option_map step_of (change_there q (slice_get cs at)) → option_map (λ c. c.key) (slice_get cs at) ≡ Some q → RestsOn fill cs q t base at
      → RestsOn fill cs q t (cond (nat_le ts t) (base_by kind at base) base) (at + 1)
  rests_more base at ts kind cells told here rests = by_bool (nat_le ts t)
      (λ e. subst (λ b. RestsOn fill cs q t (cond b (base_by kind at base) base) (at + 1)) (sym e) (done_more base at kind cells here (one_more at ts kind cells told ∙ ap (λ b. after_one fill b kind cells (row_by fill cs q t at)) e) rests))
      (λ e. subst (λ b. RestsOn fill cs q t (cond b (base_by kind at base) base) (at + 1)) (sym e) (late_more base at here (one_more at ts kind cells told ∙ ap (λ b. after_one fill b kind cells (row_by fill cs q t at)) e) rests))

  -- ---- and back

  -- the row lies over what the changes before a place tell
  pub goes_back : (base end at ts : ℕ) (kind : Kindly) (cells now new : Row) → IsBase fill cs q t base end → base < at → at < end → Some (ts, change_with kind cells) ≡ option_map step_of (change_there q (slice_get cs at))
      → ((old : Row) → with_cells new old ≡ with_cells now (updated (nat_le ts t) kind cells old)) → row_by fill cs q t end ≡ option_map (with_cells now) (row_by fill cs q t (at + 1)) → row_by fill cs q t end ≡ option_map (with_cells new) (row_by fill cs q t at)
  goes_back base end at ts kind cells now new is above below told set so_far = by (row_by fill cs q t at) refl
    where
      by : (o : Option Row) → row_by fill cs q t at ≡ o → row_by fill cs q t end ≡ option_map (with_cells new) (row_by fill cs q t at)
      by None e = absurd (false≢true (sym (ap is_some e) ∙ is.stays at above (omega arith)))
      by (Some old) e =
          let one : row_by fill cs q t (at + 1) ≡ after_one fill (nat_le ts t) kind cells (Some old) = one_more at ts kind cells told ∙ ap (after_one fill (nat_le ts t) kind cells) e in
          let some : is_some (after_one fill (nat_le ts t) kind cells (Some old)) ≡ true = sym (ap is_some one) ∙ is.stays (at + 1) (omega arith) (omega arith) in
          so_far ∙ ap (option_map (with_cells now)) (one ∙ stays_updated fill (nat_le ts t) kind cells old some) ∙ ap Some (sym (set old)) ∙ sym (ap (option_map (with_cells new)) e)

  -- and the insert, filled, is laid under it in the end
  pub rests_whole : (base end ts : ℕ) (kind : Kindly) (cells now new : Row) → IsBase fill cs q t base end → Some (ts, change_with kind cells) ≡ option_map step_of (change_there q (slice_get cs base))
      → new ≡ with_cells now (with_cells cells fill) → row_by fill cs q t end ≡ option_map (with_cells now) (row_by fill cs q t (base + 1)) → Some new ≡ row_by fill cs q t end
  rests_whole base end ts kind cells now new is told made so_far =
      let one : row_by fill cs q t (base + 1) ≡ after_one fill (nat_le ts t) kind cells None = one_more base ts kind cells told ∙ ap (after_one fill (nat_le ts t) kind cells) is.before in
      let some : is_some (after_one fill (nat_le ts t) kind cells None) ≡ true = sym (ap is_some one) ∙ is.stays (base + 1) (omega arith) (omega (arith, is.inside)) in
      ap Some made ∙ sym (ap (option_map (with_cells now)) (one ∙ from_none fill (nat_le ts t) kind cells some)) ∙ sym so_far

module _ (ids : List ℕ) (fill : Row) (q : List ℕ) (t : ℕ) (cs : List KeyChange) where
  -- what a change says of the row that stays
  stands_so : (base end at ts : ℕ) (kind : Kindly) (cells : Row) → IsBase fill cs q t base end → base < at → at < end → Some (ts, change_with kind cells) ≡ option_map step_of (change_there q (slice_get cs at))
      → (old : Row) → row_by fill cs q t at ≡ Some old → row_by fill cs q t (at + 1) ≡ Some (updated (nat_le ts t) kind cells old)
  stands_so base end at ts kind cells is above below told old e =
      let one : row_by fill cs q t (at + 1) ≡ after_one fill (nat_le ts t) kind cells (Some old) = one_more fill q t cs at ts kind cells told ∙ ap (after_one fill (nat_le ts t) kind cells) e in
      one ∙ stays_updated fill (nat_le ts t) kind cells old (sym (ap is_some one) ∙ is.stays (at + 1) (omega arith) (omega arith))

  -- as `goes_back`, in some columns
  pub asks_back : (base end at ts : ℕ) (kind : Kindly) (cells now new : Row) → IsBase fill cs q t base end → base < at → at < end → Some (ts, change_with kind cells) ≡ option_map step_of (change_there q (slice_get cs at))
      → ((old : Row) → AgreeIn ids (with_cells new old) (with_cells now (updated (nat_le ts t) kind cells old))) → AgreeOn ids (row_by fill cs q t end) (option_map (with_cells now) (row_by fill cs q t (at + 1))) → AgreeOn ids (row_by fill cs q t end) (option_map (with_cells new) (row_by fill cs q t at))
  asks_back base end at ts kind cells now new is above below told set so_far = by (row_by fill cs q t at) refl
    where
      by : (o : Option Row) → row_by fill cs q t at ≡ o → AgreeOn ids (row_by fill cs q t end) (option_map (with_cells new) (row_by fill cs q t at))
      by None e = absurd (false≢true (sym (ap is_some e) ∙ is.stays at above (omega arith)))
      by (Some old) e =
          let there = subst (λ (o : Option Row). AgreeOn ids (row_by fill cs q t end) (option_map (with_cells now) o)) (stands_so base end at ts kind cells is above below told old e) so_far in
          subst (λ (o : Option Row). AgreeOn ids (row_by fill cs q t end) (option_map (with_cells new) o)) (sym e)
          (agree_then ids (row_by fill cs q t end) (Some (with_cells now (updated (nat_le ts t) kind cells old))) (Some (with_cells new old)) there (λ id yes. sym (set old id yes)))

  -- a change that tells the last column that is asked for
  pub asks_enough : (base end at ts : ℕ) (kind : Kindly) (cells now new : Row) → IsBase fill cs q t base end → base < at → at < end → Some (ts, change_with kind cells) ≡ option_map step_of (change_there q (slice_get cs at))
      → ((old : Row) → AgreeIn ids new (with_cells now (updated (nat_le ts t) kind cells old))) → AgreeOn ids (row_by fill cs q t end) (option_map (with_cells now) (row_by fill cs q t (at + 1))) → AgreeOn ids (row_by fill cs q t end) (Some new)
  asks_enough base end at ts kind cells now new is above below told set so_far = by (row_by fill cs q t at) refl
    where
      by : (o : Option Row) → row_by fill cs q t at ≡ o → AgreeOn ids (row_by fill cs q t end) (Some new)
      by None e = absurd (false≢true (sym (ap is_some e) ∙ is.stays at above (omega arith)))
      by (Some old) e =
          let there = subst (λ (o : Option Row). AgreeOn ids (row_by fill cs q t end) (option_map (with_cells now) o)) (stands_so base end at ts kind cells is above below told old e) so_far in
          agree_then ids (row_by fill cs q t end) (Some (with_cells now (updated (nat_le ts t) kind cells old))) (Some new) there (λ id yes. sym (set old id yes))

  -- as `rests_whole`, in some columns
  pub asks_whole : (base end ts : ℕ) (kind : Kindly) (cells now new : Row) → IsBase fill cs q t base end → Some (ts, change_with kind cells) ≡ option_map step_of (change_there q (slice_get cs base))
      → AgreeIn ids new (with_cells now (with_cells cells fill)) → AgreeOn ids (row_by fill cs q t end) (option_map (with_cells now) (row_by fill cs q t (base + 1))) → AgreeOn ids (row_by fill cs q t end) (Some new)
  asks_whole base end ts kind cells now new is told made so_far =
      let one : row_by fill cs q t (base + 1) ≡ after_one fill (nat_le ts t) kind cells None = one_more fill q t cs base ts kind cells told ∙ ap (after_one fill (nat_le ts t) kind cells) is.before in
      let some : is_some (after_one fill (nat_le ts t) kind cells None) ≡ true = sym (ap is_some one) ∙ is.stays (base + 1) (omega arith) (omega (arith, is.inside)) in
      let there = subst (λ (o : Option Row). AgreeOn ids (row_by fill cs q t end) (option_map (with_cells now) o)) (one ∙ from_none fill (nat_le ts t) kind cells some) so_far in
      agree_then ids (row_by fill cs q t end) (Some (with_cells now (with_cells cells fill))) (Some new) there (λ id yes. sym (made id yes))

pub based : (fill : Row) (q : List ℕ) (t : ℕ) (cs : List KeyChange) (base : Option ℕ) (at end : ℕ) → base ≡ Some at → RestsOn fill cs q t base end → IsBase fill cs q t at end
based fill q t cs base at end is rests = subst (λ b. RestsOn fill cs q t b end) is rests
