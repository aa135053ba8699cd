-- The names of the live store tell what became of an operation.
use Rattle.std.proofs.Common.{◌≡◌, ℕ, List, [], ◌∷◌, Some, None, Option, refl, sym, ap, ◌∙◌, subst, cond, true, false}
use Rattle.kt_history.specs.declared.change.Change.{Change}
use Rattle.kt_history.specs.declared.operation.RowOp.{RowOp}
use Rattle.kt_history.specs.Rows.{Row}
use Rattle.kt_history.specs.Operations.{effect}
use Rattle.kt_content.specs.Places.{Place, memory, Held, Standing, same_place, row_before, standing, row_there, live_in, or_live, needed_in, places_of}
use Rattle.kt_content.specs.KeyOps.{to_each, to_place, may_join, with_move}
use Rattle.kt_content.specs.MoreOps.{LacksPlace, PlacesDiffer, names_of_the_live_store_tell}
use Rattle.kt_content.proofs.MoreOps.{place_lacking, is_same, place_itself, place_in, row_in, live_is}
use Rattle.kt_content.proofs.Effects.{there_may_join, memory_may_join}

-- where the key is live nowhere, no store has it
pub none_there : (ts : ℕ) (p : Place) (held : Held) → live_in (standing ts held) ≡ None → row_there p (standing ts held) ≡ None
none_there ts p [] h = refl
none_there ts p (h ∷ held) is = elim (row_before ts h.1) as (λ o. or_live h.0 o (live_in (standing ts held)) ≡ None → cond (same_place p h.0) o (row_there p (standing ts held)) ≡ None) [
  | None ↦ λ e. elim (same_place p h.0) as (λ b. cond b None (row_there p (standing ts held)) ≡ None) [ true ↦ refl | false ↦ none_there ts p held e ]
  | Some row ↦ λ e. absurd (cc)
] is

-- and else the store that has it live has this row
pub live_there : (ts : ℕ) (p : Place) (row : Row) (held : Held) → PlacesDiffer held → live_in (standing ts held) ≡ Some (p, row) → row_there p (standing ts held) ≡ Some row
live_there ts p row [] d h = absurd (cc)
live_there ts p row (h ∷ held) d is = elim (row_before ts h.1) as (λ o. or_live h.0 o (live_in (standing ts held)) ≡ Some (p, row) → cond (same_place p h.0) o (row_there p (standing ts held)) ≡ Some row) [
  | Some r ↦ λ e. let same : h.0 ≡ p = ap place_in e in let r_is : Some r ≡ Some row = ap row_in e in
      subst (λ b. cond b (Some r) (row_there p (standing ts held)) ≡ Some row) (sym (ap (same_place p) same ∙ place_itself p)) r_is
  | None ↦ λ e. elim (same_place p h.0) as (λ b. same_place p h.0 ≡ b → cond b None (row_there p (standing ts held)) ≡ Some row) [
    | true ↦ λ s. absurd (place_lacking ts p row held (subst (λ q. LacksPlace q held) (sym (is_same p h.0 s)) d.0) e)
    | false ↦ λ s. live_there ts p row held d.1 e
  ] refl
] is

-- where it is live it has the row of the live one, and takes what that makes
pub takes_live : (fill : Row) (ts : ℕ) (held : Held) (op : RowOp) (o : Option (Place × Row)) → PlacesDiffer held → live_in (standing ts held) ≡ o
    → may_join (place_in o) (effect fill op.kind op.cells (row_there (place_in o) (standing ts held))).0 ≡ (effect fill op.kind op.cells (row_in o)).0
takes_live fill ts held op None d is = memory_may_join _ ∙ ap (λ r. (effect fill op.kind op.cells r).0) (none_there ts memory held is)
takes_live fill ts held op (Some at) d is = ap (λ r. may_join at.0 (effect fill op.kind op.cells r).0) (live_there ts at.0 at.1 held d is) ∙ there_may_join fill op.kind op.cells at.1 at.0

tells : (fill : Row) (op : RowOp) (rows : Standing) (places : List Place) (p : Place) (c : Option Change) → may_join p (effect fill op.kind op.cells (row_there p rows)).0 ≡ c → places ≡ places_of (to_place p c) → to_each fill op rows places ≡ Some (to_place p c)
tells fill op rows places p None e is = ap (to_each fill op rows) is
tells fill op rows places p (Some c) e is = ap (to_each fill op rows) is ∙ ap (λ o. with_move p o (Some [])) e

pub names_tell : names_of_the_live_store_tell
names_tell fill super final ts op targets d is =
    let o = live_in (standing ts final) in
    let made = live_is fill op o in
    tells fill op (standing ts final) (needed_in super targets) (place_in o) (effect fill op.kind op.cells (row_in o)).0 (takes_live fill ts final op o d refl) (is ∙ ap places_of made) ∙ ap Some (sym made)
