-- Names that tell what became of an operation, under one superblock and under another.
use Rattle.std.proofs.Common.{◌≡◌, ℕ, List, [], ◌∷◌, Some, None, Option, refl, sym, ap, ◌∙◌, subst, true, Bool, map}
use Rattle.kt_history.specs.declared.change.Change.{Change}
use Rattle.kt_history.specs.declared.operation.RowOp.{RowOp}
use Rattle.kt_history.specs.Rows.{Row}
use Rattle.kt_history.specs.Operations.{effect}
use Rattle.kt_histlaws.specs.Histories.{AtMostOne}
use Rattle.kt_content.specs.Places.{Place, memory, Held, Moves, held_in, standing, row_there, row_before, needed_in, live_in, Standing}
use Rattle.kt_content.specs.KeyOps.{may_join, with_move, to_each, to_live, to_place}
use Rattle.kt_content.specs.MoreOps.{PlacesDiffer}
use Rattle.kt_content.specs.Publishing.{kept, AllKept}
use Rattle.kt_content.specs.Lending.{a_needed_store_tells, names_that_a_job_leaves_tell}
use Rattle.kt_content.proofs.MoreOps.{none_in, place_in, row_in, live_is, live_first}
use Rattle.kt_content.proofs.Names.{live_there}
use Rattle.kt_content.proofs.Publishing.{same_row, same_moves, AreTo}
use Rattle.kt_content.proofs.InMemory.{live_unique}
use Rattle.kt_content.proofs.Effects.{there_may_join, memory_may_join}
use Rattle.kt_content.proofs.Lending.{next}

-- names that tell

placed : (p : Place) (o : Option Change) (ms : Moves) → with_move p o (Some []) ≡ Some ms → with_move p o (Some []) ≡ Some (to_place p o)
placed p None ms h = absurd (cc)
placed p (Some c) ms h = refl

goes_there : (fill : Row) (final : Held) (ts : ℕ) (op : RowOp) (p : Place) (o : Option Row) → AtMostOne (map (row_before ts) (held_in final)) → (row_there p (standing ts final) ≡ None → (p ≡ memory) × (live_in (standing ts final) ≡ None))
    → row_there p (standing ts final) ≡ o → to_live fill op (live_in (standing ts final)) ≡ to_place p (may_join p (effect fill op.kind op.cells o).0)
goes_there fill final ts op p None one nowhere e =
    let n = nowhere e in
    ap (to_live fill op) n.1 ∙ ap (to_place memory) (sym (memory_may_join (effect fill op.kind op.cells None).0)) ∙ ap (λ (k : Place). to_place k (may_join k (effect fill op.kind op.cells None).0)) (sym n.0)
goes_there fill final ts op p (Some found) one nowhere e = ap (to_live fill op) (live_unique ts p found final one e) ∙ ap (to_place p) (sym (there_may_join fill op.kind op.cells found p))

pub needed_tells : a_needed_store_tells
needed_tells fill super next ts op targets p ms fit e one nowhere =
    let rows = standing ts next in
    let made : with_move p (may_join p (effect fill op.kind op.cells (row_there p rows)).0) (Some []) ≡ Some ms = sym (ap (to_each fill op rows) e) ∙ fit in
    ap (to_each fill op rows) e ∙ placed p (may_join p (effect fill op.kind op.cells (row_there p rows)).0) ms made ∙ ap Some (sym (goes_there fill next ts op p (row_there p rows) one nowhere refl))

all_kept_moves : (fill : Row) (keep : Place → Bool) (op : RowOp) (rows : Standing) (places : List Place) (ms : Moves) → AllKept keep places → to_each fill op rows places ≡ Some ms → AreTo keep true ms
all_kept_moves fill keep op rows [] ms k e = let same : [] ≡ ms = cc in subst (AreTo keep true) same tt
all_kept_moves fill keep op rows (p ∷ places) ms k e = with_kept (may_join p (effect fill op.kind op.cells (row_there p rows)).0) (to_each fill op rows places) (λ rest f. all_kept_moves fill keep op rows places rest k.1 f) e
  where
    with_kept : (o : Option Change) (more : Option Moves) → ((rest : Moves) → more ≡ Some rest → AreTo keep true rest) → with_move p o more ≡ Some ms → AreTo keep true ms
    with_kept None more r h = absurd (cc)
    with_kept (Some c) None r h = absurd (cc)
    with_kept (Some c) (Some some) r h = let same : (p, c) ∷ some ≡ ms = cc in subst (AreTo keep true) same (k.0, r some refl)

module _ (fill : Row) (keep : Place → Bool) (held next : Held) (ts : ℕ) (op : RowOp) (d : PlacesDiffer held) (same : kept keep next ≡ kept keep held)
    (rows : row_in (live_in (standing ts next)) ≡ row_in (live_in (standing ts held))) (one : AtMostOne (map (row_before ts) (held_in next))) where
  -- a store that the job leaves has it live in both
  stays_live : (o : Option (Place × Row)) → live_in (standing ts held) ≡ o → (c : Option Change) → (effect fill op.kind op.cells (row_in o)).0 ≡ c → AreTo keep true (to_place (place_in o) c)
      → to_live fill op (live_in (standing ts next)) ≡ to_live fill op (live_in (standing ts held))
  stays_live None e c made to = ap (to_live fill op) (none_in (live_in (standing ts next)) (rows ∙ ap row_in e) ∙ sym e)
  stays_live (Some at) e None made to =
      live_is fill op (live_in (standing ts next)) ∙ ap (λ r. to_place (place_in (live_in (standing ts next))) (effect fill op.kind op.cells r).0) (rows ∙ ap row_in e) ∙ ap (to_place (place_in (live_in (standing ts next)))) made
      ∙ sym (ap (to_live fill op) e ∙ ap (to_place at.0) made)
  stays_live (Some at) e (Some c) made to =
      let there : row_there at.0 (standing ts next) ≡ Some at.1 = same_row keep ts at.0 next held to.0 same ∙ live_there ts at.0 at.1 held d e in
      ap (to_live fill op) (live_unique ts at.0 at.1 next one there ∙ sym e)

pub leaves_tell : names_that_a_job_leaves_tell
leaves_tell fill keep old new held next ts op targets d k e same rows one tells =
    let live_rows : row_in (live_in (standing ts next)) ≡ row_in (live_in (standing ts held)) = live_first ts next ∙ rows ∙ sym (live_first ts held) in
    let o = live_in (standing ts held) in
    let to : AreTo keep true (to_live fill op o) = all_kept_moves fill keep op (standing ts held) (needed_in old targets) (to_live fill op o) k tells in
    ap (to_each fill op (standing ts next)) e ∙ same_moves fill keep ts op next held (needed_in old targets) k same ∙ tells
    ∙ ap Some (sym (stays_live fill keep held next ts op d same live_rows one o refl (effect fill op.kind op.cells (row_in o)).0 refl (subst (AreTo keep true) (live_is fill op o) to)))
