use Rattle.std.proofs.Common.{◌≡◌, ◌≤◌, ◌∙◌, ℕ, List, Some, None, length, sym, ap, subst, arith}
use Rattle.std.specs.Option.{option_map}
use Rattle.std.proofs.lemmas.Bool.{OnTrue_at, OnFalse_at}
use Rattle.std.proofs.lemmas.Result.{IfOk-weaker}
use Rattle.kt_history.specs.Rows.{Row}
use Rattle.kt_baseset.specs.declared.schema.ColumnShape.{ColumnShape}
use Rattle.kt_rowfiles.specs.Reading.{steps_in}
use Rattle.kt_merge.specs.Fitting.{FitsFiles}
use Rattle.kt_merge.specs.Folding.{row_folded}
use Rattle.kt_merge.specs.Rows.{disk_row_of}
use Rattle.kt_merge.specs.Major.{IsHeld}
use Rattle.kt_merge.proofs.FoldedFiles.{few_folded, folded_deletes, held_fits, key_short, no_records}
use Rattle.kt_merge.proofs.folding.folded_row.Goals as goal

pub returns-then-can_hold-clause-fits : goal.returns-then-can_hold-clause-fits
returns-then-can_hold-clause-fits c = (OnTrue_at c.if-can_hold.true c.can_hold.ensures.yes).0

pub returns-then-can_hold-clause-ordinals : goal.returns-then-can_hold-clause-ordinals
returns-then-can_hold-clause-ordinals c = rw c.in-Some.is at c.in_ok-folded.ensures.ordinals

pub returns-then-can_hold-clause-room : goal.returns-then-can_hold-clause-room
returns-then-can_hold-clause-room c = (OnTrue_at c.if-can_hold.true c.can_hold.ensures.yes).1

pub returns-then-can_hold-clause-few : goal.returns-then-can_hold-clause-few
returns-then-can_hold-clause-few c = few_folded c.args.mark c.in_ok-row.row c.args.redos.now c.in-Some.folded (ap (option_map disk_row_of) (sym c.in-Some.is) ∙ c.in_ok-folded.ensures.row)

pub returns-then-can_hold-clause-folded : goal.returns-then-can_hold-clause-folded
returns-then-can_hold-clause-folded c = λ d e held room.
    let is = ap (option_map disk_row_of) (sym c.in-Some.is) ∙ c.in_ok-folded.ensures.row ∙ ap (λ (r : Row). row_folded c.args.mark r (steps_in c.args.redos.now)) c.in_ok-row.ensures ∙ e in cc

pub returns-then-can_hold-clause-deletes : goal.returns-then-can_hold-clause-deletes
returns-then-can_hold-clause-deletes c = folded_deletes c.args.mark c.in_ok-row.row (steps_in c.args.redos.now) c.in-Some.folded (ap (option_map disk_row_of) (sym c.in-Some.is) ∙ c.in_ok-folded.ensures.row)

pub returns-else-can_hold-clause-folded : goal.returns-else-can_hold-clause-folded
returns-else-can_hold-clause-folded c = λ d e held room.
    let w = c.in-Some.folded in
    let some = ap (option_map disk_row_of) (sym c.in-Some.is) ∙ c.in_ok-folded.ensures.row in
    let is : disk_row_of w ≡ d = (let f = some ∙ ap (λ (r : Row). row_folded c.args.mark r (steps_in c.args.redos.now)) c.in_ok-row.ensures ∙ e in cc) in
    let few = few_folded c.args.mark c.in_ok-row.row c.args.redos.now w some in
    let short = subst (λ (k : List ℕ). length k ≤ 16384) (sym c.requires.key) (key_short c.args.base.now.schema c.args.base.now.rows c.args.ordinal c.requires.base c.requires.inside) in
    absurd (OnFalse_at c.if-can_hold.false c.can_hold.ensures.no (held_fits c.args.columns.now c.args.key.now w short (subst (IsHeld c.args.columns.now) (sym is) held), omega (arith, few, room)))

pub returns-in-None-clause-folded : goal.returns-in-None-clause-folded
returns-in-None-clause-folded c = λ d e held room.
    absurd (let f = ap (option_map disk_row_of) (sym c.in-None.is) ∙ c.in_ok-folded.ensures.row ∙ ap (λ (r : Row). row_folded c.args.mark r (steps_in c.args.redos.now)) c.in_ok-row.ensures ∙ e in cc)

pub returns-else-can_hold-clause-fits : goal.returns-else-can_hold-clause-fits
returns-else-can_hold-clause-fits c =
    IfOk-weaker c.row_alone.result _ _
    (λ row held. subst (λ (cs : List ColumnShape). FitsFiles cs c.args.key.now row) (sym c.requires.columns) (subst (λ (k : List ℕ). FitsFiles c.args.base.now.schema k row) (sym c.requires.key) held))
    c.row_alone.ensures.held

pub returns-else-can_hold-clause-ordinals : goal.returns-else-can_hold-clause-ordinals
returns-else-can_hold-clause-ordinals c = IfOk-weaker c.row_alone.result _ _ (λ row none. no_records c.args.ordinal row none.0) c.row_alone.ensures.none

pub returns-else-can_hold-clause-room : goal.returns-else-can_hold-clause-room
returns-else-can_hold-clause-room c = IfOk-weaker c.row_alone.result _ _ (λ row none. let few = ap length none.0 in omega (arith, few, c.requires.most)) c.row_alone.ensures.none

pub returns-else-can_hold-clause-few : goal.returns-else-can_hold-clause-few
returns-else-can_hold-clause-few c = IfOk-weaker c.row_alone.result _ _ (λ row none. let few = ap length none.0 in omega (arith, few)) c.row_alone.ensures.none

pub returns-else-can_hold-clause-deletes : goal.returns-else-can_hold-clause-deletes
returns-else-can_hold-clause-deletes c = IfOk-weaker c.row_alone.result _ _ (λ row none ts e. absurd (let f : None ≡ Some ts = sym none.1 ∙ e in cc)) c.row_alone.ensures.none

pub returns-in-None-clause-fits : goal.returns-in-None-clause-fits
returns-in-None-clause-fits c =
    IfOk-weaker c.row_alone-in-None.result _ _
    (λ row held. subst (λ (cs : List ColumnShape). FitsFiles cs c.args.key.now row) (sym c.requires.columns) (subst (λ (k : List ℕ). FitsFiles c.args.base.now.schema k row) (sym c.requires.key) held))
    c.row_alone-in-None.ensures.held

pub returns-in-None-clause-ordinals : goal.returns-in-None-clause-ordinals
returns-in-None-clause-ordinals c = IfOk-weaker c.row_alone-in-None.result _ _ (λ row none. no_records c.args.ordinal row none.0) c.row_alone-in-None.ensures.none

pub returns-in-None-clause-room : goal.returns-in-None-clause-room
returns-in-None-clause-room c = IfOk-weaker c.row_alone-in-None.result _ _ (λ row none. let few = ap length none.0 in omega (arith, few, c.requires.most)) c.row_alone-in-None.ensures.none

pub returns-in-None-clause-few : goal.returns-in-None-clause-few
returns-in-None-clause-few c = IfOk-weaker c.row_alone-in-None.result _ _ (λ row none. let few = ap length none.0 in omega (arith, few)) c.row_alone-in-None.ensures.none

pub returns-in-None-clause-deletes : goal.returns-in-None-clause-deletes
returns-in-None-clause-deletes c = IfOk-weaker c.row_alone-in-None.result _ _ (λ row none ts e. absurd (let f : None ≡ Some ts = sym none.1 ∙ e in cc)) c.row_alone-in-None.ensures.none
