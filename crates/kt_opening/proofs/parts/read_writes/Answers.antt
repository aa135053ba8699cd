use Rattle.std.proofs.Common.{◌≡◌, ◌+◌, List, [], ◌∷◌, ◌++◌, true, false, ◌∙◌, length, map, sym, ap, subst}
use Rattle.std.specs.Prelude.{codes}
use Rattle.std.proofs.lemmas.Result.{err_from_is_err_and}
use Rattle.kt_base.specs.Literals.{same}
use Rattle.kt_history.specs.Rows.{Rows, Changes, changed}
use Rattle.kt_history.specs.History.{PastWrite}
use Rattle.kt_judge.specs.Openings.{write_of}
use Rattle.kt_opening.specs.Live.{IsLive}
use Rattle.kt_opening.specs.OpeningTexts.{turn, changes_due, written}
use Rattle.kt_opening.specs.Reading.{Leads, with_rows, with_writes}
use Rattle.kt_opening.proofs.Leading.{ends_behind}
use Rattle.kt_opening.proofs.LiveLaws.{written_more}
use Rattle.kt_opening.proofs.OpeningSteps.{all_read, begun_so}
use Rattle.kt_opening.proofs.parts.read_writes.Goals as goal

pub returns-then-eq-clause-read : goal.returns-then-eq-clause-read
returns-then-eq-clause-read c = λ base live.
    let line = c.in-Some.line in
    let is : same line.now (codes "output") ≡ true = sym (ap (same line.now) c.as_slice.ensures) ∙ sym c.if-eq.ensures in
    all_read c.args.schema.now c.args.text.now c.args.a c.args.c c.args.start base c.lines.low c.lines.at (map write_of c.lines.writes.items) (c.lines.invariant.1 base live).0 line c.in-Some.ensures is

pub returns-in_err-part-clause-read : goal.returns-in_err-part-clause-read
returns-in_err-part-clause-read c =
    let p = err_from_is_err_and c.from_residual.result c.from_residual.ensures.1 in
    rw (p.1, p.2)
    (λ base live.
    let line = c.in-Some.line in
    let read = map write_of c.lines.writes.items in
    let before = c.lines.invariant.1 base live in
    let not : same line.now (codes "output") ≡ false = sym (ap (same line.now) c.as_slice.ensures) ∙ sym c.if-eq.ensures in
    let lead = begun_so c.args.schema.now c.args.text.now c.args.a c.args.c c.args.start base c.lines.low c.lines.at read before.0 line c.in-Some.ensures not c.in-Some-turn_of.ts c.in-Some-turn_of.due (sym c.in-Some-turn_of.ensures) in
    ends_behind c.args.schema.now c.args.text.now (turn c.args.c c.args.a (with_rows c.args.a base)) c.args.start (changes_due c.args.c (with_writes c.args.a base read) c.in-Some-turn_of.ts [] c.in-Some-turn_of.due) (c.lines.at + length line.now + 1) c.in_err-part.field-0.0 lead
    (c.in_err-part.ensures.read c.args.c (with_writes c.args.a base read) c.in-Some-turn_of.ts before.1))

pub lines-preserved : goal.lines-preserved
lines-preserved c = (
  c.in_ok-part.ensures.within.1,
  λ base live.
      let line = c.in-Some.line in
      let ts = c.in-Some-turn_of.ts in
      let part = c.in_ok-part.part in
      let read = map write_of c.lines.writes.items in
      let w : PastWrite = record { ts = ts; changes = part.changes.items } in
      let before = c.lines.invariant.1 base live in
      let pushed : map write_of c.push_write.new.writes.items ≡ read ++ w ∷ [] = c.in_ok-push_write.ensures in
      let not : same line.now (codes "output") ≡ false = sym (ap (same line.now) c.as_slice.ensures) ∙ sym c.if-eq.ensures in
      let lead = begun_so c.args.schema.now c.args.text.now c.args.a c.args.c c.args.start base c.lines.low c.lines.at read before.0 line c.in-Some.ensures not ts c.in-Some-turn_of.due (sym c.in-Some-turn_of.ensures) in
      let next = c.in_ok-part.ensures.read c.args.c (with_writes c.args.a base read) ts before.1 in
      let table : changed c.deref.result.now (written read base) ≡ written (map write_of c.push_write.new.writes.items) base =
      ap (λ (cs : Changes). changed cs (written read base)) c.deref.ensures.value ∙ sym (written_more read w base) ∙ ap (λ (ws : List PastWrite). written ws base) (sym pushed) in (
        subst (λ (ws : List PastWrite). Leads c.args.schema.now c.args.text.now (turn c.args.c c.args.a (with_rows c.args.a base)) c.args.start (turn c.args.c ts (with_writes c.args.a base ws)) part.at) (sym pushed) (lead ∙ next),
        subst (λ (rows : Rows). IsLive c.apply_all.new.self rows) table (c.in_ok-apply_all.ensures (written read base) before.1),
      ),
)
