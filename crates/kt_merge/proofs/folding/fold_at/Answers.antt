use Rattle.std.proofs.Common.{◌≡◌, ◌∙◌, ℕ, List, length, length-append, sym, ap, subst, arith}
use Rattle.std.specs.List.{All, AllByRecursion}
use Rattle.std.specs.declared.cmp.Ordering.TheVariants.{Less}
use Rattle.std.proofs.lemmas.List.{length-map}
use Rattle.kt_history.specs.declared.changes.Delta.{Delta}
use Rattle.kt_history.specs.Rows.{key_cmp}
use Rattle.kt_baseset.specs.Rows.{keys_in}
use Rattle.kt_baseset.specs.Tables.{cells_in}
use Rattle.kt_rowfiles.specs.Reading.{step_in, steps_in}
use Rattle.kt_merge.specs.Fitting.{FitsFiles}
use Rattle.kt_merge.specs.Folding.{row_folded}
use Rattle.kt_merge.specs.Major.{redos_at}
use Rattle.kt_merge.specs.Rows.{deleted_at}
use Rattle.kt_merge.proofs.FoldedFiles.{row_count, keys_count, above_front, front_more, row_same, row_new, deletes_more, redos_are}
use Rattle.kt_merge.proofs.ToldRows.{all_of}
use Rattle.kt_merge.proofs.folding.fold_at.Goals as goal

pub folded_row-requires-clause-key : goal.folded_row-requires-clause-key
folded_row-requires-clause-key c = c.as_slice.ensures ∙ c.in_ok-key.ensures

pub folded_row-requires-clause-most : goal.folded_row-requires-clause-most
folded_row-requires-clause-most c = c.requires.grown.undos.count

pub push-requires-clause-few : goal.push-requires-clause-few
push-requires-clause-few c =
    let count = keys_count c.args.base.now.rows in
    let at = row_count c.args.out.now.rows.items (keys_in c.args.base.now.rows) c.args.ordinal c.requires.front (omega (arith, count, c.requires.inside)) in
    omega (arith, at, c.requires.inside, c.requires.base.keys.few, count)

pub push-requires-clause-fits : goal.push-requires-clause-fits
push-requires-clause-fits c = subst (λ (k : List ℕ). FitsFiles c.args.columns.now k c.in_ok-row.row) c.as_slice.ensures c.in_ok-row.ensures.fits

pub push-requires-clause-above : goal.push-requires-clause-above
push-requires-clause-above c =
    subst (AllByRecursion (λ (k : List ℕ). key_cmp k c.in_ok-key.key ≡ Less)) (sym c.requires.front)
    (above_front c.args.base.now.schema c.args.base.now.rows c.args.ordinal c.requires.base c.requires.inside c.in_ok-key.key c.in_ok-key.ensures)

pub push-requires-clause-room : goal.push-requires-clause-room
push-requires-clause-room c = c.in_ok-row.ensures.room

pub push-requires-clause-ordinals : goal.push-requires-clause-ordinals
push-requires-clause-ordinals c =
    let count = keys_count c.args.base.now.rows in
    let at = row_count c.args.out.now.rows.items (keys_in c.args.base.now.rows) c.args.ordinal c.requires.front (omega (arith, count, c.requires.inside)) in
    subst (λ (n : ℕ). All (λ (d : Delta). d.ordinal ≡ n) c.in_ok-row.row.undos.items) at c.in_ok-row.ensures.ordinals

pub returns-clause-front : goal.returns-clause-front
returns-clause-front c =
    front_more c.args.base.now.schema c.args.base.now.rows c.args.ordinal c.requires.base c.requires.inside c.args.out.now.rows.items c.push.new.self.rows.items (record { key = c.in_ok-key.key; cells = c.in_ok-row.row.base }) c.in_ok-push.ensures.rows c.in_ok-key.ensures c.requires.front

pub returns-clause-same : goal.returns-clause-same
returns-clause-same c = λ n low.
    let count = keys_count c.args.base.now.rows in
    let at = row_count c.args.out.now.rows.items (keys_in c.args.base.now.rows) c.args.ordinal c.requires.front (omega (arith, count, c.requires.inside)) in
    row_same c.args.out.now c.push.new.self (record { key = c.in_ok-key.key; cells = c.in_ok-row.row.base }) c.in_ok-row.row.undos.items c.in_ok-row.row.deleted c.args.ordinal at c.in_ok-push.ensures.rows c.in_ok-push.ensures.undos c.in_ok-push.ensures.redos
    (all_of c.args.ordinal c.in_ok-row.row.undos.items c.in_ok-row.ensures.ordinals) n low

pub returns-clause-folded : goal.returns-clause-folded
returns-clause-folded c = λ d e held room.
    let count = keys_count c.args.base.now.rows in
    let at = row_count c.args.out.now.rows.items (keys_in c.args.base.now.rows) c.args.ordinal c.requires.front (omega (arith, count, c.requires.inside)) in
    let are = ap steps_in c.deref.ensures.value ∙ redos_are c.clear.new.self.items c.push_redos.new.steps.items (redos_at c.args.ordinal c.args.redo.now) c.clear.ensures.items c.in_ok-push_redos.ensures in
    let long = length-map c.deref.result.now step_in in
    let same = ap length are in
    row_new c.args.out.now c.push.new.self (record { key = c.in_ok-key.key; cells = c.in_ok-row.row.base }) c.in_ok-row.row.undos.items c.in_ok-row.row.deleted c.args.ordinal at c.in_ok-push.ensures.rows c.in_ok-push.ensures.undos c.in_ok-push.ensures.redos
    (all_of c.args.ordinal c.in_ok-row.row.undos.items c.in_ok-row.ensures.ordinals) c.requires.grown.undone c.requires.grown.redone
    ∙ c.in_ok-row.ensures.folded d (ap (row_folded c.args.mark (cells_in c.args.base.now.rows c.args.ordinal)) are ∙ e) held (omega (arith, long, same, room))

pub returns-clause-few : goal.returns-clause-few
returns-clause-few c =
    let are = ap steps_in c.deref.ensures.value ∙ redos_are c.clear.new.self.items c.push_redos.new.steps.items (redos_at c.args.ordinal c.args.redo.now) c.clear.ensures.items c.in_ok-push_redos.ensures in
    let long = length-map c.deref.result.now step_in in
    let same = ap length are in
    let all = ap length c.in_ok-push.ensures.undos ∙ length-append c.args.out.now.undos.items c.in_ok-row.row.undos.items in
    omega (arith, long, same, all, c.in_ok-row.ensures.few)

pub returns-clause-deletes : goal.returns-clause-deletes
returns-clause-deletes c = λ old.
    let count = keys_count c.args.base.now.rows in
    let at = row_count c.args.out.now.rows.items (keys_in c.args.base.now.rows) c.args.ordinal c.requires.front (omega (arith, count, c.requires.inside)) in
    let are = ap steps_in c.deref.ensures.value ∙ redos_are c.clear.new.self.items c.push_redos.new.steps.items (redos_at c.args.ordinal c.args.redo.now) c.clear.ensures.items c.in_ok-push_redos.ensures in
    deletes_more c.args.redo.now c.args.ordinal (length c.args.out.now.rows.items) c.args.out.now.redos.items c.push.new.self.redos.items c.in_ok-row.row.deleted at c.in_ok-push.ensures.redos (λ ts is. sym (ap deleted_at are) ∙ c.in_ok-row.ensures.deletes ts is) old
