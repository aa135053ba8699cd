use Rattle.std.proofs.Common.{◌≡◌, ◌∙◌, Some, true, ℕ, List, Option, is_some, sym, ap, subst}
use Rattle.std.specs.Option.{option_map}
use Rattle.std.proofs.lemmas.Bool.{false≢true}
use Rattle.kt_baseset.specs.Tables.{cells_in}
use Rattle.kt_history.specs.declared.operation.OpKind.{OpKind}
use Rattle.kt_history.specs.declared.target.Kindly.{Kindly}
use Rattle.kt_history.specs.Rows.{Row}
use Rattle.kt_history.specs.Stores.{kind_made, change_of, with_change}
use Rattle.kt_history.specs.Views.{AreRising}
use Rattle.kt_rowfiles.specs.Files.{DiskRowset, row_under}
use Rattle.kt_diskrowset.specs.Rowset.{files_of, fresh_of, store_of}
use Rattle.kt_diskrowset.proofs.Histories.{keys_are, nothing_there, some_row}
use Rattle.kt_diskrowset.proofs.Rowsets.{store_joined}
use Rattle.kt_diskrowset.proofs.rowset.DiskRowSet.take.Goals as goal

pub unreachable-requires : goal.unreachable-requires
unreachable-requires c =
    let s = c.args.self.now in
    let none = ap (λ (k : List ℕ). row_under k 0 (files_of s).base) (sym c.key.ensures) ∙ c.in_default-ordinal.ensures.row in
    false≢true (sym (ap (λ (row : Option Row). is_some row) (nothing_there (files_of s) (fresh_of s c.args.pool.now) c.args.op.now.key none)) ∙ c.requires.live)

pub returns-clause-changed : goal.returns-clause-changed
returns-clause-changed c = λ under.
    let s = c.args.self.now in
    let at = ap (λ (k : List ℕ). row_under k 0 (files_of s).base) (sym c.key.ensures) ∙ c.in-Some-ordinal.ensures.row.1 in
    let made : kind_made c.args.op.now.kind true ≡ Some c.in-Some.kind = sym (c.in-Some.ensures ∙ ap (λ (kind : OpKind). kind_made kind true) c.kind.ensures) in
    store_joined s c.join.new.self c.args.pool.now c.join.new.pool c.in-Some-ordinal.ordinal c.args.ts c.args.op.now c.in-Some.kind (cells_in s.base.set.value.rows c.in-Some-ordinal.ordinal) c.join.ensures
    (subst AreRising (sym (keys_are s.base.set.value.rows)) c.in-Some-ordinal.ensures.rise) at under
    ∙ sym (ap (λ (kind : Option Kindly). with_change c.args.op.now.key c.args.ts (option_map (λ kind. change_of kind c.args.op.now.cells) kind) (store_of s c.args.pool.now)) made)

pub returns-clause-has_row : goal.returns-clause-has_row
returns-clause-has_row c = λ none.
    let s = c.args.self.now in
    let at = ap (λ (k : List ℕ). row_under k 0 (files_of s).base) (sym c.key.ensures) ∙ c.in-Some-ordinal.ensures.row.1 in
    absurd (some_row (files_of c.join.new.self) (fresh_of c.join.new.self c.join.new.pool) c.args.op.now.key _ (ap (λ (d : DiskRowset). row_under c.args.op.now.key 0 d.base) c.join.ensures.files ∙ at) none)
