use Rattle.std.proofs.Common.{◌≡◌, ◌+◌, ◌∙◌, ◌++◌, ◌∷◌, [], ℕ, List, length, min, ap, arith}
use Rattle.kt_history.specs.declared.changes.Delta.{Delta}
use Rattle.kt_history.specs.Rows.{Row}
use Rattle.kt_baseset.specs.declared.rows.KeyedRow.{KeyedRow}
use Rattle.kt_merge.specs.Told.{insert_len, deletes_of}
use Rattle.kt_merge.specs.declared.output.Growing.{Growing}
use Rattle.kt_merge.proofs.GrownRows.{grown_more, told_grown}
use Rattle.kt_merge.proofs.output.Growing.push.Goals as goal

pub returns-clause-grown : goal.returns-clause-grown
returns-clause-grown c =
    let old = c.args.self.now in
    let r : KeyedRow = record { key = c.args.key; cells = c.args.row.base } in
    let rows = c.in_ok-push.ensures.items ∙ ap (λ (l : List KeyedRow). l ++ r ∷ []) c.push_delete.ensures.rest.0 in
    let undos = c.in_ok-append.ensures.items ∙ ap (λ (l : List Delta). l ++ c.args.row.undos.items) c.push_delete.ensures.rest.1 in
    let at : c.len-ordinal.result ≡ length old.rows.items = omega (arith, c.len-ordinal.ensures, c.args.self.now.rows.ok) in
    let redos = c.in_ok-push_delete.ensures.put ∙ ap (λ (n : ℕ). old.redos.items ++ deletes_of n c.args.row.deleted) at in
    let new : Growing = record { rows = c.push.new.self; undos = c.append.new.self; redos = c.push_delete.new.self.redos; bytes = c.min-self.result } in
    let len = c.row_len-len.ensures ∙ ap (λ (k : List ℕ). min (insert_len (record { key = k; cells = c.as_slice-2.result.now })) 33554432) c.as_slice.ensures
    ∙ ap (λ (cells : Row). min (insert_len (record { key = c.args.key; cells = cells })) 33554432) c.as_slice-2.ensures in
    let bytes : c.min-self.result ≡ min (old.bytes + min (insert_len r) 33554432) 33554432 = omega (arith, c.min-self.ensures, c.push_delete.ensures.rest.2, len) in
    grown_more c.args.columns.now old new c.args.key c.args.row c.requires.grown c.requires.ordinals rows undos redos c.requires.fits c.requires.above c.requires.room c.requires.few c.in_ok-push_delete.ensures.file bytes

pub returns-clause-told : goal.returns-clause-told
returns-clause-told c =
    let old = c.args.self.now in
    let r : KeyedRow = record { key = c.args.key; cells = c.args.row.base } in
    let rows = c.in_ok-push.ensures.items ∙ ap (λ (l : List KeyedRow). l ++ r ∷ []) c.push_delete.ensures.rest.0 in
    let undos = c.in_ok-append.ensures.items ∙ ap (λ (l : List Delta). l ++ c.args.row.undos.items) c.push_delete.ensures.rest.1 in
    let at : c.len-ordinal.result ≡ length old.rows.items = omega (arith, c.len-ordinal.ensures, c.args.self.now.rows.ok) in
    let redos = c.in_ok-push_delete.ensures.put ∙ ap (λ (n : ℕ). old.redos.items ++ deletes_of n c.args.row.deleted) at in
    let new : Growing = record { rows = c.push.new.self; undos = c.append.new.self; redos = c.push_delete.new.self.redos; bytes = c.min-self.result } in
    told_grown c.args.columns.now old new c.args.key c.args.row c.requires.grown c.requires.ordinals rows undos redos
