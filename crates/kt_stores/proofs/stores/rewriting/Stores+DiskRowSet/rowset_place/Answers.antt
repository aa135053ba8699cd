use Rattle.std.proofs.Common.{◌≡◌, ◌+◌, ◌-◌, ◌∙◌, ℕ, List, length, Some, None, true, sym, ap, arith}
use Rattle.std.specs.Prelude.{◌==◌}
use Rattle.std.specs.List.{position}
use Rattle.std.specs.Option.{option_map}
use Rattle.kt_diskrowset.specs.declared.rowset.DiskRowSet.{DiskRowSet}
use Rattle.kt_diskrowset.specs.Rowset.{HeldFiles, name_of, store_of, cells_had}
use Rattle.kt_stores.specs.Parts.{shelved}
use Rattle.kt_stores.specs.Shelf.{Shelved, StoresView, is_rowset}
use Rattle.kt_stores.proofs.Numbered.{numbered, filed}
use Rattle.kt_stores.proofs.stores.rewriting.Stores+DiskRowSet.rowset_place.Goals as goal

pub returns-in-Some-clause-place : goal.returns-in-Some-clause-place
returns-in-Some-clause-place c =
    let i = c.self.inside in
    let n = c.args.number in
    let count : c.len.result ≡ length i.frozen.items = omega (arith, i.frozen.ok) in
    let found = c.in-Some.ensures ∙ ap (position (λ (r : DiskRowSet). is_rowset n (name_of r))) c.deref.ensures.value in
    ap (λ (k : ℕ). Some (1 + k + c.in-Some.at)) count
    ∙ ap (option_map (λ (j : ℕ). 1 + length i.frozen.items + j)) found
    ∙ sym (numbered (shelved name_of store_of (λ s. true) cells_had) i.pool n i.active i.frozen.items i.rowsets.items)
    ∙ ap (λ (v : StoresView). position (λ (s : Shelved). is_rowset n s.name) v.shelf) c.self.view_is

pub returns-in-None-clause-place : goal.returns-in-None-clause-place
returns-in-None-clause-place c =
    let i = c.self.inside in
    let n = c.args.number in
    let found = c.in-None.ensures ∙ ap (position (λ (r : DiskRowSet). is_rowset n (name_of r))) c.deref.ensures.value in
    ap (option_map (λ (j : ℕ). 1 + length i.frozen.items + j)) found
    ∙ sym (numbered (shelved name_of store_of (λ s. true) cells_had) i.pool n i.active i.frozen.items i.rowsets.items)
    ∙ ap (λ (v : StoresView). position (λ (s : Shelved). is_rowset n s.name) v.shelf) c.self.view_is

pub returns-in-Some-clause-files : goal.returns-in-Some-clause-files
returns-in-Some-clause-files c =
    let i = c.self.inside in
    let n = c.args.number in
    let found = c.in-Some.ensures ∙ ap (position (λ (r : DiskRowSet). is_rowset n (name_of r))) c.deref.ensures.value in
    let e : c.in-Some.at ≡ 1 + c.len.result + c.in-Some.at - 1 - c.args.self.now.frozen = (let f = ap (λ (v : StoresView). v.frozen) c.self.view_is in omega (arith, i.frozen.ok, f)) in
    ap (λ (v : StoresView). position (λ (h : HeldFiles). h.number == n) v.files) (sym c.self.view_is) ∙ filed n i.rowsets.items ∙ sym found ∙ ap (λ (k : ℕ). Some k) e

pub returns-in-None-clause-files : goal.returns-in-None-clause-files
returns-in-None-clause-files c =
    let n = c.args.number in
    let found = c.in-None.ensures ∙ ap (position (λ (r : DiskRowSet). is_rowset n (name_of r))) c.deref.ensures.value in
    ap (λ (v : StoresView). position (λ (h : HeldFiles). h.number == n) v.files) (sym c.self.view_is) ∙ filed n c.self.inside.rowsets.items ∙ sym found
