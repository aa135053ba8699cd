use Rattle.std.proofs.Common.{◌-◌, ◌^◌, ℕ, List, [], ◌∷◌, length, min, refl, sym, ap, subst, ◌∙◌}
use Rattle.std.specs.List.{sum_by}
use Rattle.std.proofs.lemmas.List.{length-map}
use Rattle.kt_dms.specs.declared.store.DeltaMem.{DeltaMem}
use Rattle.kt_diskrowset.specs.declared.files.FileHeld.{FileHeld}
use Rattle.kt_diskrowset.specs.Files.{as_file}
use Rattle.kt_diskrowset.specs.Mems.{AllStand}
use Rattle.kt_diskrowset.specs.Rowset.{mems_of}
use Rattle.kt_diskrowset.specs.Stats.{changes_had, leaving_row}
use Rattle.kt_diskrowset.proofs.Beside.{stand_front, last_stands}
use Rattle.kt_diskrowset.proofs.Statistics.{in_files, none_had, capped_more, none_capped}
use Rattle.kt_diskrowset.proofs.Told.{told_bare}
use Rattle.kt_diskrowset.proofs.rowset.DiskRowSet.stat.Goals as goal

pub changes_had-requires : goal.changes_had-requires
changes_had-requires c = subst (AllStand c.args.pool.now) (sym c.deref.ensures.value) (stand_front c.args.pool.now c.args.self.now.frozen.items (c.args.self.now.active ∷ []) c.requires.stand)

pub returns-clause-is : goal.returns-clause-is
returns-clause-is c =
    let s = c.args.self.now in
    let pool = c.args.pool.now in
    record {
      number = refl;
      rows = c.rows.ensures;
      fresh_is = c.capped-fresh.ensures
          ∙ capped_more pool s.frozen.items s.active c.changes_had.result c.from.result (c.changes_had.ensures ∙ ap (λ (ms : List DeltaMem). min (changes_had pool ms) (2 ^ 31)) c.deref.ensures.value) (c.from.ensures ∙ c.len.ensures pool (last_stands pool s.frozen.items s.active c.requires.stand));
      files = c.capped.ensures ∙ ap (λ (n : ℕ). min n (2 ^ 31)) (c.len-2.ensures ∙ sym (length-map s.redo as_file));
      changes = c.leaving_row_in.ensures ∙ ap (λ (fs : List FileHeld). min (sum_by (λ (f : FileHeld). leaving_row f.deltas.value.list) fs) (2 ^ 31)) c.as_slice.ensures ∙ ap (λ (n : ℕ). min n (2 ^ 31)) (in_files s.redo);
      base = refl;
      least = c.in_ok-least.ensures.least;
      greatest = c.in_ok-least.ensures.greatest;
      held = refl;
    }

pub returns-clause-told : goal.returns-clause-told
returns-clause-told c = λ none.
    let s = c.args.self.now in
    let pool = c.args.pool.now in
    let so = c.capped-fresh.ensures
    ∙ capped_more pool s.frozen.items s.active c.changes_had.result c.from.result (c.changes_had.ensures ∙ ap (λ (ms : List DeltaMem). min (changes_had pool ms) (2 ^ 31)) c.deref.ensures.value) (c.from.ensures ∙ c.len.ensures pool (last_stands pool s.frozen.items s.active c.requires.stand)) in
    told_bare s pool (none_had pool (mems_of s) (none_capped (changes_had pool (mems_of s)) (sym so ∙ none)))
