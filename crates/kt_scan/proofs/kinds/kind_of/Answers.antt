use Rattle.std.proofs.Common.{map, sym, ap, ◌∙◌, List}
use Rattle.std.specs.Prelude.{unwrap_or}
use Rattle.std.specs.Ordering.{nat_cmp}
use Rattle.std.specs.FinMap.Entries.{find}
use Rattle.kt_base.specs.declared.cell.Kind.TheVariants.{Int64}
use Rattle.kt_schema.specs.declared.column.Column.{Column}
use Rattle.kt_scan.proofs.Named.{found_first, found_later}
use Rattle.kt_scan.proofs.kinds.kind_of.Goals as goal

pub returns-in-Some : goal.returns-in-Some
returns-in-Some c = sym (found_first c.args.id _ _ c.in-Some.kind Int64 (sym (c.in-Some.ensures ∙ ap (λ (l : List Column). find nat_cmp c.args.id (map (λ (d : Column). (d.id, d.kind)) l)) c.key_columns.ensures)))

pub returns-in-None : goal.returns-in-None
returns-in-None c =
    c.unwrap_or.ensures ∙ ap (λ o. unwrap_or o Int64) (c.kind_in-in-None.ensures ∙ ap (λ (l : List Column). find nat_cmp c.args.id (map (λ (d : Column). (d.id, d.kind)) l)) c.other_columns.ensures)
    ∙ sym (found_later c.args.id _ _ Int64 (sym (c.in-None.ensures ∙ ap (λ (l : List Column). find nat_cmp c.args.id (map (λ (d : Column). (d.id, d.kind)) l)) c.key_columns.ensures)))
