use Rattle.std.proofs.Common.{◌≡◌, ◌∙◌, ap, sym, refl, subst}
use Rattle.kt_plain.specs.declared.items.Items.TheVariants.{Numbers}
use Rattle.kt_rle.specs.Spelling.{Spells}
use Rattle.kt_column.specs.Forms.{width}
use Rattle.kt_column.specs.Values.{run_width}
use Rattle.kt_column.proofs.Readings.{runs_read, as_runs}
use Rattle.kt_column.proofs.reading.read_runs.Goals as goal

pub returns-in-Ok-clause-found : goal.returns-in-Ok-clause-found
returns-in-Ok-clause-found c =
    let w : c.run_width.result ≡ run_width (width c.args.form) = c.run_width.ensures ∙ ap run_width c.width.ensures in
    record { reads = runs_read c.args.form c.args.n c.args.bytes.now c.in-Ok.runs c.requires.numeric c.requires.few (subst (λ k. Spells k c.args.n c.in-Ok.runs c.args.bytes.now) w c.in-Ok.ensures.found); own = refl }

pub returns-in-Ok-clause-only : goal.returns-in-Ok-clause-only
returns-in-Ok-clause-only c items r =
    let w : c.run_width.result ≡ run_width (width c.args.form) = c.run_width.ensures ∙ ap run_width c.width.ensures in
    as_runs c.args.form c.args.n c.args.bytes.now items r (λ zs is s. ap Numbers (c.in-Ok.ensures.only zs (subst (λ k. Spells k c.args.n zs c.args.bytes.now) (sym w) s)) ∙ is)

pub returns-in-Err-Place-clause-only : goal.returns-in-Err-Place-clause-only
returns-in-Err-Place-clause-only c items r =
    let w : c.run_width.result ≡ run_width (width c.args.form) = c.run_width.ensures ∙ ap run_width c.width.ensures in
    as_runs c.args.form c.args.n c.args.bytes.now items r (λ zs is s. absurd (rw c.in-Err-Place.field-0-is at (c.in-Err-Place.ensures.only zs (subst (λ k. Spells k c.args.n zs c.args.bytes.now) (sym w) s))))
