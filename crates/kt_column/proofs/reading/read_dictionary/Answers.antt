use Rattle.std.proofs.Common.{refl, sym, subst, ap, ◌∙◌}
use Rattle.kt_plain.specs.declared.items.Items.TheVariants.{Texts}
use Rattle.kt_dict.specs.Reading.{SpellsWithin}
use Rattle.kt_column.proofs.Readings.{dictionary_read, as_dictionary}
use Rattle.kt_column.proofs.reading.read_dictionary.Goals as goal

pub returns-in-Ok-clause-found : goal.returns-in-Ok-clause-found
returns-in-Ok-clause-found c = record {
  reads = dictionary_read c.args.form c.args.n c.args.bytes.now c.in-Ok.items c.requires.bytes c.requires.few (subst (λ m. SpellsWithin m c.args.bytes.now c.args.n c.in-Ok.items) c.limit.ensures c.in-Ok.ensures.found);
  own = refl;
}

pub returns-in-Ok-clause-only : goal.returns-in-Ok-clause-only
returns-in-Ok-clause-only c items r = as_dictionary c.args.form c.args.n c.args.bytes.now items r (λ ts is s. ap Texts (c.in-Ok.ensures.only ts (subst (λ m. SpellsWithin m c.args.bytes.now c.args.n ts) (sym c.limit.ensures) s)) ∙ is)

pub returns-in-Err-Place-clause-only : goal.returns-in-Err-Place-clause-only
returns-in-Err-Place-clause-only c items r =
    as_dictionary c.args.form c.args.n c.args.bytes.now items r (λ ts is s. absurd (rw c.in-Err-Place.field-0-is at (c.in-Err-Place.ensures.only ts (subst (λ m. SpellsWithin m c.args.bytes.now c.args.n ts) (sym c.limit.ensures) s))))
