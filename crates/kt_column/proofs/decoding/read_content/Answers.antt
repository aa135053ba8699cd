use Rattle.std.proofs.Common.{◌≡◌}
use Rattle.kt_column.specs.Blocks.{nulls_in, values_in}
use Rattle.kt_column.specs.Held.{items_of}
use Rattle.kt_column.proofs.Contents.{held_parts, content_of, nulls_front, values_front, same_cells}
use Rattle.kt_column.proofs.decoding.read_content.Goals as goal

pub returns-in-Ok-values_behind-clause-held : goal.returns-in-Ok-values_behind-clause-held
returns-in-Ok-values_behind-clause-held c =
    let r = c.in-Ok-values_behind.ensures.found.reads in
    (held_parts c.args.form c.args.n c.in-Ok.nulls (items_of c.in-Ok-values_behind.values) c.requires.few r.values c.in-Ok.ensures.found.for_form r.counted).0

pub returns-in-Ok-values_behind-clause-found : goal.returns-in-Ok-values_behind-clause-found
returns-in-Ok-values_behind-clause-found c =
    content_of c.args.form c.args.encoding c.args.n c.args.part.now c.in-Ok.nulls (items_of c.in-Ok-values_behind.values) c.requires.few c.in-Ok.ensures.found c.in-Ok-values_behind.ensures.found.reads

pub returns-in-Ok-values_behind-clause-only : goal.returns-in-Ok-values_behind-clause-only
returns-in-Ok-values_behind-clause-only c cs r =
    let nulls : c.in-Ok.nulls ≡ nulls_in c.args.form cs = c.in-Ok.ensures.only (nulls_in c.args.form cs) r.values (nulls_front c.args.form c.args.encoding c.args.n c.args.part.now cs r) r.parts in
    let items : items_of c.in-Ok-values_behind.values ≡ values_in c.args.form cs = c.in-Ok-values_behind.ensures.only (values_in c.args.form cs) (values_front c.args.form c.args.encoding c.args.n c.args.part.now cs c.in-Ok.nulls r nulls) in
    same_cells c.args.form c.args.encoding c.args.n c.args.part.now cs c.in-Ok.nulls (items_of c.in-Ok-values_behind.values) r nulls items

pub returns-in-Err-values_behind-clause-only : goal.returns-in-Err-values_behind-clause-only
returns-in-Err-values_behind-clause-only c cs r =
    let nulls : c.in-Ok.nulls ≡ nulls_in c.args.form cs = c.in-Ok.ensures.only (nulls_in c.args.form cs) r.values (nulls_front c.args.form c.args.encoding c.args.n c.args.part.now cs r) r.parts in
    c.in-Err-values_behind.ensures.only (values_in c.args.form cs) (values_front c.args.form c.args.encoding c.args.n c.args.part.now cs c.in-Ok.nulls r nulls)
