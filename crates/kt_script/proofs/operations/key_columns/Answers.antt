use Rattle.std.proofs.Common.{take, sym, ap, ◌∙◌, length}
use Rattle.kt_schema.specs.Columns.{key_kinds}
use Rattle.kt_schema.proofs.Columns.{schema_holds, keys_first, few_keys}
use Rattle.kt_script.proofs.operations.key_columns.Goals as goal

pub split_at-requires : goal.split_at-requires
split_at-requires c = rw (c.key_kinds.ensures, c.columns.ensures.value) (few_keys c.args.schema.now)

pub returns-clause-value : goal.returns-clause-value
returns-clause-value c =
    let columns = c.args.schema.now in
    let first = keys_first columns (schema_holds columns c.columns.ensures.fit).late in
    c.split_at.ensures.front ∙ (ap (λ kinds. take (length kinds) c.columns.result.now) c.key_kinds.ensures ∙ (ap (take (length (key_kinds columns))) c.columns.ensures.value ∙ sym first.0))
