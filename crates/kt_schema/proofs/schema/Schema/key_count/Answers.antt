use Rattle.std.proofs.Common.{◌≡◌, length, ap, arith}
use Rattle.kt_schema.specs.Columns.{key_kinds}
use Rattle.kt_schema.proofs.Columns.{schema_holds, keys_first, few_keys}
use Rattle.kt_schema.proofs.schema.Schema.key_count.Goals as goal

pub returns : goal.returns
returns c =
    let columns = c.self.inside.columns.items in
    let schema = schema_holds columns c.self.invariant.0 in
    let count : c.len.result ≡ length (key_kinds columns) = omega (arith, c.len.ensures, c.self.inside.key_kinds.ok.0, ap length c.self.invariant.1) in
    let first = keys_first columns schema.late in
    rw (← c.self.view_is, count) (record { within = few_keys columns; keys = first.0; others = first.1 })
