use Rattle.kt_column.proofs.Widths.{small_texts}
use Rattle.kt_column.proofs.values.encoded.Goals as goal

pub dictionary-requires-clause-small : goal.dictionary-requires-clause-small
dictionary-requires-clause-small c = small_texts c.args.form c.in-Dictionary-Texts.texts (rw c.in-Dictionary-Texts.is-1 at c.requires)

pub prefixes-requires : goal.prefixes-requires
prefixes-requires c = small_texts c.args.form c.in-Prefix-Texts.texts (rw c.in-Prefix-Texts.is-1 at c.requires)
