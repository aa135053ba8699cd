use Rattle.kt_column.proofs.Widths.{small_texts}
use Rattle.kt_column.proofs.Sizes.{prefix_takes}
use Rattle.kt_column.proofs.lengths.encoded_len.Goals as goal

pub dictionary_len-requires-clause-small : goal.dictionary_len-requires-clause-small
dictionary_len-requires-clause-small c = small_texts c.args.form c.in-Dictionary-Texts.texts (rw c.in-Dictionary-Texts.is-1 at c.requires)

pub prefix_len-requires-clause-small : goal.prefix_len-requires-clause-small
prefix_len-requires-clause-small c = small_texts c.args.form c.in-Prefix-Texts.texts (rw c.in-Prefix-Texts.is-1 at c.requires)

pub returns-in-Prefix-Texts : goal.returns-in-Prefix-Texts
returns-in-Prefix-Texts c =
    prefix_takes c.args.form c.args.items.now c.args.encoding c.in-Prefix-Texts.texts c.prefix_len.result c.requires c.if-not-may_use.ensures.yes c.in-Prefix-Texts.is-0 c.in-Prefix-Texts.is-1 c.prefix_len.ensures
