use Rattle.std.proofs.Common.{◌∙◌, ◌++◌, List, ℕ, ap}
use Rattle.kt_column.specs.Forms.{width}
use Rattle.kt_column.specs.Blocks.{texts_in}
use Rattle.kt_baseset.proofs.Spelled.{texts_are}
use Rattle.kt_baseset.proofs.keys.push_keys.Goals as goal

pub push_texts-requires : goal.push_texts-requires
push_texts-requires c = ap width c.requires.texts.form

pub returns : goal.returns
returns c =
    let cells = c.args.column.now.cells in
    c.in_ok-push_texts.ensures ∙ ap (λ (t : List (List ℕ)). t ++ texts_in cells) c.requires.none ∙ texts_are cells c.requires.texts.texts
