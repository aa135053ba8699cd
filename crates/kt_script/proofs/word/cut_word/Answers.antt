use Rattle.std.proofs.Common.{◌∙◌, ◌+◌, ◌∷◌, take, sym, ap, arith}
use Rattle.kt_script.specs.Pieces.{words_of}
use Rattle.kt_script.proofs.Pieces.{cut_begins, cut_more, cut_here}
use Rattle.kt_script.proofs.Runs.{rest_is, run_over, cut_all}
use Rattle.kt_script.proofs.word.cut_word.Goals as goal

pub bytes-init : goal.bytes-init
bytes-init c = record { within = omega arith; begins = cut_begins c.args.text.now }

pub returns-then-at-text : goal.returns-then-at-text
returns-then-at-text c =
    let run = c.run_end-at.ensures in
    cut_all c.args.text.now c.bytes.side c.run_end-at.result (omega arith) (run_over c.args.text.now c.bytes.side c.bytes.from c.run_end-at.result run.behind run.within run.quiet c.bytes.invariant.begins)

pub returns-then-ends_word : goal.returns-then-ends_word
returns-then-ends_word c =
    let text = c.args.text.now in
    let at = c.run_end-at.result in
    let run = c.run_end-at.ensures in
    let before = run_over text c.bytes.side c.bytes.from at run.behind run.within run.quiet c.bytes.invariant.begins in
    cut_here text at c.bytes.side (omega arith) before (sym c.ends_word.ensures ∙ c.if-ends_word.true) ∙ ap (λ rest. take at text ∷ words_of rest) (sym (rest_is (at + 1) text))

pub bytes-preserved : goal.bytes-preserved
bytes-preserved c =
    let text = c.args.text.now in
    let at = c.run_end-at.result in
    let run = c.run_end-at.ensures in
    let before = run_over text c.bytes.side c.bytes.from at run.behind run.within run.quiet c.bytes.invariant.begins in
    record {
      within = omega arith;
      begins = cut_more text at c.bytes.side c.side_after-side.result (omega arith) before (sym c.ends_word.ensures ∙ c.if-ends_word.false) c.side_after-side.ensures;
    }
