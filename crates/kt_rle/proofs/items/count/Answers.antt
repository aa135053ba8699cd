use Rattle.std.proofs.Common.{◌∙◌, ◌-◌, ap, sym, arith, length}
use Rattle.std.proofs.lemmas.Option.{get_or_from_slice_get, slice_get_within}
use Rattle.kt_rle.specs.declared.runs.Held.{Held}
use Rattle.kt_rle.proofs.Held.{end_at_last, length-numbers_of}
use Rattle.kt_rle.proofs.items.count.Goals as goal

pub returns-in-Some : goal.returns-in-Some
returns-in-Some c =
    let hs = c.args.runs.now in
    let h : Held = c.in-Some.run'.now in
    let at = get_or_from_slice_get hs (length hs - 1) h h (sym c.in-Some.ensures.value) in
    let lt = slice_get_within hs (length hs - 1) h (sym c.in-Some.ensures.value) in
    ap (λ (x : Held). x.end) (sym at) ∙ end_at_last 0 hs h (omega arith) ∙ sym (length-numbers_of hs c.requires.rise)
