use Rattle.std.proofs.Common.{◌-◌, ◌<◌, ◌^◌, ◌++◌, length, length-append, drop, get_or, map, sym, ap, ◌∙◌, append_assoc, arith}
use Rattle.std.specs.Fmt.{decimal}
use Rattle.std.specs.List.{flat_map}
use Rattle.kt_script.specs.Texts.{spaced}
use Rattle.kt_script.proofs.WrittenNumbers.{digits_fit, one_before}
use Rattle.kt_script.proofs.number.write_numbers.Goals as goal

pub numbers-preserved : goal.numbers-preserved
numbers-preserved c =
    let numbers = c.args.numbers.now in
    let at = c.numbers.left - 1 in
    let number = get_or numbers at 0 in
    let told = spaced (decimal number) in
    let behind = flat_map spaced (map decimal (drop c.numbers.left numbers)) in
    let more = one_before numbers at c.numbers.left (omega arith) c.numbers.invariant.few in
    let fits : number < 2 ^ 64 = (c.type_inv.numbers at).fits in
    let short = digits_fit number fits in
    record {
      few = omega (arith, c.numbers.invariant.few);
      room = omega (arith, short, c.write_spaced-at.ensures.start, c.numbers.invariant.room);
      within = omega (arith, c.write_spaced-at.ensures.start, c.numbers.invariant.within);
      start = omega (arith, ap length more, length-append told behind, c.write_spaced-at.ensures.start, c.numbers.invariant.start);
      written = c.write_spaced-at.ensures.written ∙ (ap (λ xs. told ++ xs) c.numbers.invariant.written ∙ (sym (append_assoc told behind (drop c.args.end c.args.text.now)) ∙ ap (λ xs. xs ++ drop c.args.end c.args.text.now) (sym more)));
    }
