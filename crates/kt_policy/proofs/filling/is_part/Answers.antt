use Rattle.std.proofs.Common.{◌≡◌, ◌+◌, ◌<◌, ◌^◌, ◌∙◌, sym, subst, get_or, arith, []}
use Rattle.std.specs.List.{All}
use Rattle.std.proofs.lemmas.List.{get_or_read}
use Rattle.kt_policy.proofs.Sets.{blank}
use Rattle.kt_policy.proofs.Rows.{sums_small, part_refused, part_goes_on}
use Rattle.kt_policy.proofs.filling.is_part.Goals as goal

pub is_next_row-requires-clause-small : goal.is_next_row-requires-clause-small
is_next_row-requires-clause-small c =
    let row : c.as_slice-in-loop-k.result.now ≡ get_or c.args.rows.now c.loop-k.k [] = c.as_slice-in-loop-k.ensures ∙ get_or_read c.args.rows.now c.loop-k.k c.index-rows-k.result (omega arith) c.index-rows-k.is [] in
    subst (All (λ n. n < 2 ^ 31)) (sym row) (sums_small c.args.part.now c.args.budget c.loop-k.k (get_or c.args.rows.now c.loop-k.k []) c.requires.are (omega arith) (c.loop-k.invariant.rows_are c.loop-k.k (omega arith)))

pub returns-then-not-is_next_row : goal.returns-then-not-is_next_row
returns-then-not-is_next_row c = (
  λ never. cc,
  part_refused c.args.part.now c.args.budget c.loop-k.k blank c.args.rows.now c.as_slice-in-loop-k.result.now c.as_slice-in-loop-k-2.result.now c.is_next_row.result
      c.requires.are (omega arith) c.loop-k.invariant.rows_are
      (c.as_slice-in-loop-k.ensures ∙ get_or_read c.args.rows.now c.loop-k.k c.index-rows-k.result (omega arith) c.index-rows-k.is [])
      (c.as_slice-in-loop-k-2.ensures ∙ get_or_read c.args.rows.now (c.loop-k.k + 1) c.index-rows-k-in-loop-k.result (omega (arith, c.loop-k.invariant.count)) c.index-rows-k-in-loop-k.is [])
      c.is_next_row.ensures.1 c.if-not-is_next_row.true,
)

pub loop-k-preserved : goal.loop-k-preserved
loop-k-preserved c = record {
  count = c.loop-k.invariant.count;
  rows_are = part_goes_on c.args.part.now c.args.budget c.loop-k.k blank c.args.rows.now c.as_slice-in-loop-k.result.now c.as_slice-in-loop-k-2.result.now
      c.requires.are (omega arith) c.loop-k.invariant.rows_are
      (c.as_slice-in-loop-k.ensures ∙ get_or_read c.args.rows.now c.loop-k.k c.index-rows-k.result (omega arith) c.index-rows-k.is [])
      (c.as_slice-in-loop-k-2.ensures ∙ get_or_read c.args.rows.now (c.loop-k.k + 1) c.index-rows-k-in-loop-k.result (omega (arith, c.loop-k.invariant.count)) c.index-rows-k-in-loop-k.is [])
      (c.is_next_row.ensures.0 c.if-not-is_next_row.false);
}
