use Rattle.std.proofs.Common.{◌≡◌, ◌+◌, ◌<◌, ◌^◌, ◌∙◌, ap, sym, subst, length, get_or, arith, [], ◌∷◌, ◌++◌}
use Rattle.std.specs.List.{All}
use Rattle.std.proofs.lemmas.List.{get_or_read, length_push}
use Rattle.kt_policy.proofs.Sets.{blank}
use Rattle.kt_policy.proofs.Rows.{sums_small, part_begins, part_grows, same_next}
use Rattle.kt_policy.proofs.filling.part_of.Goals as goal

pub loop-k-init : goal.loop-k-init
loop-k-init c =
    let items : c.push.new.self.items ≡ c.of.result ∷ [] = c.in_ok-push.ensures.items ∙ ap (λ xs. xs ++ c.of.result ∷ []) c.in_ok-rows.ensures.items in
    record { count = ap length items; rows_are = part_begins c.args.part.now c.args.budget c.push.new.self.items c.of.result items (c.of.ensures ∙ c.in_ok-vec.ensures.items_if_clones_equal (λ y e. e)) }

pub next_row-requires-clause-small : goal.next_row-requires-clause-small
next_row-requires-clause-small c =
    let row : c.as_slice.result.now ≡ get_or c.loop-k.rows.items c.loop-k.k [] = c.as_slice.ensures ∙ get_or_read c.loop-k.rows.items c.loop-k.k c.index.result.now (omega (arith, c.loop-k.invariant.count)) c.index.ensures [] in
    subst (All (λ n. n < 2 ^ 31)) (sym row) (sums_small c.args.part.now c.args.budget c.loop-k.k (get_or c.loop-k.rows.items c.loop-k.k []) c.requires.are (omega arith) (c.loop-k.invariant.rows_are c.loop-k.k (omega arith)))

pub loop-k-preserved : goal.loop-k-preserved
loop-k-preserved c =
    let items : c.push-in-loop-k.new.self.items ≡ c.loop-k.rows.items ++ c.of-in-loop-k.result ∷ [] = c.in_ok-push-2.ensures.items in
    record {
      count = ap length items ∙ length_push c.loop-k.rows.items c.of-in-loop-k.result ∙ ap (λ n. n + 1) c.loop-k.invariant.count;
      rows_are = part_grows c.args.part.now c.args.budget c.loop-k.k blank c.loop-k.rows.items c.push-in-loop-k.new.self.items c.index.result.now c.of-in-loop-k.result c.requires.are (omega arith)
          c.loop-k.invariant.count c.loop-k.invariant.rows_are c.index.ensures (same_next (get_or c.args.part.now c.loop-k.k blank) c.as_slice.result.now c.in_ok-next.next.items c.index.result.now c.of-in-loop-k.result c.as_slice.ensures (sym c.of-in-loop-k.ensures) c.in_ok-next.ensures) items;
    }
