use Rattle.std.proofs.Common.{◌++◌, List, ℕ, arith, ap, ◌∙◌}
use Rattle.std.proofs.lemmas.List.{take_all}
use Rattle.kt_pool.specs.Contents.{bytes_at}
use Rattle.kt_memrowset.specs.Times.{changes_of}
use Rattle.kt_memrowset.specs.Links.{chain, steps_of}
use Rattle.kt_memrowset.proofs.chain.push_row.Goals as goal

-- the key is all that is placed there
pub returns : goal.returns
returns c =
    let all = bytes_at c.args.pool.now c.args.key.cell in
    let read = c.front-bytes.ensures ∙ take_all c.len-len.result all (omega (arith, c.len-len.ensures)) in
    c.in_ok-push_changes-2.ensures ∙ ap (λ (key : List ℕ). c.args.list.now ++ changes_of c.args.times key (steps_of (chain c.args.pool.now c.args.first))) read
