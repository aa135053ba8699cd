use Rattle.std.proofs.Common.{◌≡◌, ◌∙◌, ◌++◌, List, ap, sym, drop, true, refl}
use Rattle.kt_history.specs.declared.changes.KeyChange.{KeyChange}
use Rattle.kt_pool.specs.Contents.{bytes_at}
use Rattle.kt_memrowset.specs.Times.{in_times}
use Rattle.kt_memrowset.proofs.Listing.{listed_link, ends_in_added}
use Rattle.kt_memrowset.proofs.chain.push_change.Goals as goal

pub returns-in_ok-push_link-clause-list : goal.returns-in_ok-push_link-clause-list
returns-in_ok-push_link-clause-list c =
    let low : in_times c.args.times c.head_in-head.result.ts ≡ true = sym c.has.ensures ∙ c.if-has.true in
    c.in_ok-push_link.ensures ∙ ap (λ (xs : List KeyChange). c.args.list.now ++ xs)
    (listed_link c.args.pool.now c.args.cell c.args.times c.args.key.now (bytes_at c.args.pool.now c.args.cell) (drop 21 (bytes_at c.args.pool.now c.args.cell)) c.head_in-head.result c.requires.link refl refl c.head_in-head.ensures low)

pub returns-in_ok-push_link-clause-begun : goal.returns-in_ok-push_link-clause-begun
returns-in_ok-push_link-clause-begun c = λ _. ends_in_added c.args.list.now _ c.args.key.now _ c.in_ok-push_link.ensures refl
