use Rattle.std.proofs.Common.{arith, sym, ap, ◌∙◌, ◌-◌, get_or}
use Rattle.kt_rowtree.specs.declared.links.Link.{Link}
use Rattle.kt_rowtree.specs.declared.lists.Range.{Range}
use Rattle.kt_rowtree.specs.Ranges.{is_upto}
use Rattle.kt_rowtree.proofs.Found.{read_at}
use Rattle.kt_rowtree.proofs.Linked.{far_early, near_early}
use Rattle.kt_rowtree.proofs.search.past.Goals as goal

pub returns-then-not-ends_from-clause-early : goal.returns-then-not-ends_from-clause-early
returns-then-not-ends_from-clause-early c =
    let q = c.requires in
    let none : Link = record { near = 0; far = 0; hops = 0 } in
    let link = get_or c.args.links.now (c.args.at - 1) none in
    let is = q.links (c.args.at - 1) none (omega (arith, q.some, q.inside, q.all)) in
    let back = is.back in
    let farther = is.farther in
    let r = c.index-ranges-link in
    far_early c.args.key.now c.args.ranges.now link.far c.args.at c.if-link-gt0.true (λ j d some from to. is.front j d some from (omega (arith, to)))
    (λ d. ap (λ (r : Range). is_upto c.args.key.now r.greatest) (read_at c.args.ranges.now (link.far - 1) r.result d (omega (arith, q.some, q.inside)) r.is) ∙ sym c.if-not-ends_from.ensures)

pub returns-clause-early : goal.returns-clause-early
returns-clause-early c =
    let q = c.requires in
    let is = q.links (c.args.at - 1) (record { near = 0; far = 0; hops = 0 }) (omega (arith, q.some, q.inside, q.all)) in
    near_early c.args.key.now c.args.ranges.now _ c.args.at q.some is.last q.early
