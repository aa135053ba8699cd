use Rattle.std.proofs.Common.{◌≡◌, ap, refl, sym, subst, ◌∙◌, Option}
use Rattle.std.specs.Prelude.{IfSome, is_some}
use Rattle.kt_pool.specs.declared.place.Place.{Place}
use Rattle.kt_memrowset.specs.declared.link.Head.{Head}
use Rattle.kt_memrowset.specs.Links.{chain}
use Rattle.kt_memrowset.specs.Stores.{RowStands, hist_of}
use Rattle.kt_history.specs.Stores.{last_row}
use Rattle.kt_memrowset.specs.Taking.{links_from}
use Rattle.kt_memrowset.proofs.Rows.{last_stands, link_long, live_is}
use Rattle.kt_memrowset.proofs.chain.is_live.Goals as goal

pub head_in-requires : goal.head_in-requires
head_in-requires c =
    let row = subst (λ (o : Option Place). IfSome o (λ first. RowStands c.args.pool.now first.cell (chain c.args.pool.now first.cell))) c.in-Some.is c.requires in
    link_long c.args.pool.now c.last_of.result (last_stands c.args.pool.now c.in-Some.first.cell c.last_of.result row c.last_of.ensures)

pub returns-in-Some : goal.returns-in-Some
returns-in-Some c =
    let row = subst (λ (o : Option Place). IfSome o (λ first. RowStands c.args.pool.now first.cell (chain c.args.pool.now first.cell))) c.in-Some.is c.requires in
    subst (λ (o : Option Place). c.stays.result ≡ is_some (last_row (hist_of (links_from c.args.pool.now o)))) (sym c.in-Some.is) (
    c.stays.ensures ∙ live_is c.args.pool.now c.in-Some.first.cell c.last_of.result (hist_of (chain c.args.pool.now c.in-Some.first.cell)) c.head_in.result.kind row refl c.last_of.ensures (ap (λ (x : Head). x.kind) c.head_in.ensures))
