use Rattle.std.proofs.Common.{◌≡◌, List, map, sym, ap, subst, ◌∙◌, arith, length}
use Rattle.std.specs.List.{position}
use Rattle.kt_memrowset.specs.Stores.{IsStore, store_of}
use Rattle.kt_stores.specs.Ranges.{AreRanged}
use Rattle.kt_stores.specs.Shelf.{StoresView, has_live, stores_of}
use Rattle.kt_stores.specs.Parts.{shelved}
use Rattle.kt_stores.proofs.Ordered.{frozen_stand, rowsets_stand, all_on}
use Rattle.kt_stores.proofs.Finding.{first_frozen, first_rowset, first_none}
use Rattle.kt_stores.proofs.stores.Stores.first.Goals as goal

pub first_live-requires : goal.first_live-requires
first_live-requires g c =
    let i = c.self.inside in
    all_on (λ s. IsStore s i.pool) i.frozen.items c.deref.result.now (sym c.deref.ensures.value) (frozen_stand i.active i.frozen.items i.rowsets.items g.R.RowStore.stands i.pool c.self.invariant.0.stand)

pub first_live-requires-in-None-clause-stand : goal.first_live-requires-in-None-clause-stand
first_live-requires-in-None-clause-stand g c =
    let i = c.self.inside in
    all_on (λ s. g.R.RowStore.stands s i.pool) i.rowsets.items c.deref-in-None.result.now (sym c.deref-in-None.ensures.value) (rowsets_stand i.active i.frozen.items i.rowsets.items g.R.RowStore.stands i.pool c.self.invariant.0.stand)

pub first_live-requires-in-None-clause-ranged : goal.first_live-requires-in-None-clause-ranged
first_live-requires-in-None-clause-ranged g c = subst (λ (rs : List g.row.R.Denot). AreRanged (map g.R.FileStore.files rs) c.self.inside.ranges) (sym c.deref-in-None.ensures.value) c.self.invariant.2

pub returns-in-Some-clause-first : goal.returns-in-Some-clause-first
returns-in-Some-clause-first g c =
    let r = g.R.RowStore in
    let i = c.self.inside in
    let old = ap (λ ss. position (λ s. has_live c.args.key.now (store_of s i.pool)) ss) (sym c.deref.ensures.value) ∙ sym c.in-Some.ensures in
    sym (ap (λ (v : StoresView). position (has_live c.args.key.now) (stores_of v)) (sym c.self.view_is)
    ∙ first_frozen (shelved r.target r.store r.is_closed r.cells) i.pool c.args.key.now i.active i.frozen.items i.rowsets.items c.in-Some.at (sym c.live.ensures ∙ c.if-live.false) old)

pub returns-in_err-at-in-None-clause-first : goal.returns-in_err-at-in-None-clause-first
returns-in_err-at-in-None-clause-first g c =
    let r = g.R.RowStore in
    let i = c.self.inside in
    let old = ap (λ ss. position (λ s. has_live c.args.key.now (store_of s i.pool)) ss) (sym c.deref.ensures.value) ∙ sym c.in-None.ensures in
    let new = ap (λ ss. position (λ s. has_live c.args.key.now (r.store s i.pool)) ss) (sym c.deref-in-None.ensures.value) ∙ sym c.in_err-at-in-None.ensures.first in
    c.from_residual.ensures
    ∙ sym (ap (λ (v : StoresView). position (has_live c.args.key.now) (stores_of v)) (sym c.self.view_is)
    ∙ first_none (shelved r.target r.store r.is_closed r.cells) i.pool c.args.key.now i.active i.frozen.items i.rowsets.items (sym c.live.ensures ∙ c.if-live.false) old new)

pub returns-in_ok-at-in-None-clause-first : goal.returns-in_ok-at-in-None-clause-first
returns-in_ok-at-in-None-clause-first g c =
    let r = g.R.RowStore in
    let i = c.self.inside in
    let old = ap (λ ss. position (λ s. has_live c.args.key.now (store_of s i.pool)) ss) (sym c.deref.ensures.value) ∙ sym c.in-None.ensures in
    let new = ap (λ ss. position (λ s. has_live c.args.key.now (r.store s i.pool)) ss) (sym c.deref-in-None.ensures.value) ∙ sym c.in_ok-at-in-None.ensures.first in
    let count : c.len.result ≡ length c.self.inside.frozen.items = omega (arith, i.frozen.ok) in
    sym (ap (λ (v : StoresView). position (has_live c.args.key.now) (stores_of v)) (sym c.self.view_is)
    ∙ first_rowset (shelved r.target r.store r.is_closed r.cells) i.pool c.args.key.now i.active i.frozen.items i.rowsets.items c.len.result c.in_ok-at-in-None.at count (sym c.live.ensures ∙ c.if-live.false) old new)
