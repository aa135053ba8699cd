use Rattle.std.proofs.Common.{◌≡◌, ℕ, List, refl, sym, ap, subst, ◌∙◌}
use Rattle.kt_history.specs.Rows.{Row}
use Rattle.kt_history.specs.declared.target.Kindly.{Kindly}
use Rattle.kt_tree.specs.Entries.{value_of, put}
use Rattle.kt_tree.specs.Takes.{Takes}
use Rattle.kt_tree.specs.Trees.{IsSeat, entries, need}
use Rattle.kt_memrowset.specs.Links.{nothing, Link, chain}
use Rattle.kt_memrowset.specs.Writes.{IsFresh, Extends}
use Rattle.kt_memrowset.proofs.Links.{link_again}
use Rattle.kt_memrowset.proofs.Rows.{row_there, row_alone}
use Rattle.kt_memrowset.proofs.Applying.{store1, seat1, found1, lacks1, is_fresh, joins_there, joins_new}
use Rattle.kt_memrowset.proofs.store.MemRowSet.join.Goals as goal

-- the change with which the store is joined, which has none beside it yet
abbrev alone : ℕ → ℕ → ℕ → Kindly → Row → Link
alone cell before ts kind cells = record { cell = cell; head = record { next = nothing; last = nothing; before = before; ts = ts; kind = kind }; cells = cells }

pub extend-requires-clause-row : goal.extend-requires-clause-row
extend-requires-clause-row c = row_there c.args.self.now c.place-fresh.new.pool c.args.op.now.key c.in-Some.first.cell (store1 c.args.self.now c.args.pool.now c.place-fresh.new.pool (alone c.place-fresh.result c.args.self.now.newest c.args.ts c.args.change c.args.op.now.cells) c.args.op.now c.requires.store c.place-fresh.ensures.vacant c.place-fresh.ensures.others c.place-fresh.ensures.link refl refl c.place-fresh.ensures.takes) (found1 c.args.self.now c.args.pool.now c.place-fresh.new.pool (alone c.place-fresh.result c.args.self.now.newest c.args.ts c.args.change c.args.op.now.cells) c.args.op.now c.requires.store c.place-fresh.ensures.vacant c.place-fresh.ensures.others c.place-fresh.ensures.link refl refl c.place-fresh.ensures.takes c.in-Some.first (sym c.in-Some.is ∙ c.requires.found))

pub extend-requires-clause-alone : goal.extend-requires-clause-alone
extend-requires-clause-alone c = row_alone c.args.self.now c.place-fresh.new.pool c.args.op.now.key c.in-Some.first.cell (store1 c.args.self.now c.args.pool.now c.place-fresh.new.pool (alone c.place-fresh.result c.args.self.now.newest c.args.ts c.args.change c.args.op.now.cells) c.args.op.now c.requires.store c.place-fresh.ensures.vacant c.place-fresh.ensures.others c.place-fresh.ensures.link refl refl c.place-fresh.ensures.takes) (found1 c.args.self.now c.args.pool.now c.place-fresh.new.pool (alone c.place-fresh.result c.args.self.now.newest c.args.ts c.args.change c.args.op.now.cells) c.args.op.now c.requires.store c.place-fresh.ensures.vacant c.place-fresh.ensures.others c.place-fresh.ensures.link refl refl c.place-fresh.ensures.takes c.in-Some.first (sym c.in-Some.is ∙ c.requires.found))

pub extend-requires-clause-link : goal.extend-requires-clause-link
extend-requires-clause-link c =
    subst (λ (l : Link). IsFresh c.place-fresh.new.pool (chain c.place-fresh.new.pool c.in-Some.first.cell) l) (sym (link_again c.place-fresh.new.pool (alone c.place-fresh.result c.args.self.now.newest c.args.ts c.args.change c.args.op.now.cells) c.place-fresh.ensures.link))
    (is_fresh c.args.self.now c.args.pool.now c.place-fresh.new.pool (alone c.place-fresh.result c.args.self.now.newest c.args.ts c.args.change c.args.op.now.cells) c.args.op.now c.requires.store c.place-fresh.ensures.vacant c.place-fresh.ensures.others c.place-fresh.ensures.link refl refl c.place-fresh.ensures.takes c.requires.fits refl refl c.in-Some.first.cell (found1 c.args.self.now c.args.pool.now c.place-fresh.new.pool (alone c.place-fresh.result c.args.self.now.newest c.args.ts c.args.change c.args.op.now.cells) c.args.op.now c.requires.store c.place-fresh.ensures.vacant c.place-fresh.ensures.others c.place-fresh.ensures.link refl refl c.place-fresh.ensures.takes c.in-Some.first (sym c.in-Some.is ∙ c.requires.found)))

pub returns-in-Some-clause-joins : goal.returns-in-Some-clause-joins
returns-in-Some-clause-joins c =
    joins_there c.args.self.now c.args.pool.now c.place-fresh.new.pool (alone c.place-fresh.result c.args.self.now.newest c.args.ts c.args.change c.args.op.now.cells) c.args.op.now c.requires.store c.place-fresh.ensures.vacant c.place-fresh.ensures.others c.place-fresh.ensures.link refl refl c.place-fresh.ensures.takes c.requires.fits refl refl c.in-Some.first.cell (found1 c.args.self.now c.args.pool.now c.place-fresh.new.pool (alone c.place-fresh.result c.args.self.now.newest c.args.ts c.args.change c.args.op.now.cells) c.args.op.now c.requires.store c.place-fresh.ensures.vacant c.place-fresh.ensures.others c.place-fresh.ensures.link refl refl c.place-fresh.ensures.takes c.in-Some.first (sym c.in-Some.is ∙ c.requires.found)) c.extend.new.pool
    (subst (λ (l : Link). Extends c.place-fresh.new.pool c.extend.new.pool c.in-Some.first.cell (chain c.place-fresh.new.pool c.in-Some.first.cell) l) (link_again c.place-fresh.new.pool (alone c.place-fresh.result c.args.self.now.newest c.args.ts c.args.change c.args.op.now.cells) c.place-fresh.ensures.link) c.extend.ensures)

pub insert_at-requires-clause-tree : goal.insert_at-requires-clause-tree
insert_at-requires-clause-tree c = (store1 c.args.self.now c.args.pool.now c.place-fresh.new.pool (alone c.place-fresh.result c.args.self.now.newest c.args.ts c.args.change c.args.op.now.cells) c.args.op.now c.requires.store c.place-fresh.ensures.vacant c.place-fresh.ensures.others c.place-fresh.ensures.link refl refl c.place-fresh.ensures.takes).tree

pub returns-clause-joins : goal.returns-clause-joins
returns-clause-joins c =
    joins_new c.args.self.now c.args.pool.now c.place-fresh.new.pool (alone c.place-fresh.result c.args.self.now.newest c.args.ts c.args.change c.args.op.now.cells) c.args.op.now c.requires.store c.place-fresh.ensures.vacant c.place-fresh.ensures.others c.place-fresh.ensures.link refl refl c.place-fresh.ensures.takes c.requires.fits refl refl (lacks1 c.args.self.now c.args.pool.now c.place-fresh.new.pool (alone c.place-fresh.result c.args.self.now.newest c.args.ts c.args.change c.args.op.now.cells) c.args.op.now c.requires.store c.place-fresh.ensures.vacant c.place-fresh.ensures.others c.place-fresh.ensures.link refl refl c.place-fresh.ensures.takes (sym c.in_default.is ∙ c.requires.found)) c.insert_at.new.self c.insert_at.new.pool c.insert_at.ensures.tree
    (subst (λ (k : List ℕ). entries c.insert_at.new.self c.insert_at.new.pool ≡ put k c.place-fresh.result (entries c.args.self.now.tree c.place-fresh.new.pool)) c.key.ensures c.insert_at.ensures.put)
    c.insert_at.ensures.keeps c.insert_at.ensures.grows c.insert_at.ensures.frame
    (subst (λ (k : List ℕ). Takes c.place-fresh.new.pool c.insert_at.new.pool (need k)) c.key.ensures c.insert_at.ensures.takes)

pub insert_at-requires-clause-absent : goal.insert_at-requires-clause-absent
insert_at-requires-clause-absent c = ap (λ (k : List ℕ). value_of k (entries c.args.self.now.tree c.place-fresh.new.pool)) c.key.ensures ∙ lacks1 c.args.self.now c.args.pool.now c.place-fresh.new.pool (alone c.place-fresh.result c.args.self.now.newest c.args.ts c.args.change c.args.op.now.cells) c.args.op.now c.requires.store c.place-fresh.ensures.vacant c.place-fresh.ensures.others c.place-fresh.ensures.link refl refl c.place-fresh.ensures.takes (sym c.in_default.is ∙ c.requires.found)

pub insert_at-requires-clause-seat : goal.insert_at-requires-clause-seat
insert_at-requires-clause-seat c =
    subst (λ (k : List ℕ). IsSeat c.args.self.now.tree c.place-fresh.new.pool k c.args.seat.now) (sym c.key.ensures)
    (seat1 c.args.self.now c.args.pool.now c.place-fresh.new.pool (alone c.place-fresh.result c.args.self.now.newest c.args.ts c.args.change c.args.op.now.cells) c.args.op.now c.requires.store c.place-fresh.ensures.vacant c.place-fresh.ensures.others c.place-fresh.ensures.link refl refl c.place-fresh.ensures.takes c.args.op.now.key c.args.seat.now c.requires.seat)
