use Rattle.std.proofs.Common.{◌≡◌, ◌<◌, ◌^◌, ◌∙◌, List, ℕ, ap, sym, subst, arith, refl}
use Rattle.kt_history.specs.Stores.{step_at}
use Rattle.kt_tree.specs.Entries.{value_of, put}
use Rattle.kt_tree.specs.Takes.{Takes}
use Rattle.kt_tree.specs.Trees.{entries, need}
use Rattle.kt_dms.specs.Keys.{key_of}
use Rattle.kt_dms.specs.Stores.{deltas_of, steps_for, Joins}
use Rattle.kt_dms.proofs.Joining.{store1, entries1, seat1, joins, step_there, value_none, match_some, match_none}
use Rattle.kt_dms.proofs.store.DeltaMem.apply_reserved.Goals as goal

pub returns-then-is_some-clause-joins : goal.returns-then-is_some-clause-joins
returns-then-is_some-clause-joins c =
    let small : c.args.ordinal < 2 ^ 32 = omega arith in
    let low : c.args.ts < 2 ^ 64 = omega arith in
    let there = step_there c.args.self.now.tree c.args.pool.now c.args.ordinal c.args.ts small low c.requires.store c.seek-seat.result.value c.key_of-key.result c.key_of-key.ensures c.seek-seat.ensures.value in
    match_some (step_at c.args.ts (steps_for c.args.ordinal (deltas_of c.args.self.now c.args.pool.now))) _ _ (there ∙ sym c.is_some.ensures ∙ c.if-is_some.true) (λ _. (refl, refl))

pub insert_at-requires-clause-tree : goal.insert_at-requires-clause-tree
insert_at-requires-clause-tree c =
    (store1 c.args.self.now c.args.pool.now c.place-fresh.new.pool c.place-fresh.result.cell c.args.ordinal c.args.ts c.args.op.now c.args.change c.requires.store c.place-fresh.ensures.vacant c.place-fresh.ensures.others).tree

pub insert_at-requires-clause-seat : goal.insert_at-requires-clause-seat
insert_at-requires-clause-seat c =
    seat1 c.args.self.now c.args.pool.now c.place-fresh.new.pool c.place-fresh.result.cell c.args.ordinal c.args.ts c.args.op.now c.args.change c.requires.store c.place-fresh.ensures.vacant c.place-fresh.ensures.others
    c.key_of-key.result c.seek-seat.result c.seek-seat.ensures.seat

pub insert_at-requires-clause-absent : goal.insert_at-requires-clause-absent
insert_at-requires-clause-absent c =
    let small : c.args.ordinal < 2 ^ 32 = omega arith in
    let low : c.args.ts < 2 ^ 64 = omega arith in
    ap (λ (k : List ℕ). value_of k (entries c.args.self.now.tree c.place-fresh.new.pool)) c.key_of-key.ensures
    ∙ ap (value_of (key_of c.args.ordinal c.args.ts)) (entries1 c.args.self.now c.args.pool.now c.place-fresh.new.pool c.place-fresh.result.cell c.args.ordinal c.args.ts c.args.op.now c.args.change c.requires.store c.place-fresh.ensures.vacant c.place-fresh.ensures.others)
    ∙ value_none c.args.self.now.tree c.args.pool.now c.args.ordinal c.args.ts small low c.requires.store c.seek-seat.result.value c.key_of-key.result c.key_of-key.ensures c.seek-seat.ensures.value (sym c.is_some.ensures ∙ c.if-is_some.false)

-- with the change that has joined it
joined : (c : goal.After-insert_at) → Joins c.args.self.now (record { id = c.args.self.now.id; tree = c.insert_at.new.self }) c.args.pool.now c.insert_at.new.pool c.args.ordinal c.args.ts c.args.op.now c.args.change
joined c =
    let small : c.args.ordinal < 2 ^ 32 = omega arith in
    let low : c.args.ts < 2 ^ 64 = omega arith in
    let p = c.place-fresh in
    let none =
    ap (value_of (key_of c.args.ordinal c.args.ts)) (entries1 c.args.self.now c.args.pool.now p.new.pool p.result.cell c.args.ordinal c.args.ts c.args.op.now c.args.change c.requires.store p.ensures.vacant p.ensures.others)
    ∙ value_none c.args.self.now.tree c.args.pool.now c.args.ordinal c.args.ts small low c.requires.store c.seek-seat.result.value c.key_of-key.result c.key_of-key.ensures c.seek-seat.ensures.value (sym c.is_some.ensures ∙ c.if-is_some.false) in
    joins c.args.self.now c.args.pool.now p.new.pool p.result.cell c.args.ordinal c.args.ts c.args.op.now c.args.change c.requires.store p.ensures.vacant p.ensures.others
    p.ensures.spells p.ensures.change p.ensures.long p.ensures.takes small low none
    (record { id = c.args.self.now.id; tree = c.insert_at.new.self }) c.insert_at.new.pool refl c.insert_at.ensures.tree
    (subst (λ (k : List ℕ). entries c.insert_at.new.self c.insert_at.new.pool ≡ put k p.result.cell (entries c.args.self.now.tree p.new.pool)) c.key_of-key.ensures c.insert_at.ensures.put)
    c.insert_at.ensures.keeps c.insert_at.ensures.grows c.insert_at.ensures.frame
    (subst (λ (k : List ℕ). Takes p.new.pool c.insert_at.new.pool (need k)) c.key_of-key.ensures c.insert_at.ensures.takes)

pub returns-clause-store : goal.returns-clause-store
returns-clause-store c = (joined c).stands

pub returns-clause-joins : goal.returns-clause-joins
returns-clause-joins c =
    let small : c.args.ordinal < 2 ^ 32 = omega arith in
    let low : c.args.ts < 2 ^ 64 = omega arith in
    let there = step_there c.args.self.now.tree c.args.pool.now c.args.ordinal c.args.ts small low c.requires.store c.seek-seat.result.value c.key_of-key.result c.key_of-key.ensures c.seek-seat.ensures.value in
    match_none (step_at c.args.ts (steps_for c.args.ordinal (deltas_of c.args.self.now c.args.pool.now))) _ _ (there ∙ sym c.is_some.ensures ∙ c.if-is_some.false) (joined c)
