use Rattle.std.proofs.Common.{arith, ◌≡◌, ◌+◌, refl, List, ℕ, Option, Some, None, subst}
use Rattle.std.specs.List.{find}
use Rattle.std.specs.Option.{option_map}
use Rattle.kt_pool.specs.Contents.{Contents}
use Rattle.kt_tree.specs.Shapes.{nothing, head_of, IsNode}
use Rattle.kt_tree.specs.Entries.{Entry, is_at, value_of}
use Rattle.kt_tree.specs.Trees.{shape_of, entries}
use Rattle.kt_tree.specs.Changes.{IsAbsent}
use Rattle.kt_tree.specs.declared.node.Head.{Head}
use Rattle.kt_tree.proofs.Trees.{stands_by, fewer_keys, grown_tree, grown_entries, grown_takes, grown_stays, grown_placed, grown_keeps, grown_grows, grown_frame}
use Rattle.kt_tree.proofs.Ways.{one_form, seat_form}
use Rattle.kt_tree.proofs.tree.Tree.insert_at.Goals as goal

-- no entry has the key
absent : (key : List ℕ) (es : List Entry) → value_of key es ≡ None → IsAbsent key es
absent key es e = none_found (find (is_at key) es) e
  where
    none_found : (found : Option Entry) → option_map (λ (e : Entry). e.value) found ≡ None → found ≡ None
    none_found None e = refl
    none_found (Some x) e = absurd cc

-- the node says how its key begins
headed : (pool : Contents) (cell at v : ℕ) (head : Head) (key : List ℕ) → head ≡ head_of key → IsNode pool cell (record { left = nothing; right = nothing; key = at; value = v; head = head }) → IsNode pool cell (record { left = nothing; right = nothing; key = at; value = v; head = head_of key })
headed pool cell at v head key e h = let P : Head → Type 0 = λ head. IsNode pool cell (record { left = nothing; right = nothing; key = at; value = v; head = head }) in subst P e h

pub hang-self-requires-clause-beside : goal.hang-self-requires-clause-beside
hang-self-requires-clause-beside c = (shape_of c.args.self.now c.args.pool.now, c.place-at.result.cell, c.args.value.cell, stands_by c.args.pool.now c.args.pool.now c.place-at.new.self c.place-fresh.new.pool c.args.self.now c.args.key.now c.args.value.cell c.place-at.result.cell c.place-fresh.result c.requires.tree (absent c.args.key.now (entries c.args.self.now c.args.pool.now) c.requires.absent) refl c.place-at.ensures.vacant c.place-at.ensures.inside c.place-at.ensures.placed c.place-fresh.ensures.vacant c.place-fresh.ensures.others c.place-fresh.ensures.takes (headed c.place-fresh.new.pool c.place-fresh.result c.place-at.result.cell c.args.value.cell c.args.seat.now.head c.args.key.now c.requires.seat.head c.place-fresh.ensures.node) (λ i. omega (arith, c.type_inv.key i)))

pub hang-self-requires-clause-seat : goal.hang-self-requires-clause-seat
hang-self-requires-clause-seat c s t = seat_form (shape_of c.args.self.now c.args.pool.now) s c.args.key.now c.args.seat.now (one_form c.place-fresh.new.pool c.args.self.now.root (shape_of c.args.self.now c.args.pool.now) s (stands_by c.args.pool.now c.args.pool.now c.place-at.new.self c.place-fresh.new.pool c.args.self.now c.args.key.now c.args.value.cell c.place-at.result.cell c.place-fresh.result c.requires.tree (absent c.args.key.now (entries c.args.self.now c.args.pool.now) c.requires.absent) refl c.place-at.ensures.vacant c.place-at.ensures.inside c.place-at.ensures.placed c.place-fresh.ensures.vacant c.place-fresh.ensures.others c.place-fresh.ensures.takes (headed c.place-fresh.new.pool c.place-fresh.result c.place-at.result.cell c.args.value.cell c.args.seat.now.head c.args.key.now c.requires.seat.head c.place-fresh.ensures.node) (λ i. omega (arith, c.type_inv.key i))).lacks.tree t) c.requires.seat

pub prove-unreachable-requires : goal.prove-unreachable-requires
prove-unreachable-requires c = let few = fewer_keys c.args.pool.now c.args.pool.now c.place-at.new.self c.place-fresh.new.pool c.args.self.now c.args.key.now c.args.value.cell c.place-at.result.cell c.place-fresh.result c.requires.tree (absent c.args.key.now (entries c.args.self.now c.args.pool.now) c.requires.absent) refl c.place-at.ensures.vacant c.place-at.ensures.inside c.place-at.ensures.placed c.place-fresh.ensures.vacant c.place-fresh.ensures.others c.place-fresh.ensures.takes (headed c.place-fresh.new.pool c.place-fresh.result c.place-at.result.cell c.args.value.cell c.args.seat.now.head c.args.key.now c.requires.seat.head c.place-fresh.ensures.node) (λ i. omega (arith, c.type_inv.key i)) c.hang-self.new.pool (record { root = c.hang-self.result; count = c.args.self.now.count + 1 }) (c.hang-self.ensures (shape_of c.args.self.now c.args.pool.now) c.place-at.result.cell c.args.value.cell (stands_by c.args.pool.now c.args.pool.now c.place-at.new.self c.place-fresh.new.pool c.args.self.now c.args.key.now c.args.value.cell c.place-at.result.cell c.place-fresh.result c.requires.tree (absent c.args.key.now (entries c.args.self.now c.args.pool.now) c.requires.absent) refl c.place-at.ensures.vacant c.place-at.ensures.inside c.place-at.ensures.placed c.place-fresh.ensures.vacant c.place-fresh.ensures.others c.place-fresh.ensures.takes (headed c.place-fresh.new.pool c.place-fresh.result c.place-at.result.cell c.args.value.cell c.args.seat.now.head c.args.key.now c.requires.seat.head c.place-fresh.ensures.node) (λ i. omega (arith, c.type_inv.key i)))) in omega (arith, few)

pub returns-clause-tree : goal.returns-clause-tree
returns-clause-tree c = grown_tree c.args.pool.now c.args.pool.now c.place-at.new.self c.place-fresh.new.pool c.args.self.now c.args.key.now c.args.value.cell c.place-at.result.cell c.place-fresh.result c.requires.tree (absent c.args.key.now (entries c.args.self.now c.args.pool.now) c.requires.absent) refl c.place-at.ensures.vacant c.place-at.ensures.inside c.place-at.ensures.placed c.place-fresh.ensures.vacant c.place-fresh.ensures.others c.place-fresh.ensures.takes (headed c.place-fresh.new.pool c.place-fresh.result c.place-at.result.cell c.args.value.cell c.args.seat.now.head c.args.key.now c.requires.seat.head c.place-fresh.ensures.node) (λ i. omega (arith, c.type_inv.key i)) c.hang-self.new.pool (record { root = c.hang-self.result; count = c.args.self.now.count + 1 }) (c.hang-self.ensures (shape_of c.args.self.now c.args.pool.now) c.place-at.result.cell c.args.value.cell (stands_by c.args.pool.now c.args.pool.now c.place-at.new.self c.place-fresh.new.pool c.args.self.now c.args.key.now c.args.value.cell c.place-at.result.cell c.place-fresh.result c.requires.tree (absent c.args.key.now (entries c.args.self.now c.args.pool.now) c.requires.absent) refl c.place-at.ensures.vacant c.place-at.ensures.inside c.place-at.ensures.placed c.place-fresh.ensures.vacant c.place-fresh.ensures.others c.place-fresh.ensures.takes (headed c.place-fresh.new.pool c.place-fresh.result c.place-at.result.cell c.args.value.cell c.args.seat.now.head c.args.key.now c.requires.seat.head c.place-fresh.ensures.node) (λ i. omega (arith, c.type_inv.key i)))) refl

pub returns-clause-put : goal.returns-clause-put
returns-clause-put c = grown_entries c.args.pool.now c.args.pool.now c.place-at.new.self c.place-fresh.new.pool c.args.self.now c.args.key.now c.args.value.cell c.place-at.result.cell c.place-fresh.result c.requires.tree (absent c.args.key.now (entries c.args.self.now c.args.pool.now) c.requires.absent) refl c.place-at.ensures.vacant c.place-at.ensures.inside c.place-at.ensures.placed c.place-fresh.ensures.vacant c.place-fresh.ensures.others c.place-fresh.ensures.takes (headed c.place-fresh.new.pool c.place-fresh.result c.place-at.result.cell c.args.value.cell c.args.seat.now.head c.args.key.now c.requires.seat.head c.place-fresh.ensures.node) (λ i. omega (arith, c.type_inv.key i)) c.hang-self.new.pool (record { root = c.hang-self.result; count = c.args.self.now.count + 1 }) (c.hang-self.ensures (shape_of c.args.self.now c.args.pool.now) c.place-at.result.cell c.args.value.cell (stands_by c.args.pool.now c.args.pool.now c.place-at.new.self c.place-fresh.new.pool c.args.self.now c.args.key.now c.args.value.cell c.place-at.result.cell c.place-fresh.result c.requires.tree (absent c.args.key.now (entries c.args.self.now c.args.pool.now) c.requires.absent) refl c.place-at.ensures.vacant c.place-at.ensures.inside c.place-at.ensures.placed c.place-fresh.ensures.vacant c.place-fresh.ensures.others c.place-fresh.ensures.takes (headed c.place-fresh.new.pool c.place-fresh.result c.place-at.result.cell c.args.value.cell c.args.seat.now.head c.args.key.now c.requires.seat.head c.place-fresh.ensures.node) (λ i. omega (arith, c.type_inv.key i))))

pub returns-clause-takes : goal.returns-clause-takes
returns-clause-takes c = grown_takes c.args.pool.now c.args.pool.now c.place-at.new.self c.place-fresh.new.pool c.args.self.now c.args.key.now c.args.value.cell c.place-at.result.cell c.place-fresh.result c.requires.tree (absent c.args.key.now (entries c.args.self.now c.args.pool.now) c.requires.absent) refl c.place-at.ensures.vacant c.place-at.ensures.inside c.place-at.ensures.placed c.place-fresh.ensures.vacant c.place-fresh.ensures.others c.place-fresh.ensures.takes (headed c.place-fresh.new.pool c.place-fresh.result c.place-at.result.cell c.args.value.cell c.args.seat.now.head c.args.key.now c.requires.seat.head c.place-fresh.ensures.node) (λ i. omega (arith, c.type_inv.key i)) c.hang-self.new.pool (record { root = c.hang-self.result; count = c.args.self.now.count + 1 }) (c.hang-self.ensures (shape_of c.args.self.now c.args.pool.now) c.place-at.result.cell c.args.value.cell (stands_by c.args.pool.now c.args.pool.now c.place-at.new.self c.place-fresh.new.pool c.args.self.now c.args.key.now c.args.value.cell c.place-at.result.cell c.place-fresh.result c.requires.tree (absent c.args.key.now (entries c.args.self.now c.args.pool.now) c.requires.absent) refl c.place-at.ensures.vacant c.place-at.ensures.inside c.place-at.ensures.placed c.place-fresh.ensures.vacant c.place-fresh.ensures.others c.place-fresh.ensures.takes (headed c.place-fresh.new.pool c.place-fresh.result c.place-at.result.cell c.args.value.cell c.args.seat.now.head c.args.key.now c.requires.seat.head c.place-fresh.ensures.node) (λ i. omega (arith, c.type_inv.key i))))

pub returns-clause-keeps : goal.returns-clause-keeps
returns-clause-keeps c = grown_keeps c.args.pool.now c.args.pool.now c.place-at.new.self c.place-fresh.new.pool c.args.self.now c.args.key.now c.args.value.cell c.place-at.result.cell c.place-fresh.result c.requires.tree (absent c.args.key.now (entries c.args.self.now c.args.pool.now) c.requires.absent) refl c.place-at.ensures.vacant c.place-at.ensures.inside c.place-at.ensures.placed c.place-fresh.ensures.vacant c.place-fresh.ensures.others c.place-fresh.ensures.takes (headed c.place-fresh.new.pool c.place-fresh.result c.place-at.result.cell c.args.value.cell c.args.seat.now.head c.args.key.now c.requires.seat.head c.place-fresh.ensures.node) (λ i. omega (arith, c.type_inv.key i)) c.hang-self.new.pool (record { root = c.hang-self.result; count = c.args.self.now.count + 1 }) (c.hang-self.ensures (shape_of c.args.self.now c.args.pool.now) c.place-at.result.cell c.args.value.cell (stands_by c.args.pool.now c.args.pool.now c.place-at.new.self c.place-fresh.new.pool c.args.self.now c.args.key.now c.args.value.cell c.place-at.result.cell c.place-fresh.result c.requires.tree (absent c.args.key.now (entries c.args.self.now c.args.pool.now) c.requires.absent) refl c.place-at.ensures.vacant c.place-at.ensures.inside c.place-at.ensures.placed c.place-fresh.ensures.vacant c.place-fresh.ensures.others c.place-fresh.ensures.takes (headed c.place-fresh.new.pool c.place-fresh.result c.place-at.result.cell c.args.value.cell c.args.seat.now.head c.args.key.now c.requires.seat.head c.place-fresh.ensures.node) (λ i. omega (arith, c.type_inv.key i))))

pub returns-clause-grows : goal.returns-clause-grows
returns-clause-grows c = grown_grows c.args.pool.now c.args.pool.now c.place-at.new.self c.place-fresh.new.pool c.args.self.now c.args.key.now c.args.value.cell c.place-at.result.cell c.place-fresh.result c.requires.tree (absent c.args.key.now (entries c.args.self.now c.args.pool.now) c.requires.absent) refl c.place-at.ensures.vacant c.place-at.ensures.inside c.place-at.ensures.placed c.place-fresh.ensures.vacant c.place-fresh.ensures.others c.place-fresh.ensures.takes (headed c.place-fresh.new.pool c.place-fresh.result c.place-at.result.cell c.args.value.cell c.args.seat.now.head c.args.key.now c.requires.seat.head c.place-fresh.ensures.node) (λ i. omega (arith, c.type_inv.key i)) c.hang-self.new.pool (record { root = c.hang-self.result; count = c.args.self.now.count + 1 }) (c.hang-self.ensures (shape_of c.args.self.now c.args.pool.now) c.place-at.result.cell c.args.value.cell (stands_by c.args.pool.now c.args.pool.now c.place-at.new.self c.place-fresh.new.pool c.args.self.now c.args.key.now c.args.value.cell c.place-at.result.cell c.place-fresh.result c.requires.tree (absent c.args.key.now (entries c.args.self.now c.args.pool.now) c.requires.absent) refl c.place-at.ensures.vacant c.place-at.ensures.inside c.place-at.ensures.placed c.place-fresh.ensures.vacant c.place-fresh.ensures.others c.place-fresh.ensures.takes (headed c.place-fresh.new.pool c.place-fresh.result c.place-at.result.cell c.args.value.cell c.args.seat.now.head c.args.key.now c.requires.seat.head c.place-fresh.ensures.node) (λ i. omega (arith, c.type_inv.key i))))

pub returns-clause-frame : goal.returns-clause-frame
returns-clause-frame c = grown_frame c.args.pool.now c.args.pool.now c.place-at.new.self c.place-fresh.new.pool c.args.self.now c.args.key.now c.args.value.cell c.place-at.result.cell c.place-fresh.result c.requires.tree (absent c.args.key.now (entries c.args.self.now c.args.pool.now) c.requires.absent) refl c.place-at.ensures.vacant c.place-at.ensures.inside c.place-at.ensures.placed c.place-fresh.ensures.vacant c.place-fresh.ensures.others c.place-fresh.ensures.takes (headed c.place-fresh.new.pool c.place-fresh.result c.place-at.result.cell c.args.value.cell c.args.seat.now.head c.args.key.now c.requires.seat.head c.place-fresh.ensures.node) (λ i. omega (arith, c.type_inv.key i)) c.hang-self.new.pool (record { root = c.hang-self.result; count = c.args.self.now.count + 1 }) (c.hang-self.ensures (shape_of c.args.self.now c.args.pool.now) c.place-at.result.cell c.args.value.cell (stands_by c.args.pool.now c.args.pool.now c.place-at.new.self c.place-fresh.new.pool c.args.self.now c.args.key.now c.args.value.cell c.place-at.result.cell c.place-fresh.result c.requires.tree (absent c.args.key.now (entries c.args.self.now c.args.pool.now) c.requires.absent) refl c.place-at.ensures.vacant c.place-at.ensures.inside c.place-at.ensures.placed c.place-fresh.ensures.vacant c.place-fresh.ensures.others c.place-fresh.ensures.takes (headed c.place-fresh.new.pool c.place-fresh.result c.place-at.result.cell c.args.value.cell c.args.seat.now.head c.args.key.now c.requires.seat.head c.place-fresh.ensures.node) (λ i. omega (arith, c.type_inv.key i))))

pub returns-clause-stays : goal.returns-clause-stays
returns-clause-stays c = grown_stays c.args.pool.now c.args.pool.now c.place-at.new.self c.place-fresh.new.pool c.args.self.now c.args.key.now c.args.value.cell c.place-at.result.cell c.place-fresh.result c.requires.tree (absent c.args.key.now (entries c.args.self.now c.args.pool.now) c.requires.absent) refl c.place-at.ensures.vacant c.place-at.ensures.inside c.place-at.ensures.placed c.place-fresh.ensures.vacant c.place-fresh.ensures.others c.place-fresh.ensures.takes (headed c.place-fresh.new.pool c.place-fresh.result c.place-at.result.cell c.args.value.cell c.args.seat.now.head c.args.key.now c.requires.seat.head c.place-fresh.ensures.node) (λ i. omega (arith, c.type_inv.key i)) c.hang-self.new.pool (record { root = c.hang-self.result; count = c.args.self.now.count + 1 }) (c.hang-self.ensures (shape_of c.args.self.now c.args.pool.now) c.place-at.result.cell c.args.value.cell (stands_by c.args.pool.now c.args.pool.now c.place-at.new.self c.place-fresh.new.pool c.args.self.now c.args.key.now c.args.value.cell c.place-at.result.cell c.place-fresh.result c.requires.tree (absent c.args.key.now (entries c.args.self.now c.args.pool.now) c.requires.absent) refl c.place-at.ensures.vacant c.place-at.ensures.inside c.place-at.ensures.placed c.place-fresh.ensures.vacant c.place-fresh.ensures.others c.place-fresh.ensures.takes (headed c.place-fresh.new.pool c.place-fresh.result c.place-at.result.cell c.args.value.cell c.args.seat.now.head c.args.key.now c.requires.seat.head c.place-fresh.ensures.node) (λ i. omega (arith, c.type_inv.key i))))

pub returns-clause-placed : goal.returns-clause-placed
returns-clause-placed c = grown_placed c.args.pool.now c.args.pool.now c.place-at.new.self c.place-fresh.new.pool c.args.self.now c.args.key.now c.args.value.cell c.place-at.result.cell c.place-fresh.result c.requires.tree (absent c.args.key.now (entries c.args.self.now c.args.pool.now) c.requires.absent) refl c.place-at.ensures.vacant c.place-at.ensures.inside c.place-at.ensures.placed c.place-fresh.ensures.vacant c.place-fresh.ensures.others c.place-fresh.ensures.takes (headed c.place-fresh.new.pool c.place-fresh.result c.place-at.result.cell c.args.value.cell c.args.seat.now.head c.args.key.now c.requires.seat.head c.place-fresh.ensures.node) (λ i. omega (arith, c.type_inv.key i)) c.hang-self.new.pool (record { root = c.hang-self.result; count = c.args.self.now.count + 1 }) (c.hang-self.ensures (shape_of c.args.self.now c.args.pool.now) c.place-at.result.cell c.args.value.cell (stands_by c.args.pool.now c.args.pool.now c.place-at.new.self c.place-fresh.new.pool c.args.self.now c.args.key.now c.args.value.cell c.place-at.result.cell c.place-fresh.result c.requires.tree (absent c.args.key.now (entries c.args.self.now c.args.pool.now) c.requires.absent) refl c.place-at.ensures.vacant c.place-at.ensures.inside c.place-at.ensures.placed c.place-fresh.ensures.vacant c.place-fresh.ensures.others c.place-fresh.ensures.takes (headed c.place-fresh.new.pool c.place-fresh.result c.place-at.result.cell c.args.value.cell c.args.seat.now.head c.args.key.now c.requires.seat.head c.place-fresh.ensures.node) (λ i. omega (arith, c.type_inv.key i))))
