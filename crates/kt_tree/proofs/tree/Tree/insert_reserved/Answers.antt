use Rattle.std.proofs.Common.{◌≡◌, List, ℕ}
use Rattle.kt_pool.specs.Contents.{Contents}
use Rattle.kt_tree.specs.Shapes.{Shape, IsTreeAt, flat}
use Rattle.kt_tree.specs.Entries.{IsRising}
use Rattle.kt_tree.specs.Trees.{IsTree, shape_of, entries}
use Rattle.kt_tree.specs.Changes.{IsAbsent}
use Rattle.kt_tree.specs.declared.tree.Tree.{Tree}
use Rattle.kt_tree.proofs.Trees.{over_tree, over_entries, over_stays, over_keeps, over_grows, over_frame}
use Rattle.kt_tree.proofs.tree.Tree.insert_reserved.Goals as goal

-- the key was not there, and nothing has changed yet
lacks : (tree : Tree) (old p0 : Contents) (key : List ℕ) → IsTree tree old → ((s : Shape) → IsTreeAt old tree.root s → IsRising (flat s) → IsAbsent key (flat s) × (p0 ≡ old)) → IsAbsent key (entries tree old) × (p0 ≡ old)
lacks tree old p0 key t f = f (shape_of tree old) t.stands t.rising

pub returns-in-Some-clause-tree : goal.returns-in-Some-clause-tree
returns-in-Some-clause-tree c = over_tree c.args.self.now c.args.pool.now c.overwrite.new.pool c.args.key.now c.args.value.cell c.in-Some.old c.requires.tree (c.in-Some.ensures (shape_of c.args.self.now c.args.pool.now) c.requires.tree.stands c.requires.tree.rising).0 (c.in-Some.ensures (shape_of c.args.self.now c.args.pool.now) c.requires.tree.stands c.requires.tree.rising).1

pub returns-in-Some-clause-put : goal.returns-in-Some-clause-put
returns-in-Some-clause-put c = over_entries c.args.self.now c.args.pool.now c.overwrite.new.pool c.args.key.now c.args.value.cell c.in-Some.old c.requires.tree (c.in-Some.ensures (shape_of c.args.self.now c.args.pool.now) c.requires.tree.stands c.requires.tree.rising).0 (c.in-Some.ensures (shape_of c.args.self.now c.args.pool.now) c.requires.tree.stands c.requires.tree.rising).1

pub returns-in-Some-clause-keeps : goal.returns-in-Some-clause-keeps
returns-in-Some-clause-keeps c = over_keeps c.args.self.now c.args.pool.now c.overwrite.new.pool c.args.key.now c.args.value.cell c.in-Some.old c.requires.tree (c.in-Some.ensures (shape_of c.args.self.now c.args.pool.now) c.requires.tree.stands c.requires.tree.rising).0 (c.in-Some.ensures (shape_of c.args.self.now c.args.pool.now) c.requires.tree.stands c.requires.tree.rising).1

pub returns-in-Some-clause-grows : goal.returns-in-Some-clause-grows
returns-in-Some-clause-grows c = over_grows c.args.self.now c.args.pool.now c.overwrite.new.pool c.args.key.now c.args.value.cell c.in-Some.old c.requires.tree (c.in-Some.ensures (shape_of c.args.self.now c.args.pool.now) c.requires.tree.stands c.requires.tree.rising).0 (c.in-Some.ensures (shape_of c.args.self.now c.args.pool.now) c.requires.tree.stands c.requires.tree.rising).1

pub returns-in-Some-clause-frame : goal.returns-in-Some-clause-frame
returns-in-Some-clause-frame c = over_frame c.args.self.now c.args.pool.now c.overwrite.new.pool c.args.key.now c.args.value.cell c.in-Some.old c.requires.tree (c.in-Some.ensures (shape_of c.args.self.now c.args.pool.now) c.requires.tree.stands c.requires.tree.rising).0 (c.in-Some.ensures (shape_of c.args.self.now c.args.pool.now) c.requires.tree.stands c.requires.tree.rising).1

pub returns-in-Some-clause-stays : goal.returns-in-Some-clause-stays
returns-in-Some-clause-stays c = over_stays c.args.self.now c.args.pool.now c.overwrite.new.pool c.args.key.now c.args.value.cell c.in-Some.old c.requires.tree (c.in-Some.ensures (shape_of c.args.self.now c.args.pool.now) c.requires.tree.stands c.requires.tree.rising).0 (c.in-Some.ensures (shape_of c.args.self.now c.args.pool.now) c.requires.tree.stands c.requires.tree.rising).1
