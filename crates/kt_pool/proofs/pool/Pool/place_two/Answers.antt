use Rattle.std.proofs.Common.{◌≡◌, ◌≤◌, ◌+◌, ◌++◌, ◌∙◌, ℕ, List, length, length-append, sym, ap, arith}
use Rattle.kt_pool.specs.Contents.{cells_for}
use Rattle.kt_pool.proofs.Making.{taken_fits, all_placed, view_placed, vacant_there, inside_there}
use Rattle.kt_pool.proofs.pool.Pool.place_two.Goals as goal

taken_both : (front behind : List ℕ) (taken : ℕ) → taken ≡ cells_for (length front + length behind) → taken ≡ cells_for (length (front ++ behind))
taken_both front behind taken e = e ∙ ap cells_for (sym (length-append front behind))

pub overflow_cast-taken : goal.overflow_cast-taken
overflow_cast-taken c = let f = taken_fits _ _ _ _ _ _ c.self.invariant c.args.self.now c.self.view_is c.cells_taken-taken.result (let r = c.requires.room in let t = c.cells_taken-taken.ensures in let b = length-append c.args.front.now c.args.behind.now in omega arith) in omega arith

pub invariant_of-self : goal.invariant_of-self
invariant_of-self c =
    let l = c.lengthen-first in
    let enough : c.cells_taken-taken.result ≤ c.args.self.now.reserved = let r = c.requires.room in let t = c.cells_taken-taken.ensures in let b = length-append c.args.front.now c.args.behind.now in omega arith in
    all_placed _ _ _ _ _ _ c.self.invariant c.args.self.now c.self.view_is c.cells_taken-taken.result enough l.new.cells.items l.result l.ensures.sound l.ensures.places l.new.cells.len _ (omega (arith, l.new.cells.ok)) l.ensures.room c.deref_mut.result.now c.fill_two-self-inside.new.cells c.deref_mut.ensures.value (c.args.front.now ++ c.args.behind.now) (taken_both c.args.front.now c.args.behind.now c.cells_taken-taken.result c.cells_taken-taken.ensures) c.fill_two-self-inside.result c.fill_two-self-inside.ensures _ c.saturating_sub-self-inside.ensures

pub returns-clause-vacant : goal.returns-clause-vacant
returns-clause-vacant c =
    let l = c.lengthen-first in
    let enough : c.cells_taken-taken.result ≤ c.args.self.now.reserved = let r = c.requires.room in let t = c.cells_taken-taken.ensures in let b = length-append c.args.front.now c.args.behind.now in omega arith in
    vacant_there _ _ _ _ _ _ c.self.invariant c.args.self.now c.self.view_is c.cells_taken-taken.result enough l.new.cells.items l.result l.ensures.sound l.ensures.places l.new.cells.len _ (omega (arith, l.new.cells.ok)) l.ensures.room c.deref_mut.result.now c.fill_two-self-inside.new.cells c.deref_mut.ensures.value (c.args.front.now ++ c.args.behind.now) (taken_both c.args.front.now c.args.behind.now c.cells_taken-taken.result c.cells_taken-taken.ensures) c.fill_two-self-inside.result c.fill_two-self-inside.ensures

pub returns-clause-inside : goal.returns-clause-inside
returns-clause-inside c =
    let l = c.lengthen-first in
    let enough : c.cells_taken-taken.result ≤ c.args.self.now.reserved = let r = c.requires.room in let t = c.cells_taken-taken.ensures in let b = length-append c.args.front.now c.args.behind.now in omega arith in
    inside_there _ _ _ _ _ _ c.self.invariant c.args.self.now c.self.view_is c.cells_taken-taken.result enough l.new.cells.items l.result l.ensures.sound l.ensures.places l.new.cells.len _ (omega (arith, l.new.cells.ok)) l.ensures.room c.deref_mut.result.now c.fill_two-self-inside.new.cells c.deref_mut.ensures.value (c.args.front.now ++ c.args.behind.now) (taken_both c.args.front.now c.args.behind.now c.cells_taken-taken.result c.cells_taken-taken.ensures) c.fill_two-self-inside.result c.fill_two-self-inside.ensures

pub returns-clause-placed : goal.returns-clause-placed
returns-clause-placed c =
    let l = c.lengthen-first in
    let enough : c.cells_taken-taken.result ≤ c.args.self.now.reserved = let r = c.requires.room in let t = c.cells_taken-taken.ensures in let b = length-append c.args.front.now c.args.behind.now in omega arith in
    view_placed _ _ _ _ _ _ c.self.invariant c.args.self.now c.self.view_is c.cells_taken-taken.result enough l.new.cells.items l.result l.ensures.sound l.ensures.places l.new.cells.len _ (omega (arith, l.new.cells.ok)) l.ensures.room c.deref_mut.result.now c.fill_two-self-inside.new.cells c.deref_mut.ensures.value (c.args.front.now ++ c.args.behind.now) (taken_both c.args.front.now c.args.behind.now c.cells_taken-taken.result c.cells_taken-taken.ensures) c.fill_two-self-inside.result c.fill_two-self-inside.ensures
