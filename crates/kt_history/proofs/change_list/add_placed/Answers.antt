use Rattle.std.proofs.Common.{◌≡◌, ◌++◌, ◌-◌, arith, length, ap}
use Rattle.kt_pool.specs.Contents.{bytes_at}
use Rattle.kt_history.proofs.Placed.{placed_added, placed_inside, placed_told}
use Rattle.kt_history.proofs.change_list.add_placed.Goals as goal

size_is : (c : goal.After-push_reserved) → c.len.result - c.args.front ≡ length (bytes_at c.args.pool.now c.args.place.cell) - c.args.front
size_is c = omega (arith, c.len.ensures)

at_is : (c : goal.After-push_reserved) → c.len-2.result - (c.len.result - c.args.front) ≡ length (c.args.bytes.now.items ++ bytes_at c.args.pool.now c.args.place.cell) - (c.len.result - c.args.front)
at_is c = omega (arith, c.len-2.ensures, ap length c.in_ok-append_placed.ensures.ok)

pub returns-clause-ok : goal.returns-clause-ok
returns-clause-ok c = rw (c.push_reserved.ensures.items, c.reserve.ensures.items, c.in_ok-append_placed.ensures.ok) (placed_added c.args.bytes.now.items (bytes_at c.args.pool.now c.args.place.cell) c.args.heads.now.items c.args.key (c.len-2.result - (c.len.result - c.args.front)) (c.len.result - c.args.front) c.args.front c.args.ts c.args.kind c.requires.known c.requires.inside c.requires.told c.requires.next c.requires.front (size_is c) (at_is c))

pub returns-clause-inside : goal.returns-clause-inside
returns-clause-inside c = rw (c.push_reserved.ensures.items, c.reserve.ensures.items, c.in_ok-append_placed.ensures.ok) (placed_inside c.args.bytes.now.items (bytes_at c.args.pool.now c.args.place.cell) c.args.heads.now.items c.args.key (c.len-2.result - (c.len.result - c.args.front)) (c.len.result - c.args.front) c.args.front c.args.ts c.args.kind c.requires.known c.requires.inside c.requires.told c.requires.next c.requires.front (size_is c) (at_is c))

pub returns-clause-told : goal.returns-clause-told
returns-clause-told c = rw (c.push_reserved.ensures.items, c.reserve.ensures.items, c.in_ok-append_placed.ensures.ok) (placed_told c.args.bytes.now.items (bytes_at c.args.pool.now c.args.place.cell) c.args.heads.now.items c.args.key (c.len-2.result - (c.len.result - c.args.front)) (c.len.result - c.args.front) c.args.front c.args.ts c.args.kind c.requires.known c.requires.inside c.requires.told c.requires.next c.requires.front (size_is c) (at_is c))
