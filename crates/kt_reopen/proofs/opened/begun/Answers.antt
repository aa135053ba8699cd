use Rattle.std.proofs.Common.{arith}
use Rattle.kt_reopen.proofs.opened.begun.Goals as goal

pub returns : goal.returns
returns c = λ records named due. record {
  mem_stands = c.new-mem.ensures.store;
  mem_empty = c.new-mem.ensures.empty;
  mem_bare = c.new-mem.ensures.bare;
  mem_none = c.new-mem.ensures.none;
  mem_open = c.new-mem.ensures.open_;
  mem_number = (let told = named.mem_is in let greater = c.max.ensures in let number = c.new-mem.ensures.number in omega arith);
  rowsets = c.in_ok-rowsets.ensures.are _ named;
  places = c.in_ok-pool.ensures.bare;
  promised = c.in_ok-pool.ensures.room;
  needs_are = due;
  few = c.in_ok-rowsets.ensures.few;
}
