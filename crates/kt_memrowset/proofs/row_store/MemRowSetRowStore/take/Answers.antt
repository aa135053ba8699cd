use Rattle.std.proofs.Common.{ap}
use Rattle.kt_history.specs.declared.target.Target.TheVariants.{Mem}
use Rattle.kt_history.specs.Stores.{kind_made}
use Rattle.kt_memrowset.proofs.RowStores.{took, none_made, none_taken}
use Rattle.kt_memrowset.proofs.row_store.MemRowSetRowStore.take.Goals as goal

pub returns-clause-stands : goal.returns-clause-stands
returns-clause-stands c = (took c.args.self.now c.take.new.self c.args.pool.now c.take.new.pool c.args.op.now c.args.ts (kind_made c.args.op.now.kind c.take.result.there) c.requires.stands c.requires.reserved c.take.ensures.joins).stands

pub returns-clause-changed : goal.returns-clause-changed
returns-clause-changed c = λ under. (took c.args.self.now c.take.new.self c.args.pool.now c.take.new.pool c.args.op.now c.args.ts (kind_made c.args.op.now.kind c.take.result.there) c.requires.stands c.requires.reserved c.take.ensures.joins).changed

pub returns-clause-has_row : goal.returns-clause-has_row
returns-clause-has_row c = λ none. none_taken _ (kind_made c.args.op.now.kind c.take.result.there) c.take.result.target c.take.ensures.target ((took c.args.self.now c.take.new.self c.args.pool.now c.take.new.pool c.args.op.now c.args.ts (kind_made c.args.op.now.kind c.take.result.there) c.requires.stands c.requires.reserved c.take.ensures.joins).has_row none)

pub returns-clause-takes : goal.returns-clause-takes
returns-clause-takes c = (took c.args.self.now c.take.new.self c.args.pool.now c.take.new.pool c.args.op.now c.args.ts (kind_made c.args.op.now.kind c.take.result.there) c.requires.stands c.requires.reserved c.take.ensures.joins).takes

pub returns-clause-grows : goal.returns-clause-grows
returns-clause-grows c = (took c.args.self.now c.take.new.self c.args.pool.now c.take.new.pool c.args.op.now c.args.ts (kind_made c.args.op.now.kind c.take.result.there) c.requires.stands c.requires.reserved c.take.ensures.joins).grows

pub returns-clause-frame : goal.returns-clause-frame
returns-clause-frame c = (took c.args.self.now c.take.new.self c.args.pool.now c.take.new.pool c.args.op.now c.args.ts (kind_made c.args.op.now.kind c.take.result.there) c.requires.stands c.requires.reserved c.take.ensures.joins).frame

pub returns-clause-name : goal.returns-clause-name
returns-clause-name c = ap (λ n. Mem n) (took c.args.self.now c.take.new.self c.args.pool.now c.take.new.pool c.args.op.now c.args.ts (kind_made c.args.op.now.kind c.take.result.there) c.requires.stands c.requires.reserved c.take.ensures.joins).name

pub returns-clause-idle : goal.returns-clause-idle
returns-clause-idle c = λ none. (took c.args.self.now c.take.new.self c.args.pool.now c.take.new.pool c.args.op.now c.args.ts (kind_made c.args.op.now.kind c.take.result.there) c.requires.stands c.requires.reserved c.take.ensures.joins).idle (none_made _ (kind_made c.args.op.now.kind c.take.result.there) c.take.result.target c.take.ensures.target none)

pub returns-clause-more : goal.returns-clause-more
returns-clause-more c = (took c.args.self.now c.take.new.self c.args.pool.now c.take.new.pool c.args.op.now c.args.ts (kind_made c.args.op.now.kind c.take.result.there) c.requires.stands c.requires.reserved c.take.ensures.joins).more

pub returns-clause-keeps : goal.returns-clause-keeps
returns-clause-keeps c = (took c.args.self.now c.take.new.self c.args.pool.now c.take.new.pool c.args.op.now c.args.ts (kind_made c.args.op.now.kind c.take.result.there) c.requires.stands c.requires.reserved c.take.ensures.joins).keeps

pub returns-clause-closed : goal.returns-clause-closed
returns-clause-closed c = (took c.args.self.now c.take.new.self c.args.pool.now c.take.new.pool c.args.op.now c.args.ts (kind_made c.args.op.now.kind c.take.result.there) c.requires.stands c.requires.reserved c.take.ensures.joins).frozen
