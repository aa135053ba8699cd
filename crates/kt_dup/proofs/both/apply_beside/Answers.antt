use Rattle.std.proofs.Common.{ℕ}
use Rattle.kt_dup.proofs.Sides.{still_apart, others_stay}
use Rattle.kt_dup.proofs.both.apply_beside.Goals as goal

pub returns-clause-beside : goal.returns-clause-beside
returns-clause-beside g c =
    let s = g.S.RowStore in
    let b = g.B.RowStore in
    let placed = λ (k : ℕ) (h : b.owns c.args.other.now c.args.pool.now k). c.placed_law.ensures c.args.other.now c.args.pool.now k c.requires.beside h in
    let kept = c.frame_law.ensures c.args.other.now c.args.pool.now c.apply_reserved.new.pool c.requires.beside
    (others_stay s.owns b.owns c.args.store.now c.apply_reserved.new.self c.args.other.now c.args.pool.now c.apply_reserved.new.pool placed c.requires.apart c.apply_reserved.ensures.grows c.apply_reserved.ensures.frame) in
    record { here = kept.0; same = kept.1; cells_are = kept.2; owned = kept.3 }

pub returns-clause-apart : goal.returns-clause-apart
returns-clause-apart g c =
    let s = g.S.RowStore in
    let b = g.B.RowStore in
    let placed = λ (k : ℕ) (h : b.owns c.args.other.now c.args.pool.now k). c.placed_law.ensures c.args.other.now c.args.pool.now k c.requires.beside h in
    let kept = c.frame_law.ensures c.args.other.now c.args.pool.now c.apply_reserved.new.pool c.requires.beside
    (others_stay s.owns b.owns c.args.store.now c.apply_reserved.new.self c.args.other.now c.args.pool.now c.apply_reserved.new.pool placed c.requires.apart c.apply_reserved.ensures.grows c.apply_reserved.ensures.frame) in
    λ k mine his. still_apart s.owns b.owns c.args.store.now c.apply_reserved.new.self c.args.other.now c.args.pool.now c.apply_reserved.new.pool placed c.requires.apart c.apply_reserved.ensures.grows k mine ((kept.3 k).0 his)
