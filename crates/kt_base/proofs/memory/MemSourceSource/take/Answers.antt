use Rattle.std.proofs.Common.{List, ℕ, subst, ◌≡◌, length, drop, take, min}
use Rattle.kt_base.proofs.Doubles.{source_gives}
use Rattle.kt_base.proofs.memory.MemSourceSource.take.Goals as goal

pub returns-clause-bytes : goal.returns-clause-bytes
returns-clause-bytes c = source_gives c.args.self.now.bytes c.copy_from-n.new.into c.args.self.now.at c.copy_from-n.result
    (subst (λ (b : List ℕ). c.copy_from-n.result ≡ min (length (drop c.args.self.now.at b)) (length c.copy_from-n.new.into)) c.as_slice.ensures c.copy_from-n.ensures.count)
    (subst (λ (b : List ℕ). take c.copy_from-n.result c.copy_from-n.new.into ≡ take c.copy_from-n.result (drop c.args.self.now.at b)) c.as_slice.ensures c.copy_from-n.ensures.front)
