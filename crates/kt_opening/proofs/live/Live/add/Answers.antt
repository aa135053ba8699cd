use Rattle.std.proofs.Common.{◌≡◌, ℕ, List, Vec, Global, true, cond, subst, rules}
use Rattle.std.specs.Ordering.{eq_by_cmp}
use Rattle.kt_history.specs.Rows.{key_cmp}
use Rattle.kt_opening.specs.Live.{has}
use Rattle.kt_opening.proofs.LiveLaws.{among_after}
use Rattle.kt_opening.proofs.live.Live.add.Goals as goal

pub returns : goal.returns
returns c = λ other.
    let copied : c.in_ok-to_vec.field-0.items ≡ c.args.key.now = search rules in
    subst (λ (k : List ℕ). has (record { keys = c.insert.new.self }) other ≡ cond (eq_by_cmp key_cmp other k) true (has c.args.self.now other)) copied
    (among_after (λ (v : Vec ℕ Global). v.items) c.in_ok-to_vec.field-0.items true c.args.self.now.keys c.insert.new.self c.in_ok-insert.ensures.updates other)
