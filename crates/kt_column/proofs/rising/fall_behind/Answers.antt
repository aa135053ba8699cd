use Rattle.std.proofs.Common.{IfOk, sym, ap, ◌∙◌, subst, List, ℕ}
use Rattle.std.specs.Prelude.{MatchOption, Option, Some}
use Rattle.kt_column.specs.Keys.{IsKeyFall, NoKeyFalls}
use Rattle.kt_column.proofs.rising.fall_behind.Goals as goal

pub returns-in-Some : goal.returns-in-Some
returns-in-Some c =
    subst (λ (o : Option (List ℕ)). IfOk c.fall_in.result (λ found. MatchOption found (NoKeyFalls c.args.n o c.args.bytes.now) (IsKeyFall c.args.n o c.args.bytes.now))) (ap (λ k. Some k) c.as_slice.ensures ∙ (sym c.in-Some.is ∙ c.in_ok-key.ensures)) c.fall_in.ensures

pub returns-in-None : goal.returns-in-None
returns-in-None c =
    subst (λ (o : Option (List ℕ)). IfOk c.fall_in-in-None.result (λ found. MatchOption found (NoKeyFalls c.args.n o c.args.bytes.now) (IsKeyFall c.args.n o c.args.bytes.now))) (sym c.in-None.is ∙ c.in_ok-key.ensures) c.fall_in-in-None.ensures
