-- A past told from its own mark on is the same.
use Rattle.std.proofs.Common.{◌≡◌, ℕ, ◌<◌, ◌≤◌, List, [], ◌∷◌, refl, sym, true, false, ap, ◌∙◌, arith}
use Rattle.std.specs.Prelude.{nat_le, nat_lt}
use Rattle.std.specs.List.{filter}
use Rattle.std.proofs.lemmas.Bool.Decides.{nat_tests}
use Rattle.kt_history.specs.Rows.{Rows}
use Rattle.kt_history.specs.History.{Past, PastWrite, IsPast, Rise, replay, raise}

pub not_le : (a b : ℕ) → b < a → nat_le a b ≡ false
not_le a b h = grind (arith, nat_tests)

lt_test : (a b : ℕ) → a < b → nat_lt a b ≡ true
lt_test a b h = grind (arith, nat_tests)

unseen : (mark low : ℕ) (ws : List PastWrite) (rows : Rows) → mark ≤ low → Rise low ws → replay mark ws rows ≡ rows
unseen mark low [] rows le r = refl
unseen mark low (w ∷ ws) rows le r = rw (not_le w.ts mark (omega (arith, r.0))) (unseen mark w.ts ws rows (omega (arith, r.0)) r.3)

kept : (mark low : ℕ) (ws : List PastWrite) → mark ≤ low → Rise low ws → filter (λ (w : PastWrite). nat_lt mark w.ts) ws ≡ ws
kept mark low [] le r = refl
kept mark low (w ∷ ws) le r = rw (lt_test mark w.ts (omega (arith, r.0))) (ap (λ l. w ∷ l) (kept mark w.ts ws (omega (arith, r.0)) r.3))

pub raise_here : (past : Past) → IsPast past → raise past past.mark ≡ past
raise_here past is =
    ap (λ (b : Rows). record { mark = past.mark; base = b; writes = filter (λ (w : PastWrite). nat_lt past.mark w.ts) past.writes }) (unseen past.mark past.mark past.writes past.base (omega arith) is.writes)
    ∙ ap (λ (ws : List PastWrite). record { mark = past.mark; base = past.base; writes = ws }) (kept past.mark past.mark past.writes (omega arith) is.writes)

pub raise_at : (past : Past) (mark : ℕ) → past.mark ≡ mark → IsPast past → raise past mark ≡ past
raise_at past mark same is = ap (λ n. raise past n) (sym same) ∙ raise_here past is
