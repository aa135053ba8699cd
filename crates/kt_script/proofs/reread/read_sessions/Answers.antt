use Rattle.std.proofs.Common.{◌≡◌, ◌+◌, suc, true, false, [], ◌∷◌, ◌++◌, length, refl, sym, ap, subst, ◌∙◌, arith}
use Rattle.std.specs.Prelude.{codes}
use Rattle.std.specs.List.{flat_map, AllByRecursion}
use Rattle.kt_base.specs.Literals.{same}
use Rattle.kt_script.specs.Texts.{session_line, lines_text, told_sessions}
use Rattle.kt_script.specs.Outputs.{LineHolds}
use Rattle.kt_script.specs.Stages.{sessions, MayStand}
use Rattle.kt_script.specs.Places.{IsFault}
use Rattle.kt_base.proofs.Decimals.{same_text}
use Rattle.kt_script.proofs.Moves.{how_far, rest_refused}
use Rattle.kt_script.proofs.Rereads.{session_more, history_first, neither_refused, replies_err, all_more}
use Rattle.kt_script.proofs.reread.read_sessions.Goals as goal

pub returns-in-Err : goal.returns-in-Err
returns-in-Err c =
    let n = length c.sessions.sessions.items in
    let l = c.in-Some.line.now in
    let number : c.len.result + 1 ≡ suc n = omega (arith, c.len.ensures, c.sessions.sessions.ok.0) in
    let is : same l (session_line (suc n)) ≡ true = ap (λ k. same l (session_line k)) (sym number) ∙ sym c.if-is_session.ensures in
    replies_err c.args.text.now n c.sessions.at c.sessions.sessions.items refl c.sessions.invariant.moves c.sessions.invariant.no_reply l c.in-Some.ensures (omega arith) is c.in-Err.no c.in-Err.ensures

pub sessions-smaller : goal.sessions-smaller
sessions-smaller c =
    let below = c.sessions.at + length c.in-Some.line.now + 1 in
    let far = how_far c.args.text.now (sessions 1 0) (sessions 1 0) below c.in-Ok.read.at (flat_map lines_text c.in-Ok.read.replies.items) (c.in-Ok.ensures.0 0) in
    omega (arith, far, c.in-Some.ensures.within)

pub sessions-preserved : goal.sessions-preserved
sessions-preserved c =
    let n = length c.sessions.sessions.items in
    let l = c.in-Some.line.now in
    let number : c.len.result + 1 ≡ suc n = omega (arith, c.len.ensures, c.sessions.sessions.ok.0) in
    let is : same l (session_line (suc n)) ≡ true = ap (λ k. same l (session_line k)) (sym number) ∙ sym c.if-is_session.ensures in
    let rs = c.in-Ok.read.replies.items in
    let new = c.push.new.list.items in
    let pushed : new ≡ c.sessions.sessions.items ++ rs ∷ [] = c.in_ok-push.ensures ∙ ap (λ x. c.sessions.sessions.items ++ x ∷ []) c.of.ensures in
    record {
      moves = session_more c.args.text.now n c.sessions.at c.sessions.sessions.items refl c.sessions.invariant.moves c.sessions.invariant.no_reply l c.in-Some.ensures c.in-Ok.read.at rs new (omega arith) is (same_text l (session_line (suc n)) is) (c.in-Ok.ensures.0 n) pushed;
      no_reply = c.in-Ok.ensures.1 (length new);
      replies = all_more (AllByRecursion LineHolds) c.sessions.sessions.items rs new pushed c.sessions.invariant.replies c.in-Ok.ensures.2;
    }

pub returns-then-is_word : goal.returns-then-is_word
returns-then-is_word c =
    let n = length c.sessions.sessions.items in
    let l = c.in-Some.line.now in
    let number : c.len.result + 1 ≡ suc n = omega (arith, c.len.ensures, c.sessions.sessions.ok.0) in
    let other : same l (session_line (suc n)) ≡ false = ap (λ k. same l (session_line k)) (sym number) ∙ sym c.if-is_session.ensures in
    let is : same l (codes "history") ≡ true = sym c.if-is_word.ensures in
    (history_first c.args.text.now n c.sessions.at c.sessions.sessions.items refl c.sessions.invariant.moves c.sessions.invariant.no_reply l c.in-Some.ensures (omega arith) other is (same_text l (codes "history") is), c.sessions.invariant.replies)

pub returns-else-is_word : goal.returns-else-is_word
returns-else-is_word c =
    let n = length c.sessions.sessions.items in
    let l = c.in-Some.line.now in
    let number : c.len.result + 1 ≡ suc n = omega (arith, c.len.ensures, c.sessions.sessions.ok.0) in
    let other : same l (session_line (suc n)) ≡ false = ap (λ k. same l (session_line k)) (sym number) ∙ sym c.if-is_session.ensures in
    let is : same l (codes "history") ≡ false = sym c.if-is_word.ensures in
    let above : c.len-else-is_word.result ≡ n = omega (arith, c.len-else-is_word.ensures, c.sessions.sessions.ok.0) in
    rw c.fault.ensures (neither_refused c.args.text.now n c.sessions.at c.sessions.sessions.items refl c.sessions.invariant.moves c.sessions.invariant.no_reply l c.in-Some.ensures c.sessions_front.result (omega arith) other is (subst (λ k. IsFault (MayStand (sessions k 0)) l c.sessions_front.result) above c.sessions_front.ensures))

pub returns : goal.returns
returns c =
    let n = length c.sessions.sessions.items in
    let rest = c.split_at.result.1.now in
    let above : c.len-2.result ≡ n = omega (arith, c.len-2.ensures, c.sessions.sessions.ok.0) in
    rw c.fault-2.ensures (rest_refused c.args.text.now (sessions 0 0) (sessions n 0) 0 c.sessions.at (told_sessions 1 c.sessions.sessions.items) c.sessions.invariant.moves rest c.sessions_front-2.result c.split_at.ensures.back c.in_default.ensures (λ rest. refl)
    (subst (λ k. IsFault (MayStand (sessions k 0)) rest c.sessions_front-2.result) above c.sessions_front-2.ensures))
