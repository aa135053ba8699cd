-- Verdicts on a worked run, computed: an insert and a scan of the present.
use Rattle.std.proofs.Common.{◌≡◌, ℕ, zero, suc, List, [], ◌∷◌, Some, refl, rules, arith, inl, inr}
use Rattle.std.specs.Prelude.{pos}
use Rattle.std.specs.Int.{w64}
use Rattle.kt_base.specs.declared.cell.Kind.TheVariants as kind
use Rattle.kt_base.specs.declared.cell.Cell.TheVariants as cell
use Rattle.kt_base.specs.Keys.{number_key}
use Rattle.kt_history.specs.declared.change.Outcome.TheVariants.{Done}
use Rattle.kt_history.specs.declared.operation.OpKind.TheVariants.{Insert}
use Rattle.kt_history.specs.declared.scan.At.TheVariants.{Looked}
use Rattle.kt_history.specs.declared.command.Command.TheVariants as command
use Rattle.kt_history.specs.declared.event.Event.{Event}
use Rattle.kt_history.specs.declared.event.Event.TheVariants.{Begin, End, Look, Rows}
use Rattle.kt_history.specs.History.{Past}
use Rattle.kt_history.specs.Machine.{Workload, IsRun}
use Rattle.kt_script.specs.declared.replies.ReplyLine.TheVariants as line
use Rattle.kt_script.specs.declared.output.LastLine.{LastLine}
use Rattle.kt_script.specs.declared.output.LastLine.TheVariants as last
use Rattle.kt_script.specs.declared.reread.Output.{Output}
use Rattle.kt_judge.specs.declared.verdict.Verdict.TheVariants as verdict
use Rattle.kt_judge.specs.Verdicts.{IsVerdict, Stands, IsBefore}

-- the table `id int64 key, v string`, and the session `insert 1 "a"`, `scan now select v`
abbrev work : Workload
work = record {
  plan = (command.Write (record { ops = record { kind = Insert; key = number_key w64 (pos 1); cells = (2, cell.Bytes (97 ∷ [])) ∷ [] } ∷ [] }) ∷ command.Scan (record { at = Looked; columns = Some (2 ∷ []); preds = [] }) ∷ []) ∷ [];
  cells = 262144;
  keys = (1, kind.Int64) ∷ [];
  others = (2, kind.String) ∷ [];
  fill = (2, cell.Null) ∷ [];
}

abbrev empty : Past
empty = record { mark = 0; base = []; writes = [] }

abbrev lines : ℕ → List Event
lines m = Begin 1 1 m 1 ∷ End 1 1 m ∷ Look 1 2 8192 2 ∷ Rows 1 2 8192 ∷ []

-- the output, with this history, these row lines and this last line
abbrev output : List Event → List (List ℕ) → LastLine → Output
output events rows end = record { replies = (line.At 4096 (Done ∷ []) ∷ line.Rows 8192 rows ∷ []) ∷ []; events = events; last = end }

abbrev row : List (List ℕ)
row = (34 ∷ 97 ∷ 34 ∷ []) ∷ []

abbrev end : LastLine
end = last.Numbers 0 8192 0

runs : IsRun work empty 0 (lines 4096)
runs = search rules

stands : (o : LastLine) (s i : ℕ) → Stands work empty 0 (output (lines 4096) row o) s i
stands o zero zero = refl
stands o zero (suc i) = tt
stands o (suc zero) zero = refl
stands o (suc zero) (suc zero) = refl
stands o (suc zero) (suc (suc zero)) = refl
stands o (suc zero) (suc (suc (suc i))) = tt
stands o (suc (suc s)) zero = refl
stands o (suc (suc s)) (suc i) = tt

-- it is the output of the run
yes : IsVerdict work empty 0 (output (lines 4096) row end) verdict.Yes
yes = (runs, stands end, (refl, refl, refl))

-- without its row it is not, at the second reply of the first session
stands_before : (t j : ℕ) → IsBefore t j 1 2 → Stands work empty 0 (output (lines 4096) [] end) t j
stands_before zero zero h = refl
stands_before zero (suc j) h = tt
stands_before (suc zero) zero h = refl
stands_before (suc zero) (suc zero) h = refl
stands_before (suc zero) (suc (suc j)) h = elim h [ inl lt ↦ absurd (omega arith) | inr both ↦ absurd (omega (arith, both.1)) ]
stands_before (suc (suc t)) j h = elim h [ inl lt ↦ absurd (omega arith) | inr both ↦ absurd (omega (arith, both.0)) ]

no_reply : IsVerdict work empty 0 (output (lines 4096) [] end) (verdict.NoReply 1 2)
no_reply = (runs, record { before = stands_before; wrong = λ e. cc })

-- with another timestamp of the write it is not, at the first line
no_event : IsVerdict work empty 0 (output (lines 4097) row end) (verdict.NoEvent 1)
no_event = record { some = omega arith; within = omega arith; before = tt; fault = λ r. let next : 4097 ≡ 4096 = r.0.2.next in absurd (omega (arith, next)) }

-- with another last timestamp it is not, at its end
no_end : IsVerdict work empty 0 (output (lines 4096) row (last.Numbers 0 8193 0)) verdict.NoEnd
no_end = (runs, stands (last.Numbers 0 8193 0), λ e. let same : 8193 ≡ 8192 = e.2 in absurd (omega (arith, same)))
