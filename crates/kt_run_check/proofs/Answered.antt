-- A source has one answer.
use Rattle.std.proofs.Common.{◌≡◌, ◌⊎◌, inl, inr, ℕ, zero, suc, ◌+◌, ◌<◌, ◌≤◌, List, [], ◌∷◌, length, take, drop, Option, Some, None, Ok, refl, sym, ap, ◌∙◌, subst, arith, length-append}
use Rattle.std.specs.Prelude.{IfSome}
use Rattle.std.proofs.lemmas.Bool.{cases_lt}
use Rattle.kt_schema.specs.declared.column.Column.{Column}
use Rattle.kt_history.specs.declared.event.Event.{Event}
use Rattle.kt_history.specs.History.{Past}
use Rattle.kt_history.specs.Machine.{Workload, State, IsRunFrom, after, start as start_of}
use Rattle.kt_script.specs.declared.reread.Output.{Output}
use Rattle.kt_script.specs.Places.{IsFault}
use Rattle.kt_script.specs.Outputs.{IsTextOf, HasOutput}
use Rattle.kt_script.specs.Pieces.{cut}
use Rattle.kt_script.specs.Scripts.{Said, Fault, script_of, fault_of, said_unless, said, above_end, start, workload}
use Rattle.kt_script.proofs.Outputs.{one_output}
use Rattle.kt_streams.specs.Outside.{Reads}
use Rattle.kt_streams.proofs.StreamLaws.{read_whole}
use Rattle.kt_judge.specs.declared.verdict.Verdict.{Verdict}
use Rattle.kt_judge.specs.declared.verdict.Verdict.TheVariants as verdict
use Rattle.kt_judge.specs.Verdicts.{IsVerdict}
use Rattle.kt_opening.specs.OpeningTexts.{Found, opening_in}
use Rattle.kt_opening.specs.OpeningPlaces.{IsOpeningPlace}
use Rattle.kt_run_check.specs.declared.answer.Answer.{Answer}
use Rattle.kt_run_check.specs.declared.answer.Answer.TheVariants as answer
use Rattle.kt_run_check.specs.Sources.{script_len, script_part, rest_part}
use Rattle.kt_run_check.specs.Checks.{Spells, SpellsRest, IsPlaceBehind, IsOutputJudged, IsRestJudged, IsJudged, IsNoScript, IsMisplaced, IsTooLong, IsAnswer, status_of, most_read}

-- ---- verdicts

run_front : (work : Workload) (st : State) (es : List Event) (n : ℕ) → IsRunFrom work st es → IsRunFrom work st (take n es)
run_front work st es zero h = tt
run_front work st [] (suc n) h = tt
run_front work st (e ∷ es) (suc n) h = (h.0, run_front work (after work st e) es n h.1)

yes_alone : (work : Workload) (past : Past) (c : ℕ) (out : Output) (v : Verdict) → IsVerdict work past c out v → IsVerdict work past c out verdict.Yes → v ≡ verdict.Yes
yes_alone work past c out verdict.Yes h k = refl
yes_alone work past c out (verdict.NoEvent n) h k = absurd (h.fault (run_front work (start_of work past c) out.events n k.0))
yes_alone work past c out (verdict.NoReply s i) h k = absurd (h.1.wrong (k.1 s i))
yes_alone work past c out verdict.NoEnd h k = absurd (h.2 k.2)

one_status : (work : Workload) (past : Past) (c : ℕ) (out : Output) (v w : Verdict) → IsVerdict work past c out v → IsVerdict work past c out w → status_of (answer.Judged v) ≡ status_of (answer.Judged w)
one_status work past c out v verdict.Yes h k = ap (λ (x : Verdict). status_of (answer.Judged x)) (yes_alone work past c out v h k)
one_status work past c out verdict.Yes w h k = sym (ap (λ (x : Verdict). status_of (answer.Judged x)) (yes_alone work past c out w k h))
one_status work past c out (verdict.NoEvent n) (verdict.NoEvent m) h k = refl
one_status work past c out (verdict.NoEvent n) (verdict.NoReply s i) h k = refl
one_status work past c out (verdict.NoEvent n) verdict.NoEnd h k = refl
one_status work past c out (verdict.NoReply s i) (verdict.NoEvent m) h k = refl
one_status work past c out (verdict.NoReply s i) (verdict.NoReply t j) h k = refl
one_status work past c out (verdict.NoReply s i) verdict.NoEnd h k = refl
one_status work past c out verdict.NoEnd (verdict.NoEvent m) h k = refl
one_status work past c out verdict.NoEnd (verdict.NoReply s i) h k = refl
one_status work past c out verdict.NoEnd verdict.NoEnd h k = refl

-- ---- spellings

same_some : {A : Type 0} (o : Option A) (a b : A) → o ≡ Some a → o ≡ Some b → a ≡ b
same_some o a b p q = cc

found_alike : (columns : List Column) (text : List ℕ) (f g : Found) → opening_in columns text ≡ Ok f → opening_in columns text ≡ Ok g → f ≡ g
found_alike columns text f g p q = cc

same_said : (text : List ℕ) (s t : Said) (f g : Found) (o p : Output) → Spells text s f o → Spells text t g p → s ≡ t
same_said text s t f g o p h k = same_some (script_of (script_part text)) s t h.script k.script

-- a verdict on what a source spells is one on whatever it spells
pub judged_so : (cells : ℕ) (text : List ℕ) (s t : Said) (f g : Found) (o p : Output) (v : Verdict) → Spells text s f o → Spells text t g p → IsVerdict (workload cells t) g.past g.last p v → IsVerdict (workload cells s) f.past f.last o v
judged_so cells text s t f g o p v h k is =
    let said = same_said text s t f g o p h k in
    let rest = subst (λ (x : Said). SpellsRest x.columns (rest_part text) g p) (sym said) k.rest in
    let found = found_alike s.columns (rest_part text) f g h.rest.begins rest.begins in
    let out = one_output (drop f.at (rest_part text)) o p h.rest.goes_on (subst (λ (x : Found). IsTextOf (drop x.at (rest_part text)) p) (sym found) rest.goes_on) in
    subst (λ (x : Output). IsVerdict (workload cells s) f.past f.last x v) (sym out)
    (subst (λ (x : Found). IsVerdict (workload cells s) x.past x.last p v) (sym found)
    (subst (λ (x : Said). IsVerdict (workload cells x) g.past g.last p v) (sym said) is))

judged_alike : (cells : ℕ) (text : List ℕ) (v w : Verdict) → IsJudged cells text v → IsJudged cells text w → status_of (answer.Judged v) ≡ status_of (answer.Judged w)
judged_alike cells text v w h k =
    one_status (workload cells h.said) h.found.past h.found.last h.output v w h.is (judged_so cells text h.said k.said h.found k.found h.output k.output w h.spells k.spells k.is)

-- ---- answers

script_faulty : (text : List ℕ) (s : Said) (f : Fault) → script_of text ≡ Some s → fault_of text ≡ Some f → ⊥
script_faulty text s f is fault = let none = ap (λ x. said_unless x (said (above_end start (cut 10 text)))) (sym fault) ∙ is in cc

line_misplaced : (text : List ℕ) (f : Fault) (place : ℕ) → IsNoScript text f → IsTooLong text place ⊎ IsMisplaced text place → ⊥
line_misplaced text f place h (inl k) = let a = h.small in let b = k.0 in omega (arith, a, b)
line_misplaced text f place h (inr k) = script_faulty (script_part text) k.said f k.script h.is

judged_misplaced : (cells : ℕ) (text : List ℕ) (v : Verdict) (place : ℕ) → IsJudged cells text v → IsTooLong text place ⊎ IsMisplaced text place → ⊥
judged_misplaced cells text v place h (inl k) = let a = h.spells.small in let b = k.0 in omega (arith, a, b)
judged_misplaced cells text v place h (inr k) =
    let said = same_some (script_of (script_part text)) h.said k.said h.spells.script k.script in
    k.none h.found h.output (subst (λ (x : Said). SpellsRest x.columns (rest_part text) h.found h.output) said h.spells.rest)

pub alike : (cells : ℕ) (text : List ℕ) (a b : Answer) → IsAnswer cells text a → IsAnswer cells text b → status_of a ≡ status_of b
alike cells text (answer.Line n r) (answer.Line m q) h k = refl
alike cells text (answer.Line n r) (answer.Judged v) h k = absurd (script_faulty (script_part text) k.said (record { number = n; reason = r }) k.spells.script h.is)
alike cells text (answer.Line n r) (answer.Place p) h k = absurd (line_misplaced text (record { number = n; reason = r }) p h k)
alike cells text (answer.Judged v) (answer.Line m q) h k = absurd (script_faulty (script_part text) h.said (record { number = m; reason = q }) h.spells.script k.is)
alike cells text (answer.Judged v) (answer.Judged w) h k = judged_alike cells text v w h k
alike cells text (answer.Judged v) (answer.Place p) h k = absurd (judged_misplaced cells text v p h k)
alike cells text (answer.Place p) (answer.Line m q) h k = absurd (line_misplaced text (record { number = m; reason = q }) p k h)
alike cells text (answer.Place p) (answer.Judged w) h k = absurd (judged_misplaced cells text w p k h)
alike cells text (answer.Place p) (answer.Place q) h k = refl

-- ---- what was read of a source

-- a source of which so many bytes were read is too long, whatever follows
long_answer : (cells : ℕ) (bytes text : List ℕ) (a : Answer) → most_read < length bytes → length bytes ≤ length text → IsAnswer cells bytes a → IsAnswer cells text a
long_answer cells bytes text (answer.Line n r) long le h = absurd (let a = h.small in omega (arith, a, long))
long_answer cells bytes text (answer.Judged v) long le h = absurd (let a = h.spells.small in omega (arith, a, long))
long_answer cells bytes text (answer.Place p) long le (inl k) = inl (omega (arith, long, le), k.1)
long_answer cells bytes text (answer.Place p) long le (inr k) = absurd (let a = k.small in omega (arith, a, long))

pub answer_by : (cells : ℕ) (old new : Option (List ℕ)) (bytes : List ℕ) (a : Answer) → Reads old new bytes 268435457 → IsAnswer cells bytes a → IfSome old (λ text. IsAnswer cells text a)
answer_by cells None new bytes a reads h = tt
answer_by cells (Some text) new bytes a reads h = elim (cases_lt (length bytes) 268435457) [
  | inl few ↦ subst (λ (t : List ℕ). IsAnswer cells t a) (sym (read_whole (Some text) new bytes 268435457 reads few)) h
  | inr many ↦ long_answer cells bytes text a (omega (arith, many)) (taken_le text new bytes reads) h
]
  where
    taken_le : (text : List ℕ) (new : Option (List ℕ)) (bytes : List ℕ) → Reads (Some text) new bytes 268435457 → length bytes ≤ length text
    taken_le text None bytes r = absurd r.taken
    taken_le text (Some left) bytes r = omega (arith, ap length r.taken, length-append bytes left)

-- ---- an answer of its parts

-- an output is at fault behind an opening
judged_rest : (columns : List Column) (text : List ℕ) (f : Found) (behind : ℕ) → opening_in columns text ≡ Ok f → IsFault HasOutput (drop f.at text) behind → ((o : Output) → IsTextOf (drop f.at text) o → ⊥)
    → IsPlaceBehind columns text (f.at + behind) × ((g : Found) (o : Output) → SpellsRest columns text g o → ⊥)
judged_rest columns text f behind is fault none = (
  inr (f, is, behind, refl, fault),
  λ g o rest. none o (subst (λ (x : Found). IsTextOf (drop x.at text) o) (sym (found_alike columns text f g is rest.begins)) rest.goes_on),
)

-- no opening begins the text
pub stopped_rest : (columns : List Column) (text : List ℕ) (place : ℕ) → IsOpeningPlace columns text place → IsPlaceBehind columns text place × ((g : Found) (o : Output) → SpellsRest columns text g o → ⊥)
stopped_rest columns text place there = (inl there, λ g o rest. let stop = there.1 in let e = rest.begins in cc)

-- what is said of the output behind an opening is said of both
pub rest_judged : (cells : ℕ) (said : Said) (text : List ℕ) (begins : ℕ) (f : Found) (a : Answer) → opening_in said.columns text ≡ Ok f → IsOutputJudged (workload cells said) f.past f.last (drop f.at text) (begins + f.at) a → IsRestJudged cells said text begins a
rest_judged cells said text begins f (answer.Line n r) is h = absurd h
rest_judged cells said text begins f (answer.Judged v) is h = (f, h.0, record { begins = is; goes_on = h.1 }, h.2)
rest_judged cells said text begins f (answer.Place p) is h =
    let both = judged_rest said.columns text f h.0 is h.2 h.3 in
    (f.at + h.0, omega (arith, h.1), both.0, both.1)

pub answered_so : (cells : ℕ) (text : List ℕ) (s : Said) (a : Answer) → length text ≤ most_read → script_of (script_part text) ≡ Some s → IsRestJudged cells s (rest_part text) (script_len text) a → IsAnswer cells text a
answered_so cells text s (answer.Line n r) small script h = absurd h
answered_so cells text s (answer.Judged v) small script h = record { said = s; found = h.0; output = h.1; spells = record { small = small; script = script; rest = h.2 }; is = h.3 }
answered_so cells text s (answer.Place p) small script h = inr (record { small = small; said = s; script = script; none = h.3; behind = h.0; place_is = h.1; there = h.2 })

-- ---- statuses

-- a status that was told is that of each answer to the source
pub one_status_of : (cells other : ℕ) (known : Option ℕ) (left : Option (List ℕ)) (text : List ℕ) (a b : Answer) → known ≡ Some cells → known ≡ Some other → left ≡ Some text → IfSome left (λ t. IsAnswer cells t a) → IsAnswer other text b → status_of a ≡ status_of b
one_status_of cells other known left text a b here there is told h =
    let same : other ≡ cells = cc in
    let first : IsAnswer cells text a = subst (λ (o : Option (List ℕ)). IfSome o (λ t. IsAnswer cells t a)) is told in
    alike cells text a b first (subst (λ (n : ℕ). IsAnswer n text b) same h)

yes_judged : (cells : ℕ) (text : List ℕ) (s : Said) (f : Found) (o : Output) (a : Answer) → status_of a ≡ 0 → Spells text s f o → IsAnswer cells text a → IsVerdict (workload cells s) f.past f.last o verdict.Yes
yes_judged cells text s f o (answer.Line n r) gives spells h = absurd (omega arith)
yes_judged cells text s f o (answer.Judged verdict.Yes) gives spells h = judged_so cells text s h.said f h.found o h.output verdict.Yes spells h.spells h.is
yes_judged cells text s f o (answer.Judged (verdict.NoEvent n)) gives spells h = absurd (omega arith)
yes_judged cells text s f o (answer.Judged (verdict.NoReply i j)) gives spells h = absurd (omega arith)
yes_judged cells text s f o (answer.Judged verdict.NoEnd) gives spells h = absurd (omega arith)
yes_judged cells text s f o (answer.Place p) gives spells h = absurd (omega arith)

-- where status 0 was told of what a source spells, that is a run
pub yes_of : (cells other : ℕ) (known : Option ℕ) (left : Option (List ℕ)) (text : List ℕ) (s : Said) (f : Found) (o : Output) (a : Answer) → known ≡ Some cells → known ≡ Some other → left ≡ Some text → IfSome left (λ t. IsAnswer cells t a) → status_of a ≡ 0 → Spells text s f o
    → IsVerdict (workload other s) f.past f.last o verdict.Yes
yes_of cells other known left text s f o a here there is told gives spells =
    let same : other ≡ cells = cc in
    let first : IsAnswer cells text a = subst (λ (o : Option (List ℕ)). IfSome o (λ t. IsAnswer cells t a)) is told in
    subst (λ (n : ℕ). IsVerdict (workload n s) f.past f.last o verdict.Yes) (sym same) (yes_judged cells text s f o a gives spells first)
