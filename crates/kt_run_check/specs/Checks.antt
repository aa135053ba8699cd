-- What the checker answers to a source, and its texts.
use Rattle.std.specs.Prelude.{◌≡◌, ◌≤◌, ◌<◌, ◌+◌, ◌⊎◌, ℕ, List, [], ◌∷◌, length, drop, Some, Ok, codes}
use Rattle.std.specs.Fmt.{decimal}
use Rattle.kt_schema.specs.declared.column.Column.{Column}
use Rattle.kt_history.specs.History.{Past}
use Rattle.kt_history.specs.Machine.{Workload}
use Rattle.kt_script.specs.declared.script.Script.{Script}
use Rattle.kt_script.specs.declared.reread.Output.{Output}
use Rattle.kt_script.specs.Texts.{line, words}
use Rattle.kt_script.specs.Places.{IsFault}
use Rattle.kt_script.specs.Outputs.{IsTextOf, HasOutput}
use Rattle.kt_script.specs.Scripts.{Said, Fault, script_of, fault_of, workload}
use Rattle.kt_judge.specs.declared.verdict.Verdict.{Verdict}
use Rattle.kt_judge.specs.declared.verdict.Verdict.TheVariants as verdict
use Rattle.kt_judge.specs.Verdicts.{IsVerdict}
use Rattle.kt_opening.specs.OpeningTexts.{Found, opening_in}
use Rattle.kt_opening.specs.OpeningPlaces.{IsOpeningPlace}
use Rattle.kt_run_check.specs.declared.answer.Answer.{Answer}
use Rattle.kt_run_check.specs.declared.answer.Answer.TheVariants as answer
use Rattle.kt_run_check.specs.Sources.{script_len, script_part, rest_part}

-- ---- what a source spells

-- the most bytes that a source may have
abbrev pub most_read : ℕ
most_read = 268435456

-- A text spells an opening, and an output behind it.
pub record SpellsRest (columns : List Column) (text : List ℕ) (f : Found) (output : Output) : Type 0 where
  pub begins : opening_in columns text ≡ Ok f
  pub goes_on : IsTextOf (drop f.at text) output

-- A source that is not too long spells a script, and behind it an opening under its columns and an output.
pub record Spells (text : List ℕ) (said : Said) (f : Found) (output : Output) : Type 0 where
  pub small : length text ≤ most_read
  pub script : script_of (script_part text) ≡ Some said
  pub rest : SpellsRest said.columns (rest_part text) f output

-- ---- answers

-- the verdict on a source in its form
pub record IsJudged (cells : ℕ) (text : List ℕ) (verdict : Verdict) : Type 0 where
  pub said : Said
  pub found : Found
  pub output : Output
  pub spells : Spells text said found output
  pub is : IsVerdict (workload cells said) found.past found.last output verdict

-- the first fault of the script of a source that is not too long
pub record IsNoScript (text : List ℕ) (fault : Fault) : Type 0 where
  pub small : length text ≤ most_read
  pub is : fault_of (script_part text) ≡ Some fault

-- Where what stands behind the script is at fault: where no opening goes on, or behind an opening where no output does.
abbrev pub IsPlaceBehind : List Column → List ℕ → ℕ → Type 0
IsPlaceBehind columns text place = IsOpeningPlace columns text place ⊎ ((f : Found) × (opening_in columns text ≡ Ok f) × (far : ℕ) × (place ≡ f.at + far) × IsFault HasOutput (drop f.at text) far)

-- the place of the first fault of a source whose script is one
pub record IsMisplaced (text : List ℕ) (place : ℕ) : Type 0 where
  pub small : length text ≤ most_read
  pub said : Said
  pub script : script_of (script_part text) ≡ Some said
  pub none : (f : Found) (output : Output) → SpellsRest said.columns (rest_part text) f output → ⊥
  pub behind : ℕ
  pub place_is : place ≡ script_len text + behind
  pub there : IsPlaceBehind said.columns (rest_part text) behind

-- a source that is too long
abbrev pub IsTooLong : List ℕ → ℕ → Type 0
IsTooLong text place = (most_read < length text) × (place ≡ most_read)

abbrev pub IsAnswer : ℕ → List ℕ → Answer → Type 0
IsAnswer cells text (answer.Line number reason) = IsNoScript text (record { number = number; reason = reason })
IsAnswer cells text (answer.Judged verdict) = IsJudged cells text verdict
IsAnswer cells text (answer.Place place) = IsTooLong text place ⊎ IsMisplaced text place

-- ---- what is printed

abbrev pub verdict_words : Verdict → List (List ℕ)
verdict_words verdict.Yes = codes "yes" ∷ []
verdict_words (verdict.NoEvent number) = codes "no" ∷ codes "event" ∷ decimal number ∷ []
verdict_words (verdict.NoReply session index) = codes "no" ∷ codes "reply" ∷ decimal session ∷ decimal index ∷ []
verdict_words verdict.NoEnd = codes "no" ∷ codes "end" ∷ []

abbrev pub answer_words : Answer → List (List ℕ)
answer_words (answer.Line number reason) = codes "script" ∷ codes "line" ∷ decimal number ∷ codes "reason" ∷ decimal reason ∷ []
answer_words (answer.Judged verdict) = verdict_words verdict
answer_words (answer.Place place) = codes "check" ∷ codes "place" ∷ decimal place ∷ []

abbrev pub answer_text : Answer → List ℕ
answer_text a = line (words (answer_words a))

abbrev pub status_of : Answer → ℕ
status_of (answer.Line number reason) = 2
status_of (answer.Judged verdict.Yes) = 0
status_of (answer.Judged _) = 8
status_of (answer.Place place) = 9

-- ---- parts of an answer

-- what is said of a text where an output is due, which begins at a place of the source
abbrev pub IsOutputJudged : Workload → Past → ℕ → List ℕ → ℕ → Answer → Type 0
IsOutputJudged work past c text begins (answer.Line number reason) = ⊥
IsOutputJudged work past c text begins (answer.Judged verdict) = (output : Output) × IsTextOf text output × IsVerdict work past c output verdict
IsOutputJudged work past c text begins (answer.Place place) = (far : ℕ) × (place ≡ begins + far) × IsFault HasOutput text far × ((output : Output) → IsTextOf text output → ⊥)

-- what is said of what stands behind a script, which begins at a place of the source
abbrev pub IsRestJudged : ℕ → Said → List ℕ → ℕ → Answer → Type 0
IsRestJudged cells said text begins (answer.Line number reason) = ⊥
IsRestJudged cells said text begins (answer.Judged verdict) = (f : Found) × (output : Output) × SpellsRest said.columns text f output × IsVerdict (workload cells said) f.past f.last output verdict
IsRestJudged cells said text begins (answer.Place place) = (behind : ℕ) × (place ≡ begins + behind) × IsPlaceBehind said.columns text behind × ((f : Found) (output : Output) → SpellsRest said.columns text f output → ⊥)

-- what a script says
abbrev pub said_in : Script → Said
said_in script = record { columns = script.schema; plan = script.plan }
