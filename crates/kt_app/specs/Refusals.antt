-- The texts of what is refused: a script at its first fault, and devices that are not opened.
use Rattle.std.specs.Prelude.{◌≡◌, List, [], ◌∷◌, ℕ, Option, Some, IfSome, codes}
use Rattle.std.specs.Fmt.{decimal}
use Rattle.kt_script.specs.Scripts.{Said, Fault, script_of, load_of, fault_of}
use Rattle.kt_script.specs.Texts.{line, words}
use Rattle.kt_reopen.specs.declared.why.Why.{Why}
use Rattle.kt_reopen.specs.declared.why.Why.TheVariants as no
use Rattle.kt_app.specs.declared.top.SourceNo.{SourceNo}
use Rattle.kt_app.specs.declared.top.SourceNo.TheVariants as why

-- the source's bytes, where it tells them, say this
abbrev pub IsSaid : Option (List ℕ) → Said → Type 0
IsSaid left said = IfSome left (λ script. script_of script ≡ Some said)

-- and load so many writes a session, where there is such a number
abbrev pub IsLoadSaid : Option (List ℕ) → Option ℕ → Type 0
IsLoadSaid left load = IfSome left (λ script. load_of script ≡ load)

-- the first fault of the source's bytes, where it tells them
abbrev pub IsFaultOf : Option (List ℕ) → Fault → Type 0
IsFaultOf left fault = IfSome left (λ script. fault_of script ≡ Some fault)

-- a script that is refused has this for its first fault
abbrev pub IsRefused : Option (List ℕ) → SourceNo → Type 0
IsRefused left (why.Line number reason) = IsFaultOf left (record { number = number; reason = reason })
IsRefused left why.Failed = Unit {0}
IsRefused left why.Memory = Unit {0}

-- the text of a first fault
abbrev pub fault_text : Fault → List ℕ
fault_text fault = line (words (codes "script" ∷ codes "line" ∷ decimal fault.number ∷ codes "reason" ∷ decimal fault.reason ∷ []))

-- the text of a refusal: its name, and its numbers
abbrev pub refused_text : List (List ℕ) → List ℕ
refused_text numbers = line (words (codes "refused" ∷ numbers))

abbrev pub refusal_text : Why → List ℕ
refusal_text (no.B1 slot offset) = refused_text (codes "B1" ∷ decimal slot ∷ decimal offset ∷ [])
refusal_text (no.B2 file offset) = refused_text (codes "B2" ∷ decimal file ∷ decimal offset ∷ [])
refusal_text (no.B3 offset) = refused_text (codes "B3" ∷ decimal offset ∷ [])
refusal_text (no.B4 need found) = refused_text (codes "B4" ∷ decimal need ∷ decimal found ∷ [])
refusal_text (no.B5 column) = refused_text (codes "B5" ∷ decimal column ∷ [])
refusal_text (no.B6 last) = refused_text (codes "B6" ∷ decimal last ∷ [])
refusal_text no.Fault = line (codes "stopped opening")
refusal_text no.Memory = []
