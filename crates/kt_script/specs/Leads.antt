-- The first word of a line below the columns: a session's, a load's, or that of a command.
use Rattle.std.specs.Prelude.{ℕ, List, [], ◌∷◌, Option, codes}
use Rattle.std.specs.Option.{option_map, option_or}
use Rattle.kt_base.specs.declared.chore.Chore.{Chore}
use Rattle.kt_base.specs.declared.chore.Chore.TheVariants as chore
use Rattle.kt_script.specs.declared.leads.Word.{Word}
use Rattle.kt_script.specs.declared.leads.Word.TheVariants as word
use Rattle.kt_script.specs.declared.leads.Lead.{Lead}
use Rattle.kt_script.specs.declared.leads.Lead.TheVariants as lead
use Rattle.kt_script.specs.Reasons.{sound}
use Rattle.kt_script.specs.Kinds.{kind_in}
use Rattle.kt_script.specs.Writes.{op_word, op_kind}

-- the word of each chore
abbrev pub chore_word : Chore → List ℕ
chore_word chore.Flush = codes "flush"
chore_word chore.FlushDeltas = codes "flush-deltas"
chore_word chore.Minor = codes "minor"
chore_word chore.Major = codes "major"
chore_word chore.Compact = codes "compact"

-- the chores that are read
abbrev pub chores : List Chore
chores = chore.Flush ∷ chore.FlushDeltas ∷ chore.Minor ∷ chore.Major ∷ chore.Compact ∷ []

abbrev pub chore_in : List ℕ → Option Chore
chore_in text = kind_in chore_word chores text

-- the first word of each command. A write has that of its first operation
abbrev pub command_word : Word → List ℕ
command_word word.Scan = codes "scan"
command_word word.Mark = codes "mark"
command_word (word.Chore c) = chore_word c
command_word (word.Op k) = op_word k

abbrev pub command_in : List ℕ → Option Word
command_in text = option_or (kind_in command_word (word.Scan ∷ word.Mark ∷ []) text) (option_or (option_map word.Chore (chore_in text)) (option_map word.Op (op_kind text)))

abbrev pub lead_word : Lead → List ℕ
lead_word lead.Session = codes "session"
lead_word lead.Load = codes "load"
lead_word (lead.Command w) = command_word w

-- what a line begins, by its first word
abbrev pub lead_in : List ℕ → Option Lead
lead_in text = option_or (kind_in lead_word (lead.Session ∷ lead.Load ∷ []) text) (option_map lead.Command (command_in text))

-- a first word that stands alone
abbrev pub alone_no : List (List ℕ) → ℕ
alone_no [] = 12
alone_no (w ∷ []) = sound
alone_no (w ∷ v ∷ ws) = 12
