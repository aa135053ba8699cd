-- Byte strings that one list owns, or several share.
use Rattle.std.specs.Prelude.{ℕ, List}
use Rattle.kt_history.specs.declared.shared_texts.Held.{Held}
use Rattle.kt_history.specs.declared.shared_texts.Held.TheVariants.{Own, Shared}

-- the strings, whoever owns them
abbrev pub held_texts : Held → List (List ℕ)
held_texts (Own texts) = texts
held_texts (Shared part) = part
