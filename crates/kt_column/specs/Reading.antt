-- Reading the values of a block.
use Rattle.std.specs.Prelude.{◌≡◌, ℕ, List, Result, MatchResult}
use Rattle.kt_plain.specs.declared.items.Items.{Items}
use Rattle.kt_plain.specs.Items.{count}
use Rattle.kt_bytes.specs.Places.{IsFault}
use Rattle.kt_plain.specs.Spelling as plain
use Rattle.kt_rle.specs.Spelling as run_length
use Rattle.kt_dict.specs.Spelling as dictionary
use Rattle.kt_front.specs.Reading as prefix
use Rattle.kt_column.specs.declared.errors.Stop.{Stop}
use Rattle.kt_column.specs.declared.errors.Stop.TheVariants.{Memory, Fault}
use Rattle.kt_column.specs.declared.form.Form.{Form}
use Rattle.kt_column.specs.declared.form.Encoding.{Encoding}
use Rattle.kt_column.specs.declared.form.Encoding.TheVariants.{Plain, RunLength, Dictionary, Prefix}
use Rattle.kt_column.specs.declared.held.Values.{Values}
use Rattle.kt_column.specs.Forms.{width, limit}
use Rattle.kt_column.specs.Held.{items_of, encoding_of}
use Rattle.kt_column.specs.Values.{run_width, AreValues, IsEncoded}

-- the bytes are these n values in an encoding
pub record Reads (form : Form) (encoding : Encoding) (n : ℕ) (bytes : List ℕ) (items : Items) : Type 0 where
  pub values : AreValues form items
  pub counted : count items ≡ n
  pub encoded : IsEncoded (width form) encoding items bytes

-- the same, as they are held: in that encoding
pub record ReadsValues (form : Form) (encoding : Encoding) (n : ℕ) (bytes : List ℕ) (values : Values) : Type 0 where
  pub reads : Reads form encoding n bytes (items_of values)
  pub own : encoding_of values ≡ encoding

-- the first fault of bytes that are no n values in an encoding, as its codec places it
abbrev pub IsFaultOf : Form → Encoding → ℕ → List ℕ → ℕ → Type 0
IsFaultOf form Plain n bytes at = IsFault (plain.SpelledWithin (limit form) (width form) n) bytes at
IsFaultOf form RunLength n bytes at = run_length.IsTold (run_width (width form)) n bytes at
IsFaultOf form Dictionary n bytes at = IsFault (dictionary.SpelledWithin (limit form) n) bytes at
IsFaultOf form Prefix n bytes at = prefix.IsFaultWithin (limit form) n bytes at

-- why no values were read
abbrev pub IsStop : Form → Encoding → ℕ → List ℕ → Stop → Type 0
IsStop form encoding n bytes Memory = Unit {0}
IsStop form encoding n bytes (Fault at) = IsFaultOf form encoding n bytes at

-- these, unless memory ran out
abbrev pub IsOrMemory : {X : Type 0} → Result X Stop → X → Type 0
IsOrMemory result x = MatchResult result (λ got. got ≡ x) (λ e. e ≡ Memory)

-- the same of values that are held
abbrev pub HoldsOrMemory : Result Values Stop → Items → Type 0
HoldsOrMemory result items = MatchResult result (λ got. items_of got ≡ items) (λ e. e ≡ Memory)
