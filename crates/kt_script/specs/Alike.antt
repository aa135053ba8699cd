-- Texts that are one but for the order of the names of each operation.
use Rattle.std.specs.Prelude.{◌≡◌, ℕ, Bool, true, false, List, [], ◌∷◌, take, drop, Option, Some, None}
use Rattle.std.specs.List.{filter}
use Rattle.kt_base.specs.Literals.{same}
use Rattle.kt_schema.specs.declared.column.Column.{Column}
use Rattle.kt_history.specs.declared.operation.OpKind.{OpKind}
use Rattle.kt_script.specs.declared.forms.OpForm.{OpForm}
use Rattle.kt_script.specs.declared.forms.OpForm.TheVariants as form
use Rattle.kt_script.specs.Pieces.{cut, words_of}
use Rattle.kt_script.specs.Writes.{name_in, key_len, op_kind, op_form, ops_of}
use Rattle.kt_script.specs.declared.leads.Word.TheVariants as word
use Rattle.kt_script.specs.declared.leads.Lead.{Lead}
use Rattle.kt_script.specs.declared.leads.Lead.TheVariants as lead
use Rattle.kt_script.specs.Scripts.{Said, script_of, load_of, first_lead}
use Rattle.kt_script.specs.Print.{script_text}

-- the words of a name
abbrev pub of_name : List ℕ → List (List ℕ) → List (List ℕ)
of_name name ws = filter (λ word. same name (name_in word)) ws

-- the same words of each name
abbrev pub renamed : List (List ℕ) → List (List ℕ) → Type 0
renamed ws vs = (name : List ℕ) → of_name name ws ≡ of_name name vs

-- behind one key, words NAME=LIT in any order
abbrev pub named_alike : List Column → List (List ℕ) → List (List ℕ) → Type 0
named_alike columns ws vs = (take (key_len columns) ws ≡ take (key_len columns) vs) × renamed (drop (key_len columns) ws) (drop (key_len columns) vs)

-- the words behind an operation's first, by their form: an upsert and an update name cells behind the key
abbrev pub behind_alike : List Column → OpForm → List (List ℕ) → List (List ℕ) → Type 0
behind_alike columns form.Literals ws vs = ws ≡ vs
behind_alike columns form.RowNames ws vs = named_alike columns ws vs
behind_alike columns form.Names ws vs = named_alike columns ws vs
behind_alike columns form.Key ws vs = ws ≡ vs

abbrev pub kind_alike : List Column → Option OpKind → List (List ℕ) → List (List ℕ) → Type 0
kind_alike columns None ws vs = ws ≡ vs
kind_alike columns (Some kind) ws vs = behind_alike columns (op_form kind) ws vs

abbrev pub op_alike : List Column → List (List ℕ) → List (List ℕ) → Type 0
op_alike columns [] [] = Unit {0}
op_alike columns (w ∷ ws) (v ∷ vs) = (w ≡ v) × kind_alike columns (op_kind w) ws vs
op_alike columns _ _ = ⊥

-- operation by operation
abbrev pub ops_alike : List Column → List (List (List ℕ)) → List (List (List ℕ)) → Type 0
ops_alike columns [] [] = Unit {0}
ops_alike columns (ws ∷ ops) (vs ∷ more) = op_alike columns ws vs × ops_alike columns ops more
ops_alike columns _ _ = ⊥

abbrev pub is_write : Option Lead → Bool
is_write (Some (lead.Command (word.Op k))) = true
is_write l = false

-- a write's operations, or the line as it is
abbrev pub alike_as : List Column → Bool → List ℕ → List ℕ → Type 0
alike_as columns true text other = ops_alike columns (ops_of (words_of text)) (ops_of (words_of other))
alike_as columns false text other = text ≡ other

abbrev pub line_alike : List Column → List ℕ → List ℕ → Type 0
line_alike columns text other = alike_as columns (is_write (first_lead (words_of text))) text other

abbrev pub lines_alike : List Column → List (List ℕ) → List (List ℕ) → Type 0
lines_alike columns [] [] = Unit {0}
lines_alike columns (text ∷ lines) (other ∷ others) = line_alike columns text other × lines_alike columns lines others
lines_alike columns _ _ = ⊥

-- line by line
abbrev pub alike : List Column → List ℕ → List ℕ → Type 0
alike columns text other = lines_alike columns (cut 10 text) (cut 10 other)

-- the text of what a text says is that text but for the order of names
abbrev pub texts_are_printed : Type 0
texts_are_printed = (text : List ℕ) (s : Said) → script_of text ≡ Some s → alike s.columns text (script_text (load_of text) s)

-- each order of the names says the same script, by a load line or by sessions
abbrev pub alike_texts_are_read : Type 0
alike_texts_are_read = (text other : List ℕ) (s : Said) → script_of text ≡ Some s → alike s.columns text other → (script_of other ≡ Some s) × (load_of other ≡ load_of text)

-- and no other text does
abbrev pub texts_are_one : Type 0
texts_are_one = (text other : List ℕ) (s : Said) → script_of text ≡ Some s → script_of other ≡ Some s → load_of text ≡ load_of other → alike s.columns text other

-- what a text says is printed, and read again
abbrev pub texts_are_read_again : Type 0
texts_are_read_again = (text : List ℕ) (s : Said) → script_of text ≡ Some s → (script_of (script_text (load_of text) s) ≡ Some s) × (load_of (script_text (load_of text) s) ≡ load_of text)
