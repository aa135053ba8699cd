-- The names of a script's columns are short.
use Rattle.std.proofs.Common.{◌≡◌, ℕ, ◌+◌, ◌≤◌, ◌<◌, ◌^◌, Bool, true, false, ◌&&◌, List, [], ◌∷◌, ◌++◌, length, Option, Some, None, refl, sym, subst, arith}
use Rattle.std.specs.Prelude.{if◌then◌else◌, codes}
use Rattle.std.specs.List.{AllByRecursion}
use Rattle.std.proofs.lemmas.Bool.{and_parts}
use Rattle.std.proofs.lemmas.Bool.Decides.{nat_tests}
use Rattle.kt_base.specs.Literals.{same}
use Rattle.kt_base.specs.declared.cell.Kind.{Kind}
use Rattle.kt_schema.specs.declared.column.Column.{Column}
use Rattle.kt_schema.specs.Names.{is_name}
use Rattle.kt_history.specs.declared.command.Command.{Command}
use Rattle.kt_script.specs.declared.leads.Lead.{Lead}
use Rattle.kt_script.specs.declared.leads.Lead.TheVariants as lead
use Rattle.kt_script.specs.Pieces.{words_of}
use Rattle.kt_script.specs.Columns.{ColumnLine, column_line, kind_of, of_kind, marked, with_default, as_key, begins_column, with_column, columns_with}
use Rattle.kt_script.specs.Scripts.{Above, start, head, body, load, led_after, body_after, first_lead, after, above_end, Said, said, script_of}
use Rattle.kt_script.proofs.Cuts.{some_piece}
use Rattle.kt_script.proofs.Spelling.{script_is}

short : (name : List ℕ) → is_name name ≡ true → length name < 2 ^ 8
short [] h = absurd cc
short (b ∷ bytes) h = let few : length bytes ≤ 63 = grind (arith, nat_tests, and_parts) in omega (arith, few)

abbrev AreNamed : List Column → Type 0
AreNamed columns = AllByRecursion (λ (c : Column). length c.name < 2 ^ 8) columns

named_push : (columns : List Column) (c : Column) → AreNamed columns → length c.name < 2 ^ 8 → AreNamed (columns ++ c ∷ [])
named_push [] c all one = (one, tt)
named_push (x ∷ columns) c all one = (all.0, named_push columns c all.1 one)

abbrev NamedAbove : Above → Type 0
NamedAbove start = Unit {0}
NamedAbove (head columns) = AreNamed columns
NamedAbove (body columns plan) = AreNamed columns
NamedAbove (load columns n) = AreNamed columns

-- a line of the body leaves the columns
body_named : (columns : List Column) (plan : List (List Command)) (words : List (List ℕ)) → AreNamed columns → NamedAbove (body_after columns plan words)
body_named columns plan words d = by (first_lead words)
  where
    by : (l : Option Lead) → NamedAbove (led_after columns plan l words)
    by None = d
    by (Some lead.Session) = d
    by (Some lead.Load) = d
    by (Some (lead.Command w)) = d

named_said : (above : Above) → NamedAbove above → AreNamed (said above).columns
named_said start d = tt
named_said (head columns) d = d
named_said (body columns plan) d = d
named_said (load columns n) d = d

-- a column line that is one has a name
module _ (line_named : (words : List (List ℕ)) (c : ColumnLine) → column_line words ≡ Some c → length c.name < 2 ^ 8) where
  column_named : (columns : List Column) (words : List (List ℕ)) (o : Option ColumnLine) → column_line words ≡ o → AreNamed columns → AreNamed (with_column columns o)
  column_named columns words None is all = all
  column_named columns words (Some c) is all = named_push columns _ all (line_named words c is)

  after_named : (above : Above) (line : List ℕ) → NamedAbove above → NamedAbove (after above line)
  after_named start line d = tt
  after_named (head columns) line d = by (begins_column line)
    where
      by : (b : Bool) → NamedAbove (if b then head (columns_with columns line) else body_after columns [] (words_of line))
      by true = column_named columns (words_of line) (column_line (words_of line)) refl d
      by false = body_named columns [] (words_of line) d
  after_named (body columns plan) line d = body_named columns plan (words_of line) d
  after_named (load columns n) line d = d

  all_named : (above : Above) (piece : List ℕ) (pieces : List (List ℕ)) → NamedAbove above → AreNamed (said (above_end above (piece ∷ pieces))).columns
  all_named above rest [] d = named_said above d
  all_named above line (more ∷ pieces) d = all_named (after above line) more pieces (after_named above line d)

  pub names_said : (text : List ℕ) (s : Said) → script_of text ≡ Some s → AreNamed s.columns
  names_said text s e =
      let i = script_is text s e in
      let some = some_piece 10 text in
      subst (λ (x : Said). AreNamed x.columns) i.says (subst (λ ps. AreNamed (said (above_end start ps)).columns) (sym some.2) (all_named start some.0 some.1 tt))

-- the name of a line is its second word
by_default : (name : List ℕ) (kind : Kind) (nullable : Bool) (words : List (List ℕ)) (c : ColumnLine) → with_default name kind nullable words ≡ Some c → c.name ≡ name
by_default name kind nullable [] c is = cc
by_default name kind nullable (w ∷ []) c is = absurd cc
by_default name kind nullable (w ∷ v ∷ []) c is = by (same w (codes "default")) is
  where
    by : (b : Bool) → (if b then Some (record { name = name; kind = kind; key = false; nullable = nullable; default = Some v }) else None) ≡ Some c → c.name ≡ name
    by true e = cc
    by false e = absurd cc
by_default name kind nullable (w ∷ v ∷ u ∷ words) c is = absurd cc

by_key : (name : List ℕ) (kind : Kind) (words : List (List ℕ)) (c : ColumnLine) → as_key name kind words ≡ Some c → c.name ≡ name
by_key name kind [] c is = cc
by_key name kind (w ∷ words) c is = absurd cc

by_mark : (name : List ℕ) (kind : Kind) (words : List (List ℕ)) (c : ColumnLine) → marked name kind words ≡ Some c → c.name ≡ name
by_mark name kind [] c is = by_default name kind false [] c is
by_mark name kind (w ∷ words) c is = by (same w (codes "key")) (same w (codes "nullable")) is
  where
    by : (b d : Bool) → (if b then as_key name kind words else (if d then with_default name kind true words else with_default name kind false (w ∷ words))) ≡ Some c → c.name ≡ name
    by true d e = by_key name kind words c e
    by false true e = by_default name kind true words c e
    by false false e = by_default name kind false (w ∷ words) c e

by_kind : (name : List ℕ) (kind : Option Kind) (words : List (List ℕ)) (c : ColumnLine) → of_kind name kind words ≡ Some c → c.name ≡ name
by_kind name None words c is = absurd cc
by_kind name (Some kind) words c is = by_mark name kind words c is

line_named : (words : List (List ℕ)) (c : ColumnLine) → column_line words ≡ Some c → length c.name < 2 ^ 8
line_named [] c is = absurd cc
line_named (w ∷ []) c is = absurd cc
line_named (w ∷ v ∷ []) c is = absurd cc
line_named (first ∷ name ∷ kind ∷ words) c is = by (same first (codes "column")) (is_name name) refl is
  where
    by : (a b : Bool) → is_name name ≡ b → (if a && b then of_kind name (kind_of kind) words else None) ≡ Some c → length c.name < 2 ^ 8
    by true true named e = subst (λ n. length n < 2 ^ 8) (sym (by_kind name (kind_of kind) words c e)) (short name named)
    by true false named e = absurd cc
    by false b named e = absurd cc

pub said_names : (text : List ℕ) (s : Said) → script_of text ≡ Some s → AreNamed s.columns
said_names = names_said line_named
