-- The inputs of a merge, and the key that comes next in each.
use Rattle.std.specs.Prelude.{◌≡◌, ℕ, Bool, true, false, nat_le, not, List, [], ◌∷◌, map, length, Option, Some, None, if◌then◌else◌}
use Rattle.std.specs.List.{AllByRecursion, filter, flat_map, sum_by}
use Rattle.std.specs.List.Sorted.{IsNonDecreasingBy}
use Rattle.std.specs.Ordering.{is_lt, eq_by_cmp}
use Rattle.kt_history.specs.declared.change.Change.{Change}
use Rattle.kt_history.specs.declared.changes.Delta.{Delta}
use Rattle.kt_history.specs.Rows.{Row, key_cmp}
use Rattle.kt_history.specs.Stores.{Steps, Hist, never, hist_in, row_of}
use Rattle.kt_history.specs.Views.{AreRising, key_above}
use Rattle.kt_histlaws.specs.Histories.{first_some}
use Rattle.kt_rowfiles.specs.Taking.{spanned}
use Rattle.kt_rowfiles.specs.declared.taking.Span.{Span}
use Rattle.kt_diskrowset.specs.Data.{files_in, store_in, keys_of}
use Rattle.kt_diskrowset.specs.Rows.{UndosLeadBack}
use Rattle.kt_merge.specs.Changes.{rises, keys_in, hist_in_changes}
use Rattle.kt_merge.specs.declared.heads.Source.{Source}
use Rattle.kt_merge.specs.declared.heads.Source.TheVariants.{Mem, Rowset}
use Rattle.kt_merge.specs.declared.heads.Head.{Head}

-- the keys of an input, and the history of a key in it
abbrev pub source_keys : Source → List (List ℕ)
source_keys (Mem changes) = keys_in changes.now
source_keys (Rowset d) = keys_of d.now

abbrev pub source_hist : List ℕ → Source → Hist
source_hist q (Mem changes) = hist_in_changes q changes.now
source_hist q (Rowset d) = hist_in q (store_in d.now)

-- it can be read by key: changes stand by rising key, UNDO records lead back, and changes in memory stand in the order of their rows
abbrev pub CanRead : Source → Type 0
CanRead (Mem changes) = rises changes.now ≡ true
CanRead (Rowset d) = UndosLeadBack (files_in d.now) × IsNonDecreasingBy (λ (x : Delta). x.ordinal) d.now.fresh

-- and its keys rise
pub record Stands (s : Source) : Type 0 where
  pub reads : CanRead s
  pub rise : AreRising (source_keys s)

abbrev pub AllStand : List Head → Type 0
AllStand heads = AllByRecursion (λ (h : Head). Stands h.source) heads

-- each head is at the first key above one, or above none
abbrev pub AreAbove : Option (List ℕ) → List Head → Type 0
AreAbove after heads = AllByRecursion (λ (h : Head). h.key ≡ key_above after (source_keys h.source)) heads

-- the lesser of two keys, as far as they are there, and the least of several
abbrev pub lesser : Option (List ℕ) → Option (List ℕ) → Option (List ℕ)
lesser None b = b
lesser (Some a) None = Some a
lesser (Some a) (Some b) = if is_lt (key_cmp b a) then Some b else Some a

abbrev pub least_in : List (Option (List ℕ)) → Option (List ℕ)
least_in [] = None
least_in (key ∷ keys) = lesser key (least_in keys)

abbrev pub keys_next : List Head → List (Option (List ℕ))
keys_next heads = map (λ (h : Head). h.key) heads

-- a key is the one that comes next
abbrev pub is_next : Option (List ℕ) → List ℕ → Bool
is_next None q = false
is_next (Some key) q = eq_by_cmp key_cmp key q

-- the history of a key in an input, where it comes next there
abbrev pub hist_next : List ℕ → Head → Hist
hist_next q h = if is_next h.key q then source_hist q h.source else never

-- of all inputs its row at the mark, and its changes in the span
abbrev pub row_next : Span → List ℕ → List Head → Option Row
row_next span q heads = first_some (map (λ (h : Head). row_of span.mark (hist_next q h)) heads)

abbrev pub steps_next : Span → List ℕ → List Head → Steps
steps_next span q heads = flat_map (λ (h : Head). spanned span (hist_next q h).steps) heads

-- a head that is at a key goes on behind it
abbrev pub passed : List ℕ → Head → Head
passed q h = record h { key = if is_next h.key q then key_above (Some q) (source_keys h.source) else h.key }

-- what an input has of a key up to a bound
abbrev pub hist_upto : ℕ → Hist → Hist
hist_upto bound h = record h { steps = filter (λ (c : ℕ × Change). nat_le c.0 bound) h.steps }

-- how many keys of an input are not gone over: those from the next one on; and of several inputs
abbrev pub left_of : Option (List ℕ) → List (List ℕ) → ℕ
left_of None keys = 0
left_of (Some key) keys = length (filter (λ other. not (is_lt (key_cmp other key))) keys)

abbrev pub keys_left : List Head → ℕ
keys_left heads = sum_by (λ (h : Head). left_of h.key (source_keys h.source)) heads
