-- What stores keep of their rows: the history of each. And the one past that they show.
use Rattle.std.specs.Prelude.{◌≡◌, ◌<◌, ◌≤◌, ℕ, zero, suc, List, [], ◌∷◌, map, Option, Some, None}
use Rattle.std.specs.FinMap.Entries.{find, put}
use Rattle.kt_history.specs.declared.change.Change.{Change}
use Rattle.kt_history.specs.Rows.{key_cmp}
use Rattle.kt_history.specs.History.{Past, PastWrite}
use Rattle.kt_history.specs.Stores.{Steps, Hist, row_of, step_of, push, Store, hist_in}

-- what each store has of a key
abbrev pub hists : List ℕ → List Store → List Hist
hists q stores = map (hist_in q) stores

-- element number n is changed
abbrev pub on_nth : {A : Type 0} → ℕ → (A → A) → List A → List A
on_nth n f [] = []
on_nth zero f (x ∷ xs) = f x ∷ xs
on_nth (suc n) f (x ∷ xs) = x ∷ on_nth n f xs

-- store i takes a change of q
abbrev pub pushed : ℕ → List ℕ → ℕ → Change → List Store → List Store
pushed i q ts c stores = on_nth i (λ s. put key_cmp q (push ts c (hist_in q s)) s) stores

-- lists of options: the first that is there, and that there is one at most
abbrev pub or_else : {A : Type 0} → Option A → Option A → Option A
or_else None o = o
or_else (Some x) o = Some x

abbrev pub first_some : {A : Type 0} → List (Option A) → Option A
first_some [] = None
first_some (x ∷ xs) = or_else x (first_some xs)

abbrev pub AtMostOne : {A : Type 0} → List (Option A) → Type 0
AtMostOne [] = Unit {0}
AtMostOne (None ∷ xs) = AtMostOne xs
AtMostOne (Some x ∷ xs) = first_some xs ≡ None

-- all but the i-th are none
abbrev pub Alone : {A : Type 0} → ℕ → List (Option A) → Type 0
Alone i [] = ⊥
Alone zero (x ∷ xs) = first_some xs ≡ None
Alone (suc i) (x ∷ xs) = (x ≡ None) × Alone i xs

abbrev pub nth_option : {A : Type 0} → ℕ → List (Option A) → Option A
nth_option i [] = None
nth_option zero (x ∷ xs) = x
nth_option (suc i) (x ∷ xs) = nth_option i xs

-- the stores' histories of one key show this one history from a on
pub record ShowsKey (a : ℕ) (hs : List Hist) (whole : Hist) : Type 0 where
  pub rows : (t : ℕ) → a ≤ t → first_some (map (row_of t) hs) ≡ row_of t whole
  pub steps : (t : ℕ) → a < t → first_some (map (step_of t) hs) ≡ step_of t whole
  pub one_row : (t : ℕ) → a ≤ t → AtMostOne (map (row_of t) hs)
  pub one_step : (t : ℕ) → a < t → AtMostOne (map (step_of t) hs)

-- the changes of one key
abbrev pub joined : ℕ → Option Change → Steps → Steps
joined ts None steps = steps
joined ts (Some c) steps = (ts, c) ∷ steps

abbrev pub timeline : List ℕ → List PastWrite → Steps
timeline q [] = []
timeline q (w ∷ writes) = joined w.ts (find key_cmp q w.changes) (timeline q writes)

-- the history of one key
abbrev pub past_hist : List ℕ → Past → Hist
past_hist q past = record { first = find key_cmp q past.base; steps = timeline q past.writes }

-- the stores show this past from a on
abbrev pub Shows : ℕ → List Store → Past → Type 0
Shows a stores past = (q : List ℕ) → ShowsKey a (hists q stores) (past_hist q past)
