-- What a compaction takes passes.
use Rattle.std.proofs.Common.{◌≡◌, ◌≤◌, ◌<◌, ◌⊎◌, ℕ, Bool, true, List, [], ◌∷◌, map, Some, None, Option, cond, refl, sym, ap, ◌∙◌, subst, inl, inr, arith}
use Rattle.std.proofs.lemmas.Bool.{eq-eqb}
use Rattle.kt_history.specs.declared.change.Change.{Change}
use Rattle.kt_history.specs.Rows.{Row}
use Rattle.kt_history.specs.Stores.{Steps, Hist, row_of, step_at, step_of, never}
use Rattle.kt_histlaws.specs.Fitting.{Rises}
use Rattle.kt_histlaws.specs.Histories.{first_some, AtMostOne}
use Rattle.kt_rowfiles.specs.Files.{rising}
use Rattle.kt_rowfiles.specs.Merging.{all_above, joined_history}
use Rattle.kt_rowfiles.proofs.Options.{or_none}
use Rattle.kt_content.specs.Rules.{Rules, AreRules, RowPasses, ChangePasses, HistPasses}
use Rattle.kt_content.specs.Places.{Super, disk, Held}
use Rattle.kt_content.specs.Content.{EachPasses}
use Rattle.kt_content.specs.InMemory.{Stores, group, hist_at, Mirrors}
use Rattle.kt_content.proofs.Rules.{rows_pass}
use Rattle.kt_joblaws.specs.Apart.{AreApart}
use Rattle.kt_joblaws.specs.ChangesOver.{hists_of}
use Rattle.kt_joblaws.specs.Compacts.{taken_in, AreOf, what_is_taken_passes}
use Rattle.kt_joblaws.proofs.Among.{HasSome, first_has, none_has, one_has}
use Rattle.kt_joblaws.proofs.Compacted.{of_group, group_of}
use Rattle.kt_joblaws.proofs.InMemory.{at_passes, each_passes, passes_at, held_pass}
use Rattle.kt_joblaws.proofs.Joined.{joined_rises, joined_step}

-- ---- a joined history passes where what is shown at each time does

module _ (rules : Rules) (q : List ℕ) (a : ℕ) (hs : List Hist) (apart : AreApart a hs)
    (row : (v : Row) → first_some (map (row_of a) hs) ≡ Some v → (rules.row v ≡ true) × (rules.key q ≡ true))
    (step : (t : ℕ) (c : Change) → a < t → first_some (map (step_of t) hs) ≡ Some c → ChangePasses rules c × (rules.key q ≡ true)) where
  abbrev changes : Steps
  changes = rising (all_above a hs)

  rise : Rises a changes
  rise = joined_rises a hs apart

  key : (o : Option Row) → first_some (map (row_of a) hs) ≡ o → (l : Steps) → changes ≡ l → (joined_history a hs ≡ never) ⊎ (rules.key q ≡ true)
  key (Some v) e l is = inr (row v e).1
  key None e [] is = inl (ap (λ (o : Option Row). record { first = o; steps = changes }) e ∙ ap (λ (l : Steps). record { first = None; steps = l }) is)
  key None e (x ∷ l) is =
      let lt : a < x.0 = (subst (Rises a) is rise).0 in
      inr (step x.0 x.1 lt (sym (joined_step a x.0 hs lt) ∙ ap (step_at x.0) is ∙ ap (λ (b : Bool). cond b (Some x.1) (step_at x.0 l)) (eq-eqb x.0 x.0 refl))).1

  first : (o : Option Row) → first_some (map (row_of a) hs) ≡ o → RowPasses rules o
  first None e = tt
  first (Some v) e = (row v e).0

  pub shown_passes : HistPasses rules q (joined_history a hs)
  shown_passes = record {
    key = key (first_some (map (row_of a) hs)) refl changes refl;
    first = first (first_some (map (row_of a) hs)) refl;
    steps = each_passes rules a changes rise (λ t c lt is. (step t c lt (sym (joined_step a t hs lt) ∙ is)).0);
  }

-- ---- what is shown of the rowsets that are taken is what a place has

module _ (rules : Rules) (are : AreRules rules) (q : List ℕ) (take : ℕ → Bool) (super : Super) (m a : ℕ) (stores : Stores) (held : Held) (low : m ≤ a) (mirrors : Mirrors m super stores held) (each : EachPasses rules q held) (named : AreOf super stores)
    (apart : AreApart a (hists_of (taken_in take stores))) where
  abbrev hs : List Hist
  hs = hists_of (taken_in take stores)

  -- of a place, which shows it too
  shown_there : {B : Type 0} (f : Hist → Option B) (v : B) → AtMostOne (map f hs) → ((r : ℕ) → first_some (map f (group super (disk r) stores)) ≡ f (hist_at (disk r) held)) → first_some (map f hs) ≡ Some v → (r : ℕ) × (f (hist_at (disk r) held) ≡ Some v)
  shown_there {B} f v one at is =
      let place = group_of f take 0 0 super v stores named (first_has v (map f hs) is) in
      (place.0, sym (at place.0) ∙ same place.0 place.1 place.2 (first_some (map f (group super (disk place.0) stores))) refl)
    where
      same : (r : ℕ) → take r ≡ true → HasSome v (map f (group super (disk r) stores)) → (o : Option B) → first_some (map f (group super (disk r) stores)) ≡ o → first_some (map f (group super (disk r) stores)) ≡ Some v
      same r t has None e = absurd (none_has v (map f (group super (disk r) stores)) e has)
      same r t has (Some w) e =
          let there : HasSome w (map f hs) = of_group f take 0 0 super w r stores t (first_has w (map f (group super (disk r) stores)) e) in
          e ∙ sym (one_has w (map f hs) one there) ∙ is

  keyed : (h : Hist) → HistPasses rules q h → (h ≡ never → ⊥) → rules.key q ≡ true
  keyed h p not = elim p.key [
    | inl none ↦ absurd (not none)
    | inr key ↦ key
  ]

  row_there : (v : Row) → first_some (map (row_of a) hs) ≡ Some v → (rules.row v ≡ true) × (rules.key q ≡ true)
  row_there v is =
      let there = shown_there (row_of a) v (apart.one_row a (omega arith)) (λ r. (mirrors (disk r)).rows a low ∙ or_none (row_of a (hist_at (disk r) held))) is in
      let h : Hist = hist_at (disk there.0) held in
      let p : HistPasses rules q h = passes_at rules q (disk there.0) held each in (
        subst (RowPasses rules) there.1 (rows_pass rules q h a (λ c. true) are p).0,
        keyed h p (λ none. let e : None ≡ Some v = sym (ap (row_of a) none) ∙ there.1 in cc),
      )

  step_there : (t : ℕ) (c : Change) → a < t → first_some (map (step_of t) hs) ≡ Some c → ChangePasses rules c × (rules.key q ≡ true)
  step_there t c lt is =
      let there = shown_there (step_of t) c (apart.one_step t lt) (λ r. (mirrors (disk r)).steps t (omega arith) ∙ or_none (step_of t (hist_at (disk r) held))) is in
      let h : Hist = hist_at (disk there.0) held in
      let p : HistPasses rules q h = passes_at rules q (disk there.0) held each in (
        at_passes rules t h.steps c p.steps there.1,
        keyed h p (λ none. let e : None ≡ Some c = sym (ap (step_of t) none) ∙ there.1 in cc),
      )

  pub those_pass : HistPasses rules q (joined_history a hs)
  those_pass = shown_passes rules q a hs apart row_there step_there

pub taken_passes : what_is_taken_passes
taken_passes rules fill take super durable run past live q a are log s told named apart le =
    let k = s.keys q in
    those_pass rules are q take super k.mark a (live.stores q) k.held (let low = k.low in omega arith) k.mirrors (held_pass rules fill super durable run past live q are log s told) named apart
