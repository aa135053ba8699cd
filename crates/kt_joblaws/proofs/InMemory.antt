-- What the MemRowSets in memory have passes.
use Rattle.std.proofs.Common.{◌≡◌, ◌≤◌, ◌<◌, ℕ, List, [], ◌∷◌, ◌++◌, map, length, take, Some, None, Option, true, false, cond, max, refl, sym, ap, ◌∙◌, subst, arith, inl, inr}
use Rattle.std.specs.Prelude.{◌==◌, is_some}
use Rattle.std.specs.Ordering.{eq_by_cmp}
use Rattle.std.proofs.lemmas.Bool.{ne_eqb, eq-eqb}
use Rattle.kt_history.specs.declared.change.Change.{Change}
use Rattle.kt_history.specs.declared.operation.RowOp.{RowOp}
use Rattle.kt_history.specs.History.{Past, raise}
use Rattle.kt_history.specs.Rows.{Row, key_cmp}
use Rattle.kt_history.specs.Stores.{Steps, Hist, row_of, step_at, step_of}
use Rattle.kt_records.specs.declared.entry.Entry.{Entry}
use Rattle.kt_records.specs.declared.entry.Entry.TheVariants.{Replicate, Commit}
use Rattle.kt_records.specs.declared.entry.CommitRow.{CommitRow}
use Rattle.kt_journal.specs.Log.{IsLog}
use Rattle.kt_loglaws.specs.Replay.{commit_of, last_of}
use Rattle.kt_loglaws.specs.Fronts.{with_records}
use Rattle.kt_histlaws.specs.Fitting.{Rises}
use Rattle.kt_histlaws.specs.Histories.{first_some, past_hist}
use Rattle.kt_histlaws.specs.Jobs.{AreAlike}
use Rattle.kt_rowfiles.specs.Files.{rising}
use Rattle.kt_rowfiles.specs.Merging.{all_above, joined_history}
use Rattle.kt_rowfiles.proofs.Options.{or_none}
use Rattle.kt_content.specs.Rules.{Rules, AreRules, RowPasses, ChangePasses, StepsPass, HistPasses}
use Rattle.kt_content.specs.Places.{Super, Place, memory, same_place, Held, at_first}
use Rattle.kt_content.specs.KeyOps.{KeyOp, op_on, seen, played}
use Rattle.kt_content.specs.Content.{AreTold, EachPasses, IsContent}
use Rattle.kt_content.specs.InMemory.{hist_at}
use Rattle.kt_content.specs.MoreOps.{untold}
use Rattle.kt_content.specs.Recoverable.{Resident, Stage, KeyStands, SuperStands}
use Rattle.kt_content.specs.Recoverable.Stage.{rests, waits, applied}
use Rattle.kt_content.specs.Flushes.{EachTold}
use Rattle.kt_content.proofs.Rules.{rows_pass, stores_pass}
use Rattle.kt_content.proofs.Recovering.{each_front}
use Rattle.kt_joblaws.specs.Apart.{AreApart}
use Rattle.kt_joblaws.specs.InMemory.{what_memory_has_passes}
use Rattle.kt_joblaws.proofs.Joined.{joined_rises, joined_step}

-- ---- a history that is alike passes

-- what stands at a time passes
pub at_passes : (rules : Rules) (t : ℕ) (steps : Steps) (c : Change) → StepsPass rules steps → step_at t steps ≡ Some c → ChangePasses rules c
at_passes rules t [] c p is = absurd (cc)
at_passes rules t (x ∷ steps) c p is = elim (x.0 == t) as (λ b. cond b (Some x.1) (step_at t steps) ≡ Some c → ChangePasses rules c) [
  | true ↦ λ e. (let same : x.1 ≡ c = cc in subst (ChangePasses rules) same p.0)
  | false ↦ λ e. at_passes rules t steps c p.1 e
] is

-- changes that rise pass where what stands at each time does
pub each_passes : (rules : Rules) (low : ℕ) (steps : Steps) → Rises low steps → ((t : ℕ) (c : Change) → low < t → step_at t steps ≡ Some c → ChangePasses rules c) → StepsPass rules steps
each_passes rules low [] r f = tt
each_passes rules low (x ∷ steps) r f = (
  f x.0 x.1 r.0 (ap (λ b. cond b (Some x.1) (step_at x.0 steps)) (eq-eqb x.0 x.0 refl)),
  each_passes rules x.0 steps r.1 (λ t c lt is. f t c (omega (arith, r.0)) (ap (λ b. cond b (Some x.1) (step_at t steps)) (ne_eqb x.0 t (λ e. omega arith)) ∙ is)),
)

-- and there are none where none stands at any time
none_stands : (low : ℕ) (steps : Steps) → Rises low steps → ((t : ℕ) → low < t → step_at t steps ≡ None) → steps ≡ []
none_stands low [] r f = refl
none_stands low (x ∷ steps) r f = absurd (let e : Some x.1 ≡ None = sym (ap (λ b. cond b (Some x.1) (step_at x.0 steps)) (eq-eqb x.0 x.0 refl)) ∙ f x.0 r.0 in cc)

-- where one history that passes shows what they show, joined they pass
module _ (rules : Rules) (are : AreRules rules) (q : List ℕ) (m a : ℕ) (hs : List Hist) (h : Hist) (le : m ≤ a) (apart : AreApart a hs) (alike : AreAlike m hs (h ∷ [])) (p : HistPasses rules q h) where
  row : first_some (map (row_of a) hs) ≡ row_of a h
  row = alike.rows a le ∙ or_none (row_of a h)

  step : (t : ℕ) → a < t → step_at t (rising (all_above a hs)) ≡ step_of t h
  step t lt = joined_step a t hs lt ∙ alike.steps t (omega arith) ∙ or_none (step_of t h)

  pub joined_passes : HistPasses rules q (joined_history a hs)
  joined_passes = record {
    key = elim p.key [
      | inl none ↦ inl (
          ap (λ (o : Option Row). record { first = o; steps = rising (all_above a hs) }) (row ∙ ap (row_of a) none)
          ∙ ap (λ (l : Steps). record { first = None; steps = l }) (none_stands a (rising (all_above a hs)) (joined_rises a hs apart) (λ t lt. step t lt ∙ ap (step_of t) none)))
      | inr key ↦ inr key
    ];
    first = subst (RowPasses rules) (sym row) (rows_pass rules q h a (λ c. true) are p).0;
    steps = each_passes rules a (rising (all_above a hs)) (joined_rises a hs apart) (λ t c lt is. at_passes rules t h.steps c p.steps (sym (step t lt) ∙ is));
  }

pub passes_at : (rules : Rules) (q : List ℕ) (p : Place) (held : Held) → EachPasses rules q held → HistPasses rules q (hist_at p held)
passes_at rules q p [] e = record { key = inl refl; first = tt; steps = tt }
passes_at rules q p (h ∷ held) e = elim (same_place p h.0) as (λ b. HistPasses rules q (cond b h.1 (hist_at p held))) [
  | true ↦ e.0
  | false ↦ passes_at rules q p held e.1
]

-- ---- what the log says of a key is told

told_both : (xs ys : List KeyOp) → AreTold xs → AreTold ys → AreTold (xs ++ ys)
told_both [] ys s t = t
told_both (x ∷ xs) ys s t = (s.0, told_both xs ys s.1 t)

told_on : (q : List ℕ) (ts : ℕ) (ops : List RowOp) (rows : List CommitRow) → AreTold (op_on q ts ops (Some rows))
told_on q ts [] rows = tt
told_on q ts (op ∷ ops) [] = tt
told_on q ts (op ∷ ops) (row ∷ rows) = elim (eq_by_cmp key_cmp q op.key) as (λ b. AreTold (cond b (record { ts = ts; op = op; told = Some row.targets } ∷ []) (op_on q ts ops (Some rows)))) [
  | true ↦ (refl, tt)
  | false ↦ told_on q ts ops rows
]

told_seen : (q : List ℕ) (all records : List Entry) → EachTold all records → AreTold (seen q all records)
told_seen q all [] t = tt
told_seen q all (Replicate ts ops ∷ records) t = told_both (op_on q ts ops (commit_of ts all)) (seen q all records) (by (commit_of ts all) t.0) (told_seen q all records t.1)
  where
    by : (o : Option (List CommitRow)) → is_some o ≡ true → AreTold (op_on q ts ops o)
    by None e = absurd (cc)
    by (Some rows) e = told_on q ts ops rows
told_seen q all (Commit ts rows ∷ records) t = told_seen q all records t

told_last : (front : List KeyOp) (ts : ℕ) (op : RowOp) → AreTold (front ++ untold ts op ∷ []) → ⊥
told_last [] ts op t = (let e : false ≡ true = t.0 in cc)
told_last (x ∷ front) ts op t = told_last front ts op t.1

-- ---- the whole

take_all : {A : Type 0} (xs : List A) → take (length xs) xs ≡ xs
take_all [] = refl
take_all (x ∷ xs) = ap (λ l. x ∷ l) (take_all xs)

-- What the places of an opening have of a key passes, while each write has its COMMIT
pub held_pass : (rules : Rules) (fill : Row) (super : Super) (durable run : List Entry) (past : Past) (live : Resident) (q : List ℕ) → AreRules rules → IsLog (durable ++ run)
    → (s : SuperStands rules fill super durable run past live) → EachTold (durable ++ run) (durable ++ run) → EachPasses rules q (s.keys q).held
held_pass rules fill super durable run past live q are log s told =
    let k = s.keys q in
    let ops : List KeyOp = seen q (durable ++ run) (durable ++ run) in
    let known : ops ≡ k.known = from k ops (told_seen q (durable ++ run) (durable ++ run) told) k.stage in
    let all : durable ++ take (length run) run ≡ durable ++ run = ap (λ (l : List Entry). durable ++ l) (take_all run) in
    let last : ℕ = max super.c (last_of (durable ++ take (length run) run)) in
    let held_past : Past = raise (with_records fill past (take (length run) run)) super.a in
    let content : IsContent rules fill super (durable ++ take (length run) run) last held_past = each_front rules fill super durable run s.low past (length run) log s.recovered in
    let here : IsContent rules fill super (durable ++ run) last held_past = subst (λ (l : List Entry). IsContent rules fill super l last held_past) all content in
    stores_pass rules fill super (durable ++ run) last held_past q k.held are here (ap (played fill super (at_first q super)) known ∙ k.is)
  where
    whole : Hist
    whole = past_hist q (raise (with_records fill past run) super.a)

    from : (k : KeyStands fill super live (durable ++ run) q whole) (ops : List KeyOp) → AreTold ops → Stage fill super k.mark live q k.held k.shows whole ops k.known → ops ≡ k.known
    from k ops all (rests same t e) = same
    from k ops all (waits ts op same t lt up at none under e) = absurd (told_last k.known ts op (subst AreTold same all))
    from k ops all (applied front ts op targets same knows t lt up at some tells e) = absurd (told_last front ts op (subst AreTold same all))

pub memory_passes : what_memory_has_passes
memory_passes rules fill super durable run past live q hs a are log s told is apart le =
    let k = s.keys q in
    joined_passes rules are q k.mark a hs (hist_at memory k.held) (let low = k.low in omega arith) apart
    (subst (λ (l : List Hist). AreAlike k.mark l (hist_at memory k.held ∷ [])) is (k.mirrors memory)) (passes_at rules q memory k.held (held_pass rules fill super durable run past live q are log s told))
