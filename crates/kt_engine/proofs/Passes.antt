-- A pass among those that asked: where it stands, and what a change of it leaves.
use Rattle.std.proofs.Common.{◌≡◌, ◌≢◌, ℕ, zero, suc, ◌<◌, ◌+◌, Bool, true, false, List, [], ◌∷◌, ◌++◌, length, map, get_or, take, drop, add-one, drop-cons, Option, Some, None, refl, sym, ap, ◌∙◌, subst, cond, arith, inl, inr}
use Rattle.std.specs.Prelude.{◌==◌, ◌^◌, ◌-◌, slice_get, set, is_some, MatchOption}
use Rattle.std.specs.List.{list_any, position_from, sum_by}
use Rattle.std.specs.Option.{option_map}
use Rattle.std.proofs.lemmas.Bool.{eq-eqb, ne_eqb, eqb-true, eqb-false}
use Rattle.std.proofs.lemmas.List.{get_or-set_same, take_more, map_push}
use Rattle.std.proofs.lemmas.List.Sums.{sum_by_push}
use Rattle.std.proofs.Math.ListN.{length-set}
use Rattle.kt_pick.specs.declared.rules.Want.{Want}
use Rattle.kt_pick.specs.declared.rules.Want.TheVariants as want
use Rattle.kt_engine.specs.declared.upkeep.Job.{Job}
use Rattle.kt_engine.specs.declared.upkeep.Last.TheVariants as step
use Rattle.kt_engine.specs.declared.upkeep.Upkeep.{Upkeep}
use Rattle.kt_engine.specs.Jobs.{JobView, UpkeepView, UpkeepsView, HasUpkeep, idle, nothing, more, upkeep_at, asked_for_nothing, without_want}
use Rattle.kt_engine.specs.JobSteps.{one_job, names, shares, or_holder, first_holder}
use Rattle.kt_engine.specs.Upkeeps.{job_in, upkeep_of, AreApart, IsThere, Lacks}

abbrev pub views : List Upkeep → List (ℕ × UpkeepView)
views us = map upkeep_of us

at_first : (p : ℕ × UpkeepView) (n : ℕ) (ps : List (ℕ × UpkeepView)) → p.0 ≡ n → upkeep_at n (p ∷ ps) ≡ p.1
at_first p n ps e = ap (λ (b : Bool). cond b p.1 (upkeep_at n ps)) (eq-eqb p.0 n e)

at_rest : (p : ℕ × UpkeepView) (n : ℕ) (ps : List (ℕ × UpkeepView)) → p.0 ≢ n → upkeep_at n (p ∷ ps) ≡ upkeep_at n ps
at_rest p n ps ne = ap (λ (b : Bool). cond b p.1 (upkeep_at n ps)) (ne_eqb p.0 n ne)

-- ---- where a pass stands

lacks_at : (us : List Upkeep) (k n : ℕ) (d : Upkeep) → k < length us → Lacks n us → (get_or us k d).pass ≢ n
lacks_at [] k n d lt l = absurd (omega arith)
lacks_at (u ∷ us) zero n d lt l = l.0
lacks_at (u ∷ us) (suc k) n d lt l = lacks_at us k n d (omega arith) l.1

-- what it has is what stands at its place
pub here : (us : List Upkeep) (k n : ℕ) (d : Upkeep) → k < length us → (get_or us k d).pass ≡ n → AreApart us → upkeep_at n (views us) ≡ (upkeep_of (get_or us k d)).1
here [] k n d lt is apart = absurd (omega arith)
here (u ∷ us) zero n d lt is apart = at_first (upkeep_of u) n (views us) is
here (u ∷ us) (suc k) n d lt is apart = at_rest (upkeep_of u) n (views us) (λ e. lacks_at us k u.pass d (omega arith) apart.0 (is ∙ sym e)) ∙ here us k n d (omega arith) is apart.1

pub place_in : (us : List Upkeep) (k n : ℕ) (d : Upkeep) → k < length (views us) → option_map (λ (u : ℕ × UpkeepView). u.0) (slice_get (views us) k) ≡ Some n → (k < length us) × ((get_or us k d).pass ≡ n)
place_in [] k n d lt at = absurd (omega arith)
place_in (u ∷ us) zero n d lt at = (omega arith, (let e : Some u.pass ≡ Some n = at in cc))
place_in (u ∷ us) (suc k) n d lt at = let rest = place_in us k n d (omega arith) at in (let low = rest.0 in omega arith, rest.1)

pub there_at : (us : List Upkeep) (k n : ℕ) → option_map (λ (u : ℕ × UpkeepView). u.0) (slice_get (views us) k) ≡ Some n → IsThere n (views us)
there_at [] k n at = absurd (let e : None ≡ Some n = at in cc)
there_at (u ∷ us) zero n at = inl (let e : Some u.pass ≡ Some n = at in cc)
there_at (u ∷ us) (suc k) n at = inr (there_at us k n at)

-- ---- a pass that has not asked

pub not_there : (passes : List (ℕ × UpkeepView)) (n : ℕ) → ¬ IsThere n passes → upkeep_at n passes ≡ idle
not_there [] n gone = refl
not_there (p ∷ passes) n gone = at_rest p n passes (λ e. gone (inl e)) ∙ not_there passes n (λ h. gone (inr h))

-- a job is of a pass that asked
pub no_job : (us : List Upkeep) (n : ℕ) (job : JobView) → ¬ IsThere n (views us) → (upkeep_at n (views us)).job ≡ Some job → ⊥
no_job us n job gone has = let e : None ≡ Some job = sym (ap (λ (u : UpkeepView). u.job) (not_there (views us) n gone)) ∙ has in cc

lacks_of : (us : List Upkeep) (n : ℕ) → ¬ IsThere n (views us) → Lacks n us
lacks_of [] n gone = tt
lacks_of (u ∷ us) n gone = (λ e. gone (inl e), lacks_of us n (λ h. gone (inr h)))

lacks_push : (us : List Upkeep) (n : ℕ) (u : Upkeep) → Lacks n us → u.pass ≢ n → Lacks n (us ++ u ∷ [])
lacks_push [] n u l ne = (ne, tt)
lacks_push (x ∷ us) n u l ne = (l.0, lacks_push us n u l.1 ne)

apart_behind : (us : List Upkeep) (n : ℕ) (u : Upkeep) → u.pass ≡ n → Lacks n us → AreApart us → AreApart (us ++ u ∷ [])
apart_behind [] n u is l apart = (tt, tt)
apart_behind (x ∷ us) n u is l apart = (lacks_push us x.pass u apart.0 (λ e. l.0 (sym e ∙ is)), apart_behind us n u is l.1 apart.1)

-- a place for one more
pub apart_push : (us : List Upkeep) (n : ℕ) (u : Upkeep) → u.pass ≡ n → ¬ IsThere n (views us) → AreApart us → AreApart (us ++ u ∷ [])
apart_push us n u is gone apart = apart_behind us n u is (lacks_of us n gone) apart

idle_at : (n k : ℕ) → upkeep_at k ((n, idle) ∷ []) ≡ idle
idle_at n k = elim (n == k) as (λ (b : Bool). cond b idle idle ≡ idle) [ true ↦ refl | false ↦ refl ]

pub placed_same : (us : List Upkeep) (n : ℕ) (u : Upkeep) → upkeep_of u ≡ (n, idle) → (k : ℕ) → upkeep_at k (views (us ++ u ∷ [])) ≡ upkeep_at k (views us)
placed_same [] n u is k = ap (λ (p : ℕ × UpkeepView). upkeep_at k (p ∷ [])) is ∙ idle_at n k
placed_same (x ∷ us) n u is k = ap (λ (v : UpkeepView). cond (x.pass == k) (upkeep_of x).1 v) (placed_same us n u is k)

pub there_pushed : (us : List Upkeep) (n : ℕ) (u : Upkeep) → u.pass ≡ n → IsThere n (views (us ++ u ∷ []))
there_pushed [] n u is = inl is
there_pushed (x ∷ us) n u is = inr (there_pushed us n u is)

-- ---- one that has something else

lacks_set : (us : List Upkeep) (k n : ℕ) (d u : Upkeep) → u.pass ≡ (get_or us k d).pass → Lacks n us → Lacks n (set us k u)
lacks_set [] k n d u same l = tt
lacks_set (x ∷ us) zero n d u same l = (λ e. l.0 (sym same ∙ e), l.1)
lacks_set (x ∷ us) (suc k) n d u same l = (l.0, lacks_set us k n d u same l.1)

pub apart_set : (us : List Upkeep) (k : ℕ) (d u : Upkeep) → u.pass ≡ (get_or us k d).pass → AreApart us → AreApart (set us k u)
apart_set [] k d u same apart = tt
apart_set (x ∷ us) zero d u same apart = (subst (λ (n : ℕ). Lacks n us) (sym same) apart.0, apart.1)
apart_set (x ∷ us) (suc k) d u same apart = (lacks_set us k x.pass d u same apart.0, apart_set us k d u same apart.1)

others_stay : (us : List Upkeep) (k n : ℕ) (d u : Upkeep) → u.pass ≡ (get_or us k d).pass → (get_or us k d).pass ≡ n → (m : ℕ) → m ≢ n → upkeep_at m (views (set us k u)) ≡ upkeep_at m (views us)
others_stay [] k n d u same is m ne = refl
others_stay (x ∷ us) zero n d u same is m ne = at_rest (upkeep_of u) m (views us) (λ e. ne (sym e ∙ (same ∙ is))) ∙ sym (at_rest (upkeep_of x) m (views us) (λ e. ne (sym e ∙ is)))
others_stay (x ∷ us) (suc k) n d u same is m ne = ap (λ (v : UpkeepView). cond (x.pass == m) (upkeep_of x).1 v) (others_stay us k n d u same is m ne)

own_is : (us : List Upkeep) (k n : ℕ) (d u : Upkeep) → k < length us → u.pass ≡ (get_or us k d).pass → (get_or us k d).pass ≡ n → AreApart us → upkeep_at n (views (set us k u)) ≡ (upkeep_of u).1
own_is us k n d u lt same is apart =
    let at = get_or-set_same us k u d lt in
    here (set us k u) k n d (omega (arith, length-set us k u)) (ap (λ (x : Upkeep). x.pass) at ∙ same ∙ is) (apart_set us k d u same apart) ∙ ap (λ (x : Upkeep). (upkeep_of x).1) at

-- so it has what its place is given, and gone other pass has something else
pub changed_to : (f : UpkeepView → UpkeepView) (us : List Upkeep) (k n : ℕ) (d u : Upkeep) (was is : ℕ) (first then : Option ℕ) → k < length us → (get_or us k d).pass ≡ n → u.pass ≡ (get_or us k d).pass → AreApart us → (upkeep_of u).1 ≡ f (upkeep_of (get_or us k d)).1
    → HasUpkeep n (f (upkeep_at n (views us))) (record { passes = views us; begun = was; publishing = first }) (record { passes = views (set us k u); begun = is; publishing = then })
changed_to f us k n d u was is first then lt at same apart own = record {
  own = own_is us k n d u lt same at apart ∙ own ∙ ap f (sym (here us k n d lt at apart));
  others = others_stay us k n d u same at;
}

-- ---- of the one that was found

abbrev pub first_is : ℕ → List (ℕ × UpkeepView) → ℕ → Type 0
first_is n passes k = option_map (λ (u : ℕ × UpkeepView). u.0) (slice_get passes k) ≡ Some n

module _ (us : List Upkeep) (k n : ℕ) (x : Upkeep) (is : x ≡ get_or us k x) (lt : k < length (views us)) (there : first_is n (views us) k) where
  found : (k < length us) × ((get_or us k x).pass ≡ n)
  found = place_in us k n x lt there

  pub has_at : AreApart us → upkeep_at n (views us) ≡ (upkeep_of x).1
  has_at apart = here us k n x found.0 found.1 apart ∙ ap (λ (u : Upkeep). (upkeep_of u).1) (sym is)

  pub job_at : (job : JobView) → AreApart us → (upkeep_at n (views us)).job ≡ Some job → (upkeep_of x).1.job ≡ Some job
  job_at job apart has = sym (ap (λ (u : UpkeepView). u.job) (has_at apart)) ∙ has

  pub no_job_at : AreApart us → (upkeep_at n (views us)).job ≡ None → x.job ≡ None
  no_job_at apart none = none_of x.job (sym (ap (λ (u : UpkeepView). u.job) (has_at apart)) ∙ none)
    where
      none_of : (o : Option Job) → option_map (job_in x.want) o ≡ None → o ≡ None
      none_of None e = refl
      none_of (Some j) e = absurd (let f : Some (job_in x.want j) ≡ None = e in cc)

  pub changed_at : (f : UpkeepView → UpkeepView) (u : Upkeep) (was now : ℕ) (first then : Option ℕ) → u.pass ≡ x.pass → AreApart us → (upkeep_of u).1 ≡ f (upkeep_of x).1
      → HasUpkeep n (f (upkeep_at n (views us))) (record { passes = views us; begun = was; publishing = first }) (record { passes = views (set us k u); begun = now; publishing = then })
  changed_at f u was now first then same apart own =
      changed_to f us k n x u was now first then found.0 found.1 (same ∙ ap (λ (v : Upkeep). v.pass) is) apart (own ∙ ap (λ (v : Upkeep). f (upkeep_of v).1) is)

pub apart_at : (us : List Upkeep) (k : ℕ) (x u : Upkeep) → x ≡ get_or us k x → u.pass ≡ x.pass → AreApart us → AreApart (set us k u)
apart_at us k x u is same apart = apart_set us k x u (same ∙ ap (λ (v : Upkeep). v.pass) is) apart

-- a place is made, and nothing else
pub placed_has : (us vs : List Upkeep) (n : ℕ) (u : Upkeep) (was : ℕ) (first : Option ℕ) → upkeep_of u ≡ (n, idle) → vs ≡ us ++ u ∷ []
    → HasUpkeep n (upkeep_at n (views us)) (record { passes = views us; begun = was; publishing = first }) (record { passes = views vs; begun = was; publishing = first })
placed_has us vs n u was first is more =
    subst (λ (l : List Upkeep). HasUpkeep n (upkeep_at n (views us)) (record { passes = views us; begun = was; publishing = first }) (record { passes = views l; begun = was; publishing = first })) (sym more)
    (record { own = placed_same us n u is n; others = λ k ne. placed_same us n u is k })

-- a place is made, and then it has something else
pub then_has : (f : UpkeepView → UpkeepView) (n : ℕ) (old mid new : UpkeepsView) → HasUpkeep n (upkeep_at n old.passes) old mid → HasUpkeep n (f (upkeep_at n mid.passes)) mid new → HasUpkeep n (f (upkeep_at n old.passes)) old new
then_has f n old mid new first second = record { own = second.own ∙ ap f first.own; others = λ k ne. second.others k ne ∙ first.others k ne }

-- its job comes further twice
pub then_job : (n : ℕ) (a b : JobView) (old mid new : UpkeepsView) → HasUpkeep n (record (upkeep_at n old.passes) { job = Some a }) old mid → HasUpkeep n (record (upkeep_at n mid.passes) { job = Some b }) mid new → HasUpkeep n (record (upkeep_at n old.passes) { job = Some b }) old new
then_job n a b old mid new first second = record { own = second.own ∙ ap (λ (u : UpkeepView). record u { job = Some b }) first.own; others = λ k ne. second.others k ne ∙ first.others k ne }

-- the want of a pass is that of its job
pub want_read : (w : Want) (o : Option Job) (job : JobView) → option_map (job_in w) o ≡ Some job → w ≡ job.want
want_read w None job is = absurd (let no : None ≡ Some job = is in cc)
want_read w (Some found) job is = (let same : job_in w found ≡ job = cc in ap (λ (j : JobView). j.want) same)

-- the job that leaves
pub left_of : (w : Want) (o : Option Job) (job : JobView) → option_map (job_in w) o ≡ Some job → (left : Job) × (o ≡ Some left) × (job_in job.want left ≡ job)
left_of w None job e = absurd (let f : None ≡ Some job = e in cc)
left_of w (Some j) job e =
    let same : job_in w j ≡ job = cc in
    (j, refl, subst (λ (v : Want). job_in v j ≡ job) (ap (λ (v : JobView). v.want) same) same)

-- there was nothing to do for what it asked
pub said_nothing : (x u : Upkeep) (w : Want) (asks : ℕ) → u ≡ record x { asks = asks; last = step.Nothing; want = w; todo = u.todo } → u.todo.items ≡ without_want w x.todo.items → asks ≡ more (2 ^ 64 - 1) x.asks → x.job ≡ None
    → (upkeep_of u).1 ≡ asked_for_nothing w (upkeep_of x).1
said_nothing x u w asks is struck more none =
    let job : option_map (job_in w) x.job ≡ option_map (job_in x.want) x.job = ap (option_map (job_in w)) none ∙ sym (ap (option_map (job_in x.want)) none) in
    ap (λ (v : Upkeep). (upkeep_of v).1) is ∙ (λ i. record { asks = more i; last = nothing w; round = x.round; rounds = x.rounds; todo = struck i; job = job i; done = (upkeep_of x).1.done })

-- ---- where the first of a pass stands

abbrev test : ℕ → Upkeep → Bool
test n u = u.pass == n

abbrev At : List Upkeep → ℕ → ℕ → Option ℕ → Type 0
At us n i o = MatchOption o (¬ IsThere n (views us)) (λ k. (j : ℕ) × (k ≡ i + j) × (j < length (views us)) × first_is n (views us) j)

later : (us : List Upkeep) (u : Upkeep) (n i : ℕ) → u.pass ≢ n → (o : Option ℕ) → At us n (i + 1) o → At (u ∷ us) n i o
later us u n i ne None m = λ h. elim h [ inl e ↦ ne e | inr rest ↦ m rest ]
later us u n i ne (Some k) m = (suc m.0, (let e = m.1 in omega arith), (let lt = m.2 in omega arith), m.3)

first_found : (us : List Upkeep) (n i : ℕ) → At us n i (position_from (test n) i us)
first_found [] n i = λ h. h
first_found (u ∷ us) n i = elim (u.pass == n) as (λ b. (u.pass == n) ≡ b → At (u ∷ us) n i (cond b (Some i) (position_from (test n) (i + 1) us))) [
  | true ↦ λ e. (0, omega arith, omega arith, ap Some (eqb-true u.pass n e))
  | false ↦ λ e. later us u n i (eqb-false u.pass n e) (position_from (test n) (i + 1) us) (first_found us n (i + 1))
] refl

from_zero : (us : List Upkeep) (n : ℕ) (o : Option ℕ) → At us n 0 o → MatchOption o (¬ IsThere n (views us)) (λ k. (k < length (views us)) × first_is n (views us) k)
from_zero us n None m = m
from_zero us n (Some k) m =
    let same : k ≡ m.0 = (let e = m.1 in omega arith) in
    ((let lt = m.2 in omega arith), subst (first_is n (views us)) (sym same) m.3)

pub place_found : (us : List Upkeep) (n : ℕ) (o : Option ℕ) → o ≡ position_from (test n) 0 us → MatchOption o (¬ IsThere n (views us)) (λ k. (k < length (views us)) × first_is n (views us) k)
place_found us n o e = subst (λ (p : Option ℕ). MatchOption p (¬ IsThere n (views us)) (λ k. (k < length (views us)) × first_is n (views us) k)) (sym e) (from_zero us n (position_from (test n) 0 us) (first_found us n 0))

-- ---- who holds an input

drop_at : (us : List Upkeep) (k : ℕ) (x : Upkeep) → k < length us → x ≡ get_or us k x → drop k us ≡ x ∷ drop (k + 1) us
drop_at us k x lt is = rw add-one (drop-cons us k x lt ∙ ap (λ (u : Upkeep). u ∷ drop (suc k) us) (sym is))

-- from a pass on
pub holder_from : (w : Want) (us : List Upkeep) (k : ℕ) (x : Upkeep) → k < length us → x ≡ get_or us k x → first_holder w (views (drop k us)) ≡ or_holder w (upkeep_of x).1.job (first_holder w (views (drop (k + 1) us)))
holder_from w us k x lt is = ap (λ (l : List Upkeep). first_holder w (views l)) (drop_at us k x lt is)

-- a flush is on no rowset
pub none_flush : (rs : List ℕ) → list_any (names want.Flush) rs ≡ false
none_flush [] = refl
none_flush (s ∷ rs) = none_flush rs

pub holder_here : (w : Want) (o : Option JobView) (other : Option ℕ) → is_some (or_holder w o None) ≡ true → or_holder w o other ≡ or_holder w o None
holder_here w None other some = absurd (let f : false ≡ true = some in cc)
holder_here w (Some job) other some = by (shares w job.want) some
  where
    by : (b : Bool) → is_some (cond b (Some job.number) None) ≡ true → cond b (Some job.number) other ≡ cond b (Some job.number) None
    by true e = refl
    by false e = absurd (let f : false ≡ true = e in cc)

pub holder_other : (w : Want) (o : Option JobView) (other : Option ℕ) → is_some (or_holder w o None) ≡ false → or_holder w o other ≡ other
holder_other w None other none = refl
holder_other w (Some job) other none = by (shares w job.want) none
  where
    by : (b : Bool) → is_some (cond b (Some job.number) None) ≡ false → cond b (Some job.number) other ≡ other
    by true e = absurd (let f : true ≡ false = e in cc)
    by false e = refl

-- ---- how many have a job

abbrev pub job_count : ℕ × UpkeepView → ℕ
job_count p = one_job p.1.job

-- one more of them
pub count_more : (us : List Upkeep) (k : ℕ) (u : Upkeep) → k < length us → u ≡ get_or us k u → sum_by job_count (views (take (k + 1) us)) ≡ sum_by job_count (views (take k us)) + one_job (upkeep_of u).1.job
count_more us k u lt is = ap (λ (l : List (ℕ × UpkeepView)). sum_by job_count l) (ap views (take_more us k u lt) ∙ map_push upkeep_of (take k us) (get_or us k u)) ∙ sum_by_push job_count (views (take k us)) (upkeep_of (get_or us k u)) ∙ ap (λ (d : Upkeep). sum_by job_count (views (take k us)) + one_job (upkeep_of d).1.job) (sym is)
