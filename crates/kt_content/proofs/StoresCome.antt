-- Stores that come, change and go keep what can be recovered.
use Rattle.std.proofs.Common.{◌≡◌, ℕ, List, [], ◌∷◌, ◌++◌, None, Option, refl, sym, ap, ◌∙◌, arith, cond, true, false, Bool, map}
use Rattle.kt_history.specs.History.{raise}
use Rattle.kt_histlaws.specs.Histories.{first_some, or_else, past_hist}
use Rattle.kt_history.specs.Stores.{Hist, row_of, step_of, never}
use Rattle.kt_loglaws.specs.Fronts.{with_records}
use Rattle.kt_content.specs.Places.{Super, fresh, Place, disk, Held, memory}
use Rattle.kt_content.specs.KeyOps.{seen}
use Rattle.kt_content.specs.InMemory.{Name, Stores, stands_for, is_at, group, Mirrors}
use Rattle.kt_content.specs.Recoverable.Stage.{rests}
use Rattle.kt_content.specs.Keeping.{fresh_tablet, a_fresh_tablet_stands, with_stores, ShowTheSame, alike_stores_keep_a_superblock, other_stores_keep_a_superblock, a_store_that_stands_for_none_is_in_no_group, Comes, a_freeze_keeps_a_superblock}
use Rattle.kt_content.proofs.InMemory.{group_other}
use Rattle.kt_content.proofs.Stages.{stage_stays, key_stands_as}
use Rattle.kt_content.proofs.Fresh.{fresh_empty, nothing_shown}
use Rattle.kt_content.proofs.Lending.{alike_to_never}

-- a fresh tablet

fresh_mirrors : (q : List ℕ) → Mirrors 0 fresh (fresh_tablet.stores q) ((memory, never) ∷ [])
fresh_mirrors q memory = record { rows = λ t le. refl; steps = λ t up. refl; one_row = λ t le. tt; one_step = λ t up. tt }
fresh_mirrors q (disk r) = alike_to_never 0

pub fresh_stands : a_fresh_tablet_stands
fresh_stands rules fill = record {
  low = 0;
  recovered = record { content = fresh_empty rules fill; told = tt; ends = (fresh_empty rules fill).ends; marked = omega arith; low_enough = omega arith; passes = tt };
  up = omega arith;
  below = tt;
  keys = λ q. record {
    mark = 0;
    low = omega arith;
    known = [];
    held = (memory, never) ∷ [];
    shows = never;
    is = refl;
    shown = nothing_shown q;
    mirrors = fresh_mirrors q;
    up = tt;
    stage = rests refl tt (record { rows = λ t le. refl; steps = λ t up. refl });
  };
  names = tt;
  numbers = record { rowsets = tt; records_below = tt; stores = (omega arith, tt); mem = omega arith; deltas = tt };
}

-- stores come, change and go

shows_mirrors : (super : Super) (was now : Stores) (mark : ℕ) (held : Held) → ((p : Place) → ShowTheSame mark (group super p now) (group super p was)) → Mirrors mark super was held → Mirrors mark super now held
shows_mirrors super was now mark held same m p = record {
  rows = λ t le. (same p).rows t le ∙ (m p).rows t le;
  steps = λ t up. (same p).steps t up ∙ (m p).steps t up;
  one_row = (m p).one_row;
  one_step = (m p).one_step;
}

pub alike_keep : alike_stores_keep_a_superblock
alike_keep rules fill super durable run past live stores names numbers s same fresh = record {
  low = s.low;
  recovered = s.recovered;
  up = s.up;
  below = s.below;
  keys = λ q.
      let k = s.keys q in
      let whole = past_hist q (raise (with_records fill past run) super.a) in
      key_stands_as fill super live (with_stores stores names numbers live) (durable ++ run) (durable ++ run) q whole whole k (shows_mirrors super (live.stores q) (stores q) k.mark k.held (same q) k.mirrors) k.up
      (stage_stays fill super k.mark live (with_stores stores names numbers live) q k.held k.shows whole (seen q (durable ++ run) (durable ++ run)) k.known (omega arith) (λ front t op is le. refl) k.stage);
  names = s.names;
  numbers = fresh;
}

pub others_keep : other_stores_keep_a_superblock
others_keep rules fill super durable run past live stores names numbers s same fresh =
    alike_keep rules fill super durable run past live stores names numbers s
    (λ q p. record { rows = λ t le. ap (λ (l : List Hist). first_some (map (row_of t) l)) (same q p); steps = λ t up. ap (λ (l : List Hist). first_some (map (step_of t) l)) (same q p) }) fresh

pub in_no_group : a_store_that_stands_for_none_is_in_no_group
in_no_group super p n none = (λ ts c stores. group_other super p n ts c stores (ap (is_at p) none), out)
  where
    out : (h : Hist) (xs ys : Stores) → group super p (xs ++ (n, h) ∷ ys) ≡ group super p (xs ++ ys)
    out h [] ys = ap (λ b. cond b (h ∷ group super p ys) (group super p ys)) (ap (is_at p) none)
    out h (x ∷ xs) ys = ap (λ l. cond (is_at p (stands_for super x.0)) (x.1 ∷ l) l) (out h xs ys)

-- a store that has nothing shows nothing
came : {A : Type 0} (f : Hist → Option A) (super : Super) (p : Place) (n : Name) (xs ys : Stores) → f never ≡ None → first_some (map f (group super p (xs ++ (n, never) ∷ ys))) ≡ first_some (map f (group super p (xs ++ ys)))
came f super p n [] ys none = elim (is_at p (stands_for super n)) as (λ b. first_some (map f (cond b (never ∷ group super p ys) (group super p ys))) ≡ first_some (map f (group super p ys))) [
  | true ↦ ap (λ o. or_else o (first_some (map f (group super p ys)))) none
  | false ↦ refl
]
came f super p n (x ∷ xs) ys none = either (is_at p (stands_for super x.0)) (came f super p n xs ys none)
  where
    either : (b : Bool) → first_some (map f (group super p (xs ++ (n, never) ∷ ys))) ≡ first_some (map f (group super p (xs ++ ys)))
        → first_some (map f (cond b (x.1 ∷ group super p (xs ++ (n, never) ∷ ys)) (group super p (xs ++ (n, never) ∷ ys)))) ≡ first_some (map f (cond b (x.1 ∷ group super p (xs ++ ys)) (group super p (xs ++ ys))))
    either true rest = ap (or_else (f x.1)) rest
    either false rest = rest

comes_the_same : (super : Super) (p : Place) (n : Name) (was now : Stores) (mark : ℕ) → Comes n was now → ShowTheSame mark (group super p now) (group super p was)
comes_the_same super p n was now mark c = record {
  rows = λ t le. ap (λ (st : Stores). first_some (map (row_of t) (group super p st))) c.after ∙ came (row_of t) super p n c.front c.behind refl ∙ ap (λ (st : Stores). first_some (map (row_of t) (group super p st))) (sym c.before);
  steps = λ t up. ap (λ (st : Stores). first_some (map (step_of t) (group super p st))) c.after ∙ came (step_of t) super p n c.front c.behind refl ∙ ap (λ (st : Stores). first_some (map (step_of t) (group super p st))) (sym c.before);
}

pub freeze_keeps : a_freeze_keeps_a_superblock
freeze_keeps rules fill super durable run past live stores names numbers n s comes fresh =
    alike_keep rules fill super durable run past live stores names numbers s (λ q p. comes_the_same super p n (live.stores q) (stores q) ((s.keys q).mark) (comes q)) fresh
