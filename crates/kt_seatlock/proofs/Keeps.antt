-- Each step of the lock keeps its rule.
use Rattle.std.proofs.Common.{◌≡◌, ℕ, zero, suc, ◌+◌, ◌-◌, ◌%◌, ◌^◌, ◌<◌, ◌≤◌, eqb, cond, ◌≢◌, inl, ⊎_elim, List, [], ◌∷◌, ◌++◌, length, get_or, set, sym, refl, ap, ◌∙◌, subst, arith, length-set, length-append, get_or-set_other, get_or-set_same, eq-eqb, ne_eqb}
use Rattle.std.specs.Prelude.{Option, Some, None}
use mathlib.Core.Logic.{dite}
use mathlib.Core.Option.{none, some, some-injective}
use mathlib.Core.Option as maybe
use native.Mathlib.Decide.{ℕ_discrete}
use lib.ListN.{get_elem?}
use lib.Seq.{set-get_or}
use prog.Atomic.{either}
use Rattle.atomic_table.specs.Table.{State, Me, step, keeps, takes, gives, stepped, Allows, Splits, Joins, Final, Seen, opening}
use Rattle.atomic_table.proofs.Lists.{at_set, set_again, set_here, set_else, at_longer}
use Rattle.kt_seatlock.specs.declared.view.View.{View}
use Rattle.kt_seatlock.specs.declared.view.Joined.{Joined}
use Rattle.kt_seatlock.specs.declared.view.Stage.{Stage}
use Rattle.kt_seatlock.specs.declared.view.Stage.TheVariants.{Vacant, Filling, Outside, Inside, Gone}
use Rattle.kt_seatlock.specs.Trails.{Each, own, Follows, Adds, KeepsParts}
use Rattle.kt_seatlock.specs.Views.{IsLive, lives, got_in, weight, pick, told, first_view, gone_view, both_views, left_view, filling_view, ahead_view, right_view, inside_view, outside_view, filled_view}
use Rattle.kt_seatlock.specs.Rule.{Phase, vacant, filling, free, held, IsFull, InStage, part_at, trail_at, AtTurn, Took, AreKept, HasJustTheirs, Stands, Knows, total, Kept}
use Rattle.kt_seatlock.specs.Steps.{began, counted, took, left, filled}
use Rattle.kt_seatlock.proofs.Trails.{each_map, each_append, at_end, within, only, total_set, total_snoc, others_none, each_behind, follows_self, follows_visit, fresh_visit, follows_longer, own_follows}

module _ {T E P : Type 0} (trail : T → List E) (part : T → ℕ → P) (owner : E → Option ℕ) where
  abbrev V : Type 0
  V = View T E P

  abbrev St : Type 0
  St = State (Option T) V

  abbrev M : Type 0
  M = Me (Option T) V

  abbrev Rule : St → Type 0
  Rule = Kept trail part owner

  abbrev S : Phase T → ℕ → ℕ → (ℕ → ℕ) → ℕ → V → Type 0
  S = Stands trail part owner

  abbrev K : Phase T → ℕ → ℕ → (ℕ → ℕ) → ℕ → V → Type 0
  K = Knows trail part owner

  abbrev Q : Phase T → ℕ → (ℕ → ℕ) → ℕ → ℕ → Joined E P → Type 0
  Q = Took trail part owner

  seats_stay : (Q : ℕ → V → Type 0) (vs : List V) (me : ℕ) (w : V) → Q me w → ((j : ℕ) (d : V) → j ≢ me → get_elem? vs j ≡ some d → Q j d) → (j : ℕ) (d : V) → get_elem? (set vs me w) j ≡ some d → Q j d
  seats_stay Q vs me w mine others j d e = ⊎_elim (λ (t : (j ≡ me) × (w ≡ d)). subst (λ (x : ℕ × V). Q x.0 x.1) (λ i. (sym t.0 i, t.1 i)) mine)
      (λ (t : (j ≢ me) × (get_elem? vs j ≡ some d)). others j d t.0 t.1) (at_set vs me j w d e)

  first_stands : S vacant 1 0 (λ _. 0) 0 first_view
  first_stands = record { mine = refl; below = omega arith; saw = ([], refl, tt); has = refl; took = tt; gives = λ _. (refl, refl, λ k _. refl) }

  pub opens : Rule (opening (0 ∷ 1 ∷ 0 ∷ []) (None ∷ []) first_view)
  opens = record {
    phase = vacant;
    given = 1;
    giver = 0;
    seat_of = λ _. 0;
    three = refl;
    one = refl;
    turn = (refl, refl, refl, refl);
    seats = λ j v e. let t = only first_view v j e in subst (λ (x : ℕ × V). K vacant 1 0 (λ _. 0) x.0 x.1) (λ i. (sym t.0 i, t.1 i)) ((λ _. first_stands), refl);
    whole = refl;
    fresh = λ k _. tt;
  }

  -- a step with no change
  unmoved : (s : St) (r : Rule s) (i id : ℕ) (cs : List (ℕ × Option T)) (v : V) → get_elem? s.views id ≡ some v → Rule (stepped s i (get_or s.words i 0) id cs v keeps)
  unmoved s r i id cs v at = subst (λ (z : List ℕ × List V). Rule record { words = z.0; homes = s.homes; views = z.1 }) (λ k. (sym (set-get_or s.words i 0) k, sym (set_again s.views id v at) k)) r

  -- any change of the word 2
  pub stirs : (slots id : ℕ) (me : M) (f : ℕ → ℕ) → Allows Rule slots id me 2 f (λ _ m. m ≡ me)
  stirs slots id me f s r _ at _ = let n : ℕ = f (get_or s.words 2 0) in (
    me.0,
    keeps,
    tt,
    subst (λ (z : List V). Rule record { words = set s.words 2 n; homes = s.homes; views = z }) (sym (set_again s.views id me.0 at)) record {
      phase = r.phase;
      given = r.given;
      giver = r.giver;
      seat_of = r.seat_of;
      three = length-set s.words 2 n ∙ r.three;
      one = r.one;
      turn = subst (λ (z : ℕ × ℕ). AtTurn trail part owner r.phase z.0 z.1 s.homes s.views)
          (λ i. (sym (get_or-set_other s.words 2 0 n 0 (λ e. omega arith)) i, sym (get_or-set_other s.words 2 1 n 0 (λ e. omega arith)) i)) r.turn;
      seats = r.seats;
      whole = r.whole;
      fresh = r.fresh;
    },
    refl,
  )

  -- what another seat stands for stays so
  stays : (ph ph' : Phase T) (g g' r r' : ℕ) (o o' : ℕ → ℕ) (j : ℕ) (v : V)
      → ((k : ℕ) → k < g → o k ≡ j → (o' k ≡ j) × (part_at part ph' k ≡ part_at part ph k)) → g ≤ g'
      → ((n : ℕ) (seen : List E) → n < g → o n ≡ j → Follows owner n seen (trail_at trail ph) → Follows owner n seen (trail_at trail ph'))
      → (r ≡ j → (g' ≡ g) × (r' ≡ j) × ((k : ℕ) → g ≤ k → part_at part ph' k ≡ part_at part ph k))
      → S ph g r o j v → S ph' g' r' o' j v
  stays ph ph' g g' r r' o o' j v keeps_part more keeps_trail keeps_rights st = let below : v.number < g = st.below in record {
    mine = (keeps_part v.number st.below st.mine).0;
    below = omega arith;
    saw = keeps_trail v.number v.seen st.below st.mine st.saw;
    has = st.has ∙ sym (keeps_part v.number st.below st.mine).1;
    took = each_map (Q ph g o j v.number) (Q ph' g' o' j v.number)
        (λ q h. let low : q.number < g = h.2 in let kept = keeps_part q.number h.2 h.1 in (h.0, kept.0, omega arith, h.3 ∙ sym kept.1, keeps_trail q.number q.seen h.2 h.1 h.4)) v.joined st.took;
    gives = λ some_given. let h = st.gives some_given in let kept = keeps_rights h.1 in (h.0 ∙ sym kept.0, kept.1, λ k le. kept.2 k (subst (λ z. z ≤ k) kept.0 le) ∙ h.2 k (subst (λ z. z ≤ k) kept.0 le));
  }

  -- the weight of all where one seat weighs what it did
  same_weight : (s : St) (r : Rule s) (id : ℕ) (v w : V) → get_elem? s.views id ≡ some v → weight w ≡ weight v → total weight (set s.views id w) ≡ r.given
  same_weight s r id v w at e = let t = total_set weight s.views id v w at in let h = r.whole in omega arith

  live_vacant : (st : Stage T) → st ≡ Vacant → IsLive st
  live_vacant st e = subst IsLive (sym e) tt

  live_filling : (st : Stage T) → st ≡ Filling → IsLive st
  live_filling st e = subst IsLive (sym e) tt

  live_outside : (st : Stage T) → st ≡ Outside → IsLive st
  live_outside st e = subst IsLive (sym e) tt

  live_inside : (st : Stage T) (x : T) → st ≡ Inside x → IsLive st
  live_inside st x e = subst IsLive (sym e) tt

  -- a change of the turn leaves the count
  count_now : (s : St) (n : ℕ) → get_or (set s.words 1 n) 0 0 ≡ get_or s.words 0 0
  count_now s n = get_or-set_other s.words 1 0 n 0 (λ e. omega arith)

  begin_stands : (g r id : ℕ) (o : ℕ → ℕ) (v : V) → S vacant g r o id v → S filling g r o id (filling_view v)
  begin_stands g r id o v st = record { mine = st.mine; below = st.below; saw = st.saw; has = st.has; took = st.took; gives = st.gives }

  pub begins : (slots id : ℕ) (me : M) → me.0.stage ≡ Vacant → Allows Rule slots id me 1 (λ n. n) (began (step slots 1 0 0 none) me)
  begins slots id me is s r _ at _ = let known = r.seats id me.0 at in let ph : r.phase ≡ vacant = subst (InStage r.phase id) is known.1 in
      let turn = subst (λ z. AtTurn trail part owner z (get_or s.words 0 0) (get_or s.words 1 0) s.homes s.views) ph r.turn in let st = subst (λ z. S z r.given r.giver r.seat_of id me.0) ph (known.0 (live_vacant me.0.stage is)) in
      let three : length s.words ≡ 3 = r.three in let w : V = filling_view me.0 in let one : length s.views ≡ 1 = turn.2 in let here : id < length s.views = within s.views id me.0 at in (
        w,
        takes 0 None,
        turn.1,
        record {
          phase = filling;
          given = r.given;
          giver = r.giver;
          seat_of = r.seat_of;
          three = length-set s.words 1 (get_or s.words 1 0) ∙ r.three;
          one = length-set s.homes 0 none ∙ r.one;
          turn = (ap (λ z. z % 2) (get_or-set_same s.words 1 (get_or s.words 1 0) 0 (omega arith)) ∙ turn.0, length-set s.views id w ∙ turn.2, count_now s (get_or s.words 1 0) ∙ turn.3);
          seats = seats_stay (K filling r.given r.giver r.seat_of) s.views id w ((λ _. begin_stands r.given r.giver id r.seat_of me.0 st), refl)
              (λ j d other e. let there : j < length s.views = within s.views j d e in let same : j ≡ id = omega arith in absurd (other same));
          whole = same_weight s r id me.0 w at (ap (λ (z : Stage T). lives z + length me.0.joined) (sym is));
          fresh = λ k _. tt;
        },
        refl,
      )

  abbrev or_else : T → Option T → T
  or_else d None = d
  or_else d (Some y) = y

  abbrev content : T → List (ℕ × Option T) → T
  content d [] = d
  content d (x ∷ xs) = or_else d x.1

  home : (s : St) (r : Rule s) (y : T) → get_elem? (set s.homes 0 (some (Some y))) 0 ≡ some (some (Some y))
  home s r y = let one : length s.homes ≡ 1 = r.one in set_here s.homes 0 (some (Some y)) (omega arith)

  -- what becomes of an odd turn is even
  abbrev MakesEven : (ℕ → ℕ) → Type 0
  MakesEven f = (n : ℕ) → n < 18446744073709551616 → n % 2 ≡ 1 → f n % 2 ≡ 0

  pub up_even : MakesEven (λ n. (n + 1) % 18446744073709551616)
  up_even n small odd = omega arith

  -- it is one at least, so that it does not wrap
  pub down_even : MakesEven (λ n. (n + 18446744073709551615) % 18446744073709551616)
  down_even n small odd = omega arith

  turn_now : (s : St) (r : Rule s) (b n : ℕ) → n % 2 ≡ b → get_or (set s.words 1 n) 1 0 % 2 ≡ b
  turn_now s r b n e = let three : length s.words ≡ 3 = r.three in ap (λ z. z % 2) (get_or-set_same s.words 1 n 0 (omega arith)) ∙ e

  fill_stands : (g r id : ℕ) (o : ℕ → ℕ) (v : V) (y : T) → v.joined ≡ [] → S filling g r o id v → S (free y) g r o id (filled_view trail part v y)
  fill_stands g r id o v y alone st = record {
    mine = st.mine;
    below = st.below;
    saw = follows_self owner v.number (trail y);
    has = refl;
    took = subst (Each (Q (free y) g o id v.number)) (sym alone) tt;
    gives = λ h. let t = st.gives h in (t.0, t.1, λ k _. refl);
  }

  fills_at : (slots id : ℕ) (v : V) (y : T) → v.stage ≡ Filling → v.joined ≡ [] → trail y ≡ [] → Allows Rule slots id (v, (0, Some y) ∷ []) 1 (λ n. (n + 1) % 2 ^ 64) (filled trail part (step slots 1 1 0 none) (v, (0, Some y) ∷ []))
  fills_at slots id v y is alone none_yet s r _ at small = let known = r.seats id v at in let ph : r.phase ≡ filling = subst (InStage r.phase id) is known.1 in
      let turn = subst (λ z. AtTurn trail part owner z (get_or s.words 0 0) (get_or s.words 1 0) s.homes s.views) ph r.turn in let st = subst (λ z. S z r.given r.giver r.seat_of id v) ph (known.0 (live_filling v.stage is)) in
      let w : V = filled_view trail part v y in let one : length s.views ≡ 1 = turn.1 in let here : id < length s.views = within s.views id v at in let n : ℕ = (get_or s.words 1 0 + 1) % 2 ^ 64 in (
        w,
        gives,
        tt,
        record {
          phase = free y;
          given = r.given;
          giver = r.giver;
          seat_of = r.seat_of;
          three = length-set s.words 1 n ∙ r.three;
          one = length-set s.homes 0 (some (Some y)) ∙ r.one;
          turn = (turn_now s r 0 n (up_even (get_or s.words 1 0) small turn.0), home s r y, count_now s n ∙ (turn.2 ∙ sym (ap length none_yet)));
          seats = seats_stay (K (free y) r.given r.giver r.seat_of) s.views id w ((λ _. fill_stands r.given r.giver id r.seat_of v y alone st), tt)
              (λ j d other e. let there : j < length s.views = within s.views j d e in let same : j ≡ id = omega arith in absurd (other same));
          whole = same_weight s r id v w at (ap (λ (z : Stage T). lives z + length v.joined) (sym is));
          fresh = λ k _. subst (Each (λ e. owner e ≢ Some k)) (sym none_yet) tt;
        },
        λ y' e. let same : y ≡ y' = ap (content y) e in (λ k. (filled_view trail part v (same k), [])),
      )

  pub fills : (slots id : ℕ) (me : M) (y : T) → me.0.stage ≡ Filling → me.0.joined ≡ [] → trail y ≡ [] → me.1 ≡ (0, Some y) ∷ [] → Allows Rule slots id me 1 (λ n. (n + 1) % 2 ^ 64) (filled trail part (step slots 1 1 0 none) me)
  fills slots id me y is alone none_yet has = subst (λ (c : List (ℕ × Option T)). Allows Rule slots id (me.0, c) 1 (λ n. (n + 1) % 2 ^ 64) (filled trail part (step slots 1 1 0 none) (me.0, c))) (sym has) (fills_at slots id me.0 y is alone none_yet)

  -- at an even turn a full lock has its value at home
  at_home : (ph : Phase T) (count turn : ℕ) (homes : List (maybe.Option (Option T))) (views : List V) → AtTurn trail part owner ph count turn homes views → turn % 2 ≡ 0 → (x : T) × (ph ≡ free x) × (get_elem? homes 0 ≡ some (some (Some x))) × (count ≡ length (trail x))
  at_home vacant count turn homes views a even = let odd : turn % 2 ≡ 1 = a.0 in absurd (omega arith)
  at_home filling count turn homes views a even = let odd : turn % 2 ≡ 1 = a.0 in absurd (omega arith)
  at_home (free x) count turn homes views a even = (x, refl, a.1, a.2)
  at_home (held j x) count turn homes views a even = let odd : turn % 2 ≡ 1 = a.0 in absurd (omega arith)

  no_more : (a b : ℕ) → a ≡ b → a ≡ b + 0
  no_more a b e = omega arith

  take_stands : (g r id : ℕ) (o : ℕ → ℕ) (v : V) (x : T) → S (free x) g r o id v → S (held id x) g r o id (inside_view trail v x)
  take_stands g r id o v x st = record { mine = st.mine; below = st.below; saw = follows_self owner v.number (trail x); has = st.has; took = st.took; gives = st.gives }

  others_stand : (g r id j : ℕ) (o : ℕ → ℕ) (v : V) (x : T) → S (free x) g r o j v → S (held id x) g r o j v
  others_stand g r id j o v x st = record { mine = st.mine; below = st.below; saw = st.saw; has = st.has; took = st.took; gives = st.gives }

  taken_stage : (x : T) (id j : ℕ) (st : Stage T) → InStage (free x) j st → InStage (held id x) j st
  taken_stage x id j Vacant e = absurd (cc)
  taken_stage x id j Filling e = absurd (cc)
  taken_stage x id j Outside e = tt
  taken_stage x id j (Inside y) e = absurd (cc)
  taken_stage x id j Gone e = tt

  pub takes_turn : (slots id : ℕ) (me : M) (old new : ℕ) → old % 2 ≡ 0 → new ≡ old + 1 → me.0.stage ≡ Outside
      → Allows Rule slots id me 1 (λ n. either (eqb n old) new n) (took trail part owner (step slots 1 old new none) me)
  takes_turn slots id me old new even up is s r _ at small = let n : ℕ = get_or s.words 1 0 in dite (ℕ_discrete n old)
      (λ hit. let known = r.seats id me.0 at in let still : n % 2 ≡ 0 = ap (λ z. z % 2) hit ∙ even in let f = at_home r.phase (get_or s.words 0 0) n s.homes s.views r.turn still in let x : T = f.0 in
      let st = subst (λ z. S z r.given r.giver r.seat_of id me.0) f.1 (known.0 (live_outside me.0.stage is)) in let w : V = inside_view trail me.0 x in (
        w,
        takes 0 (Some x),
        f.2,
        subst (λ b. Rule (stepped s 1 (either b new n) id me.1 w (takes 0 (Some x)))) (sym (eq-eqb n old hit)) record {
          phase = held id x;
          given = r.given;
          giver = r.giver;
          seat_of = r.seat_of;
          three = length-set s.words 1 new ∙ r.three;
          one = length-set s.homes 0 none ∙ r.one;
          turn = (turn_now s r 1 new (omega arith), (w, set_here s.views id w (within s.views id me.0 at), refl, refl, no_more _ _ (count_now s new ∙ f.3)));
          seats = seats_stay (K (held id x) r.given r.giver r.seat_of) s.views id w ((λ _. take_stands r.given r.giver id r.seat_of me.0 x st), refl)
              (λ j d other e. let k = subst (λ z. K z r.given r.giver r.seat_of j d) f.1 (r.seats j d e) in ((λ live. others_stand r.given r.giver id j r.seat_of d x (k.0 live)), taken_stage x id j d.stage k.1));
          whole = same_weight s r id me.0 w at (ap (λ (z : Stage T). lives z + length me.0.joined) (sym is));
          fresh = subst (λ z. (k : ℕ) → r.given ≤ k → Each (λ e. owner e ≢ Some k) (trail_at trail z)) f.1 r.fresh;
        },
        ((λ _. (x, refl, st.saw, st.has)), λ miss. absurd (miss hit)),
      ))
      (λ miss. (
        me.0,
        keeps,
        tt,
        subst (λ b. Rule (stepped s 1 (either b new n) id me.1 me.0 keeps)) (sym (ne_eqb n old miss)) (unmoved s r 1 id me.1 me.0 at),
        ((λ hit. absurd (miss hit)), λ _. refl),
      ))

  leave_stands : (g r id : ℕ) (o : ℕ → ℕ) (v : V) (x y : T) → Adds owner v.number (trail x) (trail y) → KeepsParts part v.number x y → S (held id x) g r o id v → S (free y) g r o id (outside_view trail part v y)
  leave_stands g r id o v x y adds same st = let low : v.number < g = st.below in record {
    mine = st.mine;
    below = st.below;
    saw = follows_self owner v.number (trail y);
    has = refl;
    took = each_map (Q (held id x) g o id v.number) (Q (free y) g o id v.number)
        (λ q h. (h.0, h.1, h.2, h.3 ∙ ap Some (sym (same q.number h.0)), follows_visit owner v.number q.number q.seen (trail x) (trail y) h.0 adds h.4)) v.joined st.took;
    gives = λ h. let t = st.gives h in (t.0, t.1, λ k le. ap Some (same k (λ e. omega arith)) ∙ t.2 k le);
  }

  left_stage : (x y : T) (id j : ℕ) → j ≢ id → (st : Stage T) → InStage (held id x) j st → InStage (free y) j st
  left_stage x y id j other Vacant e = absurd (cc)
  left_stage x y id j other Filling e = absurd (cc)
  left_stage x y id j other Outside e = tt
  left_stage x y id j other (Inside z) e = let same : j ≡ id = cc in absurd (other same)
  left_stage x y id j other Gone e = tt

  leaves_at : (slots id : ℕ) (v : V) (x y : T) (f : ℕ → ℕ) → MakesEven f → v.stage ≡ Inside x → length v.seen + v.ahead ≡ length (trail y) → Adds owner v.number v.seen (trail y) → KeepsParts part v.number x y
      → Allows Rule slots id (v, (0, Some y) ∷ []) 1 f (left trail part (step slots 1 1 0 none) (v, (0, Some y) ∷ []))
  leaves_at slots id v x y f even is long adds_seen same s r _ at small = let known = r.seats id v at in let ph : r.phase ≡ held id x = subst (InStage r.phase id) is known.1 in
      let turn = subst (λ z. AtTurn trail part owner z (get_or s.words 0 0) (get_or s.words 1 0) s.homes s.views) ph r.turn in let st = subst (λ z. S z r.given r.giver r.seat_of id v) ph (known.0 (live_inside v.stage x is)) in
      let low : v.number < r.given = st.below in let here : turn.1.0 ≡ v = some-injective turn.1.0 v (sym turn.1.1 ∙ at) in let whole_seen : v.seen ≡ trail x = ap (λ (z : V). z.seen) (sym here) ∙ turn.1.3 in
      let adds = subst (λ z. Adds owner v.number z (trail y)) whole_seen adds_seen in let w : V = outside_view trail part v y in let n : ℕ = f (get_or s.words 1 0) in (
        w,
        gives,
        tt,
        record {
          phase = free y;
          given = r.given;
          giver = r.giver;
          seat_of = r.seat_of;
          three = length-set s.words 1 n ∙ r.three;
          one = length-set s.homes 0 (some (Some y)) ∙ r.one;
          turn = (turn_now s r 0 n (even (get_or s.words 1 0) small turn.0), home s r y, count_now s n ∙ (turn.1.4 ∙ ((λ i. length (sym whole_seen i) + (here i).ahead) ∙ long)));
          seats = seats_stay (K (free y) r.given r.giver r.seat_of) s.views id w ((λ _. leave_stands r.given r.giver id r.seat_of v x y adds same st), tt)
              (λ j d other e. let k = subst (λ z. K z r.given r.giver r.seat_of j d) ph (r.seats j d e) in
              let apart : (m : ℕ) → r.seat_of m ≡ j → m ≢ v.number = λ m own i. other (sym own ∙ (ap r.seat_of i ∙ st.mine)) in (
                (λ live. stays (held id x) (free y) r.given r.given r.giver r.giver r.seat_of r.seat_of j d (λ m _ own. (own, ap Some (same m (apart m own)))) (omega arith)
                    (λ m seen _ own h. follows_visit owner v.number m seen (trail x) (trail y) (apart m own) adds h) (λ own. (refl, own, λ m le. ap Some (same m (λ i. omega arith)))) (k.0 live)),
                left_stage x y id j other d.stage k.1,
              ));
          whole = same_weight s r id v w at (ap (λ (z : Stage T). lives z + length v.joined) (sym is));
          fresh = λ k le. fresh_visit owner v.number k (trail x) (trail y) (λ i. omega arith) adds (subst (λ z. Each (λ e. owner e ≢ Some k) (trail_at trail z)) ph (r.fresh k le));
        },
        λ y' e. let same_value : y ≡ y' = ap (content y) e in (λ k. (outside_view trail part v (same_value k), [])),
      )

  pub leaves : (slots id : ℕ) (me : M) (v : V) (x y : T) (k : ℕ) → me ≡ (ahead_view v k, (0, Some y) ∷ []) → v.stage ≡ Inside x → length v.seen + k ≡ length (trail y) → Adds owner v.number v.seen (trail y) → KeepsParts part v.number x y
      → Allows Rule slots id me 1 (λ n. (n + 1) % 2 ^ 64) (left trail part (step slots 1 1 0 none) me)
  leaves slots id me v x y k has is long adds same = subst (λ (c : M). Allows Rule slots id c 1 (λ n. (n + 1) % 2 ^ 64) (left trail part (step slots 1 1 0 none) c)) (sym has) (leaves_at slots id (ahead_view v k) x y (λ n. (n + 1) % 2 ^ 64) up_even is long adds same)

  -- a seat that is inside has seen the trail of what it got
  seen_inside : (s : St) (r : Rule s) (id : ℕ) (v : V) (x : T) → v.stage ≡ Inside x → get_elem? s.views id ≡ some v → v.seen ≡ trail x
  seen_inside s r id v x is at = let ph : r.phase ≡ held id x = subst (InStage r.phase id) is (r.seats id v at).1 in
      let turn = subst (λ z. AtTurn trail part owner z (get_or s.words 0 0) (get_or s.words 1 0) s.homes s.views) ph r.turn in
      let here : turn.1.0 ≡ v = some-injective turn.1.0 v (sym turn.1.1 ∙ at) in ap (λ (z : V). z.seen) (sym here) ∙ turn.1.3

  leaves_same_at : (slots id : ℕ) (v : V) (x : T) → v.stage ≡ Inside x → v.ahead ≡ 0
      → Allows Rule slots id (v, (0, Some x) ∷ []) 1 (λ n. (n + (2 ^ 64 - 1)) % 2 ^ 64) (left trail part (step slots 1 1 0 none) (v, (0, Some x) ∷ []))
  leaves_same_at slots id v x is level s r all at small = let whole_seen = seen_inside s r id v x is at in let long : length v.seen ≡ length (trail x) = ap length whole_seen in
      leaves_at slots id v x x (λ n. (n + (2 ^ 64 - 1)) % 2 ^ 64) down_even is (omega arith) (inl (sym whole_seen)) (λ _ _. refl) s r all at small

  pub leaves_same : (slots id : ℕ) (me : M) (x : T) → me.1 ≡ (0, Some x) ∷ [] → me.0.stage ≡ Inside x → me.0.ahead ≡ 0
      → Allows Rule slots id me 1 (λ n. (n + (2 ^ 64 - 1)) % 2 ^ 64) (left trail part (step slots 1 1 0 none) me)
  leaves_same slots id me x has is level = subst (λ (c : List (ℕ × Option T)). Allows Rule slots id (me.0, c) 1 (λ n. (n + (2 ^ 64 - 1)) % 2 ^ 64) (left trail part (step slots 1 1 0 none) (me.0, c))) (sym has) (leaves_same_at slots id me.0 x is level)

  -- a seat that got x is inside with it
  pub got_inside : (st : Stage T) (x : T) → got_in st ≡ Some x → st ≡ Inside x
  got_inside Vacant x e = absurd (cc)
  got_inside Filling x e = absurd (cc)
  got_inside Outside x e = absurd (cc)
  got_inside (Inside y) x e = let same : y ≡ x = cc in ap Inside same
  got_inside Gone x e = absurd (cc)

  -- a seat that got a value is inside
  pub inside_of : (st : Stage T) → got_in st ≢ None → (x : T) × (st ≡ Inside x)
  inside_of Vacant ne = absurd (ne refl)
  inside_of Filling ne = absurd (ne refl)
  inside_of Outside ne = absurd (ne refl)
  inside_of (Inside x) ne = (x, refl)
  inside_of Gone ne = absurd (ne refl)

  count_stands : (ph : Phase T) (g r id k : ℕ) (o : ℕ → ℕ) (v : V) → S ph g r o id v → S ph g r o id (ahead_view v k)
  count_stands ph g r id k o v st = record { mine = st.mine; below = st.below; saw = st.saw; has = st.has; took = st.took; gives = st.gives }

  one_more : (n m a : ℕ) → n ≡ m + a → m + a + 1 < 18446744073709551616 → (n + 1) % 18446744073709551616 ≡ m + (a + 1)
  one_more n m a e room = omega arith

  -- the seat inside counts an entry
  pub counts : (slots id : ℕ) (me : M) (x : T) → me.0.stage ≡ Inside x → length me.0.seen + me.0.ahead + 1 < 18446744073709551616 → Allows Rule slots id me 0 (λ n. (n + 1) % 2 ^ 64) (counted (step slots 0 1 0 none) me)
  counts slots id me x is room s r _ at small = let known = r.seats id me.0 at in let ph : r.phase ≡ held id x = subst (InStage r.phase id) is known.1 in
      let turn = subst (λ z. AtTurn trail part owner z (get_or s.words 0 0) (get_or s.words 1 0) s.homes s.views) ph r.turn in
      let st = subst (λ z. S z r.given r.giver r.seat_of id me.0) ph (known.0 (live_inside me.0.stage x is)) in
      let here : turn.1.0 ≡ me.0 = some-injective turn.1.0 me.0 (sym turn.1.1 ∙ at) in
      let whole_seen : me.0.seen ≡ trail x = ap (λ (z : V). z.seen) (sym here) ∙ turn.1.3 in let was : get_or s.words 0 0 ≡ length (trail x) + me.0.ahead = turn.1.4 ∙ ap (λ (z : V). length (trail x) + z.ahead) here in
      let fits : length (trail x) + me.0.ahead + 1 < 18446744073709551616 = subst (λ (z : List E). length z + me.0.ahead + 1 < 18446744073709551616) whole_seen room in
      let three : length s.words ≡ 3 = r.three in
      let w : V = ahead_view me.0 (me.0.ahead + 1) in let n : ℕ = (get_or s.words 0 0 + 1) % 2 ^ 64 in (
        w,
        keeps,
        tt,
        record {
          phase = held id x;
          given = r.given;
          giver = r.giver;
          seat_of = r.seat_of;
          three = length-set s.words 0 n ∙ r.three;
          one = r.one;
          turn = (
            ap (λ z. z % 2) (get_or-set_other s.words 0 1 n 0 (λ e. omega arith)) ∙ turn.0,
            (w, set_here s.views id w (within s.views id me.0 at), is, whole_seen, get_or-set_same s.words 0 n 0 (omega arith) ∙ one_more (get_or s.words 0 0) (length (trail x)) me.0.ahead was fits),
          );
          seats = seats_stay (K (held id x) r.given r.giver r.seat_of) s.views id w ((λ _. count_stands (held id x) r.given r.giver id (me.0.ahead + 1) r.seat_of me.0 st), subst (InStage (held id x) id) (sym is) refl)
              (λ j d other e. subst (λ z. K z r.given r.giver r.seat_of j d) ph (r.seats j d e));
          whole = same_weight s r id me.0 w at refl;
          fresh = subst (λ z. (k : ℕ) → r.given ≤ k → Each (λ e. owner e ≢ Some k) (trail_at trail z)) ph r.fresh;
        },
        refl,
      )

  -- the turn's facts stay where each seat that is inside keeps its view
  turn_stays : (ph : Phase T) (count turn : ℕ) (homes : List (maybe.Option (Option T))) (vs vs' : List V) → IsFull ph → AtTurn trail part owner ph count turn homes vs
      → ((j : ℕ) (d : V) (x : T) → get_elem? vs j ≡ some d → d.stage ≡ Inside x → get_elem? vs' j ≡ some d) → AtTurn trail part owner ph count turn homes vs'
  turn_stays vacant count turn homes vs vs' full a same = absurd full
  turn_stays filling count turn homes vs vs' full a same = absurd full
  turn_stays (free x) count turn homes vs vs' full a same = a
  turn_stays (held j x) count turn homes vs vs' full a same = (a.0, (a.1.0, same j a.1.0 x a.1.1 a.1.2, a.1.2, a.1.3, a.1.4))

  -- a seat that is outside is not one that is inside
  not_inside : (vs : List V) (id j : ℕ) (v d : V) (x : T) → get_elem? vs id ≡ some v → v.stage ≡ Outside → get_elem? vs j ≡ some d → d.stage ≡ Inside x → j ≢ id
  not_inside vs id j v d x at out e inn same = let q : v ≡ d = some-injective v d (sym at ∙ ap (get_elem? vs) (sym same) ∙ e) in let z : Inside x ≡ Outside = sym inn ∙ (ap (λ (y : V). y.stage) (sym q) ∙ out) in absurd (cc)

  abbrev owned : (ℕ → ℕ) → ℕ → ℕ → ℕ → ℕ
  owned o g new k = cond (eqb k g) new (o k)

  owned_else : (o : ℕ → ℕ) (g new k : ℕ) → k ≢ g → owned o g new k ≡ o k
  owned_else o g new k ne = ap (λ b. cond b new (o k)) (ne_eqb k g ne)

  owned_here : (o : ℕ → ℕ) (g new k : ℕ) → k ≡ g → owned o g new k ≡ new
  owned_here o g new k e = ap (λ b. cond b new (o k)) (eq-eqb k g e)

  left_stands : (ph : Phase T) (g r id new : ℕ) (o : ℕ → ℕ) (v : V) → v.given ≡ g → r ≡ id → S ph g r o id v → S ph (g + 1) r (owned o g new) id (left_view v)
  left_stands ph g r id new o v gave mine st = let low : v.number < g = st.below in record {
    mine = owned_else o g new v.number (λ e. omega arith) ∙ st.mine;
    below = omega arith;
    saw = st.saw;
    has = st.has;
    took = each_map (Q ph g o id v.number) (Q ph (g + 1) (owned o g new) id v.number)
        (λ q h. let low : q.number < g = h.2 in (h.0, owned_else o g new q.number (λ e. omega arith) ∙ h.1, omega arith, h.3, h.4)) v.joined st.took;
    gives = λ _. (omega arith, mine, λ k le. (st.gives (λ e. omega arith)).2 k (omega arith));
  }

  right_stands : (ph : Phase T) (g r id new : ℕ) (o : ℕ → ℕ) (v : V) → v.given ≡ g → S ph g r o id v → ((k : ℕ) → g ≤ k → Each (λ e. owner e ≢ Some k) (trail_at trail ph)) → S ph (g + 1) r (owned o g new) new (right_view part v)
  right_stands ph g r id new o v gave st fresh = let low : v.number < g = st.below in record {
    mine = owned_here o g new v.given gave;
    below = omega arith;
    saw = (st.saw.0, st.saw.1, each_behind (λ e. owner e ≢ Some v.given) v.seen st.saw.0 (subst (Each (λ e. owner e ≢ Some v.given)) st.saw.1 (fresh v.given (omega arith))));
    has = sym ((st.gives (λ e. omega arith)).2 v.given (omega arith));
    took = tt;
    gives = λ h. absurd (h refl);
  }

  pub splits : (id : ℕ) (v : V) → v.stage ≡ Outside → v.given ≢ 0 → Splits Rule id v (left_view v) (right_view part v)
  splits id v is some_given s r at = let known = r.seats id v at in let st = known.0 (live_outside v.stage is) in let full : IsFull r.phase = subst (InStage r.phase id) is known.1 in
      let rights = st.gives some_given in let g : ℕ = r.given in let new : ℕ = length s.views in let o' : ℕ → ℕ = owned r.seat_of g new in let vs : List V = set s.views id (left_view v) in
      let one_more = length-set s.views id (left_view v) in record {
        phase = r.phase;
        given = g + 1;
        giver = r.giver;
        seat_of = o';
        three = r.three;
        one = r.one;
        turn = turn_stays r.phase (get_or s.words 0 0) (get_or s.words 1 0) s.homes s.views (vs ++ right_view part v ∷ []) full r.turn
            (λ j d x e inn. at_longer vs (right_view part v ∷ []) j d (set_else s.views id j (left_view v) (not_inside s.views id j v d x at is e inn) ∙ e));
        seats = λ j d e. ⊎_elim
            (λ (h : get_elem? vs j ≡ some d). seats_stay (K r.phase (g + 1) r.giver o') s.views id (left_view v)
            ((λ _. left_stands r.phase g r.giver id new r.seat_of v rights.0 rights.1 st), known.1)
            (λ i y other e. let k = r.seats i y e in (
              (λ live. stays r.phase r.phase g (g + 1) r.giver r.giver r.seat_of o' i y (λ m low own. (owned_else r.seat_of g new m (λ z. omega arith) ∙ own, refl)) (omega arith)
                  (λ m seen _ _ f. f) (λ own. absurd (other (sym own ∙ rights.1))) (k.0 live)),
              k.1,
            )) j d h)
            (λ (h : (j ≡ length vs) × (right_view part v ≡ d)). subst (λ (z : ℕ × V). K r.phase (g + 1) r.giver o' z.0 z.1) (λ i. (sym (h.0 ∙ one_more) i, h.1 i))
            ((λ _. right_stands r.phase g r.giver id new r.seat_of v rights.0 st r.fresh), full))
            (at_end vs (right_view part v) d j e);
        whole = let a = total_snoc weight vs (right_view part v) in let b = same_weight s r id v (left_view v) at refl in omega arith;
        fresh = λ k le. r.fresh k (omega arith);
      }

  abbrev moved : ℕ → ℕ → ℕ → ℕ
  moved other id m = cond (eqb m other) id m

  moved_else : (other id m : ℕ) → m ≢ other → moved other id m ≡ m
  moved_else other id m ne = ap (λ b. cond b id m) (ne_eqb m other ne)

  moved_here : (other id m : ℕ) → m ≡ other → moved other id m ≡ id
  moved_here other id m e = ap (λ b. cond b id m) (eq-eqb m other e)

  picked : (n : ℕ) (a b : Option T) → n ≢ 0 → pick n a b ≡ a
  picked zero a b ne = absurd (ne refl)
  picked (suc n) a b ne = refl

  not_picked : (n : ℕ) (a b : Option T) → n ≡ 0 → pick n a b ≡ b
  not_picked zero a b e = refl
  not_picked (suc n) a b e = absurd (omega arith)

  both_stand : (ph : Phase T) (g r id other : ℕ) (o : ℕ → ℕ) (v w : V) → other ≢ id → S ph g r o id v → S ph g r o other w → S ph g (moved other id r) (λ k. moved other id (o k)) id (both_views v w)
  both_stand ph g r id other o v w apart a b = let back : (k : ℕ) → o k ≡ other → moved other id (o k) ≡ id = λ k e. moved_here other id (o k) e in
      let stay : (k : ℕ) → o k ≡ id → moved other id (o k) ≡ id = λ k e. moved_else other id (o k) (λ z. apart (sym z ∙ e)) ∙ e in
      let differ : (k : ℕ) → o k ≡ other → k ≢ v.number = λ k e z. apart (sym e ∙ (ap o z ∙ a.mine)) in
      let R : Joined E P → Type 0 = Q ph g (λ k. moved other id (o k)) id v.number in record {
        mine = stay v.number a.mine;
        below = a.below;
        saw = follows_longer owner v.number w.number v.seen w.seen (trail_at trail ph) a.saw b.saw;
        has = a.has;
        took = (
          (differ w.number b.mine, back w.number b.mine, b.below, b.has, b.saw),
          each_append R w.joined v.joined
              (each_map (Q ph g o other w.number) R (λ q h. (differ q.number h.1, back q.number h.1, h.2, h.3, h.4)) w.joined b.took)
              (each_map (Q ph g o id v.number) R (λ q h. (h.0, stay q.number h.1, h.2, h.3, h.4)) v.joined a.took),
        );
        gives = λ some_given. dite (ℕ_discrete v.given 0)
            (λ none_given. let t = b.gives (λ z. some_given (omega arith)) in (
              omega (arith, t.0),
              moved_here other id r t.1,
              λ k le. t.2 k le ∙ ap (λ z. told part z k) (sym (not_picked v.given v.filled w.filled none_given)),
            ))
            (λ gave. let t = a.gives gave in let none_there : w.given ≡ 0 = dite (ℕ_discrete w.given 0) (λ z. z) (λ z. absurd (apart (sym (b.gives z).1 ∙ t.1))) in (
              omega (arith, t.0),
              moved_else other id r (λ z. apart (sym z ∙ t.1)) ∙ t.1,
              λ k le. t.2 k le ∙ ap (λ z. told part z k) (sym (picked v.given v.filled w.filled gave)),
            ));
      }

  pub joins : (id : ℕ) (v : V) (other : ℕ) (w : V) → v.stage ≡ Outside → w.stage ≡ Outside → Joins Rule id v other w (both_views v w) gone_view
  joins id v other w is was s r at apart there = let known = r.seats id v at in let st = known.0 (live_outside v.stage is) in let full : IsFull r.phase = subst (InStage r.phase id) is known.1 in
      let both : V = both_views v w in let at' : get_elem? s.views other ≡ some w = sym (set_else s.views id other both apart) ∙ there in let su = (r.seats other w at').0 (live_outside w.stage was) in
      let r' : ℕ = moved other id r.giver in let o' : ℕ → ℕ = λ k. moved other id (r.seat_of k) in let vs : List V = set s.views id both in
      let one_v : lives v.stage ≡ 1 = ap lives is in let one_w : lives w.stage ≡ 1 = ap lives was in record {
        phase = r.phase;
        given = r.given;
        giver = r';
        seat_of = o';
        three = r.three;
        one = r.one;
        turn = turn_stays r.phase (get_or s.words 0 0) (get_or s.words 1 0) s.homes s.views (set vs other gone_view) full r.turn
            (λ j d x e inn. set_else vs other j gone_view (not_inside s.views other j w d x at' was e inn) ∙ (set_else s.views id j both (not_inside s.views id j v d x at is e inn) ∙ e));
        seats = seats_stay (K r.phase r.given r' o') vs other gone_view ((λ live. absurd live), tt)
            (λ j d off e. ⊎_elim
            (λ (t : (j ≡ id) × (both ≡ d)). subst (λ (z : ℕ × V). K r.phase r.given r' o' z.0 z.1) (λ i. (sym t.0 i, t.1 i)) ((λ _. both_stand r.phase r.given r.giver id other r.seat_of v w apart st su), known.1))
            (λ (t : (j ≢ id) × (get_elem? s.views j ≡ some d)). let k = r.seats j d t.1 in (
              (λ live. stays r.phase r.phase r.given r.given r.giver r' r.seat_of o' j d (λ m low own. (moved_else other id (r.seat_of m) (λ z. off (sym own ∙ z)) ∙ own, refl)) (omega arith)
                  (λ m seen _ _ f. f) (λ own. (refl, moved_else other id r.giver (λ z. off (sym own ∙ z)) ∙ own, λ _ _. refl)) (k.0 live)),
              k.1,
            ))
            (at_set s.views id j both d e));
        whole = let a = total_set weight s.views id v both at in let b = total_set weight vs other w gone_view there in let c = r.whole in omega (arith, length-append w.joined v.joined);
        fresh = r.fresh;
      }

  -- no entry bears a number from g on
  abbrev HasNoneFrom : ℕ → List E → Type 0
  HasNoneFrom g entries = (k : ℕ) → g ≤ k → Each (λ e. owner e ≢ Some k) entries

  -- the part of each number from g on is the one that the value o told
  abbrev HasFirstFrom : ℕ → Option T → T → Type 0
  HasFirstFrom g o y = (k : ℕ) → g ≤ k → Some (part y k) ≡ told part o k

  abbrev Found : List (Option T) → V → Type 0
  Found xs v = (x : T) × (get_elem? xs 0 ≡ some (Some x)) × Follows owner v.number v.seen (trail x) × (v.part ≡ Some (part x v.number)) × AreKept trail part owner x v.joined × HasNoneFrom v.given (trail x) × HasFirstFrom v.given v.filled x

  found : (xs : List (Option T)) (s : St) (id : ℕ) (v : V) (g r : ℕ) (o : ℕ → ℕ) → v.stage ≡ Outside → get_elem? s.views id ≡ some v → length v.joined + 1 ≡ v.given → total weight s.views ≡ g
      → ((k : ℕ) (y : Option T) → get_elem? s.homes k ≡ some (some y) → get_elem? xs k ≡ some y) → (ph : Phase T) → AtTurn trail part owner ph (get_or s.words 0 0) (get_or s.words 1 0) s.homes s.views → HasNoneFrom g (trail_at trail ph) → IsFull ph → S ph g r o id v → Found xs v
  found xs s id v g r o is at all whole homes vacant turn fresh full st = absurd full
  found xs s id v g r o is at all whole homes filling turn fresh full st = absurd full
  found xs s id v g r o is at all whole homes (free x) turn fresh full st =
      (x, homes 0 (Some x) turn.1, st.saw, st.has, each_map (Q (free x) g o id v.number) (λ (q : Joined E P). (q.part ≡ Some (part x q.number)) × Follows owner q.number q.seen (trail x)) (λ q h. (h.3, h.4)) v.joined st.took, λ k le. fresh k (let gave = (st.gives (λ e. omega arith)).0 in omega arith), λ k le. let gave = st.gives (λ e. omega arith) in gave.2 k (let all_given = gave.0 in omega arith))
  found xs s id v g r o is at all whole homes (held j x) turn fresh full st = let d : V = turn.1.0 in let inn : d.stage ≡ Inside x = turn.1.2 in let one : lives v.stage ≡ 1 = ap lives is in
      let gave = (st.gives (λ e. omega arith)).0 in let one_d : lives d.stage ≡ 1 = ap lives inn in
      let none_left : weight d ≡ 0 = others_none weight s.views id j v d at (omega arith) (not_inside s.views id j v d x at is turn.1.1 inn) turn.1.1 in absurd (omega arith)

  -- what the last pass finds
  pub closes : (ws : List ℕ) (xs : List (Option T)) (id : ℕ) (v : V) → v.stage ≡ Outside → length v.joined + 1 ≡ v.given → Final (Seen Rule id v) ws xs → Found xs v
  closes ws xs id v is all f = let s : St = f.0 in let r : Rule s = f.1.0 in let known = r.seats id v f.1.1 in
      found xs s id v r.given r.giver r.seat_of is f.1.1 all r.whole f.4 r.phase r.turn r.fresh (subst (InStage r.phase id) is known.1) (known.0 (live_outside v.stage is))

  pub unmakes : (ws : List ℕ) (xs : List (Option T)) (id : ℕ) (v : V) → v.stage ≡ Vacant → Final (Seen Rule id v) ws xs → get_elem? xs 0 ≡ some None
  unmakes ws xs id v is f = let s : St = f.0 in let r : Rule s = f.1.0 in let ph : r.phase ≡ vacant = subst (InStage r.phase id) is (r.seats id v f.1.1).1 in
      let turn = subst (λ z. AtTurn trail part owner z (get_or s.words 0 0) (get_or s.words 1 0) s.homes s.views) ph r.turn in f.4 0 None turn.1

  abbrev Told : V → T → Type 0
  Told v y = Follows owner v.number v.seen (trail y) × (v.part ≡ Some (part y v.number)) × AreKept trail part owner y v.joined × HasNoneFrom v.given (trail y) × HasFirstFrom v.given v.filled y

  pub found_value : (xs : List (Option T)) (v : V) (o : Option T) (y : T) → Found xs v → get_elem? xs 0 ≡ some o → o ≡ Some y → Told v y
  found_value xs v o y f at is = let e : Some f.0 ≡ Some y = some-injective (Some f.0) (Some y) (sym f.1 ∙ (at ∙ ap some is)) in let same : f.0 ≡ y = cc in subst (Told v) same (f.2, f.3, f.4, f.5, f.6)

  pub found_some : (xs : List (Option T)) (v : V) (o : Option T) → Found xs v → get_elem? xs 0 ≡ some o → o ≢ None
  found_some xs v o f at is = let e : Some f.0 ≡ None = some-injective (Some f.0) None (sym f.1 ∙ (at ∙ ap some is)) in absurd (cc)

  pub none_there : (xs : List (Option T)) (o : Option T) (y : T) → get_elem? xs 0 ≡ some None → get_elem? xs 0 ≡ some o → o ≢ Some y
  none_there xs o y f at is = let e : None ≡ Some y = some-injective None (Some y) (sym f ∙ (at ∙ ap some is)) in absurd (cc)

  pub just_theirs : (x : T) (l : List (Joined E P)) → AreKept trail part owner x l → HasJustTheirs owner (trail x) l
  just_theirs x l h = each_map (λ (q : Joined E P). (q.part ≡ Some (part x q.number)) × Follows owner q.number q.seen (trail x)) (λ (q : Joined E P). own owner q.number (trail x) ≡ own owner q.number q.seen)
      (λ q k. own_follows owner q.number q.seen (trail x) k.1) l h
