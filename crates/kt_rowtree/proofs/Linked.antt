-- The steps back from range to range.
use Rattle.std.proofs.Common.{◌≡◌, ℕ, ◌+◌, ◌-◌, ◌<◌, ◌≤◌, true, false, List, [], ◌∷◌, ◌++◌, length, get_or, sym, ap, ◌∙◌, arith, subst, length-append, inl, inr}
use Rattle.std.proofs.Math.Seq.{get_or-append_seam}
use Rattle.std.proofs.lemmas.List.{get_or_append_left}
use Rattle.std.proofs.lemmas.Bool.{cases_lt, cases_eq}
use Rattle.kt_rowtree.specs.Ranges.{is_upto, EndsLast, Outlasts, EndEarly, IsLink, AreLinks}
use Rattle.kt_rowtree.specs.declared.links.Link.{Link}
use Rattle.kt_rowtree.specs.declared.lists.Range.{Range}
use Rattle.kt_rowtree.proofs.Upto.{upto_trans}
use Rattle.kt_rowtree.proofs.Found.{read_at, false_from}

-- ---- the near step

module _ (ranges : List Range) (links : List Link) (are : AreLinks ranges links) (at low : ℕ) (inside : at < length ranges) (count : length links ≡ at) (some : 0 < low) (back : low ≤ at) (last : EndsLast ranges low at) (r : Range) (is : r ≡ get_or ranges (low - 1) r) (end : List ℕ) (ends : (d : Range) → (get_or ranges at d).greatest ≡ end) (upto : is_upto r.greatest end ≡ true) (d₀ : Link) where
  pub near_last : EndsLast ranges (get_or links (low - 1) d₀).near at
  near_last j d from to =
      let here : is_upto (get_or ranges (low - 1) d).greatest (get_or ranges at d).greatest ≡ true =
      ap (λ (r : Range). is_upto r.greatest (get_or ranges at d).greatest) (read_at ranges (low - 1) r d (omega arith) is) ∙ ap (is_upto r.greatest) (ends d) ∙ upto in
      elim (cases_lt j low) [
        | inr past ↦ last j d past to
        | inl before ↦ elim (cases_lt j (low - 1)) [
          | inl deep ↦ upto_trans (get_or ranges j d).greatest (get_or ranges (low - 1) d).greatest (get_or ranges at d).greatest ((are (low - 1) d₀ (omega arith)).last j d from deep) here
          | inr same ↦ let e : j ≡ low - 1 = omega arith in ap (λ n. is_upto (get_or ranges n d).greatest (get_or ranges at d).greatest) e ∙ here
        ]
      ]

  pub near_back : (get_or links (low - 1) d₀).near ≤ at
  near_back = let b = (are (low - 1) d₀ (omega arith)).back in omega arith

-- where the range in front ends later than this one, it outlasts all that this one does
pub near_front : (ranges : List Range) (at low : ℕ) (last : EndsLast ranges low at) → ((d : Range) → 0 < low → is_upto (get_or ranges at d).greatest (get_or ranges (low - 1) d).greatest ≡ true) → Outlasts ranges low (at + 1)
near_front ranges at low last over j d some from to =
    elim (cases_lt j at) [
      | inl deep ↦ upto_trans (get_or ranges j d).greatest (get_or ranges at d).greatest (get_or ranges (low - 1) d).greatest (last j d from deep) (over d some)
      | inr same ↦ let e : j ≡ at = omega arith in ap (λ n. is_upto (get_or ranges n d).greatest (get_or ranges (low - 1) d).greatest) e ∙ over d some
    ]

-- ---- the far step

-- what is known of the far step of the last of so many ranges
pub record Step (ranges : List Range) (at : ℕ) (link : Link) : Type 0 where
  pub back : link.far ≤ at
  pub less : 0 < at → link.far < at
  pub front : Outlasts ranges link.far at
  pub fewer : link.far + link.hops ≤ at

no_step : (ranges : List Range) (at : ℕ) (link : Link) → at ≡ 0 → link ≡ record { near = 0; far = 0; hops = 0 } → Step ranges at link
no_step ranges at link zero_at e =
    let far : link.far ≡ 0 = ap (λ (l : Link). l.far) e in
    let hops : link.hops ≡ 0 = ap (λ (l : Link). l.hops) e in
    record {
      back = omega arith;
      less = λ some. absurd (omega arith);
      front = λ j d some from to. absurd (omega arith);
      fewer = omega arith;
    }

one_step : (ranges : List Range) (at : ℕ) (link : Link) → 0 < at → IsLink ranges (at - 1) link → Step ranges at link
one_step ranges at link some is =
    let b = is.back in
    let f = is.farther in
    let h = is.fewer in
    record {
      back = omega arith;
      less = λ some. omega arith;
      front = λ j d over from to. is.front j d over from (omega arith);
      fewer = omega arith;
    }

pub step_is : (ranges : List Range) (links : List Link) → AreLinks ranges links → (at : ℕ) → at ≤ length links → (link : Link) → (at ≡ 0 → link ≡ record { near = 0; far = 0; hops = 0 }) → ((d : Link) → 0 < at → link ≡ get_or links (at - 1) d) → Step ranges at link
step_is ranges links are at inside link none last =
    elim (cases_eq at 0) [
      | inl zero_at ↦ no_step ranges at link zero_at (none zero_at)
      | inr other ↦ one_step ranges at link (omega arith) (subst (IsLink ranges (at - 1)) (sym (last link (omega arith))) (are (at - 1) link (omega arith)))
    ]

-- the range in front of a range that outlasts others outlasts them too
pub outlast_over : (ranges : List Range) (low at : ℕ) (link : Link) → Outlasts ranges low at → Step ranges low link → Outlasts ranges link.far at
outlast_over ranges low at link over s j d some from to =
    let b = s.back in
    let less = s.less (omega arith) in
    elim (cases_lt j low) [
      | inl before ↦ s.front j d some from before
      | inr past ↦ upto_trans (get_or ranges j d).greatest (get_or ranges (low - 1) d).greatest (get_or ranges (link.far - 1) d).greatest (over j d (omega arith) past to) (s.front (low - 1) d some (omega arith) (omega arith))
    ]

-- one link more
pub links_more : (ranges : List Range) (links new : List Link) (link : Link) (at : ℕ) → AreLinks ranges links → length links ≡ at → new ≡ links ++ link ∷ [] → IsLink ranges at link → AreLinks ranges new
links_more ranges links new link at are all is here k d inside =
    let long : length new ≡ at + 1 = ap length is ∙ length-append links (link ∷ []) ∙ omega arith in
    elim (cases_lt k at) [
      | inl old ↦ subst (IsLink ranges k) (sym (ap (λ xs. get_or xs k d) is ∙ get_or_append_left links (link ∷ []) d k (omega arith))) (are k d (omega arith))
      | inr other ↦
          let e : at ≡ k = omega arith in
          let read : get_or new at d ≡ link = ap (λ xs. get_or xs at d) is ∙ ap (λ n. get_or (links ++ link ∷ []) n d) (sym all) ∙ get_or-append_seam links link [] d in
          subst (λ n. IsLink ranges n (get_or new n d)) e (subst (IsLink ranges at) (sym read) here)
    ]

-- ---- what ends before a key

-- what ends no later than something before the key ends before it
early_by : (key a b : List ℕ) → is_upto a b ≡ true → is_upto key b ≡ false → is_upto key a ≡ false
early_by key a b e f = false_from (is_upto key a) (λ t. sym f ∙ upto_trans key a b t e)

pub far_early : (key : List ℕ) (ranges : List Range) (far at : ℕ) → 0 < far → Outlasts ranges far at → ((d : Range) → is_upto key (get_or ranges (far - 1) d).greatest ≡ false) → EndEarly key ranges far at
far_early key ranges far at some over early j d from to = early_by key (get_or ranges j d).greatest (get_or ranges (far - 1) d).greatest (over j d some from to) (early d)

pub near_early : (key : List ℕ) (ranges : List Range) (near at : ℕ) → 0 < at → EndsLast ranges near (at - 1) → EndEarly key ranges (at - 1) at → EndEarly key ranges near at
near_early key ranges near at some last early j d from to =
    elim (cases_lt j (at - 1)) [
      | inl deep ↦ early_by key (get_or ranges j d).greatest (get_or ranges (at - 1) d).greatest (last j d from deep) (early (at - 1) d (omega arith) (omega arith))
      | inr same ↦ early j d (omega arith) to
    ]
