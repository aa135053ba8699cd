-- Laws of forms.
use Rattle.std.proofs.Common.{◌≡◌, ℕ, suc, ◌≤◌, Bool, true, false, List, [], ◌∷◌, ◌++◌, length, take, drop, Option, Some, None, refl, sym, ap, subst, ◌∙◌, arith}
use Rattle.std.specs.Prelude.{if◌then◌else◌, nat_lt, codes}
use Rattle.std.specs.List.{list_all, AllByRecursion}
use Rattle.std.proofs.Math.Seq.{take-append_seam, drop-append_seam}
use Rattle.kt_base.specs.Literals.{same}
use Rattle.kt_base.proofs.Decimals.{same_text}
use Rattle.kt_script.specs.Reasons.{sound}
use Rattle.kt_script.proofs.PrintedWords.{IsWord, High, high_word, all_high}
use Rattle.kt_script.proofs.InLine.{join}
use Rattle.kt_script.proofs.Cuts.{Without}
use Rattle.kt_script.specs.Kinds.{kind_in}
use Rattle.kt_script.proofs.WordForms.{Single, Form, Spells, each, each_no, each_value, each_words, each_keeps, nothing, pair, mapped, ruled, kind_no, kind_value, first_kind, chosen}

-- A printed word: it stands between spaces, in a line, and is not what stands between operations.
pub record Plain (w : List ℕ) : Type 0 where
  pub word : IsWord w
  pub line : Without 10 w
  pub apart : same w (codes ";") ≡ false

pub high_line : (w : List ℕ) → AllByRecursion High w → Without 10 w
high_line [] p = tt
high_line (b ∷ w) p = let low = p.0 in ((λ e. omega arith), high_line w p.1)

pub plain_high : (w : List ℕ) → AllByRecursion High w → same w (codes ";") ≡ false → Plain w
plain_high w p apart = record { word = high_word w p; line = high_line w p; apart = apart }

-- a fixed word
pub plain : (w : List ℕ) → list_all (λ b. nat_lt 34 b) w ≡ true → same w (codes ";") ≡ false → Plain w
plain w h apart = plain_high w (all_high w h) apart

pub all_of : {X : Type 0} (P Q : X → Type 0) (xs : List X) → ((x : X) → P x → Q x) → AllByRecursion P xs → AllByRecursion Q xs
all_of P Q [] f p = tt
all_of P Q (x ∷ xs) f p = (f x p.0, all_of P Q xs f p.1)

pub zip_all : {X : Type 0} (P Q R : X → Type 0) (xs : List X) → ((x : X) → P x → Q x → R x) → AllByRecursion P xs → AllByRecursion Q xs → AllByRecursion R xs
zip_all P Q R [] f p q = tt
zip_all P Q R (x ∷ xs) f p q = (f x p.0 q.0, zip_all P Q R xs f p.1 q.1)

-- A form of one word is well made.
pub record One {A : Type 0} (s : Single A) : Type 0 where
  pub said : (w : List ℕ) → sound ≤ s.no w → s.keeps (s.value w) × (s.word (s.value w) ≡ w)
  pub read : (a : A) → s.keeps a → (sound ≤ s.no (s.word a)) × (s.value (s.word a) ≡ a) × Plain (s.word a)

-- A form is well made: what is read keeps the rules and is printed as it was written, but for the order of names; what is printed is read again; another order of names says the same.
pub record Lawful {A : Type 0} (f : Form A) : Type 0 where
  pub said : (ws : List (List ℕ)) → sound ≤ f.no ws → f.keeps (f.value ws) × f.alike ws (f.words (f.value ws))
  pub read : (a : A) → f.keeps a → (sound ≤ f.no (f.words a)) × (f.value (f.words a) ≡ a) × AllByRecursion Plain (f.words a)
  pub moved : (ws vs : List (List ℕ)) → sound ≤ f.no ws → f.alike ws vs → (sound ≤ f.no vs) × (f.value vs ≡ f.value ws)
  pub self : (ws : List (List ℕ)) → f.alike ws ws
  pub back : (ws vs : List (List ℕ)) → f.alike ws vs → f.alike vs ws

-- ---- what follows for every form

module _ {A : Type 0} (f : Form A) (law : Lawful f) where
  -- words are read exactly where they spell a value, and then as it
  pub spelled : (ws : List (List ℕ)) → sound ≤ f.no ws → Spells f ws (f.value ws)
  spelled ws h = let s = law.said ws h in record { keeps = s.0; words = s.1 }

  pub reads : (ws : List (List ℕ)) (a : A) → Spells f ws a → (sound ≤ f.no ws) × (f.value ws ≡ a)
  reads ws a s =
      let r = law.read a s.keeps in
      let m = law.moved (f.words a) ws r.0 (law.back ws (f.words a) s.words) in
      (m.0, m.1 ∙ r.1)

  -- what is printed spells the value
  pub printed : (a : A) → f.keeps a → Spells f (f.words a) a
  printed a k = record { keeps = k; words = law.self (f.words a) }

-- ---- words

equal_moved : {A : Type 0} (f : Form A) (ws vs : List (List ℕ)) → sound ≤ f.no ws → ws ≡ vs → (sound ≤ f.no vs) × (f.value vs ≡ f.value ws)
equal_moved f ws vs h e = (subst (λ us. sound ≤ f.no us) e h, ap f.value (sym e))

module _ {C A : Type 0} (s : C → Single A) (law : (c : C) → One (s c)) where
  each_said : (cs : List C) (ws : List (List ℕ)) → sound ≤ each_no s cs ws → each_keeps s cs (each_value s cs ws) × (ws ≡ each_words s cs (each_value s cs ws))
  each_said [] [] h = (tt, refl)
  each_said [] (w ∷ ws) h = absurd (omega arith)
  each_said (c ∷ cs) [] h = absurd (omega arith)
  each_said (c ∷ cs) (w ∷ ws) h =
      let x = (law c).said w (omega (arith, h)) in
      let more = each_said cs ws (omega (arith, h)) in
      ((x.0, more.0), ap (λ v. v ∷ ws) (sym x.1) ∙ ap (λ vs. (s c).word ((s c).value w) ∷ vs) more.1)

  each_read : (cs : List C) (xs : List A) → each_keeps s cs xs → (sound ≤ each_no s cs (each_words s cs xs)) × (each_value s cs (each_words s cs xs) ≡ xs) × AllByRecursion Plain (each_words s cs xs)
  each_read [] [] k = (omega arith, refl, tt)
  each_read [] (x ∷ xs) k = absurd k
  each_read (c ∷ cs) [] k = absurd k
  each_read (c ∷ cs) (x ∷ xs) k =
      let r = (law c).read x k.0 in
      let more = each_read cs xs k.1 in
      let a = r.0 in
      let b = more.0 in
      (omega (arith, a, b), ap (λ v. v ∷ each_value s cs (each_words s cs xs)) r.1 ∙ ap (λ vs. x ∷ vs) more.1, (r.2, more.2))

  pub each_size : (cs : List C) (xs : List A) → each_keeps s cs xs → length (each_words s cs xs) ≡ length cs
  each_size [] [] k = refl
  each_size [] (x ∷ xs) k = absurd k
  each_size (c ∷ cs) [] k = absurd k
  each_size (c ∷ cs) (x ∷ xs) k = ap suc (each_size cs xs k.1)

  pub each_law : (cs : List C) → Lawful (each s cs)
  each_law cs = record { said = each_said cs; read = each_read cs; moved = equal_moved (each s cs); self = λ ws. refl; back = λ ws vs e. sym e }

nothing_said : {A : Type 0} (a : A) (ws : List (List ℕ)) → sound ≤ (nothing a).no ws → (a ≡ a) × (ws ≡ [])
nothing_said a [] h = (refl, refl)
nothing_said a (w ∷ ws) h = absurd (omega arith)

pub nothing_law : {A : Type 0} (a : A) → Lawful (nothing a)
nothing_law a = record { said = nothing_said a; read = λ b k. (omega arith, sym k, tt); moved = equal_moved (nothing a); self = λ ws. refl; back = λ ws vs e. sym e }

-- ---- words behind words

module _ {A B : Type 0} (n : ℕ) (f : Form A) (g : Form B) (fs : Lawful f) (gs : Lawful g) (size : (a : A) → f.keeps a → length (f.words a) ≡ n) where
  front : (x : A × B) → f.keeps x.0 → take n (f.words x.0 ++ g.words x.1) ≡ f.words x.0
  front x k = ap (λ m. take m (f.words x.0 ++ g.words x.1)) (sym (size x.0 k)) ∙ take-append_seam (f.words x.0) (g.words x.1)

  behind : (x : A × B) → f.keeps x.0 → drop n (f.words x.0 ++ g.words x.1) ≡ g.words x.1
  behind x k = ap (λ m. drop m (f.words x.0 ++ g.words x.1)) (sym (size x.0 k)) ∙ drop-append_seam (f.words x.0) (g.words x.1)

  pair_said : (ws : List (List ℕ)) → sound ≤ (pair n f g).no ws → (pair n f g).keeps ((pair n f g).value ws) × (pair n f g).alike ws ((pair n f g).words ((pair n f g).value ws))
  pair_said ws h =
      let x = fs.said (take n ws) (omega (arith, h)) in
      let y = gs.said (drop n ws) (omega (arith, h)) in
      let v : A × B = (f.value (take n ws), g.value (drop n ws)) in
      ((x.0, y.0), (subst (λ us. f.alike (take n ws) us) (sym (front v x.0)) x.1, subst (λ us. g.alike (drop n ws) us) (sym (behind v x.0)) y.1))

  pair_read : (x : A × B) → (pair n f g).keeps x → (sound ≤ (pair n f g).no ((pair n f g).words x)) × ((pair n f g).value ((pair n f g).words x) ≡ x) × AllByRecursion Plain ((pair n f g).words x)
  pair_read x k =
      let a = fs.read x.0 k.0 in
      let b = gs.read x.1 k.1 in
      let p : sound ≤ f.no (take n (f.words x.0 ++ g.words x.1)) = subst (λ us. sound ≤ f.no us) (sym (front x k.0)) a.0 in
      let q : sound ≤ g.no (drop n (f.words x.0 ++ g.words x.1)) = subst (λ us. sound ≤ g.no us) (sym (behind x k.0)) b.0 in (
        omega (arith, p, q),
        ap (λ y. (y, g.value (drop n (f.words x.0 ++ g.words x.1)))) (ap f.value (front x k.0) ∙ a.1) ∙ ap (λ y. (x.0, y)) (ap g.value (behind x k.0) ∙ b.1),
        join Plain (f.words x.0) (g.words x.1) a.2 b.2,
      )

  pub pair_law : Lawful (pair n f g)
  pair_law = record {
    said = pair_said;
    read = pair_read;
    moved = λ ws vs h e.
        let x = fs.moved (take n ws) (take n vs) (omega (arith, h)) e.0 in
        let y = gs.moved (drop n ws) (drop n vs) (omega (arith, h)) e.1 in
        let p = x.0 in
        let q = y.0 in
        (omega (arith, p, q), ap (λ a. (a, g.value (drop n vs))) x.1 ∙ ap (λ b. (f.value (take n ws), b)) y.1);
    self = λ ws. (fs.self (take n ws), gs.self (drop n ws));
    back = λ ws vs e. (fs.back (take n ws) (take n vs) e.0, gs.back (drop n ws) (drop n vs) e.1);
  }

-- the kind that a word is found as has that word
pub kind_word : {K : Type 0} (tag : K → List ℕ) (kinds : List K) (word : List ℕ) (k : K) → kind_in tag kinds word ≡ Some k → word ≡ tag k
kind_word tag [] word k e = absurd cc
kind_word tag (j ∷ kinds) word k e = by (same word (tag j)) refl e (kind_word tag kinds word k)
  where
    by : (t : Bool) → same word (tag j) ≡ t → (if t then Some j else kind_in tag kinds word) ≡ Some k → (kind_in tag kinds word ≡ Some k → word ≡ tag k) → word ≡ tag k
    by true s g later = let is : j ≡ k = cc in same_text word (tag j) s ∙ ap tag is
    by false s g later = later g

module _ {K A : Type 0} (tag : K → List ℕ) (kinds : List K) (kind_of : A → K) (form : K → Form A) (other : A) where
  abbrev c : Form A
  c = chosen tag kinds kind_of form other

  kind_there : (o : Option K) (ws : List (List ℕ)) → sound ≤ kind_no tag kinds kind_of form other o ws → (k : K) × (o ≡ Some k)
  kind_there None ws h = absurd (omega arith)
  kind_there (Some k) ws h = (k, refl)

  same_kind : (ws vs : List (List ℕ)) → take 1 ws ≡ take 1 vs → first_kind tag kinds kind_of form other ws ≡ first_kind tag kinds kind_of form other vs
  same_kind [] [] e = refl
  same_kind [] (v ∷ vs) e = absurd cc
  same_kind (w ∷ ws) [] e = absurd cc
  same_kind (w ∷ ws) (v ∷ vs) e = ap (kind_in tag kinds) (head w v e)
    where
      head : (x y : List ℕ) → x ∷ [] ≡ y ∷ [] → x ≡ y
      head x y g = cc

  first_is : (ws : List (List ℕ)) (k : K) → first_kind tag kinds kind_of form other ws ≡ Some k → take 1 ws ≡ tag k ∷ []
  first_is [] k e = absurd cc
  first_is (w ∷ ws) k e = ap (λ v. v ∷ []) (kind_word tag kinds w k e)

  pub chosen_law : ((k : K) → Lawful (form k)) → ((k : K) → kind_in tag kinds (tag k) ≡ Some k) → ((k : K) → Plain (tag k)) → ((k : K) (a : A) → (form k).keeps a → kind_of a ≡ k)
      → ((k : K) (ws : List (List ℕ)) → kind_of ((form k).value ws) ≡ k) → Lawful c
  chosen_law laws told word kept said = record {
    said = λ ws h.
        let there = kind_there (kind ws) (drop 1 ws) h in
        let k = there.0 in
        let high = subst (λ o. sound ≤ kind_no tag kinds kind_of form other o (drop 1 ws)) there.1 h in
        let x = (laws k).said (drop 1 ws) high in
        let a : A = (form k).value (drop 1 ws) in
        let value_is : c.value ws ≡ a = ap (λ o. kind_value tag kinds kind_of form other o (drop 1 ws)) there.1 in
        subst (λ y. c.keeps y × c.alike ws (c.words y)) (sym value_is) (subst (λ j. (form j).keeps a × c.alike ws (tag j ∷ (form j).words a)) (sym (said k (drop 1 ws)))
        (x.0, (first_is ws k there.1, λ j e. subst (λ i. (form i).alike (drop 1 ws) ((form k).words a)) (one k j (sym there.1 ∙ e)) x.1)));
    read = λ a k.
        let r = (laws (kind_of a)).read a k in
        let t = told (kind_of a) in
        (subst (λ o. sound ≤ kind_no tag kinds kind_of form other o ((form (kind_of a)).words a)) (sym t) r.0, ap (λ o. kind_value tag kinds kind_of form other o ((form (kind_of a)).words a)) t ∙ r.1, (word (kind_of a), r.2));
    moved = λ ws vs h e.
        let there = kind_there (kind ws) (drop 1 ws) h in
        let k = there.0 in
        let high = subst (λ o. sound ≤ kind_no tag kinds kind_of form other o (drop 1 ws)) there.1 h in
        let m = (laws k).moved (drop 1 ws) (drop 1 vs) high (e.1 k there.1) in
        let there_too = sym (same_kind ws vs e.0) ∙ there.1 in
        (subst (λ o. sound ≤ kind_no tag kinds kind_of form other o (drop 1 vs)) (sym there_too) m.0, ap (λ o. kind_value tag kinds kind_of form other o (drop 1 vs)) there_too ∙ (m.1 ∙ sym (ap (λ o. kind_value tag kinds kind_of form other o (drop 1 ws)) there.1)));
    self = λ ws. (refl, λ k e. (laws k).self (drop 1 ws));
    back = λ ws vs e. (sym e.0, λ k f. (laws k).back (drop 1 ws) (drop 1 vs) (e.1 k (same_kind ws vs e.0 ∙ f)));
  }
    where
      kind : List (List ℕ) → Option K
      kind ws = first_kind tag kinds kind_of form other ws

      one : (j k : K) → ◌≡◌ {A = Option K} (Some j) (Some k) → j ≡ k
      one j k q = cc

-- ---- other values, and one rule more

pub mapped_law : {A B : Type 0} (to : A → B) (from : B → A) (f : Form A) → Lawful f → ((a : A) → f.keeps a → from (to a) ≡ a) → Lawful (mapped to from f)
mapped_law to from f law inverse = record {
  said = λ ws h.
      let x = law.said ws h in
      let same_value = sym (inverse (f.value ws) x.0) in
      ((subst f.keeps same_value x.0, ap to (sym same_value)), subst (λ a. f.alike ws (f.words a)) same_value x.1);
  read = λ b k. let r = law.read (from b) k.0 in (r.0, ap to r.1 ∙ k.1, r.2);
  moved = λ ws vs h e. let m = law.moved ws vs h e in (m.0, ap to m.1);
  self = law.self;
  back = law.back;
}

-- a rule on values, and a test of words that tells whether their value keeps it
pub ruled_law : {A : Type 0} (why : List (List ℕ) → ℕ) (rule : A → Type 0) (f : Form A) → Lawful f → ((ws : List (List ℕ)) (a : A) → Spells f ws a → (sound ≤ why ws → rule a) × (rule a → sound ≤ why ws)) → Lawful (ruled why rule f)
ruled_law why rule f law tie = record {
  said = λ ws h. let s = spelled f law ws (omega (arith, h)) in ((s.keeps, (tie ws (f.value ws) s).0 (omega (arith, h))), s.words);
  read = λ a k. let r = law.read a k.0 in let p = r.0 in let q = (tie (f.words a) a (printed f law a k.0)).1 k.1 in (omega (arith, p, q), r.1, r.2);
  moved = λ ws vs h e.
      let m = law.moved ws vs (omega (arith, h)) e in
      let a = f.value ws in
      let p = m.0 in
      let s = spelled f law vs m.0 in
      let held = (tie ws a (spelled f law ws (omega (arith, h)))).0 (omega (arith, h)) in
      let q = (tie vs (f.value vs) s).1 (subst rule (sym m.1) held) in
      (omega (arith, p, q), m.1);
  self = law.self;
  back = law.back;
}
