-- Keys above those before them.
use Rattle.std.proofs.Common.{◌≡◌, ℕ, ◌-◌, Bool, true, false, List, [], ◌∷◌, ◌++◌, length, refl, sym, ap, subst, ◌∙◌, arith, length-append}
use Rattle.std.specs.Ordering.{eq_by_cmp}
use Rattle.std.specs.declared.cmp.Ordering.TheVariants.{Less, Equal}
use Rattle.std.proofs.lemmas.Cmp.{nat_list_cmp_total, tied_itself}
use Rattle.std.proofs.lemmas.List.{get_or_push}
use Rattle.std.proofs.lemmas.List.Elements.{All-head, All-tail, All-push, All-weaker}
use Rattle.std.proofs.lemmas.Map.Lookups.{exact_bytes}
use Rattle.std.proofs.lemmas.Map.Views.{tells_apart}
use Rattle.kt_history.specs.Rows.{key_cmp}
use Rattle.kt_history.specs.declared.operation.RowOp.{RowOp}
use Rattle.kt_records.specs.Rules.{has_key}
use Rattle.kt_records.specs.Rising.{AreBelow, LastIsTop}

-- a key above another is not that key
apart : (x y : List ℕ) → key_cmp x y ≡ Less → eq_by_cmp key_cmp x y ≡ false
apart x y below = by (eq_by_cmp key_cmp x y) refl
  where
    by : (t : Bool) → eq_by_cmp key_cmp x y ≡ t → t ≡ false
    by true e =
        let tied : key_cmp x y ≡ Equal = ap (key_cmp x) (sym (tells_apart exact_bytes x y e)) ∙ tied_itself nat_list_cmp_total x in
        let clash : Less ≡ Equal = sym below ∙ tied in
        absurd cc
    by false e = refl

-- what is above all is none of them
pub is_new : (ops : List RowOp) (key : List ℕ) → AreBelow ops key → has_key ops key ≡ false
is_new [] key below = refl
is_new (op ∷ ops) key below =
    let rest = is_new ops key (All-tail (λ (o : RowOp). key_cmp o.key key ≡ Less) op ops below) in
    rw (apart op.key key (All-head (λ (o : RowOp). key_cmp o.key key ≡ Less) op ops below)) rest

-- one more, whose key is above all
pub top_behind : (ops more : List RowOp) (op : RowOp) → more ≡ ops ++ op ∷ [] → AreBelow ops op.key → LastIsTop more
top_behind ops more op is below = subst LastIsTop (sym is) top
  where
    top : LastIsTop (ops ++ op ∷ [])
    top last key at above =
        let place : length ops ≡ length (ops ++ op ∷ []) - 1 = omega (arith, length-append ops (op ∷ [])) in
        let same : last ≡ op = at ∙ get_or_push ops op last (length (ops ++ op ∷ []) - 1) place in
        let higher : key_cmp op.key key ≡ Less = ap (λ (o : RowOp). key_cmp o.key key) (sym same) ∙ above in
        All-push (λ (o : RowOp). key_cmp o.key key ≡ Less) ops op
        (All-weaker (λ (o : RowOp). key_cmp o.key op.key ≡ Less) (λ (o : RowOp). key_cmp o.key key ≡ Less) (λ o low. nat_list_cmp_total.trans o.key op.key key low higher) ops below) higher
