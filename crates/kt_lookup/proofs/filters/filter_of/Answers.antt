use Rattle.std.proofs.Common.{◌≡◌, ◌*◌, ◌+◌, ◌/◌, ◌<◌, List, ℕ, length, get_or, drop, replicate, arith, ◌∙◌, subst}
use Rattle.std.proofs.lemmas.List.{take_at}
use Rattle.kt_lookup.proofs.OneFilter.{is_filter, is_filter_of}
use Rattle.kt_lookup.proofs.filters.filter_of.Goals as goal

pub returns : goal.returns
returns c =
    let keep : length c.add_keys.new.filter ≡ length c.deref_mut.result.now = c.add_keys.auto.filter in
    let whole : length c.add_keys.new.filter ≡ c.in_ok-filter.filter.len = omega (arith, keep, c.deref_mut.ensures.len) in
    let zeros : c.deref_mut.result.now ≡ replicate c.div_ceil-len.result 0 = c.deref_mut.ensures.value ∙ c.in_ok-filter.ensures.items_if_clones_equal (λ y e. e) in
    let size : c.div_ceil-len.result ≡ (length c.args.keys.now * 10 + 7) / 8 = omega (arith, c.div_ceil-len.ensures, c.len.ensures) in
    let all = take_at c.add_keys.new.filter (drop (length c.add_keys.new.filter) c.in_ok-filter.filter.items) c.in_ok-filter.filter.len whole in
    let here : c.deref.result.now ≡ c.add_keys.new.filter = c.deref.ensures.value ∙ all in
    let is = is_filter c.args.keys.now c.deref_mut.result.now c.add_keys.new.filter c.div_ceil-len.result zeros size keep c.add_keys.ensures in
    rw all (is_filter_of c.args.keys.now c.add_keys.new.filter is (λ i. subst (λ (bytes : List ℕ). get_or bytes i 0 < 256) here (c.are_bytes.ensures i)))
