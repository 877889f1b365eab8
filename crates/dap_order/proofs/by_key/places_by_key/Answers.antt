use Rattle.std.proofs.Common.{◌≡◌, ℕ, ◌<◌, ◌≤◌, List, ◌∷◌, ◌++◌, map, length, take, sym, ap, ◌∙◌}
use Rattle.std.proofs.Common.{subst, arith}
use Rattle.std.specs.Prelude.{slice_get, IsPermutation}
use Rattle.std.specs.List.{range_with_len}
use Rattle.std.proofs.lemmas.List.{take_all, append_assoc}
use Rattle.std.proofs.lemmas.List.Elements.{All-cons, All-same}
use Rattle.std.proofs.lemmas.List.Sorted.{IsPermutation-map, IsPermutation-trans}
use Rattle.std.proofs.lemmas.List.Sorted.{IsPermutation-push_more, All-permutation}
use Rattle.dap_order.specs.PlacesByKey.{AreByKey}
use Rattle.dap_order.specs.SortKeys.{SortKey, entry_key, keys_in}
use Rattle.dap_order.specs.declared.by_key.SortKey.{SortKey as ReadSortKey}
use Rattle.dap_order.specs.declared.by_key.Parts.{Parts}
use Rattle.dap_order.proofs.Lists.{got}
use Rattle.dap_order.proofs.Ranges.{range_more}
use Rattle.dap_order.proofs.SortedKeys.{IsKeyOf, sorted_places}
use Rattle.dap_order.proofs.by_key.places_by_key.Goals as goal

abbrev place_of : ReadSortKey → ℕ
place_of k = k.place

pub loop-place-preserved : goal.loop-place-preserved
loop-place-preserved g c =
    let i = c.loop-place.place in
    let all = c.args.entries.now in
    let k = c.sort_key.result in
    let old = keys_in c.loop-place.parts in
    let new = keys_in c.add.new.self in
    let inv = c.loop-place.invariant in
    let moved = c.in_ok-add.ensures in
    let e = c.index-entries-place.result in
    let place : k.place ≡ i = ap (λ (z : SortKey). z.place) c.sort_key.ensures in
    let low : i < length all = omega arith in
    record {
      places = subst (λ zs. IsPermutation zs (map place_of new)) (sym (range_more i))
          (IsPermutation-push_more (range_with_len 0 i) (map place_of old) (map place_of new) i
          inv.places (subst (λ p. IsPermutation (p ∷ map place_of old) (map place_of new)) place
          (IsPermutation-map place_of (k ∷ old) new moved)));
      keys = All-permutation (IsKeyOf all) (k ∷ old) new moved
          (All-cons (IsKeyOf all) k old (
            e,
            ap (slice_get all) place ∙ got all i e low c.index-entries-place.is,
            c.sort_key.ensures ∙ ap (entry_key e) (sym place),
          ) inv.keys);
    }

-- The places of the sorted keys.
listed : (places : List ℕ) (keys sorted : List ReadSortKey) (n : ℕ)
    → places ≡ map place_of (take n keys) → length keys ≤ n → keys ≡ sorted
    → places ≡ map place_of sorted
listed places keys sorted n e past is =
    e ∙ ap (map place_of) (take_all n keys past ∙ is)

-- The keys of the parts, one part after the other.
joined : (p : Parts) (two three : List ReadSortKey) → two ≡ p.answers.items ++ p.others.items
    → three ≡ two ++ p.client.items → three ≡ keys_in p
joined p two three e f =
    f ∙ ap (λ zs. zs ++ p.client.items) e
    ∙ append_assoc p.answers.items p.others.items p.client.items

pub returns-clause-once : goal.returns-clause-once
returns-clause-once g c =
    let parts = c.loop-place.parts in
    let keys = c.append-2.new.self.items in
    let sorted = c.sort.new.self.items in
    let n = length c.args.entries.now in
    let index : c.loop-place.place ≡ n = omega (arith, c.loop-place-test.false) in
    let once = subst (λ k. IsPermutation (range_with_len 0 k) (map place_of (keys_in parts))) index
    c.loop-place.invariant.places in
    let is = joined parts c.append.new.self.items keys c.in_ok-append.ensures.items
    c.in_ok-append-2.ensures.items in
    subst (IsPermutation (range_with_len 0 n)) (sym (listed c.loop-key.places.items
    c.deref-key-items.result.now sorted c.loop-key.key-index c.loop-key.invariant
    (omega (arith, c.loop-key-test.false)) c.deref-key-items.ensures.value))
    (IsPermutation-trans (range_with_len 0 n) (map place_of keys) (map place_of sorted)
    (subst (λ (zs : List ReadSortKey). IsPermutation (range_with_len 0 n) (map place_of zs))
    (sym is) once) (IsPermutation-map place_of keys sorted c.in_ok-sort.ensures.permutation))

pub returns-clause-by_key : goal.returns-clause-by_key
returns-clause-by_key g c =
    let parts = c.loop-place.parts in
    let keys = c.append-2.new.self.items in
    let sorted = c.sort.new.self.items in
    let all = c.args.entries.now in
    let is = joined parts c.append.new.self.items keys c.in_ok-append.ensures.items
    c.in_ok-append-2.ensures.items in
    subst (AreByKey all) (sym (listed c.loop-key.places.items
    c.deref-key-items.result.now sorted c.loop-key.key-index c.loop-key.invariant
    (omega (arith, c.loop-key-test.false)) c.deref-key-items.ensures.value))
    (sorted_places all sorted
    (All-permutation (IsKeyOf all) keys sorted c.in_ok-sort.ensures.permutation
    (All-same (IsKeyOf all) keys (keys_in parts) is c.loop-place.invariant.keys))
    c.in_ok-sort.ensures.sorted)
