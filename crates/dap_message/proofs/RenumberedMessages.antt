-- Other numbers at the ids do not change the properties of a message.
use Rattle.dap_tree.specs.Doc.{Doc, null, boolean, whole, text, list, object, id, Members}
use Rattle.dap_tree.specs.Doc.{no_members, member, get, get_member}
use Rattle.dap_tree.specs.Ids.{ids, id_count, with_ids, members_with_ids}
use Rattle.dap_tree.specs.declared.sort.Sort.{Sort}
use Rattle.dap_tree.proofs.IdNumbers.{ids_with, renumbered as with_numbers}
use Rattle.std.proofs.Common.{◌≡◌, ℕ, ℤ, true, ◌&&◌, ◌||◌, List, [], ◌∷◌, length, drop, map, arith}
use Rattle.std.proofs.Common.{Option, Some, Ordering, Less, Equal, Greater, nat_cmp, codes, refl}
use Rattle.std.proofs.Common.{◌∙◌, ap, ap₂}
use Rattle.std.specs.List.{zip}
use Rattle.std.specs.Option.{is_some}
use Rattle.std.specs.Cmp.Lexicographic.{slice_cmp}
use Rattle.std.specs.Ordering.{match_ordering}
use Rattle.dap_profile.specs.declared.profile.Kind.{Kind}
use Rattle.dap_profile.specs.declared.profile.Kind.TheVariants.{Request, Response, Event}
use Rattle.dap_message.specs.Rows.{is_text, type_name, name_key}
use Rattle.dap_message.specs.Envelope.{text_value, boolean_value, id_number, is_named, has_envelope}
use Rattle.dap_message.specs.Numbers.{are_proper, is_proper, renumbered}

-- ---- no reference 0

numbers_zip : (xs : List (Sort × ℤ)) (ns : List ℤ) → length ns ≡ length xs
    → with_numbers xs ns ≡ zip (map (λ i. i.0) xs) ns
numbers_zip [] [] h = refl
numbers_zip [] (n ∷ ns) h = refl
numbers_zip (x ∷ xs) [] h = absurd (omega arith)
numbers_zip (x ∷ xs) (n ∷ ns) h = ap (λ is. (x.0, n) ∷ is) (numbers_zip xs ns (omega arith))

-- the ids have these numbers, in order
pub ids-with : (d : Doc) (ns : List ℤ) → length ns ≡ length (ids d)
    → ids (with_ids d ns) ≡ renumbered d ns
ids-with d ns h = ids_with d ns ∙ numbers_zip (ids d) ns h

pub proper-with : (d : Doc) (ns : List ℤ) → length ns ≡ length (ids d)
    → are_proper (renumbered d ns) ≡ true → is_proper (with_ids d ns) ≡ true
proper-with d ns count h = ap are_proper (ids-with d ns count) ∙ h

-- ---- the envelope

module _ {X : Type 0} (F : Option Doc → X) (same : (e : Doc) (ns : List ℤ)
    → F (Some (with_ids e ns)) ≡ F (Some e)) where
  seen_at : (o : Ordering) (e : Doc) (ns : List ℤ) (a b : Option Doc) → F a ≡ F b
      → F (match_ordering o a (Some (with_ids e ns)) a) ≡ F (match_ordering o b (Some e) b)
  seen_at Less e ns a b h = h
  seen_at Equal e ns a b h = same e ns
  seen_at Greater e ns a b h = h

  seen_member : (k : List ℕ) (ms : Members) (ns : List ℤ)
      → F (get_member k (members_with_ids ms ns)) ≡ F (get_member k ms)
  seen_member k no_members ns = refl
  seen_member k (member l e ms) ns =
      seen_at (slice_cmp nat_cmp k l) e ns _ _ (seen_member k ms (drop (id_count e) ns))

  pub seen-with : (k : List ℕ) (d : Doc) (ns : List ℤ) → F (get k (with_ids d ns)) ≡ F (get k d)
  seen-with k null ns = refl
  seen-with k (boolean b) ns = refl
  seen-with k (whole z) ns = refl
  seen-with k (text s) ns = refl
  seen-with k (list ds) ns = refl
  seen-with k (object ms) ns = seen_member k ms ns
  seen-with k (id s z) ns = refl

text-same : (w : List ℕ) (e : Doc) (ns : List ℤ)
    → is_text w (Some (with_ids e ns)) ≡ is_text w (Some e)
text-same w null ns = refl
text-same w (boolean b) ns = refl
text-same w (whole z) ns = refl
text-same w (text s) ns = refl
text-same w (list ds) ns = refl
text-same w (object ms) ns = refl
text-same w (id s z) ns = refl

words-same : (e : Doc) (ns : List ℤ)
    → is_some (text_value (Some (with_ids e ns))) ≡ is_some (text_value (Some e))
words-same null ns = refl
words-same (boolean b) ns = refl
words-same (whole z) ns = refl
words-same (text s) ns = refl
words-same (list ds) ns = refl
words-same (object ms) ns = refl
words-same (id s z) ns = refl

flag-same : (e : Doc) (ns : List ℤ)
    → is_some (boolean_value (Some (with_ids e ns))) ≡ is_some (boolean_value (Some e))
flag-same null ns = refl
flag-same (boolean b) ns = refl
flag-same (whole z) ns = refl
flag-same (text s) ns = refl
flag-same (list ds) ns = refl
flag-same (object ms) ns = refl
flag-same (id s z) ns = refl

number-same : (e : Doc) (ns : List ℤ)
    → is_some (id_number (Some (with_ids e ns))) ≡ is_some (id_number (Some e))
number-same null ns = refl
number-same (boolean b) ns = refl
number-same (whole z) ns = refl
number-same (text s) ns = refl
number-same (list ds) ns = refl
number-same (object ms) ns = refl
number-same (id s z) ns = refl

named-with : (k : Kind) (d : Doc) (ns : List ℤ) → is_named k (with_ids d ns) ≡ is_named k d
named-with k d ns =
    ap₂ (λ a b. a && b)
    (seen-with (is_text (type_name k)) (text-same (type_name k)) (codes "type") d ns)
    (seen-with (λ o. is_some (text_value o)) words-same (name_key k) d ns)

pub envelope-with : (d : Doc) (ns : List ℤ) → has_envelope (with_ids d ns) ≡ has_envelope d
envelope-with d ns =
    let q = seen-with (λ o. is_some (id_number o)) number-same (codes "seq") d ns in
    let r = seen-with (λ o. is_some (id_number o)) number-same (codes "request_seq") d ns in
    let s = seen-with (λ o. is_some (boolean_value o)) flag-same (codes "success") d ns in
    ap₂ (λ a b. a && b) q
    (ap₂ (λ a b. a || b)
    (ap₂ (λ a b. a || b) (named-with Request d ns)
    (ap₂ (λ a b. a && b) (ap₂ (λ a b. a && b) (named-with Response d ns) r) s))
    (named-with Event d ns))
