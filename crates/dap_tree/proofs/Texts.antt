-- The text of a document is UTF-8, and is read as the document.
use Rattle.std.proofs.Common.{◌≡◌, ℕ, ◌^◌, ℤ, pos, negsuc, List, [], ◌∷◌, ◌++◌, Bool, true, ◌&&◌}
use Rattle.std.proofs.Common.{Some, option_map, option_and_then, Greater, nat_cmp, IsUtf8, refl}
use Rattle.std.proofs.Common.{sym, ap, ◌∙◌, subst, leb}
use Rattle.std.proofs.lemmas.Bool.{ltb-true}
use Rattle.std.proofs.lemmas.Cmp.{nat_list_cmp_total}
use Rattle.std.proofs.lemmas.Fmt.{IsAscii-decimal, IsAscii-signed}
use Rattle.std.proofs.lemmas.Str.{IsUtf8-append, IsUtf8-nil, IsUtf8-from_ascii, IsUtf8-from_is_utf8}
use Rattle.std.specs.Cmp.Lexicographic.{slice_cmp}
use Rattle.std.specs.List.{AllByRecursion}
use Rattle.std.specs.Ordering.{ordering_reverse, is_lt}
use Rattle.std.specs.Str.{is_utf8}
use Rattle.json.specs.Token.{Token}
use Rattle.json.specs.Print.{print, print_from, token_text, ends, IsNumber}
use Rattle.json.specs.Tree.{json_tokens, items_tokens, members_tokens, HasNumbers, ItemsHaveNumbers}
use Rattle.json.specs.Tree.{MembersHaveNumbers}
use Rattle.json.proofs.Printed.Decimals.{IsNumber-decimal, IsNumber-signed_decimal}
use Rattle.json.proofs.Printed.Tokens.{tokens-print}
use Rattle.json.proofs.Printed.Trees.{ArePrintable-json_tokens}
use Rattle.json.proofs.Printed.Utf8.{IsUtf8-are_ascii, IsUtf8-boolean, IsUtf8-key, IsUtf8-quoted}
use Rattle.json.proofs.Printed.Utf8.{IsUtf8-separator}
use Rattle.serde_json.specs.Data as json
use Rattle.serde_json.specs.Find.{of_integer}
use Rattle.serde_json.specs.Read.{of_json, of_items, of_members, number_of}
use Rattle.serde_json.specs.Written.{number_text}
use Rattle.serde_json.proofs.Numbers.{number_of-decimal, number_of-negative}
use Rattle.serde_json.proofs.Texts.{print-outline}
use Rattle.dap_tree.specs.Doc.{Doc, null, boolean, whole, text, list, object, id, Items, no_items}
use Rattle.dap_tree.specs.Doc.{item, Members, no_members, member, in_range, all_in_range}
use Rattle.dap_tree.specs.Doc.{items_in_range, members_in_range, is_sound, depth, is_below_all}
use Rattle.dap_tree.specs.Doc.{is_ordered, items_ordered, members_ordered, all_utf8, items_utf8}
use Rattle.dap_tree.specs.Doc.{members_utf8}
use Rattle.dap_tree.specs.Ids.{without_ids, ids_in_range, items_ids_in_range, members_ids_in_range}
use Rattle.dap_tree.specs.Json.{data_of, items_data, members_data, text_of, IsRead}
use Rattle.dap_tree.specs.WrittenTokens.{json_of, items_json, members_json, WritesDoc}
use Rattle.dap_tree.proofs.Booleans.{and_left, and_right}
use Rattle.dap_tree.proofs.Comparisons.{less}
use Rattle.dap_tree.proofs.WithoutIds.{data-without, no_id_without}
use Rattle.dap_tree.proofs.Writing.{depth_from_sound, tokens_read_back}

-- ---- numbers

has_number : (z : ℤ) → in_range z ≡ true → IsNumber (number_text (of_integer z))
has_number (pos n) h = IsNumber-decimal n (ltb-true n (2 ^ 64) h)
has_number (negsuc n) h = IsNumber-signed_decimal (negsuc n) (ltb-true n (2 ^ 63) h)

number_utf8 : (z : ℤ) → in_range z ≡ true → IsUtf8 (number_text (of_integer z))
number_utf8 (pos n) h = IsUtf8-from_ascii _ (IsAscii-decimal n (ltb-true n (2 ^ 64) h))
number_utf8 (negsuc n) h = IsUtf8-from_ascii _ (IsAscii-signed (negsuc n) (ltb-true n (2 ^ 63) h))

number_read : (z : ℤ) → in_range z ≡ true
    → number_of (number_text (of_integer z)) ≡ Some (of_integer z)
number_read (pos n) h = number_of-decimal n (ltb-true n (2 ^ 64) h)
number_read (negsuc n) h = number_of-negative n (ltb-true n (2 ^ 63) h)

-- every number of the document is in range, including those of ids
abbrev AreInRange : Doc → Type 0
AreInRange d = (all_in_range d ≡ true) × (ids_in_range d ≡ true)

abbrev ItemsInRange : Items → Type 0
ItemsInRange ds = (items_in_range ds ≡ true) × (items_ids_in_range ds ≡ true)

abbrev MembersInRange : Members → Type 0
MembersInRange ms = (members_in_range ms ≡ true) × (members_ids_in_range ms ≡ true)

first_item : (d : Doc) (ds : Items) → ItemsInRange (item d ds) → AreInRange d
first_item d ds h = (and_left _ _ h.0, and_left _ _ h.1)

later_items : (d : Doc) (ds : Items) → ItemsInRange (item d ds) → ItemsInRange ds
later_items d ds h = (and_right (all_in_range d) _ h.0, and_right (ids_in_range d) _ h.1)

first_member : (k : List ℕ) (d : Doc) (ms : Members) → MembersInRange (member k d ms) → AreInRange d
first_member k d ms h = (and_left _ _ h.0, and_left _ _ h.1)

later_members : (k : List ℕ) (d : Doc) (ms : Members) → MembersInRange (member k d ms)
    → MembersInRange ms
later_members k d ms h = (and_right (all_in_range d) _ h.0, and_right (ids_in_range d) _ h.1)

mutual
  has_numbers : (d : Doc) → AreInRange d → HasNumbers (json_of d)
  has_numbers null h = tt
  has_numbers (boolean b) h = tt
  has_numbers (whole z) h = has_number z h.0
  has_numbers (text s) h = tt
  has_numbers (list ds) h = items_have_numbers ds h
  has_numbers (object ms) h = members_have_numbers ms h
  has_numbers (id s z) h = has_number z h.1

  items_have_numbers : (ds : Items) → ItemsInRange ds → ItemsHaveNumbers (items_json ds)
  items_have_numbers no_items h = tt
  items_have_numbers (item d ds) h =
      (has_numbers d (first_item d ds h), items_have_numbers ds (later_items d ds h))

  members_have_numbers : (ms : Members) → MembersInRange ms → MembersHaveNumbers (members_json ms)
  members_have_numbers no_members h = tt
  members_have_numbers (member k d ms) h =
      (has_numbers d (first_member k d ms h), members_have_numbers ms (later_members k d ms h))

-- ---- UTF-8

abbrev AreUtf8 : List Token → Type 0
AreUtf8 ts = AllByRecursion (λ t. IsUtf8 (token_text t)) ts

utf8-append : (ts us : List Token) → AreUtf8 ts → AreUtf8 us → AreUtf8 (ts ++ us)
utf8-append [] us h k = k
utf8-append (t ∷ ts) us h k = (h.0, utf8-append ts us h.1 k)

utf8-print_from : (after_value : Bool) (ts : List Token) → AreUtf8 ts
    → IsUtf8 (print_from after_value ts)
unfolding print_from
utf8-print_from after_value [] h = IsUtf8-nil
utf8-print_from after_value (t ∷ ts) h =
    IsUtf8-append _ _ (IsUtf8-separator after_value t)
    (IsUtf8-append _ _ h.0 (utf8-print_from (ends t) ts h.1))

mutual
  utf8_tokens : (d : Doc) → AreInRange d → all_utf8 d ≡ true → AreUtf8 (json_tokens (json_of d))
  utf8_tokens null r h = (IsUtf8-are_ascii _ refl, tt)
  utf8_tokens (boolean b) r h = (IsUtf8-boolean b, tt)
  utf8_tokens (whole z) r h = (number_utf8 z r.0, tt)
  utf8_tokens (text s) r h = (IsUtf8-quoted s (IsUtf8-from_is_utf8 s h), tt)
  utf8_tokens (list ds) r h = (IsUtf8-are_ascii _ refl, utf8_items ds r h)
  utf8_tokens (object ms) r h = (IsUtf8-are_ascii _ refl, utf8_members ms r h)
  utf8_tokens (id s z) r h = (number_utf8 z r.1, tt)

  utf8_items : (ds : Items) → ItemsInRange ds → items_utf8 ds ≡ true
      → AreUtf8 (items_tokens (items_json ds))
  utf8_items no_items r h = (IsUtf8-are_ascii _ refl, tt)
  utf8_items (item d ds) r h =
      utf8-append _ _ (utf8_tokens d (first_item d ds r) (and_left _ _ h))
      (utf8_items ds (later_items d ds r) (and_right (all_utf8 d) _ h))

  utf8_members : (ms : Members) → MembersInRange ms → members_utf8 ms ≡ true
      → AreUtf8 (members_tokens (members_json ms))
  utf8_members no_members r h = (IsUtf8-are_ascii _ refl, tt)
  utf8_members (member k d ms) r h =
      let parts = and_right (is_utf8 k) (all_utf8 d && members_utf8 ms) h in (
        IsUtf8-key k (IsUtf8-from_is_utf8 k (and_left _ _ h)),
        utf8-append _ _ (utf8_tokens d (first_member k d ms r) (and_left _ _ parts))
            (utf8_members ms (later_members k d ms r) (and_right (all_utf8 d) _ parts)),
      )

-- ---- members that are read one after another

abbrev join : json.Members → json.Members → json.Members
join json.no_members ys = ys
join (json.member k v xs) ys = json.member k v (join xs ys)

join-no_members : (xs : json.Members) → join xs json.no_members ≡ xs
join-no_members json.no_members = refl
join-no_members (json.member k v xs) = ap (json.member k v) (join-no_members xs)

join-join : (xs ys zs : json.Members) → join (join xs ys) zs ≡ join xs (join ys zs)
join-join json.no_members ys zs = refl
join-join (json.member k v xs) ys zs = ap (json.member k v) (join-join xs ys zs)

-- each name that was read is below the names of the remaining members
abbrev stand_before : json.Members → Members → Bool
stand_before json.no_members ms = true
stand_before (json.member l v found) ms = is_below_all l ms && stand_before found ms

greater : (k l : List ℕ) → is_lt (slice_cmp nat_cmp l k) ≡ true → slice_cmp nat_cmp k l ≡ Greater
greater k l h =
    nat_list_cmp_total.antisymm k l ∙ ap ordering_reverse (less (slice_cmp nat_cmp l k) h)

put_behind : (k : List ℕ) (d : Doc) (ms : Members) (found : json.Members)
    → stand_before found (member k d ms) ≡ true
    → json.put k (data_of d) found ≡ join found (json.member k (data_of d) json.no_members)
put_behind k d ms json.no_members h = refl
put_behind k d ms (json.member l v found) h =
    let below =
    and_left (is_lt (slice_cmp nat_cmp l k)) (is_below_all l ms)
    (and_left (is_below_all l (member k d ms)) (stand_before found (member k d ms)) h) in
    rw (greater k l below)
    (ap (json.member l v)
    (put_behind k d ms found
    (and_right (is_below_all l (member k d ms)) (stand_before found (member k d ms)) h)))

stand_next : (k : List ℕ) (d : Doc) (ms : Members) (found : json.Members) → is_below_all k ms ≡ true
    → stand_before found (member k d ms) ≡ true
    → stand_before (join found (json.member k (data_of d) json.no_members)) ms ≡ true
stand_next k d ms json.no_members below h = rw below refl
stand_next k d ms (json.member l v found) below h =
    let first = and_left (is_below_all l (member k d ms)) (stand_before found (member k d ms)) h in
    let rest = and_right (is_below_all l (member k d ms)) (stand_before found (member k d ms)) h in
    rw (
      and_right (is_lt (slice_cmp nat_cmp l k)) (is_below_all l ms) first,
      stand_next k d ms found below rest,
    ) refl

mutual
  reads_back : (d : Doc) → AreInRange d → is_ordered d ≡ true
      → of_json (json_of d) ≡ Some (data_of d)
  reads_back null r h = refl
  reads_back (boolean b) r h = refl
  reads_back (whole z) r h = ap (option_map json.number) (number_read z r.0)
  reads_back (text s) r h = refl
  reads_back (list ds) r h = ap (option_map json.array) (items_read_back ds r h)
  reads_back (object ms) r h =
      ap (option_map json.object) (members_read_back ms json.no_members r h refl)
  reads_back (id s z) r h = ap (option_map json.number) (number_read z r.1)

  items_read_back : (ds : Items) → ItemsInRange ds → items_ordered ds ≡ true
      → of_items (items_json ds) ≡ Some (items_data ds)
  items_read_back no_items r h = refl
  items_read_back (item d ds) r h =
      ap (option_and_then (λ v. option_map (json.item v) (of_items (items_json ds))))
      (reads_back d (first_item d ds r) (and_left _ _ h))
      ∙ ap (option_map (json.item (data_of d)))
      (items_read_back ds (later_items d ds r) (and_right (is_ordered d) _ h))

  members_read_back : (ms : Members) (found : json.Members) → MembersInRange ms
      → members_ordered ms ≡ true → stand_before found ms ≡ true
      → of_members (members_json ms) found ≡ Some (join found (members_data ms))
  members_read_back no_members found r h before = ap Some (sym (join-no_members found))
  members_read_back (member k d ms) found r h before =
      let below = and_left (is_below_all k ms) (is_ordered d && members_ordered ms) h in
      let parts = and_right (is_below_all k ms) (is_ordered d && members_ordered ms) h in
      let one = json.member k (data_of d) json.no_members in
      ap (option_and_then (λ v. of_members (members_json ms) (json.put k v found)))
      (reads_back d (first_member k d ms r) (and_left _ _ parts))
      ∙ ap (of_members (members_json ms)) (put_behind k d ms found before)
      ∙ members_read_back ms (join found one) (later_members k d ms r)
      (and_right (is_ordered d) _ parts) (stand_next k d ms found below before)
      ∙ ap Some (join-join found one (members_data ms))

-- ---- the complete text

pub text_is_read : (d : Doc) → is_sound d ≡ true → ids_in_range d ≡ true → is_ordered d ≡ true
    → all_utf8 d ≡ true → IsRead (text_of d) (without_ids d)
text_is_read d sound ids ordered utf8 =
    let ranged : AreInRange d = (and_right (leb (depth d) 127) (all_in_range d) sound, ids) in
    let ts = json_tokens (json_of d) in
    let printed : print ts ≡ text_of d = print-outline (data_of d) in
    let written : WritesDoc d [] ts = (refl, reads_back d ranged ordered) in
    let spelled = tokens-print ts (ArePrintable-json_tokens (json_of d) (has_numbers d ranged)) in
    let back = tokens_read_back d [] ts [] (text_of d) refl refl written (sym printed) spelled
    (depth_from_sound d sound) in (
      (
        subst IsUtf8 printed (utf8-print_from _ ts (utf8_tokens d ranged utf8)),
        back
            ∙ ap Some (sym (data-without d)),
      ),
      no_id_without d,
    )
