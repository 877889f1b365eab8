-- The strings and member names of a value that was read are UTF-8.
use Rattle.std.proofs.Common.{◌≡◌, ℕ, List, [], ◌∷◌, ◌++◌, Bool, true, ◌&&◌, Option, Some, None}
use Rattle.std.proofs.Common.{option_map, option_and_then, Ordering, Less, Equal, Greater, nat_cmp}
use Rattle.std.proofs.Common.{IsUtf8, refl, sym, ap, ap₂, ◌∙◌, subst}
use Rattle.std.proofs.lemmas.List.Folds.{list_all-append}
use Rattle.std.specs.Cmp.Lexicographic.{slice_cmp}
use Rattle.std.specs.Ordering.{match_ordering}
use Rattle.std.specs.Str.{is_utf8}
use Rattle.json.specs.Json as grammar
use Rattle.json.specs.Lex.{tokens}
use Rattle.json.specs.Token.{Token}
use Rattle.json.specs.Tree.{json_tokens, items_tokens, members_tokens}
use Rattle.json.proofs.Unique.Spelling.{value-json_tokens_back}
use Rattle.serde_json.specs.Data as json
use Rattle.serde_json.specs.Read.{number_of, of_json, of_items, of_members, max_depth, read}
use Rattle.dap_tree.specs.Doc.{Doc, null, boolean, whole, text, list, object, id, Items, no_items}
use Rattle.dap_tree.specs.Doc.{item, Members, no_members, member, all_utf8, items_utf8}
use Rattle.dap_tree.specs.Doc.{members_utf8}
use Rattle.dap_tree.specs.Json.{data_of, items_data, members_data, IsRead}
use Rattle.dap_tree.proofs.Booleans.{and_left, and_right, and_both}
use Rattle.dap_tree.proofs.Numbers.{Passes, Passes-map, Passes-and_then}
use Rattle.dap_tree.proofs.Tokens.{token_utf8, tokens_utf8, text_tokens-utf8}

abbrev mutual
  pub data_utf8 : json.Data → Bool
  data_utf8 json.null = true
  data_utf8 (json.boolean b) = true
  data_utf8 (json.number n) = true
  data_utf8 (json.string s) = is_utf8 s
  data_utf8 (json.array ds) = items_data_utf8 ds
  data_utf8 (json.object ms) = members_data_utf8 ms

  pub items_data_utf8 : json.Items → Bool
  items_data_utf8 json.no_items = true
  items_data_utf8 (json.item d ds) = data_utf8 d && items_data_utf8 ds

  pub members_data_utf8 : json.Members → Bool
  members_data_utf8 json.no_members = true
  members_data_utf8 (json.member k d ms) = is_utf8 k && (data_utf8 d && members_data_utf8 ms)

-- ---- inserting a member

put_at : (o : Ordering) (a b c : json.Members) → members_data_utf8 a ≡ true
    → members_data_utf8 b ≡ true → members_data_utf8 c ≡ true
    → members_data_utf8 (match_ordering o a b c) ≡ true
put_at Less a b c p q r = p
put_at Equal a b c p q r = q
put_at Greater a b c p q r = r

put-utf8 : (k : List ℕ) (d : json.Data) (ms : json.Members) → is_utf8 k ≡ true → data_utf8 d ≡ true
    → members_data_utf8 ms ≡ true → members_data_utf8 (json.put k d ms) ≡ true
put-utf8 k d json.no_members name h g = and_both _ _ name (and_both _ _ h refl)
put-utf8 k d (json.member l e ms) name h g =
    let first = and_left (is_utf8 l) (data_utf8 e && members_data_utf8 ms) g in
    let parts = and_right (is_utf8 l) (data_utf8 e && members_data_utf8 ms) g in
    let value = and_left (data_utf8 e) (members_data_utf8 ms) parts in
    let rest = and_right (data_utf8 e) (members_data_utf8 ms) parts in
    put_at (slice_cmp nat_cmp k l) (json.member k d (json.member l e ms)) (json.member l d ms)
    (json.member l e (json.put k d ms))
    (and_both _ _ name (and_both _ _ h g)) (and_both _ _ first (and_both _ _ h rest))
    (and_both _ _ first (and_both _ _ value (put-utf8 k d ms name h rest)))

-- ---- the value of tokens

tokens_parts : (ts us : List Token) → tokens_utf8 (ts ++ us) ≡ true
    → (tokens_utf8 ts ≡ true) × (tokens_utf8 us ≡ true)
tokens_parts ts us h =
    let both = sym (list_all-append token_utf8 ts us) ∙ h in (
      and_left (tokens_utf8 ts) (tokens_utf8 us) both,
      and_right (tokens_utf8 ts) (tokens_utf8 us) both,
    )

number-utf8 : (o : Option json.Num) → Passes data_utf8 (option_map json.number o)
number-utf8 None = tt
number-utf8 (Some n) = refl

mutual
  json-utf8 : (j : grammar.Json) → tokens_utf8 (json_tokens j) ≡ true → Passes data_utf8 (of_json j)
  json-utf8 grammar.null h = refl
  json-utf8 (grammar.boolean b) h = refl
  json-utf8 (grammar.number s) h = number-utf8 (number_of s)
  json-utf8 (grammar.string s) h = and_left (is_utf8 s) true h
  json-utf8 (grammar.array js) h =
      Passes-map items_data_utf8 data_utf8 json.array (λ ds g. g) (of_items js) (items-utf8 js h)
  json-utf8 (grammar.object ms) h =
      Passes-map members_data_utf8 data_utf8 json.object (λ ds g. g) (of_members ms json.no_members)
      (members-utf8 ms json.no_members h refl)

  items-utf8 : (js : grammar.Items) → tokens_utf8 (items_tokens js) ≡ true
      → Passes items_data_utf8 (of_items js)
  items-utf8 grammar.no_items h = refl
  items-utf8 (grammar.item j js) h =
      let parts = tokens_parts (json_tokens j) (items_tokens js) h in
      Passes-and_then data_utf8 items_data_utf8 _
      (λ d g. Passes-map items_data_utf8 items_data_utf8 (json.item d)
      (λ ds k. and_both _ _ g k) (of_items js) (items-utf8 js parts.1)) (of_json j)
      (json-utf8 j parts.0)

  members-utf8 : (ms : grammar.Members) (found : json.Members)
      → tokens_utf8 (members_tokens ms) ≡ true → members_data_utf8 found ≡ true
      → Passes members_data_utf8 (of_members ms found)
  members-utf8 grammar.no_members found h g = g
  members-utf8 (grammar.member k j ms) found h g =
      let name = and_left (is_utf8 k) (tokens_utf8 (json_tokens j ++ members_tokens ms)) h in
      let parts =
      tokens_parts (json_tokens j) (members_tokens ms)
      (and_right (is_utf8 k) (tokens_utf8 (json_tokens j ++ members_tokens ms)) h) in
      Passes-and_then data_utf8 members_data_utf8 _
      (λ d v. members-utf8 ms (json.put k d found) parts.1 (put-utf8 k d found name v g))
      (of_json j) (json-utf8 j parts.0)

parsed-utf8 : (o : Option (grammar.Json × List Token))
    → ((j : grammar.Json) (rest : List Token) → o ≡ Some (j, rest)
    → tokens_utf8 (json_tokens j) ≡ true)
    → Passes data_utf8 (option_and_then of_json (option_and_then (λ p. grammar.if_last p.0 p.1) o))
parsed-utf8 None h = tt
parsed-utf8 (Some (j, [])) h = json-utf8 j (h j [] refl)
parsed-utf8 (Some (j, t ∷ ts)) h = tt

pub read-utf8 : (bytes : List ℕ) (d : json.Data) → IsUtf8 bytes → read bytes ≡ Some d
    → data_utf8 d ≡ true
read-utf8 bytes d utf8 h =
    let whole_text = text_tokens-utf8 bytes utf8 in
    subst (Passes data_utf8) h (parsed-utf8 (grammar.value max_depth (tokens bytes))
    (λ j rest is.
    (tokens_parts (json_tokens j) rest
    (ap tokens_utf8 (sym (value-json_tokens_back max_depth (tokens bytes) rest j is))
    ∙ whole_text)).0))

-- ---- the document of a value

mutual
  data-utf8 : (d : Doc) → data_utf8 (data_of d) ≡ all_utf8 d
  data-utf8 null = refl
  data-utf8 (boolean b) = refl
  data-utf8 (whole z) = refl
  data-utf8 (text s) = refl
  data-utf8 (list ds) = items_data-utf8 ds
  data-utf8 (object ms) = members_data-utf8 ms
  data-utf8 (id s z) = refl

  items_data-utf8 : (ds : Items) → items_data_utf8 (items_data ds) ≡ items_utf8 ds
  items_data-utf8 no_items = refl
  items_data-utf8 (item d ds) = ap₂ (λ a b. a && b) (data-utf8 d) (items_data-utf8 ds)

  members_data-utf8 : (ms : Members) → members_data_utf8 (members_data ms) ≡ members_utf8 ms
  members_data-utf8 no_members = refl
  members_data-utf8 (member k d ms) =
      ap (λ b. is_utf8 k && b) (ap₂ (λ a b. a && b) (data-utf8 d) (members_data-utf8 ms))

pub read_is_utf8 : (bytes : List ℕ) (d : Doc) → IsRead bytes d → all_utf8 d ≡ true
read_is_utf8 bytes d h = sym (data-utf8 d) ∙ read-utf8 bytes (data_of d) h.0.0 h.0.1
