-- The tokens of a document: their text is its compact text, and reading them yields the document.
use Rattle.std.proofs.Common.{◌≡◌, ℕ, suc, max, ◌≤◌, ◌^◌, List, [], ◌∷◌, ◌++◌, Bool, true, false}
use Rattle.std.proofs.Common.{◌||◌, Some, option_map, option_and_then, refl, sym, ap, ap₂, ◌∙◌}
use Rattle.std.proofs.Common.{subst, leb, ℤ, pos, negsuc, nat_abs, int_lt, decimal, string_bytes}
use Rattle.std.proofs.Common.{string_cmp, append_assoc, append-nil, w64, to_z, of_z, arith}
use Rattle.std.proofs.Math.Facts.{to_z-neg}
use Rattle.std.specs.Prelude.{FitsSigned, ◌<◌}
use Rattle.std.proofs.lemmas.Bool.{leb-true, ltb-true}
use Rattle.std.specs.Fmt.{signed_decimal}
use Rattle.std.specs.List.Sorted.{IsStrictlySortedBy}
use Rattle.std.specs.Map.{keys_of}
use Rattle.json.specs.Token.{Token, number}
use Rattle.json.specs.Json as grammar
use Rattle.json.specs.Lex.{tokens}
use Rattle.json.specs.Print.{print}
use Rattle.json.specs.Tree as tree
use Rattle.json.specs.Tree.{json_tokens}
use Rattle.json.proofs.Printed.Trees.{value-json_tokens}
use Rattle.serde_json.specs.Data as json
use Rattle.serde_json.specs.Find.{of_integer, is_float}
use Rattle.serde_json.specs.Read.{of_json, of_members, max_depth, read}
use Rattle.serde_json.specs.Written.{compact_text, has_float, items_have_float, members_have_float}
use Rattle.serde_json.proofs.Numbers.{number_of-decimal, number_of-negative}
use Rattle.serde_json.proofs.Texts.{print-outline}
use Rattle.dap_tree.specs.Doc.{Doc, null, boolean, whole, text, list, object, id, Items, no_items}
use Rattle.dap_tree.specs.Doc.{item, Members, no_members, member, depth, items_depth, members_depth}
use Rattle.dap_tree.specs.Doc.{in_range, all_in_range, is_sound}
use Rattle.dap_tree.specs.Json.{data_of, items_data, members_data}
use Rattle.dap_tree.specs.View.{view, members_view}
use Rattle.dap_tree.specs.WrittenTokens.{json_of, items_json, members_json, WritesDoc}
use Rattle.dap_tree.proofs.Booleans.{and_left}
use Rattle.dap_tree.proofs.ReadTrees.{members_data-put}
use Rattle.dap_tree.proofs.Views.{Entry, put_last}

-- ---- the numbers of a document

whole_number : (z : ℤ) → is_float (of_integer z) ≡ false
whole_number (pos n) = refl
whole_number (negsuc n) = refl

neither : (a b : Bool) → a ≡ false → b ≡ false → (a || b) ≡ false
neither a b h k = rw (h, k) refl

-- no number of a document is a float
mutual
  pub no_float : (d : Doc) → has_float (data_of d) ≡ false
  no_float null = refl
  no_float (boolean b) = refl
  no_float (whole z) = whole_number z
  no_float (text s) = refl
  no_float (list ds) = items_no_float ds
  no_float (object ms) = members_no_float ms
  no_float (id s z) = whole_number z

  items_no_float : (ds : Items) → items_have_float (items_data ds) ≡ false
  items_no_float no_items = refl
  items_no_float (item d ds) = neither _ _ (no_float d) (items_no_float ds)

  members_no_float : (ms : Members) → members_have_float (members_data ms) ≡ false
  members_no_float no_members = refl
  members_no_float (member k d ms) = neither _ _ (no_float d) (members_no_float ms)

mutual
  depth_json : (d : Doc) → tree.depth (json_of d) ≡ depth d
  depth_json null = refl
  depth_json (boolean b) = refl
  depth_json (whole z) = refl
  depth_json (text s) = refl
  depth_json (list ds) = ap suc (items_depth_json ds)
  depth_json (object ms) = ap suc (members_depth_json ms)
  depth_json (id s z) = refl

  items_depth_json : (ds : Items) → tree.items_depth (items_json ds) ≡ items_depth ds
  items_depth_json no_items = refl
  items_depth_json (item d ds) = ap₂ max (depth_json d) (items_depth_json ds)

  members_depth_json : (ms : Members) → tree.members_depth (members_json ms) ≡ members_depth ms
  members_depth_json no_members = refl
  members_depth_json (member k d ms) = ap₂ max (depth_json d) (members_depth_json ms)

pub depth_from_sound : (d : Doc) → is_sound d ≡ true → depth d ≤ 127
depth_from_sound d h = leb-true (depth d) 127 (and_left (leb (depth d) 127) (all_in_range d) h)

-- ---- an integer

pub negative_cast : (z : ℤ) → int_lt z (pos 0) ≡ true → in_range z ≡ true
    → to_z w64 (of_z w64 z) ≡ z
negative_cast (pos n) below ranged = absurd (grind (arith, below))
negative_cast (negsuc n) below ranged = to_z-neg w64 n (ltb-true n (2 ^ 63) ranged)

pub negative_written : (z y : ℤ) (old new : List Token) → y ≡ z → int_lt z (pos 0) ≡ true
    → in_range z ≡ true → new ≡ old ++ number (signed_decimal y) ∷ [] → WritesDoc (whole z) old new
negative_written (pos n) y old new same below ranged e = absurd (grind (arith, below))
negative_written (negsuc n) y old new same below ranged e = (
  e ∙ ap (λ z. old ++ number (signed_decimal z) ∷ []) same,
  ap (option_map json.number) (number_of-negative n (ltb-true n (2 ^ 63) ranged)),
)

pub unsigned_written : (z : ℤ) (m : ℕ) (old new : List Token) → m ≡ nat_abs z
    → int_lt z (pos 0) ≡ false → in_range z ≡ true → new ≡ old ++ number (decimal m) ∷ []
    → WritesDoc (whole z) old new
unsigned_written (pos n) m old new same above ranged e = (
  e ∙ ap (λ k. old ++ number (decimal k) ∷ []) same,
  ap (option_map json.number) (number_of-decimal n (ltb-true n (2 ^ 64) ranged)),
)
unsigned_written (negsuc n) m old new same above ranged e = absurd (grind (arith, above))

below_half : (n : ℕ) → FitsSigned w64 (pos n) → n < 2 ^ 63
below_half n h = omega (arith, h)

above_half : (n : ℕ) → FitsSigned w64 (negsuc n) → n < 2 ^ 63
above_half n h = omega (arith, h)

-- a number of 64 bits
pub signed_written : (z y : ℤ) (old new : List Token) → y ≡ z → FitsSigned w64 z
    → new ≡ old ++ number (signed_decimal y) ∷ [] → WritesDoc (whole z) old new
signed_written (pos n) y old new same ranged e =
    let below : n < 2 ^ 64 = omega (arith, below_half n ranged) in (
      e ∙ ap (λ z. old ++ number (signed_decimal z) ∷ []) same,
      ap (option_map json.number) (number_of-decimal n below),
    )
signed_written (negsuc n) y old new same ranged e = (
  e ∙ ap (λ z. old ++ number (signed_decimal z) ∷ []) same,
  ap (option_map json.number) (number_of-negative n (above_half n ranged)),
)

-- ---- one more member

pub member_tokens : (first : Token) (value rest before named written : List Token)
    → named ≡ before ++ first ∷ [] → written ≡ named ++ value
    → written ++ rest ≡ before ++ first ∷ (value ++ rest)
member_tokens first value rest before named written h g =
    ap (λ ts. ts ++ rest) (g ∙ ap (λ ts. ts ++ value) h)
    ∙ append_assoc (before ++ first ∷ []) value rest
    ∙ append_assoc before (first ∷ []) (value ++ rest)

pub member_reads : (done : List Entry) (e : Entry) (left : List Entry)
    → IsStrictlySortedBy string_cmp (keys_of (done ++ e ∷ left))
    → of_json (json_of (view e.1)) ≡ Some (data_of (view e.1))
    → of_members (members_json (members_view (e ∷ left))) (members_data (members_view done))
    ≡ of_members (members_json (members_view left))
    (members_data (members_view (done ++ e ∷ [])))
member_reads done e left ordered reads =
    let name = string_bytes e.0 in
    let found = members_data (members_view done) in
    let rest = members_json (members_view left) in
    ap (option_and_then (λ d. of_members rest (json.put name d found))) reads
    ∙ ap (of_members rest) (sym (members_data-put name (view e.1) (members_view done))
    ∙ ap members_data (put_last done e left ordered))

-- ---- the complete text

pub text_of_tokens : (d : Doc) (old new : List Token) (before bytes : List ℕ) → old ≡ []
    → before ≡ [] → WritesDoc d old new → bytes ≡ before ++ print new
    → bytes ≡ compact_text (data_of d)
text_of_tokens d old new before bytes none empty written is =
    is ∙ ap₂ (λ xs ts. xs ++ print ts) empty (written.0
    ∙ ap (λ ts. ts ++ json_tokens (json_of d)) none) ∙ print-outline (data_of d)

pub tokens_read_back : (d : Doc) (old new : List Token) (before bytes : List ℕ) → old ≡ []
    → before ≡ [] → WritesDoc d old new → bytes ≡ before ++ print new → tokens (print new) ≡ new
    → depth d ≤ 127 → read bytes ≡ Some (data_of d)
tokens_read_back d old new before bytes none empty written is spelled shallow =
    let all : tokens bytes ≡ json_tokens (json_of d) ++ [] =
    ap tokens (is ∙ ap (λ xs. xs ++ print new) empty) ∙ spelled ∙ written.0
    ∙ ap (λ ts. ts ++ json_tokens (json_of d)) none
    ∙ sym (append-nil (json_tokens (json_of d))) in
    let within : tree.depth (json_of d) ≤ max_depth =
    subst (λ n. n ≤ 127) (sym (depth_json d)) shallow in
    ap (λ ts. option_and_then of_json
    (option_and_then (λ p. grammar.if_last p.0 p.1) (grammar.value max_depth ts))) all
    ∙ ap (λ o. option_and_then of_json (option_and_then (λ p. grammar.if_last p.0 p.1) o))
    (value-json_tokens (json_of d) max_depth [] within) ∙ written.1
