-- The text that a pretty printer of JSON writes for the tokens of a document is the indented text.
use Rattle.std.proofs.Common.{◌≡◌, ℕ, ◌+◌, ◌-◌, ◌*◌, ◌^◌, ◌≤◌, Bool, true, false, cond, ◌||◌, List}
use Rattle.std.proofs.Common.{[], ◌∷◌, ◌++◌, map, refl, sym, ◌∙◌, ap, arith, append_assoc}
use Rattle.std.proofs.Common.{append-nil, min}
use Rattle.std.proofs.Math.Nat.{le-max_left, le-max_right, min-eq_left}
use Rattle.std.proofs.lemmas.List.{replicate-append-replicate}
use Rattle.std.specs.Prelude.{replicate}
use Rattle.json.specs.Layout.{Last, after, bracket, gap, is_value, line, name, nothing, pretty}
use Rattle.json.specs.Layout.{pretty_from, value}
use Rattle.json.specs.Print.{begins, quoted, token_text}
use Rattle.json.specs.Token.{Token}
use Rattle.json.specs.Token as token
use Rattle.json.specs.Tree.{items_tokens, json_tokens, members_tokens}
use Rattle.dap_flat.proofs.Spelling.{pieces_spell, spell}
use Rattle.dap_flat.specs.Pieces.{Represents, piece_of}
use Rattle.dap_flat.specs.Writing.{node_tokens, tokens_of}
use Rattle.dap_flat.specs.declared.node.Node.{Node}
use Rattle.dap_tree.specs.Doc.{Doc, null, boolean, whole, text, list, object, id, Items, no_items}
use Rattle.dap_tree.specs.Doc.{item, Members, no_members, member, depth, items_depth, members_depth}
use Rattle.dap_tree.specs.WrittenTokens.{items_json, json_of, members_json}
use Rattle.dap_show.specs.Indented.{indented, inner, item_texts, member_texts, next_line}
use Rattle.dap_show.specs.Indented.{part_text}
use Rattle.dap_show.specs.Leaves.{has_items, has_members}

-- The margin at a depth.
abbrev margin : ℕ → List ℕ
margin k = replicate (2 * k) 32

deeper : (k : ℕ) → margin (k + 1) ≡ inner (margin k)
deeper k =
    let two : 2 * (k + 1) ≡ 2 * k + 2 = omega arith in
    ap (λ n. replicate n 32) two ∙ sym (replicate-append-replicate (2 * k) 2 32)

-- The text before a token that begins a value or a member.
abbrev lead : Last → ℕ → List ℕ
lead l k = cond (is_value l) (44 ∷ []) [] ++ gap l true k

one_token : (l : Last) (k : ℕ) (t : Token) (ts : List Token) → begins t ≡ true
    → pretty_from (l, k) (t ∷ ts) ≡ lead l k ++ (token_text t ++ pretty_from (after t k) ts)
unfolding pretty_from
one_token nothing k t ts b = rw b refl
one_token bracket k t ts b =
    rw b (append_assoc (line k) (token_text t) (pretty_from (after t k) ts))
one_token name k t ts b = rw b refl
one_token value k t ts b =
    rw b (append_assoc (44 ∷ line k) (token_text t) (pretty_from (after t k) ts))

-- ---- between brackets: whether a part comes before

abbrev last_if : Bool → Last
last_if b = cond b value bracket

abbrev comma_if : Bool → List ℕ
comma_if b = cond b (44 ∷ []) []

abbrev close_if : Bool → ℕ → List ℕ
close_if b k = cond b (next_line (margin k)) []

-- A closing bracket.
closed : (b : Bool) (k c : ℕ) (t : Token) (ts : List Token) → begins t ≡ false
    → token_text t ≡ c ∷ [] → ((n : ℕ) → after t n ≡ (value, n))
    → pretty_from (last_if b, k + 1) (t ∷ ts) ≡ close_if b k ++ (c ∷ pretty_from (value, k) ts)
unfolding pretty_from
closed true k c t ts b is ends =
    let back : k + 1 - 1 ≡ k = omega arith in
    rw (b, is, ends, back) (append_assoc (line k) (c ∷ []) (pretty_from (value, k) ts))
closed false k c t ts b is ends =
    let back : k + 1 - 1 ≡ k = omega arith in
    rw (b, is, ends, back) refl

regrouped : (a b c d : List ℕ) → a ++ (b ++ (c ++ d)) ≡ ((a ++ b) ++ c) ++ d
regrouped a b c d = simp append_assoc

joined : (b : Bool) (k : ℕ) (part more rest : List ℕ)
    → lead (last_if b) k ++ (part ++ (more ++ rest))
    ≡ (part_text (comma_if b) (margin k) part ++ more) ++ rest
joined true k part more rest = ap (λ s. 44 ∷ 10 ∷ s) (regrouped (margin k) part more rest)
joined false k part more rest = ap (λ s. 10 ∷ s) (regrouped (margin k) part more rest)

named : (q part rest : List ℕ) → (q ++ 58 ∷ []) ++ (32 ∷ (part ++ rest))
    ≡ ((q ++ (58 ∷ 32 ∷ [])) ++ part) ++ rest
named q part rest = simp append_assoc

bracketed : (first last : ℕ) (texts line rest : List ℕ)
    → first ∷ (texts ++ (line ++ (last ∷ rest)))
    ≡ (first ∷ ((texts ++ line) ++ (last ∷ []))) ++ rest
bracketed first last texts line rest = simp append_assoc

or_true : (b : Bool) → (b || true) ≡ true
or_true true = refl
or_true false = refl

one_deeper : (k : ℕ) → k ≤ 127 → min (k + 1) (2 ^ 64 - 1) ≡ k + 1
one_deeper k few = min-eq_left (omega (arith, few))

-- ---- documents

mutual
  value_text : (l : Last) (k : ℕ) (d : Doc) (ts : List Token) → k + depth d ≤ 127
      → pretty_from (l, k) (json_tokens (json_of d) ++ ts)
      ≡ lead l k ++ (indented (margin k) d ++ pretty_from (value, k) ts)
  value_text l k null ts few = one_token l k token.null ts refl
  value_text l k (boolean b) ts few = one_token l k (token.boolean b) ts refl
  value_text l k (whole z) ts few = one_token l k (token.number _) ts refl
  value_text l k (text s) ts few = one_token l k (token.string s) ts refl
  value_text l k (id s z) ts few = one_token l k (token.number _) ts refl
  value_text l k (list no_items) ts few =
      one_token l k token.begin_array (token.end_array ∷ ts) refl
      ∙ ap (λ n. lead l k ++ (91 ∷ pretty_from (bracket, n) (token.end_array ∷ ts)))
      (one_deeper k (omega (arith, few)))
      ∙ ap (λ s. lead l k ++ (91 ∷ s)) (closed false k 93 token.end_array ts refl refl (λ n. refl))
  value_text l k (list (item d ds)) ts few =
      let items = items_tokens (items_json (item d ds)) in
      one_token l k token.begin_array (items ++ ts) refl
      ∙ ap (λ n. lead l k ++ (91 ∷ pretty_from (bracket, n) (items ++ ts)))
      (one_deeper k (omega (arith, few)))
      ∙ ap (λ s. lead l k ++ (91 ∷ s)) (items_text false k (item d ds) ts (omega (arith, few)))
      ∙ ap (λ s. lead l k ++ s)
      (bracketed 91 93 (item_texts [] (margin (k + 1)) (item d ds)) (next_line (margin k))
      (pretty_from (value, k) ts)
      ∙ ap (λ m. (91 ∷ ((item_texts [] m (item d ds) ++ next_line (margin k)) ++ (93 ∷ [])))
      ++ pretty_from (value, k) ts) (deeper k))
  value_text l k (object no_members) ts few =
      one_token l k token.begin_object (token.end_object ∷ ts) refl
      ∙ ap (λ n. lead l k ++ (123 ∷ pretty_from (bracket, n) (token.end_object ∷ ts)))
      (one_deeper k (omega (arith, few)))
      ∙ ap (λ s. lead l k ++ (123 ∷ s))
      (closed false k 125 token.end_object ts refl refl (λ n. refl))
  value_text l k (object (member key d ms)) ts few =
      let members = members_tokens (members_json (member key d ms)) in
      one_token l k token.begin_object (members ++ ts) refl
      ∙ ap (λ n. lead l k ++ (123 ∷ pretty_from (bracket, n) (members ++ ts)))
      (one_deeper k (omega (arith, few)))
      ∙ ap (λ s. lead l k ++ (123 ∷ s))
      (members_text false k (member key d ms) ts (omega (arith, few)))
      ∙ ap (λ s. lead l k ++ s)
      (bracketed 123 125 (member_texts [] (margin (k + 1)) (member key d ms)) (next_line (margin k))
      (pretty_from (value, k) ts)
      ∙ ap (λ m. (123 ∷ ((member_texts [] m (member key d ms) ++ next_line (margin k))
      ++ (125 ∷ [])))
      ++ pretty_from (value, k) ts) (deeper k))

  items_text : (b : Bool) (k : ℕ) (ds : Items) (ts : List Token) → k + 1 + items_depth ds ≤ 127
      → pretty_from (last_if b, k + 1) (items_tokens (items_json ds) ++ ts)
      ≡ item_texts (comma_if b) (margin (k + 1)) ds
      ++ (close_if (has_items ds || b) k ++ (93 ∷ pretty_from (value, k) ts))
  items_text b k no_items ts few = closed b k 93 token.end_array ts refl refl (λ n. refl)
  items_text b k (item d ds) ts few =
      let more = items_tokens (items_json ds) in
      let within : k + 1 + depth d ≤ 127 =
      omega (arith, few, le-max_left (depth d) (items_depth ds)) in
      let others : k + 1 + items_depth ds ≤ 127 =
      omega (arith, few, le-max_right (depth d) (items_depth ds)) in
      ap (pretty_from (last_if b, k + 1)) (append_assoc (json_tokens (json_of d)) more ts)
      ∙ value_text (last_if b) (k + 1) d (more ++ ts) within
      ∙ ap (λ s. lead (last_if b) (k + 1) ++ (indented (margin (k + 1)) d ++ s))
      (items_text true k ds ts others)
      ∙ joined b (k + 1) (indented (margin (k + 1)) d) (item_texts (44 ∷ []) (margin (k + 1)) ds)
      (close_if (has_items ds || true) k ++ (93 ∷ pretty_from (value, k) ts))
      ∙ ap (λ c. item_texts (comma_if b) (margin (k + 1)) (item d ds)
      ++ (close_if c k ++ (93 ∷ pretty_from (value, k) ts))) (or_true (has_items ds))

  members_text : (b : Bool) (k : ℕ) (ms : Members) (ts : List Token)
      → k + 1 + members_depth ms ≤ 127
      → pretty_from (last_if b, k + 1) (members_tokens (members_json ms) ++ ts)
      ≡ member_texts (comma_if b) (margin (k + 1)) ms
      ++ (close_if (has_members ms || b) k ++ (125 ∷ pretty_from (value, k) ts))
  members_text b k no_members ts few = closed b k 125 token.end_object ts refl refl (λ n. refl)
  members_text b k (member key d ms) ts few =
      let more = members_tokens (members_json ms) in
      let within : k + 1 + depth d ≤ 127 =
      omega (arith, few, le-max_left (depth d) (members_depth ms)) in
      let others : k + 1 + members_depth ms ≤ 127 =
      omega (arith, few, le-max_right (depth d) (members_depth ms)) in
      let part = indented (margin (k + 1)) d in
      let later = member_texts (44 ∷ []) (margin (k + 1)) ms in
      let rest = close_if (has_members ms || true) k ++ (125 ∷ pretty_from (value, k) ts) in
      one_token (last_if b) (k + 1) (token.key key) ((json_tokens (json_of d) ++ more) ++ ts) refl
      ∙ ap (λ s. lead (last_if b) (k + 1) ++ ((quoted key ++ 58 ∷ []) ++ s))
      (ap (pretty_from (name, k + 1)) (append_assoc (json_tokens (json_of d)) more ts)
      ∙ value_text name (k + 1) d (more ++ ts) within
      ∙ ap (λ s. 32 ∷ (part ++ s)) (members_text true k ms ts others))
      ∙ ap (λ s. lead (last_if b) (k + 1) ++ s) (named (quoted key) part (later ++ rest))
      ∙ joined b (k + 1) ((quoted key ++ (58 ∷ 32 ∷ [])) ++ part) later rest
      ∙ ap (λ c. member_texts (comma_if b) (margin (k + 1)) (member key d ms)
      ++ (close_if c k ++ (125 ∷ pretty_from (value, k) ts))) (or_true (has_members ms))

nodes_spell : (ns : List Node) → tokens_of ns ≡ spell (map piece_of ns)
nodes_spell [] = refl
nodes_spell (n ∷ ns) = ap (λ ts. node_tokens n ++ ts) (nodes_spell ns)

pub pretty_indented : (ns : List Node) (d : Doc) → Represents ns d → depth d ≤ 127
    → pretty (tokens_of ns) ≡ indented [] d
unfolding pretty_from
pretty_indented ns d shows few =
    ap pretty (nodes_spell ns ∙ ap spell shows ∙ pieces_spell d
    ∙ sym (append-nil (json_tokens (json_of d))))
    ∙ value_text nothing 0 d [] (omega (arith, few)) ∙ append-nil (indented [] d)
