-- Joining the values of two messages.
use Rattle.std.proofs.Common.{◌≡◌, ℕ, ◌+◌, ℤ, Bool, true, false, cond, List, [], ◌∷◌, ◌++◌, map}
use Rattle.std.proofs.Common.{take, drop, Option, Some, None, is_some, option_map, unwrap_or, Bor}
use Rattle.std.proofs.Common.{bytes_eq, string_bytes, nat_cmp, ◌⊎◌, inl, inr, ⊎_elim, refl, ap, ap₂}
use Rattle.std.proofs.Common.{sym, ◌∙◌, append_assoc, suc, ◌-◌, ◌<◌, length, length-drop, arith}
use Rattle.std.proofs.Common.{String, Global, rules}
use Rattle.std.proofs.lemmas.Bool.{or_cases, or_left, or_right, and_from}
use Rattle.std.specs.{List.list_all, BTreeMap.is_at, Map.lookup}
use Rattle.std.specs.Char.{is_ascii_hexdigit}
use Rattle.std.specs.Cmp.Lexicographic.{slice_cmp}
use Rattle.dap_tokens.specs.Tokens.{Labels, Token, token_at, parts, parts_from}
use Rattle.dap_tokens.specs.{Naming.{Id}, Values.{value}}
use Rattle.dap_tokens.specs.declared.form.Form.{TheVariants.{Whole}}
use Rattle.dap_tokens.proofs.{Readings.{of_byte}, Starts.{count_some}}
use Rattle.dap_tree.specs.Doc.{Doc, whole, text, list, object, Items, no_items, item, Members}
use Rattle.dap_tree.specs.Doc.{no_members, member, get_member}
use Rattle.dap_tree.specs.View.{view, items_view, members_view}
use Rattle.dap_tree.specs.declared.tree.Tree.{Tree, the_lemmas}
use Rattle.dap_tree.specs.declared.tree.Tree as tree
use Rattle.dap_tree.proofs.Views.{view-lookup, view_of_ref}
use Rattle.dap_naming.specs.Documents.{Declared, here, below, inside, integer_text}
use Rattle.dap_naming.specs.Joint.{Pair, id_of, are_paired, value_pairs, tokens_in, text_pairs}
use Rattle.dap_naming.specs.Joint.{whole_token, whole_pairs, doc_pairs, items_pairs, members_pairs}
use Rattle.dap_naming.specs.Joint.{Table, table_of, is_numbered, add_pair, join_pair, join_all}
use Rattle.dap_naming.specs.Joint.{Joins, AreNumbered}
use Rattle.dap_naming.specs.Known.{key}
use Rattle.dap_naming.specs.declared.joint.JointNames.{JointNames}
use Rattle.dap_naming.specs.declared.joint.Labelled.{Labelled}
use Rattle.dap_naming.proofs.Additions.{itself}
use Rattle.dap_naming.proofs.Lists.{by_bool}
use Rattle.dap_naming.proofs.MoreParts.{Entry}
use Rattle.dap_naming.proofs.Writing.{read_part}

-- ---- pairs after other pairs

joined-append : (t : Table) (ps qs : List Pair)
    → join_all t (ps ++ qs) ≡ join_all (join_all t ps) qs
joined-append t [] qs = refl
joined-append t (p ∷ ps) qs = joined-append (join_pair t p) ps qs

-- `all` begins with the pairs `ps`, which are joined now, and the pairs `qs` are left
joined_step : (t u w : Table) (ps qs all : List Pair) → join_all t all ≡ w → all ≡ ps ++ qs
    → u ≡ join_all t ps → join_all u qs ≡ w
joined_step t u w ps qs all h split e =
    ap (λ s. join_all s qs) e ∙ sym (joined-append t ps qs) ∙ ap (join_all t) (sym split) ∙ h

-- no pair is left
joined_last : (t w : Table) (ps : List Pair) → join_all t ps ≡ w → ps ≡ [] → t ≡ w
joined_last t w ps h none = sym (ap (join_all t) none) ∙ h

pub none_joined : (names : JointNames) (ps : List Pair) → ps ≡ [] → Joins names names ps
none_joined names ps none = sym (ap (join_all (table_of names)) none)

pub joined_like : (old new : JointNames) (ps qs : List Pair) → ps ≡ qs → Joins old new ps
    → Joins old new qs
joined_like old new ps qs same h = h ∙ ap (join_all (table_of old)) same

-- ---- the values of each pair

some_kept : (b : Bool) (n : ℕ) (o : Option ℕ) → is_some o ≡ true
    → is_some (cond b (Some n) o) ≡ true
some_kept true n o h = refl
some_kept false n o h = h

stays_numbered : (t : Table) (p q : Pair) → is_numbered t p ≡ true
    → is_numbered (add_pair t q) p ≡ true
stays_numbered t p q h =
    let n = t.count q.0 + 1 in
    ⊎_elim
    (λ e. or_left _ _
    (some_kept (bytes_eq (key q.0 q.1) (key p.0 p.1)) n (t.a (key p.0 p.1)) e))
    (λ e. or_right _ _
    (some_kept (bytes_eq (key q.0 q.2) (key p.0 p.2)) n (t.b (key p.0 p.2)) e))
    (or_cases (is_some (t.a (key p.0 p.1))) (is_some (t.b (key p.0 p.2))) h)

-- joining keeps the number of each pair
stays_joined : (t : Table) (p q : Pair) → is_numbered t p ≡ true
    → is_numbered (join_pair t q) p ≡ true
stays_joined t p q h =
    by_bool (is_numbered t q)
    (λ e. ap (λ b. is_numbered (cond b t (add_pair t q)) p) e ∙ h)
    (λ e. ap (λ b. is_numbered (cond b t (add_pair t q)) p) e ∙ stays_numbered t p q h)

stays_after : (t : Table) (qs : List Pair) (p : Pair) → is_numbered t p ≡ true
    → is_numbered (join_all t qs) p ≡ true
stays_after t [] p h = h
stays_after t (q ∷ qs) p h = stays_after (join_pair t q) qs p (stays_joined t p q h)

added_numbered : (t : Table) (p : Pair) → is_numbered (add_pair t p) p ≡ true
added_numbered t p =
    or_left _ _
    (ap (λ b. is_some (cond b (Some (t.count p.0 + 1)) (t.a (key p.0 p.1))))
    (itself (key p.0 p.1)))

joined_numbered : (t : Table) (p : Pair) → is_numbered (join_pair t p) p ≡ true
joined_numbered t p =
    by_bool (is_numbered t p)
    (λ e. ap (λ b. is_numbered (cond b t (add_pair t p)) p) e ∙ e)
    (λ e. ap (λ b. is_numbered (cond b t (add_pair t p)) p) e ∙ added_numbered t p)

all_numbered : (t : Table) (ps : List Pair) → list_all (is_numbered (join_all t ps)) ps ≡ true
all_numbered t [] = refl
all_numbered t (p ∷ ps) =
    and_from _ _ (stays_after (join_pair t p) ps p (joined_numbered t p))
    (all_numbered (join_pair t p) ps)

pub numbered_since : (old new : JointNames) (ps : List Pair) → Joins old new ps
    → AreNumbered new ps
numbered_since old new ps h =
    ap (λ t. list_all (is_numbered t) ps) h ∙ all_numbered (table_of old) ps

-- ---- lists of tokens

no_values_left : (is js : List Id) → is ≡ [] → value_pairs is js ≡ []
no_values_left is js none = ap (λ us. value_pairs us js) none

no_values_right : (is js : List Id) → js ≡ [] → value_pairs is js ≡ []
no_values_right [] js none = refl
no_values_right (i ∷ is) js none = ap (value_pairs (i ∷ is)) none

one_more : (b : Bool) (p : Pair) (ps : List Pair) → cond b (p ∷ ps) ps ≡ cond b (p ∷ []) [] ++ ps
one_more true p ps = refl
one_more false p ps = refl

values_first : (i j : Id) (is js : List Id)
    → value_pairs (i ∷ is) (j ∷ js) ≡ value_pairs (i ∷ []) (j ∷ []) ++ value_pairs is js
values_first i j is js =
    one_more (are_paired i j) (i.0, i.1, j.1) (value_pairs is js)

pub tokens_more : (t u w : Table) (xs ys more others : List Labelled) (x y : Labelled)
    → join_all t (value_pairs (map id_of xs) (map id_of ys)) ≡ w → xs ≡ x ∷ more
    → ys ≡ y ∷ others → u ≡ join_all t (value_pairs (id_of x ∷ []) (id_of y ∷ []))
    → join_all u (value_pairs (map id_of more) (map id_of others)) ≡ w
tokens_more t u w xs ys more others x y h e f joined =
    let rest = value_pairs (map id_of more) (map id_of others) in
    joined_step t u w (value_pairs (id_of x ∷ []) (id_of y ∷ [])) rest
    (value_pairs (map id_of xs) (map id_of ys)) h
    (ap₂ (λ us vs. value_pairs (map id_of us) (map id_of vs)) e f
    ∙ values_first (id_of x) (id_of y) (map id_of more) (map id_of others)) joined

pub tokens_end : (t w : Table) (xs ys : List Labelled)
    → join_all t (value_pairs (map id_of xs) (map id_of ys)) ≡ w → (xs ≡ []) ⊎ (ys ≡ []) → t ≡ w
tokens_end t w xs ys h (inl none) =
    joined_last t w (value_pairs (map id_of xs) (map id_of ys)) h
    (no_values_left (map id_of xs) (map id_of ys) (ap (map id_of) none))
tokens_end t w xs ys h (inr none) =
    joined_last t w (value_pairs (map id_of xs) (map id_of ys)) h
    (no_values_right (map id_of xs) (map id_of ys) (ap (map id_of) none))

-- ---- strings

-- the pairs of two lists of tokens are those of the strings
pub text_tokens : (labels others : Labels) (s t u v : List ℕ) (xs ys : List Labelled) → u ≡ s
    → v ≡ t → map id_of xs ≡ tokens_in (parts labels u) → map id_of ys ≡ tokens_in (parts others v)
    → value_pairs (map id_of xs) (map id_of ys) ≡ text_pairs labels s others t
text_tokens labels others s t u v xs ys e k left right =
    ap₂ value_pairs (left ∙ ap (λ x. tokens_in (parts labels x)) e)
    (right ∙ ap (λ x. tokens_in (parts others x)) k)

-- ---- integers

no_whole_right : (o : Option (List ℕ)) (z y : ℤ) → whole_pairs o z None y ≡ []
no_whole_right o z y = no_values_right (whole_token o z) [] refl

pub wholes_joined : (old new : JointNames) (o q : Option (List ℕ)) (label other : List ℕ) (z y : ℤ)
    (i j : Id) → o ≡ Some label → q ≡ Some other → i ≡ (label, integer_text z)
    → j ≡ (other, integer_text y) → Joins old new (value_pairs (i ∷ []) (j ∷ []))
    → Joins old new (whole_pairs o z q y)
wholes_joined old new o q label other z y i j is_a is_b left right joined =
    joined_like old new (value_pairs (i ∷ []) (j ∷ [])) (whole_pairs o z q y)
    (ap₂ (λ us vs. value_pairs (us ∷ []) (vs ∷ [])) left right
    ∙ ap₂ (λ us vs. whole_pairs us z vs y) (sym is_a) (sym is_b)) joined

-- ---- a string or an integer, by its rules

pub view-Text : (s : String Global) → view (tree.Text s) ≡ text (string_bytes s)
view-Text s = search (rules, the_lemmas)

pub view-Whole : (z : ℤ) → view (tree.Whole z) ≡ whole z
view-Whole z = search (rules, the_lemmas)

pub doc_texts : (old new : JointNames) (rs qs : List Declared) (labels others : Labels)
    (s t : List ℕ) (d e : Doc) → labels ≡ here rs → others ≡ here qs → d ≡ text s → e ≡ text t
    → Joins old new (text_pairs labels s others t) → Joins old new (doc_pairs rs d qs e)
doc_texts old new rs qs labels others s t d e here_a here_b is_a is_b joined =
    joined_like old new (text_pairs labels s others t) (doc_pairs rs d qs e)
    (ap₂ (λ ls ms. text_pairs ls s ms t) here_a here_b
    ∙ ap₂ (λ us vs. doc_pairs rs us qs vs) (sym is_a) (sym is_b)) joined

pub doc_wholes : (old new : JointNames) (rs qs : List Declared) (labels others : Labels) (z y : ℤ)
    (d e : Doc) → labels ≡ here rs → others ≡ here qs → d ≡ whole z → e ≡ whole y
    → Joins old new (whole_pairs (labels Whole) z (others Whole) y)
    → Joins old new (doc_pairs rs d qs e)
doc_wholes old new rs qs labels others z y d e here_a here_b is_a is_b joined =
    joined_like old new (whole_pairs (labels Whole) z (others Whole) y) (doc_pairs rs d qs e)
    (ap₂ (λ (ls : Labels) (ms : Labels). whole_pairs (ls Whole) z (ms Whole) y) here_a here_b
    ∙ ap₂ (λ us vs. doc_pairs rs us qs vs) (sym is_a) (sym is_b)) joined

-- ---- documents without rules

no_tokens : (d : Bool) (s : List ℕ) → tokens_in (parts_from (here []) 0 d s) ≡ []
no_tokens d [] = refl
no_tokens d (b ∷ s) = no_tokens (is_ascii_hexdigit b) s

none_found : (o : Option Doc) (f : Doc → List Pair) → ((e : Doc) → f e ≡ [])
    → unwrap_or (option_map f o) [] ≡ []
none_found None f h = refl
none_found (Some e) f h = h e

mutual
  pub unruled_a : (d : Doc) (qs : List Declared) (e : Doc) → doc_pairs [] d qs e ≡ []
  unruled_a (whole z) qs (whole y) = refl
  unruled_a (text s) qs (text t) =
      no_values_left (tokens_in (parts (here []) s)) (tokens_in (parts (here qs) t))
      (no_tokens false s)
  unruled_a (list ds) qs (list es) = unruled_items_a ds qs es
  unruled_a (object ms) qs (object ns) = unruled_members_a ms qs ns
  unruled_a d qs e = refl

  unruled_items_a : (ds : Items) (qs : List Declared) (es : Items) → items_pairs [] ds qs es ≡ []
  unruled_items_a no_items qs es = refl
  unruled_items_a (item d ds) qs no_items = refl
  unruled_items_a (item d ds) qs (item e es) =
      ap₂ (λ ps us. ps ++ us) (unruled_a d (inside e qs) e) (unruled_items_a ds qs es)

  unruled_members_a : (ms : Members) (qs : List Declared) (ns : Members)
      → members_pairs [] ms qs ns ≡ []
  unruled_members_a no_members qs ns = refl
  unruled_members_a (member k d ms) qs ns =
      ap₂ (λ ps us. ps ++ us)
      (none_found (get_member k ns) (λ e. doc_pairs [] d (below k qs) e)
      (λ e. unruled_a d (below k qs) e))
      (unruled_members_a ms qs ns)

mutual
  pub unruled_b : (rs : List Declared) (d e : Doc) → doc_pairs rs d [] e ≡ []
  unruled_b rs (whole z) (whole y) = no_whole_right (here rs Whole) z y
  unruled_b rs (text s) (text t) =
      no_values_right (tokens_in (parts (here rs) s)) (tokens_in (parts (here []) t))
      (no_tokens false t)
  unruled_b rs (list ds) (list es) = unruled_items_b rs ds es
  unruled_b rs (object ms) (object ns) = unruled_members_b rs ms ns
  unruled_b rs d e = refl

  unruled_items_b : (rs : List Declared) (ds es : Items) → items_pairs rs ds [] es ≡ []
  unruled_items_b rs no_items es = refl
  unruled_items_b rs (item d ds) no_items = refl
  unruled_items_b rs (item d ds) (item e es) =
      ap₂ (λ ps us. ps ++ us) (unruled_b (inside d rs) d e) (unruled_items_b rs ds es)

  unruled_members_b : (rs : List Declared) (ms ns : Members) → members_pairs rs ms [] ns ≡ []
  unruled_members_b rs no_members ns = refl
  unruled_members_b rs (member k d ms) ns =
      ap₂ (λ ps us. ps ++ us)
      (none_found (get_member k ns) (λ e. doc_pairs (below k rs) d [] e)
      (λ e. unruled_b (below k rs) d e))
      (unruled_members_b rs ms ns)

pub no_rules_a : (rs qs : List Declared) (d e : Doc) → rs ≡ [] → doc_pairs rs d qs e ≡ []
no_rules_a rs qs d e none = ap (λ us. doc_pairs us d qs e) none ∙ unruled_a d qs e

pub no_rules_b : (rs qs : List Declared) (d e : Doc) → qs ≡ [] → doc_pairs rs d qs e ≡ []
no_rules_b rs qs d e none = ap (λ us. doc_pairs rs d us e) none ∙ unruled_b rs d e

-- ---- elements that are left

pub items_more : (t u w : Table) (rs qs ts us : List Declared) (xs ys more others : List Tree)
    (x y : Tree) → join_all t (items_pairs rs (items_view xs) qs (items_view ys)) ≡ w
    → xs ≡ x ∷ more → ys ≡ y ∷ others → ts ≡ inside (view x) rs → us ≡ inside (view y) qs
    → u ≡ join_all t (doc_pairs ts (view x) us (view y))
    → join_all u (items_pairs rs (items_view more) qs (items_view others)) ≡ w
items_more t u w rs qs ts us xs ys more others x y h e f left right joined =
    let rest = items_pairs rs (items_view more) qs (items_view others) in
    joined_step t u w (doc_pairs ts (view x) us (view y)) rest
    (items_pairs rs (items_view xs) qs (items_view ys)) h
    (ap₂ (λ vs ws. items_pairs rs (items_view vs) qs (items_view ws)) e f
    ∙ ap₂ (λ vs ws. doc_pairs vs (view x) ws (view y) ++ rest) (sym left) (sym right)) joined

-- ---- members that are left

pub member_found : (k q : List ℕ) (es : List Entry) (r : Option (Bor Tree)) → q ≡ k
    → option_map (λ x. x.now) r
    ≡ lookup (is_at (λ x. slice_cmp nat_cmp q (string_bytes x))) es
    → get_member k (members_view es) ≡ option_map (λ x. view x.now) r
member_found k q es r same found =
    ap (λ x. get_member x (members_view es)) (sym same)
    ∙ sym (view_of_ref r ∙ ap (option_map view) found ∙ view-lookup q es)

-- the pairs of the members that are left, if this is the member of the other object
pub member_split : (rs qs : List Declared) (es more : List Entry) (e : Entry) (ns : Members)
    (o : Option Doc) → es ≡ e ∷ more → get_member (string_bytes e.0) ns ≡ o
    → members_pairs rs (members_view es) qs ns
    ≡ unwrap_or (option_map (λ d. doc_pairs (below (string_bytes e.0) rs) (view e.1)
    (below (string_bytes e.0) qs) d) o) [] ++ members_pairs rs (members_view more) qs ns
member_split rs qs es more e ns o split found =
    let k = string_bytes e.0 in
    ap (λ vs. members_pairs rs (members_view vs) qs ns) split
    ∙ ap (λ p. unwrap_or (option_map (λ d. doc_pairs (below k rs) (view e.1) (below k qs) d) p) []
    ++ members_pairs rs (members_view more) qs ns) found

pub members_more : (t u w : Table) (rs qs ts us : List Declared) (es more : List Entry)
    (e : Entry) (ns : Members) (y : Tree)
    → join_all t (members_pairs rs (members_view es) qs ns) ≡ w → es ≡ e ∷ more
    → get_member (string_bytes e.0) ns ≡ Some (view y) → ts ≡ below (string_bytes e.0) rs
    → us ≡ below (string_bytes e.0) qs → u ≡ join_all t (doc_pairs ts (view e.1) us (view y))
    → join_all u (members_pairs rs (members_view more) qs ns) ≡ w
members_more t u w rs qs ts us es more e ns y h split found left right joined =
    let rest = members_pairs rs (members_view more) qs ns in
    joined_step t u w (doc_pairs ts (view e.1) us (view y)) rest
    (members_pairs rs (members_view es) qs ns) h
    (member_split rs qs es more e ns (Some (view y)) split found
    ∙ ap₂ (λ vs ws. doc_pairs vs (view e.1) ws (view y) ++ rest) (sym left) (sym right)) joined

pub members_other : (t w : Table) (rs qs : List Declared) (es more : List Entry) (e : Entry)
    (ns : Members) → join_all t (members_pairs rs (members_view es) qs ns) ≡ w
    → es ≡ e ∷ more → get_member (string_bytes e.0) ns ≡ None
    → join_all t (members_pairs rs (members_view more) qs ns) ≡ w
members_other t w rs qs es more e ns h split found =
    ap (join_all t) (sym (member_split rs qs es more e ns None split found)) ∙ h

-- ---- the tokens of a string

module _ (labels : Labels) where
  pub byte_read : (d e : Bool) (rest : List ℕ) (b : ℕ) (s : List ℕ) (before all : List Id)
      → before ++ tokens_in (parts_from labels 0 d rest) ≡ all → rest ≡ b ∷ s
      → token_at labels d rest ≡ None → e ≡ is_ascii_hexdigit b
      → before ++ tokens_in (parts_from labels 0 e s) ≡ all
  byte_read d e rest b s before all h split none digit =
      ap (λ f. before ++ tokens_in (parts_from labels 0 f s)) digit
      ∙ ap (λ ps. before ++ tokens_in ps)
      (sym (ap (parts_from labels 0 d) split
      ∙ of_byte labels d b s (ap (token_at labels d) (sym split) ∙ none))) ∙ h

  pub token_read : (d : Bool) (rest part others : List ℕ) (k : ℕ) (s : List ℕ) (t : Token)
      (i : Id) (before all : List Id) → before ++ tokens_in (parts_from labels 0 d rest) ≡ all
      → rest ≡ k ∷ s → token_at labels d rest ≡ Some t → part ≡ take t.count rest
      → others ≡ drop t.count rest → i ≡ (t.label, value t.label t.form part)
      → (before ++ i ∷ []) ++ tokens_in (parts_from labels 0 false others) ≡ all
  token_read d rest part others k s t i before all h split found first after is =
      append_assoc before (i ∷ []) (tokens_in (parts_from labels 0 false others))
      ∙ ap₂ (λ (j : Id) (u : List ℕ). before ++ j ∷ tokens_in (parts_from labels 0 false u)) is
      after
      ∙ ap (λ ps. before ++ tokens_in ps)
      (sym (read_part labels d rest part k s t split found first)) ∙ h

  -- a token has bytes
  pub token_shorter : (d : Bool) (rest others : List ℕ) (k : ℕ) (s : List ℕ) (t : Token)
      → rest ≡ k ∷ s → token_at labels d rest ≡ Some t → others ≡ drop t.count rest
      → length others < length rest
  token_shorter d rest others k s t split found after =
      let some = count_some labels d rest t found in
      let long : length rest ≡ suc (length s) = ap length split in
      let left : length others ≡ length rest - t.count =
      ap length after ∙ length-drop t.count rest in
      omega (arith, some)
