-- The joint numbers of the declared ids of two recordings.
use Rattle.std.specs.Prelude.{◌≡◌, ℕ, ◌+◌, ℤ, Bool, true, cond, not, ◌&&◌, ◌||◌, List, []}
use Rattle.std.specs.Prelude.{◌∷◌, ◌++◌}
use Rattle.std.specs.Prelude.{Option, Some, None, is_some, option_map, unwrap_or, bytes_eq}
use Rattle.std.specs.{BTreeMap.get_by, List.list_all}
use Rattle.std.specs.Cmp.Lexicographic.{slice_cmp}
use Rattle.std.specs.Ordering.{nat_cmp}
use Rattle.dap_tree.specs.Doc.{Doc, whole, text, list, object, Items, no_items, item, Members}
use Rattle.dap_tree.specs.Doc.{no_members, member, get_member}
use Rattle.dap_mask.specs.Declarations.{Declaration}
use Rattle.dap_tokens.specs.Tokens.{Labels, Part, literal, token, parts, is_label}
use Rattle.dap_tokens.specs.{Naming.{Id, Numbering}, Values.{value, is_nothing}}
use Rattle.dap_tokens.specs.declared.form.Form.TheVariants.{Whole}
use Rattle.dap_naming.specs.Documents.{Declared, here, below, inside, integer_text}
use Rattle.dap_naming.specs.Documents.{named_doc}
use Rattle.dap_naming.specs.Sessions.{rules_for}
use Rattle.dap_naming.specs.Known.{key, number_at, count_of, limit_of}
use Rattle.dap_naming.specs.declared.joint.JointNames.{JointNames}
use Rattle.dap_naming.specs.declared.joint.Labelled.{Labelled}

-- The joint number at a key of A, and at a key of B.
abbrev pub at_a : JointNames → List ℕ → Option ℕ
at_a names k = number_at names.a k

abbrev pub at_b : JointNames → List ℕ → Option ℕ
at_b names k = get_by (λ x. slice_cmp nat_cmp k x.items) names.b

-- The joint number of a value of a label in A, and in B.
abbrev pub number_in_a : JointNames → List ℕ → List ℕ → Option ℕ
number_in_a names label v = at_a names (key label v)

abbrev pub number_in_b : JointNames → List ℕ → List ℕ → Option ℕ
number_in_b names label v = at_b names (key label v)

-- The maximum number of joint numbers of a label.
abbrev pub limit_of_both : JointNames → ℕ
limit_of_both names = limit_of names.a

-- No value has a number.
pub record HasNone (names : JointNames) : Type 0 where
  pub in_a : (label v : List ℕ) → is_label label ≡ true → number_in_a names label v ≡ None
  pub in_b : (label v : List ℕ) → number_in_b names label v ≡ None

-- Each number of `old` is a number of `new`.
pub record KeepsNumbers (old new : JointNames) : Type 0 where
  pub in_a : (k : List ℕ) (n : ℕ) → at_a old k ≡ Some n → at_a new k ≡ Some n
  pub in_b : (k : List ℕ) (n : ℕ) → at_b old k ≡ Some n → at_b new k ≡ Some n

-- The values of A have the same numbers, and those of B.
abbrev pub SameInA : JointNames → JointNames → Type 0
SameInA old new = (k : List ℕ) → at_a new k ≡ at_a old k

abbrev pub SameInB : JointNames → JointNames → Type 0
SameInB old new = (k : List ℕ) → at_b new k ≡ at_b old k

-- ---- the names of a message

-- The document `e` is `d` with each declared id replaced by its name, by the numbers of A. Each id
-- has such a number, since the numbering can be any that has the numbers of A.
abbrev pub NamesInA : JointNames → List Declaration → Doc → Doc → Type 0
NamesInA names xs d e = (f : Numbering)
    → ((label v : List ℕ) (n : ℕ) → number_in_a names label v ≡ Some n → f label v ≡ n)
    → e ≡ named_doc (rules_for xs d) f d

-- The same by the numbers of B.
abbrev pub NamesInB : JointNames → List Declaration → Doc → Doc → Type 0
NamesInB names xs d e = (f : Numbering)
    → ((label v : List ℕ) (n : ℕ) → number_in_b names label v ≡ Some n → f label v ≡ n)
    → e ≡ named_doc (rules_for xs d) f d

-- ---- the pairs of two messages

-- A label, a value of A and a value of B.
abbrev pub Pair : Type 0
Pair = List ℕ × List ℕ × List ℕ

-- The label and the value of a token.
abbrev pub id_of : Labelled → Id
id_of t = (t.label.now, t.value.items)

-- Both are ids of one label.
abbrev pub are_paired : Id → Id → Bool
are_paired i j = bytes_eq i.0 j.0 && not (is_nothing i.1 || is_nothing j.1)

-- The pairs at each position of two lists of tokens, each with its label and its value.
abbrev pub value_pairs : List Id → List Id → List Pair
value_pairs [] js = []
value_pairs (i ∷ is) [] = []
value_pairs (i ∷ is) (j ∷ js) = cond (are_paired i j)
    ((i.0, i.1, j.1) ∷ value_pairs is js) (value_pairs is js)

-- The labels and the values of the tokens among the parts of a string, in order.
abbrev pub tokens_in : List Part → List Id
tokens_in [] = []
tokens_in (literal b ∷ ps) = tokens_in ps
tokens_in (token form label t ∷ ps) = (label, value label form t) ∷ tokens_in ps

-- The pairs of two strings: the ids at each position among their tokens.
abbrev pub text_pairs : Labels → List ℕ → Labels → List ℕ → List Pair
text_pairs labels s others t = value_pairs (tokens_in (parts labels s)) (tokens_in (parts others t))

-- The integer as a token, if it has a label.
abbrev pub whole_token : Option (List ℕ) → ℤ → List Id
whole_token None z = []
whole_token (Some label) z = (label, integer_text z) ∷ []

-- The pair of two integers, if both are ids of one label.
abbrev pub whole_pairs : Option (List ℕ) → ℤ → Option (List ℕ) → ℤ → List Pair
whole_pairs label z other y = value_pairs (whole_token label z) (whole_token other y)

-- The pairs of two documents, each with its rules: the ids of one label at one place. Elements are
-- at one place by their index, and members by their name.
abbrev mutual
  pub doc_pairs : List Declared → Doc → List Declared → Doc → List Pair
  doc_pairs rs (whole z) qs (whole y) = whole_pairs (here rs Whole) z (here qs Whole) y
  doc_pairs rs (text s) qs (text t) = text_pairs (here rs) s (here qs) t
  doc_pairs rs (list ds) qs (list es) = items_pairs rs ds qs es
  doc_pairs rs (object ms) qs (object ns) = members_pairs rs ms qs ns
  doc_pairs rs d qs e = []

  pub items_pairs : List Declared → Items → List Declared → Items → List Pair
  items_pairs rs no_items qs es = []
  items_pairs rs (item d ds) qs no_items = []
  items_pairs rs (item d ds) qs (item e es) =
      doc_pairs (inside d rs) d (inside e qs) e ++ items_pairs rs ds qs es

  pub members_pairs : List Declared → Members → List Declared → Members → List Pair
  members_pairs rs no_members qs ns = []
  members_pairs rs (member k d ms) qs ns =
      unwrap_or (option_map (λ e. doc_pairs (below k rs) d (below k qs) e) (get_member k ns)) []
      ++ members_pairs rs ms qs ns

abbrev pub message_pairs : List Declaration → Doc → Doc → List Pair
message_pairs xs d e = doc_pairs (rules_for xs d) d (rules_for xs e) e

-- ---- joining

-- The numbers at the keys of A and of B, and the count of the numbers of each label.
pub record Table : Type 0 where
  pub a : List ℕ → Option ℕ
  pub b : List ℕ → Option ℕ
  pub count : List ℕ → ℕ

abbrev pub table_of : JointNames → Table
table_of names = record { a = at_a names; b = at_b names; count = count_of names.a }

-- The function with another value for a list of bytes.
abbrev pub with_value : {A : Type 0} → (List ℕ → A) → List ℕ → A → List ℕ → A
with_value f k v l = cond (bytes_eq k l) v (f l)

-- Gives the two values the next number of their label.
abbrev pub add_pair : Table → Pair → Table
add_pair t p = record {
  a = with_value t.a (key p.0 p.1) (Some (t.count p.0 + 1));
  b = with_value t.b (key p.0 p.2) (Some (t.count p.0 + 1));
  count = with_value t.count p.0 (t.count p.0 + 1);
}

-- One of the two values has a number.
abbrev pub is_numbered : Table → Pair → Bool
is_numbered t p = is_some (t.a (key p.0 p.1)) || is_some (t.b (key p.0 p.2))

-- Joins the two values, if neither has a number.
abbrev pub join_pair : Table → Pair → Table
join_pair t p = cond (is_numbered t p) t (add_pair t p)

abbrev pub join_all : Table → List Pair → Table
join_all t [] = t
join_all t (p ∷ ps) = join_all (join_pair t p) ps

-- `new` has the numbers of `old` after the pairs are joined in order, and no others.
abbrev pub Joins : JointNames → JointNames → List Pair → Type 0
Joins old new ps = table_of new ≡ join_all (table_of old) ps

-- In each pair, at least one of the two values has a number.
abbrev pub AreNumbered : JointNames → List Pair → Type 0
AreNumbered names ps = list_all (is_numbered (table_of names)) ps ≡ true
