-- The numbers of values as `ValueNumbers` holds them.
use Rattle.std.specs.Prelude.{◌≡◌, ℕ, ◌<◌, ◌≤◌, Bool, true, false, cond, List, ◌∷◌, ◌++◌, length}
use Rattle.std.specs.Prelude.{Option, Some, None, unwrap_or, bytes_eq, reverse}
use Rattle.std.specs.List.{list_any}
use Rattle.std.specs.BTreeMap.{get_by, get_by_text}
use Rattle.std.specs.Cmp.Lexicographic.{slice_cmp}
use Rattle.std.specs.Ordering.{nat_cmp}
use Rattle.dap_tokens.specs.Naming.{Id, Numbering}
use Rattle.dap_tokens.specs.{Tokens.{Part, is_label}, Naming.{ids_of_parts, named_parts}}
use Rattle.dap_tree.specs.Doc.{Doc}
use Rattle.dap_naming.specs.Documents.{Declared, ids_of, named_doc}
use Rattle.dap_naming.specs.Numbers.{distinct, number}
use Rattle.dap_naming.specs.Sessions.{AreFew, HasTooMany}
use Rattle.dap_naming.specs.declared.value_numbers.ValueNumbers.{ValueNumbers}

-- The key of a value: its label, a blank, and the value, in reverse. A label contains no blank.
abbrev pub key : List ℕ → List ℕ → List ℕ
key label v = reverse (label ++ 32 ∷ v)

-- The number at a key.
abbrev pub number_at : ValueNumbers → List ℕ → Option ℕ
number_at numbers k = get_by (λ x. slice_cmp nat_cmp k x.items) numbers.numbers

-- The count of the values of a label.
abbrev pub count_of : ValueNumbers → List ℕ → ℕ
count_of numbers label = unwrap_or (get_by_text numbers.counts label) 0

-- The maximum number of values of a label.
abbrev pub limit_of : ValueNumbers → ℕ
limit_of numbers = numbers.limit

abbrev pub is_known : List Id → List ℕ → List ℕ → Bool
is_known is label v = list_any (bytes_eq v) (distinct label is)

-- The number of a value of a label that some id has.
abbrev pub known_number : List Id → List ℕ → List ℕ → Option ℕ
known_number is label v = cond (is_known is label v) (Some (number is label v)) None

-- These are the numbers of the values of the ids, for each label.
pub record Knows (numbers : ValueNumbers) (is : List Id) : Type 0 where
  pub value : (label v : List ℕ) → is_label label ≡ true
      → number_at numbers (key label v) ≡ known_number is label v
  pub count : (label : List ℕ) → is_label label ≡ true
      → count_of numbers label ≡ length (distinct label is)

-- `new` knows the ids of `old` and then the ids `js`, and the property holds of the numbers of the
-- ids, whatever ids follow.
abbrev pub Names : ValueNumbers → ValueNumbers → List Id → (Numbering → Type 0) → Type 0
Names old new js P = (is : List Id) → Knows old is
    → Knows new (is ++ js) × ((ks : List Id) → P (number (is ++ (js ++ ks))))

-- The document `e` is `d` with each declared id replaced by its name, and `new` knows the ids of
-- `old` and then those of `d`.
abbrev pub NamesDoc : ValueNumbers → ValueNumbers → List Declared → Doc → Doc → Type 0
NamesDoc old new rs d e = Names old new (ids_of rs d) (λ number. e ≡ named_doc rs number d)

-- The value of the id is new, and its label has as many values as the limit.
abbrev pub IsFull : ValueNumbers → Id → Type 0
IsFull numbers i = (is : List Id) → Knows numbers is
    → (is_known is i.0 i.1 ≡ false) × (limit_of numbers ≤ length (distinct i.0 is))

-- If the value of the id is new, its label has fewer values than the limit.
abbrev pub HasRoom : ValueNumbers → Id → Type 0
HasRoom numbers i = (is : List Id) → Knows numbers is → is_known is i.0 i.1 ≡ false
    → length (distinct i.0 is) < limit_of numbers

-- If no label of the ids so far has more values than the limit, then none has with the ids `js`.
abbrev pub FitsLimit : ValueNumbers → List Id → Type 0
FitsLimit numbers js = (is : List Id) → Knows numbers is → AreFew (limit_of numbers) is
    → AreFew (limit_of numbers) (is ++ js)

-- Some label of the ids so far and of the ids `js` has more values than the limit.
abbrev pub ExceedsLimit : ValueNumbers → List Id → Type 0
ExceedsLimit numbers js = (is : List Id) → Knows numbers is
    → HasTooMany (limit_of numbers) (is ++ js)

-- Each number of `old` is a number of `new`.
abbrev pub Keeps : ValueNumbers → ValueNumbers → Type 0
Keeps old new = (k : List ℕ) (n : ℕ) → number_at old k ≡ Some n → number_at new k ≡ Some n

-- The function has the numbers of this label.
abbrev pub HasNumbers : ValueNumbers → List ℕ → (List ℕ → ℕ) → Type 0
HasNumbers numbers label f =
    (v : List ℕ) (n : ℕ) → number_at numbers (key label v) ≡ Some n → f v ≡ n

-- Each number of `old` is a number of `new`, and the property holds of each numbering that has the
-- numbers of `new`. The numbers can be any: they need not be those of a list of ids.
abbrev pub ByTable : ValueNumbers → ValueNumbers → (Numbering → Type 0) → Type 0
ByTable old new P = Keeps old new
    × ((f : Numbering) → ((label : List ℕ) → HasNumbers new label (f label)) → P f)

-- The document `e` is `d` with each declared id replaced by its name, by the numbers of `new`.
abbrev pub NamesByTable : ValueNumbers → ValueNumbers → List Declared → Doc → Doc → Type 0
NamesByTable old new rs d e = ByTable old new (λ f. e ≡ named_doc rs f d)

-- Appends the parts of a text, with the names of the ids. The last part holds even if the numbers
-- are not those of a list of ids.
abbrev pub Writes : ValueNumbers → ValueNumbers → List Part → List ℕ → List ℕ → Type 0
Writes old new ps before after =
    Names old new (ids_of_parts ps) (λ number. after ≡ before ++ named_parts number ps)
    × ByTable old new (λ f. after ≡ before ++ named_parts f ps)
