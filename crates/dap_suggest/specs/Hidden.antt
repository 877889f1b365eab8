-- How many equal values a rule hides that the rules before it do not hide. Source: own.
use Rattle.std.specs.Prelude.{◌≡◌, ℕ, ◌-◌, ◌^◌, ◌==◌, Bool, ◌&&◌, ◌||◌, not, List, [], ◌++◌}
use Rattle.std.specs.Prelude.{◌∷◌, true, false, if◌then◌else◌, pos, bit_and, bit_or, bytes_eq}
use Rattle.std.specs.Prelude.{codes, count_by, decimal, min}
use Rattle.std.specs.List.{AllZip, enumerate_from, fold, list_any, sum_by}
use Rattle.std.specs.{Char.is_ascii_digit, Ordering.int_eq}
use Rattle.dap_tree.specs.Doc.{Doc, null, boolean, whole, text, list, object, id}
use Rattle.dap_tree.specs.Doc.{no_items, no_members}
use Rattle.dap_mask.specs.{FlatMasking.squeezed, Rules.of_verb}
use Rattle.dap_mask.specs.declared.rules.Verb.{Verb, TheVariants.{Blank, Digits, Hex, Long, Uuid}}
use Rattle.dap_suggest.specs.declared.spot.TheConstants.{ALL}
use Rattle.dap_suggest.specs.declared.spot.Rule.{Rule}
use Rattle.dap_suggest.specs.declared.tallies.{Equal.Equal, Tally.Tally}

-- A count that stops at the highest u64.
abbrev pub capped : ℕ → ℕ
capped n = min n (2 ^ 64 - 1)

-- ---- one value

-- A value is given as the set of the actions that change it: the sum of their bits. Some of these
-- actions change it.
abbrev pub changes : ℕ → ℕ → Bool
changes actions value = not (bit_and value actions == 0)

-- The actions in the order in which they apply: their bits, and their verbs.
abbrev pub all_actions : List (ℕ × Verb)
all_actions = (1, Uuid) ∷ (2, Long) ∷ (4, Digits) ∷ (8, Hex) ∷ (16, Blank) ∷ []

-- The value that these actions make of a value.
abbrev pub value_by : ℕ → Doc → Doc
value_by actions d = fold (λ e a. if changes a.0 actions then of_verb a.1 e else e) d all_actions

-- The action `blank` leaves the value unchanged.
abbrev pub is_blank : Doc → Bool
is_blank null = true
is_blank (boolean b) = not b
is_blank (whole z) = int_eq z (pos 0)
is_blank (text []) = true
is_blank (list no_items) = true
is_blank (object no_members) = true
is_blank (id s z) = true
is_blank d = false

-- The action changes the value.
unfoldable pub is_changed : Verb → Doc → Bool
is_changed Blank d = not (is_blank d)
is_changed verb (text s) = not (bytes_eq (squeezed verb s) s)
is_changed verb d = false

-- The actions that change the value.
abbrev pub actions_of : Doc → ℕ
actions_of d = fold (λ set a. if is_changed a.1 d then bit_or set a.0 else set) 0 all_actions

-- For a private clause: a decimal digit or a dash.
abbrev pub is_digit_or_dash : ℕ → Bool
is_digit_or_dash b = is_ascii_digit b || b == 45

-- ---- one tally

-- Some of the actions change the value, and none of the others does.
abbrev pub is_hidden : ℕ → ℕ → ℕ → Bool
is_hidden actions others value = changes actions value && not (changes others value)

-- How many values are counted whose set of actions passes a test.
abbrev pub counted : (ℕ → Bool) → List Equal → ℕ
counted test equal = sum_by (λ e. if test e.changing then e.count else 0) equal

-- The tally represents the equal values that were added to it: for any actions and others, it
-- counts as many hidden values as the list has, up to the highest u64.
abbrev pub Represents : Tally → List ℕ → Type 0
Represents tally values = (actions others : ℕ)
    → capped (counted (is_hidden actions others) tally.equal.items)
    ≡ capped (count_by (is_hidden actions others) values)

-- ---- all tallies of a place

-- The rule is for all elements, or for those of the tally with this number.
abbrev pub applies_to : ℕ → Rule → Bool
applies_to tally rule = rule.scope == ALL || rule.scope == tally

-- The rule applies to the tally, and its actions change this value of it.
abbrev pub hides : ℕ → ℕ → Rule → Bool
hides tally value rule = applies_to tally rule && changes rule.actions value

-- The rule hides this value of the tally, and no rule before it does.
abbrev pub also_hides : List Rule → Rule → ℕ → ℕ → Bool
also_hides before rule tally value =
    hides tally value rule && not (list_any (hides tally value) before)

-- Each tally represents its own list of values.
abbrev pub AreRepresented : List Tally → List (List ℕ) → Type 0
AreRepresented = AllZip Represents

-- How many values of all tallies the rule hides that the rules before it do not hide.
abbrev pub hidden_values : List Rule → Rule → List (List ℕ) → ℕ
hidden_values before rule values =
    sum_by (λ t. count_by (also_hides before rule t.0) t.1) (enumerate_from 0 values)

-- ---- the comment

-- The line that says how many equal values a rule hides.
abbrev pub hidden_line : ℕ → List ℕ
hidden_line n = if n == 0 then [] else if n == 1 then codes "# also hides 1 value that is equal\n"
    else codes "# also hides " ++ decimal n ++ codes " values that are equal\n"
