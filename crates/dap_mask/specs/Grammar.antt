-- The grammar of a line of a rules file, independent of the parser (docs/RULES.md).
use Rattle.std.specs.Prelude.{◌≡◌, ◌≢◌, ◌↔◌, ℕ, true, List, [], ◌∷◌, ◌++◌, Option, Some, None}
use Rattle.std.specs.Prelude.{codes}
use Rattle.serde_json.specs.Data as json
use Rattle.dap_profile.specs.declared.profile.Kind.{Kind, TheVariants.{Request, Response, Event}}
use Rattle.dap_tree.specs.Json.{Reads}
use Rattle.dap_mask.specs.Mask.{Statement, change, leave_out, leave_out_category, swap, restart}
use Rattle.dap_mask.specs.Mask.{join, put, fill, omit, declare, Line, nothing, rule, bad}
use Rattle.dap_mask.specs.Categories.{output_name}
use Rattle.dap_mask.specs.Fills.{Scalar, string}
use Rattle.dap_mask.specs.RuleSteps.{RuleStep, named, elements}
use Rattle.dap_mask.specs.{Rules.Rule, RuleText.{line_said, scalar_in}}
use Rattle.dap_mask.specs.{Runs.{is_blank, is_plain}, Texts.{all_of, begins_with}}
use Rattle.dap_mask.specs.declared.joining.Joining.{Joining, TheVariants.{Whole, PerStop}}
use Rattle.dap_mask.specs.declared.rules.Verb.{Verb, TheVariants.{Blank, Digits, Hex, Long, Uuid}}

-- ---- a line of words

-- Blanks, perhaps none.
abbrev pub AreBlanks : List ℕ → Type 0
AreBlanks s = all_of is_blank s ≡ true

-- One or more blanks.
abbrev pub IsGap : List ℕ → Type 0
IsGap s = (begins_with is_blank s ≡ true) × AreBlanks s

-- Nothing, or a comment, which starts with `#` (35).
abbrev pub IsComment : List ℕ → Type 0
IsComment [] = Unit {0}
IsComment (b ∷ s) = b ≡ 35

-- The end of a line: blanks, and perhaps a comment.
abbrev pub IsEnd : List ℕ → Type 0
IsEnd s = (blanks : List ℕ) × (comment : List ℕ) × (s ≡ blanks ++ comment) × AreBlanks blanks
    × IsComment comment

-- The text continues with these words, each after one or more blanks, and then the line ends.
abbrev pub GoesOn : List (List ℕ) → List ℕ → Type 0
GoesOn [] s = IsEnd s
GoesOn (w ∷ ws) s = (blanks : List ℕ) × (rest : List ℕ) × (s ≡ blanks ++ (w ++ rest))
    × IsGap blanks × GoesOn ws rest

-- The line consists of these words. Blanks may precede the first word.
abbrev pub HasWords : List (List ℕ) → List ℕ → Type 0
HasWords [] l = IsEnd l
HasWords (w ∷ ws) l = (blanks : List ℕ) × (rest : List ℕ) × (l ≡ blanks ++ (w ++ rest))
    × AreBlanks blanks × GoesOn ws rest

-- ---- names

-- The bytes that a string may contain between its quotes: a backslash followed by any byte, or a
-- byte that is neither a quote (34) nor a backslash (92).
pub data IsInside : List ℕ → Type 0 where
  at_end : IsInside []
  escaped : {b : ℕ} {s : List ℕ} → IsInside s → IsInside (92 ∷ b ∷ s)
  other : {b : ℕ} {s : List ℕ} → b ≢ 34 → b ≢ 92 → IsInside s → IsInside (b ∷ s)

-- The word represents this name: ASCII letters, digits, `_`, `-` and `$`, or a JSON string.
pub data IsName : List ℕ → List ℕ → Type 0 where
  bare : {w : List ℕ} → begins_with is_plain w ≡ true → all_of is_plain w ≡ true → IsName w w
  quoted : {w name : List ℕ} → (inside : List ℕ) → w ≡ 34 ∷ inside ++ 34 ∷ [] → IsInside inside
      → Reads w (json.string name) → IsName w name

-- The word represents the name of the messages of a rule; `*` is any name.
abbrev pub IsNameOrAny : List ℕ → Option (List ℕ) → Type 0
IsNameOrAny w None = w ≡ codes "*"
IsNameOrAny w (Some name) = IsName w name

-- ---- places

-- The word is a JSON string, which represents this name.
abbrev pub IsQuotedName : List ℕ → List ℕ → Type 0
IsQuotedName w name = (inside : List ℕ) × (w ≡ 34 ∷ inside ++ 34 ∷ []) × IsInside inside
    × Reads w (json.string name)

-- The text represents these further steps of a place: `.` and a name for a member, `[]` for each
-- element, and a JSON string in brackets for the elements with that name.
abbrev pub AreSteps : List ℕ → List RuleStep → Type 0
AreSteps s [] = s ≡ []
AreSteps s (named name ∷ steps) = (n : List ℕ) × (rest : List ℕ) × (s ≡ codes "." ++ (n ++ rest))
    × IsName n name × AreSteps rest steps
AreSteps s (elements None ∷ steps) =
    (rest : List ℕ) × (s ≡ codes "[]" ++ rest) × AreSteps rest steps
AreSteps s (elements (Some name) ∷ steps) =
    (n : List ℕ) × (rest : List ℕ) × (s ≡ codes "[" ++ (n ++ (codes "]" ++ rest)))
    × IsQuotedName n name × AreSteps rest steps

-- The word represents this place: a name and further steps.
abbrev pub IsPlace : List ℕ → List RuleStep → Type 0
IsPlace w [] = ⊥
IsPlace w (named name ∷ steps) = (n : List ℕ) × (rest : List ℕ) × (w ≡ n ++ rest)
    × IsName n name × AreSteps rest steps
IsPlace w (elements n ∷ steps) = ⊥

-- ---- rules

abbrev pub verb_word : Verb → List ℕ
verb_word Blank = codes "blank"
verb_word Digits = codes "digits"
verb_word Hex = codes "hex"
verb_word Long = codes "long"
verb_word Uuid = codes "uuid"

abbrev pub kind_word : Kind → List ℕ
kind_word Request = codes "request"
kind_word Response = codes "response"
kind_word Event = codes "event"

-- The words are those of the category of a rule for messages of this kind: `category=TEXT` for
-- events, and no word for a rule without a category.
abbrev pub AreCategoryWords : Kind → Option (List ℕ) → List (List ℕ) → Type 0
AreCategoryWords k None ws = ws ≡ []
AreCategoryWords k (Some c) ws = (t : List ℕ) × (ws ≡ (codes "category=" ++ t) ∷ []) × IsName t c
    × (k ≡ Event)

-- The words after the name of a rule that joins output.
abbrev pub joining_words : Joining → List (List ℕ)
joining_words Whole = []
joining_words PerStop = codes "per-stop" ∷ []

-- The word represents this value of a rule that sets a member: `true`, `false`, an integer of 64
-- bits as JSON writes it, or a JSON string.
pub data IsValue : List ℕ → Scalar → Type 0 where
  plain : {w : List ℕ} {v : Scalar} → (value : json.Data) → begins_with is_plain w ≡ true
      → all_of is_plain w ≡ true → Reads w value → scalar_in (Some value) ≡ Some v → IsValue w v
  in_quotes : {w s : List ℕ} → IsQuotedName w s → IsValue w (string s)

-- The words represent this rule, and then there are the other words.
abbrev pub AreWordsOfRule : List (List ℕ) → Rule → List (List ℕ) → Type 0
AreWordsOfRule ws r others = (n : List ℕ) × (cs : List (List ℕ)) × (p : List ℕ)
    × (ws ≡ verb_word r.verb ∷ kind_word r.kind ∷ n ∷ (cs ++ p ∷ others)) × IsNameOrAny n r.name
    × AreCategoryWords r.kind r.category cs × IsPlace p r.place

-- The words represent this rule: `VERB KIND NAME PLACE`, `VERB event NAME category=TEXT PLACE`, one
-- of these and `as LABEL`, `drop event NAME`, `drop event NAME category=TEXT`, `swap KIND NAME KIND
-- NAME`, `per-stop`, `join event output`, `join event output per-stop`, `word TEXT WORD`, `fill
-- KIND NAME PLACE VALUE`, or `omit KIND NAME PLACE`. TEXT, WORD and LABEL are written as names are,
-- and so is `output`.
abbrev pub AreWordsOf : List (List ℕ) → Statement → Type 0
AreWordsOf ws (change r) = AreWordsOfRule ws r []
AreWordsOf ws (declare x) = (l : List ℕ) × AreWordsOfRule ws x.rule (codes "as" ∷ l ∷ [])
    × IsName l x.label
AreWordsOf ws (leave_out name) = (n : List ℕ) × (ws ≡ codes "drop" ∷ codes "event" ∷ n ∷ [])
    × IsNameOrAny n name
AreWordsOf ws (leave_out_category c) = (n : List ℕ) × (t : List ℕ)
    × (ws ≡ codes "drop" ∷ codes "event" ∷ n ∷ (codes "category=" ++ t) ∷ [])
    × IsNameOrAny n c.name × IsName t c.category
AreWordsOf ws (swap s) = (n : List ℕ) × (m : List ℕ)
    × (ws ≡ codes "swap" ∷ kind_word s.one.kind ∷ n ∷ kind_word s.another.kind ∷ m ∷ [])
    × IsNameOrAny n s.one.name × IsNameOrAny m s.another.name
AreWordsOf ws restart = ws ≡ codes "per-stop" ∷ []
AreWordsOf ws (join j) = (n : List ℕ)
    × (ws ≡ codes "join" ∷ codes "event" ∷ n ∷ joining_words j) × IsName n output_name
AreWordsOf ws (put p) = (t : List ℕ) × (w : List ℕ) × (ws ≡ codes "word" ∷ t ∷ w ∷ [])
    × IsName t p.text × IsName w p.word
AreWordsOf ws (fill f) = (n : List ℕ) × (p : List ℕ) × (w : List ℕ)
    × (ws ≡ codes "fill" ∷ kind_word f.kind ∷ n ∷ p ∷ w ∷ []) × IsNameOrAny n f.name
    × IsPlace p (f.parent ++ f.last ∷ []) × IsValue w f.value
AreWordsOf ws (omit o) = (n : List ℕ) × (p : List ℕ)
    × (ws ≡ codes "omit" ∷ kind_word o.kind ∷ n ∷ p ∷ []) × IsNameOrAny n o.name
    × IsPlace p (o.parent ++ o.last ∷ [])

-- The line consists of the words of this rule.
abbrev pub SaysRule : List ℕ → Statement → Type 0
SaysRule l st = (ws : List (List ℕ)) × HasWords ws l × AreWordsOf ws st

-- The meaning of a line: nothing if it has no words, the rule that its words represent, or `bad` if
-- it has words that represent no rule.
abbrev pub Says : List ℕ → Line → Type 0
Says l nothing = HasWords [] l
Says l (rule st) = SaysRule l st
Says l bad = (HasWords [] l → ⊥) × ((st : Statement) → SaysRule l st → ⊥)

-- ---- laws

-- The parser returns a meaning if and only if the line has this meaning.
abbrev pub ParserFindsLine : Type 0
ParserFindsLine = (l : List ℕ) (x : Line) → (line_said l ≡ x) ↔ Says l x

-- Each line has at most one meaning.
abbrev pub LineSaysOne : Type 0
LineSaysOne = (l : List ℕ) (x y : Line) → Says l x → Says l y → x ≡ y
