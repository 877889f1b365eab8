-- The meaning of a line of a rules file, parsed from its start.
use Rattle.std.specs.Prelude.{ℕ, zero, suc, ◌==◌, Bool, false, cond, ◌&&◌, List, [], ◌∷◌, length}
use Rattle.std.specs.Prelude.{take, drop, Option, Some, None, option_map, option_and_then, codes}
use Rattle.std.specs.Prelude.{bytes_eq, pos}
use Rattle.std.specs.Str.{is_utf8}
use Rattle.serde_json.specs.Data as json
use Rattle.serde_json.specs.Read.{read}
use Rattle.dap_profile.specs.declared.profile.Kind.{Kind, TheVariants.{Request, Response, Event}}
use Rattle.dap_mask.specs.Mask.{Statement, change, leave_out, leave_out_category, swap, restart}
use Rattle.dap_mask.specs.Mask.{join, put, fill, omit, declare, Line, nothing, rule, bad}
use Rattle.dap_mask.specs.{Categories.output_name, Fills.{Scalar, flag, number, string}}
use Rattle.dap_mask.specs.RuleSteps.{RuleStep, named, elements}
use Rattle.dap_mask.specs.Rules.{Rule, same_kind, same_name}
use Rattle.dap_mask.specs.Runs.{is_plain, front, behind, closing, is_closed, gap, is_end, is_blank}
use Rattle.dap_message.specs.SwapRules.{Half}
use Rattle.dap_mask.specs.declared.joining.Joining.TheVariants.{Whole, PerStop}
use Rattle.dap_mask.specs.declared.rules.Verb.{Verb, TheVariants.{Blank, Digits, Hex, Long, Uuid}}

-- ---- names

-- The string that a JSON value is, if it is a string.
abbrev pub text_in : Option json.Data → Option (List ℕ)
text_in (Some (json.string k)) = Some k
text_in _ = None

-- The string that these bytes represent as JSON (serde_json), if they represent one.
unfoldable pub string_of : List ℕ → Option (List ℕ)
string_of token = cond (is_utf8 token) (text_in (read token)) None

-- The closed JSON string with which the text starts, and the rest.
abbrev pub quoted_at : List ℕ → Option (List ℕ × List ℕ)
quoted_at [] = None
quoted_at (b ∷ s) = cond (is_closed false s)
    (option_map (λ k. (k, drop (closing false s) s)) (string_of (b ∷ take (closing false s) s)))
    None

-- The name of plain bytes with which the text starts, and the rest.
abbrev pub plain_at : List ℕ → Option (List ℕ × List ℕ)
plain_at s = cond (length (front is_plain s) == 0) None (Some (front is_plain s, behind is_plain s))

-- The name with which the text starts: a JSON string in quotes, or plain bytes; and the rest.
abbrev pub name_at : List ℕ → Option (List ℕ × List ℕ)
name_at [] = None
name_at (b ∷ s) = cond (b == 34) (quoted_at (b ∷ s)) (plain_at (b ∷ s))

abbrev pub this_name : List ℕ × List ℕ → Option (List ℕ) × List ℕ
this_name n = (Some n.0, n.1)

-- The name with which the text starts, or `*`, which is any name; and the rest.
abbrev pub any_name : List ℕ → Option (Option (List ℕ) × List ℕ)
any_name [] = None
any_name (b ∷ s) = cond (b == 42) (Some (None, s)) (option_map this_name (name_at (b ∷ s)))

-- ---- places

-- The step to the elements with this name, if a bracket closes it, and the rest.
abbrev pub bracket_behind : List ℕ → List ℕ → Option (RuleStep × List ℕ)
bracket_behind n [] = None
bracket_behind n (b ∷ s) = cond (b == 93) (Some (elements (Some n), s)) None

abbrev pub called_step : List ℕ × List ℕ → Option (RuleStep × List ℕ)
called_step n = bracket_behind n.0 n.1

-- The rest of `[]` after its first bracket: each element. Or the rest of `["NAME"]`: the elements
-- with that name.
abbrev pub each_step : List ℕ → Option (RuleStep × List ℕ)
each_step [] = None
each_step (b ∷ s) = cond (b == 93) (Some (elements None, s))
    (cond (b == 34) (option_and_then called_step (quoted_at (b ∷ s))) None)

abbrev pub member_step : List ℕ × List ℕ → RuleStep × List ℕ
member_step n = (named n.0, n.1)

-- The next step of a place: a dot followed by a name, `[]`, or a string in brackets.
abbrev pub next_step : List ℕ → Option (RuleStep × List ℕ)
next_step [] = None
next_step (b ∷ s) = cond (b == 46) (option_map member_step (name_at s))
    (cond (b == 91) (each_step s) None)

-- No step, or this step and the steps that `more` returns for the rest.
abbrev pub step_then : List ℕ → (List ℕ → Option (List RuleStep × List ℕ))
    → Option (RuleStep × List ℕ) → Option (List RuleStep × List ℕ)
step_then s more None = Some ([], s)
step_then s more (Some p) = option_map (λ r. (p.0 ∷ r.0, r.1)) (more p.1)

-- All further steps, and the rest of the text. There must be fewer steps than the given number.
abbrev pub steps_from : ℕ → List ℕ → Option (List RuleStep × List ℕ)
steps_from zero s = None
steps_from (suc n) s = step_then s (steps_from n) (next_step s)

-- The place with which the text starts, and the rest: a name and the steps after it. The text has
-- more bytes than steps.
abbrev pub place_at : List ℕ → Option (List RuleStep × List ℕ)
place_at s = option_and_then (λ n. option_map (λ r. (named n.0 ∷ r.0, r.1))
    (steps_from (length s) n.1)) (name_at s)

-- ---- rules

abbrev pub verb_named : List ℕ → Option Verb
verb_named w =
    cond (bytes_eq w (codes "blank")) (Some Blank)
    (cond (bytes_eq w (codes "digits")) (Some Digits)
    (cond (bytes_eq w (codes "hex")) (Some Hex)
    (cond (bytes_eq w (codes "long")) (Some Long)
    (cond (bytes_eq w (codes "uuid")) (Some Uuid) None))))

abbrev pub kind_named : List ℕ → Option Kind
kind_named w =
    cond (bytes_eq w (codes "request")) (Some Request)
    (cond (bytes_eq w (codes "response")) (Some Response)
    (cond (bytes_eq w (codes "event")) (Some Event) None))

-- The messages to which a rule applies, and the rest of the text: a kind, and a name or any name.
abbrev pub Head : Type 0
Head = Kind × Option (List ℕ) × List ℕ

abbrev pub name_behind : Kind → List ℕ → Option Head
name_behind k s = option_map (λ n. (k, n.0, n.1)) (any_name s)

abbrev pub kind_then : List ℕ → Option Head
kind_then s = option_and_then (λ k. option_and_then (name_behind k) (gap (behind is_plain s)))
    (kind_named (front is_plain s))

abbrev pub head_at : List ℕ → Option Head
head_at s = option_and_then kind_then (gap s)

-- The text after the sign `=` (61), and the rest.
abbrev pub text_behind : List ℕ → Option (List ℕ × List ℕ)
text_behind [] = None
text_behind (b ∷ s) = cond (b == 61) (name_at s) None

-- The category `category=TEXT` with which the text starts, and the rest.
abbrev pub category_at : List ℕ → Option (List ℕ × List ℕ)
category_at s = cond (bytes_eq (front is_plain s) (codes "category"))
    (text_behind (behind is_plain s)) None

-- The category of a rule for messages of this kind, and the text after the gap that follows it.
-- Only a rule for events has a category.
abbrev pub category_then : Kind → List ℕ × List ℕ → Option (Option (List ℕ) × List ℕ)
category_then k c = cond (same_kind k Event) (option_map (λ s. (Some c.0, s)) (gap c.1)) None

abbrev pub limit_from : Kind → List ℕ → Option (List ℕ × List ℕ)
    → Option (Option (List ℕ) × List ℕ)
limit_from k s None = Some (None, s)
limit_from k s (Some c) = category_then k c

-- The category with which the text starts, or none, and the text of the place.
abbrev pub limit_at : Kind → List ℕ → Option (Option (List ℕ) × List ℕ)
limit_at k s = limit_from k s (category_at s)

-- The text, the word or the label of a rule, with which the text starts after blanks, and the rest.
abbrev pub part_at : List ℕ → Option (List ℕ × List ℕ)
part_at s = option_and_then name_at (gap s)

-- The rule declares ids with this label, if the line ends after it.
abbrev pub labelled : Rule → List ℕ × List ℕ → Option Statement
labelled r l = cond (is_end l.1) (Some (declare (record { rule = r; label = l.0 }))) None

-- The rule declares ids, if the text is the word `as`, a label, and the end of the line.
abbrev pub label_at : Rule → List ℕ → Option Statement
label_at r s = cond (bytes_eq (front is_plain s) (codes "as"))
    (option_and_then (labelled r) (part_at (behind is_plain s))) None

-- The rule is a change, or it declares ids unless the line ends.
abbrev pub stated : Rule → List ℕ → Option Statement
stated r s = cond (is_end s) (Some (change r)) (option_and_then (label_at r) (gap s))

abbrev pub placed : Verb → Kind → Option (List ℕ) → Option (List ℕ) → List RuleStep × List ℕ
    → Option Statement
placed v k n c p =
    stated (record { verb = v; kind = k; name = n; category = c; place = p.0 }) p.1

abbrev pub place_behind : Verb → Kind → Option (List ℕ) → Option (List ℕ) × List ℕ
    → Option Statement
place_behind v k n c = option_and_then (placed v k n c.0) (place_at c.1)

abbrev pub change_behind : Verb → Kind → Option (List ℕ) → List ℕ → Option Statement
change_behind v k n s = option_and_then (place_behind v k n) (limit_at k s)

-- The rule with this verb whose messages and place are in the text.
abbrev pub change_at : Verb → List ℕ → Option Statement
change_at v s = option_and_then (λ h. option_and_then (change_behind v h.0 h.1) (gap h.2))
    (head_at s)

-- The rule that drops events of this name and category, if the line ends after the category.
abbrev pub with_category : Option (List ℕ) → List ℕ × List ℕ → Option Statement
with_category n c = cond (is_end c.1)
    (Some (leave_out_category (record { name = n; category = c.0 }))) None

abbrev pub category_behind : Option (List ℕ) → List ℕ → Option Statement
category_behind n s = option_and_then (λ t. option_and_then (with_category n) (category_at t))
    (gap s)

-- The rule that drops events of this name, whose category is in the text unless the line ends.
abbrev pub dropped_at : Option (List ℕ) → List ℕ → Option Statement
dropped_at n s = cond (is_end s) (Some (leave_out n)) (category_behind n s)

-- The rule that drops events, whose name is in the text.
abbrev pub leave_out_at : List ℕ → Option Statement
leave_out_at s = option_and_then (λ h. cond (same_kind h.0 Event) (dropped_at h.1 h.2) None)
    (head_at s)

-- The half of a rule for the order with which the text starts, and the rest of the text.
abbrev pub half_at : List ℕ → Option (Half × List ℕ)
half_at s = option_map (λ h. (record { kind = h.0; name = h.1 }, h.2)) (head_at s)

-- The rule for the order with this first half, if the line ends after the second half.
abbrev pub swap_with : Half → Half × List ℕ → Option Statement
swap_with one h = cond (is_end h.1) (Some (swap (record { one = one; another = h.0 }))) None

-- The rule for the order with whose two halves the text starts, if the line ends after them.
abbrev pub swap_at : List ℕ → Option Statement
swap_at s = option_and_then (λ h. option_and_then (swap_with h.0) (half_at h.1)) (half_at s)

-- The rule `per-stop`, if the line ends after its word.
abbrev pub restart_at : List ℕ → Option Statement
restart_at s = cond (is_end s) (Some restart) None

-- The kind and the name are those of `output` events.
abbrev pub is_output : Kind → Option (List ℕ) → Bool
is_output k n = same_kind k Event && same_name n (Some output_name)

-- The rule that joins output between stops, if the line ends.
abbrev pub join_ended : List ℕ → Option Statement
join_ended s = cond (is_end s) (Some (join PerStop)) None

-- The rule that joins output between stops, if the text is the word `per-stop` and the line ends.
abbrev pub join_stops : List ℕ → Option Statement
join_stops s =
    cond (bytes_eq (front is_plain s) (codes "per-stop")) (join_ended (behind is_plain s)) None

-- The rule that joins output, between stops unless the line ends.
abbrev pub joined_at : List ℕ → Option Statement
joined_at s = cond (is_end s) (Some (join Whole)) (option_and_then join_stops (gap s))

-- The rule that joins output, whose name is in the text.
abbrev pub join_at : List ℕ → Option Statement
join_at s = option_and_then (λ h. cond (is_output h.0 h.1) (joined_at h.2) None) (head_at s)

-- The rule that puts this word in the place of this text, if the line ends after the word.
abbrev pub word_with : List ℕ → List ℕ × List ℕ → Option Statement
word_with t w = cond (is_end w.1) (Some (put (record { text = t; word = w.0 }))) None

-- The rule that puts a word in the place of a text; both are in the text.
abbrev pub put_at : List ℕ → Option Statement
put_at s = option_and_then (λ t. option_and_then (word_with t.0) (part_at t.1)) (part_at s)

-- The value that a JSON value is, if it is a boolean, an integer of 64 bits, or a string.
abbrev pub scalar_in : Option json.Data → Option Scalar
scalar_in (Some (json.boolean b)) = Some (flag b)
scalar_in (Some (json.number (json.unsigned n))) = Some (number (pos n))
scalar_in (Some (json.number (json.negative z))) = Some (number z)
scalar_in (Some (json.string s)) = Some (string s)
scalar_in _ = None

-- The value that these bytes represent as JSON (serde_json), if they represent one.
unfoldable pub scalar_at : List ℕ → Option Scalar
scalar_at token = cond (is_utf8 token) (scalar_in (read token)) None

abbrev pub string_value : List ℕ × List ℕ → Scalar × List ℕ
string_value n = (string n.0, n.1)

abbrev pub before_rest : List ℕ → Scalar → Scalar × List ℕ
before_rest rest v = (v, rest)

abbrev pub plain_value : List ℕ × List ℕ → Option (Scalar × List ℕ)
plain_value n = option_map (before_rest n.1) (scalar_at n.0)

-- The value with which the text starts: a JSON string in quotes, or plain bytes; and the rest.
abbrev pub value_at : List ℕ → Option (Scalar × List ℕ)
value_at [] = None
value_at (b ∷ s) = cond (b == 34) (option_map string_value (quoted_at (b ∷ s)))
    (option_and_then plain_value (plain_at (b ∷ s)))

-- The last step of a place, and the steps before it.
abbrev pub split_last : List RuleStep → Option (List RuleStep × RuleStep)
split_last [] = None
split_last (p ∷ []) = Some ([], p)
split_last (p ∷ q ∷ ps) = option_map (λ r. (p ∷ r.0, r.1)) (split_last (q ∷ ps))

-- The rule that sets a member to this value, if the line ends after it.
abbrev pub valued : Kind → Option (List ℕ) → List RuleStep × RuleStep → Scalar × List ℕ
    → Option Statement
valued k n p v = cond (is_end v.1)
    (Some (fill (record { kind = k; name = n; parent = p.0; last = p.1; value = v.0 }))) None

abbrev pub value_behind : Kind → Option (List ℕ) → List ℕ → List RuleStep × RuleStep
    → Option Statement
value_behind k n s p = option_and_then (valued k n p) (option_and_then value_at (gap s))

abbrev pub fill_behind : Kind → Option (List ℕ) → List RuleStep × List ℕ → Option Statement
fill_behind k n p = option_and_then (value_behind k n p.1) (split_last p.0)

-- The rule that sets a member, whose messages, place and value are in the text.
abbrev pub fill_at : List ℕ → Option Statement
fill_at s = option_and_then (λ h. option_and_then (fill_behind h.0 h.1)
    (option_and_then place_at (gap h.2))) (head_at s)

-- The rule that omits the elements at this place, if the line ends after it.
abbrev pub omission_behind : Kind → Option (List ℕ) → List RuleStep × List ℕ → Option Statement
omission_behind k n p = cond (is_end p.1)
    (option_map (λ r. omit (record { kind = k; name = n; parent = r.0; last = r.1 }))
    (split_last p.0)) None

-- The rule that omits elements, whose messages and place are in the text.
abbrev pub omit_at : List ℕ → Option Statement
omit_at s = option_and_then (λ h. option_and_then (omission_behind h.0 h.1)
    (option_and_then place_at (gap h.2))) (head_at s)

abbrev pub statement_at : List ℕ → Option Statement
statement_at s =
    cond (bytes_eq (front is_plain s) (codes "drop")) (leave_out_at (behind is_plain s))
    (cond (bytes_eq (front is_plain s) (codes "swap")) (swap_at (behind is_plain s))
    (cond (bytes_eq (front is_plain s) (codes "per-stop")) (restart_at (behind is_plain s))
    (cond (bytes_eq (front is_plain s) (codes "join")) (join_at (behind is_plain s))
    (cond (bytes_eq (front is_plain s) (codes "word")) (put_at (behind is_plain s))
    (cond (bytes_eq (front is_plain s) (codes "fill")) (fill_at (behind is_plain s))
    (cond (bytes_eq (front is_plain s) (codes "omit")) (omit_at (behind is_plain s))
    (option_and_then (λ v. change_at v (behind is_plain s)) (verb_named (front is_plain s)))))))))

abbrev pub reported : Option Statement → Line
reported None = bad
reported (Some st) = rule st

-- The meaning of a line: a rule, nothing, or neither.
abbrev pub line_said : List ℕ → Line
line_said l = cond (is_end l) nothing (reported (statement_at (behind is_blank l)))
