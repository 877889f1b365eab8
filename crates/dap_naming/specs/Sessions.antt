-- Messages with declared ids. The declarations of a rules file determine the rules that apply to
-- each message.
use Rattle.std.specs.Prelude.{ℕ, ◌<◌, ◌≤◌, cond, List, [], ◌∷◌, map, length}
use Rattle.dap_tree.specs.Doc.{Doc}
use Rattle.dap_message.specs.Message.{Sent}
use Rattle.dap_tokens.specs.Naming.{Id, Numbering}
use Rattle.dap_mask.specs.Declarations.{Declaration, form_of}
use Rattle.dap_mask.specs.Rules.{rule_applies}
use Rattle.dap_naming.specs.Documents.{Declared, named_doc, skeleton_doc}
use Rattle.dap_naming.specs.Messages.{Message, ids_of_all}
use Rattle.dap_naming.specs.Numbers.{distinct, number}

-- The declaration, for messages to which its rule applies.
abbrev pub declared_by : Declaration → Declared
declared_by x = record { place = x.rule.place; form = form_of x.rule.verb; label = x.label }

-- The declarations that apply to the message (own): those whose rule applies to it.
abbrev pub rules_for : List Declaration → Doc → List Declared
rules_for [] d = []
rules_for (x ∷ xs) d =
    cond (rule_applies x.rule d) (declared_by x ∷ rules_for xs d) (rules_for xs d)

-- The messages, each with the declarations that apply to it.
abbrev pub with_rules : List Declaration → List Sent → List Message
with_rules xs ms = map (λ m. (rules_for xs m.doc, m.doc)) ms

-- The declared ids of the messages, in order.
abbrev pub declared_ids : List Declaration → List Sent → List Id
declared_ids xs ms = ids_of_all (with_rules xs ms)

-- The message with each declared id replaced by its name, on its side.
abbrev pub name_sent : List Declaration → Numbering → Sent → Sent
name_sent xs number m =
    record { side = m.side; doc = named_doc (rules_for xs m.doc) number m.doc }

-- The messages with each declared id replaced by its name (own): its number among the ids of all
-- the messages.
abbrev pub named_sents : List Declaration → List Sent → List Sent
named_sents xs ms = map (name_sent xs (number (declared_ids xs ms))) ms

-- The message with each declared id replaced by the name of 1.
abbrev pub sent_skeleton : List Declaration → Sent → Sent
sent_skeleton xs m = record { side = m.side; doc = skeleton_doc (rules_for xs m.doc) m.doc }

-- ---- the limit

-- No label has more values than the limit.
abbrev pub AreFew : ℕ → List Id → Type 0
AreFew limit is = (label : List ℕ) → length (distinct label is) ≤ limit

-- Some label has more values than the limit.
abbrev pub HasTooMany : ℕ → List Id → Type 0
HasTooMany limit is = (label : List ℕ) × (limit < length (distinct label is))
