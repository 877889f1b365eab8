-- The laws that the functions of `laws` ensure.
use Rattle.dap_tree.specs.Doc.{Doc}
use Rattle.dap_tree.specs.Ids.{skeleton}
use Rattle.dap_tree.specs.declared.side.Side.{Side}
use Rattle.dap_tree.specs.declared.sort.Sort.{Sort}
use Rattle.std.specs.Prelude.{◌≡◌, ◌⊎◌, ◌↔◌, ℤ, List, [], ◌∷◌, ◌++◌, length, Some, None, All}
use Rattle.std.specs.Prelude.{Contains, MatchOption}
use Rattle.std.specs.Bool.{Decides}
use Rattle.dap_message.specs.Message.{Sent, IsTyped}
use Rattle.dap_session.specs.Positions.{BreaksAt, BreaksNone, BreaksFirst}
use Rattle.dap_session.specs.RenamedLists.{IsNumbered, DifferInIds, IsOneToOne}
use Rattle.dap_session.specs.Rules.{is_broken, first_broken, KeepsRules, open_requests}
use Rattle.dap_session.specs.declared.rule.Rule.{Rule}

-- ---- the rules by position

-- The test of each rule decides the statement over positions.
abbrev pub RulesByPosition : Type 0
RulesByPosition = (rule : Rule) (before after : List Sent) (m : Sent)
    → Decides (is_broken rule before m) (BreaksAt rule (before ++ m ∷ after) (length before) m)

-- `first_broken` is the first rule of the list that the message breaks at its position.
abbrev pub FirstByPosition : Type 0
FirstByPosition = (before after : List Sent) (m : Sent) →
    MatchOption (first_broken before m) (BreaksNone (before ++ m ∷ after) (length before) m)
    (λ rule. BreaksFirst rule (before ++ m ∷ after) (length before) m)

-- ---- lists that obey the rules

-- The empty list obeys the rules.
abbrev pub NoneKeepRules : Type 0
NoneKeepRules = KeepsRules []

-- A list with one more message obeys the rules if and only if the list obeys them and the message
-- breaks no rule.
abbrev pub KeepsOneMore : Type 0
KeepsOneMore = (ms : List Sent) (m : Sent) → KeepsRules (ms ++ m ∷ [])
    ↔ (KeepsRules ms × (first_broken ms m ≡ None))

-- Every prefix of a list that obeys the rules obeys them too.
abbrev pub FrontKeepsRules : Type 0
FrontKeepsRules = (ms ns : List Sent) → KeepsRules (ms ++ ns) → KeepsRules ms

-- Every list obeys the rules, or has a first message that breaks a rule.
abbrev pub KeepsOrBreaks : Type 0
KeepsOrBreaks = (ms : List Sent)
    → KeepsRules ms
    ⊎ ((before after : List Sent) × (m : Sent) × (rule : Rule) × (ms ≡ before ++ m ∷ after)
    × KeepsRules before × (first_broken before m ≡ Some rule))

-- ---- renamed messages

-- The sequence numbers of a typed message are ids of the kinds of their sides.
abbrev pub TypedIsNumbered : Type 0
TypedIsNumbered = (side : Side) (d m : Doc) → IsTyped side d m
    → IsNumbered (record { side = side; doc = m })

-- A message that differs from such a message only in the numbers of its ids has them too.
abbrev pub RenamedIsNumbered : Type 0
RenamedIsNumbered = (m n : Sent) → m.side ≡ n.side → skeleton m.doc ≡ skeleton n.doc → IsNumbered m
    → IsNumbered n

-- The pairs of a renaming: the number y replaces the number x of the kind s.
abbrev pub Renaming : Type 0
Renaming = List (Sort × ℤ × ℤ)

abbrev pub Renames : Renaming → Sort → ℤ → ℤ → Type 0
Renames pairs s x y = Contains pairs (s, x, y)

-- After a one-to-one renaming the message breaks the same first rule, if any.
abbrev pub RenamingKeepsRules : Type 0
RenamingKeepsRules = (pairs : Renaming) (ms ns : List Sent) (m n : Sent)
    → IsOneToOne (Renames pairs) → All IsNumbered (ms ++ m ∷ [])
    → DifferInIds (Renames pairs) (ms ++ m ∷ []) (ns ++ n ∷ [])
    → first_broken ms m ≡ first_broken ns n

-- After a one-to-one renaming the same number of requests has no response.
abbrev pub RenamingKeepsOpen : Type 0
RenamingKeepsOpen = (pairs : Renaming) (side : Side) (ms ns : List Sent)
    → IsOneToOne (Renames pairs) → All IsNumbered ms → DifferInIds (Renames pairs) ms ns
    → open_requests side ms ≡ open_requests side ns

-- The renamed list obeys the rules if and only if the list obeys them.
abbrev pub RenamingKeepsKept : Type 0
RenamingKeepsKept = (pairs : Renaming) (ms ns : List Sent) → IsOneToOne (Renames pairs)
    → All IsNumbered ms → DifferInIds (Renames pairs) ms ns → KeepsRules ms ↔ KeepsRules ns
