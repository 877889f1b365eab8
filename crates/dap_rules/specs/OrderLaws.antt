-- The statements of the functions in `laws`.
use Rattle.std.specs.Prelude.{◌≡◌, ◌↔◌, ℕ, List}
use Rattle.dap_tree.specs.declared.side.Side.{Side}
use Rattle.dap_message.specs.{Message.Sent, SwapRules.SwapRule}
use Rattle.dap_rename.specs.{Messages.AreSame, Modes.stop_in, declared.mode.Mode.Mode}
use Rattle.dap_rename.specs.declared.mode.Mode.TheVariants.{Whole}
use Rattle.dap_session.specs.Rules.{open_requests}
use Rattle.dap_input.specs.{declared.limits.Limits.Limits, Limits.AreSound}
use Rattle.dap_input.specs.declared.refused.Refused.{Refused}
use Rattle.dap_normalise.specs.{Accepting.IsAccepted, Normalising.Normalises}
use Rattle.dap_order.specs.{Swaps.Reordered, Free.free, MessageOrder.ordered}
use Rattle.dap_order.specs.SameButOrder.{AreSameButOrder}
use Rattle.dap_rules.specs.Ordering.{IsNotOrdered, Orders}

-- A recording is ordered to at most one text.
abbrev pub OneOrderedText : Type 0
OneOrderedText = (limits : Limits) (mode : Mode) (rules : List SwapRule)
    (bytes written other : List ℕ) → Orders limits mode rules bytes written
    → Orders limits mode rules bytes other → written ≡ other

-- A recording that is not ordered has one error.
abbrev pub OneOrderError : Type 0
OneOrderError = (limits : Limits) (mode : Mode) (rules : List SwapRule) (bytes : List ℕ)
    (because other : Refused) → IsNotOrdered limits mode rules bytes because
    → IsNotOrdered limits mode rules bytes other → because ≡ other

-- A recording that is ordered is not rejected.
abbrev pub OrderedHasNoError : Type 0
OrderedHasNoError = (limits : Limits) (mode : Mode) (rules : List SwapRule)
    (bytes written : List ℕ) (because : Refused) → Orders limits mode rules bytes written
    → IsNotOrdered limits mode rules bytes because → ⊥

-- The text of an ordered recording is accepted. Swaps of free neighbours turn the messages of the
-- recording into those of the text.
abbrev pub OrderedIsAccepted : Type 0
OrderedIsAccepted = (limits : Limits) (mode : Mode) (rules : List SwapRule)
    (bytes written : List ℕ) (a : Orders limits mode rules bytes written)
    → (messages : List Sent) × IsAccepted limits mode written messages
    × Reordered (free rules) a.messages messages

-- The text has as many unanswered requests of each side as the recording.
abbrev pub OrderedKeepsOpen : Type 0
OrderedKeepsOpen = (limits : Limits) (mode : Mode) (rules : List SwapRule) (side : Side)
    (bytes written : List ℕ) (messages others : List Sent)
    → Orders limits mode rules bytes written
    → IsAccepted limits mode bytes messages → IsAccepted limits mode written others
    → open_requests side messages ≡ open_requests side others

-- Ordering the text again does not change it.
abbrev pub OrderedStandsStill : Type 0
OrderedStandsStill = (limits : Limits) (mode : Mode) (rules : List SwapRule)
    (bytes written : List ℕ) → Orders limits mode rules bytes written
    → Orders limits mode rules written written

-- Two recordings are ordered and then normalised, with `Mode::Whole`. The results are equal if and
-- only if swaps of free neighbours and a one-to-one renaming turn the messages of one into those of
-- the other.
abbrev pub EqualOrderedTexts : Type 0
EqualOrderedTexts = (limits : Limits) → AreSound limits → (rules : List SwapRule)
    (bytes others written other normal also : List ℕ)
    (a : Orders limits Whole rules bytes written) (b : Orders limits Whole rules others other)
    → Normalises limits Whole written normal → Normalises limits Whole other also
    → (normal ≡ also) ↔ AreSameButOrder rules a.messages b.messages

-- Two recordings are ordered and then normalised, in any mode. The results are equal if and only if
-- a renaming of this mode turns the ordered messages of one into those of the other.
abbrev pub EqualTextsInOrder : Type 0
EqualTextsInOrder = (limits : Limits) (mode : Mode) → AreSound limits → (rules : List SwapRule)
    (bytes others written other normal also : List ℕ)
    (a : Orders limits mode rules bytes written) (b : Orders limits mode rules others other)
    → Normalises limits mode written normal → Normalises limits mode other also
    → (normal ≡ also)
    ↔ AreSame (stop_in mode) (ordered rules a.messages) (ordered rules b.messages)
