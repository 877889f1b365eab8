-- Sessions with names in place of their declared ids, beside the ids of the profile and the order
-- of messages. Source: own.
use Rattle.std.specs.Prelude.{◌≡◌, ◌↔◌, ℕ, true, List, map, All}
use Rattle.dap_tree.specs.{declared.side.Side.Side, declared.sort.Sort.Sort}
use Rattle.dap_message.specs.{Message.Sent, SwapRules.SwapRule}
use Rattle.dap_tokens.specs.Naming.{Numbering}
use Rattle.dap_mask.specs.Declarations.{Declaration, are_declared}
use Rattle.dap_naming.specs.Numbers.{AreRenamed, AreCountable}
use Rattle.dap_naming.specs.Sessions.{declared_ids, name_sent, named_sents, sent_skeleton}
use Rattle.dap_session.specs.{RenamedLists.IsNumbered, Rules.{KeepsRules, open_requests}}
use Rattle.dap_rename.specs.Messages.{AreSame, HasFewIds, IsNormal, no_stop}
use Rattle.dap_rename.specs.{Modes.stop_in, declared.mode.Mode.Mode}
use Rattle.dap_rename.specs.declared.mode.Mode.TheVariants.{Whole}
use Rattle.dap_input.specs.{Limits.AreSound, declared.limits.Limits.Limits}
use Rattle.dap_normalise.specs.Accepting.{Fits, IsAccepted, NormalFits, text}
use Rattle.dap_normalise.specs.Normalising.{Normalises}
use Rattle.dap_order.specs.{Free.free, MessageOrder.ordered, Swaps.Reordered}

-- The messages are equal except for their declared ids. A one-to-one renaming of the values of each
-- label turns the declared ids of one list into those of the other.
abbrev pub AreSameDeclared : List Declaration → List Sent → List Sent → Type 0
AreSameDeclared xs ms ns = (map (sent_skeleton xs) ms ≡ map (sent_skeleton xs) ns)
    × ∥ AreRenamed (declared_ids xs ms) (declared_ids xs ns) ∥₁

-- A one-to-one renaming of each kind of id, followed by a one-to-one renaming of the values of each
-- label, turns ms into ns.
abbrev pub AreSameByNames : (Sent → ℕ) → List Declaration → List Sent → List Sent → Type 0
AreSameByNames stop xs ms ns =
    (between : List Sent) × AreSame stop ms between × AreSameDeclared xs between ns

-- The named lists are the same except for ids of the profile if and only if a renaming of these
-- ids, followed by a renaming of the declared ids, turns one list into the other.
abbrev pub EqualNamesAndIds : Type 0
EqualNamesAndIds = (mode : Mode) (xs : List Declaration) (ms ns : List Sent)
    → are_declared xs ≡ true → AreCountable (declared_ids xs ms)
    → AreCountable (declared_ids xs ns)
    → AreSame (stop_in mode) (named_sents xs ms) (named_sents xs ns)
    ↔ AreSameByNames (stop_in mode) xs ms ns

-- ---- the order

-- Messages can be named before or after they are ordered.
abbrev pub OrderOfNamed : Type 0
OrderOfNamed = (rules : List SwapRule) (xs : List Declaration) (number : Numbering)
    (ms : List Sent) → are_declared xs ≡ true
    → ordered rules (map (name_sent xs number) ms) ≡ map (name_sent xs number) (ordered rules ms)

-- Naming messages before they are ordered changes no name that they have afterwards.
abbrev pub NamesAfterOrder : Type 0
NamesAfterOrder = (rules : List SwapRule) (xs : List Declaration) (ms : List Sent)
    → are_declared xs ≡ true → AreCountable (declared_ids xs ms)
    → named_sents xs (ordered rules (named_sents xs ms)) ≡ named_sents xs (ordered rules ms)

-- Lists that are equal except for their declared ids have orders that are.
abbrev pub OrderOfSameDeclared : Type 0
OrderOfSameDeclared = (rules : List SwapRule) (xs : List Declaration) (ms ns : List Sent)
    → are_declared xs ≡ true → AreSameDeclared xs ms ns
    → AreSameDeclared xs (ordered rules ms) (ordered rules ns)

-- Swaps of free neighbours turn ms and ns into lists such that a one-to-one renaming of each kind
-- of id, followed by a one-to-one renaming of the values of each label, turns the first into the
-- second.
pub record AreSameByRules (rules : List SwapRule) (xs : List Declaration) (ms ns : List Sent)
    : Type 0 where
  pub first : List Sent
  pub second : List Sent
  pub first_swaps : Reordered (free rules) ms first
  pub second_swaps : Reordered (free rules) ns second
  pub same : AreSameByNames no_stop xs first second

-- Two lists are ordered and then named. The results are the same except for ids of the profile if
-- and only if swaps of free neighbours, a renaming of these ids, and a renaming of the declared ids
-- turn one list into the other.
abbrev pub EqualNamedOrders : Type 0
EqualNamedOrders = (rules : List SwapRule) (xs : List Declaration) (ms ns : List Sent)
    → are_declared xs ≡ true → All IsNumbered ms → KeepsRules ms
    → AreCountable (declared_ids xs ms) → AreCountable (declared_ids xs ns)
    → AreSame no_stop (named_sents xs (ordered rules ms)) (named_sents xs (ordered rules ns))
    ↔ AreSameByRules rules xs ms ns

-- Two lists are ordered, named and then normalised. The results are equal if and only if this
-- holds.
abbrev pub OneNamedNormalForm : Type 0
OneNamedNormalForm = (rules : List SwapRule) (xs : List Declaration) (ms ns n k : List Sent)
    → are_declared xs ≡ true → All IsNumbered ms → KeepsRules ms
    → AreCountable (declared_ids xs ms) → AreCountable (declared_ids xs ns)
    → IsNormal no_stop (named_sents xs (ordered rules ms)) n
    → IsNormal no_stop (named_sents xs (ordered rules ns)) k
    → (n ≡ k) ↔ AreSameByRules rules xs ms ns

-- ---- accepted recordings

-- Named messages obey the session rules if and only if the messages do.
abbrev pub NamesKeepSessionRules : Type 0
NamesKeepSessionRules = (xs : List Declaration) (ms : List Sent) → are_declared xs ≡ true
    → KeepsRules ms ↔ KeepsRules (named_sents xs ms)

-- They have as many unanswered requests.
abbrev pub NamesKeepOpen : Type 0
NamesKeepOpen = (side : Side) (xs : List Declaration) (ms : List Sent) → are_declared xs ≡ true
    → open_requests side (named_sents xs ms) ≡ open_requests side ms

-- They have no more ids of the profile than the limits allow if and only if this holds for the
-- messages.
abbrev pub NamesKeepIdCounts : Type 0
NamesKeepIdCounts = (mode : Mode) (limit : Sort → ℕ) (xs : List Declaration) (ms : List Sent)
    → are_declared xs ≡ true → HasFewIds (stop_in mode) limit ms
    ↔ HasFewIds (stop_in mode) limit (named_sents xs ms)

-- The text of the named messages of an accepted recording is accepted as these messages, if it and
-- its normal form do not exceed the limits.
abbrev pub NamedIsAccepted : Type 0
NamedIsAccepted = (limits : Limits) (mode : Mode) → AreSound limits → (xs : List Declaration)
    (bytes : List ℕ) (ms : List Sent) → are_declared xs ≡ true → AreCountable (declared_ids xs ms)
    → IsAccepted limits mode bytes ms → Fits limits (named_sents xs ms)
    → NormalFits limits mode (named_sents xs ms)
    → IsAccepted limits mode (text (named_sents xs ms)) (named_sents xs ms)

-- ---- normal forms

-- Naming changes nothing in a named list with other ids of the profile.
abbrev pub NamedStaysRenamed : Type 0
NamedStaysRenamed = (mode : Mode) (xs : List Declaration) (ms n : List Sent)
    → are_declared xs ≡ true → AreSame (stop_in mode) ms n → named_sents xs ms ≡ ms
    → named_sents xs n ≡ n

-- Messages are ordered, named and then normalised, with `Mode::Whole`. Ordering or naming the
-- result changes nothing.
abbrev pub NamedChainStays : Type 0
NamedChainStays = (rules : List SwapRule) (xs : List Declaration) (ms n : List Sent)
    → are_declared xs ≡ true → All IsNumbered ms → KeepsRules ms → AreCountable (declared_ids xs ms)
    → IsNormal no_stop (named_sents xs (ordered rules ms)) n
    → (ordered rules n ≡ n) × (named_sents xs n ≡ n)

-- The messages of two recordings are ordered and then named, and the texts of the results are
-- normalised, with `Mode::Whole`. The normal texts are equal if and only if swaps of free
-- neighbours, a renaming of the ids of the profile, and a renaming of the declared ids turn the
-- messages of one recording into those of the other.
abbrev pub EqualNamedTexts : Type 0
EqualNamedTexts = (limits : Limits) → AreSound limits → (rules : List SwapRule)
    (xs : List Declaration) (bytes written other normal also : List ℕ) (ms ns : List Sent)
    → are_declared xs ≡ true → IsAccepted limits Whole bytes ms
    → AreCountable (declared_ids xs ms) → AreCountable (declared_ids xs ns)
    → IsAccepted limits Whole written (named_sents xs (ordered rules ms))
    → IsAccepted limits Whole other (named_sents xs (ordered rules ns))
    → Normalises limits Whole written normal → Normalises limits Whole other also
    → (normal ≡ also) ↔ AreSameByRules rules xs ms ns

-- The same in any mode. The normal texts are equal if and only if a renaming of this mode and a
-- renaming of the declared ids turn the ordered messages of one recording into those of the other.
abbrev pub EqualNamedTextsInEachMode : Type 0
EqualNamedTextsInEachMode = (limits : Limits) (mode : Mode) → AreSound limits
    → (rules : List SwapRule) (xs : List Declaration) (written other normal also : List ℕ)
    (ms ns : List Sent) → are_declared xs ≡ true → AreCountable (declared_ids xs ms)
    → AreCountable (declared_ids xs ns)
    → IsAccepted limits mode written (named_sents xs (ordered rules ms))
    → IsAccepted limits mode other (named_sents xs (ordered rules ns))
    → Normalises limits mode written normal → Normalises limits mode other also
    → (normal ≡ also) ↔ AreSameByNames (stop_in mode) xs (ordered rules ms) (ordered rules ns)
