-- The theorems that the functions of `laws` state.
use Rattle.std.specs.Prelude.{◌≡◌, ◌↔◌, ℕ, true, false, List, Option, Some, None, option_map}
use Rattle.std.specs.Prelude.{IsPermutation}
use Rattle.dap_tree.specs.{Doc.{Doc, is_ordered, is_sound, all_utf8}, Path.{Step, at}}
use Rattle.dap_message.specs.{Capabilities.is_given, Marks.{top, edit}, Places.is_object}
use Rattle.dap_mask.specs.RuleSteps.{RuleStep, plain_place, is_unnamed, has_names, change_at_place}
use Rattle.dap_mask.specs.Rules.{Rule, are_safe, are_idempotent, is_dropped}
use Rattle.dap_mask.specs.{Categories.keep_categories, Fills.{Fill, filled, keep_fills}}
use Rattle.dap_mask.specs.Mask.{Mask, leaves_out}
use Rattle.dap_mask.specs.Masked.{IsMasked, AgreeBut, is_apart, masked, named_by}
use Rattle.dap_mask.specs.{Omissions.{Omission, omitted}, Redacted.{redacted, AgreeOutside}}
use Rattle.dap_mask.specs.Texts.{AreDigitsOf, IsHexOf, digits, hex}

-- ---- only the places of the rules change

-- At each path, a masked document has the value that the rules produce.
abbrev pub MaskedByPath : Type 0
MaskedByPath = (rules : List Rule) (d : Doc) → are_safe rules ≡ true
    → IsMasked rules d (masked rules d)

-- No other document has this property.
abbrev pub OneMasked : Type 0
OneMasked = (rules : List Rule) (d e : Doc) → are_safe rules ≡ true → is_ordered d ≡ true
    → IsMasked rules d e → e ≡ masked rules d

-- The values at paths that the rules do not affect are unchanged.
abbrev pub KeepsOthers : Type 0
KeepsOthers = (rules : List Rule) (d : Doc) (p : List Step) → are_safe rules ≡ true
    → is_apart rules (named_by rules d) p ≡ true
    → option_map top (at p (masked rules d)) ≡ option_map top (at p d)

-- No path is new.
abbrev pub NoneNew : Type 0
NoneNew = (rules : List Rule) (d : Doc) (p : List Step) → are_safe rules ≡ true → at p d ≡ None
    → at p (masked rules d) ≡ None

-- The same messages are dropped before and after.
abbrev pub DropsAlike : Type 0
DropsAlike = (rules : List Rule) (names : List (Option (List ℕ))) (d : Doc) → are_safe rules ≡ true
    → is_dropped names (masked rules d) ≡ is_dropped names d

-- If no rule drops a message, none drops the masked message, if no change may give an event a
-- category by which a rule drops it.
abbrev pub StaysIn : Type 0
StaysIn = (mask : Mask) (d : Doc) → are_safe mask.changes ≡ true
    → keep_categories mask.changes mask.categories ≡ true → leaves_out mask d ≡ false
    → leaves_out mask (masked mask.changes d) ≡ false

-- ---- masked again

-- Masking a masked document again does not change it, if its members are in order.
abbrev pub MaskedOnce : Type 0
MaskedOnce = (rules : List Rule) (d : Doc) → are_safe rules ≡ true → are_idempotent rules ≡ true
    → is_ordered d ≡ true → masked rules (masked rules d) ≡ masked rules d

-- Setting members again in a masked document does not change it, if no change may remove a member
-- that a rule sets.
abbrev pub FilledOnce : Type 0
FilledOnce = (mask : Mask) (d : Doc) → are_safe mask.changes ≡ true
    → keep_fills mask.changes mask.fills ≡ true
    → filled mask.fills (masked mask.changes (filled mask.fills d))
    ≡ masked mask.changes (filled mask.fills d)

-- The value y is x after members were set: an object is still an object, and every other value is
-- unchanged. For an array, `top` is the number of elements; elements have paths of their own.
pub record IsKept (x y : Doc) : Type 0 where
  pub stays_object : is_object x ≡ true → is_object y ≡ true
  pub other : is_object x ≡ false → top y ≡ top x

-- Setting members keeps each value that is not null, at its path.
abbrev pub FillsKeepValues : Type 0
FillsKeepValues = (fills : List Fill) (d : Doc) (p : List Step) (x : Doc) → at p d ≡ Some x
    → is_given (Some x) ≡ true → (y : Doc) × (at p (filled fills d) ≡ Some y) × IsKept x y

-- ---- in any order

-- Two lists of the same rules, both in the order in which rules apply, mask each document alike, if
-- its members are in order. So the order of rules that are equal in this order has no effect.
abbrev pub InAnyOrder : Type 0
InAnyOrder = (rules others : List Rule) (d : Doc) → IsPermutation rules others
    → are_safe rules ≡ true → are_safe others ≡ true → is_ordered d ≡ true
    → masked others d ≡ masked rules d

-- ---- equal if and only if equal elsewhere

-- Masking two documents yields equal documents if and only if the two agree except for the parts
-- that the rules redact.
abbrev pub EqualWhereAgree : Type 0
EqualWhereAgree = (rules : List Rule) (d e : Doc) → are_safe rules ≡ true → is_ordered d ≡ true
    → is_ordered e ≡ true → (masked rules d ≡ masked rules e) ↔ AgreeBut rules d e

-- ---- elements that are omitted

-- Redacting a redacted document again does not change it, if its members are in order.
abbrev pub RedactedOnce : Type 0
RedactedOnce = (mask : Mask) (d : Doc) → are_safe mask.changes ≡ true
    → are_idempotent mask.changes ≡ true → is_ordered d ≡ true
    → redacted mask (redacted mask d) ≡ redacted mask d

-- Setting members again in a redacted document does not change it.
abbrev pub FilledRedacted : Type 0
FilledRedacted = (mask : Mask) (d : Doc) → are_safe mask.changes ≡ true
    → keep_fills mask.changes mask.fills ≡ true
    → filled mask.fills (redacted mask (filled mask.fills d))
    ≡ redacted mask (filled mask.fills d)

-- The order of rules that omit elements does not matter.
abbrev pub OmittedInAnyOrder : Type 0
OmittedInAnyOrder = (os ps : List Omission) (d : Doc) → IsPermutation os ps
    → omitted ps d ≡ omitted os d

-- If no rule drops a message, none drops the redacted message.
abbrev pub RedactedStaysIn : Type 0
RedactedStaysIn = (mask : Mask) (d : Doc) → are_safe mask.changes ≡ true
    → keep_categories mask.changes mask.categories ≡ true → leaves_out mask d ≡ false
    → leaves_out mask (redacted mask d) ≡ false

-- Redacting two documents yields equal documents if and only if the two agree except for the parts
-- that the mask redacts and the elements that it omits.
abbrev pub EqualOutside : Type 0
EqualOutside = (mask : Mask) (d e : Doc) → are_safe mask.changes ≡ true → is_ordered d ≡ true
    → is_ordered e ≡ true → (redacted mask d ≡ redacted mask e) ↔ AgreeOutside mask d e

-- Omitting elements keeps members in order, a document serialisable, and strings in UTF-8.
abbrev pub OmittedKeepsOrder : Type 0
OmittedKeepsOrder = (os : List Omission) (d : Doc) → is_ordered d ≡ true
    → is_ordered (omitted os d) ≡ true

abbrev pub OmittedKeepsSound : Type 0
OmittedKeepsSound = (os : List Omission) (d : Doc) → is_sound d ≡ true
    → is_sound (omitted os d) ≡ true

abbrev pub OmittedKeepsUtf8 : Type 0
OmittedKeepsUtf8 = (os : List Omission) (d : Doc) → all_utf8 d ≡ true
    → all_utf8 (omitted os d) ≡ true

-- ---- order, numbers and strings

-- Masking keeps members in order.
abbrev pub KeepsOrder : Type 0
KeepsOrder = (rules : List Rule) (d : Doc) → is_ordered d ≡ true → is_ordered (masked rules d)
    ≡ true

-- If a document is serialisable, so is the masked document. The same holds for strings in UTF-8.
abbrev pub KeepsSound : Type 0
KeepsSound = (rules : List Rule) (d : Doc) → is_sound d ≡ true → is_sound (masked rules d) ≡ true

abbrev pub KeepsUtf8 : Type 0
KeepsUtf8 = (rules : List Rule) (d : Doc) → all_utf8 d ≡ true → all_utf8 (masked rules d) ≡ true

-- ---- places without names of elements

-- If a place selects no elements by their name, the names along a path do not matter, and a change
-- at the place is one at each path that matches it.
abbrev pub PlainPlaces : Type 0
PlainPlaces = (steps : List RuleStep) (f : Doc → Doc) (d : Doc) (p : List Step)
    → is_unnamed steps ≡ true
    → (has_names steps (Some d) p ≡ true)
    × (change_at_place steps f d ≡ edit (plain_place steps) f d)

-- ---- strings

-- The result of `digits` is the only string in the relation. The same holds for `hex`.
abbrev pub DigitsAre : Type 0
DigitsAre = (s t : List ℕ) → AreDigitsOf s t ↔ (t ≡ digits s)

abbrev pub HexIs : Type 0
HexIs = (s t : List ℕ) → IsHexOf s t ↔ (t ≡ hex s)
