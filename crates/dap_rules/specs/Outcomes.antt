-- The statements of the functions in `laws`.
use Rattle.std.specs.Prelude.{◌≡◌, ℕ, true, List, [], ◌∷◌}
use Rattle.dap_tree.specs.Doc.{Doc}
use Rattle.dap_words.specs.{Machines.words_of, Words.{Pair, have_own_texts}, Worded.AreAlike}
use Rattle.dap_mask.specs.{Loose.IsReadLoosely, Mask.Mask}
use Rattle.dap_normalise.specs.Accepting.{Payload}
use Rattle.dap_rules.specs.{MaskedRecordings.{Masks, with_words}, Masking.masking}
use Rattle.dap_input.specs.{Refusals.{HasOneOutcome, RefusalStays}, Limits.AreSound}
use Rattle.dap_input.specs.{ReadTo.{IsBounded, IsReadTo}, declared.limits.Limits.Limits}

-- A recording is accepted as exactly one list of messages, or rejected for exactly one reason,
-- never both.
abbrev pub MaskHasOneOutcome : Type 0
MaskHasOneOutcome = (limits : Limits) → AreSound limits → (mask : Mask)
    → HasOneOutcome (masking limits mask)

-- A rejection remains when more bytes follow, unless the record was only incomplete.
abbrev pub MaskRefusalStays : Type 0
MaskRefusalStays = (limits : Limits) → AreSound limits → (mask : Mask)
    → RefusalStays (masking limits mask)

-- If no more was read than a record requires, the number of bytes read past it is bounded.
abbrev pub MaskReadingIsBounded : Type 0
MaskReadingIsBounded = (limits : Limits) (mask : Mask) (bytes : List ℕ) (number : ℕ)
    → IsReadTo (masking limits mask) bytes number → IsBounded (masking limits mask) bytes number

-- ---- two machines

-- The records of two machines are equal, except for texts of each machine in the strings of their
-- messages (own).
abbrev pub AreRecordsAlike : List Pair → List Pair → List Payload → List Payload → Type 0
AreRecordsAlike pairs others [] [] = Unit {0}
AreRecordsAlike pairs others [] (other ∷ more) = ⊥
AreRecordsAlike pairs others (held ∷ records) [] = ⊥
AreRecordsAlike pairs others (held ∷ records) (other ∷ more) =
    (held.0 ≡ other.0) × ((d e : Doc) → IsReadLoosely held.1 d → IsReadLoosely other.1 e
    → AreAlike pairs others true d e) × AreRecordsAlike pairs others records more

-- The recordings of two machines that are equal, except for texts of each machine, are masked to
-- the same bytes, with the same words in the same order.
abbrev pub TwoMachinesMask : Type 0
TwoMachinesMask = (limits : Limits) (mask : Mask) (pairs others : List Pair)
    (bytes other written also : List ℕ) (a : Masks limits (with_words pairs mask) bytes written)
    (b : Masks limits (with_words others mask) other also) → have_own_texts pairs ≡ true
    → have_own_texts others ≡ true → words_of pairs ≡ words_of others
    → AreRecordsAlike pairs others a.accepts.records b.accepts.records → written ≡ also
