-- The statements of the functions in `laws`.
use Rattle.std.specs.Prelude.{◌≡◌, ◌↔◌, ℕ, Bool, true, List, [], Option, Some, All}
use Rattle.dap_message.specs.Message.{Sent}
use Rattle.dap_rename.specs.{Messages.AreSame, Modes.stop_in, declared.mode.Mode.Mode}
use Rattle.dap_rename.specs.declared.mode.Mode.TheVariants.{Whole}
use Rattle.dap_session.specs.{RenamedLists.IsNumbered, Rules.KeepsRules}
use Rattle.dap_mask.specs.{Declarations.are_declared, Mask.Mask}
use Rattle.dap_naming.specs.{Numbers.AreCountable, Sessions.declared_ids}
use Rattle.dap_input.specs.{Limits.AreSound, declared.limits.Limits.Limits}
use Rattle.dap_rules.specs.MaskedMessages.{AreSameButOrderBy, named_by, ordered_by}
use Rattle.dap_rules.specs.NamedSessions.{AreSameByNames, AreSameByRules}
use Rattle.dap_golden.specs.declared.fault.GoldenRefused.{GoldenRefused}
use Rattle.dap_golden.specs.declared.fault.GoldenRefused.TheVariants.{Memory}
use Rattle.dap_golden.specs.declared.golden.GoldenText.{GoldenText}
use Rattle.dap_golden.specs.declared.forms.GoldenForm.{GoldenForm}
use Rattle.dap_golden.specs.Golden.{AreMaskedMessagesOf, IsGolden, IsRefusedGolden, messages_of}
use Rattle.dap_golden.specs.GoldenFiles.{IsNormalText}
use Rattle.dap_golden.specs.GoldenForms.{IsRecordingOfFile, IsWrittenAs}

-- Two inputs whose golden texts are created in the same mode, by any rules. The golden texts are
-- equal if and only if a renaming of ids maps the messages of the first session to those of the
-- second.
abbrev pub EqualGoldenTexts : Type 0
EqualGoldenTexts = (limits : Limits) (mode : Mode) (mask rules : Option Mask)
    (allow_open either : Bool) (input other : List ℕ) (a b : GoldenText)
    (one : IsGolden limits mode mask allow_open input a)
    (two : IsGolden limits mode rules either other b)
    → (a.bytes.items ≡ b.bytes.items) ↔ AreSame (stop_in mode) (messages_of one) (messages_of two)

-- With the same rules an input has at most one golden text, whether or not requests without a
-- response are allowed.
abbrev pub OneGoldenText : Type 0
OneGoldenText = (limits : Limits) (mode : Mode) (mask : Option Mask) → AreSound limits
    → (allow_open either : Bool) (input : List ℕ) (a b : GoldenText)
    → IsGolden limits mode mask allow_open input a → IsGolden limits mode mask either input b
    → (a.bytes.items ≡ b.bytes.items) × (a.records ≡ b.records)

-- An input with a golden text is not rejected, unless an allocation fails.
abbrev pub GoldenIsNotRefused : Type 0
GoldenIsNotRefused = (limits : Limits) (mode : Mode) (mask : Option Mask) → AreSound limits
    → (allow_open : Bool) (input : List ℕ) (text : GoldenText) (refused : GoldenRefused)
    → IsGolden limits mode mask allow_open input text
    → IsRefusedGolden limits mode mask allow_open input refused → refused ≡ Memory

-- ---- golden texts by rules

-- An input has at most one list of masked messages.
abbrev pub OneMaskedListOfInput : Type 0
OneMaskedListOfInput = (limits : Limits) → AreSound limits → (mask : Mask) (input : List ℕ)
    (messages others : List Sent) → AreMaskedMessagesOf limits mask input messages
    → AreMaskedMessagesOf limits mask input others → messages ≡ others

-- If an input has a golden text by rules, it has masked messages. The messages of its session are
-- the masked ones, in the order of the `swap` rules, with names in the place of the declared ids.
abbrev pub GoldenIsOrdered : Type 0
GoldenIsOrdered = (limits : Limits) (mode : Mode) (mask : Mask) (allow_open : Bool)
    (input : List ℕ) (text : GoldenText)
    (is : IsGolden limits mode (Some mask) allow_open input text)
    → (messages : List Sent) × AreMaskedMessagesOf limits mask input messages
    × (messages_of is ≡ named_by mask messages)

-- Two inputs whose golden texts are created by the same rules, which declare no ids, with
-- `Mode::Whole`: neither the caller nor the rules request ids that are numbered per stop. The
-- golden texts are equal if and only if swaps of neighbours that the `swap` rules make free, and a
-- one-to-one renaming of each kind of id, turn the masked messages of one input into those of the
-- other.
abbrev pub EqualGoldenTextsByRules : Type 0
EqualGoldenTextsByRules = (limits : Limits) → AreSound limits → (mask : Mask)
    → mask.declared ≡ []
    → (allow_open either : Bool) (input other : List ℕ) (a b : GoldenText) (ms ns : List Sent)
    → IsGolden limits Whole (Some mask) allow_open input a
    → IsGolden limits Whole (Some mask) either other b
    → AreMaskedMessagesOf limits mask input ms → AreMaskedMessagesOf limits mask other ns
    → (a.bytes.items ≡ b.bytes.items) ↔ AreSameButOrderBy mask ms ns

-- Two inputs whose golden texts are created by the same rules, in any mode, also `Mode::PerStop`.
-- The golden texts are equal if and only if a renaming of this mode turns the masked messages of
-- one input, in the order of the `swap` rules and with names in the place of the declared ids, into
-- those of the other.
abbrev pub EqualGoldenTextsInEachMode : Type 0
EqualGoldenTextsInEachMode = (limits : Limits) (mode : Mode) → AreSound limits → (mask : Mask)
    (allow_open either : Bool) (input other : List ℕ) (a b : GoldenText) (ms ns : List Sent)
    → IsGolden limits mode (Some mask) allow_open input a
    → IsGolden limits mode (Some mask) either other b
    → AreMaskedMessagesOf limits mask input ms → AreMaskedMessagesOf limits mask other ns
    → (a.bytes.items ≡ b.bytes.items)
    ↔ AreSame (stop_in mode) (named_by mask ms) (named_by mask ns)

-- ---- golden texts with declared ids

-- Each mask that is read from a file has sound declarations (`are_declared`), and each list in
-- memory has fewer than 2^63 values of a label (`AreCountable`).

-- Two inputs whose golden texts are created by the same rules, in any mode, also `Mode::PerStop`.
-- The golden texts are equal if and only if a renaming of this mode, followed by a one-to-one
-- renaming of the values of each label, turns the masked messages of one input, in the order of
-- the `swap` rules, into those of the other.
abbrev pub EqualGoldenTextsByNames : Type 0
EqualGoldenTextsByNames = (limits : Limits) (mode : Mode) → AreSound limits → (mask : Mask)
    → are_declared mask.declared ≡ true
    → (allow_open either : Bool) (input other : List ℕ) (a b : GoldenText) (ms ns : List Sent)
    → IsGolden limits mode (Some mask) allow_open input a
    → IsGolden limits mode (Some mask) either other b
    → AreMaskedMessagesOf limits mask input ms → AreMaskedMessagesOf limits mask other ns
    → AreCountable (declared_ids mask.declared (ordered_by mask ms))
    → AreCountable (declared_ids mask.declared (ordered_by mask ns))
    → (a.bytes.items ≡ b.bytes.items)
    ↔ AreSameByNames (stop_in mode) mask.declared (ordered_by mask ms) (ordered_by mask ns)

-- The same with `Mode::Whole`, for masked messages that obey the rules of a session. The golden
-- texts are equal if and only if swaps of neighbours that the `swap` rules make free, a one-to-one
-- renaming of each kind of id, and a one-to-one renaming of the values of each label turn the
-- masked messages of one input into those of the other.
abbrev pub EqualGoldenTextsByExchanges : Type 0
EqualGoldenTextsByExchanges = (limits : Limits) → AreSound limits → (mask : Mask)
    → are_declared mask.declared ≡ true
    → (allow_open either : Bool) (input other : List ℕ) (a b : GoldenText) (ms ns : List Sent)
    → IsGolden limits Whole (Some mask) allow_open input a
    → IsGolden limits Whole (Some mask) either other b
    → AreMaskedMessagesOf limits mask input ms → AreMaskedMessagesOf limits mask other ns
    → All IsNumbered ms → KeepsRules ms → AreCountable (declared_ids mask.declared ms)
    → AreCountable (declared_ids mask.declared ns)
    → (a.bytes.items ≡ b.bytes.items) ↔ AreSameByRules mask.swaps mask.declared ms ns

-- ---- golden files in their forms

-- A normal text has at most one golden file in each form.
abbrev pub OneGoldenFile : Type 0
OneGoldenFile = (limits : Limits) (mode : Mode) (form : GoldenForm) (normal a b : List ℕ)
    → IsWrittenAs limits mode form normal a → IsWrittenAs limits mode form normal b → a ≡ b

-- The golden file of a normal text represents this text, in each form.
abbrev pub GoldenFileIsRead : Type 0
GoldenFileIsRead = (limits : Limits) (mode : Mode) (form : GoldenForm) (normal bytes : List ℕ)
    → AreSound limits → IsNormalText limits mode normal
    → IsWrittenAs limits mode form normal bytes → IsRecordingOfFile form bytes normal

-- Two normal texts are written as golden files of the same form. The golden files are equal if and
-- only if the texts are.
abbrev pub EqualGoldenFiles : Type 0
EqualGoldenFiles = (limits : Limits) (mode : Mode) (form : GoldenForm) (normal other a b : List ℕ)
    → AreSound limits → IsNormalText limits mode normal → IsNormalText limits mode other
    → IsWrittenAs limits mode form normal a → IsWrittenAs limits mode form other b
    → (a ≡ b) ↔ (normal ≡ other)
