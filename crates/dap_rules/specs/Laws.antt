-- The statements of the functions in `laws`.
use Rattle.std.specs.Prelude.{◌≡◌, ◌↔◌, ℕ, List, []}
use Rattle.dap_message.specs.Message.{Sent}
use Rattle.dap_mask.specs.Mask.{Mask}
use Rattle.dap_rename.specs.{Messages.{AreSame, no_stop}, Modes.stop_in, declared.mode.Mode.Mode}
use Rattle.dap_rename.specs.declared.mode.Mode.TheVariants.{Whole}
use Rattle.dap_input.specs.declared.limits.Limits.{Limits}
use Rattle.dap_normalise.specs.declared.normal_session.NormalSession.{NormalSession}
use Rattle.dap_rules.specs.Applying.{AppliesRules, IsRefusedByRules, MakesSession}
use Rattle.dap_rules.specs.Applying.{NormalisesByRules}
use Rattle.dap_rules.specs.MaskedMessages.{AreMaskedMessages, AreSameButOrderBy, named_by}
use Rattle.dap_rules.specs.declared.fault.ApplyRefused.{ApplyRefused}
use Rattle.dap_rules.specs.declared.fault.ApplyRefused.TheVariants.{Memory}

-- Rules turn a recording into at most one text.
abbrev pub OneTextByRules : Type 0
OneTextByRules = (limits : Limits) (mode : Mode) (mask : Mask) (recording written other : List ℕ)
    → AppliesRules limits mode mask recording written
    → AppliesRules limits mode mask recording other → written ≡ other

-- If rules turn a recording into a text, only an allocation can fail.
abbrev pub AppliedHasNoError : Type 0
AppliedHasNoError = (limits : Limits) (mode : Mode) (mask : Mask) (recording written : List ℕ)
    (because : ApplyRefused) → AppliesRules limits mode mask recording written
    → IsRefusedByRules limits mode mask recording because → because ≡ Memory

-- ---- the masked messages

-- A recording has at most one list of masked messages.
abbrev pub OneMaskedList : Type 0
OneMaskedList = (limits : Limits) (mask : Mask) (recording : List ℕ) (messages others : List Sent)
    → AreMaskedMessages limits mask recording messages
    → AreMaskedMessages limits mask recording others → messages ≡ others

-- If rules turn a recording into a session, the recording has masked messages. The messages of the
-- session are the masked ones, in the order of the `swap` rules, with names in the place of the
-- declared ids.
abbrev pub SessionIsOrdered : Type 0
SessionIsOrdered = (limits : Limits) (mode : Mode) (mask : Mask) (recording : List ℕ)
    (session : List Sent) → MakesSession limits mode mask recording session
    → (messages : List Sent) × AreMaskedMessages limits mask recording messages
    × (session ≡ named_by mask messages)

-- ---- two recordings and the same rules

-- The same rules turn two recordings into sessions. A renaming turns the messages of one session
-- into those of the other if and only if it turns the masked messages of one recording, in the
-- order of the `swap` rules and with names in the place of the declared ids, into those of the
-- other.
abbrev pub SameNamedSessions : Type 0
SameNamedSessions = (limits : Limits) (mode : Mode) (mask : Mask) (recording other : List ℕ)
    (first second ms ns : List Sent)
    → MakesSession limits mode mask recording first → MakesSession limits mode mask other second
    → AreMaskedMessages limits mask recording ms → AreMaskedMessages limits mask other ns
    → AreSame (stop_in mode) first second ↔ AreSame (stop_in mode) (named_by mask ms)
    (named_by mask ns)

-- The same rules, which declare no ids, turn two recordings into sessions, with `Mode::Whole`. A
-- renaming turns the messages of one session into those of the other if and only if swaps of
-- neighbours that the `swap` rules make free, and a one-to-one renaming of each kind of id, turn
-- the masked messages of one recording into those of the other.
abbrev pub SameSessionsByRules : Type 0
SameSessionsByRules = (limits : Limits) (mask : Mask) → mask.declared ≡ []
    → (recording other : List ℕ) (first second ms ns : List Sent)
    → MakesSession limits Whole mask recording first → MakesSession limits Whole mask other second
    → AreMaskedMessages limits mask recording ms → AreMaskedMessages limits mask other ns
    → AreSame no_stop first second ↔ AreSameButOrderBy mask ms ns

-- The same rules, which declare no ids, turn two recordings into texts, which are normalised, with
-- `Mode::Whole`. The normal texts are equal if and only if swaps of neighbours that the `swap`
-- rules make free, and a one-to-one renaming of each kind of id, turn the masked messages of one
-- recording into those of the other.
abbrev pub EqualTextsByRules : Type 0
EqualTextsByRules = (limits : Limits) (mask : Mask) → mask.declared ≡ []
    → (recording other : List ℕ) (a b : NormalSession) (ms ns : List Sent)
    → NormalisesByRules limits Whole mask recording a → NormalisesByRules limits Whole mask other b
    → AreMaskedMessages limits mask recording ms → AreMaskedMessages limits mask other ns
    → (a.bytes.items ≡ b.bytes.items) ↔ AreSameButOrderBy mask ms ns

-- The same rules turn two recordings into texts, which are normalised in any mode, also
-- `Mode::PerStop`. The normal texts are equal if and only if a renaming of this mode turns the
-- masked messages of one recording, in the order of the `swap` rules and with names in the place of
-- the declared ids, into those of the other.
abbrev pub EqualTextsInEachMode : Type 0
EqualTextsInEachMode = (limits : Limits) (mode : Mode) (mask : Mask) (recording other : List ℕ)
    (a b : NormalSession) (ms ns : List Sent)
    → NormalisesByRules limits mode mask recording a → NormalisesByRules limits mode mask other b
    → AreMaskedMessages limits mask recording ms → AreMaskedMessages limits mask other ns
    → (a.bytes.items ≡ b.bytes.items)
    ↔ AreSame (stop_in mode) (named_by mask ms) (named_by mask ns)
