-- The laws of sessions that the functions of `laws` state.
use Rattle.std.specs.Prelude.{◌≡◌, ◌↔◌, true, List, [], ◌++◌, map}
use Rattle.dap_tree.specs.{Doc.{Doc}, declared.side.Side.{Side}}
use Rattle.dap_message.specs.{Faults.{fault}, Message.{Sent, IsTyped, message_of}}
use Rattle.dap_tokens.specs.Naming.{Numbering}
use Rattle.dap_mask.specs.Declarations.{Declaration, are_declared}
use Rattle.dap_naming.specs.Documents.{ids_of, named_doc}
use Rattle.dap_naming.specs.Numbers.{number, AreRenamed, AreCountable}
use Rattle.dap_naming.specs.Sessions.{rules_for, declared_ids, name_sent, named_sents}
use Rattle.dap_naming.specs.Sessions.{sent_skeleton}

-- ---- names

-- The same declarations apply to a message and to the message with names in place of its ids.
abbrev pub NamesKeepRules : Type 0
NamesKeepRules = (xs : List Declaration) (number : Numbering) (d : Doc) → are_declared xs ≡ true
    → rules_for xs (named_doc (rules_for xs d) number d) ≡ rules_for xs d

-- Two lists have the same named list if and only if they are the same except for their ids, and a
-- one-to-one renaming turns the ids of one into those of the other.
abbrev pub EqualNamedSessions : Type 0
EqualNamedSessions = (xs : List Declaration) (ms ns : List Sent) → are_declared xs ≡ true
    → AreCountable (declared_ids xs ms) → AreCountable (declared_ids xs ns)
    → (named_sents xs ms ≡ named_sents xs ns)
    ↔ ((map (sent_skeleton xs) ms ≡ map (sent_skeleton xs) ns)
    × ∥ AreRenamed (declared_ids xs ms) (declared_ids xs ns) ∥₁)

-- Naming a named list changes nothing.
abbrev pub NamedSessionStays : Type 0
NamedSessionStays = (xs : List Declaration) (ms : List Sent) → are_declared xs ≡ true
    → AreCountable (declared_ids xs ms) → named_sents xs (named_sents xs ms) ≡ named_sents xs ms

-- More messages change no name: the messages after a prefix get the numbers of the whole list.
abbrev pub NamesOfSessionPrefix : Type 0
NamesOfSessionPrefix = (xs : List Declaration) (ms ns : List Sent)
    → named_sents xs (ms ++ ns)
    ≡ named_sents xs ms ++ map (name_sent xs (number (declared_ids xs (ms ++ ns)))) ns

-- Without declarations naming changes nothing.
abbrev pub NoDeclarations : Type 0
NoDeclarations = (ms : List Sent) → named_sents [] ms ≡ ms

-- ---- types

-- The same declarations apply to a document and to the message that it is for its side.
abbrev pub TypesKeepRules : Type 0
TypesKeepRules = (xs : List Declaration) (side : Side) (d : Doc)
    → rules_for xs (message_of side d) ≡ rules_for xs d

-- A named document is typed as the named message. No declaration has the place of an id of the
-- profile, and the capabilities that are filled in are not ids.
abbrev pub TypedNamesCommute : Type 0
TypedNamesCommute = (xs : List Declaration) (number : Numbering) (side : Side) (d : Doc)
    → are_declared xs ≡ true
    → message_of side (named_doc (rules_for xs d) number d)
    ≡ named_doc (rules_for xs (message_of side d)) number (message_of side d)

-- A message has the declared ids of its document.
abbrev pub TypedIdsStay : Type 0
TypedIdsStay = (xs : List Declaration) (side : Side) (d : Doc) → are_declared xs ≡ true
    → ids_of (rules_for xs (message_of side d)) (message_of side d) ≡ ids_of (rules_for xs d) d

-- The message that the document is for its side.
abbrev pub typed_sent : Sent → Sent
typed_sent m = record { side = m.side; doc = message_of m.side m.doc }

-- The named documents are typed as the named messages.
abbrev pub TypedSessionsCommute : Type 0
TypedSessionsCommute = (xs : List Declaration) (ms : List Sent) → are_declared xs ≡ true
    → map typed_sent (named_sents xs ms) ≡ named_sents xs (map typed_sent ms)

-- A named document has the error of the document.
abbrev pub NamesKeepFaults : Type 0
NamesKeepFaults = (xs : List Declaration) (number : Numbering) (d : Doc) → are_declared xs ≡ true
    → fault (named_doc (rules_for xs d) number d) ≡ fault d

-- So a named document is accepted if the document is, as the named message.
abbrev pub NamesKeepTypes : Type 0
NamesKeepTypes = (xs : List Declaration) (number : Numbering) (side : Side) (d m : Doc)
    → are_declared xs ≡ true → IsTyped side d m
    → IsTyped side (named_doc (rules_for xs d) number d) (named_doc (rules_for xs m) number m)
