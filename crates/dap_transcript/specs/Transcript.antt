-- The transcript of a list of messages: a page of YAML. Source: own, over the messages of the DAP
-- specification and YAML 1.2.
use Rattle.std.specs.Prelude.{ℕ, ℤ, Bool, false, cond, ◌&&◌, ◌||◌, List, [], ◌∷◌, ◌++◌}
use Rattle.std.specs.Prelude.{Option, Some, None, codes, unwrap_or, bytes_eq, eqb}
use Rattle.std.specs.List.{starts_with}
use Rattle.std.specs.Ordering.{int_eq}
use Rattle.dap_tree.specs.Doc.{Members, no_members, member, as_object, put}
use Rattle.dap_tree.specs.{Ids.without_ids, Side.side_text}
use Rattle.dap_profile.specs.Profile.{kind_name}
use Rattle.dap_message.specs.{Message.Sent, Rows.name_key}
use Rattle.dap_session.specs.Messages.{side_of, kind_of, name_of, seq_of, request_seq_of}
use Rattle.dap_session.specs.Messages.{success_of}
use Rattle.dap_session.specs.Messages.{is_response, is_number, is_yes}
use Rattle.dap_transcript.specs.{Names.{is_plain, member_name}, Scalars.string_text}
use Rattle.dap_transcript.specs.{Lines.member_lines, Expected.{expected_seq, expected_request}}

-- ---- the head

-- The kind and the name of a message. If the name is not plain, both are one string.
abbrev pub title : List ℕ → List ℕ → List ℕ
title kind name =
    cond (is_plain name) (kind ++ codes " " ++ name) (string_text (kind ++ codes " " ++ name))

-- The first line of a record: the side, the kind, and the command or the name of the event (DAP
-- specification, ProtocolMessage, Request, Response and Event).
abbrev pub head_line : Sent → List ℕ
head_line m =
    codes "- " ++ side_text (side_of m) ++ codes ": " ++ title (kind_name (kind_of m)) (name_of m)
    ++ codes "\n"

-- ---- the members

-- The message has the `seq` that is expected after these messages.
abbrev pub has_expected_seq : List Sent → Sent → Bool
has_expected_seq before m = int_eq (seq_of m) (expected_seq before (side_of m))

-- The two numbers exist and are equal.
abbrev pub same_number : Option ℤ → Option ℤ → Bool
same_number None o = false
same_number (Some n) o = is_number o n

-- The message is a response with the `request_seq` that is expected after these messages.
abbrev pub has_expected_request : List Sent → Sent → Bool
has_expected_request before m =
    is_response m && same_number (request_seq_of m) (expected_request before m)

-- A member of the message that is not written, since the head has it or it is expected: `type`, the
-- name of the message, an expected `seq`, and in a response an expected `request_seq` and
-- `success: true`.
abbrev pub is_omitted : List Sent → Sent → List ℕ → Bool
is_omitted before m k =
    bytes_eq k (codes "type")
    || (bytes_eq k (name_key (kind_of m))
    || ((bytes_eq k (codes "seq") && has_expected_seq before m)
    || ((bytes_eq k (codes "request_seq") && has_expected_request before m)
    || (bytes_eq k (codes "success") && is_yes (success_of m)))))

-- The members that are not omitted, in the byte order of the names under which they are written.
abbrev pub written : (List ℕ → Bool) → Members → Members
written omitted no_members = no_members
written omitted (member k d ms) =
    cond (omitted k) (written omitted ms) (put (member_name k) d (written omitted ms))

-- The members of a message. An id is its number.
abbrev pub members_in : Sent → Members
members_in m = unwrap_or (as_object (without_ids m.doc)) no_members

-- ---- records

-- The record of a message after these messages: its head, and its members indented by two.
abbrev pub record_text : List Sent → Sent → List ℕ
record_text before m =
    head_line m ++ member_lines 2 2 (written (is_omitted before m) (members_in m))

abbrev pub records_after : List Sent → List Sent → List ℕ
records_after before [] = []
records_after before (m ∷ ms) = record_text before m ++ records_after (before ++ m ∷ []) ms

-- The transcript of messages: their records, one after another. Without messages it is empty.
abbrev pub transcript : List Sent → List ℕ
transcript ms = records_after [] ms

-- The bytes start like a transcript of at least one message: with the head of a record.
abbrev pub starts_with_head : List ℕ → Bool
starts_with_head bytes =
    starts_with eqb bytes (codes "- client: ") || starts_with eqb bytes (codes "- adapter: ")
