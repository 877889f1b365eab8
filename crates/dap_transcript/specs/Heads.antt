-- The heads of messages, and the members that they are read from. Source: own. For private clauses.
use Rattle.std.specs.Prelude.{◌≡◌, ℕ, Bool, true, false, List, ◌∷◌, ◌++◌, Option, None}
use Rattle.std.specs.Prelude.{codes, option_map}
use Rattle.std.specs.{Borrow.Bor, Option.option_or}
use Rattle.dap_tree.specs.Doc.{Doc, Members, get_member, member, no_members}
use Rattle.dap_tree.specs.Json.{members_data, text_of}
use Rattle.dap_tree.specs.declared.side.Side.{Side}
use Rattle.serde_json.specs.Written.{members_text}
use Rattle.json.specs.Print.{escape}
use Rattle.dap_message.specs.Message.{Sent}
use Rattle.dap_recording.specs.Recording.{record_text}
use Rattle.dap_session.specs.Messages.{is_yes, success_of}
use Rattle.dap_transcript.specs.declared.heads.{Member.Member, Values.Values}
use Rattle.dap_transcript.specs.declared.record.Head.{Head}
use Rattle.dap_stored.specs.Contents.{IsOfContent}
use Rattle.dap_transcript.specs.{Requests.IsNumbered, Transcript.members_in}

-- This is the head of the message.
pub record IsHead (h : Head) (m : Sent) : Type 0 where
  pub numbered : IsNumbered m h.numbered
  pub success_is : h.success ≡ is_yes (success_of m)
  pub content_is : h.content.now ≡ text_of m.doc

-- The text starts with the head of the message, and this is what follows it.
abbrev pub StartsWithHead : Head × Bor (List ℕ) → Sent → List ℕ → Type 0
StartsWithHead read m more = IsHead read.0 m × (read.1.now ≡ more)

-- ---- members

-- The canonical text of these members, of which the first follows a comma if it is a later one,
-- and of the end of their object.
abbrev pub later_text : Bool → Members → List ℕ
later_text later ms = members_text later (members_data ms)

-- The member that the text starts with, and what follows it.
abbrev pub SplitsMember : List ℕ → Member × Bor (List ℕ) → Type 0
SplitsMember text read = (later : Bool) (k : List ℕ) (d : Doc) (ms : Members) (more : List ℕ)
    → text ≡ later_text later (member k d ms) ++ more
    → (read.0.name.now ≡ escape k) × (read.0.value.now ≡ text_of d)
    × (read.1.now ≡ later_text true ms ++ more)

-- The text of the value that was found under this name, or of the first one among these members.
abbrev pub value_among : Option (Bor (List ℕ)) → List ℕ → Members → Option (List ℕ)
value_among found k ms =
    option_or (option_map (λ value. value.now) found) (option_map text_of (get_member k ms))

-- The values of some of these members were found, each under the name of its member. The others
-- are among the members that are left.
pub record ValuesLeft (v : Values) (left ms : Members) : Type 0 where
  pub type_is : value_among v.kind (codes "type") left ≡ value_among None (codes "type") ms
  pub command_is : value_among v.command (codes "command") left
      ≡ value_among None (codes "command") ms
  pub event_is : value_among v.event (codes "event") left ≡ value_among None (codes "event") ms
  pub seq_is : value_among v.seq (codes "seq") left ≡ value_among None (codes "seq") ms
  pub request_is : value_among v.request_seq (codes "request_seq") left
      ≡ value_among None (codes "request_seq") ms
  pub success_is : value_among v.success (codes "success") left
      ≡ value_among None (codes "success") ms

-- The members of the object that ends in the text were read, and this follows it.
abbrev pub ReadsMembers : List ℕ → Values → Values → List ℕ → Type 0
ReadsMembers text old new rest = (ms : Members) (more : List ℕ) → text ≡ later_text false ms ++ more
    → ValuesLeft old ms ms → ValuesLeft new no_members ms × (rest ≡ more)

-- For a loop: the text has the members that are left.
pub record MembersLeft (v : Values) (text : List ℕ) (ms : Members) (more : List ℕ) : Type 0 where
  pub later : Bool
  pub left : Members
  pub text_is : text ≡ later_text later left ++ more
  pub values : ValuesLeft v left ms

-- These are the values of a message of a content.
abbrev pub AreValuesOf : Values → Sent → Type 0
AreValuesOf v m = IsOfContent m × ValuesLeft v no_members (members_in m)

-- ---- records

-- The side of the record that the text starts with, if its content starts with `{`, and the text
-- from its content on.
abbrev pub SplitsRecord : List ℕ → Side × Bor (List ℕ) → Type 0
SplitsRecord text read = (side : Side) (content more : List ℕ)
    → text ≡ record_text side (123 ∷ content) ++ more
    → (read.0 ≡ side) × (read.1.now ≡ 123 ∷ content ++ 10 ∷ more)
