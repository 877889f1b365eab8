-- What is stored of a message (own): its content, the marks of its ids, and its head.
use Rattle.std.specs.Prelude.{◌≡◌, ℕ, ◌≤◌, List, length, slice_range, Some, is_some, true, IsUtf8}
use Rattle.dap_tree.specs.Doc.{Doc}
use Rattle.dap_profile.specs.declared.profile.Kind.TheVariants.{Response}
use Rattle.dap_message.specs.Envelope.{kind_of, name_of, seq_of, request_seq_of, success_of}
use Rattle.dap_message.specs.{Message.Sent, Rows.is_of_kind}
use Rattle.dap_flat.specs.{declared.marks.Mark.Mark, Marks.{Extends, IsMarkedText}}
use Rattle.dap_stored.specs.{declared.head.Head.Head, declared.head.Span.Span}
use Rattle.dap_stored.specs.{declared.parts.Parts.Parts, Contents.{doc_in, message_in}}

-- The items of a list in a span, and whether the list has these places.
abbrev pub part : {X : Type 0} → List X → Span → List X
part xs s = slice_range xs s.start s.end

pub record IsWithin {X : Type 0} (s : Span) (xs : List X) : Type 0 where
  pub order : s.start ≤ s.end
  pub end : s.end ≤ length xs

-- The head has the members that every message has, of a message with this name and document.
pub record IsHeadOf (h : Head) (named : List ℕ) (d : Doc) : Type 0 where
  pub kind : h.kind ≡ kind_of d
  pub kind_reported : is_of_kind h.kind d ≡ true
  pub name : name_of d ≡ Some named
  pub name_utf8 : IsUtf8 named
  pub seq : seq_of d ≡ Some h.seq
  pub request_seq : h.request_seq ≡ request_seq_of d
  pub request_seq_there : is_some h.request_seq ≡ is_of_kind Response d
  pub success : h.success ≡ success_of d
  pub success_there : is_some h.success ≡ is_of_kind Response d

-- The head, the name, the content and the marks are those of one message.
pub record AreOfMessage (h : Head) (named content : List ℕ) (marks : List Mark) : Type 0 where
  pub head : IsHeadOf h named (doc_in h.side content)
  pub marked : IsMarkedText content marks (doc_in h.side content)

-- The message of the head is stored in these parts.
pub record IsStored (p : Parts) (h : Head) : Type 0 where
  pub name_within : IsWithin h.name p.names.items
  pub content_within : IsWithin h.content p.text.items
  pub marks_within : IsWithin h.marks p.marks.items
  pub message : AreOfMessage h (part p.names.items h.name) (part p.text.items h.content)
      (part p.marks.items h.marks)

-- The message that a head represents.
abbrev pub message_at : Parts → Head → Sent
message_at p h = message_in h.side (part p.text.items h.content)

-- The new parts are the old ones, possibly with more appended to each.
pub record Grows (old new : Parts) : Type 0 where
  pub text : Extends old.text.items new.text.items
  pub names : Extends old.names.items new.names.items
  pub marks : Extends old.marks.items new.marks.items

-- The message is stored in the new parts, in which all other messages are unchanged.
pub record Stores (old new : Parts) (m : Sent) (h : Head) : Type 0 where
  pub grows : Grows old new
  pub stored : ∥ IsStored new h ∥₁
  pub is : message_at new h ≡ m
