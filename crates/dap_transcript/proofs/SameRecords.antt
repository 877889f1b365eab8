-- A message is determined by its record and by the messages before it.
use Rattle.std.proofs.Common.{◌≡◌, ℕ, List, ◌++◌, Bool, true, false, cond, ◌&&◌}
use Rattle.std.proofs.Common.{Ordering, Less, Equal, Greater, nat_cmp, refl, sym, ap, ap₂, ◌∙◌}
use Rattle.std.proofs.Common.{append_assoc, codes, IsUtf8}
use Rattle.std.specs.Prelude.{unwrap_or}
use Rattle.std.specs.Cmp.Lexicographic.{slice_cmp}
use Rattle.std.specs.Ordering.{match_ordering}
use Rattle.std.specs.{Char.encode_utf8, Str.{chars, is_utf8}}
use Rattle.std.proofs.lemmas.Str.{IsUtf8-append, IsUtf8-from_is_utf8, is_utf8-from_IsUtf8}
use Rattle.dap_tree.specs.Doc.{Doc, null, boolean, whole, text, list, object, id, Members}
use Rattle.dap_tree.specs.Doc.{no_members, member, as_object, put, all_plain, members_plain}
use Rattle.dap_tree.specs.Doc.{all_utf8, members_utf8}
use Rattle.dap_tree.specs.{Ids.without_ids, declared.side.Side.Side}
use Rattle.dap_tree.proofs.Booleans.{and_left, and_right, and_both}
use Rattle.dap_profile.specs.{Profile.{kind_name, profile}, declared.profile.Kind.Kind}
use Rattle.dap_profile.specs.declared.profile.Kind.TheVariants.{Request, Response, Event}
use Rattle.dap_message.specs.{Marks.mark_by_rows, Message.Sent, Rows.name_key}
use Rattle.dap_session.specs.Messages.{kind_of, name_of, side_of}
use Rattle.dap_stored.specs.Contents.{IsOfContent}
use Rattle.dap_transcript.specs.{Lines.member_lines, Names.{member_name, names_head}}
use Rattle.dap_transcript.specs.SameText.{AreWritable, EndsRecord}
use Rattle.dap_transcript.specs.Transcript.{head_line, is_omitted, members_in, record_text, written}
use Rattle.dap_transcript.proofs.FoundMembers.{found_in, is_its_object, utf8_found, utf8_in}
use Rattle.dap_transcript.proofs.MessageHeads.{has_content, has_head, HasContent, HasHead}
use Rattle.dap_transcript.proofs.OmittedMembers.{AreAlike, same_members_in}
use Rattle.dap_transcript.proofs.SameHeads.{same_heads, words}
use Rattle.dap_transcript.proofs.SameLines.{same_members}

-- ---- the written members can be written

plain_at : (o : Ordering) (a b c : Members) → members_plain a ≡ true → members_plain b ≡ true
    → members_plain c ≡ true → members_plain (match_ordering o a b c) ≡ true
plain_at Less a b c p q r = p
plain_at Equal a b c p q r = q
plain_at Greater a b c p q r = r

plain_put : (k : List ℕ) (d : Doc) (ms : Members) → all_plain d ≡ true → members_plain ms ≡ true
    → members_plain (put k d ms) ≡ true
plain_put k d no_members h g = and_both _ _ h refl
plain_put k d (member l e ms) h g =
    let rest = and_right (all_plain e) (members_plain ms) g in
    plain_at (slice_cmp nat_cmp k l) _ _ _ (and_both _ _ h g) (and_both _ _ h rest)
    (and_both _ _ (and_left (all_plain e) (members_plain ms) g) (plain_put k d ms h rest))

plain_cond : (b : Bool) (ms ns : Members) → members_plain ms ≡ true → members_plain ns ≡ true
    → members_plain (cond b ms ns) ≡ true
plain_cond true ms ns p q = p
plain_cond false ms ns p q = q

plain_written : (omitted : List ℕ → Bool) (ms : Members) → members_plain ms ≡ true
    → members_plain (written omitted ms) ≡ true
plain_written omitted no_members h = refl
plain_written omitted (member k d ms) h =
    let rest = plain_written omitted ms (and_right (all_plain d) (members_plain ms) h) in
    plain_cond (omitted k) _ _ rest
    (plain_put (member_name k) d (written omitted ms)
    (and_left (all_plain d) (members_plain ms) h) rest)

utf8_at : (o : Ordering) (a b c : Members) → members_utf8 a ≡ true → members_utf8 b ≡ true
    → members_utf8 c ≡ true → members_utf8 (match_ordering o a b c) ≡ true
utf8_at Less a b c p q r = p
utf8_at Equal a b c p q r = q
utf8_at Greater a b c p q r = r

utf8_put : (k : List ℕ) (d : Doc) (ms : Members) → is_utf8 k ≡ true → all_utf8 d ≡ true
    → members_utf8 ms ≡ true → members_utf8 (put k d ms) ≡ true
utf8_put k d no_members n h g = and_both _ _ n (and_both _ _ h refl)
utf8_put k d (member l e ms) n h g =
    let first = and_left (is_utf8 l) (all_utf8 e && members_utf8 ms) g in
    let parts = and_right (is_utf8 l) (all_utf8 e && members_utf8 ms) g in
    let rest = and_right (all_utf8 e) (members_utf8 ms) parts in
    utf8_at (slice_cmp nat_cmp k l) _ _ _ (and_both _ _ n (and_both _ _ h g))
    (and_both _ _ first (and_both _ _ h rest))
    (and_both _ _ first
    (and_both _ _ (and_left (all_utf8 e) (members_utf8 ms) parts) (utf8_put k d ms n h rest)))

utf8_cond : (b : Bool) (ms ns : Members) → members_utf8 ms ≡ true → members_utf8 ns ≡ true
    → members_utf8 (cond b ms ns) ≡ true
utf8_cond true ms ns p q = p
utf8_cond false ms ns p q = q

utf8_underscore : is_utf8 (codes "_") ≡ true
unfolding is_utf8 chars encode_utf8
utf8_underscore = refl

utf8_longer : (b : Bool) (k : List ℕ) → is_utf8 k ≡ true
    → is_utf8 (cond b (k ++ codes "_") k) ≡ true
utf8_longer true k h =
    is_utf8-from_IsUtf8 (k ++ codes "_")
    (IsUtf8-append k (codes "_") (IsUtf8-from_is_utf8 k h)
    (IsUtf8-from_is_utf8 (codes "_") utf8_underscore))
utf8_longer false k h = h

utf8_written : (omitted : List ℕ → Bool) (ms : Members) → members_utf8 ms ≡ true
    → members_utf8 (written omitted ms) ≡ true
utf8_written omitted no_members h = refl
utf8_written omitted (member k d ms) h =
    let parts = and_right (is_utf8 k) (all_utf8 d && members_utf8 ms) h in
    let rest = utf8_written omitted ms (and_right (all_utf8 d) (members_utf8 ms) parts) in
    utf8_cond (omitted k) _ _ rest
    (utf8_put (member_name k) d (written omitted ms)
    (utf8_longer (names_head k) k (and_left (is_utf8 k) (all_utf8 d && members_utf8 ms) h))
    (and_left (all_utf8 d) (members_utf8 ms) parts) rest)

plain_in : (d : Doc) → all_plain d ≡ true
    → members_plain (unwrap_or (as_object d) no_members) ≡ true
plain_in null h = refl
plain_in (boolean b) h = refl
plain_in (whole z) h = refl
plain_in (text s) h = refl
plain_in (list ds) h = refl
plain_in (object ms) h = h
plain_in (id s z) h = refl

are_writable : (before : List Sent) (m : Sent) → HasContent m
    → AreWritable (written (is_omitted before m) (members_in m))
are_writable before m c = (
  plain_written (is_omitted before m) (members_in m) (plain_in (without_ids m.doc) c.plain),
  utf8_written (is_omitted before m) (members_in m) (utf8_in (without_ids m.doc) c.utf8),
)

-- ---- the head

utf8_kind : (k : Kind) → is_utf8 (kind_name k ++ codes " ") ≡ true
unfolding is_utf8 chars encode_utf8
utf8_kind Request = refl
utf8_kind Response = refl
utf8_kind Event = refl

utf8_words : (m : Sent) → HasContent m → HasHead m → IsUtf8 (words (kind_of m) (name_of m))
utf8_words m c a =
    let name = IsUtf8-from_is_utf8 (name_of m)
    (utf8_found (name_key (kind_of m)) (members_in m) (text (name_of m))
    (utf8_in (without_ids m.doc) c.utf8) a.name_is) in
    IsUtf8-append (kind_name (kind_of m) ++ codes " ") (name_of m)
    (IsUtf8-from_is_utf8 (kind_name (kind_of m) ++ codes " ") (utf8_kind (kind_of m))) name

-- ---- the message

numbers_are : (m : Sent) → HasHead m → without_ids m.doc ≡ object (members_in m)
numbers_are m a =
    is_its_object (codes "seq") (without_ids m.doc) _
    (sym (found_in (codes "seq") (without_ids m.doc)) ∙ a.seq_is)

-- Two messages of contents are equal if their sides and their members are equal.
same_message : (m n : Sent) → HasContent m → HasContent n → HasHead m → HasHead n
    → m.side ≡ n.side → members_in m ≡ members_in n → m ≡ n
same_message m n c d a b side members =
    let build : Side → Doc → Sent = λ s e. record { side = s; doc = e } in
    let numbers : without_ids m.doc ≡ without_ids n.doc =
    numbers_are m a ∙ ap object members ∙ sym (numbers_are n b) in
    ap₂ build side
    (c.typed ∙ ap₂ (λ s e. mark_by_rows profile s e) side numbers ∙ sym d.typed)

pub record SameRecord (m n : Sent) (x y : List ℕ) : Type 0 where
  pub message : m ≡ n
  pub rest : x ≡ y

same_sides : (m n : Sent) → side_of m ≡ side_of n → m.side ≡ n.side
unfolding side_of
same_sides m n h = h

-- The lines of the written members of a message.
abbrev lines_of : List Sent → Sent → List ℕ
lines_of before m = member_lines 2 2 (written (is_omitted before m) (members_in m))

-- Two messages of contents are equal if their records after the same messages are equal. A record
-- ends where the next one starts.
pub same_record : (before : List Sent) (m n : Sent) (x y : List ℕ) → IsOfContent m → IsOfContent n
    → EndsRecord x → EndsRecord y → record_text before m ++ x ≡ record_text before n ++ y
    → SameRecord m n x y
same_record before m n x y p q ends stops h =
    let c = has_content m p in
    let d = has_content n q in
    let a = has_head m c.enveloped in
    let b = has_head n d.enveloped in
    let heads = same_heads (side_of m) (side_of n) (kind_of m) (kind_of n) (name_of m) (name_of n)
    (lines_of before m ++ x) (lines_of before n ++ y) (utf8_words m c a) (utf8_words n d b)
    (sym (append_assoc (head_line m) (lines_of before m) x) ∙ h
    ∙ append_assoc (head_line n) (lines_of before n) y) in
    let members = same_members (written (is_omitted before m) (members_in m))
    (written (is_omitted before n) (members_in n)) x y (are_writable before m c)
    (are_writable before n d) ends stops heads.rest in
    let alike : AreAlike m n =
    record { side = heads.side; kind = heads.kind; name = heads.name } in
    record {
      message = same_message m n c d a b (same_sides m n heads.side)
          (same_members_in before m n c d a b alike members.0);
      rest = members.1;
    }
