-- Records, one after another.
use Rattle.std.proofs.Common.{◌≡◌, ℕ, ◌<◌, arith, ℤ, Bool, true, false, ◌&&◌, ◌||◌, List, []}
use Rattle.std.proofs.Common.{◌∷◌, ◌++◌, length, Option, refl}
use Rattle.std.proofs.Common.{ap, ap₂, ◌∙◌, append_assoc, codes, bytes_eq}
use Rattle.std.specs.Ordering.{int_eq}
use Rattle.dap_profile.specs.declared.profile.Kind.{Kind}
use Rattle.dap_message.specs.{Message.Sent, Rows.name_key}
use Rattle.dap_session.specs.Messages.{is_response, is_yes, kind_of}
use Rattle.dap_session.specs.Messages.{request_seq_of, seq_of, side_of, success_of}
use Rattle.dap_tree.specs.declared.side.Side.{Side}
use Rattle.dap_tree.specs.Side.{side_text}
use Rattle.dap_profile.specs.Profile.{kind_name}
use Rattle.dap_transcript.specs.declared.members.Omitted.{Omitted}
use Rattle.dap_transcript.specs.declared.tokens.Numbered.{Numbered}
use Rattle.dap_transcript.specs.{Recordings.frames, Records.title_line, Requests.IsNumbered}
use Rattle.dap_transcript.specs.Transcript.{title}
use Rattle.dap_transcript.specs.{Lines.member_lines, Members.omits}
use Rattle.dap_transcript.specs.Expected.{expected_request, expected_seq}
use Rattle.dap_transcript.specs.Transcript.{has_expected_seq, head_line}
use Rattle.dap_transcript.specs.Transcript.{is_omitted, members_in, record_text}
use Rattle.dap_transcript.specs.Transcript.{same_number, written}

-- ---- one record

expected_if : (b : Bool) (r request expected : Option ℤ) → (b ≡ true → request ≡ expected)
    → (b && same_number r request) ≡ (b && same_number r expected)
expected_if true r request expected h = ap (same_number r) (h refl)
expected_if false r request expected h = refl

-- The member is omitted from a message of this kind, by these three tests of its values.
abbrev pub omits_by : Kind → Bool → Bool → Bool → List ℕ → Bool
omits_by kind seq request success k =
    bytes_eq k (codes "type")
    || (bytes_eq k (name_key kind)
    || ((bytes_eq k (codes "seq") && seq)
    || ((bytes_eq k (codes "request_seq") && request)
    || (bytes_eq k (codes "success") && success))))

pub omitted_same : (o : Omitted) (before : List Sent) (m : Sent) (seq : ℤ) (request : Option ℤ)
    → o.kind ≡ kind_of m → o.seq ≡ int_eq (seq_of m) seq
    → o.request_seq ≡ (is_response m && same_number (request_seq_of m) request)
    → o.success ≡ is_yes (success_of m) → seq ≡ expected_seq before (side_of m)
    → (is_response m ≡ true → request ≡ expected_request before m)
    → omits o ≡ is_omitted before m
omitted_same o before m seq request kind number asked success is_seq is_request =
    ap₂ (λ a b. omits_by a b o.request_seq o.success) kind (number ∙ ap (int_eq (seq_of m)) is_seq)
    ∙ ap₂ (λ a b. omits_by (kind_of m) (has_expected_seq before m) a b)
    (asked ∙ expected_if (is_response m) (request_seq_of m) request (expected_request before m)
    is_request)
    success

pub record_pushed : (o : Omitted) (before : List Sent) (m : Sent) (old mid new : List ℕ)
    → omits o ≡ is_omitted before m → mid ≡ old ++ head_line m
    → new ≡ mid ++ member_lines 2 2 (written (omits o) (members_in m))
    → new ≡ old ++ record_text before m
record_pushed o before m old mid new same head members =
    members
    ∙ ap (λ om. mid ++ member_lines 2 2 (written om (members_in m))) same
    ∙ ap (λ t. t ++ member_lines 2 2 (written (is_omitted before m) (members_in m))) head
    ∙ append_assoc old (head_line m)
    (member_lines 2 2 (written (is_omitted before m) (members_in m)))

-- The first line of the record of a message, by its title.
pub title_line_is : (m : Sent) (x : Numbered) → IsNumbered m x → title_line x.title ≡ head_line m
title_line_is m x n =
    let line : Side → Kind → List ℕ → List ℕ =
    λ side kind name. codes "- " ++ side_text side ++ codes ": " ++ title (kind_name kind) name
    ++ codes "\n" in
    ap (λ s. line s x.title.kind x.title.name.now) n.side
    ∙ ap (λ k. line (side_of m) k x.title.name.now) n.kind
    ∙ ap (line (side_of m) (kind_of m)) n.name

-- ---- all records

-- The records that are left follow those that were written.
pub frames_next : (left : List Sent) (text : List ℕ) → text ≡ frames left → 0 < length text
    → (m : Sent) × (rest : List Sent) × (left ≡ m ∷ rest)
frames_next [] text is some = absurd (omega (arith, ap length is))
frames_next (m ∷ ms) text is some = (m, ms, refl)

pub no_frames : (left : List Sent) (text : List ℕ) → text ≡ frames left → length text ≡ 0
    → left ≡ []
no_frames [] text is none = refl
no_frames (m ∷ ms) text is none = absurd (omega (arith, ap length is))
