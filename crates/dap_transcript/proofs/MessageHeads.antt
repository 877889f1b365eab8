-- The members that each message of a content has.
use Rattle.std.proofs.Common.{◌≡◌, ℕ, ℤ, pos, Bool, true, false, cond, not, ◌&&◌, List, []}
use Rattle.std.proofs.Common.{Option, Some, None, option_map, is_some, refl, sym, ap, ◌∙◌, subst}
use Rattle.std.proofs.Common.{codes}
use Rattle.std.specs.Prelude.{unwrap_or}
use Rattle.std.proofs.lemmas.Slice.Eq.{bytes_eq-Decides}
use Rattle.dap_tree.specs.Doc.{Doc, null, boolean, whole, text, list, object, id}
use Rattle.dap_tree.specs.Doc.{get, get_member, has_id, is_ordered}
use Rattle.dap_tree.specs.Doc.{is_sound, all_plain, all_utf8}
use Rattle.dap_tree.specs.Ids.{without_ids}
use Rattle.dap_tree.proofs.Booleans.{and_left, and_right, and_both}
use Rattle.dap_tree.proofs.MemberOrder.{read_is_ordered}
use Rattle.dap_tree.proofs.Outcomes.{read_is_plain}
use Rattle.dap_tree.proofs.Utf8.{read_is_utf8}
use Rattle.dap_tree.proofs.WithoutIds.{no_id_without, plain_parts}
use Rattle.dap_profile.specs.{Profile.profile, declared.profile.Kind.Kind}
use Rattle.dap_profile.specs.declared.profile.Kind.TheVariants.{Request, Response, Event}
use Rattle.dap_message.specs.{Capabilities.filled, Marks.mark_by_rows, Message.Sent}
use Rattle.dap_message.specs.Envelope as envelope
use Rattle.dap_message.specs.Envelope.{boolean_value, has_envelope, id_number, text_value}
use Rattle.dap_message.specs.Rows.{is_of_kind, is_text, name_key, type_name}
use Rattle.dap_message.proofs.Envelopes.{enveloped-message, text_there, which}
use Rattle.dap_message.proofs.FilledOnce.{numbers-again}
use Rattle.dap_message.proofs.KeptByTyping.{sound-message}
use Rattle.dap_message.proofs.MemberNames.{ordered-message, utf8-message}
use Rattle.dap_session.specs.Messages.{is_response, kind_of, name_of, request_seq_of, same_kind}
use Rattle.dap_session.specs.Messages.{seq_of, success_of}
use Rattle.dap_stored.specs.Contents.{IsOfContent}
use Rattle.dap_transcript.specs.Transcript.{members_in}
use Rattle.dap_transcript.proofs.FoundMembers.{found_in, get_without}

-- ---- messages of a content

-- What is known of a message that has a content.
pub record HasContent (m : Sent) : Type 0 where
  pub enveloped : has_envelope m.doc ≡ true
  pub ordered : is_ordered (without_ids m.doc) ≡ true
  pub utf8 : all_utf8 (without_ids m.doc) ≡ true
  pub plain : all_plain (without_ids m.doc) ≡ true
  pub typed : m.doc ≡ mark_by_rows profile m.side (without_ids m.doc)

pub has_content : (m : Sent) → IsOfContent m → HasContent m
unfolding mark_by_rows
has_content m (bytes, (d, reads, typed)) =
    let e = filled m.side d in
    let plain = read_is_plain bytes d reads in
    let numbers : without_ids m.doc ≡ e =
    ap without_ids typed.1 ∙ numbers-again profile m.side d plain in
    let no_id : has_id e ≡ false = ap has_id (sym numbers) ∙ no_id_without m.doc in
    record {
      enveloped = ap has_envelope typed.1 ∙ enveloped-message m.side d typed.0;
      ordered = ap is_ordered numbers ∙ ordered-message [] m.side d (read_is_ordered bytes d reads);
      utf8 = ap all_utf8 numbers ∙ utf8-message [] m.side d (read_is_utf8 bytes d reads);
      plain = ap all_plain numbers ∙ plain_parts e
          (and_both (is_sound e) (not (has_id e)) (sound-message [] m.side d plain) (ap not no_id));
      typed = typed.1 ∙ ap (mark_by_rows profile m.side) (sym numbers);
    }

-- ---- the kind

-- A message has the kind that its `type` names.
type_is : (k : Kind) (d : Doc) → is_of_kind k d ≡ true
    → get (codes "type") d ≡ Some (text (type_name k))
type_is k d h =
    let t = text_there (type_name k) (get (codes "type") d) h in
    let same : type_name k ≡ t.0 =
    (bytes_eq-Decides (type_name k) t.0).0 (ap (is_text (type_name k)) (sym t.1) ∙ h) in
    t.1 ∙ ap (λ s. Some (text s)) (sym same)

by_type : Option Doc → Kind
by_type o =
    cond (is_text (type_name Request) o) Request
    (cond (is_text (type_name Response) o) Response Event)

told : (k : Kind) → by_type (Some (text (type_name k))) ≡ k
unfolding by_type
told Request = refl
told Response = refl
told Event = refl

kind_is : (k : Kind) (d : Doc) → is_of_kind k d ≡ true → envelope.kind_of d ≡ k
unfolding by_type
kind_is k d h = ap by_type (type_is k d h) ∙ told k

answers : (k : Kind)
    → is_text (type_name Response) (Some (text (type_name k))) ≡ same_kind Response k
answers Request = refl
answers Response = refl
answers Event = refl

of_response : (k : Kind) (d : Doc) → is_of_kind k d ≡ true
    → is_of_kind Response d ≡ same_kind Response k
of_response k d h = ap (is_text (type_name Response)) (type_is k d h) ∙ answers k

-- The document is a message of this kind, with the members that each one has.
record HasMembers (d : Doc) (k : Kind) : Type 0 where
  of_kind : is_of_kind k d ≡ true
  named : is_some (text_value (get (name_key k) d)) ≡ true
  answered : same_kind Response k ≡ true
      → is_some (id_number (get (codes "request_seq") d)) ≡ true
  succeeded : same_kind Response k ≡ true
      → is_some (boolean_value (get (codes "success") d)) ≡ true

has_members : (d : Doc) → has_envelope d ≡ true → (k : Kind) × HasMembers d k
has_members d h =
    let answered = is_some (id_number (get (codes "request_seq") d)) in
    let succeeded = is_some (boolean_value (get (codes "success") d)) in
    let named = λ (k : Kind). is_some (text_value (get (name_key k) d)) in
    which (envelope.is_named Request d) (envelope.is_named Response d && answered && succeeded)
    (envelope.is_named Event d) (and_right (is_some (envelope.seq_of d)) _ h)
    (λ is. (
      Request,
      record {
        of_kind = and_left (is_of_kind Request d) (named Request) is;
        named = and_right (is_of_kind Request d) (named Request) is;
        answered = λ no. absurd cc;
        succeeded = λ no. absurd cc;
      },
    ))
    (λ is. let first = and_left (envelope.is_named Response d && answered) succeeded is in
    let both = and_left (envelope.is_named Response d) answered first in (
      Response,
      record {
        of_kind = and_left (is_of_kind Response d) (named Response) both;
        named = and_right (is_of_kind Response d) (named Response) both;
        answered = λ yes. and_right (envelope.is_named Response d) answered first;
        succeeded = λ yes. and_right (envelope.is_named Response d && answered) succeeded is;
      },
    ))
    (λ is. (
      Event,
      record {
        of_kind = and_left (is_of_kind Event d) (named Event) is;
        named = and_right (is_of_kind Event d) (named Event) is;
        answered = λ no. absurd cc;
        succeeded = λ no. absurd cc;
      },
    ))

-- ---- values of members

number_there : (o : Option Doc) → is_some (id_number o) ≡ true
    → (z : ℤ) × (id_number o ≡ Some z) × (option_map without_ids o ≡ Some (whole z))
number_there None h = absurd cc
number_there (Some null) h = absurd cc
number_there (Some (boolean b)) h = absurd cc
number_there (Some (whole z)) h = absurd cc
number_there (Some (text s)) h = absurd cc
number_there (Some (list ds)) h = absurd cc
number_there (Some (object ms)) h = absurd cc
number_there (Some (id s z)) h = (z, refl, refl)

flag_there : (o : Option Doc) → is_some (boolean_value o) ≡ true
    → (b : Bool) × (boolean_value o ≡ Some b) × (option_map without_ids o ≡ Some (boolean b))
flag_there None h = absurd cc
flag_there (Some null) h = absurd cc
flag_there (Some (boolean b)) h = (b, refl, refl)
flag_there (Some (whole z)) h = absurd cc
flag_there (Some (text s)) h = absurd cc
flag_there (Some (list ds)) h = absurd cc
flag_there (Some (object ms)) h = absurd cc
flag_there (Some (id s z)) h = absurd cc

string_there : (o : Option Doc) → is_some (text_value o) ≡ true
    → (s : List ℕ) × (text_value o ≡ Some s) × (option_map without_ids o ≡ Some (text s))
string_there None h = absurd cc
string_there (Some null) h = absurd cc
string_there (Some (boolean b)) h = absurd cc
string_there (Some (whole z)) h = absurd cc
string_there (Some (text s)) h = (s, refl, refl)
string_there (Some (list ds)) h = absurd cc
string_there (Some (object ms)) h = absurd cc
string_there (Some (id s z)) h = absurd cc

-- ---- the members of a message

-- The member of this name, with each id as an integer.
abbrev pub found : Sent → List ℕ → Option Doc
found m k = get_member k (members_in m)

found_is : (m : Sent) (k : List ℕ) → found m k ≡ option_map without_ids (get k m.doc)
found_is m k = found_in k (without_ids m.doc) ∙ get_without k m.doc

-- The value is this integer, and this boolean.
abbrev pub IsInteger : Option Doc → Option ℤ → Type 0
IsInteger o n = (z : ℤ) × (n ≡ Some z) × (o ≡ Some (whole z))

abbrev pub IsFlag : Option Doc → Option Bool → Type 0
IsFlag o f = (b : Bool) × (f ≡ Some b) × (o ≡ Some (boolean b))

-- The members that each message has, by its head.
pub record HasHead (m : Sent) : Type 0 where
  pub kind_is : found m (codes "type") ≡ Some (text (type_name (kind_of m)))
  pub name_is : found m (name_key (kind_of m)) ≡ Some (text (name_of m))
  pub seq_is : found m (codes "seq") ≡ Some (whole (seq_of m))
  pub request_is : is_response m ≡ true
      → IsInteger (found m (codes "request_seq")) (request_seq_of m)
  pub no_request : is_response m ≡ false → request_seq_of m ≡ None
  pub success_is : is_response m ≡ true → IsFlag (found m (codes "success")) (success_of m)
  pub no_success : is_response m ≡ false → success_of m ≡ None

pub has_head : (m : Sent) → has_envelope m.doc ≡ true → HasHead m
unfolding kind_of name_of seq_of request_seq_of success_of
has_head m h =
    let d = m.doc in
    let found_kind = has_members d h in
    let is : envelope.kind_of d ≡ found_kind.0 = kind_is found_kind.0 d found_kind.1.of_kind in
    let has : HasMembers d (envelope.kind_of d) = subst (HasMembers d) (sym is) found_kind.1 in
    let n = string_there (get (name_key (envelope.kind_of d)) d) has.named in
    let s = number_there (get (codes "seq") d)
    (and_left (is_some (envelope.seq_of d)) _ h) in
    let answers = of_response (envelope.kind_of d) d has.of_kind in
    record {
      kind_is = found_is m (codes "type")
          ∙ ap (option_map without_ids) (type_is (envelope.kind_of d) d has.of_kind);
      name_is = found_is m (name_key (envelope.kind_of d)) ∙ n.2
          ∙ ap (λ o. Some (text (unwrap_or o []))) (sym n.1);
      seq_is = found_is m (codes "seq") ∙ s.2
          ∙ ap (λ o. Some (whole (unwrap_or o (pos 0)))) (sym s.1);
      request_is = λ yes. let r = number_there (get (codes "request_seq") d) (has.answered yes) in (
        r.0,
        ap (λ b. cond b (id_number (get (codes "request_seq") d)) None) (answers ∙ yes) ∙ r.1,
        found_is m (codes "request_seq") ∙ r.2,
      );
      no_request = λ no.
          ap (λ b. cond b (id_number (get (codes "request_seq") d)) None) (answers ∙ no);
      success_is = λ yes. let r = flag_there (get (codes "success") d) (has.succeeded yes) in (
        r.0,
        ap (λ b. cond b (boolean_value (get (codes "success") d)) None) (answers ∙ yes) ∙ r.1,
        found_is m (codes "success") ∙ r.2,
      );
      no_success = λ no.
          ap (λ b. cond b (boolean_value (get (codes "success") d)) None) (answers ∙ no);
    }
