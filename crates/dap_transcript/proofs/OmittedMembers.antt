-- The members of a message are determined by its head and by the members that are written.
use Rattle.std.proofs.Common.{◌≡◌, ℕ, ℤ, Bool, true, false, ◌&&◌, ◌||◌, List}
use Rattle.std.proofs.Common.{Option, Some, None, refl, sym, ap, ap₂, ◌∙◌, subst, codes}
use Rattle.std.proofs.Common.{bytes_eq}
use Rattle.std.proofs.lemmas.Bool.Decides.{Decides-int_eq}
use Rattle.std.proofs.lemmas.Slice.Eq.{bytes_eq-Decides}
use Rattle.dap_tree.specs.Doc.{Doc, boolean, whole, text, get_member}
use Rattle.dap_tree.specs.Ids.{without_ids}
use Rattle.dap_tree.proofs.Booleans.{and_right}
use Rattle.dap_profile.specs.declared.profile.Kind.{Kind}
use Rattle.dap_profile.specs.declared.profile.Kind.TheVariants.{Request, Response, Event}
use Rattle.dap_message.specs.{Message.Sent, Rows.{name_key, type_name}}
use Rattle.dap_message.proofs.Edits.{by_bool}
use Rattle.dap_session.specs.Messages.{is_response, is_yes, kind_of, name_of, other}
use Rattle.dap_session.specs.Messages.{request_seq_of, same_kind, seq_of, side_of, success_of}
use Rattle.dap_transcript.specs.Expected.{expected_request, expected_seq, oldest_open}
use Rattle.dap_transcript.specs.Names.{member_name}
use Rattle.dap_transcript.specs.Transcript.{has_expected_request, has_expected_seq, is_omitted}
use Rattle.dap_transcript.specs.Transcript.{members_in, same_number, written}
use Rattle.dap_transcript.proofs.FoundMembers.{by_name, ordered_in, same_by_names, some_none}
use Rattle.dap_transcript.proofs.FoundWritten.{found_written, unless}
use Rattle.dap_transcript.proofs.MessageHeads.{found, HasContent, HasHead}
use Rattle.dap_transcript.proofs.RecordLists.{omits_by}

-- ---- which members are omitted

or_none : (b : Bool) → (b || false) ≡ b
or_none true = refl
or_none false = refl

omits_seq : (kind : Kind) (s r y : Bool) → omits_by kind s r y (codes "seq") ≡ s
omits_seq Request s r y = or_none s
omits_seq Response s r y = or_none s
omits_seq Event s r y = or_none s

omits_request : (kind : Kind) (s r y : Bool) → omits_by kind s r y (codes "request_seq") ≡ r
omits_request Request s r y = or_none r
omits_request Response s r y = or_none r
omits_request Event s r y = or_none r

omits_success : (kind : Kind) (s r y : Bool) → omits_by kind s r y (codes "success") ≡ y
omits_success Request s r y = refl
omits_success Response s r y = refl
omits_success Event s r y = refl

different : (k l : List ℕ) → (k ≡ l → ⊥) → bytes_eq k l ≡ false
different k l other =
    by_bool (bytes_eq k l) (λ e. absurd (other ((bytes_eq-Decides k l).0 e))) (λ e. e)

abbrev Differs : Kind → List ℕ → Type 0
Differs kind k =
    (bytes_eq k (codes "type") ≡ false) × (bytes_eq k (name_key kind) ≡ false)
    × (bytes_eq k (codes "seq") ≡ false) × (bytes_eq k (codes "request_seq") ≡ false)
    × (bytes_eq k (codes "success") ≡ false)

omits_none : (kind : Kind) (s r y : Bool) (k : List ℕ) → Differs kind k
    → omits_by kind s r y k ≡ false
omits_none kind s r y k (a, b, c, d, e) = rw (a, b, c, d, e) refl

-- ---- one member

abbrev IsThere : Option Doc → Type 0
IsThere o = (d : Doc) × (o ≡ Some d)

-- A member that both messages have is omitted in both or in none of them.
agree_by : (a b : Bool) (x y : Option Doc) → IsThere x → IsThere y → unless a x ≡ unless b y
    → (a ≡ true → b ≡ true → x ≡ y) → x ≡ y
agree_by true true x y p q h both = both refl refl
agree_by true false x y p q h both = some_none y q.0 q.1 (sym h)
agree_by false true x y p q h both = some_none x p.0 p.1 h
agree_by false false x y p q h both = h

agree : (a b c d : Bool) (x y : Option Doc) → c ≡ a → d ≡ b → IsThere x → IsThere y
    → unless c x ≡ unless d y → (a ≡ true → b ≡ true → x ≡ y) → x ≡ y
agree a b c d x y is has p q h both =
    agree_by a b x y p q
    (ap (λ e. unless e x) (sym is) ∙ h ∙ ap (λ e. unless e y) has) both

agree_none : (c d : Bool) (x y : Option Doc) → c ≡ false → d ≡ false
    → unless c x ≡ unless d y → x ≡ y
agree_none c d x y p q h =
    ap (λ e. unless e x) (sym p) ∙ h ∙ ap (λ e. unless e y) q

same_integer : (x y : Option Doc) (i j : ℤ) → x ≡ Some (whole i) → y ≡ Some (whole j) → i ≡ j
    → x ≡ y
same_integer x y i j p q h = p ∙ ap (λ z. Some (whole z)) h ∙ sym q

-- The number is the expected one.
number_is : (n : Option ℤ) (o : Option ℤ) (z : ℤ) → n ≡ Some z → same_number n o ≡ true
    → o ≡ Some z
number_is n None z is h = let no : same_number (Some z) None ≡ true =
    ap (λ x. same_number x None) (sym is) ∙ h in absurd cc
number_is n (Some k) z is h =
    let same : same_number (Some z) (Some k) ≡ true =
    ap (λ x. same_number x (Some k)) (sym is) ∙ h in
    ap Some ((Decides-int_eq k z).0 same)

some_number : (i j : ℤ) → Some i ≡ Some j → i ≡ j
some_number i j h = cc

-- ---- two messages with one head

-- The messages have the same side, kind and name.
pub record AreAlike (m n : Sent) : Type 0 where
  pub side : side_of m ≡ side_of n
  pub kind : kind_of m ≡ kind_of n
  pub name : name_of m ≡ name_of n

module _ (before : List Sent) (m n : Sent) (a : HasHead m) (b : HasHead n) (alike : AreAlike m n)
  where
    abbrev Agree : List ℕ → Type 0
    Agree k =
        unless (is_omitted before m k) (found m k) ≡ unless (is_omitted before n k) (found n k)

    same_type : found m (codes "type") ≡ found n (codes "type")
    same_type = a.kind_is ∙ ap (λ k. Some (text (type_name k))) alike.kind ∙ sym b.kind_is

    same_name : found m (name_key (kind_of m)) ≡ found n (name_key (kind_of m))
    same_name =
        a.name_is ∙ ap (λ s. Some (text s)) alike.name ∙ sym b.name_is
        ∙ ap (λ k. found n (name_key k)) (sym alike.kind)

    expected_is : expected_seq before (side_of m) ≡ expected_seq before (side_of n)
    expected_is = ap (expected_seq before) alike.side

    same_seq : Agree (codes "seq") → found m (codes "seq") ≡ found n (codes "seq")
    same_seq h =
        agree (has_expected_seq before m) (has_expected_seq before n)
        (is_omitted before m (codes "seq")) (is_omitted before n (codes "seq")) _ _
        (omits_seq (kind_of m) (has_expected_seq before m) (has_expected_request before m)
        (is_yes (success_of m)))
        (omits_seq (kind_of n) (has_expected_seq before n) (has_expected_request before n)
        (is_yes (success_of n)))
        (whole (seq_of m), a.seq_is) (whole (seq_of n), b.seq_is) h
        (λ p q. same_integer _ _ (seq_of m) (seq_of n) a.seq_is b.seq_is
        ((Decides-int_eq (seq_of m) (expected_seq before (side_of m))).0 p ∙ expected_is
        ∙ sym ((Decides-int_eq (seq_of n) (expected_seq before (side_of n))).0 q)))

    expected_request_is : expected_request before m ≡ expected_request before n
    expected_request_is =
        ap₂ (λ side name. oldest_open (other side) name before) alike.side alike.name

    answers_is : is_response m ≡ is_response n
    answers_is = ap (same_kind Response) alike.kind

    omits_request_m : is_omitted before m (codes "request_seq") ≡ has_expected_request before m
    omits_request_m =
        omits_request (kind_of m) (has_expected_seq before m) (has_expected_request before m)
        (is_yes (success_of m))

    omits_request_n : is_omitted before n (codes "request_seq") ≡ has_expected_request before n
    omits_request_n =
        omits_request (kind_of n) (has_expected_seq before n) (has_expected_request before n)
        (is_yes (success_of n))

    same_request : Agree (codes "request_seq")
        → found m (codes "request_seq") ≡ found n (codes "request_seq")
    same_request h =
        by_bool (is_response m)
        (λ yes.
        let r = a.request_is yes in
        let s = b.request_is (sym answers_is ∙ yes) in
        agree (has_expected_request before m) (has_expected_request before n)
        (is_omitted before m (codes "request_seq")) (is_omitted before n (codes "request_seq")) _ _
        omits_request_m omits_request_n
        (whole r.0, r.2) (whole s.0, s.2) h
        (λ p q. same_integer _ _ r.0 s.0 r.2 s.2 (some_number r.0 s.0
        (sym (number_is (request_seq_of m) (expected_request before m) r.0 r.1
        (and_right (is_response m) _ p)) ∙ expected_request_is
        ∙ number_is (request_seq_of n) (expected_request before n) s.0 s.1
        (and_right (is_response n) _ q)))))
        (λ no.
        agree_none (is_omitted before m (codes "request_seq"))
        (is_omitted before n (codes "request_seq")) _ _
        (omits_request_m
        ∙ ap (λ c. c && same_number (request_seq_of m) (expected_request before m)) no)
        (omits_request_n
        ∙ ap (λ c. c && same_number (request_seq_of n) (expected_request before n))
        (sym answers_is ∙ no)) h)

    omits_success_m : is_omitted before m (codes "success") ≡ is_yes (success_of m)
    omits_success_m =
        omits_success (kind_of m) (has_expected_seq before m) (has_expected_request before m)
        (is_yes (success_of m))

    omits_success_n : is_omitted before n (codes "success") ≡ is_yes (success_of n)
    omits_success_n =
        omits_success (kind_of n) (has_expected_seq before n) (has_expected_request before n)
        (is_yes (success_of n))

    same_success : Agree (codes "success") → found m (codes "success") ≡ found n (codes "success")
    same_success h =
        by_bool (is_response m)
        (λ yes.
        let r = a.success_is yes in
        let s = b.success_is (sym answers_is ∙ yes) in
        agree (is_yes (success_of m)) (is_yes (success_of n))
        (is_omitted before m (codes "success")) (is_omitted before n (codes "success")) _ _
        omits_success_m omits_success_n
        (boolean r.0, r.2) (boolean s.0, s.2) h
        (λ p q. r.2 ∙ ap (λ f. Some (boolean f))
        (sym (ap is_yes r.1) ∙ p ∙ sym q ∙ ap is_yes s.1) ∙ sym s.2))
        (λ no.
        agree_none (is_omitted before m (codes "success"))
        (is_omitted before n (codes "success")) _ _
        (omits_success_m ∙ ap is_yes (a.no_success no))
        (omits_success_n ∙ ap is_yes (b.no_success (sym answers_is ∙ no))) h)

    same_other : (k : List ℕ) → Differs (kind_of m) k → Agree k → found m k ≡ found n k
    same_other k other h =
        agree_none (is_omitted before m k) (is_omitted before n k) _ _
        (omits_none (kind_of m) (has_expected_seq before m) (has_expected_request before m)
        (is_yes (success_of m)) k other)
        (omits_none (kind_of n) (has_expected_seq before n) (has_expected_request before n)
        (is_yes (success_of n)) k (subst (λ kind. Differs kind k) alike.kind other)) h

    abbrev Same : List ℕ → Type 0
    Same k = found m k ≡ found n k

    -- A member of any name is the same in both messages.
    same_found : ((k : List ℕ) → Agree k) → (k : List ℕ) → Same k
    same_found h k =
        by_name k (codes "type") (λ e. subst Same (sym e) same_type)
        (λ no_type. by_name k (name_key (kind_of m)) (λ e. subst Same (sym e) same_name)
        (λ no_name. by_name k (codes "seq") (λ e. subst Same (sym e) (same_seq (h (codes "seq"))))
        (λ no_seq. by_name k (codes "request_seq")
        (λ e. subst Same (sym e) (same_request (h (codes "request_seq"))))
        (λ no_request. by_name k (codes "success")
        (λ e. subst Same (sym e) (same_success (h (codes "success"))))
        (λ no_success. same_other k (
          different k (codes "type") no_type,
          different k (name_key (kind_of m)) no_name,
          different k (codes "seq") no_seq,
          different k (codes "request_seq") no_request,
          different k (codes "success") no_success,
        ) (h k))))))

-- Messages with one head and the same written members after the same messages have the same
-- members.
pub same_members_in : (before : List Sent) (m n : Sent) → HasContent m → HasContent n → HasHead m
    → HasHead n → AreAlike m n
    → written (is_omitted before m) (members_in m) ≡ written (is_omitted before n) (members_in n)
    → members_in m ≡ members_in n
same_members_in before m n c d a b alike h =
    same_by_names (members_in m) (members_in n) (ordered_in (without_ids m.doc) c.ordered)
    (ordered_in (without_ids n.doc) d.ordered)
    (same_found before m n a b alike
    (λ k. sym (found_written (is_omitted before m) (members_in m) k)
    ∙ ap (get_member (member_name k)) h
    ∙ found_written (is_omitted before n) (members_in n) k))
