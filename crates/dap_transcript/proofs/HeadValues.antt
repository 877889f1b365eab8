-- The values of a head in the text of a message.
use Rattle.std.proofs.Common.{◌≡◌, ℕ, ℤ, Bool, true, false, ◌&&◌, List, ◌∷◌, Option, Some}
use Rattle.std.proofs.Common.{None, Ordering, Less, Equal, Greater, Ok, pos, negsuc, arith}
use Rattle.std.proofs.Common.{refl, sym, ap, ◌∙◌, option_map, w64, ◌<◌, ◌^◌, suc, neg_ℤ}
use Rattle.std.specs.Prelude.{unwrap_or}
use Rattle.std.specs.Borrow.{Bor}
use Rattle.std.specs.{Str.Parse.ParsesSigned}
use Rattle.std.specs.Cmp.Lexicographic.{slice_cmp}
use Rattle.std.specs.Ordering.{match_ordering, nat_cmp}
use Rattle.std.specs.Fmt.{decimal}
use Rattle.std.proofs.lemmas.Bool.{ltb-true}
use Rattle.std.proofs.lemmas.Fmt.{decimal_is_IsNumeral}
use Rattle.std.proofs.lemmas.Str.Parse.{numerals_by_value, parse_signed_digits, parse_signed_minus}
use Rattle.std.proofs.lemmas.Str.Parse.{tells_digits}
use Rattle.serde_json.specs.Written.{compact_text}
use Rattle.json.specs.Print.{escape_byte}
use Rattle.dap_tree.specs.Doc.{Doc, null, boolean, whole, text, list, object, id, Members}
use Rattle.dap_tree.specs.Doc.{no_members, member, as_object, get_member, all_plain, members_plain}
use Rattle.dap_tree.specs.Doc.{in_range}
use Rattle.dap_tree.specs.{Ids.without_ids, Json.{text_of}}
use Rattle.dap_tree.proofs.Booleans.{and_left, and_right}
use Rattle.dap_tree.proofs.WithoutIds.{data-without}
use Rattle.dap_profile.specs.declared.profile.Kind.{Kind}
use Rattle.dap_profile.specs.declared.profile.Kind.TheVariants.{Request, Response, Event}
use Rattle.dap_message.specs.{Message.Sent, Rows.type_name}
use Rattle.dap_transcript.specs.{Heads.{later_text, value_among}, Transcript.members_in}

-- ---- values

-- The value that was found under a name is the text of the member of this name.
pub value_there : (found : Option (Bor (List ℕ))) (value : Bor (List ℕ)) (key : List ℕ)
    (ms : Members) (d : Doc) → found ≡ Some value
    → value_among found key no_members ≡ value_among None key ms → get_member key ms ≡ Some d
    → value.now ≡ text_of d
value_there found value key ms d was h is =
    let same : Some value.now ≡ Some (text_of d) =
    ap (λ o. value_among o key no_members) (sym was) ∙ h ∙ ap (option_map text_of) is in
    cc

pub one_kind : (k l : Kind) → text_of (text (type_name k)) ≡ text_of (text (type_name l)) → k ≡ l
unfolding escape_byte
one_kind Request Request h = refl
one_kind Request Response h = absurd cc
one_kind Request Event h = absurd cc
one_kind Response Request h = absurd cc
one_kind Response Response h = refl
one_kind Response Event h = absurd cc
one_kind Event Request h = absurd cc
one_kind Event Response h = absurd cc
one_kind Event Event h = refl

pub one_flag : (a b : Bool) → text_of (boolean a) ≡ text_of (boolean b) → a ≡ b
one_flag true true h = refl
one_flag true false h = absurd cc
one_flag false true h = absurd cc
one_flag false false h = refl

-- ---- numbers

pub number_read : (z v : ℤ) → in_range z ≡ true
    → ParsesSigned {E = Unit {0}} w64 10 (text_of (whole z)) (Ok v) → v ≡ z
number_read (pos n) v fits h =
    let small : n < 2 ^ 64 = ltb-true n (2 ^ 64) fits in
    let k = decimal_is_IsNumeral n small in
    let read = parse_signed_digits (numerals_by_value _ tells_digits) {E = Unit {0}} w64
    (decimal n) (Ok v) h k.0.1 in
    read.1 ∙ ap pos k.1
number_read (negsuc n) v fits h =
    let small : n < 2 ^ 63 = ltb-true n (2 ^ 63) fits in
    let k = decimal_is_IsNumeral (suc n) (omega arith) in
    let read = parse_signed_minus (numerals_by_value _ tells_digits) {E = Unit {0}} w64
    (45 ∷ decimal (suc n)) (Ok v) h refl in
    read.1 ∙ ap (λ m. neg_ℤ (pos m)) k.1

plain_at : (o : Ordering) (z : ℤ) (k : List ℕ) (d : Doc) (ms : Members)
    → (all_plain d && members_plain ms) ≡ true
    → (get_member k ms ≡ Some (whole z) → in_range z ≡ true)
    → match_ordering o (get_member k ms) (Some d) (get_member k ms) ≡ Some (whole z)
    → in_range z ≡ true
plain_at Less z k d ms h later is = later is
plain_at Equal z k d ms h later is =
    let same : d ≡ whole z = cc in
    sym (ap all_plain same) ∙ and_left (all_plain d) (members_plain ms) h
plain_at Greater z k d ms h later is = later is

plain_member : (z : ℤ) (k : List ℕ) (ms : Members) → members_plain ms ≡ true
    → get_member k ms ≡ Some (whole z) → in_range z ≡ true
plain_member z k no_members h is = absurd cc
plain_member z k (member l d ms) h is =
    plain_at (slice_cmp nat_cmp k l) z k d ms h
    (plain_member z k ms (and_right (all_plain d) (members_plain ms) h)) is

pub plain_number : (z : ℤ) (k : List ℕ) (d : Doc) → all_plain d ≡ true
    → get_member k (unwrap_or (as_object d) no_members) ≡ Some (whole z) → in_range z ≡ true
plain_number z k null h is = absurd cc
plain_number z k (boolean b) h is = absurd cc
plain_number z k (whole n) h is = absurd cc
plain_number z k (text s) h is = absurd cc
plain_number z k (list ds) h is = absurd cc
plain_number z k (object ms) h is = plain_member z k ms h is
plain_number z k (id s n) h is = absurd cc

-- ---- the text of a message

has_members : (k : List ℕ) (e d : Doc)
    → get_member k (unwrap_or (as_object d) no_members) ≡ Some e
    → d ≡ object (unwrap_or (as_object d) no_members)
has_members k e null is = absurd cc
has_members k e (boolean b) is = absurd cc
has_members k e (whole n) is = absurd cc
has_members k e (text s) is = absurd cc
has_members k e (list ds) is = absurd cc
has_members k e (object ms) is = refl
has_members k e (id s n) is = absurd cc

-- The text of a message that has a member is that of its members.
pub text_of_members : (m : Sent) (k : List ℕ) (e : Doc) → get_member k (members_in m) ≡ Some e
    → text_of m.doc ≡ 123 ∷ later_text false (members_in m)
text_of_members m k e is =
    sym (ap compact_text (data-without m.doc)) ∙ ap text_of (has_members k e (without_ids m.doc) is)
