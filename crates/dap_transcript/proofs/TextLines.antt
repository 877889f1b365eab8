-- The lines of the values of canonical texts.
use Rattle.std.proofs.Common.{◌≡◌, ℕ, ◌+◌, ◌<◌, ◌≤◌, ◌-◌, ◌/◌, ◌%◌, zero, suc, List, [], ◌∷◌}
use Rattle.std.proofs.Common.{◌++◌, Bool, true, false, cond, ℤ, pos, negsuc, Option, Some, None}
use Rattle.std.proofs.Common.{eqb}
use Rattle.std.proofs.Common.{refl, sym, ◌∙◌, ap, ap₂, arith, codes, append_assoc, append-nil}
use Rattle.std.proofs.Common.{decimal, drop, get_or, length, replicate, take, inl, inr}
use Rattle.std.specs.{Borrow.Bor, Option.{MatchOption, is_some}}
use Rattle.std.specs.Fmt.{digit_glyph, digits, digits_onto}
use Rattle.std.proofs.lemmas.Bool.{cases_Bool}
use Rattle.std.proofs.lemmas.Bool.Decides.{nat_tests}
use Rattle.std.proofs.lemmas.List.{take-replicate, take_all}
use Rattle.std.specs.List.{slice_range}
use Rattle.serde_json.specs.{Find.of_integer, Written.number_text}
use Rattle.dap_tree.specs.Doc.{Doc, null, boolean, whole, text, list, object, id, Items, no_items}
use Rattle.dap_tree.specs.Doc.{item, Members, no_members, member}
use Rattle.dap_tree.specs.Json.{text_of}
use Rattle.dap_transcript.specs.{Canonical.ends_value, Names.name_text}
use Rattle.dap_transcript.specs.Lines.{item_lines, list_margin, margin}
use Rattle.dap_transcript.specs.Lines.{member_lines, object_start, part_text}
use Rattle.dap_transcript.specs.Walk.{PushesItem, PushesItems, PushesList, PushesMember}
use Rattle.dap_transcript.specs.Walk.{PushesMembers, PushesNamed, PushesObject, PushesPart}
use Rattle.dap_transcript.specs.Walk.{PushesString, StartsWithName, StartsWithPlain}
use Rattle.dap_transcript.specs.Walk.{elements_text, entries_text, item_text, member_text}

-- ---- the first byte of a value

abbrev StartsNumber : List ℕ → Type 0
StartsNumber s = (b : ℕ) × ((t : List ℕ) × (s ≡ b ∷ t) × (44 < b) × (b < 58))

glyph_low : (n : ℕ) → 44 < digit_glyph false (n % 10)
glyph_low n = grind (arith, nat_tests)

glyph_high : (n : ℕ) → digit_glyph false (n % 10) < 58
glyph_high n = grind (arith, nat_tests)

glyph_start : (n : ℕ) (after : List ℕ) → StartsNumber (digit_glyph false (n % 10) ∷ after)
glyph_start n after =
    (digit_glyph false (n % 10), (after, refl, glyph_low n, glyph_high n))

digits_start : (k n : ℕ) (after : List ℕ) → StartsNumber (digits_onto (suc k) 10 false n after)
digits_start zero n after = elim (cases_Bool (eqb (n / 10) 0)) [
  | inl last ↦ simp last (glyph_start n after)
  | inr more ↦ simp more (glyph_start n after)
]
digits_start (suc k) n after = elim (cases_Bool (eqb (n / 10) 0)) [
  | inl last ↦ simp last (glyph_start n after)
  | inr more ↦ simp more (digits_start k (n / 10) (digit_glyph false (n % 10) ∷ after))
]

decimal_start : (n : ℕ) → StartsNumber (decimal n)
unfolding digits
decimal_start n = digits_start 63 n []

number_start : (z : ℤ) → StartsNumber (number_text (of_integer z))
number_start (pos n) = decimal_start n
number_start (negsuc n) = (45, (decimal (suc n), refl, omega arith, omega arith))

number_first : (z : ℤ) (s t : List ℕ) (b : ℕ) → number_text (of_integer z) ++ s ≡ b ∷ t
    → (44 < b) × (b < 58)
number_first z s t b h =
    let start = number_start z in
    let same = ap (λ r. get_or (r ++ s) 0 0) (sym start.1.1) ∙ ap (λ r. get_or r 0 0) h in
    (omega (arith, same, start.1.2), omega (arith, same, start.1.3))

no_number : {P : Type 0} (z : ℤ) (s t : List ℕ) (b : ℕ) → number_text (of_integer z) ++ s ≡ b ∷ t
    → 57 < b → P
no_number z s t b h high = absurd (omega (arith, (number_first z s t b h).1))

other_first : {P : Type 0} (a b : ℕ) (s t : List ℕ) → a ∷ s ≡ b ∷ t → (a ≡ b → ⊥) → P
other_first a b s t h other = absurd (other (ap (λ r. get_or r 0 0) h))

-- No value starts with a byte that ends one.
no_end : (d : Doc) (s t : List ℕ) (b : ℕ) → text_of d ++ s ≡ b ∷ t
    → ends_value (b ∷ t) ≡ true → ⊥
no_end null s t b h end = other_first 110 b _ t h (λ e. grind (arith, nat_tests))
no_end (boolean true) s t b h end = other_first 116 b _ t h (λ e. grind (arith, nat_tests))
no_end (boolean false) s t b h end = other_first 102 b _ t h (λ e. grind (arith, nat_tests))
no_end (whole z) s t b h end =
    let within = number_first z s t b h in
    grind (arith, nat_tests, within.0, within.1)
no_end (text r) s t b h end = other_first 34 b _ t h (λ e. grind (arith, nat_tests))
no_end (list ds) s t b h end = other_first 91 b _ t h (λ e. grind (arith, nat_tests))
no_end (object ms) s t b h end = other_first 123 b _ t h (λ e. grind (arith, nat_tests))
no_end (id k z) s t b h end =
    let within = number_first z s t b h in
    grind (arith, nat_tests, within.0, within.1)

pub object_first : (d : Doc) (s inside : List ℕ) → text_of d ++ s ≡ 123 ∷ inside
    → (ms : Members) × (d ≡ object ms) × (inside ≡ entries_text false ms ++ s)
object_first null s t h = other_first 110 123 _ t h (λ e. omega arith)
object_first (boolean true) s t h = other_first 116 123 _ t h (λ e. omega arith)
object_first (boolean false) s t h = other_first 102 123 _ t h (λ e. omega arith)
object_first (whole z) s t h = no_number z s t 123 h (omega arith)
object_first (text r) s t h = other_first 34 123 _ t h (λ e. omega arith)
object_first (list ds) s t h = other_first 91 123 _ t h (λ e. omega arith)
object_first (object ms) s t h = (ms, refl, sym (ap (drop 1) h))
object_first (id k z) s t h = no_number z s t 123 h (omega arith)

list_first : (d : Doc) (s inside : List ℕ) → text_of d ++ s ≡ 91 ∷ inside
    → (ds : Items) × (d ≡ list ds) × (inside ≡ elements_text false ds ++ s)
list_first null s t h = other_first 110 91 _ t h (λ e. omega arith)
list_first (boolean true) s t h = other_first 116 91 _ t h (λ e. omega arith)
list_first (boolean false) s t h = other_first 102 91 _ t h (λ e. omega arith)
list_first (whole z) s t h = no_number z s t 91 h (omega arith)
list_first (text r) s t h = other_first 34 91 _ t h (λ e. omega arith)
list_first (list ds) s t h = (ds, refl, sym (ap (drop 1) h))
list_first (object ms) s t h = other_first 123 91 _ t h (λ e. omega arith)
list_first (id k z) s t h = no_number z s t 91 h (omega arith)

no_quote : {P : Type 0} (z : ℤ) (s t : List ℕ) → number_text (of_integer z) ++ s ≡ 34 ∷ t → P
no_quote z s t h = absurd (omega (arith, (number_first z s t 34 h).0))

string_first : (d : Doc) (s inside : List ℕ) → text_of d ++ s ≡ 34 ∷ inside
    → (r : List ℕ) × (d ≡ text r)
string_first null s t h = other_first 110 34 _ t h (λ e. omega arith)
string_first (boolean true) s t h = other_first 116 34 _ t h (λ e. omega arith)
string_first (boolean false) s t h = other_first 102 34 _ t h (λ e. omega arith)
string_first (whole z) s t h = no_quote z s t h
string_first (text r) s t h = (r, refl)
string_first (list ds) s t h = other_first 91 34 _ t h (λ e. omega arith)
string_first (object ms) s t h = other_first 123 34 _ t h (λ e. omega arith)
string_first (id k z) s t h = no_quote z s t h

abbrev pub NotAt : List ℕ → ℕ → Type 0
NotAt s b = (inside : List ℕ) → s ≡ b ∷ inside → ⊥

pub found_byte : (o : Option (Bor (List ℕ))) (s : List ℕ) (b : ℕ)
    → MatchOption o (NotAt s b) (λ rest. s ≡ b ∷ rest.now) → is_some o ≡ true
    → (inside : List ℕ) × (s ≡ b ∷ inside)
found_byte None s b h there = absurd (cc)
found_byte (Some rest) s b h there = (rest.now, h)

pub other_byte : (o : Option (Bor (List ℕ))) (s : List ℕ) (b : ℕ)
    → MatchOption o (NotAt s b) (λ rest. s ≡ b ∷ rest.now) → is_some o ≡ false → NotAt s b
other_byte None s b h there = h
other_byte (Some rest) s b h there = absurd (cc)

-- ---- lines that are appended

pub blanks_added : (old : List ℕ) (n len : ℕ) → n ≡ length old + len
    → take n old ++ replicate (n - length old) 32 ≡ old ++ margin len
blanks_added old n len is =
    let more : n - length old ≡ len = omega arith in
    ap₂ (λ (xs : List ℕ) (k : ℕ). xs ++ margin k) (take_all n old (omega (arith, is))) more

pub few_blanks : (len : ℕ) → len ≤ 32 → slice_range (replicate 32 32) 0 len ≡ margin len
few_blanks len few =
    let all : len - 0 ≡ len = omega arith in
    let blanks : List ℕ = replicate 32 32 in
    ap (λ n. take n blanks) all ∙ take-replicate len 32 32 few

joined : (old mid new a b : List ℕ) → mid ≡ old ++ a → new ≡ mid ++ b → new ≡ old ++ (a ++ b)
joined old mid new a b one two = two ∙ ap (λ t. t ++ b) one ∙ append_assoc old a b

-- ---- values

module _ (named : Bool) (n : ℕ) (s inside rest old new : List ℕ) where
  pub object_pushed : s ≡ 123 ∷ inside → PushesObject named n inside rest old new
      → PushesPart named n s rest old new
  object_pushed is pushed d more h =
      let found = object_first d more inside (sym h.0 ∙ is) in
      let part = pushed found.0 more found.2 in
      (part.0 ∙ ap (λ e. old ++ part_text named n e) (sym found.1), part.1)

  pub list_pushed : s ≡ 91 ∷ inside → PushesList named n inside rest old new
      → PushesPart named n s rest old new
  list_pushed is pushed d more h =
      let found = list_first d more inside (sym h.0 ∙ is) in
      let part = pushed found.0 more found.2 in
      (part.0 ∙ ap (λ e. old ++ part_text named n e) (sym found.1), part.1)

  pub string_pushed : s ≡ 34 ∷ inside → PushesString s rest old new
      → PushesPart named n s rest old new
  string_pushed is pushed d more h =
      let found = string_first d more inside (sym h.0 ∙ is) in
      let part = pushed found.0 more (h.0 ∙ ap (λ e. text_of e ++ more) found.1) in
      (part.0 ∙ ap (λ e. old ++ part_text named n e) (sym found.1), part.1)

-- ---- a list and an object

module _ (named : Bool) (n : ℕ) (s rest old : List ℕ) where
  pub no_items_pushed : (new : List ℕ) → s ≡ 93 ∷ rest → new ≡ old ++ codes " []\n"
      → PushesList named n s rest old new
  no_items_pushed new is pushed no_items more h = (pushed, ap (drop 1) (sym is ∙ h))
  no_items_pushed new is pushed (item d ds) more h =
      absurd (no_end d _ rest 93
      (sym (append_assoc (text_of d) (elements_text true ds) more) ∙ sym h ∙ is) refl)

  pub items_pushed : (mid new : List ℕ) (len : ℕ) → NotAt s 93 → mid ≡ old ++ 10 ∷ []
      → len ≡ list_margin named n → PushesItems len s rest mid new
      → PushesList named n s rest old new
  items_pushed mid new len some begun is pushed no_items more h = absurd (some more h)
  items_pushed mid new len some begun is pushed (item d ds) more h =
      let part = pushed d ds more h in (
        joined old mid new (10 ∷ []) (item_lines len (item d ds)) begun part.0
            ∙ ap (λ m. old ++ (10 ∷ [] ++ item_lines m (item d ds))) is,
        part.1,
      )

  pub no_members_pushed : (new : List ℕ) → s ≡ 125 ∷ rest → new ≡ old ++ codes " {}\n"
      → PushesObject named n s rest old new
  no_members_pushed new is pushed no_members more h = (pushed, ap (drop 1) (sym is ∙ h))
  no_members_pushed new is pushed (member k d ms) more h =
      other_first 34 125 _ rest (sym h ∙ is) (λ e. omega arith)

  pub members_pushed : (mid new : List ℕ) (first len : ℕ) → NotAt s 125
      → mid ≡ old ++ cond named (codes "\n") (codes " ") → len ≡ n + 2 → first ≡ cond named len 0
      → PushesMembers first len s rest mid new → PushesObject named n s rest old new
  members_pushed mid new first len some begun is from pushed no_members more h =
      absurd (some more h)
  members_pushed mid new first len some begun is from pushed (member k d ms) more h =
      let all = member k d ms in
      let part = pushed k d ms more h in (
        joined old mid new (object_start named all) (member_lines first len all) begun part.0
            ∙ ap (λ f. old ++ (object_start named all ++ member_lines f len all)) from
            ∙ ap (λ m. old ++ (object_start named all ++ member_lines (cond named m 0) m all)) is,
        part.1,
      )

-- ---- the items of a list

pub apart : {P : Type 0} (a b : ℕ) (s t u : List ℕ) → s ≡ a ∷ t → s ≡ b ∷ u → (a ≡ b → ⊥) → P
apart a b s t u one two other = other_first a b t u (sym one ∙ two) other

same_rest : (b : ℕ) (s t u : List ℕ) → s ≡ b ∷ t → s ≡ b ∷ u → t ≡ u
same_rest b s t u one two = ap (drop 1) (sym one ∙ two)

module _ (n : ℕ) (s after rest old mid : List ℕ) where
  pub item_then : (next new : List ℕ) → PushesItem n s after old mid → after ≡ 44 ∷ next
      → PushesItems n next rest mid new → PushesItems n s rest old new
  item_then next new pushed is later d no_items more h =
      let one = pushed d (93 ∷ more) (h ∙ append_assoc (text_of d) (93 ∷ []) more, refl) in
      apart 44 93 after next more is one.1 (λ e. omega arith)
  item_then next new pushed is later d (item e ds) more h =
      let all = elements_text true (item e ds) in
      let one = pushed d (all ++ more) (h ∙ append_assoc (text_of d) all more, refl) in
      let two = later e ds more (same_rest 44 after next _ is one.1) in
      (joined old mid new (item_text n d) (item_lines n (item e ds)) one.0 two.0, two.1)

  pub item_last : PushesItem n s after old mid → after ≡ 93 ∷ rest → PushesItems n s rest old mid
  item_last pushed is d no_items more h =
      let one = pushed d (93 ∷ more) (h ∙ append_assoc (text_of d) (93 ∷ []) more, refl) in (
        one.0 ∙ ap (λ t. old ++ t) (sym (append-nil (item_text n d))),
        same_rest 93 after rest more is one.1,
      )
  item_last pushed is d (item e ds) more h =
      let all = elements_text true (item e ds) in
      let one = pushed d (all ++ more) (h ∙ append_assoc (text_of d) all more, refl) in
      apart 93 44 after rest _ is one.1 (λ e. omega arith)

-- ---- the members of an object

-- The text of a member and of what follows it.
pub entry_parts : (k : List ℕ) (d : Doc) (ms : Members) (more : List ℕ)
    → entries_text false (member k d ms) ++ more
    ≡ text_of (text k) ++ 58 ∷ (text_of d ++ (entries_text true ms ++ more))
entry_parts k d ms more =
    append_assoc (text_of (text k)) (58 ∷ (text_of d ++ entries_text true ms)) more
    ∙ ap (λ t. text_of (text k) ++ 58 ∷ t) (append_assoc (text_of d) (entries_text true ms) more)

-- What follows a member ends its value.
pub entry_ends : (ms : Members) (more : List ℕ) → ends_value (entries_text true ms ++ more) ≡ true
entry_ends no_members more = refl
entry_ends (member k d ms) more = refl

-- The last member, if a brace follows, and the members that a comma is before.
pub no_entry : (ms : Members) (more after rest : List ℕ) → after ≡ entries_text true ms ++ more
    → after ≡ 125 ∷ rest → (ms ≡ no_members) × (rest ≡ more)
no_entry no_members more after rest h is = (refl, same_rest 125 after rest more is h)
no_entry (member k d ms) more after rest h is =
    apart 125 44 after rest _ is h (λ e. omega arith)

pub record NextEntry (ms : Members) (next more : List ℕ) : Type 0 where
  pub name : List ℕ
  pub value : Doc
  pub others : Members
  pub all : ms ≡ member name value others
  pub starts : next ≡ entries_text false (member name value others) ++ more

pub next_entry : (ms : Members) (more after next : List ℕ) → after ≡ entries_text true ms ++ more
    → after ≡ 44 ∷ next → NextEntry ms next more
next_entry no_members more after next h is = apart 44 125 after next more is h (λ e. omega arith)
next_entry (member k d ms) more after next h is = record {
  name = k;
  value = d;
  others = ms;
  all = refl;
  starts = same_rest 44 after next _ is h;
}

module _ (first n : ℕ) (s after rest old mid : List ℕ) where
  pub member_then : (next new : List ℕ) → PushesMember first n s after old mid → after ≡ 44 ∷ next
      → PushesMembers n n next rest mid new → PushesMembers first n s rest old new
  member_then next new pushed is later k d ms more h =
      let one = pushed k d (entries_text true ms ++ more) (h ∙ entry_parts k d ms more)
      (entry_ends ms more) in
      let entry = next_entry ms more after next one.1 is in
      let two = later entry.name entry.value entry.others more entry.starts in (
        joined old mid new (member_text first n k d) _ one.0 two.0
            ∙ ap (λ l. old ++ (member_text first n k d ++ member_lines n n l)) (sym entry.all),
        two.1,
      )

  pub member_last : PushesMember first n s after old mid → after ≡ 125 ∷ rest
      → PushesMembers first n s rest old mid
  member_last pushed is k d ms more h =
      let one = pushed k d (entries_text true ms ++ more) (h ∙ entry_parts k d ms more)
      (entry_ends ms more) in
      let none = no_entry ms more after rest one.1 is in (
        one.0 ∙ ap (λ t. old ++ t) (sym (append-nil (member_text first n k d)))
            ∙ ap (λ l. old ++ (member_text first n k d ++ member_lines n n l)) (sym none.0),
        none.1,
      )

-- ---- the parts of a member

pub member_pushed : (first n : ℕ) (s name value rest old new : List ℕ)
    → ((k more : List ℕ) → StartsWithName s k more
    → (name ≡ text_of (text k)) × (value ≡ more))
    → PushesNamed first n name value rest old new → PushesMember first n s rest old new
member_pushed first n s name value rest old new split pushed k d more h end =
    let parts = split k (text_of d ++ more) h in
    pushed k d more parts.0 (parts.1, end)

-- The margin, the name, a colon and the value.
pub named_pushed : (first n : ℕ) (k : List ℕ) (d : Doc) (name old one two three new : List ℕ)
    → one ≡ old ++ margin first → two ≡ one ++ name → three ≡ two ++ 58 ∷ []
    → new ≡ three ++ part_text true n d
    → new ≡ old ++ (((margin first ++ name) ++ codes ":") ++ part_text true n d)
named_pushed first n k d name old one two three new blanks written colon value =
    joined old three new ((margin first ++ name) ++ codes ":") (part_text true n d)
    (joined old two three (margin first ++ name) (codes ":")
    (joined old one two (margin first) name blanks written) colon)
    value

pub plain_member_pushed : (first n : ℕ) (s name value rest old one two three new : List ℕ)
    → StartsWithPlain s name value → one ≡ old ++ margin first → two ≡ one ++ name
    → three ≡ two ++ 58 ∷ [] → PushesPart true n value rest three new
    → PushesMember first n s rest old new
plain_member_pushed first n s name value rest old one two three new split blanks written colon
    pushed k d more h end =
    let parts = split k (text_of d ++ more) h in
    let part = pushed d more (parts.1, end) in (
      named_pushed first n k d (name_text k) old one two three new blanks
          (written ∙ ap (λ t. one ++ t) parts.0) colon part.0,
      part.1,
    )
