-- The members of a canonical text, one after another.
use Rattle.std.proofs.Common.{◌≡◌, ℕ, Bool, true, false, List, ◌∷◌, ◌++◌, Option, Some}
use Rattle.std.proofs.Common.{None, Ordering, Less, Equal, Greater, refl, sym, ap, ◌∙◌}
use Rattle.std.proofs.Common.{append_assoc, is_some, option_map}
use Rattle.std.proofs.Common.{◌-◌, ◌≤◌, ◌<◌, arith, take, drop, length, get_or, length-drop}
use Rattle.std.proofs.lemmas.List.{length-take, take_all}
use Rattle.std.specs.{Borrow.Bor, List.list_all}
use Rattle.std.specs.Cmp.Lexicographic.{slice_cmp}
use Rattle.std.specs.Ordering.{match_ordering, nat_cmp}
use Rattle.std.proofs.lemmas.Cmp.{nat_list_cmp_total, tied_itself}
use Rattle.std.proofs.lemmas.Map.Lookups.{exact_bytes}
use Rattle.serde_json.specs.Written.{comma_if}
use Rattle.dap_tree.specs.Doc.{Doc, text, Members, no_members, member, get_member}
use Rattle.dap_tree.specs.Json.{text_of}
use Rattle.json.specs.Print.{escape}
use Rattle.dap_transcript.specs.Canonical.{ends_value}
use Rattle.dap_transcript.specs.{Heads.{later_text, value_among}, Scalars.is_simple}
use Rattle.dap_transcript.proofs.Places.{drop-0}
use Rattle.dap_transcript.proofs.Escapes.{simple_inside, simple_stays}

-- ---- the text of members

pub member_starts : (later : Bool) (k : List ℕ) (d : Doc) (ms : Members) (more : List ℕ)
    → later_text later (member k d ms) ++ more
    ≡ comma_if later ++ (text_of (text k) ++ 58 ∷ (text_of d ++ (later_text true ms ++ more)))
member_starts later k d ms more =
    let rest = later_text true ms in
    let value = text_of d ++ rest in
    append_assoc (comma_if later) (text_of (text k) ++ 58 ∷ value) more
    ∙ ap (λ t. comma_if later ++ t)
    (append_assoc (text_of (text k)) (58 ∷ value) more
    ∙ ap (λ t. text_of (text k) ++ 58 ∷ t) (append_assoc (text_of d) rest more))

pub later_ends : (ms : Members) (more : List ℕ) → ends_value (later_text true ms ++ more) ≡ true
later_ends no_members more = refl
later_ends (member k d ms) more = refl

-- What follows the first byte, as a program takes it.
pub after_first : (s rest : List ℕ) (b : ℕ) → s ≡ b ∷ rest → take (length s - 1) (drop 1 s) ≡ rest
after_first s rest b is =
    ap (λ t. take (length t - 1) (drop 1 t)) is
    ∙ ap (take (length (b ∷ rest) - 1)) (drop-0 rest) ∙ take_all _ rest (omega arith)

pub after_within : (n : ℕ) (s : List ℕ) → length (take n (drop 1 s)) ≤ length s
after_within n s = omega (arith, length-take n (drop 1 s), length-drop 1 s)

pub after_shorter : (n : ℕ) (s : List ℕ) → 1 ≤ length s → length (take n (drop 1 s)) < length s
after_shorter n s some = omega (arith, length-take n (drop 1 s), length-drop 1 s)

-- The object ends at a closing bracket, and only there.
pub closes : (later : Bool) (left : Members) (more s : List ℕ) → s ≡ later_text later left ++ more
    → get_or s 0 0 ≡ 125 → (left ≡ no_members) × (s ≡ 125 ∷ more)
closes later no_members more s is h = (refl, is)
closes true (member k d ms) more s is h =
    let no : 44 ≡ 125 = sym (ap (λ t. get_or t 0 0) is) ∙ h in absurd (omega (arith, no))
closes false (member k d ms) more s is h =
    let no : 34 ≡ 125 = sym (ap (λ t. get_or t 0 0) is) ∙ h in absurd (omega (arith, no))

pub record NextMember (left : Members) : Type 0 where
  pub name : List ℕ
  pub value : Doc
  pub rest : Members
  pub is : left ≡ member name value rest

pub goes_on : (later : Bool) (left : Members) (more s : List ℕ) → s ≡ later_text later left ++ more
    → (get_or s 0 0 ≡ 125 → ⊥) → NextMember left
goes_on later no_members more s is h = absurd (h (ap (λ t. get_or t 0 0) is))
goes_on later (member k d ms) more s is h = record { name = k; value = d; rest = ms; is = refl }

-- ---- finding a member

at_equal : (o : Ordering) (a b : Option Doc) → o ≡ Equal → match_ordering o a b a ≡ b
at_equal Less a b h = absurd cc
at_equal Equal a b h = refl
at_equal Greater a b h = absurd cc

at_other : (o : Ordering) (a b : Option Doc) → (o ≡ Equal → ⊥) → match_ordering o a b a ≡ a
at_other Less a b h = refl
at_other Equal a b h = absurd (h refl)
at_other Greater a b h = refl

-- The key, which has only simple characters, is the name with this text.
pub value_found : (key name k : List ℕ) (value : List ℕ) (d : Doc) (ms : Members)
    → name ≡ escape k → value ≡ text_of d → list_all is_simple key ≡ true → name ≡ key
    → Some value ≡ value_among None key (member k d ms)
value_found key name k value d ms is is_value simple same =
    let escaped : key ≡ escape k = sym same ∙ is in
    let own : key ≡ k =
    escaped ∙ simple_inside k (ap (list_all is_simple) (sym escaped) ∙ simple) in
    ap Some is_value
    ∙ sym (ap (option_map text_of)
    (at_equal (slice_cmp nat_cmp key k) (get_member key ms) (Some d)
    (ap (slice_cmp nat_cmp key) (sym own) ∙ tied_itself nat_list_cmp_total key)))

value_later : (key name k : List ℕ) (d : Doc) (ms : Members) → name ≡ escape k
    → list_all is_simple key ≡ true → (name ≡ key → ⊥)
    → value_among None key ms ≡ value_among None key (member k d ms)
value_later key name k d ms is simple other =
    let apart : slice_cmp nat_cmp key k ≡ Equal → ⊥ =
    λ e. let own = exact_bytes key k e in
    other (is ∙ ap escape (sym own) ∙ simple_stays key simple) in
    sym (ap (option_map text_of)
    (at_other (slice_cmp nat_cmp key k) (get_member key ms) (Some d) apart))

-- A value that was found counts, whatever the next member is.
pub value_other : (found : Option (Bor (List ℕ))) (key name k : List ℕ) (d : Doc) (ms : Members)
    → name ≡ escape k → list_all is_simple key ≡ true → (name ≡ key → ⊥)
    → value_among found key ms ≡ value_among found key (member k d ms)
value_other None key name k d ms is simple other = value_later key name k d ms is simple other
value_other (Some b) key name k d ms is simple other = refl

pub value_kept : (found : Option (Bor (List ℕ))) (key k : List ℕ) (d : Doc) (ms : Members)
    → is_some found ≡ true → value_among found key ms ≡ value_among found key (member k d ms)
value_kept None key k d ms h = absurd cc
value_kept (Some b) key k d ms h = refl

pub none_found : (found : Option (Bor (List ℕ))) (key : List ℕ) (ms : Members)
    → is_some found ≡ false → value_among None key ms ≡ value_among found key ms
none_found None key ms h = refl
none_found (Some b) key ms h = absurd cc
