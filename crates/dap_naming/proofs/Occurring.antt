-- Lists that occur in others, and strings that occur in the text of a string.
use Rattle.std.proofs.Common.{◌≡◌, ℕ, ◌+◌, ◌≤◌, ◌==◌, true, false, List, [], ◌∷◌, ◌++◌, length}
use Rattle.std.proofs.Common.{drop, get_or, Option, Some, None, is_some, refl, sym, ap, ap₂, ◌∙◌}
use Rattle.std.proofs.Common.{nat_lt, codes, append_assoc, length-append, arith}
use Rattle.std.specs.List.{AllByRecursion}
use Rattle.std.specs.Char.{is_ascii_lowercase}
use Rattle.std.proofs.lemmas.Bool.{eqb-true}
use Rattle.std.proofs.lemmas.List.Concat.{flat_map-append}
use Rattle.std.proofs.lemmas.List.{get_or-drop, get_or_append_left}
use Rattle.std.proofs.Math.Seq.{drop-append_seam}
use Rattle.memchr.specs.Find.{FindsNeedle}
use Rattle.json.specs.Print.{escape, escape_byte, quoted}
use Rattle.dap_words.specs.Runs.{all_of}
use Rattle.dap_tokens.specs.Tokens.{is_label, is_of_label}
use Rattle.dap_naming.specs.Absence.{Occurs, Lacks}
use Rattle.dap_naming.proofs.Lists.{by_bool, first_of_both, second_of_both}

pub occurs_left : (p xs ys : List ℕ) → Occurs p xs → Occurs p (xs ++ ys)
occurs_left p xs ys o = record {
  before = o.before;
  after = o.after ++ ys;
  are = ap (λ zs. zs ++ ys) o.are ∙ append_assoc o.before (p ++ o.after) ys
      ∙ ap (λ zs. o.before ++ zs) (append_assoc p o.after ys);
}

pub occurs_right : (p xs ys : List ℕ) → Occurs p ys → Occurs p (xs ++ ys)
occurs_right p xs ys o = record {
  before = xs ++ o.before;
  after = o.after;
  are = ap (λ zs. xs ++ zs) o.are ∙ sym (append_assoc xs o.before (p ++ o.after));
}

pub occurs_later : (p xs : List ℕ) (x : ℕ) → Occurs p xs → Occurs p (x ∷ xs)
occurs_later p xs x o = occurs_right p (x ∷ []) xs o

-- ---- the text of a string

-- The byte is written as it is.
abbrev pub IsPlain : ℕ → Type 0
IsPlain b = escape_byte b ≡ b ∷ []

abbrev pub ArePlain : List ℕ → Type 0
ArePlain p = AllByRecursion IsPlain p

plain_text : (p : List ℕ) → ArePlain p → escape p ≡ p
plain_text [] all = refl
plain_text (b ∷ p) all = ap₂ (λ xs ys. xs ++ ys) all.0 (plain_text p all.1)

pub occurs_quoted : (p s : List ℕ) → ArePlain p → Occurs p s → Occurs p (quoted s)
occurs_quoted p s all o =
    let parts : escape s ≡ escape o.before ++ (p ++ escape o.after) =
    ap escape o.are
    ∙ flat_map-append escape_byte o.before (p ++ o.after)
    ∙ ap (λ zs. escape o.before ++ zs)
    (flat_map-append escape_byte p o.after ∙ ap (λ zs. zs ++ escape o.after) (plain_text p all)) in
    occurs_later p (escape s ++ 34 ∷ []) 34 (occurs_left p (escape s) (34 ∷ []) (record {
      before = escape o.before;
      after = escape o.after;
      are = parts;
    }))

-- The bytes of labels are `-` and above, and not a backslash.
above : (b : ℕ) → is_of_label b ≡ true → 45 ≤ b
above b is = grind (arith, is_of_label, is_ascii_lowercase)

no_backslash : (b : ℕ) → is_of_label b ≡ true → b ≡ 92 → ⊥
no_backslash b is e =
    let same : is_of_label 92 ≡ true = sym (ap is_of_label e) ∙ is in absurd cc

other : (b c : ℕ) → (b ≡ c → ⊥) → (b == c) ≡ false
other b c differs = by_bool (b == c) (λ is. absurd (differs (eqb-true b c is))) (λ is. is)

plain_of_label : (b : ℕ) → is_of_label b ≡ true → IsPlain b
unfolding escape_byte
plain_of_label b is =
    let low = above b is in
    let large : nat_lt b 32 ≡ false = grind (arith, low) in
    rw (
      other b 34 (λ e. omega arith),
      other b 92 (no_backslash b is),
      other b 8 (λ e. omega arith),
      other b 12 (λ e. omega arith),
      other b 10 (λ e. omega arith),
      other b 13 (λ e. omega arith),
      other b 9 (λ e. omega arith),
      large,
    ) refl

all_plain : (p : List ℕ) → all_of is_of_label p ≡ true → ArePlain p
all_plain [] all = tt
all_plain (b ∷ p) all =
    (plain_of_label b (first_of_both _ _ all), all_plain p (second_of_both _ _ all))

pub plain_label : (label : List ℕ) → is_label label ≡ true → ArePlain label
plain_label label is = all_plain label (second_of_both _ _ is)

pub plain_small : ArePlain (codes "0x")
unfolding escape_byte
plain_small = (refl, (refl, tt))

pub plain_large : ArePlain (codes "0X")
unfolding escape_byte
plain_large = (refl, (refl, tt))

-- ---- searches

pub lacks_unfound : (xs p : List ℕ) (found : Option ℕ) → FindsNeedle xs p 0 found
    → is_some found ≡ false → Lacks p xs
lacks_unfound xs p (Some at) finds none o = absurd cc
lacks_unfound xs p None never none o =
    let k = length o.before in
    let long : length xs ≡ k + (length p + length o.after) =
    ap length o.are ∙ length-append o.before (p ++ o.after)
    ∙ ap (λ n. k + n) (length-append p o.after) in
    let rest : drop k xs ≡ p ++ o.after =
    ap (drop k) o.are ∙ drop-append_seam o.before (p ++ o.after) in
    never k (omega arith) (omega arith) (record {
      fits = omega arith;
      reads = λ j less. sym (get_or-drop k xs j 0) ∙ ap (λ l. get_or l j 0) rest
          ∙ get_or_append_left p o.after 0 j less;
    })
