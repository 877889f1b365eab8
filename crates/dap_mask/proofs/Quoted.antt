-- The end of a JSON string with which a text starts.
use Rattle.std.proofs.Common.{◌≡◌, ℕ, suc, Bool, true, false, cond, ◌==◌, ◌&&◌, List, []}
use Rattle.std.proofs.Common.{◌∷◌, ◌++◌, length, take, drop, Option, Some, None, option_map, refl}
use Rattle.std.proofs.Common.{sym, ap, ap₂, ◌∙◌, subst, append_assoc, true≢false}
use Rattle.std.proofs.lemmas.Bool.{eqb-true, eqb-false, ne_eqb}
use Rattle.std.proofs.lemmas.List.{take_at, drop_at}
use Rattle.std.proofs.lemmas.Option.{none-some, same_Some}
use Rattle.std.proofs.lemmas.Str.{IsUtf8-from_is_utf8}
use Rattle.std.specs.Str.{is_utf8}
use Rattle.serde_json.specs.Data as json
use Rattle.serde_json.specs.Read.{read}
use Rattle.dap_tree.specs.Json.{Reads}
use Rattle.dap_mask.specs.Grammar.{IsInside, at_end, escaped, other}
use Rattle.dap_mask.specs.RuleText.{text_in, string_of, quoted_at}
use Rattle.dap_mask.specs.Runs.{closing, is_closed}
use Rattle.dap_mask.proofs.Lines.{string_is}
use Rattle.dap_mask.proofs.Options.{mapped, if_true}

-- ---- the quote that closes a string

and_false : (b : Bool) → (b && false) ≡ false
and_false true = refl
and_false false = refl

abbrev Closed : List ℕ → Type 0
Closed s = (inside : List ℕ) × (more : List ℕ) × (s ≡ inside ++ 34 ∷ more) × IsInside inside

abbrev ClosedIn : Bool → List ℕ → Type 0
ClosedIn false s = Closed s
ClosedIn true s = Closed (92 ∷ s)

abbrev closed_if : Bool → Bool → List ℕ → Bool
closed_if quote backslash s = cond (quote && true) true (is_closed (backslash && true) s)

-- by cases of the first byte, which no backslash escapes
closed_byte : (b : ℕ) (s : List ℕ) (q e : Bool) → (b == 34) ≡ q → (b == 92) ≡ e
    → closed_if q e s ≡ true → (is_closed true s ≡ true → Closed (92 ∷ s))
    → (is_closed false s ≡ true → Closed s) → Closed (b ∷ s)
closed_byte b s true e i j h back on = ([], s, ap (λ x. x ∷ s) (eqb-true b 34 i), at_end)
closed_byte b s false true i j h back on =
    subst (λ (x : ℕ). Closed (x ∷ s)) (sym (eqb-true b 92 j)) (back h)
closed_byte b s false false i j h back on =
    let c = on h in
    (b ∷ c.0, c.1, ap (λ t. b ∷ t) c.2, other (eqb-false b 34 i) (eqb-false b 92 j) c.3)

escaped_byte : (b : ℕ) (s : List ℕ) → Closed s → Closed (92 ∷ b ∷ s)
escaped_byte b s c = (92 ∷ b ∷ c.0, c.1, ap (λ t. 92 ∷ b ∷ t) c.2, escaped c.3)

closed_escaped : (b : ℕ) (s : List ℕ) → is_closed true (b ∷ s) ≡ is_closed false s
closed_escaped b s =
    ap₂ (λ p q. cond p true (is_closed q s)) (and_false (b == 34)) (and_false (b == 92))

closed_in : (behind_backslash : Bool) (s : List ℕ) → is_closed behind_backslash s ≡ true
    → ClosedIn behind_backslash s
closed_in false [] h = absurd (true≢false (sym h))
closed_in true [] h = absurd (true≢false (sym h))
closed_in false (b ∷ s) h =
    closed_byte b s (b == 34) (b == 92) refl refl h (λ e. closed_in true s e)
    (λ e. closed_in false s e)
closed_in true (b ∷ s) h = escaped_byte b s (closed_in false s (sym (closed_escaped b s) ∙ h))

closing_escaped : (b : ℕ) (s : List ℕ) → closing true (b ∷ s) ≡ suc (closing false s)
closing_escaped b s =
    ap₂ (λ p q. cond p 1 (suc (closing q s))) (and_false (b == 34)) (and_false (b == 92))

closing_inside : {inside : List ℕ} → IsInside inside → (rest : List ℕ)
    → closing false ((inside ++ 34 ∷ []) ++ rest) ≡ length (inside ++ 34 ∷ [])
closing_inside at_end rest = refl
closing_inside (escaped {b} {s} i) rest =
    ap suc (closing_escaped b ((s ++ 34 ∷ []) ++ rest))
    ∙ ap (λ n. suc (suc n)) (closing_inside i rest)
closing_inside (other {b} {s} q e i) rest =
    ap₂ (λ p c. cond (p && true) 1 (suc (closing (c && true) ((s ++ 34 ∷ []) ++ rest))))
    (ne_eqb b 34 q) (ne_eqb b 92 e)
    ∙ ap suc (closing_inside i rest)

inside_closed : {inside : List ℕ} → IsInside inside → (rest : List ℕ)
    → is_closed false ((inside ++ 34 ∷ []) ++ rest) ≡ true
inside_closed at_end rest = refl
inside_closed (escaped {b} {s} i) rest =
    closed_escaped b ((s ++ 34 ∷ []) ++ rest) ∙ inside_closed i rest
inside_closed (other {b} {s} q e i) rest =
    ap₂ (λ p c. closed_if p c ((s ++ 34 ∷ []) ++ rest)) (ne_eqb b 34 q) (ne_eqb b 92 e)
    ∙ inside_closed i rest

-- the string with this content after its opening quote, and the rest of the text
abbrev with_rest : List ℕ → List ℕ → List ℕ × List ℕ
with_rest rest name = (name, rest)

abbrev quoted_by : List ℕ → List ℕ → Option (List ℕ × List ℕ)
quoted_by text rest = option_map (with_rest rest) (string_of (34 ∷ text))

abbrev if_closed : List ℕ → Bool → Option (List ℕ × List ℕ)
if_closed s closed = cond closed (quoted_by (take (closing false s) s) (drop (closing false s) s))
    None

quoted_front : {inside : List ℕ} → IsInside inside → (rest : List ℕ)
    → quoted_at (34 ∷ ((inside ++ 34 ∷ []) ++ rest)) ≡ quoted_by (inside ++ 34 ∷ []) rest
quoted_front {inside} i rest =
    let text = inside ++ 34 ∷ [] in
    let n = closing false (text ++ rest) in
    ap (if_closed (text ++ rest)) (inside_closed i rest)
    ∙ ap₂ quoted_by (take_at text rest n (sym (closing_inside i rest)))
    (drop_at text rest n (sym (closing_inside i rest)))

pub quoted_read : {inside : List ℕ} → IsInside inside → (name rest : List ℕ)
    → Reads (34 ∷ inside ++ 34 ∷ []) (json.string name)
    → quoted_at (34 ∷ ((inside ++ 34 ∷ []) ++ rest)) ≡ Some (name, rest)
quoted_read {inside} i name rest r =
    quoted_front i rest
    ∙ ap (option_map (with_rest rest))
    (string_is (34 ∷ (inside ++ 34 ∷ [])) (json.string name) r.0 r.1)

-- ---- a string at the start of a text

text_is : (o : Option json.Data) (name : List ℕ) → text_in o ≡ Some name
    → o ≡ Some (json.string name)
text_is None name h = absurd (none-some name h)
text_is (Some json.null) name h = absurd (none-some name h)
text_is (Some (json.boolean b)) name h = absurd (none-some name h)
text_is (Some (json.number n)) name h = absurd (none-some name h)
text_is (Some (json.string s)) name h = ap (λ t. Some (json.string t)) (same_Some s name h)
text_is (Some (json.array ds)) name h = absurd (none-some name h)
text_is (Some (json.object ms)) name h = absurd (none-some name h)

string_reads : (text name : List ℕ) → string_of text ≡ Some name
    → Reads text (json.string name)
unfolding string_of
string_reads text name h =
    let i = if_true (is_utf8 text) (text_in (read text)) name h in
    (IsUtf8-from_is_utf8 text i.0, text_is (read text) name i.1)

-- the string, and the rest of the text
pub record IsQuoted (s name rest : List ℕ) : Type 0 where
  pub inside : List ℕ
  pub whole : s ≡ (inside ++ 34 ∷ []) ++ rest
  pub is_inside : IsInside inside
  pub reads : Reads (34 ∷ inside ++ 34 ∷ []) (json.string name)

pub quoted_found : (s name rest : List ℕ) → quoted_at (34 ∷ s) ≡ Some (name, rest)
    → IsQuoted s name rest
quoted_found s name rest h =
    let n = closing false s in
    let i = if_true (is_closed false s) (quoted_by (take n s) (drop n s)) (name, rest) h in
    let closed = closed_in false s i.0 in
    let text = closed.0 ++ 34 ∷ [] in
    let is : s ≡ text ++ closed.1 =
    closed.2 ∙ sym (append_assoc closed.0 (34 ∷ []) closed.1) in
    let again : quoted_by text closed.1 ≡ Some (name, rest) =
    sym (quoted_front closed.3 closed.1) ∙ ap (λ t. quoted_at (34 ∷ t)) (sym is) ∙ h in
    let last = mapped (with_rest closed.1) (string_of (34 ∷ text)) (name, rest) again in
    let same_name : last.0 ≡ name = ap (λ (p : List ℕ × List ℕ). p.0) last.2 in
    let same_rest : closed.1 ≡ rest = ap (λ (p : List ℕ × List ℕ). p.1) last.2 in
    record {
      inside = closed.0;
      whole = is ∙ ap (λ t. text ++ t) same_rest;
      is_inside = closed.3;
      reads = subst (λ (t : List ℕ). Reads (34 ∷ text) (json.string t)) same_name
          (string_reads (34 ∷ text) last.0 last.1);
    }
