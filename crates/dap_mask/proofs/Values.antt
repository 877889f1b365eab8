-- The value of a line that sets a member, and the last step of its place.
use Rattle.std.proofs.Common.{◌≡◌, ℕ, Bool, true, false, cond, ◌==◌, List, [], ◌∷◌, ◌++◌, length}
use Rattle.std.proofs.Common.{Option, Some, None, option_map, option_and_then, IsUtf8, refl, sym}
use Rattle.std.proofs.Common.{ap, ap₂, ◌∙◌, subst, true≢false}
use Rattle.std.proofs.lemmas.Bool.{eqb-true}
use Rattle.std.proofs.lemmas.Option.{none-some, same_Some}
use Rattle.std.proofs.lemmas.Str.{IsUtf8-from_is_utf8, is_utf8-from_IsUtf8}
use Rattle.std.specs.Str.{is_utf8}
use Rattle.serde_json.specs.Data as json
use Rattle.serde_json.specs.Read.{read}
use Rattle.dap_tree.specs.Json.{Reads}
use Rattle.dap_message.proofs.Edits.{by_bool}
use Rattle.dap_mask.specs.Fills.{Scalar}
use Rattle.dap_mask.specs.Grammar.{IsValue, plain, in_quotes}
use Rattle.dap_mask.specs.RuleSteps.{RuleStep}
use Rattle.dap_mask.specs.RuleText.{quoted_at, plain_at, scalar_in, scalar_at, string_value}
use Rattle.dap_mask.specs.RuleText.{before_rest, plain_value, value_at, split_last}
use Rattle.dap_mask.specs.Rules.{step_of, place_of}
use Rattle.dap_mask.specs.declared.rules.Step.{Step}
use Rattle.dap_mask.specs.Runs.{is_plain, front, behind}
use Rattle.dap_mask.specs.Texts.{all_of, begins_with}
use Rattle.dap_mask.proofs.Blanks.{front_run, behind_run, run_split, run_all, run_begins, not_zero}
use Rattle.dap_mask.proofs.Blanks.{differs}
use Rattle.dap_mask.proofs.Options.{mapped, bound, if_true, if_false}
use Rattle.dap_mask.proofs.Quoted.{quoted_read, quoted_found}

-- ---- the value of a text

pub scalar_is : (token : List ℕ) (d : json.Data) → IsUtf8 token → read token ≡ Some d
    → scalar_at token ≡ scalar_in (Some d)
unfolding scalar_at
scalar_is token d u r =
    ap (λ b. cond b (scalar_in (read token)) None) (is_utf8-from_IsUtf8 token u) ∙ ap scalar_in r

pub no_scalar : (token : List ℕ) → (IsUtf8 token → read token ≡ None) → scalar_at token ≡ None
unfolding scalar_at
no_scalar token h = by_bool (is_utf8 token)
    (λ u. ap (λ b. cond b (scalar_in (read token)) None) u
    ∙ ap scalar_in (h (IsUtf8-from_is_utf8 token u)))
    (λ u. ap (λ b. cond b (scalar_in (read token)) None) u)

some_data : (o : Option json.Data) (v : Scalar) → scalar_in o ≡ Some v
    → (d : json.Data) × (o ≡ Some d) × (scalar_in (Some d) ≡ Some v)
some_data None v h = absurd (none-some v h)
some_data (Some d) v h = (d, refl, h)

scalar_reads : (token : List ℕ) (v : Scalar) → scalar_at token ≡ Some v
    → (d : json.Data) × Reads token d × (scalar_in (Some d) ≡ Some v)
unfolding scalar_at
scalar_reads token v h =
    let i = if_true (is_utf8 token) (scalar_in (read token)) v h in
    let d = some_data (read token) v i.1 in
    (d.0, (IsUtf8-from_is_utf8 token i.0, d.1), d.2)

-- ---- a value at the start of a text

-- the result of the parser, and the rest of the text
abbrev pub ValueRest : Type 0
ValueRest = Scalar × List ℕ

abbrev NameRest : Type 0
NameRest = List ℕ × List ℕ

abbrev value_by : List ℕ → Bool → Option ValueRest
value_by s is_quote = cond is_quote (option_map string_value (quoted_at s))
    (option_and_then plain_value (plain_at s))

abbrev none_or_run : List ℕ → List ℕ → Bool → Option NameRest
none_or_run run rest none = cond none None (Some (run, rest))

abbrev plain_by : List ℕ → List ℕ → Option NameRest
plain_by run rest = none_or_run run rest (length run == 0)

word_read : (w rest : List ℕ) → begins_with is_plain w ≡ true → all_of is_plain w ≡ true
    → begins_with is_plain rest ≡ false → value_at (w ++ rest) ≡ plain_value (w, rest)
word_read [] rest b a e = absurd (true≢false (sym b))
word_read (x ∷ w) rest b a e =
    ap (value_by (x ∷ (w ++ rest))) (differs is_plain x 34 b refl)
    ∙ ap (option_and_then plain_value)
    (ap₂ plain_by (front_run is_plain (x ∷ w) rest a e) (behind_run is_plain (x ∷ w) rest a e)
    ∙ ap (none_or_run (x ∷ w) rest) (not_zero (length w)))

pub value_read : {w : List ℕ} {v : Scalar} → IsValue w v → (rest : List ℕ)
    → begins_with is_plain rest ≡ false → value_at (w ++ rest) ≡ Some (v, rest)
value_read (plain {w} {v} d b a r is) rest e =
    word_read w rest b a e
    ∙ ap (option_map (before_rest rest)) (scalar_is w d r.0 r.1 ∙ is)
value_read (in_quotes {w} {s} (inside, is, i, r)) rest e =
    ap (λ (t : List ℕ). value_at (t ++ rest)) is
    ∙ ap (option_map string_value) (quoted_read i s rest (rw is at r))

-- the word of a value, and the rest of the text
abbrev pub HasValue : List ℕ → Scalar → List ℕ → Type 0
HasValue s v rest = (w : List ℕ) × (s ≡ w ++ rest) × IsValue w v

quoted_value : (b : ℕ) (s : List ℕ) (v : Scalar) (rest : List ℕ) → b ≡ 34
    → option_map string_value (quoted_at (b ∷ s)) ≡ Some (v, rest) → HasValue (b ∷ s) v rest
quoted_value b s v rest e h =
    let m = mapped string_value (quoted_at (b ∷ s)) (v, rest) h in
    let first : quoted_at (34 ∷ s) ≡ Some m.0 =
    ap (λ (x : ℕ). quoted_at (x ∷ s)) (sym e) ∙ m.1 in
    let q = quoted_found s m.0.0 m.0.1 first in
    let word = 34 ∷ (q.inside ++ 34 ∷ []) in (
      word,
      ap₂ (λ x t. x ∷ t) e
          (q.whole ∙ ap (λ (t : List ℕ). (q.inside ++ 34 ∷ []) ++ t)
          (ap (λ (p : ValueRest). p.1) m.2)),
      subst (IsValue word) (ap (λ (p : ValueRest). p.0) m.2)
          (in_quotes (q.inside, refl, q.is_inside, q.reads)),
    )

word_value : (s : List ℕ) (v : Scalar) (rest : List ℕ)
    → option_and_then plain_value (plain_at s) ≡ Some (v, rest) → HasValue s v rest
word_value s v rest h =
    let run = front is_plain s in
    let x = bound plain_value (plain_at s) (v, rest) h in
    let i = if_false {A = NameRest} (length run == 0) (run, behind is_plain s) x.0 x.1 in
    let m = mapped (before_rest x.0.1) (scalar_at x.0.0) (v, rest) x.2 in
    let same_run : run ≡ x.0.0 = ap (λ (p : NameRest). p.0) i.1 in
    let same_rest : behind is_plain s ≡ rest =
    ap (λ (p : NameRest). p.1) i.1 ∙ ap (λ (p : ValueRest). p.1) m.2 in
    let same_value : m.0 ≡ v = ap (λ (p : ValueRest). p.0) m.2 in
    let r = scalar_reads run v (ap scalar_at same_run ∙ m.1 ∙ ap Some same_value) in (
      run,
      run_split is_plain s ∙ ap (λ (t : List ℕ). run ++ t) same_rest,
      plain r.0 (run_begins is_plain s i.0) (run_all is_plain s) r.1 r.2,
    )

pub value_found : (s : List ℕ) (v : Scalar) (rest : List ℕ) → value_at s ≡ Some (v, rest)
    → HasValue s v rest
value_found [] v rest h = absurd (none-some {A = ValueRest} (v, rest) h)
value_found (b ∷ s) v rest h = go (b == 34) refl h
  where
    go : (c : Bool) → (b == 34) ≡ c → value_by (b ∷ s) c ≡ Some (v, rest)
        → HasValue (b ∷ s) v rest
    go true e k = quoted_value b s v rest (eqb-true b 34 e) k
    go false e k = word_value (b ∷ s) v rest k

-- ---- the last step of a place

abbrev with_first : RuleStep → List RuleStep × RuleStep → List RuleStep × RuleStep
with_first p r = (p ∷ r.0, r.1)

pub last_split : (ps : List RuleStep) (l : RuleStep) → split_last (ps ++ l ∷ []) ≡ Some (ps, l)
last_split [] l = refl
last_split (p ∷ []) l = refl
last_split (p ∷ q ∷ ps) l = ap (option_map (with_first p)) (last_split (q ∷ ps) l)

pub last_found : (ps : List RuleStep) (a : List RuleStep × RuleStep) → split_last ps ≡ Some a
    → ps ≡ a.0 ++ a.1 ∷ []
last_found [] a h = absurd (none-some a h)
last_found (p ∷ []) a h =
    ap (λ (r : List RuleStep × RuleStep). r.0 ++ r.1 ∷ []) (same_Some ([], p) a h)
last_found (p ∷ q ∷ ps) a h =
    let m = mapped (with_first p) (split_last (q ∷ ps)) a h in
    ap (λ (t : List RuleStep). p ∷ t) (last_found (q ∷ ps) m.0 m.1)
    ∙ ap (λ (r : List RuleStep × RuleStep). r.0 ++ r.1 ∷ []) m.2

place_push : (xs : List Step) (x : Step) → place_of (xs ++ x ∷ []) ≡ place_of xs ++ step_of x ∷ []
place_push [] x = refl
place_push (y ∷ xs) x = ap (λ ps. step_of y ∷ ps) (place_push xs x)

-- the last step of a place of the program
pub split_popped : (place parent : List Step) (last : Step) → place ≡ parent ++ last ∷ []
    → split_last (place_of place) ≡ Some (place_of parent, step_of last)
split_popped place parent last is =
    ap split_last (ap place_of is ∙ place_push parent last)
    ∙ last_split (place_of parent) (step_of last)
