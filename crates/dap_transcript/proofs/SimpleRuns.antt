-- Runs of simple bytes in a text.
use Rattle.std.proofs.Common.{◌≡◌, ℕ, ◌+◌, ◌-◌, ◌<◌, ◌≤◌, true, false, List, [], ◌∷◌, ◌++◌, Some}
use Rattle.std.proofs.Common.{length, get_or, take, drop, refl, sym, ap, ◌∙◌, arith}
use Rattle.std.proofs.Common.{append_assoc, drop-drop}
use Rattle.std.proofs.lemmas.Bool.{and_from, and_parts}
use Rattle.std.proofs.lemmas.List.{append_cancel_right, drop_more, take-append-drop}
use Rattle.std.proofs.lemmas.List.Edits.{between_more}
use Rattle.std.proofs.lemmas.List.Folds.{list_all-append}
use Rattle.std.proofs.Math.Seq.{take-add}
use Rattle.std.specs.Prelude.{slice_range}
use Rattle.std.specs.List.{list_all}
use Rattle.json.specs.Print.{escape, quoted}
use Rattle.dap_transcript.specs.{Canonical.string_rest, Scalars.is_simple}
use Rattle.dap_transcript.proofs.Escapes.{simple_inside, simple_is}
use Rattle.dap_transcript.proofs.StringRests.{plain_rest, quoted_rest}

-- ---- the loop

pub simple_more : (t : List ℕ) (from at : ℕ) → from ≤ at → at < length t
    → list_all is_simple (slice_range t from at) ≡ true → is_simple (get_or t at 0) ≡ true
    → list_all is_simple (slice_range t from (at + 1)) ≡ true
simple_more t from at order inside before here =
    ap (list_all is_simple) (between_more t from at 0 order inside)
    ∙ list_all-append is_simple (slice_range t from at) (get_or t at 0 ∷ [])
    ∙ and_from _ _ before (and_from _ _ here refl)

pub simple_on : (t : List ℕ) (from at next : ℕ) → from ≤ at → at ≤ next
    → list_all is_simple (slice_range t from at) ≡ true
    → list_all is_simple (slice_range t at next) ≡ true
    → list_all is_simple (slice_range t from next) ≡ true
simple_on t from at next first second before here =
    let sum : next - from ≡ (at - from) + (next - at) = omega arith in
    let place : from + (at - from) ≡ at = omega arith in
    ap (λ n. list_all is_simple (take n (drop from t))) sum
    ∙ ap (list_all is_simple) (take-add (at - from) (next - at) (drop from t)
    ∙ ap (λ r. slice_range t from at ++ take (next - at) r)
    (drop-drop (at - from) from t ∙ ap (λ n. drop n t) place))
    ∙ list_all-append is_simple (slice_range t from at) (slice_range t at next)
    ∙ and_from _ _ before here

-- ---- what follows a string

simple_passed : (f rest : List ℕ) → list_all is_simple f ≡ true
    → string_rest false (f ++ rest) ≡ string_rest false rest
simple_passed [] rest h = refl
simple_passed (b ∷ f) rest h =
    let parts = and_parts (is_simple b) (list_all is_simple f) h in
    let is = simple_is b parts.0 in
    plain_rest b (f ++ rest) is.0 is.1 ∙ simple_passed f rest parts.1

run_split : (t : List ℕ) (from at : ℕ) → from ≤ at
    → drop from t ≡ slice_range t from at ++ drop at t
run_split t from at order =
    let sum : from + (at - from) ≡ at = omega arith in
    sym (take-append-drop (at - from) (drop from t))
    ∙ ap (λ r. slice_range t from at ++ r)
    (drop-drop (at - from) from t ∙ ap (λ n. drop n t) sum)

pub run_rest : (t : List ℕ) (from at : ℕ) → from ≤ at
    → list_all is_simple (slice_range t from at) ≡ true
    → string_rest false (drop from t) ≡ string_rest false (drop at t)
run_rest t from at order h =
    ap (string_rest false) (run_split t from at order)
    ∙ simple_passed (slice_range t from at) (drop at t) h

-- ---- a string of simple bytes

-- A text that starts with a string starts with these simple bytes and a quote.
pub record IsSimpleStart (t s more : List ℕ) (end : ℕ) : Type 0 where
  pub simple : list_all is_simple s ≡ true
  pub parts : t ≡ (34 ∷ (s ++ 34 ∷ [])) ++ more
  pub rest : drop (end + 1) t ≡ more

pub simple_start : (t s more : List ℕ) (end : ℕ) → t ≡ quoted s ++ more → 1 ≤ end
    → list_all is_simple (slice_range t 1 end) ≡ true → end < length t → get_or t end 0 ≡ 34
    → IsSimpleStart t s more end
simple_start t s more end is order run inside quote =
    let f = slice_range t 1 end in
    let left = drop (end + 1) t in
    let next : drop end t ≡ 34 ∷ left =
    drop_more t end 0 inside ∙ ap (λ b. b ∷ left) quote in
    let after : drop 1 t ≡ f ++ 34 ∷ left = run_split t 1 end order ∙ ap (λ r. f ++ r) next in
    let own : drop 1 t ≡ escape s ++ 34 ∷ more =
    ap (drop 1) is ∙ append_assoc (escape s) (34 ∷ []) more in
    let found : Some left ≡ Some more =
    sym (simple_passed f (34 ∷ left) run) ∙ ap (string_rest false) (sym after)
    ∙ ap (λ u. string_rest false (drop 1 u)) is ∙ quoted_rest s more in
    let same : left ≡ more = cc in
    let escaped : f ≡ escape s =
    append_cancel_right f (escape s) (34 ∷ more)
    (ap (λ r. f ++ 34 ∷ r) (sym same) ∙ sym after ∙ own) in
    let inside_is = ap (list_all is_simple) (sym escaped) ∙ run in
    let stays = simple_inside s inside_is in
    record {
      simple = ap (list_all is_simple) (sym stays) ∙ inside_is;
      parts = is ∙ ap (λ u. (34 ∷ (u ++ 34 ∷ [])) ++ more) stays;
      rest = same;
    }
