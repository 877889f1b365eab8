-- Rules that omit elements: their order does not matter, and redacting a redacted document again
-- does not change it.
use Rattle.std.proofs.Common.{◌≡◌, true, cond, List, [], ◌∷◌, refl, sym, ap, ◌∙◌}
use Rattle.std.specs.Prelude.{IsPermutation, All}
use Rattle.std.specs.List.{AllByRecursion}
use Rattle.std.proofs.lemmas.List.Elements.{All-cons, All-nil, All-weaker, recursion_from_All}
use Rattle.std.proofs.lemmas.List.Sorted.{All-permutation, IsPermutation-sym}
use Rattle.dap_tree.specs.Doc.{Doc, is_ordered}
use Rattle.dap_mask.specs.Laws.{RedactedOnce, OmittedInAnyOrder}
use Rattle.dap_mask.specs.{Mask.Mask, Masked.{mask_by, masked}, Redacted.redacted}
use Rattle.dap_mask.specs.Omissions.{Omission, omission_applies, omit_by, omitted}
use Rattle.dap_mask.specs.RuleSteps.{change_at_place}
use Rattle.dap_mask.specs.Rules.{Rule, of_verb, rule_applies, are_safe, are_idempotent}
use Rattle.dap_mask.proofs.OmittedPlaces.{both_if, twice_if, stays_if, places_commute, place_twice}
use Rattle.dap_mask.proofs.OmittedPlaces.{place_stays}
use Rattle.dap_mask.proofs.OmittedSteps.{omit_at, applies_after, rule_after}
use Rattle.dap_mask.proofs.Settled.{AllStable, all_stable, stable_masked}

-- ---- two rules

-- the condition of the second rule is that of the document before the first one
second_omits : (o p : Omission) (d : Doc)
    → omit_by o (omit_by p d)
    ≡ cond (omission_applies o d) (omit_at o.parent o.last (omit_by p d)) (omit_by p d)
second_omits o p d =
    ap (λ b. cond b (omit_at o.parent o.last (omit_by p d)) (omit_by p d)) (applies_after o p d)

pub omissions_commute : (o p : Omission) (d : Doc)
    → omit_by o (omit_by p d) ≡ omit_by p (omit_by o d)
omissions_commute o p d =
    second_omits o p d
    ∙ both_if (omit_at o.parent o.last) (omit_at p.parent p.last) (omission_applies o d)
    (omission_applies p d) d (places_commute o.parent o.last p.parent p.last d)
    ∙ sym (second_omits p o d)

pub omit_twice : (o : Omission) (d : Doc) → omit_by o (omit_by o d) ≡ omit_by o d
omit_twice o d =
    second_omits o o d
    ∙ twice_if (omit_at o.parent o.last) (omission_applies o d) d
    (place_twice o.parent o.last d)

-- ---- all rules

-- a rule that applies after the others may apply first
omitted_first : (o : Omission) (os : List Omission) (d : Doc)
    → omit_by o (omitted os d) ≡ omitted os (omit_by o d)
omitted_first o [] d = refl
omitted_first o (p ∷ ps) d =
    omitted_first o ps (omit_by p d) ∙ ap (omitted ps) (omissions_commute o p d)

-- both lists apply, in either order
omitted_either : (os ps : List Omission) (d : Doc)
    → omitted os (omitted ps d) ≡ omitted ps (omitted os d)
omitted_either [] ps d = refl
omitted_either (o ∷ os) ps d =
    ap (omitted os) (omitted_first o ps d) ∙ omitted_either os ps (omit_by o d)

-- after the rules, the rule does nothing
abbrev IsDone : List Omission → Omission → Type 0
IsDone os p = (d : Doc) → omit_by p (omitted os d) ≡ omitted os d

are_done : (os : List Omission) → All (IsDone os) os
are_done [] = All-nil (IsDone [])
are_done (o ∷ os) =
    All-cons (IsDone (o ∷ os)) o os
    (λ d. omitted_first o os (omit_by o d) ∙ ap (omitted os) (omit_twice o d))
    (All-weaker (IsDone os) (IsDone (o ∷ os)) (λ p done d. done (omit_by o d)) os (are_done os))

omitted_done : (os ps : List Omission) (d : Doc) → AllByRecursion (IsDone os) ps
    → omitted ps (omitted os d) ≡ omitted os d
omitted_done os [] d done = refl
omitted_done os (p ∷ ps) d done =
    ap (omitted ps) (done.0 d) ∙ omitted_done os ps d done.1

pub omitted_twice : (os : List Omission) (d : Doc) → omitted os (omitted os d) ≡ omitted os d
omitted_twice os d = omitted_done os os d (recursion_from_All (IsDone os) os (are_done os))

-- the rules of a list in another order do nothing after the list
omitted_again : (os ps : List Omission) (d : Doc) → IsPermutation os ps
    → omitted ps (omitted os d) ≡ omitted os d
omitted_again os ps d same =
    omitted_done os ps d
    (recursion_from_All (IsDone os) ps
    (All-permutation (IsDone os) os ps same (are_done os)))

pub omitted_in_any_order : OmittedInAnyOrder
omitted_in_any_order os ps d same =
    sym (omitted_again ps os d (IsPermutation-sym os ps same)) ∙ omitted_either os ps d
    ∙ omitted_again os ps d same

-- ---- changes that leave a document unchanged

stays_without : (r : Rule) (o : Omission) (d : Doc) → mask_by r d ≡ d
    → mask_by r (omit_by o d) ≡ omit_by o d
stays_without r o d same =
    let f = change_at_place r.place (of_verb r.verb) in
    ap (λ b. cond b (f (omit_by o d)) (omit_by o d)) (rule_after r o d)
    ∙ stays_if f (omit_at o.parent o.last) (rule_applies r d) (omission_applies o d) d
    (place_stays r.verb r.place o.parent o.last d) same

-- a change that leaves a document unchanged leaves it unchanged without the omitted elements
pub stable_omitted : (r : Rule) (os : List Omission) (d : Doc) → mask_by r d ≡ d
    → mask_by r (omitted os d) ≡ omitted os d
stable_omitted r [] d same = same
stable_omitted r (o ∷ os) d same =
    stable_omitted r os (omit_by o d) (stays_without r o d same)

pub all_stable_omitted : (rs : List Rule) (os : List Omission) (d : Doc) → AllStable rs d
    → AllStable rs (omitted os d)
all_stable_omitted [] os d h = tt
all_stable_omitted (r ∷ rs) os d h =
    (stable_omitted r os d h.0, all_stable_omitted rs os d h.1)

-- masking a redacted document again does not change it
pub masked_redacted : (mask : Mask) (d : Doc) → are_safe mask.changes ≡ true
    → are_idempotent mask.changes ≡ true → is_ordered d ≡ true
    → masked mask.changes (redacted mask d) ≡ redacted mask d
masked_redacted mask d safe settled o =
    stable_masked mask.changes (redacted mask d)
    (all_stable_omitted mask.changes mask.omissions (masked mask.changes d)
    (all_stable mask.changes d safe settled o))

pub redacted_once : RedactedOnce
redacted_once mask d safe settled o =
    ap (omitted mask.omissions) (masked_redacted mask d safe settled o)
    ∙ omitted_twice mask.omissions (masked mask.changes d)
