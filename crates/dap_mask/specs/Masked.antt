-- Masked documents: the effect of rules on a document, path by path and as a function on documents.
use Rattle.std.specs.Prelude.{◌≡◌, Bool, true, false, cond, ◌&&◌, List, [], ◌∷◌, Option, None}
use Rattle.std.specs.Prelude.{option_map, bytes_eq, filter}
use Rattle.dap_tree.specs.{Doc.Doc, Path.{Step, name, place, at}}
use Rattle.dap_profile.specs.PlaceSteps.{PlaceStep, named, each}
use Rattle.dap_message.specs.{Places.fits_place, Marks.top}
use Rattle.dap_mask.specs.RuleSteps.{change_at_place}
use Rattle.dap_mask.specs.Rules.{Rule, of_verb, takes_parts, rule_applies, applies_at}
use Rattle.dap_mask.specs.{Rules.{plain_place_of, is_for_names}, declared.rules.Verb.Verb}

-- ---- as a function on documents

abbrev pub mask_by : Rule → Doc → Doc
mask_by r d = cond (rule_applies r d) (change_at_place r.place (of_verb r.verb) d) d

-- The document after the rules, applied in order.
abbrev pub masked : List Rule → Doc → Doc
masked [] d = d
masked (r ∷ rs) d = masked rs (mask_by r d)

-- The document after the rules for the names of elements. Places select elements by these names
-- (own).
abbrev pub named_by : List Rule → Doc → Doc
named_by rules d = masked (filter (λ r. is_for_names r.place) rules) d

-- ---- path by path

-- The path continues below the place: the place matches a proper prefix of the path.
abbrev pub is_below : List PlaceStep → List Step → Bool
is_below [] (st ∷ p) = true
is_below (named k ∷ ps) (name l ∷ p) = bytes_eq k l && is_below ps p
is_below (each ∷ ps) (place i ∷ p) = is_below ps p
is_below _ _ = false

-- The value at a path after a verb is applied at a place (own). At the place, it is the result of
-- the verb. Below the place, there is no value if the verb removes the parts. At every other path
-- the value is unchanged.
abbrev pub left_at : Verb → List PlaceStep → List Step → Option Doc → Option Doc
left_at v ps p o = cond (fits_place ps p) (option_map (of_verb v) o)
    (cond (is_below ps p && takes_parts v) None o)

-- The value at a path of the document d after a rule. The names of elements are those in d.
abbrev pub left_by : Rule → Doc → List Step → Option Doc → Option Doc
left_by r d p o = cond (applies_at r d p) (left_at r.verb (plain_place_of r) p o) o

-- The value at this path after the rules, applied in order. The names of elements are those in d.
abbrev pub left : List Rule → Doc → List Step → Option Doc → Option Doc
left [] d p o = o
left (r ∷ rs) d p o = left rs d p (left_by r d p o)

-- The document e is d masked (own): at each path, e has the value that the rules produce from the
-- value of d there. Elements are selected by their names after the rules for names. For an array,
-- `top` is the number of elements, and for an object the names of its members; elements and members
-- have paths of their own.
unfoldable pub IsMasked : List Rule → Doc → Doc → Type 0
IsMasked rules d e = (p : List Step) → option_map top (at p e)
    ≡ option_map top (left rules (named_by rules d) p (at p d))

-- Two documents agree except for the parts that the rules redact (own): at each path, the rules
-- produce the same value from both.
unfoldable pub AgreeBut : List Rule → Doc → Doc → Type 0
AgreeBut rules d e = (p : List Step) → option_map top (left rules (named_by rules d) p (at p d))
    ≡ option_map top (left rules (named_by rules e) p (at p e))

-- No rule that applies to the document and the elements along the path has its place at the path,
-- or removes the parts of a value above the path.
abbrev pub is_apart : List Rule → Doc → List Step → Bool
is_apart [] d p = true
is_apart (r ∷ rs) d p =
    cond (applies_at r d p) (cond (fits_place (plain_place_of r) p) false
    (cond (is_below (plain_place_of r) p && takes_parts r.verb) false (is_apart rs d p)))
    (is_apart rs d p)

-- At each path that the rules do not affect, the masked document e has the same value as d.
abbrev pub KeepsElsewhere : List Rule → Doc → Doc → Type 0
KeepsElsewhere rules d e = (p : List Step) → is_apart rules (named_by rules d) p ≡ true
    → option_map top (at p e) ≡ option_map top (at p d)

-- No path of e is new.
abbrev pub HasNoNewPath : Doc → Doc → Type 0
HasNoNewPath d e = (p : List Step) → at p d ≡ None → at p e ≡ None
