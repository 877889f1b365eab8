-- Examples of rules files in which the order of lines does not matter, and of rules that clash in
-- either order.
use lib.Utf8.{encode}
use Rattle.std.proofs.Common.{◌≡◌, ℕ, List, [], ◌∷◌, Some, None, Ok, Err, refl}
use Rattle.std.specs.Prelude.{codes}
use Rattle.std.specs.Str.{is_utf8, chars}
use Rattle.dap_tree.specs.Doc.{Doc, text, list, object, no_items, item, no_members, member}
use Rattle.dap_mask.specs.Ids.{takes_profile_id}
use Rattle.dap_mask.specs.Mask.{Mask, no_rules}
use Rattle.dap_mask.specs.RuleSteps.{RuleStep, named, elements}
use Rattle.dap_profile.specs.Profile.{profile, first_rows, later_rows}
use Rattle.dap_profile.specs.declared.profile.Kind.TheVariants.{Event}
use Rattle.dap_mask.specs.Rules.{Rule, inserted}
use Rattle.dap_mask.specs.Masked.{masked}
use Rattle.dap_mask.specs.RulesFile.{rules_said}
use Rattle.dap_mask.specs.declared.fault.RulesCause.TheVariants.{BadPlace, Clash}
use Rattle.dap_mask.specs.declared.rules.Verb.{Verb, TheVariants.{Blank, Digits, Hex, Long, Uuid}}

abbrev of_events : Verb → List RuleStep → Rule
of_events verb place =
    record { verb = verb; kind = Event; name = None; category = None; place = place }

-- ---- `hex` before `digits` in a file is `digits` before `hex`

abbrev digits_and_hex : Mask
digits_and_hex = record no_rules {
  changes = of_events Digits (named (codes "a") ∷ []) ∷ of_events Hex (named (codes "a") ∷ []) ∷ [];
}

hex_first : rules_said (codes "hex event * a\ndigits event * a\n") ≡ Ok digits_and_hex
unfolding rules_said takes_profile_id profile first_rows later_rows is_utf8 chars encode
hex_first = refl

digits_first : rules_said (codes "digits event * a\nhex event * a\n") ≡ Ok digits_and_hex
unfolding rules_said takes_profile_id profile first_rows later_rows is_utf8 chars encode
digits_first = refl

-- ---- `uuid` and `digits` clash in either order

uuid_first : rules_said (codes "uuid event * a\ndigits event * a\n")
    ≡ Err (record { line = 2; cause = Clash })
unfolding rules_said takes_profile_id profile first_rows later_rows is_utf8 chars encode
uuid_first = refl

digits_before_uuid : rules_said (codes "digits event * a\nuuid event * a\n")
    ≡ Err (record { line = 2; cause = Clash })
unfolding rules_said takes_profile_id profile first_rows later_rows is_utf8 chars encode
digits_before_uuid = refl

-- ---- rules for the events of one category

abbrev of_category : Verb → List ℕ → List RuleStep → Rule
of_category verb category place =
    record { verb = verb; kind = Event; name = None; category = Some category; place = place }

-- `uuid` and `digits` for two categories
two_categories : rules_said (codes "uuid event * category=b a\ndigits event * category=c a\n")
    ≡ Ok (record no_rules {
      changes = of_category Uuid (codes "b") (named (codes "a") ∷ [])
          ∷ of_category Digits (codes "c") (named (codes "a") ∷ []) ∷ [];
    })
unfolding rules_said takes_profile_id profile first_rows later_rows is_utf8 chars encode
two_categories = refl

-- a rule for all categories excludes a rule for one
all_and_one : rules_said (codes "uuid event * category=b a\ndigits event * a\n")
    ≡ Err (record { line = 2; cause = Clash })
unfolding rules_said takes_profile_id profile first_rows later_rows is_utf8 chars encode
all_and_one = refl

-- a change of the body beside a rule for one category, in either order
body_behind : rules_said (codes "hex event * category=b a\nblank event c body\n")
    ≡ Err (record { line = 2; cause = Clash })
unfolding rules_said takes_profile_id profile first_rows later_rows is_utf8 chars encode
body_behind = refl

body_before : rules_said (codes "blank event * body.category\nhex event * category=b a\n")
    ≡ Err (record { line = 2; cause = Clash })
unfolding rules_said takes_profile_id profile first_rows later_rows is_utf8 chars encode
body_before = refl

-- a rule that changes its own category
own_category : rules_said (codes "blank event * category=b body\n")
    ≡ Err (record { line = 1; cause = BadPlace })
unfolding rules_said takes_profile_id profile first_rows later_rows is_utf8 chars encode
own_category = refl

-- why no rule changes the category by which another one selects: the order of lines would matter
abbrev blank_body : Rule
blank_body = of_events Blank (named (codes "body") ∷ [])

abbrev blank_number : Rule
blank_number = of_category Blank (codes "b") (named (codes "seq") ∷ [])

abbrev numbered : List ℕ → Doc → Doc
numbered seq body = object (member (codes "body") body (member (codes "seq") (text seq)
    (member (codes "type") (text (codes "event")) no_members)))

abbrev some_body : Doc
some_body = object (member (codes "category") (text (codes "b")) no_members)

body_first : masked (blank_body ∷ blank_number ∷ []) (numbered (codes "1") some_body)
    ≡ numbered (codes "1") (object no_members)
body_first = refl

number_first : masked (blank_number ∷ blank_body ∷ []) (numbered (codes "1") some_body)
    ≡ numbered [] (object no_members)
number_first = refl

-- ---- places select elements by their names after the rules for names

abbrev long_names : Rule
long_names = of_events Long (named (codes "body") ∷ elements None ∷ named (codes "name") ∷ [])

abbrev blank_value : Rule
blank_value =
    of_events Blank
    (named (codes "body") ∷ elements (Some (codes "0")) ∷ named (codes "value") ∷ [])

names_come_first : inserted long_names (inserted blank_value []) ≡ long_names ∷ blank_value ∷ []
names_come_first = refl

names_stay_first : inserted blank_value (inserted long_names []) ≡ long_names ∷ blank_value ∷ []
names_stay_first = refl

abbrev variable : List ℕ → List ℕ → Doc
variable name value = object (member (codes "body") (list (item (object (member (codes "name")
    (text name) (member (codes "value") (text value) no_members))) no_items))
    (member (codes "type") (text (codes "event")) no_members))

selected_by_new_name : masked (long_names ∷ blank_value ∷ [])
    (variable (codes "7f3a1c2") (codes "1")) ≡ variable (codes "0") []
selected_by_new_name = refl
