-- Examples of rules that omit elements: lines by the grammar and by the parser, rules files with
-- such lines, and documents.
use lib.Utf8.{encode}
use Rattle.std.proofs.Common.{◌≡◌, ℕ, pos, List, [], ◌∷◌, Some, None, Ok, Err, refl, arith}
use Rattle.std.specs.Prelude.{codes}
use Rattle.std.specs.Str.{is_utf8, chars}
use Rattle.serde_json.proofs.OnLiterals.{serde_json_on_literals}
use Rattle.serde_json.specs.Data as json
use Rattle.dap_tree.specs.Doc.{Doc, whole, text, list, object, Items, no_items, item}
use Rattle.dap_tree.specs.Doc.{no_members, member}
use Rattle.dap_tree.specs.Json.{Reads}
use Rattle.dap_mask.specs.Grammar.{bare, IsInside, at_end, other, Says}
use Rattle.dap_mask.specs.{Mask.{Mask, no_rules, omit, rule, bad}, Omissions.{Omission, omitted}}
use Rattle.dap_mask.specs.{Redacted.redacted, Rules.Rule}
use Rattle.dap_mask.specs.RuleSteps.{named, elements}
use Rattle.dap_mask.specs.RuleText.{line_said, string_of}
use Rattle.dap_mask.specs.RulesFile.{rules_said}
use Rattle.dap_mask.specs.declared.fault.RulesCause.TheVariants.{BadPlace, Repeated}
use Rattle.dap_mask.specs.declared.rules.Verb.TheVariants.{Digits}
use Rattle.dap_profile.specs.declared.profile.Kind.TheVariants.{Event, Response}
use Rattle.dap_mask.proofs.WorkedRules.{ascii_text}

-- ---- the threads named `a`

abbrev a_thread : Omission
a_thread = record {
  kind = Response;
  name = Some (codes "threads");
  parent = named (codes "body") ∷ named (codes "threads") ∷ [];
  last = elements (Some (codes "a"));
}

a_line : List ℕ
a_line = codes "omit response threads body.threads[\"a\"]"

a_reads : Reads (codes "\"a\"") (json.string (codes "a"))
unfolding serde_json_on_literals
a_reads = (ascii_text (codes "\"a\"") refl, refl)

-- the text between the quotes is without quotes
a_inside : IsInside (codes "a")
a_inside = other (λ h. omega (arith, h)) (λ h. omega (arith, h)) at_end

a_says : Says a_line (rule (omit a_thread))
unfolding a_line
a_says = (
  codes "omit" ∷ codes "response" ∷ codes "threads" ∷ codes "body.threads[\"a\"]" ∷ [],
  (
    [],
    codes " response threads body.threads[\"a\"]",
    refl,
    refl,
    (
      codes " ",
      codes " threads body.threads[\"a\"]",
      refl,
      (refl, refl),
      (
        codes " ",
        codes " body.threads[\"a\"]",
        refl,
        (refl, refl),
        (codes " ", [], refl, (refl, refl), ([], [], refl, refl, tt)),
      ),
    ),
  ),
  (
    codes "threads",
    codes "body.threads[\"a\"]",
    refl,
    bare refl refl,
    (
      codes "body",
      codes ".threads[\"a\"]",
      refl,
      bare refl refl,
      (
        codes "threads",
        codes "[\"a\"]",
        refl,
        bare refl refl,
        (codes "\"a\"", [], refl, (codes "a", refl, a_inside, a_reads), refl),
      ),
    ),
  ),
)

a_parsed : line_said a_line ≡ rule (omit a_thread)
unfolding a_line string_of is_utf8 chars encode serde_json_on_literals
a_parsed = refl

-- ---- lines that are not rules

no_place_parsed : line_said (codes "omit event a") ≡ bad
no_place_parsed = refl

two_places_parsed : line_said (codes "omit event a x y") ≡ bad
two_places_parsed = refl

category_parsed : line_said (codes "omit event a category=b x") ≡ bad
category_parsed = refl

-- ---- rules files

one_line : rules_said (codes "omit response threads body.threads[\"a\"]\n")
    ≡ Ok (record no_rules { omissions = a_thread ∷ [] })
unfolding rules_said string_of is_utf8 chars encode serde_json_on_literals
one_line = refl

-- the place ends in a member, or in all elements
member_place : rules_said (codes "omit event a x\n") ≡ Err (record { line = 1; cause = BadPlace })
unfolding rules_said is_utf8 chars encode
member_place = refl

each_element : rules_said (codes "omit event a x[]\n") ≡ Err (record { line = 1; cause = BadPlace })
unfolding rules_said is_utf8 chars encode
each_element = refl

-- the same elements of the same events again
repeated : rules_said (codes "omit event a x[\"b\"]\nomit event a x[\"b\"]\n")
    ≡ Err (record { line = 2; cause = Repeated })
unfolding rules_said string_of is_utf8 chars encode serde_json_on_literals
repeated = refl

-- ---- documents

-- a response to `threads` with these threads
abbrev threads_with : Items → Doc
threads_with ds = object (member (codes "body") (object (member (codes "threads") (list ds)
    no_members)) (member (codes "command") (text (codes "threads"))
    (member (codes "type") (text (codes "response")) no_members)))

abbrev thread : List ℕ → Doc
thread n = object (member (codes "name") (text n) no_members)

-- each thread with the name, and no other
all_omitted : omitted (a_thread ∷ []) (threads_with (item (thread (codes "a"))
    (item (thread (codes "b")) (item (thread (codes "a")) (item (thread (codes "c")) no_items)))))
    ≡ threads_with (item (thread (codes "b")) (item (thread (codes "c")) no_items))
all_omitted = refl

-- elements that are not objects
other_values : omitted (a_thread ∷ []) (threads_with (item (text (codes "a"))
    (item (whole (pos 1)) (item (object no_members) no_items))))
    ≡ threads_with (item (text (codes "a")) (item (whole (pos 1))
    (item (object no_members) no_items)))
other_values = refl

-- a value in the place of the array
no_array : omitted (record a_thread { parent = named (codes "body") ∷ [] } ∷ [])
    (threads_with (item (thread (codes "a")) no_items))
    ≡ threads_with (item (thread (codes "a")) no_items)
no_array = refl

-- a rule for the responses to another command, or for events
other_command : omitted (record a_thread { name = Some (codes "modules") } ∷ [])
    (threads_with (item (thread (codes "a")) no_items))
    ≡ threads_with (item (thread (codes "a")) no_items)
other_command = refl

other_kind : omitted (record a_thread { kind = Event } ∷ [])
    (threads_with (item (thread (codes "a")) no_items))
    ≡ threads_with (item (thread (codes "a")) no_items)
other_kind = refl

-- ---- the name at the end

abbrev digits_of_names : Rule
digits_of_names = record {
  verb = Digits;
  kind = Response;
  name = Some (codes "threads");
  category = None;
  place =
      named (codes "body") ∷ named (codes "threads") ∷ elements None ∷ named (codes "name") ∷ [];
}

abbrev workers : Mask
workers = record no_rules {
  changes = digits_of_names ∷ [];
  omissions = record a_thread { last = elements (Some (codes "w0")) } ∷ [];
}

-- threads that get the name by `digits`, with one that had it before
final_names : redacted workers (threads_with (item (thread (codes "w12"))
    (item (thread (codes "v3")) (item (thread (codes "w0")) no_items))))
    ≡ threads_with (item (thread (codes "v0")) no_items)
final_names = refl

-- a rule for a name that `digits` changes omits nothing
first_name : redacted (record workers {
  omissions = record a_thread { last = elements (Some (codes "w12")) } ∷ [];
}) (threads_with (item (thread (codes "w12")) no_items))
    ≡ threads_with (item (thread (codes "w0")) no_items)
first_name = refl
