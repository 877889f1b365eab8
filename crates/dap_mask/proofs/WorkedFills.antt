-- Examples of rules that set members: lines by the grammar and by the parser, rules files with such
-- lines, and documents.
use lib.Utf8.{encode}
use Rattle.std.proofs.Common.{◌≡◌, ℕ, pos, negsuc, true, List, [], ◌∷◌, Some, None, Ok, Err, refl}
use Rattle.std.specs.Prelude.{codes}
use Rattle.std.specs.Str.{is_utf8, chars}
use Rattle.serde_json.proofs.OnLiterals.{serde_json_on_literals}
use Rattle.serde_json.specs.Data as json
use Rattle.dap_tree.specs.Doc.{Doc, null, boolean, whole, text, list, object, no_items, item}
use Rattle.dap_tree.specs.Doc.{Members, no_members, member}
use Rattle.dap_tree.specs.Json.{Reads}
use Rattle.dap_mask.specs.Fills.{Scalar, flag, number, string, Fill, filled}
use Rattle.dap_mask.specs.Grammar.{bare, plain, Says}
use Rattle.dap_mask.specs.Ids.{takes_profile_id}
use Rattle.dap_mask.specs.Mask.{Statement, no_rules, fill, rule, bad}
use Rattle.dap_mask.specs.RuleSteps.{named, elements}
use Rattle.dap_mask.specs.RuleText.{line_said, string_of, scalar_at}
use Rattle.dap_mask.specs.RulesFile.{rules_said}
use Rattle.dap_mask.specs.declared.fault.RulesCause.TheVariants.{BadPlace, Repeated, Clash}
use Rattle.dap_profile.specs.Profile.{profile, first_rows, later_rows}
use Rattle.dap_profile.specs.declared.profile.Kind.TheVariants.{Event}
use Rattle.dap_mask.proofs.WorkedRules.{ascii_text}

-- ---- `seq` of all events

abbrev seq_fill : Fill
seq_fill = record {
  kind = Event;
  name = None;
  parent = [];
  last = named (codes "seq");
  value = number (pos 0);
}

seq_line : List ℕ
seq_line = codes "fill event  * seq 0 # Perl"

zero_reads : Reads (codes "0") (json.number (json.unsigned 0))
unfolding serde_json_on_literals
zero_reads = (ascii_text (codes "0") refl, refl)

seq_says : Says seq_line (rule (fill seq_fill))
unfolding seq_line
seq_says = (
  codes "fill" ∷ codes "event" ∷ codes "*" ∷ codes "seq" ∷ codes "0" ∷ [],
  (
    [],
    codes " event  * seq 0 # Perl",
    refl,
    refl,
    (
      codes " ",
      codes "  * seq 0 # Perl",
      refl,
      (refl, refl),
      (
        codes "  ",
        codes " seq 0 # Perl",
        refl,
        (refl, refl),
        (
          codes " ",
          codes " 0 # Perl",
          refl,
          (refl, refl),
          (
            codes " ",
            codes " # Perl",
            refl,
            (refl, refl),
            (codes " ", codes "# Perl", refl, refl, refl),
          ),
        ),
      ),
    ),
  ),
  (
    codes "*",
    codes "seq",
    codes "0",
    refl,
    refl,
    (codes "seq", [], refl, bare refl refl, refl),
    plain (json.number (json.unsigned 0)) refl refl zero_reads refl,
  ),
)

seq_parsed : line_said seq_line ≡ rule (fill seq_fill)
unfolding seq_line scalar_at is_utf8 chars encode serde_json_on_literals
seq_parsed = refl

-- ---- other values

-- a rule for the member `x` of each element of `a`
abbrev x_of : Scalar → Statement
x_of v = fill (record {
  kind = Event;
  name = Some (codes "e");
  parent = named (codes "a") ∷ elements None ∷ [];
  last = named (codes "x");
  value = v;
})

true_parsed : line_said (codes "fill event e a[].x true") ≡ rule (x_of (flag true))
unfolding scalar_at is_utf8 chars encode serde_json_on_literals
true_parsed = refl

negative_parsed : line_said (codes "fill event e a[].x -5") ≡ rule (x_of (number (negsuc 4)))
unfolding scalar_at is_utf8 chars encode serde_json_on_literals
negative_parsed = refl

string_parsed : line_said (codes "fill event e a[].x \"b c\"#") ≡ rule (x_of (string (codes "b c")))
unfolding string_of is_utf8 chars encode serde_json_on_literals
string_parsed = refl

-- ---- lines that are not rules

null_parsed : line_said (codes "fill event e a null") ≡ bad
unfolding scalar_at is_utf8 chars encode serde_json_on_literals
null_parsed = refl

fraction_parsed : line_said (codes "fill event e a 1.5") ≡ bad
unfolding scalar_at is_utf8 chars encode serde_json_on_literals
fraction_parsed = refl

exponent_parsed : line_said (codes "fill event e a 1e2") ≡ bad
unfolding scalar_at is_utf8 chars encode serde_json_on_literals
exponent_parsed = refl

word_parsed : line_said (codes "fill event e a yes") ≡ bad
unfolding scalar_at is_utf8 chars encode serde_json_on_literals
word_parsed = refl

list_parsed : line_said (codes "fill event e a []") ≡ bad
list_parsed = refl

object_parsed : line_said (codes "fill event e a {}") ≡ bad
object_parsed = refl

no_value_parsed : line_said (codes "fill event e a") ≡ bad
no_value_parsed = refl

two_values_parsed : line_said (codes "fill event e a 1 2") ≡ bad
unfolding scalar_at is_utf8 chars encode serde_json_on_literals
two_values_parsed = refl

category_parsed : line_said (codes "fill event e category=a b 1") ≡ bad
category_parsed = refl

-- ---- rules files

one_line : rules_said (codes "fill event * seq 0\n")
    ≡ Ok (record no_rules { fills = seq_fill ∷ [] })
unfolding rules_said scalar_at is_utf8 chars encode serde_json_on_literals
one_line = refl

-- the place is `type` of the message, or ends in elements, or selects elements by their names
telling : rules_said (codes "fill event a type \"x\"\n")
    ≡ Err (record { line = 1; cause = BadPlace })
unfolding rules_said string_of is_utf8 chars encode serde_json_on_literals
telling = refl

each_element : rules_said (codes "fill event a b[] 1\n")
    ≡ Err (record { line = 1; cause = BadPlace })
unfolding rules_said scalar_at is_utf8 chars encode serde_json_on_literals
each_element = refl

named_element : rules_said (codes "fill event a b[\"c\"].d 1\n")
    ≡ Err (record { line = 1; cause = BadPlace })
unfolding rules_said scalar_at string_of is_utf8 chars encode serde_json_on_literals
named_element = refl

-- the same member of the same events again, or of events that may be the same
repeated : rules_said (codes "fill event * seq 0\nfill event * seq 1\n")
    ≡ Err (record { line = 2; cause = Repeated })
unfolding rules_said scalar_at is_utf8 chars encode serde_json_on_literals
repeated = refl

shared : rules_said (codes "fill event * seq 0\nfill event a seq 0\n")
    ≡ Err (record { line = 2; cause = Clash })
unfolding rules_said scalar_at is_utf8 chars encode serde_json_on_literals
shared = refl

-- a blank of a value that contains the place, in both orders
blank_after : rules_said (codes "fill event a body.b 0\nblank event * body\n")
    ≡ Err (record { line = 2; cause = Clash })
unfolding rules_said scalar_at takes_profile_id profile first_rows later_rows is_utf8 chars encode
    serde_json_on_literals
blank_after = refl

blank_before : rules_said (codes "blank event * body\nfill event a body.b 0\n")
    ≡ Err (record { line = 2; cause = Clash })
unfolding rules_said scalar_at takes_profile_id profile first_rows later_rows is_utf8 chars encode
    serde_json_on_literals
blank_before = refl

-- ---- documents

-- an event with these members before its `type`
abbrev event_with : Members → Doc
event_with ms = object (member (codes "event") (text (codes "e")) ms)

abbrev typed_event : Members
typed_event = member (codes "type") (text (codes "event")) no_members

without_seq : filled (seq_fill ∷ []) (event_with typed_event)
    ≡ event_with (member (codes "seq") (whole (pos 0)) typed_event)
without_seq = refl

null_seq : filled (seq_fill ∷ []) (event_with (member (codes "seq") null typed_event))
    ≡ event_with (member (codes "seq") (whole (pos 0)) typed_event)
null_seq = refl

own_seq : filled (seq_fill ∷ []) (event_with (member (codes "seq") (whole (pos 7)) typed_event))
    ≡ event_with (member (codes "seq") (whole (pos 7)) typed_event)
own_seq = refl

-- a response has another `type`
abbrev a_response : Doc
a_response = object (member (codes "type") (text (codes "response")) no_members)

response_left : filled (seq_fill ∷ []) a_response ≡ a_response
response_left = refl

-- each element that is an object
abbrev x_fill : Fill
x_fill = record {
  kind = Event;
  name = Some (codes "e");
  parent = named (codes "a") ∷ elements None ∷ [];
  last = named (codes "x");
  value = flag true;
}

abbrev with_list : Members → Doc
with_list ms = object (member (codes "a") (list (item (object no_members)
    (item (whole (pos 1)) (item (object ms) no_items))))
    (member (codes "event") (text (codes "e")) typed_event))

abbrev x_is : Doc → Members
x_is d = member (codes "x") d no_members

elements_set : filled (x_fill ∷ []) (with_list (x_is (boolean true)))
    ≡ object (member (codes "a") (list (item (object (x_is (boolean true)))
    (item (whole (pos 1)) (item (object (x_is (boolean true))) no_items))))
    (member (codes "event") (text (codes "e")) typed_event))
elements_set = refl
