-- Examples of rules that join output: lines by the grammar and by the parser, and rules files with
-- such lines.
use lib.Utf8.{encode}
use Rattle.std.proofs.Common.{◌≡◌, ℕ, List, [], ◌∷◌, Some, None, Ok, Err, refl}
use Rattle.std.specs.Prelude.{codes}
use Rattle.std.specs.Str.{is_utf8, chars}
use Rattle.dap_mask.specs.Grammar.{bare, Says}
use Rattle.dap_mask.specs.Ids.{takes_profile_id}
use Rattle.dap_mask.specs.Mask.{no_rules, join, rule, bad}
use Rattle.dap_mask.specs.RuleSteps.{RuleStep, named}
use Rattle.dap_mask.specs.RuleText.{line_said}
use Rattle.dap_mask.specs.Rules.{Rule}
use Rattle.dap_mask.specs.RulesFile.{rules_said}
use Rattle.dap_mask.specs.declared.fault.RulesCause.TheVariants.{BadRule, BadPlace, Repeated, Clash}
use Rattle.dap_mask.specs.declared.joining.Joining.TheVariants.{Whole, PerStop}
use Rattle.dap_mask.specs.declared.rules.Verb.TheVariants.{Blank}
use Rattle.dap_profile.specs.Profile.{profile, first_rows, later_rows}
use Rattle.dap_profile.specs.declared.profile.Kind.TheVariants.{Event}

-- ---- output that is joined in the whole recording

whole_line : List ℕ
whole_line = codes "join event  output # of debugpy"

whole_says : Says whole_line (rule (join Whole))
unfolding whole_line
whole_says = (
  codes "join" ∷ codes "event" ∷ codes "output" ∷ [],
  (
    [],
    codes " event  output # of debugpy",
    refl,
    refl,
    (
      codes " ",
      codes "  output # of debugpy",
      refl,
      (refl, refl),
      (
        codes "  ",
        codes " # of debugpy",
        refl,
        (refl, refl),
        (codes " ", codes "# of debugpy", refl, refl, refl),
      ),
    ),
  ),
  (codes "output", refl, bare refl refl),
)

whole_parsed : line_said whole_line ≡ rule (join Whole)
unfolding whole_line
whole_parsed = refl

-- ---- output that is joined between two stops

stops_line : List ℕ
stops_line = codes "\tjoin event output  per-stop#"

stops_says : Says stops_line (rule (join PerStop))
unfolding stops_line
stops_says = (
  codes "join" ∷ codes "event" ∷ codes "output" ∷ codes "per-stop" ∷ [],
  (
    codes "\t",
    codes " event output  per-stop#",
    refl,
    refl,
    (
      codes " ",
      codes " output  per-stop#",
      refl,
      (refl, refl),
      (
        codes " ",
        codes "  per-stop#",
        refl,
        (refl, refl),
        (codes "  ", codes "#", refl, (refl, refl), ([], codes "#", refl, refl, refl)),
      ),
    ),
  ),
  (codes "output", refl, bare refl refl),
)

stops_parsed : line_said stops_line ≡ rule (join PerStop)
unfolding stops_line
stops_parsed = refl

-- ---- lines that are not rules

other_event_parsed : line_said (codes "join event stopped") ≡ bad
other_event_parsed = refl

any_event_parsed : line_said (codes "join event *") ≡ bad
any_event_parsed = refl

longer_name_parsed : line_said (codes "join event outputs") ≡ bad
longer_name_parsed = refl

request_parsed : line_said (codes "join request output") ≡ bad
request_parsed = refl

response_parsed : line_said (codes "join response output per-stop") ≡ bad
response_parsed = refl

no_name_parsed : line_said (codes "join event") ≡ bad
no_name_parsed = refl

other_word_parsed : line_said (codes "join event output whole") ≡ bad
other_word_parsed = refl

category_parsed : line_said (codes "join event output category=stderr") ≡ bad
category_parsed = refl

more_words_parsed : line_said (codes "join event output per-stop per-stop") ≡ bad
more_words_parsed = refl

no_gap_parsed : line_said (codes "join event output\"per-stop\"") ≡ bad
no_gap_parsed = refl

-- ---- rules files

one_line : rules_said (codes "join event output per-stop\n")
    ≡ Ok (record no_rules { joining = Some PerStop })
unfolding rules_said is_utf8 chars encode
one_line = refl

stopped_line : rules_said (codes "join event stopped\n")
    ≡ Err (record { line = 1; cause = BadRule })
unfolding rules_said is_utf8 chars encode
stopped_line = refl

-- a second line, of the same form or the other one
same_line_again : rules_said (codes "join event output\njoin event output\n")
    ≡ Err (record { line = 2; cause = Repeated })
unfolding rules_said is_utf8 chars encode
same_line_again = refl

stops_after_whole : rules_said (codes "join event output\njoin event output per-stop\n")
    ≡ Err (record { line = 2; cause = Repeated })
unfolding rules_said is_utf8 chars encode
stops_after_whole = refl

whole_after_stops : rules_said (codes "join event output per-stop\n\njoin event output\n")
    ≡ Err (record { line = 3; cause = Repeated })
unfolding rules_said is_utf8 chars encode
whole_after_stops = refl

-- a change of the category of output, before and after the line
category_after : rules_said (codes "join event output\ndigits event output body.category\n")
    ≡ Err (record { line = 2; cause = Clash })
unfolding rules_said takes_profile_id profile first_rows later_rows is_utf8 chars encode
category_after = refl

category_before : rules_said (codes "digits event output body.category\njoin event output\n")
    ≡ Err (record { line = 2; cause = Clash })
unfolding rules_said takes_profile_id profile first_rows later_rows is_utf8 chars encode
category_before = refl

-- the same for a change of the category of all events
any_after : rules_said (codes "join event output per-stop\nblank event * body.category\n")
    ≡ Err (record { line = 2; cause = Clash })
unfolding rules_said takes_profile_id profile first_rows later_rows is_utf8 chars encode
any_after = refl

any_before : rules_said (codes "blank event * body.category\njoin event output per-stop\n")
    ≡ Err (record { line = 2; cause = Clash })
unfolding rules_said takes_profile_id profile first_rows later_rows is_utf8 chars encode
any_before = refl

-- a change of the category of one category is not a rule, with or without a line `join`
limited_after : rules_said
    (codes "join event output\nblank event output category=a body.category\n")
    ≡ Err (record { line = 2; cause = BadPlace })
unfolding rules_said takes_profile_id profile first_rows later_rows is_utf8 chars encode
limited_after = refl

-- changes that leave the category of output
abbrev blanked : List ℕ → List RuleStep → Rule
blanked name place =
    record { verb = Blank; kind = Event; name = Some name; category = None; place = place }

other_events : rules_said (codes "blank event stopped body.category\njoin event output\n")
    ≡ Ok (record no_rules {
      changes = blanked (codes "stopped") (named (codes "body") ∷ named (codes "category") ∷ [])
          ∷ [];
      joining = Some Whole;
    })
unfolding rules_said takes_profile_id profile first_rows later_rows is_utf8 chars encode
other_events = refl

text_of_output : rules_said (codes "join event output\nblank event output body.output\n")
    ≡ Ok (record no_rules {
      changes = blanked (codes "output") (named (codes "body") ∷ named (codes "output") ∷ []) ∷ [];
      joining = Some Whole;
    })
unfolding rules_said takes_profile_id profile first_rows later_rows is_utf8 chars encode
text_of_output = refl
