-- Examples of rules that declare ids: a line by the grammar and by the parser, and rules files with
-- such lines.
use lib.Utf8.{encode}
use Rattle.std.proofs.Common.{◌≡◌, ℕ, List, [], ◌∷◌, Some, None, Ok, Err, refl}
use Rattle.std.specs.Prelude.{codes}
use Rattle.std.specs.Str.{is_utf8, chars}
use Rattle.dap_mask.specs.Declarations.{Declaration}
use Rattle.dap_mask.specs.Grammar.{bare, Says}
use Rattle.dap_mask.specs.Ids.{takes_profile_id}
use Rattle.dap_mask.specs.Mask.{no_rules, declare, rule, bad}
use Rattle.dap_mask.specs.RuleSteps.{named}
use Rattle.dap_mask.specs.RuleText.{line_said}
use Rattle.dap_mask.specs.RulesFile.{rules_said}
use Rattle.dap_mask.specs.declared.fault.RulesCause.TheVariants.{BadLabel, BadPlace, Clash}
use Rattle.dap_mask.specs.declared.fault.RulesCause.TheVariants.{Repeated}
use Rattle.dap_mask.specs.declared.rules.Verb.TheVariants.{Hex}
use Rattle.dap_profile.specs.Profile.{profile, first_rows, later_rows}
use Rattle.dap_profile.specs.declared.profile.Kind.TheVariants.{Event}

-- ---- one line

line : List ℕ
line = codes "hex event e body.a as  b # of lldb"

declaration : List ℕ → Declaration
declaration label = record {
  rule = record {
    verb = Hex;
    kind = Event;
    name = Some (codes "e");
    category = None;
    place = named (codes "body") ∷ named (codes "a") ∷ [];
  };
  label = label;
}

says : Says line (rule (declare (declaration (codes "b"))))
unfolding line declaration
says = (
  codes "hex" ∷ codes "event" ∷ codes "e" ∷ codes "body.a" ∷ codes "as" ∷ codes "b" ∷ [],
  (
    [],
    codes " event e body.a as  b # of lldb",
    refl,
    refl,
    (
      codes " ",
      codes " e body.a as  b # of lldb",
      refl,
      (refl, refl),
      (
        codes " ",
        codes " body.a as  b # of lldb",
        refl,
        (refl, refl),
        (
          codes " ",
          codes " as  b # of lldb",
          refl,
          (refl, refl),
          (
            codes " ",
            codes "  b # of lldb",
            refl,
            (refl, refl),
            (
              codes "  ",
              codes " # of lldb",
              refl,
              (refl, refl),
              (codes " ", codes "# of lldb", refl, refl, refl),
            ),
          ),
        ),
      ),
    ),
  ),
  (
    codes "b",
    (
      codes "e",
      [],
      codes "body.a",
      refl,
      bare refl refl,
      refl,
      (codes "body", codes ".a", refl, bare refl refl, (codes "a", [], refl, bare refl refl, refl)),
    ),
    bare refl refl,
  ),
)

parsed : line_said line ≡ rule (declare (declaration (codes "b")))
unfolding line declaration
parsed = refl

no_label : line_said (codes "hex event e body.a as") ≡ bad
no_label = refl

two_labels : line_said (codes "hex event e body.a as b c") ≡ bad
two_labels = refl

other_word : line_said (codes "hex event e body.a is b") ≡ bad
other_word = refl

-- ---- rules files

one_line : rules_said (codes "hex event e body.a as b\n")
    ≡ Ok (record no_rules { declared = declaration (codes "b") ∷ [] })
unfolding declaration rules_said takes_profile_id profile first_rows later_rows is_utf8 chars encode
one_line = refl

-- the name of a kind of id, and a text that is not a label
kind_of_id : rules_said (codes "hex event e body.a as frame\n")
    ≡ Err (record { line = 1; cause = BadLabel })
unfolding rules_said is_utf8 chars encode
kind_of_id = refl

upper_case : rules_said (codes "hex event e body.a as B\n")
    ≡ Err (record { line = 1; cause = BadLabel })
unfolding rules_said is_utf8 chars encode
upper_case = refl

-- an id of the profile
profile_id : rules_said (codes "blank event stopped body.threadId as b\n")
    ≡ Err (record { line = 1; cause = BadPlace })
unfolding rules_said takes_profile_id profile first_rows later_rows is_utf8 chars encode
profile_id = refl

-- one place twice: with the same label, and with another one
again : rules_said (codes "hex event e body.a as b\nhex event e body.a as b\n")
    ≡ Err (record { line = 2; cause = Repeated })
unfolding rules_said takes_profile_id profile first_rows later_rows is_utf8 chars encode
again = refl

other_label : rules_said (codes "hex event e body.a as b\nhex event e body.a as c\n")
    ≡ Err (record { line = 2; cause = Clash })
unfolding rules_said takes_profile_id profile first_rows later_rows is_utf8 chars encode
other_label = refl

-- an action that would change the number in a name, in both orders
digits_after : rules_said (codes "hex event e body.a as b\ndigits event * body.a\n")
    ≡ Err (record { line = 2; cause = Clash })
unfolding rules_said takes_profile_id profile first_rows later_rows is_utf8 chars encode
digits_after = refl

digits_before : rules_said (codes "digits event * body.a\nhex event e body.a as b\n")
    ≡ Err (record { line = 2; cause = Clash })
unfolding rules_said takes_profile_id profile first_rows later_rows is_utf8 chars encode
digits_before = refl
