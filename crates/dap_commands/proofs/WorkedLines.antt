-- Example command lines, with the commands, words and errors that the definition finds in them.
use Rattle.std.proofs.Common.{◌≡◌, ◌==◌, refl, true, false, List, [], ◌∷◌, Some, None, codes}
use Rattle.std.specs.List.{slice_split}
use Rattle.clap.specs.Words.{Text}
use Rattle.clap.specs.declared.error.kind.ErrorKind.TheVariants as kind
use Rattle.clap.proofs.OnLiterals.{clap_on_literals}
use Rattle.dap_commands.specs.Commands.{command_named, program, words_named}
use Rattle.dap_commands.specs.LeadingArguments.{decided_kinds}
use Rattle.dap_commands.specs.declared.commands.Command.{Command}
use Rattle.dap_commands.specs.declared.commands.Command.TheVariants.{Check, Pair, Stream}
use Rattle.dap_commands.specs.declared.commands.Printed.TheVariants.{Verdict, AllDifferences}
use Rattle.dap_commands.specs.declared.commands.Task.TheVariants.{Mask, Name, Order, Show}
use Rattle.dap_rename.specs.declared.mode.Mode.TheVariants.{PerStop, Whole}

-- The arguments of a line, between spaces; 32 is a space.
abbrev split : Text → List Text
split = slice_split (λ byte. byte == 32)

-- The line selects this command.
abbrev Selects : Text → Command → Type 0
Selects line command = command_named program (split line) ≡ Some command

-- `-` is a file, and options may follow files.
commands : Selects (codes "dapnorm check -") (Check false Whole (Some (codes "-")) None)
    × Selects (codes "dapnorm check --rules rules --complete in")
    (Check true Whole (Some (codes "in")) (Some (codes "rules")))
    × Selects (codes "dapnorm mask rules in -o out")
    (Stream (Mask (codes "rules")) (Some (codes "in")) (Some (codes "out")))
    × Selects (codes "dapnorm show --faulty --record=3 in --explain") (Stream (Show (record {
      full = false;
      yaml = false;
      faulty = true;
      «record» = Some (codes "3");
    })) (Some (codes "in")) None)
    × Selects (codes "dapnorm show --yaml -o out") (Stream (Show (record {
      full = false;
      yaml = true;
      faulty = false;
      «record» = None;
    })) None (Some (codes "out")))
    × Selects (codes "dapnorm diff a --all b")
    (Pair AllDifferences (codes "a") (codes "b") None Whole)
    × Selects (codes "dapnorm compare --rules rules a b --per-stop")
    (Pair Verdict (codes "a") (codes "b") (Some (codes "rules")) PerStop)
    × Selects (codes "dapnorm order -o out rules")
    (Stream (Order (codes "rules")) None (Some (codes "out")))
    × Selects (codes "dapnorm name rules in")
    (Stream (Name (codes "rules")) (Some (codes "in")) None)
unfolding clap_on_literals
commands = (refl, refl, refl, refl, refl, refl, refl, refl, refl)

-- Each use of the option has a value, in order.
words : (words_named program (split (codes "dapnorm mask --word b=<b> rules --word=a== in"))
    ≡ codes "b=<b>" ∷ codes "a==" ∷ [])
    × (words_named program (split (codes "dapnorm golden file")) ≡ [])
unfolding clap_on_literals
words = (refl, refl)

-- Help for a subcommand, even if its files are missing; an error before the request for help; and
-- a missing file, which no argument decides.
errors : (decided_kinds program (split (codes "dapnorm compare --help")) ≡ kind.DisplayHelp ∷ [])
    × (decided_kinds program (split (codes "dapnorm check --all --help"))
    ≡ kind.UnknownArgument ∷ [])
    × (decided_kinds program (split (codes "dapnorm --version none")) ≡ kind.DisplayVersion ∷ [])
    × (decided_kinds program (split (codes "dapnorm compare a")) ≡ [])
unfolding clap_on_literals
errors = (refl, refl, refl, refl)
