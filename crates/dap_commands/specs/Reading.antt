-- What the arguments of a command line give, and why they are rejected. Source: own.
use Rattle.std.specs.Prelude.{◌≡◌, ◌⊎◌, Bool, true, false, List, [], Option, codes, option_map}
use Rattle.std.specs.{Borrow.Bor, Option.{option_map_or, unwrap_or}, Str.bytes_eq}
use Rattle.clap.specs.Words.{IsAmong, Kinds, Row, Text, first_of, found_of, rows_of}
use Rattle.clap.specs.{declared.ArgMatches.ArgMatches, declared.error.kind.ErrorKind.ErrorKind}
use Rattle.clap.specs.declared.error.kind.ErrorKind.TheVariants as kind
use Rattle.dap_commands.specs.declared.commands.UsageFault.{UsageFault}
use Rattle.dap_commands.specs.declared.commands.UsageFault.TheVariants as usage

-- ---- values

-- The arguments that the parser found.
abbrev pub given : ArgMatches → List Row
given matches = rows_of (found_of matches)

-- The byte string of an optional reference.
abbrev pub text_in : Option (Bor Text) → Option Text
text_in = option_map (λ text. text.now)

-- The first value of a required argument. The parser rejects arguments without one.
abbrev pub required : Text → List Row → Text
required name given = unwrap_or (first_of name given) []

-- A flag was given.
abbrev pub has_flag : Text → List Row → Bool
has_flag name given =
    option_map_or (λ text. bytes_eq text (codes "true")) (first_of name given) false

-- ---- errors

-- Help or the version is requested, which is not an error.
abbrev pub is_help_or_version : ErrorKind → Bool
is_help_or_version kind.DisplayHelp = true
is_help_or_version kind.DisplayVersion = true
is_help_or_version found = false

-- The `UsageFault` returned for arguments in which the parser finds these kinds of errors: the
-- requested text if one kind is such a request, a usage error if one kind is an error or there is
-- no kind, or a failed allocation.
abbrev pub IsUsageErrorFor : Kinds → UsageFault → Type 0
IsUsageErrorFor kinds (usage.Help text) =
    (found : ErrorKind) × IsAmong found kinds × (is_help_or_version found ≡ true)
IsUsageErrorFor kinds (usage.Usage text) =
    (kinds ≡ []) ⊎ ((found : ErrorKind) × IsAmong found kinds × (is_help_or_version found ≡ false))
IsUsageErrorFor kinds usage.Memory = Unit {0}
