-- What the leading arguments of a command line decide, whatever arguments follow. Source: own.
use Rattle.std.specs.{Prelude.{◌≡◌, ◌≢◌, ◌++◌, List, [], Option}, List.find, Option.option_map_or}
use Rattle.clap.specs.{Faults.walk_fault, Simple.{App, argument_words, built, label_of, names_of}}
use Rattle.clap.specs.Walk.{Text, answers_to, nothing_held, walk, walk_from}
use Rattle.clap.specs.Kinds.{Kinds, or_else}

-- The kinds of errors that the arguments after the name of a subcommand decide.
abbrev pub subcommand_kinds : App → Option (Text × List Text) → Kinds
subcommand_kinds a stop =
    option_map_or (λ p. option_map_or (λ s. walk_fault s [] (walk_from nothing_held) p.1)
    (find (λ s. answers_to p.0 (label_of s)) a.subs) []) stop []

-- The same for a built command and the arguments after its name.
abbrev pub built_kinds : App → List Text → Kinds
built_kinds a words =
    or_else (walk_fault a.top (names_of a) (walk_from nothing_held) words)
    (subcommand_kinds a (walk a.top.rules (names_of a) nothing_held words).stopped)

-- The kinds of errors that the arguments decide: those of the first argument that requests help or
-- the version, or is an error. Empty if no argument does. A missing argument is not decided by any
-- argument.
abbrev pub decided_kinds : App → List Text → Kinds
decided_kinds a words = built_kinds (built a) (argument_words a words)

-- If some leading arguments decide kinds of errors, those are reported, whatever arguments follow.
abbrev pub FirstDecides : App → List Text → (Kinds → Type 0) → Type 0
FirstDecides a words Reports = (front rest : List Text) → words ≡ front ++ rest
    → decided_kinds a front ≢ [] → Reports (decided_kinds a front)
