use Rattle.std.proofs.Common.{◌≡◌, ◌∙◌, Err, List, [], None, Option, Some, ap, false, is_some, map}
use Rattle.std.proofs.Common.{subst, sym, true, true≢false}
use Rattle.std.specs.Prelude.{option_and_then}
use Rattle.std.specs.Option.{option_map, option_map_or}
use Rattle.clap.proofs.WalkLemmas.{both}
use Rattle.clap.specs.Walk.{texts}
use Rattle.clap.specs.Words.{App, HasMatchesOf, Row, Shape, Text, fault_of, is_simple, takes}
use Rattle.clap.specs.Words.{is_simple_and_free, subcommand_name_of, subcommand_of}
use Rattle.clap.specs.Words.{subcommand_rows_of}
use Rattle.clap.specs.declared.ArgMatches.{ArgMatches}
use Rattle.dap_commands.proofs.LeadingArguments.{first_decides}
use Rattle.dap_commands.specs.Arguments.{app_for, program_with, shape_for}
use Rattle.dap_commands.specs.Commands.{IsRead, command_named, command_of, is_explained}
use Rattle.dap_commands.specs.Commands.{words_of}
use Rattle.dap_commands.specs.Reading.{IsUsageErrorFor}
use Rattle.dap_commands.specs.declared.commands.UsageFault.{UsageFault}
use Rattle.dap_commands.specs.declared.commands.UsageFault.TheVariants.{Memory}
use Rattle.dap_commands.proofs.reading.request.Goals as goal

-- A pair in an option is found by its parts.
by_parts : {A X Y : Type 0} (f : A → X) (g : A → Y) (o : Option A) (x : X) (y : Y)
    → Some x ≡ option_map f o
    → Some y ≡ option_map (λ (p : X × Y). p.1) (option_map {U = X × Y} (λ a. (f a, g a)) o)
    → option_map {U = X × Y} (λ a. (f a, g a)) o ≡ Some (x, y)
by_parts f g None x y first second = let wrong : Some x ≡ None = first in cc
by_parts f g (Some a) x y first second =
    let one : Some x ≡ Some (f a) = first in
    let other : Some y ≡ Some (g a) = second in
    cc

-- A line that the parser accepts by a definition has this subcommand, and no error.
accepted : {app a : App} (line : List Text) (m : ArgMatches) (name : Text) (rows : List Row)
    → a ≡ app → is_simple_and_free app ≡ true → HasMatchesOf a line m
    → (is_simple_and_free a ≡ true → fault_of a line ≡ []) → Some name ≡ subcommand_name_of m
    → Some rows ≡ option_map (λ p. p.1) (subcommand_rows_of m)
    → (subcommand_of app line ≡ Some (name, rows)) × (fault_of app line ≡ [])
accepted {app} {a} line m name rows is free matches kinds first second =
    let all = ap is_simple_and_free is ∙ free in (
      ap (λ a. subcommand_of a line) (sym is) ∙ sym (matches (both (is_simple a) _ all).0).1
          ∙ by_parts _ _ _ name rows first second,
      ap (λ a. fault_of a line) (sym is) ∙ kinds all,
    )

-- A line is rejected by its definition.
rejected : (subs : List Shape) (line : List Text) (fault : UsageFault)
    → (takes (program_with subs) line ≡ true
    → is_some (command_named (program_with subs) line) ≡ true → fault ≡ Memory)
    → IsUsageErrorFor (fault_of (program_with subs) line) fault
    → IsRead (program_with subs) line (Err fault)
rejected subs line fault err reported = record {
  ok = tt;
  words = tt;
  explained = tt;
  taken = tt;
  err = err;
  reported = reported;
  first = first_decides subs line (λ kinds. IsUsageErrorFor kinds fault) reported;
}

pub returns-in-Err : goal.returns-in-Err
returns-in-Err c =
    let line = texts c.args.words.now in
    let is = c.in-Ok.ensures in
    let error = c.in-Err.ensures in
    rejected (map shape_for c.args.program.now.subcommands.now) line c.fault_of.result
    (λ taken named. c.fault_of.ensures.memory (error.passes (ap (λ a. takes a line) is ∙ taken)))
    (subst (λ a. IsUsageErrorFor (fault_of a line) c.fault_of.result) is
    (c.fault_of.ensures.reported _ (error.kinds (ap is_simple_and_free is ∙ c.requires))))

pub returns-in_default-command_by : goal.returns-in_default-command_by
returns-in_default-command_by c =
    let line = texts c.args.words.now in
    let parsed = c.in-Ok-try_get_matches_from.ensures in
    let known = accepted line c.in-Ok-try_get_matches_from.matches _ _ c.in-Ok.ensures c.requires
    parsed.matches parsed.kinds c.in-Some.ensures.name c.in-Some.ensures.rows in
    let none : command_named (app_for c.args.program.now) line ≡ None =
    ap (option_and_then (λ (p : Text × List Row). command_of p.0 p.1)) known.0
    ∙ sym c.in_default-command_by.ensures in
    rejected (map shape_for c.args.program.now.subcommands.now) line
    c.no_subcommand-in_default-command_by.result
    (λ taken named. absurd (true≢false (sym named ∙ ap is_some none)))
    (c.no_subcommand-in_default-command_by.ensures _ known.1)

pub returns : goal.returns
returns c =
    let parsed = c.in-Ok-try_get_matches_from.ensures in
    let known = accepted (texts c.args.words.now) c.in-Ok-try_get_matches_from.matches _ _
    c.in-Ok.ensures c.requires parsed.matches parsed.kinds c.in-Some.ensures.name
    c.in-Some.ensures.rows in
    record {
      ok = ap (option_and_then (λ (p : Text × List Row). command_of p.0 p.1)) known.0
          ∙ sym c.in-Some-command_by.ensures;
      words = ap (λ found. option_map_or (λ (p : Text × List Row). words_of p.1) found []) known.0
          ∙ sym c.in-Ok-words_of.ensures;
      explained = ap (λ found. option_map_or (λ (p : Text × List Row). is_explained p.0 p.1) found
          false) known.0 ∙ sym c.explains.ensures;
      taken = known.1;
      err = tt;
      reported = tt;
      first = tt;
    }
