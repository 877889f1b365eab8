use Rattle.std.proofs.Common.{ℕ, List, ◌++◌, subst}
use Rattle.dap_host.specs.declared.limits.TheConstants.{LIMITS}
use Rattle.dap_rename.specs.declared.mode.Mode.{Mode}
use Rattle.dap_suggest.specs.NotSuggested.{AreAccepted, IsNotSuggested}
use Rattle.dap_suggest.specs.Suggested.{AreSameBy}
use Rattle.dap_suggest.proofs.Refusals.{accepted_are_short}
use Rattle.dapnorm.specs.Suggestions.{AddNarrowRules}
use Rattle.dapnorm.proofs.suggest.suggestion.Goals as goal

pub returns-in-Ok : goal.returns-in-Ok
returns-in-Ok c =
    let found = c.in-Ok.found.rules.items in
    let Makes : List ℕ → Type 0 = λ given. ((mode : Mode)
    × AreSameBy LIMITS mode (given ++ found) c.args.a.now c.args.b.now)
    × AddNarrowRules c.args.strict given found in
    let is = c.in-Ok.ensures in
    let made : Makes c.as_slice.result.now =
    ((c.in-Ok.found.mode, is.ok), (is.narrow, is.strict)) in
    subst Makes c.as_slice.ensures.value made

pub returns-in-Err-NoRules : goal.returns-in-Err-NoRules
returns-in-Err-NoRules c =
    let Explains = IsNotSuggested LIMITS c.as_slice.result.now c.args.a.now c.args.b.now in
    let explained = subst Explains c.in-Err-NoRules.field-0-is c.in-Err-NoRules.ensures.err in
    let accepted = subst AreAccepted c.as_slice.ensures.value explained.0 in
    accepted_are_short c.args.given.items accepted.0 accepted.1
