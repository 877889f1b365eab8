use Rattle.std.proofs.Common.{◌≡◌, true, rules}
use Rattle.std.specs.Prelude.{is_none}
use Rattle.dap_mask.specs.KeptRules.{mask_of}
use Rattle.dap_rename.specs.declared.mode.Mode.TheVariants.{Whole}
use Rattle.dap_rules.specs.Modes.{mode_by}
use Rattle.dap_stored.specs.Sessions.{messages_of}
use Rattle.dap_suggest.proofs.AlreadySame.{none_first}
use Rattle.dap_suggest.proofs.sessions.are_same.Goals as goal

pub returns : goal.returns
returns c =
    let inputs = c.args.inputs.now in
    let mask = mask_of c.args.rules.now in
    λ have.
    let none : is_none c.in_ok-first.first ≡ true =
    none_first inputs.limits (mode_by mask Whole) mask inputs.a.now inputs.b.now
    (messages_of c.args.sessions.now.a) (messages_of c.args.sessions.now.b) c.in_ok-first.first have
    c.requires.made.0 c.requires.made.1 c.in_ok-first.ensures in
    search rules
