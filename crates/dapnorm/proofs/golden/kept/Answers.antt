use Rattle.std.proofs.Common.{◌≡◌, ◌∙◌, ap, refl, subst}
use Rattle.std.specs.Prelude.{Option, Ok, Err, Result, Vec, ℕ, option_map}
use Rattle.std.specs.declared.alloc.Global.{Global}
use Rattle.dap_commands.specs.declared.commands.Golden.{Golden}
use Rattle.dap_device.specs.Crash.{LeavesOnly}
use Rattle.dap_device.specs.declared.file.Replaceable.{Ghosts as Replaceable}
use Rattle.dap_golden.specs.{Golden.mask_given, GoldenForms.form_of_name}
use Rattle.dap_golden.specs.GoldenUpdates.{Answers, MayBeLeft}
use Rattle.dap_golden.specs.declared.forms.GoldenForm.{GoldenForm}
use Rattle.dap_golden.specs.declared.updates.GoldenRequest.{GoldenRequest}
use Rattle.dap_golden.specs.declared.updates.{GoldenDone.GoldenDone, GoldenStop.GoldenStop}
use Rattle.dap_host.specs.declared.limits.TheConstants.{LIMITS}
use Rattle.dap_mask.specs.{KeptRules.mask_of, Mask.Mask, declared.mask_rules.MaskRules.MaskRules}
use Rattle.dapnorm.specs.Goldens.{Keeps}
use Rattle.dapnorm.proofs.golden.kept.Goals as goal

-- What the options request, in this form.
abbrev request_in : Golden → GoldenForm → GoldenRequest
request_in golden form = record {
  update = golden.update;
  allow_open = golden.«open»;
  form = form;
  mode = golden.mode;
}

-- `golden_file` ran with the rules that are given, in the form of the name.
keeps : {T : Type 0} (file : Replaceable T) (golden : Golden) (rules : Option MaskRules)
    (session : Vec ℕ Global) (old new : T) (outcome : Result GoldenDone GoldenStop)
    (given : Option Mask) (form : GoldenForm) → given ≡ option_map mask_of rules
    → form ≡ form_of_name golden.golden
    → Answers file LIMITS given (request_in golden form) session.items old new outcome
    → (file.is_known old → LeavesOnly file.moment file.left_since
    (MayBeLeft file LIMITS given (request_in golden form) session.items old) old new)
    → Keeps file golden rules session old new outcome
keeps file golden rules session old new outcome given form given_is form_is answers any_moment =
    record {
      answers = subst
          (λ (f : GoldenForm). Answers file LIMITS (option_map mask_of rules)
          (request_in golden f) session.items old new outcome)
          form_is (rw given_is at answers);
      any_moment = subst
          (λ (f : GoldenForm). file.is_known old → LeavesOnly file.moment file.left_since
          (MayBeLeft file LIMITS (option_map mask_of rules) (request_in golden f) session.items old)
          old new)
          form_is (rw given_is at any_moment);
    }

pub returns-in-Ok : goal.returns-in-Ok
returns-in-Ok g c = (
  c.new-name.ensures ∙ c.as_str.ensures,
  keeps g.T.Replaceable c.args.golden.now c.args.rules c.args.session c.args.file.now
      c.golden_file.new.file (Ok c.in-Ok.done) (mask_given c.given.result) c.of_name.result
      c.given.ensures (c.of_name.ensures ∙ ap form_of_name c.as_str-2.ensures)
      c.in-Ok.ensures.outcome c.in-Ok.ensures.any_moment,
)

pub returns : goal.returns
returns g c = (
  c.new-name.ensures ∙ c.as_str.ensures,
  refl,
  keeps g.T.Replaceable c.args.golden.now c.args.rules c.args.session c.args.file.now
      c.golden_file.new.file (Err c.in-Err.stop) (mask_given c.given.result) c.of_name.result
      c.given.ensures (c.of_name.ensures ∙ ap form_of_name c.as_str-2.ensures)
      c.in-Err.ensures.outcome c.in-Err.ensures.any_moment,
)
