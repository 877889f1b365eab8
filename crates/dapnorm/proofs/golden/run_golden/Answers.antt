use Rattle.std.proofs.Common.{◌∙◌, ℕ, List, Option, None, Ok, Err, inl, inr, refl, rules, subst}
use Rattle.dap_host.specs.declared.{host.Purpose.TheVariants.Input, limits.TheConstants.LIMITS}
use Rattle.dapnorm.proofs.Kept.{is_left}
use Rattle.dapnorm.specs.{Goldens.Replaces, Readings.IsFileRead, Rules.AreGivenRules}
use Rattle.dapnorm.proofs.golden.run_golden.Goals as goal

pub returns-in-Err-clause-run : goal.returns-in-Err-clause-run
returns-in-Err-clause-run g c = inl (
  subst (λ (name : Option (List ℕ)). AreGivenRules (g.H.Host.files c.args.host.now) g.H.Input.Source
      name c.args.values.now (Err c.in-Err.why)) c.text_of.ensures c.in-Err.ensures,
  search rules,
)

pub returns-in-Err-read_file-clause-run : goal.returns-in-Err-read_file-clause-run
returns-in-Err-read_file-clause-run g c = inl (
  (
    c.in-Ok.rules,
    subst (λ (name : Option (List ℕ)). AreGivenRules (g.H.Host.files c.args.host.now)
        g.H.Input.Source name c.args.values.now (Ok c.in-Ok.rules)) c.text_of.ensures
        c.in-Ok.ensures,
  ),
  subst (λ (name : List ℕ). IsFileRead (g.H.Host.files c.args.host.now) g.H.Input.Source Input name
      LIMITS.input c.read_file.new.file (Err c.in-Err-read_file.why)) c.input_name-name.ensures
      c.in-Err-read_file.ensures.reads,
  search rules,
)

pub returns-in-Err-target-clause-run : goal.returns-in-Err-target-clause-run
returns-in-Err-target-clause-run g c = inl (
  c.new-in-Err-target.ensures ∙ c.as_str-path.ensures,
  refl,
  rw (c.as_str-path.ensures) at c.in-Err-target.ensures.err,
  (
    c.in-Ok.rules,
    subst (λ (name : Option (List ℕ)). AreGivenRules (g.H.Host.files c.args.host.now)
        g.H.Input.Source name c.args.values.now (Ok c.in-Ok.rules)) c.text_of.ensures
        c.in-Ok.ensures,
  ),
  (c.in-Ok-read_file.session, rw (c.input_name-name.ensures) at c.in-Ok-read_file.ensures.reads),
)

pub returns-clause-run : goal.returns-clause-run
returns-clause-run g c = inr record {
  rules = c.in-Ok.rules;
  session = c.in-Ok-read_file.session;
  apart = subst (λ (name : List ℕ). Replaces (g.H.Host.files c.args.host.now) c.args.golden.now
      name None) c.input_name-name.ensures (search rules);
  are_rules = subst (λ (name : Option (List ℕ)). AreGivenRules (g.H.Host.files c.args.host.now)
      g.H.Input.Source name c.args.values.now (Ok c.in-Ok.rules)) c.text_of.ensures c.in-Ok.ensures;
  is_input = rw (c.input_name-name.ensures) at c.in-Ok-read_file.ensures.reads;
  kept = is_left c.insert-target.result.now c.kept.new.file
      (subst (λ (name : List ℕ). (g.H.Host.files c.args.host.now).targets c.args.golden.now.update
      name c.insert-target.result.now) c.as_str-path.ensures (search rules)) c.kept.ensures;
}
