use Rattle.std.proofs.Common.{ap, option_map}
use Rattle.dap_tokens.specs.declared.form.Form.TheVariants.{Whole}
use Rattle.dap_naming.proofs.texts.name_bytes.Goals as goal

pub name_token-requires : goal.name_token-requires
name_token-requires c =
    c.requires Whole c.in-Some.label.now (ap (option_map (λ t. t.now)) c.in-Some.is)
