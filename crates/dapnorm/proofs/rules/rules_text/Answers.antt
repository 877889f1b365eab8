use Rattle.dapnorm.proofs.rules.rules_text.Goals as goal

pub returns-in-Ok-with_values : goal.returns-in-Ok-with_values
returns-in-Ok-with_values g c = (c.in-Ok.text, c.in-Ok.ensures, c.in-Ok-with_values.ensures.ok)

pub returns-in-Err-with_values : goal.returns-in-Err-with_values
returns-in-Err-with_values g c = (c.in-Ok.text, c.in-Ok.ensures, c.in-Err-with_values.ensures.err)
