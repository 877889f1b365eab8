use Rattle.dapnorm.proofs.rules.rules_of.Goals as goal

pub returns-in-Ok-read : goal.returns-in-Ok-read
returns-in-Ok-read g c =
    (c.in-Ok.text, c.in-Ok.ensures, rw (c.as_slice.ensures.value) at c.in-Ok-read.ensures.ok)

pub returns-in-Memory : goal.returns-in-Memory
returns-in-Memory g c = (c.in-Ok.text, c.in-Ok.ensures)
