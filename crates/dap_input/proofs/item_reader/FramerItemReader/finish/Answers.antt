use Rattle.dap_input.proofs.item_reader.FramerItemReader.finish.Goals as goal

pub returns-in-Ok-clause-ok : goal.returns-in-Ok-clause-ok
returns-in-Ok-clause-ok c = λ limits bytes represents. c.in-Ok.ensures.ok bytes represents.1
