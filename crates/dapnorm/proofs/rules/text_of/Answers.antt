use Rattle.dapnorm.proofs.rules.text_of.Goals as goal

pub returns-in-Some : goal.returns-in-Some
returns-in-Some g c = rw (c.in-Some.is) (c.read_file.new.file, c.read_file.ensures.reads)
