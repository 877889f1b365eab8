use Rattle.dap_golden.proofs.laws.equal_golden_texts.Goals as goal

pub returns : goal.returns
returns c = λ limits mode mask rules allow_open either input other a b one two.
    one.of_session.canonical.tells two.session b.bytes.items two.of_session.canonical.normalises
