use Rattle.dap_normalise.proofs.StreamWriting.{given_up}
use Rattle.dap_normalise.proofs.normalising.normalise_with.Goals as goal

pub returns-in_default-clause-outcome : goal.returns-in_default-clause-outcome
returns-in_default-clause-outcome g c =
    given_up g.R.Source g.W.Sink
    c.args.limits c.args.mode c.args.reader.now c.args.writer.now
