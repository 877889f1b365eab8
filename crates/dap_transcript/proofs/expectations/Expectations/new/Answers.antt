use Rattle.std.proofs.Common.{refl}
use Rattle.dap_tree.specs.declared.side.Side.TheVariants.{Client, Adapter}
use Rattle.dap_transcript.proofs.expectations.Expectations.new.Goals as goal

pub returns : goal.returns
returns c = record {
  numbers = c.new-numbers.ensures;
  client = c.new-client.ensures Client;
  adapter = c.new-adapter.ensures Adapter;
  place = refl;
}
