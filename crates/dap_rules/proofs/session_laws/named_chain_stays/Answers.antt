use Rattle.dap_rules.proofs.NamedChain.{named_stays_renamed, named_chain_stays}
use Rattle.dap_rules.proofs.session_laws.named_chain_stays.Goals as goal

pub returns : goal.returns
returns c = record {
  renamed = named_stays_renamed;
  chain = named_chain_stays;
}
