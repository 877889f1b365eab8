use Rattle.dap_tokens.proofs.NamedStrings.{names_are_read, named_twice}
use Rattle.dap_tokens.proofs.EqualStrings.{equal_named}
use Rattle.dap_naming.proofs.Messages.{equal_named_lists, named_list_stays}
use Rattle.dap_naming.proofs.laws.named_lists.Goals as goal

pub returns : goal.returns
returns c = record {
  equal = equal_named_lists names_are_read named_twice equal_named;
  stays = named_list_stays names_are_read named_twice equal_named;
}
