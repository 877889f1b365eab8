use Rattle.dap_tokens.proofs.NamedStrings.{names_are_read, named_twice}
use Rattle.dap_tokens.proofs.EqualStrings.{equal_named}
use Rattle.dap_naming.proofs.SessionsNamed.{equal_named_sessions, named_session_stays}
use Rattle.dap_naming.proofs.laws.named_sessions.Goals as goal

pub returns : goal.returns
returns c = record {
  equal = equal_named_sessions names_are_read named_twice equal_named;
  stays = named_session_stays names_are_read named_twice equal_named;
}
