use Rattle.dap_message.proofs.Contents.{one_message, one_refusal, typed_not_refused}
use Rattle.dap_message.proofs.laws.one_outcome.Goals as goal

pub returns-clause-one_message : goal.returns-clause-one_message
returns-clause-one_message c = one_message

pub returns-clause-one_refusal : goal.returns-clause-one_refusal
returns-clause-one_refusal c = one_refusal

pub returns-clause-not_both : goal.returns-clause-not_both
returns-clause-not_both c = typed_not_refused
