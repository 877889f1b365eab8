use Rattle.dap_order.proofs.Independence.{free_both_ways}
use Rattle.dap_order.proofs.FreeInWords.{free_in_words}
use Rattle.dap_order.proofs.message_laws.free_messages.Goals as goal

pub returns-clause-words : goal.returns-clause-words
returns-clause-words c = free_in_words

pub returns-clause-both_ways : goal.returns-clause-both_ways
returns-clause-both_ways c = free_both_ways
