use Rattle.dap_words.proofs.Machines.{two_machines}
use Rattle.dap_words.proofs.WordLists.{two_word_lists}
use Rattle.dap_words.proofs.text_laws.two_machines.Goals as goal

pub returns : goal.returns
returns c = record { one_text = two_machines; texts = two_word_lists }
