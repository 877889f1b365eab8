use Rattle.dap_rules.proofs.OrderedTexts as texts
use Rattle.dap_rules.proofs.order_laws.equal_ordered_texts.Goals as goal

pub returns : goal.returns
returns c = record { whole = texts.equal_ordered_texts; each_mode = texts.equal_texts_in_order }
