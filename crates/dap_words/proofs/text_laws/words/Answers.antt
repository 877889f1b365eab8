use Rattle.dap_words.proofs.ReplacedTexts.{replaced_is, replaced_is_one}
use Rattle.dap_words.proofs.WordsUtf8.{replaced_utf8}
use Rattle.dap_words.proofs.text_laws.words.Goals as goal

pub returns : goal.returns
returns c = record { is = replaced_is; is_one = replaced_is_one; utf8 = replaced_utf8 }
