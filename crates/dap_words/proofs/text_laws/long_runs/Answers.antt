use Rattle.dap_words.proofs.LongRuns.{long_are, long_twice}
use Rattle.dap_words.proofs.Utf8.{long_utf8}
use Rattle.dap_words.proofs.text_laws.long_runs.Goals as goal

pub returns : goal.returns
returns c = record { are = long_are; twice = long_twice; utf8 = long_utf8 }
