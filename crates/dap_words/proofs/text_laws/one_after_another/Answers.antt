use Rattle.dap_words.proofs.Settled.{digits_after_long, long_after_digits}
use Rattle.dap_words.proofs.HexPairs.{long_after_hex, uuid_after_hex}
use Rattle.dap_words.proofs.LongPairs.{uuid_after_long}
use Rattle.dap_words.proofs.text_laws.one_after_another.Goals as goal

pub returns : goal.returns
returns c = record {
  digits_long = digits_after_long;
  long_digits = long_after_digits;
  long_hex = long_after_hex;
  uuid_hex = uuid_after_hex;
  uuid_long = uuid_after_long;
}
