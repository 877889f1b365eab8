use Rattle.dap_words.proofs.Refused.{digits_uuid, hex_digits, hex_long, hex_uuid, long_uuid}
use Rattle.dap_words.proofs.Refused.{uuid_digits}
use Rattle.dap_words.proofs.text_laws.not_one_after_another.Goals as goal

pub returns : goal.returns
returns c = record {
  digits_uuid = digits_uuid;
  hex_digits = hex_digits;
  hex_long = hex_long;
  hex_uuid = hex_uuid;
  long_uuid = long_uuid;
  uuid_digits = uuid_digits;
}
