use Rattle.dap_words.proofs.ClearedUuids.{uuids_are, uuid_twice}
use Rattle.dap_words.proofs.Utf8.{uuid_utf8}
use Rattle.dap_words.proofs.text_laws.uuids.Goals as goal

pub returns : goal.returns
returns c = record { are = uuids_are; twice = uuid_twice; utf8 = uuid_utf8 }
