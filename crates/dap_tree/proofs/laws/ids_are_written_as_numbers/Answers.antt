use Rattle.std.proofs.Common.{ap}
use Rattle.serde_json.specs.Written.{compact_text}
use Rattle.dap_tree.proofs.WithoutIds.{sound_without, without_no_id, data-without}
use Rattle.dap_tree.proofs.Texts.{text_is_read}
use Rattle.dap_tree.proofs.laws.ids_are_written_as_numbers.Goals as goal

pub returns : goal.returns
returns c = record {
  plain = sound_without;
  same = without_no_id;
  text = λ d. ap compact_text (data-without d);
  read = text_is_read;
}
