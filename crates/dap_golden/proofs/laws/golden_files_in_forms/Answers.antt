use Rattle.dap_golden.proofs.EqualFiles.{equal_golden_files}
use Rattle.dap_golden.proofs.WrittenFiles.{golden_file_is_read, one_golden_file}
use Rattle.dap_golden.proofs.laws.golden_files_in_forms.Goals as goal

pub returns : goal.returns
returns c = record {
  one = one_golden_file;
  read = golden_file_is_read;
  equal = equal_golden_files c.equal_transcripts.ensures;
}
