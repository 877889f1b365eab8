use Rattle.std.proofs.Common.{◌≡◌, true, take}
use Rattle.std.specs.List.{list_all}
use Rattle.dap_transcript.specs.Names.{is_name_byte}
use Rattle.dap_transcript.proofs.names.name_end.Given as goal

abbrev pub invariant-loop-place : goal.invariant-loop-place
invariant-loop-place l = list_all is_name_byte (take l.place l.text) ≡ true
