use Rattle.std.proofs.Common.{get_or, eqb, refl, arith}
use Rattle.std.proofs.lemmas.Bool.{agree_below_at}
use Rattle.dap_transcript.specs.Names.{is_name_byte}
use Rattle.dap_transcript.specs.declared.names.TheConstants.{NAME_BYTES}
use Rattle.dap_transcript.proofs.names.is_name_byte.Goals as goal

pub returns : goal.returns
returns c =
    agree_below_at (λ b. eqb (get_or NAME_BYTES b 0) 1) is_name_byte 256 c.args.byte refl
    (omega arith)
