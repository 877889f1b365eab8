use Rattle.std.proofs.Common.{◌∙◌, sym, arith}
use Rattle.std.proofs.lemmas.List.Folds.{list_all_more}
use Rattle.dap_tree.proofs.Booleans.{and_both}
use Rattle.dap_transcript.specs.Names.{is_name_byte}
use Rattle.dap_transcript.proofs.names.name_end.Goals as goal

pub loop-place-preserved : goal.loop-place-preserved
loop-place-preserved c =
    let l = c.loop-place in
    list_all_more is_name_byte c.args.text.now l.place 0 (omega arith)
    ∙ and_both _ _ l.invariant (sym c.is_name_byte.ensures ∙ c.if-not-is_name_byte.false)
