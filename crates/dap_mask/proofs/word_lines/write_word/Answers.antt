use Rattle.dap_words.specs.Words.{pair_of}
use Rattle.dap_mask.proofs.WordLines.{line_is_word, ok_then}
use Rattle.dap_mask.proofs.word_lines.write_word.Goals as goal

pub returns-clause-said : goal.returns-clause-said
returns-clause-said c =
    ok_then c.write_text-2.result
    (λ read. line_is_word (pair_of c.args.word) c.in_ok-write_text.ensures.read read)
    c.write_text-2.ensures.read
