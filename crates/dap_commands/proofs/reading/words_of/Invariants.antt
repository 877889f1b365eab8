use Rattle.std.proofs.Common.{◌≡◌, map, take}
use Rattle.dap_commands.proofs.reading.words_of.Given as goal

abbrev pub invariant-loop-text : goal.invariant-loop-text
invariant-loop-text l = l.words.items ≡ map (λ text. text.now) (take l.text-index l.texts)
