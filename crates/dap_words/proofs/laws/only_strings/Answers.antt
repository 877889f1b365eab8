use Rattle.std.proofs.Common.{true}
use Rattle.dap_words.proofs.WordedDocs.{worded_none, sound_worded, id_worded, ordered_worded}
use Rattle.dap_words.proofs.WordedDocs.{utf8_worded}
use Rattle.dap_words.proofs.WordedPaths.{worded_by_path, told_kept}
use Rattle.dap_words.proofs.laws.only_strings.Goals as goal

pub returns-clause-paths : goal.returns-clause-paths
returns-clause-paths c = worded_by_path

pub returns-clause-kind : goal.returns-clause-kind
returns-clause-kind c = told_kept

pub returns-clause-none : goal.returns-clause-none
returns-clause-none c = worded_none true

pub returns-clause-ids : goal.returns-clause-ids
returns-clause-ids c = λ pairs. id_worded pairs true

pub returns-clause-sound : goal.returns-clause-sound
returns-clause-sound c = λ pairs. sound_worded pairs true

pub returns-clause-ordered : goal.returns-clause-ordered
returns-clause-ordered c = λ pairs. ordered_worded pairs true

pub returns-clause-utf8 : goal.returns-clause-utf8
returns-clause-utf8 c = λ pairs d u h. utf8_worded pairs u true d h
