use Rattle.dap_tree.proofs.IdNumbers.{skeleton-with, with_others, same_from_skeleton, sorts_alike}
use Rattle.dap_tree.proofs.IdNumbers.{count_alike, depth-skeleton, sound-skeleton, ordered-skeleton}
use Rattle.dap_tree.proofs.IdNumbers.{utf8-skeleton}
use Rattle.dap_tree.proofs.laws.skeletons_are_all_but_numbers.Goals as goal

pub returns : goal.returns
returns c = record {
  same = skeleton-with;
  differ = with_others;
  reported = same_from_skeleton;
  sorts = sorts_alike;
  count = count_alike;
  depth = depth-skeleton;
  sound = sound-skeleton;
  ordered = ordered-skeleton;
  utf8 = utf8-skeleton;
}
