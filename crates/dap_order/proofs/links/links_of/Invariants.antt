use Rattle.std.proofs.Common.{get_or, None}
use Rattle.std.specs.List.{AllWithin}
use Rattle.dap_order.specs.Links.{HasFrom, FollowBelow}
use Rattle.dap_order.proofs.links.links_of.Given as goal

abbrev pub invariant-loop-place : goal.invariant-loop-place
invariant-loop-place l = FollowBelow l.plan l.firsts.items l.cells.items l.place

abbrev pub invariant-loop-earlier : goal.invariant-loop-earlier
invariant-loop-earlier l = record {
  below : FollowBelow l.plan l.firsts.items l.cells.items l.place;
  added : AllWithin (λ list. HasFrom l.cells.items l.place (get_or l.firsts.items list None))
      l.earlier-items 0 l.earlier-index;
}
