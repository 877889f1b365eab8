use Rattle.std.proofs.Common.{◌≡◌, ℕ, ◌<◌, ◌≤◌, length, Option, Some, None, get_or, inl, inr, arith}
use Rattle.std.proofs.Common.{refl, ap, sym, ◌∙◌, subst}
use Rattle.std.proofs.lemmas.List.{get_or_read}
use Rattle.dap_order.specs.Links.{IsBelow, HasFrom}
use Rattle.dap_order.specs.Progress.{IsListed}
use Rattle.dap_order.proofs.FollowerLists.{next_cell, no_cell, below_more}
use Rattle.dap_order.proofs.Lists.{got}
use Rattle.dap_order.proofs.Standing.{listed_stays}
use Rattle.dap_order.proofs.Walking.{steps}
use Rattle.dap_order.proofs.progress.Progress.consider_followers.Goals as goal

-- From an index that is less than i there are fewer steps than from i.
falls : (i : ℕ) (o : Option ℕ) → IsBelow i o → steps o < steps (Some i)
falls i None h = omega arith
falls i (Some j) h = omega arith

pub index-next-requires : goal.index-next-requires
index-next-requires c =
    omega (arith, c.requires.in_range, c.requires.links.followers.len, c.args.links.now.firsts.ok.0)

pub loop-next-init : goal.loop-next-init
loop-next-init c =
    let lists = c.requires.links.followers in
    let links = c.args.links.now in
    let place = c.args.place in
    let low : place < length links.firsts.items = omega (arith, c.requires.in_range, lists.len) in
    let is = get_or_read links.firsts.items place c.index-next.result.now low c.index-next.ensures
    None in
    record {
      represents = c.requires.represents;
      written = refl;
      released = refl;
      kept = λ rank had. had;
      next = subst (IsBelow (length links.cells.items)) (sym is) (lists.first place None low);
      listed = λ other below follows. inr (subst (HasFrom links.cells.items other) (sym is)
          (lists.has place other below follows));
    }

pub index-cell-requires : goal.index-cell-requires
index-cell-requires c =
    let cells = c.args.links.now.cells in
    let low = subst (IsBelow (length cells.items)) c.in-Some.is c.loop-next.invariant.next in
    omega (arith, low, cells.ok.0)

pub consider-requires-clause-in_range : goal.consider-requires-clause-in_range
consider-requires-clause-in_range c =
    let cells = c.args.links.now.cells.items in
    let low = subst (IsBelow (length cells)) c.in-Some.is c.loop-next.invariant.next in
    let cell = c.index-cell.result.now in
    (c.requires.links.followers.next c.in-Some.index cell
    (got cells c.in-Some.index cell low c.index-cell.ensures)).0

pub consider-requires-clause-represents : goal.consider-requires-clause-represents
consider-requires-clause-represents c = c.loop-next.invariant.represents

pub loop-next-smaller : goal.loop-next-smaller
loop-next-smaller c =
    let cells = c.args.links.now.cells.items in
    let low = subst (IsBelow (length cells)) c.in-Some.is c.loop-next.invariant.next in
    let cell = c.index-cell.result.now in
    subst (λ (o : Option ℕ). steps cell.next < steps o) (sym c.in-Some.is)
    (falls c.in-Some.index cell.next (c.requires.links.followers.next c.in-Some.index cell
    (got cells c.in-Some.index cell low c.index-cell.ensures)).1)

pub loop-next-preserved : goal.loop-next-preserved
loop-next-preserved c =
    let plan = c.args.plan.now in
    let links = c.args.links.now in
    let cells = links.cells.items in
    let new = c.consider.new.self in
    let so_far = c.loop-next.invariant in
    let one = c.in_ok-consider.ensures in
    let cell = c.index-cell.result.now in
    let i = c.in-Some.index in
    let low : i < length cells = subst (IsBelow (length cells)) c.in-Some.is so_far.next in
    let at = got cells i cell low c.index-cell.ensures in
    record {
      represents = one.represents;
      written = one.written ∙ so_far.written;
      released = one.released ∙ so_far.released;
      kept = λ rank had. one.kept rank (so_far.kept rank had);
      next = below_more i (length cells) cell.next (omega arith)
          (c.requires.links.followers.next i cell at).1;
      listed = λ other in_range follows. elim (so_far.listed other in_range follows) [
        | inl was ↦ inl (listed_stays plan links c.loop-next.self new other one.written
            one.released one.kept was)
        | inr ahead ↦ elim (next_cell cells other i cell c.loop-next.next c.in-Some.is at ahead) [
          | inl is ↦ inl (subst (IsListed plan links new) is one.listed)
          | inr rest ↦ inr rest
        ]
      ];
    }

pub returns : goal.returns
returns c =
    let so_far = c.loop-next.invariant in
    record {
      represents = so_far.represents;
      written = so_far.written;
      released = so_far.released;
      kept = so_far.kept;
      listed = λ other below follows. elim (so_far.listed other below follows) [
        | inl was ↦ was
        | inr ahead ↦ absurd (no_cell c.args.links.now.cells.items other c.loop-next.next
            c.in_default.is ahead)
      ];
    }
