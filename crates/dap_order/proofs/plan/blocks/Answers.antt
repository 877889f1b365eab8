use Rattle.std.proofs.Common.{◌≡◌, ◌<◌, [], length, get_or, sym, ap, ◌∙◌, subst, arith}
use Rattle.std.proofs.lemmas.List.{get_or-map, get_or_read, length-map}
use Rattle.dap_order.proofs.plan.blocks.Goals as goal

pub index-requires-3 : goal.index-requires-3
index-requires-3 c =
    let groups = c.args.plan.now.groups.items in
    let rows = c.args.plan.now.blocks.items in
    let group = get_or groups c.args.place 0 in
    let in_range : group < length rows =
    c.requires.well_formed.groups_in_range c.args.place 0 c.requires.in_range in
    let row = c.index-2.result.now in
    let is_group : c.index.result.now ≡ group =
    get_or_read groups c.args.place c.index.result.now c.requires.in_range c.index.ensures 0 in
    let is_row : row ≡ get_or rows group row =
    subst (λ k. row ≡ get_or rows k row) is_group c.index-2.ensures in
    let long =
    c.requires.well_formed.square group []
    (subst (λ k. group < k) (sym (length-map rows (λ row. row.items))) in_range) in
    let same : length row.items ≡ length rows =
    ap (λ v. length v.items) is_row
    ∙ sym (ap length (get_or-map (λ row. row.items) rows group row [] in_range)) ∙ long in
    omega (arith, row.ok, same, c.requires.group_in_range)
