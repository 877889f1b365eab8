use Rattle.std.proofs.Common.{ℕ, ◌<◌, map, length, Option, sym, ap}
use Rattle.std.proofs.Common.{◌∙◌, subst, arith, Vec, Global}
use Rattle.dap_order.specs.Keys.{class_key, is_numbered_response, IsKeyAt, IsLastBelow}
use Rattle.dap_order.specs.Waits.{are_tied, Covers}
use Rattle.dap_order.proofs.Lists.{there, get_map, len_map}
use Rattle.dap_order.proofs.PreviousPlaces.{previous_at}
use Rattle.dap_order.proofs.Covering.{covers_first, covers_class}
use Rattle.dap_order.proofs.waits.Earlier.waits_of.Goals as goal
use Rattle.dap_order.proofs.waits.Earlier.waits_of.Goals.{in-Some+in_ok-push, in_default}

pub returns : goal.returns
returns c ms is =
    let e = c.args.self.now in
    let low : c.args.place < length ms =
    omega (
      arith,
      c.requires.2,
      ap length is.are_responses,
      ap length c.requires.1.are_responses,
      len_map is_numbered_response ms,
      len_map is_numbered_response c.requires.0,
    ) in
    let y = there ms c.args.place low in
    let covers = c.in_ok-waits.ensures ms is in
    let last = previous_at (map class_key ms) class_key ms e.in_class.items is.in_class
    c.args.place (class_key y.0) c.index.result.now
    (get_map class_key ms c.args.place y.0 y.1) c.index.ensures in
    elim c.match-index.branch [
      | in-Some+in_ok-push w ↦ (
          subst (Covers are_tied ms c.args.place)
          (sym (ap (λ (v : Vec ℕ Global). v.items) w.waits-is ∙ w.in_ok-push.ensures.items))
          (covers_class ms c.args.place y.0 c.in_ok-waits.waits.items w.in-Some.earlier y.1 covers
          (subst (λ (o : Option ℕ). IsLastBelow (IsKeyAt (map class_key ms) (class_key y.0))
          c.args.place o) w.in-Some.is last))
          )
      | in_default w ↦ (
          subst (Covers are_tied ms c.args.place)
          (sym (ap (λ (v : Vec ℕ Global). v.items) w.waits-is))
          (covers_first ms c.args.place y.0 c.in_ok-waits.waits.items y.1 covers
          (subst (λ (o : Option ℕ). IsLastBelow (IsKeyAt (map class_key ms) (class_key y.0))
          c.args.place o) w.in_default.is last))
          )
    ]
