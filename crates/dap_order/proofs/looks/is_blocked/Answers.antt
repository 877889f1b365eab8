use Rattle.std.proofs.Common.{◌≡◌, ℕ, ◌≤◌, true, List, map, length, Some, None, ap, ◌∙◌}
use Rattle.std.proofs.Common.{refl, arith}
use Rattle.std.specs.Prelude.{slice_get, not}
use Rattle.std.proofs.lemmas.Option.{slice_get_past}
use Rattle.dap_message.specs.Message.{Sent}
use Rattle.dap_message.specs.SwapRules.{SwapRule}
use Rattle.dap_order.specs.Entries.{sent_by}
use Rattle.dap_order.specs.Free.{may_swap}
use Rattle.dap_order.specs.Looks.{blocks_at}
use Rattle.dap_order.proofs.Lists.{get_map, got, len_map}
use Rattle.dap_order.proofs.looks.is_blocked.Goals as goal

blocks_past : (rules : List SwapRule) (ms : List Sent) (i j : ℕ) → slice_get ms i ≡ None
    → true ≡ blocks_at rules ms i j
blocks_past rules ms i j e = rw e refl

blocks_before_past : (rules : List SwapRule) (ms : List Sent) (i j : ℕ) (x : Sent)
    → slice_get ms i ≡ Some x → slice_get ms j ≡ None → true ≡ blocks_at rules ms i j
blocks_before_past rules ms i j x e f = rw (e, f) refl

blocks_there : (rules : List SwapRule) (ms : List Sent) (i j : ℕ) (x y : Sent)
    → slice_get ms i ≡ Some x → slice_get ms j ≡ Some y
    → not (may_swap rules x y) ≡ blocks_at rules ms i j
blocks_there rules ms i j x y e f = rw (e, f) refl

pub returns-in_default : goal.returns-in_default
returns-in_default g c =
    let entries = c.args.entries.now in
    let past : length entries ≤ c.args.place = c.in_default.ensures.lookup.3 in
    λ rules are. blocks_past rules (map sent_by entries) c.args.place c.args.other
    (slice_get_past (map sent_by entries) c.args.place
    (omega (arith, len_map sent_by entries)))

pub returns-in_default-get : goal.returns-in_default-get
returns-in_default-get g c =
    let entries = c.args.entries.now in
    let x = c.in-Some.x.now in
    let past : length entries ≤ c.args.other = c.in_default-get.ensures.lookup.3 in
    λ rules are. blocks_before_past rules (map sent_by entries) c.args.place c.args.other
    (sent_by x)
    (get_map sent_by entries c.args.place x (got entries c.args.place x
    c.in-Some.ensures.lookup.3.0 c.in-Some.ensures.lookup.1))
    (slice_get_past (map sent_by entries) c.args.other
    (omega (arith, len_map sent_by entries)))

pub returns : goal.returns
returns g c =
    let entries = c.args.entries.now in
    let x = c.in-Some.x.now in
    let y = c.in-Some-get.y.now in
    let first = get_map sent_by entries c.args.place x (got entries c.args.place x
    c.in-Some.ensures.lookup.3.0 c.in-Some.ensures.lookup.1) in
    λ rules are. ap not (c.may_swap.ensures rules (are (sent_by x) first))
    ∙ blocks_there rules (map sent_by entries) c.args.place c.args.other
    (sent_by x) (sent_by y) first
    (get_map sent_by entries c.args.other y (got entries c.args.other y
    c.in-Some-get.ensures.lookup.3.0 c.in-Some-get.ensures.lookup.1))
