use Rattle.std.proofs.Common.{◌≡◌, true, false, sym, ap, ◌∙◌, not, ◌&&◌}
use Rattle.std.specs.List.{list_any}
use Rattle.std.proofs.lemmas.Bool.{and_left}
use Rattle.dap_message.specs.SwapRules.{swaps_of}
use Rattle.dap_session.specs.EnvelopeView.{message_of}
use Rattle.dap_order.specs.Free.{free, names_both, depends}
use Rattle.dap_order.proofs.RuleLists.{any_swap}
use Rattle.dap_order.proofs.rules.frees.Goals as goal

pub returns-else-some_names_both : goal.returns-else-some_names_both
unfolding free
returns-else-some_names_both g c =
    let x = message_of c.args.x.now in
    let y = message_of c.args.y.now in
    let rules = swaps_of c.args.rules.now in
    let none : list_any (λ r. names_both r x y) rules ≡ false =
    sym (any_swap (λ r. names_both r x y) c.args.rules.now) ∙ sym c.some_names_both.ensures
    ∙ c.if-some_names_both.false in
    c.if-some_names_both.false
    ∙ sym (and_left (list_any (λ r. names_both r x y) rules)
    (not (depends x y) && not (depends y x)) none)

pub returns-then-not-depends : goal.returns-then-not-depends
unfolding free
returns-then-not-depends g c =
    let x = message_of c.args.x.now in
    let y = message_of c.args.y.now in
    let rules = swaps_of c.args.rules.now in
    let some : list_any (λ r. names_both r x y) rules ≡ true =
    sym (any_swap (λ r. names_both r x y) c.args.rules.now) ∙ sym c.some_names_both.ensures
    ∙ c.if-some_names_both.true in
    let first : not (depends x y) ≡ true = ap not (sym c.depends.ensures ∙ c.if-not-depends.true) in
    ap not c.depends-then-not-depends.ensures
    ∙ sym (ap (λ b. b && (not (depends x y) && not (depends y x))) some
    ∙ ap (λ b. b && not (depends y x)) first)
