use Rattle.std.proofs.Common.{◌≡◌, ◌∙◌, ◌==◌, Bool, true, [], length, ap, arith, refl, sym}
use Rattle.std.specs.{declared.alloc.Global.Global, declared.vec.Vec.Vec}
use Rattle.dap_flat_message.proofs.Heads.{holds_whole}
use Rattle.dap_mask.specs.{Declarations.declarations_of, FlatMasking.IsTold}
use Rattle.dap_naming.specs.{DeclaredRules.rules_of, Sessions.rules_for}
use Rattle.dap_naming.specs.declared.rules.Declared.{Declared}
use Rattle.dap_naming.proofs.Choosing.{no_rules}
use Rattle.dap_naming.proofs.FlatNames.{flat_few, flat_named, value_unruled}
use Rattle.dap_naming.proofs.flat.name_flat.Goals as goal

nothing : (v : Vec Declared Global) (b : Bool) → b ≡ (v.len == 0) → b ≡ true
    → rules_of v.items ≡ []
nothing v b is empty =
    let same : length v.items ≡ v.len = omega (arith, v.ok) in
    no_rules v.items (ap (λ n. n == 0) same ∙ sym is ∙ empty)

pub returns-then-is_empty-clause-names : goal.returns-then-is_empty-clause-names
returns-then-is_empty-clause-names c =
    let a = c.args.numbers.now in
    let ns = c.args.nodes.now in
    let rules = c.in_ok-rules.rules in
    let none = nothing rules c.is_empty.result c.is_empty.ensures c.if-is_empty.true in
    flat_named a a ns ns (declarations_of c.args.declarations.now) (rules_of rules.items)
    c.in_ok-rules.ensures.told refl
    (λ d h. value_unruled a a ns ns 0 (rules_of rules.items) none refl refl d h)

pub returns-then-is_empty-clause-few : goal.returns-then-is_empty-clause-few
returns-then-is_empty-clause-few c =
    let a = c.args.numbers.now in
    let ns = c.args.nodes.now in
    let rules = c.in_ok-rules.rules in
    let none = nothing rules c.is_empty.result c.is_empty.ensures c.if-is_empty.true in
    flat_few a a ns ns (declarations_of c.args.declarations.now) (rules_of rules.items)
    c.in_ok-rules.ensures.told
    (λ d h. value_unruled a a ns ns 0 (rules_of rules.items) none refl refl d h)

pub returns-then-is_empty-clause-applies : goal.returns-then-is_empty-clause-applies
returns-then-is_empty-clause-applies c _ d shows =
    sym (c.in_ok-rules.ensures.told d (holds_whole c.args.nodes.now d shows))
    ∙ nothing c.in_ok-rules.rules c.is_empty.result c.is_empty.ensures c.if-is_empty.true

pub returns-clause-names : goal.returns-clause-names
returns-clause-names c =
    let ns = c.args.nodes.now in
    let xs = declarations_of c.args.declarations.now in
    let rs = rules_of c.deref.result.now in
    let told : IsTold ns 0 (rules_for xs) rs =
    λ d h. ap rules_of c.deref.ensures.value ∙ c.in_ok-rules.ensures.told d h in
    flat_named c.args.numbers.now c.name_value.new.numbers ns c.name_value.new.nodes xs rs told
    c.name_value.auto.nodes c.in_ok-name_value.ensures.names

pub returns-clause-few : goal.returns-clause-few
returns-clause-few c =
    let ns = c.args.nodes.now in
    let xs = declarations_of c.args.declarations.now in
    let rs = rules_of c.deref.result.now in
    let told : IsTold ns 0 (rules_for xs) rs =
    λ d h. ap rules_of c.deref.ensures.value ∙ c.in_ok-rules.ensures.told d h in
    flat_few c.args.numbers.now c.name_value.new.numbers ns c.name_value.new.nodes xs rs told
    c.in_ok-name_value.ensures.names
