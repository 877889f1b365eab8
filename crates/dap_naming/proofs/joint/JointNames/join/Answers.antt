use Rattle.std.proofs.Common.{◌≡◌, ◌∙◌, ap, ap₂}
use Rattle.std.proofs.lemmas.Result.{on_ok_weaker}
use Rattle.dap_tree.specs.View.{view}
use Rattle.dap_mask.specs.Declarations.{declarations_of}
use Rattle.dap_naming.specs.DeclaredRules.{rules_of}
use Rattle.dap_naming.specs.Joint.{doc_pairs, message_pairs}
use Rattle.dap_naming.specs.Sessions.{rules_for}
use Rattle.dap_naming.proofs.Joining.{joined_like, numbered_since}
use Rattle.dap_naming.proofs.joint.JointNames.join.Goals as goal

pub returns-clause-numbered : goal.returns-clause-numbered
returns-clause-numbered c =
    let xs = declarations_of c.args.declarations.now in
    let d = view c.args.a.now in
    let e = view c.args.b.now in
    let rs = rules_of c.deref.result.now in
    let qs = rules_of c.deref-2.result.now in
    let new = c.join_trees.new.names in
    let is_a : rs ≡ rules_for xs d =
    ap rules_of c.deref.ensures.value ∙ c.in_ok-rules_a.ensures in
    let is_b : qs ≡ rules_for xs e =
    ap rules_of c.deref-2.ensures.value ∙ c.in_ok-rules_b.ensures in
    on_ok_weaker c.join_trees.result
    (λ joined. numbered_since c.args.self.now new (message_pairs xs d e)
    (joined_like c.args.self.now new (doc_pairs rs d qs e) (message_pairs xs d e)
    (ap₂ (λ us vs. doc_pairs us d vs e) is_a is_b) joined))
    c.join_trees.ensures.joined
