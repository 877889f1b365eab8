-- The declarations that apply to a message.
use Rattle.std.proofs.Common.{◌≡◌, true, List, [], ◌∷◌, refl}
use Rattle.dap_tree.specs.Doc.{Doc}
use Rattle.dap_tokens.specs.Tokens.{is_label}
use Rattle.dap_mask.specs.Declarations.{Declaration, are_declared, is_own_label}
use Rattle.dap_mask.specs.Rules.{rule_applies}
use Rattle.dap_naming.specs.DeclaredRules.{have_labels}
use Rattle.dap_naming.specs.Sessions.{rules_for}
use Rattle.dap_naming.proofs.Lists.{by_bool, first_of_both, second_of_both}

-- their labels are labels
pub labels_for : (xs : List Declaration) (d : Doc) → are_declared xs ≡ true
    → have_labels (rules_for xs d) ≡ true
labels_for [] d h = refl
labels_for (x ∷ xs) d h =
    let own : is_own_label x.label ≡ true = first_of_both _ _ h in
    let label : is_label x.label ≡ true = first_of_both _ _ own in
    let rest : have_labels (rules_for xs d) ≡ true =
    labels_for xs d (second_of_both _ _ (second_of_both _ _ h)) in
    by_bool (rule_applies x.rule d) (λ e. rw (e, label) rest) (λ e. rw e rest)
