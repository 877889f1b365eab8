-- The joint names of a message.
use Rattle.std.proofs.Common.{◌≡◌, [], List, sym, subst}
use Rattle.dap_tree.specs.Doc.{Doc}
use Rattle.dap_mask.specs.Declarations.{Declaration}
use Rattle.dap_naming.specs.Documents.{named_doc}
use Rattle.dap_naming.specs.Sessions.{rules_for}
use Rattle.dap_naming.specs.Joint.{KeepsNumbers, NamesInA, NamesInB}
use Rattle.dap_naming.specs.declared.joint.JointNames.{JointNames}
use Rattle.dap_naming.proofs.MoreParts.{same_doc}

pub kept_then : (a b c : JointNames) → KeepsNumbers a b → KeepsNumbers b c → KeepsNumbers a c
kept_then a b c f g = record {
  in_a = λ k n e. g.in_a k n (f.in_a k n e);
  in_b = λ k n e. g.in_b k n (f.in_b k n e);
}

-- ---- a message to which no declaration applies

pub unruled_in_a : (names : JointNames) (xs : List Declaration) (d : Doc) → rules_for xs d ≡ []
    → NamesInA names xs d d
unruled_in_a names xs d none =
    λ f h. subst (λ us. d ≡ named_doc us f d) (sym none) (sym (same_doc f d))

pub unruled_in_b : (names : JointNames) (xs : List Declaration) (d : Doc) → rules_for xs d ≡ []
    → NamesInB names xs d d
unruled_in_b names xs d none =
    λ f h. subst (λ us. d ≡ named_doc us f d) (sym none) (sym (same_doc f d))
