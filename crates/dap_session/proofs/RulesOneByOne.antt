-- Lists that obey the rules, message by message.
use Rattle.std.proofs.Common.{◌≡◌, List, [], ◌∷◌, ◌++◌, Option, Some, None, ◌⊎◌, inl, inr, sym, ap}
use Rattle.std.proofs.Common.{◌∙◌, refl, subst, append_assoc, append-nil}
use Rattle.dap_message.specs.Message.{Sent}
use Rattle.dap_session.specs.declared.rule.Rule.{Rule}
use Rattle.dap_session.specs.Rules.{first_broken, KeepsRules}

nothing : (before after : List Sent) (m : Sent) → [] ≡ before ++ m ∷ after → ⊥
nothing [] after m h = cc
nothing (x ∷ before) after m h = cc

pub none_keep : KeepsRules []
none_keep before after m e = absurd (nothing before after m e)

split_push : (ms : List Sent) (m : Sent) (before after : List Sent) (x : Sent)
    → ms ++ m ∷ [] ≡ before ++ x ∷ after
    → ((before ≡ ms) × (x ≡ m)) ⊎ ((rest : List Sent) × (ms ≡ before ++ x ∷ rest))
split_push [] m [] after x h = inl (refl, cc)
split_push [] m (b ∷ before) after x h = absurd (nothing before after x cc)
split_push (a ∷ ms) m [] after x h = let same : a ≡ x = cc in inr (ms, ap (λ y. y ∷ ms) same)
split_push (a ∷ ms) m (b ∷ before) after x h =
    let same : a ≡ b = cc in
    let tail : ms ++ m ∷ [] ≡ before ++ x ∷ after = cc in
    elim (split_push ms m before after x tail) [
      | inl w ↦ inl (ap (λ y. y ∷ before) (sym same) ∙ ap (λ ys. a ∷ ys) w.0, w.1)
      | inr w ↦ inr (w.0, ap (λ y. y ∷ ms) same ∙ ap (λ ys. b ∷ ys) w.1)
    ]

pub keeps_push : (ms : List Sent) (m : Sent) → KeepsRules ms → first_broken ms m ≡ None
    → KeepsRules (ms ++ m ∷ [])
keeps_push ms m keeps last before after x e =
    elim (split_push ms m before after x e) [
      | inl w ↦ ap (λ b. first_broken b x) w.0 ∙ ap (λ y. first_broken ms y) w.1 ∙ last
      | inr w ↦ keeps before w.0 x w.1
    ]

pub keeps_front : (ms ns : List Sent) → KeepsRules (ms ++ ns) → KeepsRules ms
keeps_front ms ns keeps before after m e =
    keeps before (after ++ ns) m (ap (λ t. t ++ ns) e ∙ append_assoc before (m ∷ after) ns)

pub keeps_one_more : (ms : List Sent) (m : Sent)
    → (KeepsRules (ms ++ m ∷ []) → KeepsRules ms × (first_broken ms m ≡ None))
    × (KeepsRules ms × (first_broken ms m ≡ None) → KeepsRules (ms ++ m ∷ []))
keeps_one_more ms m =
    (λ keeps. (keeps_front ms (m ∷ []) keeps, keeps ms [] m refl), λ w. keeps_push ms m w.0 w.1)

-- some message is the first to break a rule
abbrev Breaks : List Sent → Type 0
Breaks ms = (before : List Sent) × (after : List Sent) × (m : Sent) × (rule : Rule)
    × (ms ≡ before ++ m ∷ after) × KeepsRules before × (first_broken before m ≡ Some rule)

-- one message further
further : (before : List Sent) (m : Sent) (rest : List Sent) (o : Option Rule)
    → first_broken before m ≡ o → KeepsRules before
    → (KeepsRules (before ++ m ∷ [])
    → KeepsRules ((before ++ m ∷ []) ++ rest) ⊎ Breaks ((before ++ m ∷ []) ++ rest))
    → KeepsRules (before ++ m ∷ rest) ⊎ Breaks (before ++ m ∷ rest)
further before m rest None e keeps later =
    subst (λ t. KeepsRules t
    ⊎ Breaks t) (append_assoc before (m ∷ []) rest) (later (keeps_push before m keeps e))
further before m rest (Some rule) e keeps later = inr (before, rest, m, rule, refl, keeps, e)

from : (before rest : List Sent) → KeepsRules before
    → KeepsRules (before ++ rest) ⊎ Breaks (before ++ rest)
from before [] keeps = inl (subst KeepsRules (sym (append-nil before)) keeps)
from before (m ∷ rest) keeps =
    further before m rest (first_broken before m) refl keeps (from (before ++ m ∷ []) rest)

-- every list obeys the rules, or has a first message that breaks a rule
pub keeps_or_breaks : (ms : List Sent) → KeepsRules ms ⊎ Breaks ms
keeps_or_breaks ms = from [] ms none_keep
