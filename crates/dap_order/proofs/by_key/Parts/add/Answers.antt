use Rattle.std.proofs.Common.{◌≡◌, List, [], ◌∷◌, ◌++◌, refl, sym, ap, ◌∙◌, subst}
use Rattle.std.proofs.lemmas.List.{append_assoc, append-nil}
use Rattle.std.specs.Prelude.{IsPermutation}
use Rattle.std.proofs.lemmas.List.Sorted.{IsPermutation-middle, IsPermutation-sym}
use Rattle.dap_order.specs.SortKeys.{keys_in}
use Rattle.dap_order.specs.declared.by_key.SortKey.{SortKey}
use Rattle.dap_order.proofs.by_key.Parts.add.Goals as goal

-- A key is added between two lists.
added : (k : SortKey) (front back old new : List SortKey) → front ++ back ≡ old
    → front ++ k ∷ back ≡ new → IsPermutation (k ∷ old) new
added k front back old new e f =
    subst (λ zs. IsPermutation (k ∷ zs) new) e
    (subst (λ zs. IsPermutation (k ∷ (front ++ back)) zs) f
    (IsPermutation-sym (front ++ k ∷ back) (k ∷ (front ++ back))
    (IsPermutation-middle front k back)))

pub returns-then-not-key : goal.returns-then-not-key
returns-then-not-key c =
    let a = c.args.self.now.answers.items in
    let rest = c.args.self.now.others.items ++ c.args.self.now.client.items in
    let k = c.args.key in
    added k a rest (a ++ rest) (c.push.new.self.items ++ rest) refl
    (sym (ap (λ zs. zs ++ rest) c.in_ok-push.ensures.items ∙ append_assoc a (k ∷ []) rest))

pub returns-then-key-eq4 : goal.returns-then-key-eq4
returns-then-key-eq4 c =
    let a = c.args.self.now.answers.items in
    let o = c.args.self.now.others.items in
    let l = c.args.self.now.client.items in
    let k = c.args.key in
    added k (a ++ (o ++ l)) [] (a ++ (o ++ l)) (a ++ (o ++ c.push-then-key-eq4.new.self.items))
    (append-nil (a ++ (o ++ l)))
    (sym (ap (λ zs. a ++ (o ++ zs)) c.in_ok-push-2.ensures.items
    ∙ ap (λ zs. a ++ zs) (sym (append_assoc o l (k ∷ []))) ∙ sym (append_assoc a (o ++ l) (k ∷ []))))

pub returns : goal.returns
returns c =
    let a = c.args.self.now.answers.items in
    let o = c.args.self.now.others.items in
    let l = c.args.self.now.client.items in
    let k = c.args.key in
    added k (a ++ o) l (a ++ (o ++ l)) (a ++ (c.push-2.new.self.items ++ l)) (append_assoc a o l)
    (sym (ap (λ zs. a ++ (zs ++ l)) c.in_ok-push-3.ensures.items
    ∙ ap (λ zs. a ++ zs) (append_assoc o (k ∷ []) l) ∙ sym (append_assoc a o (k ∷ l))))
