-- Strings without labels, and the test for labels of no form.
use denote.Ref.{Bor}
use Rattle.std.proofs.Common.{◌≡◌, ◌∙◌, ℕ, Bool, true, ◌&&◌, List, [], Option, Some, None}
use Rattle.std.proofs.Common.{option_map, refl, sym, ap}
use Rattle.std.specs.Option.{option_eq}
use Rattle.dap_tokens.specs.Tokens.{Labels}
use Rattle.dap_tokens.specs.Naming.{Numbering, ids, named}
use Rattle.dap_tokens.specs.Models.{labels_of, no_labels}
use Rattle.dap_tokens.specs.declared.form.Form.{Form}
use Rattle.dap_tokens.specs.declared.form.Form.TheVariants.{Whole, Digits, Hex, Long, Uuid}
use Rattle.dap_tokens.specs.declared.labels.Labels.{Labels as ReadLabels}
use Rattle.dap_naming.proofs.Heres.{no_ids_of_string, unnamed_string}
use Rattle.dap_naming.proofs.Lists.{first_of_both, second_of_both}

-- ---- strings without labels

module _ (labels : Labels) (none : labels ≡ no_labels) where
  pub same_string : (number : Numbering) (s : List ℕ) → named labels number s ≡ s
  same_string number s =
      ap (λ (l : Labels). named l number s) none ∙ unnamed_string [] number s refl

  pub no_string_ids : (s : List ℕ) → ids labels s ≡ []
  no_string_ids s = ap (λ (l : Labels). ids l s) none ∙ no_ids_of_string [] s refl

-- ---- the test

-- both labels are absent, if the second is
both_none : (eq : Bor (List ℕ) → Bor (List ℕ) → Bool) (x y : Option (Bor (List ℕ)))
    → option_eq eq x y ≡ true → option_map (λ t. t.now) y ≡ None
    → option_map (λ t. t.now) x ≡ None
both_none eq None y same none = refl
both_none eq (Some t) None same none = cc
both_none eq (Some t) (Some u) same none = cc

module _ (eq : Bor (List ℕ) → Bor (List ℕ) → Bool) (a b : ReadLabels)
    (none : labels_of b ≡ no_labels) where
  of_form : (form : Form) (x y : Option (Bor (List ℕ))) → option_eq eq x y ≡ true
      → option_map (λ t. t.now) y ≡ labels_of b form → option_map (λ t. t.now) x ≡ None
  of_form form x y same is =
      both_none eq x y same (is ∙ ap (λ (labels : Labels). labels form) none)

  pub equal_none : (r : Bool) → r ≡ true
      → r ≡ (option_eq eq a.whole b.whole && (option_eq eq a.digits b.digits
      && (option_eq eq a.hex b.hex && (option_eq eq a.long b.long && option_eq eq a.uuid b.uuid))))
      → labels_of a ≡ no_labels
  equal_none r holds is = λ i form. each form i
    where
      all : (option_eq eq a.whole b.whole && (option_eq eq a.digits b.digits
          && (option_eq eq a.hex b.hex
          && (option_eq eq a.long b.long && option_eq eq a.uuid b.uuid)))) ≡ true
      all = sym is ∙ holds

      after_whole : (option_eq eq a.digits b.digits && (option_eq eq a.hex b.hex
          && (option_eq eq a.long b.long && option_eq eq a.uuid b.uuid))) ≡ true
      after_whole = second_of_both (option_eq eq a.whole b.whole) _ all

      after_digits : (option_eq eq a.hex b.hex
          && (option_eq eq a.long b.long && option_eq eq a.uuid b.uuid)) ≡ true
      after_digits = second_of_both (option_eq eq a.digits b.digits) _ after_whole

      after_hex : (option_eq eq a.long b.long && option_eq eq a.uuid b.uuid) ≡ true
      after_hex = second_of_both (option_eq eq a.hex b.hex) _ after_digits

      each : (form : Form) → labels_of a form ≡ None
      each Whole = of_form Whole a.whole b.whole (first_of_both _ _ all) refl
      each Digits = of_form Digits a.digits b.digits (first_of_both _ _ after_whole) refl
      each Hex = of_form Hex a.hex b.hex (first_of_both _ _ after_digits) refl
      each Long = of_form Long a.long b.long (first_of_both _ _ after_hex) refl
      each Uuid = of_form Uuid a.uuid b.uuid (second_of_both _ _ after_hex) refl
