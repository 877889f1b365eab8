-- Labels that count the items of each class, except that an answer has the number of the first item
-- that it answers. Answers precede all other items.
use Rattle.std.specs.Prelude.{◌≡◌, ℕ, Bool, true, false, ◌⊎◌, List, [], ◌∷◌}
use Rattle.std.proofs.Common.{inl, inr}
use Rattle.dap_order.specs.{Swaps.NoneFree, Labels.Labels}
use Rattle.dap_order.specs.Classes.{Classes, AreClasses, less_number, numbers}
use Rattle.dap_order.specs.Answering.{Answering, answering_labels}

-- Classes of items, and which items are answered by which.
pub record Answers (X C : Type 0) : Type 0 where
  pub classes : Classes X C
  pub answered_by : X → X → Bool

-- No answer is free with an item that it answers. No two items that it answers are free with each
-- other, and neither are two answers to the same item.
pub record AreAnswers {X C : Type 0} (s : Answers X C) : Type 0 where
  pub are_classes : AreClasses s.classes
  pub not_free : (x y : X) → s.answered_by x y ≡ true → s.classes.free x y ≡ false
  pub one_answered : (x : X) → NoneFree s.classes.free (λ y. s.answered_by y x)
  pub one_answer : (x y z : X) → s.classes.free x y ≡ true → s.answered_by z x ≡ true
      → s.answered_by z y ≡ true → ⊥

module _ {X C : Type 0} (s : Answers X C) where
  -- The number of the first answered item, or for an item that answers no other item, its own
  -- number.
  abbrev pub answer_key : X → List (C × ℕ) → C × ℕ → (C × ℕ) ⊎ (C × ℕ)
  answer_key x [] own = inr own
  answer_key x (answered ∷ more) own = inl answered

  -- Answers come first.
  abbrev pub less_key : (C × ℕ) ⊎ (C × ℕ) → (C × ℕ) ⊎ (C × ℕ) → Bool
  less_key (inl a) (inl b) = less_number s.classes a b
  less_key (inl a) (inr b) = true
  less_key (inr a) (inl b) = false
  less_key (inr a) (inr b) = less_number s.classes a b

  abbrev pub answering : Answering X (C × ℕ) ((C × ℕ) ⊎ (C × ℕ))
  answering = record { answered_by = s.answered_by; key = answer_key; less = less_key }

  abbrev pub answer_labels : Labels X ((C × ℕ) ⊎ (C × ℕ))
  answer_labels = answering_labels (numbers s.classes) answering
