-- Masked messages, one by one.
use Rattle.std.proofs.Common.{◌≡◌, ◌⊎◌, inl, inr, true, false, Bool, List, []}
use Rattle.std.proofs.Common.{◌∷◌, ◌++◌, map, refl, sym, ◌∙◌, ap, subst}
use Rattle.std.proofs.lemmas.Bool.{true≢false, cases_Bool}
use Rattle.std.proofs.lemmas.List.{map-append}
use Rattle.std.proofs.lemmas.List.Elements.{filter-append}
use Rattle.dap_tree.specs.Doc.{is_sound}
use Rattle.dap_message.specs.Message.{Sent}
use Rattle.dap_rename.proofs.Lists.{each-append, each_left, each_right}
use Rattle.dap_normalise.specs.Accepting.{text}
use Rattle.dap_normalise.proofs.NormalTexts.{text-append}
use Rattle.dap_mask.specs.Mask.{Mask, leaves_out}
use Rattle.dap_rules.specs.Masking.{AreWhole, is_kept, kept, left_of, mask_message}
use Rattle.dap_rules.specs.Masking.{masked_text}

pub by_bool : {P : Type 0} → (b : Bool) → (b ≡ true → P) → (b ≡ false → P) → P
by_bool true f g = f refl
by_bool false f g = g refl

module _ (mask : Mask) where
  pub left-append : (messages others : List Sent)
      → left_of mask (messages ++ others) ≡ left_of mask messages ++ left_of mask others
  left-append messages others =
      ap (map (mask_message mask)) (filter-append (is_kept mask) messages others)
      ∙ map-append (mask_message mask) (kept mask messages) (kept mask others)

  pub masked_text-append : (messages others : List Sent)
      → masked_text mask (messages ++ others)
      ≡ masked_text mask messages ++ masked_text mask others
  masked_text-append messages others =
      ap text (left-append messages others)
      ∙ text-append (left_of mask messages) (left_of mask others)

  -- A dropped message leaves nothing; any other message leaves the masked message.
  pub left_none : (m : Sent) → leaves_out mask m.doc ≡ true → left_of mask (m ∷ []) ≡ []
  left_none m dropped = rw dropped refl

  pub left_one : (m : Sent) → leaves_out mask m.doc ≡ false
      → left_of mask (m ∷ []) ≡ mask_message mask m ∷ []
  left_one m stays = rw stays refl

  -- ---- messages that can be written

  pub whole_both : (messages others : List Sent) → AreWhole (left_of mask messages)
      → AreWhole (left_of mask others) → AreWhole (left_of mask (messages ++ others))
  whole_both messages others one two =
      subst AreWhole (sym (left-append messages others))
      (each-append (λ (m : Sent). is_sound m.doc ≡ true) (left_of mask messages)
      (left_of mask others) one two)

  pub whole_front : (messages others : List Sent) → AreWhole (left_of mask (messages ++ others))
      → AreWhole (left_of mask messages)
  whole_front messages others all =
      each_left (λ (m : Sent). is_sound m.doc ≡ true) (left_of mask messages)
      (left_of mask others) (subst AreWhole (left-append messages others) all)

  pub whole_rest : (messages others : List Sent) → AreWhole (left_of mask (messages ++ others))
      → AreWhole (left_of mask others)
  whole_rest messages others all =
      each_right (λ (m : Sent). is_sound m.doc ≡ true) (left_of mask messages)
      (left_of mask others) (subst AreWhole (left-append messages others) all)

pub whole_or_not : (messages : List Sent) → AreWhole messages ⊎ (AreWhole messages → ⊥)
whole_or_not [] = inl tt
whole_or_not (m ∷ messages) = both (cases_Bool (is_sound m.doc)) (whole_or_not messages)
  where
    both : (is_sound m.doc ≡ true) ⊎ (is_sound m.doc ≡ false)
        → AreWhole messages ⊎ (AreWhole messages → ⊥)
        → AreWhole (m ∷ messages) ⊎ (AreWhole (m ∷ messages) → ⊥)
    both (inl one) (inl rest) = inl (one, rest)
    both (inl one) (inr rest) = inr (λ all. rest all.1)
    both (inr none) rest = inr (λ all. true≢false (sym all.0 ∙ none))
