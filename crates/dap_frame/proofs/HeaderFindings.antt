-- The results that the lines of a header part can state.
use Rattle.std.proofs.Common.{◌≡◌, ◌≢◌, ℕ, ◌≤◌, Bool, true, false, not, cond, List, [], ◌∷◌, Ok}
use Rattle.std.proofs.Common.{Err, ◌⊎◌, inl, inr, refl, arith, leb}
use Rattle.std.specs.List.{list_all}
use Rattle.dap_frame.specs.declared.limits.FrameLimits.{FrameLimits}
use Rattle.dap_frame.specs.declared.fault.FrameFault.{FrameFault}
use Rattle.dap_frame.specs.declared.fault.FrameFault.TheVariants.{Cut, Memory}
use Rattle.dap_frame.specs.Lines.{is_field_line, trimmed, is_length_text, number_of}
use Rattle.dap_frame.specs.Frame.{length_from, the_length, lengths_in, parsed_length}

chosen : {A : Type 0} (b : Bool) (x y z : A) → cond b x y ≡ z
    → ((b ≡ true) × (x ≡ z)) ⊎ ((b ≡ false) × (y ≡ z))
chosen true x y z e = inl (refl, e)
chosen false x y z e = inr (refl, e)

length_from-small : (limits : FrameLimits) (text : List ℕ) (n : ℕ) → length_from limits text ≡ Ok n
    → n ≤ limits.content
length_from-small limits text n e =
    elim (chosen (not (is_length_text text)) _ _ _ e) [
      | inl h ↦ (let wrong = h.1 in cc)
      | inr h ↦ elim (chosen (leb (number_of text) limits.content) _ _ _ h.1) [
        | inl k ↦ grind (arith, k)
        | inr k ↦ (let wrong = k.1 in cc)
      ]
    ]

the_length-small : (limits : FrameLimits) (values : List (List ℕ)) (n : ℕ)
    → the_length limits values ≡ Ok n
    → n ≤ limits.content
the_length-small limits [] n e = cc
the_length-small limits (value ∷ []) n e = length_from-small limits (trimmed value) n e
the_length-small limits (value ∷ other ∷ values) n e = cc

pub judged-small : (limits : FrameLimits) (lines : List (List ℕ)) (n : ℕ)
    → parsed_length limits lines ≡ Ok n
    → n ≤ limits.content
judged-small limits lines n e =
    elim (chosen (list_all is_field_line lines) _ _ _ e) [
      | inl h ↦ the_length-small limits (lengths_in lines) n h.1
      | inr h ↦ (let wrong = h.1 in cc)
    ]

length_from-fault : (limits : FrameLimits) (text : List ℕ) (fault : FrameFault)
    → length_from limits text ≡ Err fault
    → (fault ≢ Cut) × (fault ≢ Memory)
length_from-fault limits text fault e =
    elim (chosen (not (is_length_text text)) _ _ _ e) [
      | inl h ↦ (let is = h.1 in (λ same. cc, λ same. cc))
      | inr h ↦ elim (chosen (leb (number_of text) limits.content) _ _ _ h.1) [
        | inl k ↦ (let is = k.1 in (λ same. cc, λ same. cc))
        | inr k ↦ (let is = k.1 in (λ same. cc, λ same. cc))
      ]
    ]

the_length-fault : (limits : FrameLimits) (values : List (List ℕ)) (fault : FrameFault)
    → the_length limits values ≡ Err fault → (fault ≢ Cut) × (fault ≢ Memory)
the_length-fault limits [] fault e = (λ same. cc, λ same. cc)
the_length-fault limits (value ∷ []) fault e = length_from-fault limits (trimmed value) fault e
the_length-fault limits (value ∷ other ∷ values) fault e = (λ same. cc, λ same. cc)

-- a header part has only the errors of its format
pub judged-fault : (limits : FrameLimits) (lines : List (List ℕ)) (fault : FrameFault)
    → parsed_length limits lines ≡ Err fault
    → (fault ≢ Cut) × (fault ≢ Memory)
judged-fault limits lines fault e =
    elim (chosen (list_all is_field_line lines) _ _ _ e) [
      | inl h ↦ the_length-fault limits (lengths_in lines) fault h.1
      | inr h ↦ (let is = h.1 in (λ same. cc, λ same. cc))
    ]
