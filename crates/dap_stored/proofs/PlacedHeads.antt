-- The heads at places of a session.
use Rattle.std.proofs.Common.{◌≡◌, ℕ, ◌+◌, ◌<◌, ◌≤◌, List, [], ◌∷◌, ◌++◌, length, map, take, get_or}
use Rattle.std.proofs.Common.{Some, None, option_map, refl, sym, subst, ap, ◌∙◌}
use Rattle.std.proofs.lemmas.List.{length-map, map-append}
use Rattle.std.proofs.lemmas.List.Elements.{All-push}
use Rattle.std.proofs.lemmas.Option.{slice_get_read, slice_get_past, slice_get-map}
use Rattle.std.proofs.Math.Logic.{∥∥₁_elim}
use Rattle.std.proofs.Props.{props}
use Rattle.std.specs.List.{All}
use Rattle.std.specs.Prelude.{slice_get}
use mathlib.Core.Logic.{∥∥₁_map}
use Rattle.dap_stored.specs.Heads.{IsStored, message_at}
use Rattle.dap_stored.specs.Sessions.{AreAt}
use Rattle.dap_stored.specs.declared.head.Head.{Head}
use Rattle.dap_stored.specs.declared.parts.Parts.{Parts}
use Rattle.dap_stored.proofs.PlacedMessages.{more_at}

-- The head is at this place.
pub record IsAt (heads : List Head) (place : ℕ) (h : Head) : Type 0 where
  pub low : place < length heads
  pub is : h ≡ get_or heads place h

module _ (p : Parts) (heads : List Head) where
  pub none_past : (place : ℕ) → length heads ≤ place
      → slice_get (map (message_at p) heads) place ≡ None
  none_past place past =
      slice_get_past (map (message_at p) heads) place
      (subst (λ n. n ≤ place) (sym (length-map heads (message_at p))) past)

  message_there : (place : ℕ) (h : Head) → IsAt heads place h
      → slice_get (map (message_at p) heads) place ≡ Some (message_at p h)
  message_there place h at =
      slice_get-map (message_at p) heads place
      ∙ ap (option_map (message_at p))
      (slice_get_read heads (length heads) place h refl at.low at.is)

  pub one_more : (places : List ℕ) (placed : List Head) (i : ℕ) (h : Head)
      → AreAt (map (message_at p) heads) (take i places) (map (message_at p) placed)
      → i < length places → IsAt heads (get_or places i 0) h
      → AreAt (map (message_at p) heads) (take (i + 1) places)
      (map (message_at p) (placed ++ h ∷ []))
  one_more places placed i h are low at =
      more_at (map (message_at p) heads) places (map (message_at p) placed) i (message_at p h) are
      low (message_there (get_or places i 0) h at)
      ∙ ap (map Some) (sym (map-append (message_at p) placed (h ∷ [])))

  pub one_more_stored : (placed : List Head) (place : ℕ) (h : Head) → ∥ All (IsStored p) heads ∥₁
      → ∥ All (IsStored p) placed ∥₁ → IsAt heads place h
      → ∥ All (IsStored p) (placed ++ h ∷ []) ∥₁
  one_more_stored placed place h stored so_far at =
      ∥∥₁_elim so_far (hlevel props)
      (λ firsts. ∥∥₁_map stored
      (λ all. All-push (IsStored p) placed h firsts
      (subst (IsStored p) (sym at.is) (all place h at.low))))
