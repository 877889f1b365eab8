-- A marker determines its side.
use Rattle.std.proofs.Common.{◌≡◌, ℕ, inl, inr, List, [], ◌∷◌, ◌++◌, Result, Ok, Err, refl, sym, ap}
use Rattle.std.proofs.Common.{◌∙◌, arith}
use Rattle.std.proofs.lemmas.Bool.Decides.{eqb_tells}
use Rattle.dap_frame.specs.Grammar.{IsItem, IsGrammar}
use Rattle.dap_frame.proofs.Then.{byte_grammar}
use Rattle.dap_tree.specs.declared.side.Side.{Side}
use Rattle.dap_tree.specs.declared.side.Side.TheVariants.{Client, Adapter}
use Rattle.dap_recording.specs.Marker.{marker, IsNoMarker, SaysSide, markers}

pub marker_one : (s t : Side) → marker s ≡ marker t → s ≡ t
marker_one Client Client e = refl
marker_one Client Adapter e = absurd (omega arith)
marker_one Adapter Client e = absurd (omega arith)
marker_one Adapter Adapter e = refl

no_marker : (s : Side) (byte : ℕ) → byte ≡ marker s → IsNoMarker byte → ⊥
no_marker Client byte e other = other.0 e
no_marker Adapter byte e other = other.1 e

module _ {F : Type 0} (bad : F) where
  one_side : (byte : ℕ) (a b : Result Side F) → SaysSide bad byte a → SaysSide bad byte b → a ≡ b
  one_side byte (Ok s) (Ok t) p q = ap Ok (marker_one s t (sym p ∙ q))
  one_side byte (Ok s) (Err f) p q = absurd (no_marker s byte p q.0)
  one_side byte (Err e) (Ok t) p q = absurd (no_marker t byte q p.0)
  one_side byte (Err e) (Err f) p q = ap Err (p.1 ∙ sym q.1)

  some_side : (byte : ℕ) → (a : Result Side F) × SaysSide bad byte a
  some_side byte =
      elim (eqb_tells byte 62) [
        | inl client ↦ (Ok Client, client.1)
        | inr other ↦ elim (eqb_tells byte 60) [
          | inl adapter ↦ (Ok Adapter, adapter.1)
          | inr none ↦ (Err bad, ((other.1, none.1), refl))
        ]
      ]

  pub marker_grammar : IsGrammar (markers bad)
  marker_grammar = byte_grammar (SaysSide bad) one_side some_side

  pub a_marker : (side : Side) → IsItem (markers bad) (marker side ∷ []) side
  a_marker side = ([], marker side, refl, refl, refl)

  pub is_marker : (front : List ℕ) (side : Side) → IsItem (markers bad) front side
      → front ≡ marker side ∷ []
  is_marker front side (none, byte, e, empty, is) =
      e ∙ ap (λ xs. xs ++ byte ∷ []) empty ∙ ap (λ b. b ∷ []) is
