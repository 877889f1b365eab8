-- A string without labels stays, and has no ids.
use Rattle.std.proofs.Common.{◌≡◌, ℕ, Bool, false, List, [], ◌∷◌, None, refl, ap}
use Rattle.std.specs.Char.{is_ascii_hexdigit}
use Rattle.dap_tokens.specs.Tokens.{parts_from}
use Rattle.dap_tokens.specs.Naming.{Numbering, ids_of_parts, ids, named_parts, named}

stays : (number : Numbering) (d : Bool) (s : List ℕ)
    → named_parts number (parts_from (λ form. None) 0 d s) ≡ s
stays number d [] = refl
stays number d (b ∷ s) = ap (λ x. b ∷ x) (stays number (is_ascii_hexdigit b) s)

no_ids : (d : Bool) (s : List ℕ) → ids_of_parts (parts_from (λ form. None) 0 d s) ≡ []
no_ids d [] = refl
no_ids d (b ∷ s) = no_ids (is_ascii_hexdigit b) s

pub no_labels : (number : Numbering) (s : List ℕ)
    → (named (λ form. None) number s ≡ s) × (ids (λ form. None) s ≡ [])
no_labels number s = (stays number false s, no_ids false s)
