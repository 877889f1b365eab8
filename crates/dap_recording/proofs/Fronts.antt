-- Prefixes of byte lists.
use Rattle.std.proofs.Common.{◌≡◌, ℕ, ◌+◌, ◌<◌, ◌≤◌, List, [], ◌∷◌, ◌++◌, length, take, drop}
use Rattle.std.proofs.Common.{get_or, refl, sym, ap, ◌∙◌, arith}
use Rattle.std.proofs.lemmas.List.{append_assoc, take_at, take-append-le, take-append-drop}
use Rattle.std.proofs.lemmas.List.{length-append}
use Rattle.std.proofs.Math.Seq.{take-add}

pub heads : (a b : ℕ) (xs ys : List ℕ) → a ∷ xs ≡ b ∷ ys → (a ≡ b) × (xs ≡ ys)
heads a b xs ys e = (cc, cc)

pub not_empty : (x ys : List ℕ) (b : ℕ) → x ≡ [] → x ≡ b ∷ ys → ⊥
not_empty x ys b e f = cc

pub first_is : (piece : List ℕ) → 0 < length piece → piece ≡ get_or piece 0 0 ∷ drop 1 piece
first_is [] some = absurd (omega arith)
first_is (x ∷ xs) some = refl

-- if bytes followed by more start with a prefix and a byte, and have the length of both, they are
-- the prefix and the byte
pub begins_so : (x y front more : List ℕ) (byte : ℕ) → x ++ y ≡ front ++ byte ∷ more
    → length front + 1 ≤ length x
    → x ≡ front ++ byte ∷ drop (length front + 1) x
begins_so x y front more byte e long =
    let n : ℕ = length front + 1 in
    let start : take n x ≡ front ++ byte ∷ [] =
    sym (take-append-le n x y long) ∙ ap (take n) (e ∙ sym (append_assoc front (byte ∷ []) more))
    ∙ take_at (front ++ byte ∷ []) more n (length-append front (byte ∷ [])) in
    sym (take-append-drop n x) ∙ ap (λ xs. xs ++ drop n x) start
    ∙ append_assoc front (byte ∷ []) (drop n x)

-- if a prefix of a chunk ends a line, the rest of the chunk follows the line
pub split_at : (bytes piece line : List ℕ) (from : ℕ) → bytes ++ take from piece ≡ line
    → bytes ++ piece ≡ line ++ drop from piece
split_at bytes piece line from e =
    ap (λ xs. bytes ++ xs) (sym (take-append-drop from piece))
    ∙ sym (append_assoc bytes (take from piece) (drop from piece))
    ∙ ap (λ xs. xs ++ drop from piece) e

-- the same for the consumed bytes of the rest
pub taken_more : (bytes piece line : List ℕ) (from count : ℕ) → bytes ++ take from piece ≡ line
    → bytes ++ take (from + count) piece ≡ line ++ take count (drop from piece)
taken_more bytes piece line from count e =
    ap (λ xs. bytes ++ xs) (take-add from count piece)
    ∙ sym (append_assoc bytes (take from piece) (take count (drop from piece)))
    ∙ ap (λ xs. xs ++ take count (drop from piece)) e
