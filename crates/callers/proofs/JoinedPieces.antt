-- The bytes that remain of the chunks while they are read.
use Rattle.std.proofs.Common.{◌≡◌, ℕ, ◌+◌, ◌-◌, ◌<◌, ◌≤◌, min, List, ◌∷◌, ◌++◌, length, take, drop}
use Rattle.std.proofs.Common.{sym, subst, ◌∙◌, ap}
use Rattle.std.proofs.Common.{get_or, arith, length-append, length-drop, length-take}
use Rattle.std.proofs.Common.{take-append-drop}
use Rattle.std.proofs.lemmas.List.{drop-append-le, drop-drop, drop_more, take-append-le, take_all}
use Rattle.std.proofs.lemmas.List.Concat.{flat_map-cons}
use Rattle.std.proofs.Math.Seq.{drop-append-add}
use Rattle.std.specs.Borrow.{Bor}
use Rattle.callers.specs.Arriving.{HasBytes}
use Rattle.callers.specs.Pieces.{joined}

-- A list from one of its elements on.
pub drop_at : {X : Type 0} (xs : List X) (i : ℕ) (x : X) → i < length xs → x ≡ get_or xs i x
    → drop i xs ≡ x ∷ drop (i + 1) xs
drop_at xs i x within is = drop_more xs i x within ∙ ap (λ y. y ∷ drop (i + 1) xs) (sym is)

module _ (piece : Bor (List ℕ)) (later : List (Bor (List ℕ))) where
  first : joined (piece ∷ later) ≡ piece.now ++ joined later
  first = flat_map-cons (λ (p : Bor (List ℕ)). p.now) piece later

  -- After all of a chunk has been read, the later chunks remain.
  pub passed : (read : ℕ) → length piece.now ≤ read
      → drop (read - length piece.now) (joined later) ≡ drop read (joined (piece ∷ later))
  passed read le =
      let split : read ≡ length piece.now + (read - length piece.now) = omega arith in
      sym (ap (drop read) first ∙ ap (λ n. drop n (piece.now ++ joined later)) split
      ∙ drop-append-add piece.now (joined later) (read - length piece.now))

  -- Bytes read from a chunk are the first of the remaining bytes.
  pub read_on : (read count : ℕ) (bytes : List ℕ) → read + count ≤ length piece.now
      → bytes ≡ take count (drop read piece.now)
      → drop read (joined (piece ∷ later)) ≡ bytes ++ drop (read + count) (joined (piece ∷ later))
  read_on read count bytes le is =
      let all = joined (piece ∷ later) in
      let front : drop read all ≡ drop read piece.now ++ joined later =
      ap (drop read) first ∙ drop-append-le read piece.now (joined later) (omega arith) in
      let taken : take count (drop read all) ≡ bytes =
      ap (take count) front
      ∙ take-append-le count (drop read piece.now) (joined later)
      (omega (arith, length-drop read piece.now))
      ∙ sym is in
      sym (take-append-drop count (drop read all))
      ∙ ap (λ xs. xs ++ drop count (drop read all)) taken
      ∙ ap (λ xs. bytes ++ xs) (drop-drop count read all)

-- The current chunk has unread bytes.
pub some_left : (pieces : List (Bor (List ℕ))) (at read : ℕ) (piece : Bor (List ℕ))
    → at < length pieces → piece ≡ get_or pieces at piece → HasBytes read (drop at pieces)
    → read < length piece.now
some_left pieces at read piece within is some =
    let here : HasBytes read (piece ∷ drop (at + 1) pieces) =
    subst (HasBytes read) (drop_at pieces at piece within is) some in here

-- A buffer into which the first bytes of the rest were copied.
module _ (rest buffer copied : List ℕ) (count : ℕ)
    (fits : count ≡ min (length rest) (length buffer)) (is : copied ≡ take count rest) where
  all_copied : length copied ≡ count
  all_copied =
      ap (λ (xs : List ℕ). length xs) is
      ∙ length-take count rest ∙ (let m = fits in omega arith)

  pub same_length : length (copied ++ drop count buffer) ≡ length buffer
  same_length =
      length-append copied (drop count buffer)
      ∙ (let c = all_copied in let d = length-drop count buffer in let m = fits in omega arith)

  pub holds_copied : take count (copied ++ drop count buffer) ≡ copied
  holds_copied =
      take-append-le count copied (drop count buffer) (let c = all_copied in omega arith)
      ∙ take_all count copied (let c = all_copied in omega arith)
