-- How byte lists end, and which marks do not occur in them, after one more byte.
use Rattle.std.proofs.Common.{◌≡◌, ℕ, zero, suc, ◌+◌, ◌-◌, Bool, true, false, ◌&&◌, List, [], ◌∷◌}
use Rattle.std.proofs.Common.{◌++◌, length, drop, refl, ap, ◌∙◌, arith, inl, inr, nat_eq}
use Rattle.std.proofs.lemmas.Bool.{cases_lt, and_right}
use Rattle.std.proofs.lemmas.List.{take-append-le, take_all, length-append, length-drop}
use Rattle.std.proofs.lemmas.List.{drop-append-le, nil_from_length}
use Rattle.std.specs.List.{ends_with}
use lib.Pointwise.{pointwise}
use Rattle.dap_frame.specs.Lines.{Lacks, line_end, header_end}
use Rattle.dap_frame.specs.HeaderScan.{ends}
use Rattle.dap_frame.proofs.MarkEnds.{ends_at_front}
use Rattle.std.proofs.lemmas.Bool.{eq-eqb}

pub and_true : (b : Bool) → (b && true) ≡ b
and_true true = refl
and_true false = refl

pub and_assoc : (a b c : Bool) → (a && (b && c)) ≡ ((a && b) && c)
and_assoc true b c = refl
and_assoc false b c = refl

nil_snoc : (ys : List ℕ) (b : ℕ) → pointwise nat_eq [] (ys ++ b ∷ []) ≡ false
nil_snoc [] b = refl
nil_snoc (y ∷ ys) b = refl

snoc_nil : (m : List ℕ) (c : ℕ) → pointwise nat_eq (m ++ c ∷ []) [] ≡ false
snoc_nil [] c = refl
snoc_nil (x ∷ m) c = refl

snoc_alike : (m ys : List ℕ) (c b : ℕ)
    → pointwise nat_eq (m ++ c ∷ []) (ys ++ b ∷ []) ≡ (pointwise nat_eq m ys && nat_eq c b)
snoc_alike [] [] c b = and_true (nat_eq c b)
snoc_alike [] (y ∷ ys) c b = and_right (nat_eq c y) _ (nil_snoc ys b)
snoc_alike (x ∷ m) [] c b = and_right (nat_eq x b) _ (snoc_nil m c)
snoc_alike (x ∷ m) (y ∷ ys) c b =
    ap (λ t. nat_eq x y && t) (snoc_alike m ys c b)
    ∙ and_assoc (nat_eq x y) (pointwise nat_eq m ys) (nat_eq c b)

pub ends_more : (m xs : List ℕ) (c b : ℕ)
    → ends (m ++ c ∷ []) (xs ++ b ∷ []) ≡ (ends m xs && nat_eq c b)
ends_more m xs c b =
    let n : length (xs ++ b ∷ []) - length (m ++ c ∷ []) ≡ length xs - length m =
    omega (arith, length-append xs (b ∷ []), length-append m (c ∷ [])) in
    ap (λ n. pointwise nat_eq (m ++ c ∷ []) (drop n (xs ++ b ∷ []))) n
    ∙ ap (pointwise nat_eq (m ++ c ∷ []))
    (drop-append-le (length xs - length m) xs (b ∷ []) (omega arith))
    ∙ snoc_alike m (drop (length xs - length m) xs) c b

pub ends_nil : (xs : List ℕ) → ends [] xs ≡ true
ends_nil xs =
    ap (pointwise nat_eq [])
    (nil_from_length (drop (length xs - 0) xs) (omega (arith, length-drop (length xs - 0) xs)))

pub lacks_more : (m xs : List ℕ) (b : ℕ) → Lacks m xs → ends m (xs ++ b ∷ []) ≡ false
    → Lacks m (xs ++ b ∷ [])
lacks_more m xs b lacks last j le =
    elim (cases_lt j (length xs + 1)) [
      | inl less ↦ ends_at_front m (xs ++ b ∷ []) xs j (length xs) (omega arith)
          (take-append-le (length xs) xs (b ∷ []) (omega arith)) ∙ lacks j (omega arith)
      | inr past ↦ ap (λ p. ends_with nat_eq p m)
          (take_all j (xs ++ b ∷ []) (omega (arith, length-append xs (b ∷ [])))) ∙ last
    ]

-- a mark is equal to itself
pub same_mark : (mark : List ℕ) → pointwise nat_eq mark mark ≡ true
same_mark [] = refl
same_mark (x ∷ mark) = ap (λ b. b && pointwise nat_eq mark mark) (eq-eqb x x refl) ∙ same_mark mark

-- neither a line nor a header part ends in the empty list
pub no_line_end : Lacks line_end []
no_line_end zero h = refl
no_line_end (suc j) h = refl

pub no_header_end : Lacks header_end []
no_header_end zero h = refl
no_header_end (suc j) h = refl
