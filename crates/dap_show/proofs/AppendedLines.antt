-- Strings that are appended one after the other.
use Rattle.std.proofs.Common.{◌≡◌, ℕ, List, ◌++◌, Result, Ok, Err, sym, ◌∙◌, ap}
use Rattle.std.proofs.Common.{append_assoc}
use Rattle.std.specs.Prelude.{OnOk}

-- A word and the string after it.
pub regrouped : {U E : Type 0} (r : Result U E) (old x y after line : List ℕ)
    → OnOk r (after ≡ (old ++ x) ++ y) → x ++ y ≡ line → OnOk r (after ≡ old ++ line)
regrouped (Ok v) old x y after line is whole = is ∙ append_assoc old x y ∙ ap (λ t. old ++ t) whole
regrouped (Err e) old x y after line is whole = tt

-- A word and the string after it, appended to others.
pub then_after : (old x w y first second : List ℕ) → first ≡ old ++ x → second ≡ (first ++ w) ++ y
    → second ≡ old ++ ((x ++ w) ++ y)
then_after old x w y first second is then =
    then ∙ ap (λ t. (t ++ w) ++ y) is ∙ ap (λ t. t ++ y) (append_assoc old x w)
    ∙ append_assoc old (x ++ w) y

pub ended_after : {U E : Type 0} (r : Result U E) (old x w y before after line : List ℕ)
    → before ≡ old ++ x → OnOk r (after ≡ (before ++ w) ++ y) → (x ++ w) ++ y ≡ line
    → OnOk r (after ≡ old ++ line)
ended_after (Ok v) old x w y before after line is then whole =
    then_after old x w y before after is then ∙ ap (λ t. old ++ t) whole
ended_after (Err e) old x w y before after line is then whole = tt

-- The text of one part was appended to the text before it, and the rest remains.
pub one_part : (before after part rest left all : List ℕ) → after ≡ before ++ part
    → left ≡ part ++ rest → before ++ left ≡ all → after ++ rest ≡ all
one_part before after part rest left all is split was =
    ap (λ t. t ++ rest) is ∙ append_assoc before part rest ∙ ap (λ t. before ++ t) (sym split) ∙ was
