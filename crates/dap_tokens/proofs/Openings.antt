-- The steps that read the opening of a name.
use Rattle.std.proofs.Common.{◌≡◌, ℕ, List, [], ◌∷◌, ◌++◌, sym, ap, ◌∙◌, append_assoc, Option}
use Rattle.std.proofs.Common.{Some, None, Bor}
use Rattle.std.specs.Option.{MatchOption}
use Rattle.dap_tokens.specs.Tokens.{opening}

cancel : (a b c : List ℕ) → a ++ b ≡ a ++ c → b ≡ c
cancel [] b c e = e
cancel (x ∷ a) b c e = cancel a b c cc

pub no_label : (label text after : List ℕ) → text ≡ 60 ∷ after
    → ((rest : List ℕ) → after ≡ label ++ rest → ⊥)
    → (rest : List ℕ) → text ≡ opening label ++ rest → ⊥
no_label label text after e h rest f =
    let a = append_assoc label (32 ∷ []) rest in h (32 ∷ rest) cc

pub blank : (label text after last p : List ℕ) (r : Option (Bor (List ℕ))) → p ≡ 32 ∷ []
    → text ≡ 60 ∷ after → after ≡ label ++ last
    → MatchOption r ((rest : List ℕ) → last ≡ p ++ rest → ⊥) (λ x. last ≡ p ++ x.now)
    → MatchOption r ((rest : List ℕ) → text ≡ opening label ++ rest → ⊥)
    (λ x. text ≡ opening label ++ x.now)
blank label text after last p None d e f h = λ rest g.
    let a = append_assoc label (32 ∷ []) rest in
    let q = ap (λ x. x ++ rest) d in
    let k : label ++ last ≡ label ++ 32 ∷ rest = cc in
    h rest (cancel label last (32 ∷ rest) k ∙ sym q)
blank label text after last p (Some x) d e f h =
    let a = append_assoc label (32 ∷ []) x.now in
    let b = ap (λ t. label ++ t) (h ∙ ap (λ t. t ++ x.now) d) in
    let g : after ≡ (label ++ 32 ∷ []) ++ x.now = f ∙ b ∙ sym a in
    e ∙ ap (λ t. 60 ∷ t) g
