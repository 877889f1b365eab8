-- A run that ends before the string is the same run before the written string.
use Rattle.std.proofs.Common.{◌≡◌, ℕ, Bool, true, false, List, [], ◌∷◌, ◌++◌, length, refl, sym, ap}
use Rattle.std.proofs.Common.{◌∙◌, arith}
use Rattle.std.specs.List.{take_while}
use Rattle.dap_words.specs.Runs.{all_of, begins_with}
use Rattle.dap_tokens.specs.Tokens.{Labels}
use Rattle.dap_tokens.proofs.Booleans.{by_bool, and_both}
use Rattle.dap_tokens.proofs.Lists.{yes, no, run_taken}
use Rattle.dap_tokens.proofs.Agrees.{Agree, ends_too}

pub record RunKept (p : ℕ → Bool) (t s : List ℕ) : Type 0 where
  pub all : all_of p t ≡ true
  pub ends : begins_with p s ≡ false

pub run_kept : (p : ℕ → Bool) (t s : List ℕ) → length (take_while p (t ++ s)) ≡ length t
    → RunKept p t s
run_kept p [] [] h = record {
  all = refl;
  ends = refl;
}
run_kept p [] (c ∷ s) h = by_bool (p c)
    (λ k. let some = ap length (yes p c s k) in absurd (omega arith))
    (λ k. record {
      all = refl;
      ends = k;
    })
run_kept p (b ∷ t) s h = by_bool (p b)
    (λ k. let some = ap length (yes p b (t ++ s) k) in
    let more = run_kept p t s (omega arith) in
    record {
      all = and_both (p b) (all_of p t) k more.all;
      ends = more.ends;
    })
    (λ k. let none = ap length (no p b (t ++ s) k) in absurd (omega arith))

pub run_again : {labels : Labels} {n : ℕ} {d : Bool} {s w : List ℕ} (p : ℕ → Bool) (t : List ℕ)
    → p 60 ≡ false → Agree labels n d s w → length (take_while p (t ++ s)) ≡ length t
    → take_while p (t ++ w) ≡ t
run_again {s = s} {w = w} p t o a h =
    let kept = run_kept p t s h in run_taken p t w kept.all (ends_too p o a kept.ends)

pub run_same : {labels : Labels} {n : ℕ} {d : Bool} {s w : List ℕ} (p : ℕ → Bool) (t : List ℕ)
    → p 60 ≡ false → Agree labels n d s w → length (take_while p (t ++ s)) ≡ length t
    → take_while p (t ++ w) ≡ take_while p (t ++ s)
run_same {s = s} {w = w} p t o a h =
    let kept = run_kept p t s h in
    run_again p t o a h ∙ sym (run_taken p t s kept.all kept.ends)
