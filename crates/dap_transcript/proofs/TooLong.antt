-- The first record whose content is above the limit.
use Rattle.std.proofs.Common.{◌≡◌, ℕ, suc, ◌<◌, ◌≤◌, List, [], ◌∷◌, ◌++◌, length, take, drop}
use Rattle.std.proofs.Common.{inl, inr, Some, sym, ap, ◌∙◌, subst, arith}
use Rattle.std.specs.Prelude.{slice_get}
use Rattle.std.specs.List.{All}
use Rattle.std.proofs.lemmas.Bool.{cases_lt}
use Rattle.std.proofs.lemmas.List.{length-take-le}
use Rattle.std.proofs.lemmas.List.Elements.{All-push}
use Rattle.dap_tree.specs.Json.{text_of}
use Rattle.dap_message.specs.Message.{Sent}
use Rattle.dap_transcript.specs.ReadErrors.{FirstTooLong}
use Rattle.dap_transcript.proofs.Places.{open_there, take_and_drop, taken_there, within_there}

pub at_most : (limit len : ℕ) → (limit < len → ⊥) → len ≤ limit
at_most limit len short = elim (cases_lt limit len) [
  | inl less ↦ absurd (short less)
  | inr most ↦ most
]

-- The contents of these messages are within the limit.
abbrev pub Fit : ℕ → List Sent → Type 0
Fit limit messages = All (λ (m : Sent). length (text_of m.doc) ≤ limit) messages

pub none_too_long : (limit : ℕ) (all : List Sent) → Fit limit (take 0 all)
none_too_long limit [] = λ k d l. absurd (omega arith)
none_too_long limit (m ∷ all) = λ k d l. absurd (omega arith)

pub one_fits : (all : List Sent) (place : ℕ) (m : Sent) (limit : ℕ) → slice_get all place ≡ Some m
    → Fit limit (take place all) → length (text_of m.doc) ≤ limit → Fit limit (take (suc place) all)
one_fits all place m limit is fit fits =
    subst (Fit limit) (sym (taken_there all place m is))
    (All-push (λ (m : Sent). length (text_of m.doc) ≤ limit) (take place all) m fit fits)

pub first_too_long : (all : List Sent) (place : ℕ) (m : Sent) (limit number : ℕ)
    → slice_get all place ≡ Some m → Fit limit (take place all) → number ≡ suc place
    → limit < length (text_of m.doc) → FirstTooLong all limit number
first_too_long all place m limit number is fit counted long = record {
  earlier = take place all;
  message = m;
  later = drop (suc place) all;
  all = sym (take_and_drop place all) ∙ ap (λ t. take place all ++ t) (open_there all place m is);
  fit = fit;
  too_long = long;
  number_is = counted
      ∙ ap suc (sym (length-take-le place all (omega (arith, within_there all place m is))));
}
