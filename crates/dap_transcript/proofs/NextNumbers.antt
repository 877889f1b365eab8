-- The expected number after one number more.
use Rattle.std.proofs.Common.{◌≡◌, ℤ, Bool, true, false, cond, List, [], ◌∷◌, ◌++◌, map}
use Rattle.std.proofs.Common.{Some, refl, sym, ap, ◌∙◌, append-nil}
use Rattle.std.specs.{List.filter}
use Rattle.dap_tree.specs.declared.side.Side.{Side}
use Rattle.dap_message.specs.Message.{Sent}
use Rattle.dap_session.specs.Messages.{is_from, seq_of}
use Rattle.dap_transcript.specs.declared.expected.Numbers.{Numbers}
use Rattle.dap_transcript.specs.Expected.{next_number, numbers_of}
use Rattle.dap_transcript.specs.Numbers.{Counts, last_number, next_after}

last-snoc : (ns : List ℤ) (n : ℤ) → last_number (ns ++ n ∷ []) ≡ Some n
last-snoc [] n = refl
last-snoc (m ∷ []) n = refl
last-snoc (m ∷ o ∷ ns) n = last-snoc (o ∷ ns) n

next-snoc : (ns : List ℤ) (n : ℤ) → next_number (ns ++ n ∷ []) ≡ next_after (last_number ns) n
next-snoc [] n = refl
next-snoc (m ∷ []) n = refl
next-snoc (m ∷ o ∷ []) n = refl
next-snoc (m ∷ o ∷ p ∷ ns) n = next-snoc (o ∷ p ∷ ns) n

pub counts_more : (c d : Numbers) (n : ℤ) (ns : List ℤ) → Counts c ns → d.last ≡ Some n
    → d.next ≡ next_after c.last n → Counts d (ns ++ n ∷ [])
counts_more c d n ns so_far last next = record {
  last_is = last ∙ sym (last-snoc ns n);
  next_is = next ∙ ap (λ o. next_after o n) so_far.last_is ∙ sym (next-snoc ns n);
}

step : (b : Bool) (m : Sent) (xs ys : List Sent) (ns : List ℤ)
    → map seq_of ys ≡ map seq_of xs ++ ns
    → map seq_of (cond b (m ∷ ys) ys) ≡ map seq_of (cond b (m ∷ xs) xs) ++ ns
step true m xs ys ns h = ap (λ zs. seq_of m ∷ zs) h
step false m xs ys ns h = h

numbers-append : (side : Side) (ms ns : List Sent)
    → numbers_of side (ms ++ ns) ≡ numbers_of side ms ++ numbers_of side ns
numbers-append side [] ns = refl
numbers-append side (m ∷ ms) ns =
    step (is_from side m) m (filter (is_from side) ms) (filter (is_from side) (ms ++ ns))
    (numbers_of side ns) (numbers-append side ms ns)

one_number : (b : Bool) (m : Sent) → b ≡ true → map seq_of (cond b (m ∷ []) []) ≡ seq_of m ∷ []
one_number true m h = refl
one_number false m h = absurd (cc)

no_number : (b : Bool) (m : Sent) → b ≡ false → map seq_of (cond b (m ∷ []) []) ≡ []
no_number true m h = absurd (cc)
no_number false m h = refl

pub of_same_side : (side : Side) (ms : List Sent) (m : Sent) → is_from side m ≡ true
    → numbers_of side (ms ++ m ∷ []) ≡ numbers_of side ms ++ seq_of m ∷ []
of_same_side side ms m from =
    numbers-append side ms (m ∷ [])
    ∙ ap (λ ns. numbers_of side ms ++ ns) (one_number (is_from side m) m from)

pub of_other_side : (side : Side) (ms : List Sent) (m : Sent) → is_from side m ≡ false
    → numbers_of side (ms ++ m ∷ []) ≡ numbers_of side ms
of_other_side side ms m from =
    numbers-append side ms (m ∷ [])
    ∙ ap (λ ns. numbers_of side ms ++ ns) (no_number (is_from side m) m from)
    ∙ append-nil (numbers_of side ms)
