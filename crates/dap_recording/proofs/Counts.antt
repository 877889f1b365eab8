-- Count lines are the items of a grammar: digits, up to a byte that is not the next digit of a
-- count.
use Rattle.std.proofs.Common.{◌≡◌, ℕ, ◌⊎◌, inl, inr, true, List, [], ◌∷◌, ◌++◌, length, get_or}
use Rattle.std.proofs.Common.{Result, Ok, Err, refl, sym, ap, ◌∙◌, subst, arith}
use Rattle.std.proofs.lemmas.List.{append_assoc, append_cancel_left, length-append}
use Rattle.std.proofs.lemmas.List.Folds.{list_all-append}
use Rattle.std.proofs.lemmas.Bool.{and_parts, cases_Bool, cases_lt, false≢true}
use Rattle.std.proofs.lemmas.Bool.Decides.{eqb_tells}
use Rattle.std.specs.List.{list_all}
use Rattle.std.specs.Char.{is_ascii_digit}
use Rattle.dap_frame.specs.Grammar.{IsItem, IsGrammar}
use Rattle.dap_frame.proofs.Fronts.{same_front}
use Rattle.dap_frame.proofs.Ends.{one_item}
use Rattle.dap_frame.proofs.Then.{until_grammar}
use Rattle.dap_frame.specs.Lines.{number_of}
use Rattle.dap_recording.specs.declared.trace_fault.TraceCause.{TraceCause}
use Rattle.dap_recording.specs.declared.trace_fault.TraceCause.TheVariants.{BadCount}
use Rattle.dap_recording.specs.Trace.{IsCount, IsCountFront, EndsCount, counts}

pub none_count : IsCount [] → ⊥
none_count is = let some = is.some in omega arith

-- the digits of the parts of a count
digits_of : (front more : List ℕ) → IsCount (front ++ more)
    → (list_all is_ascii_digit front ≡ true) × (list_all is_ascii_digit more ≡ true)
digits_of front more is =
    and_parts (list_all is_ascii_digit front) (list_all is_ascii_digit more)
    (sym (list_all-append is_ascii_digit front more) ∙ is.digits)

-- there is no LF among digits
pub no_lf : (front more : List ℕ) → IsCount (front ++ 10 ∷ more) → ⊥
no_lf front more is = false≢true (digits_of front (10 ∷ more) is).1

pub count_front : (front more : List ℕ) → IsCountFront (front ++ more) → IsCountFront front
count_front [] more is = inl refl
count_front (x ∷ xs) more (inl none) = absurd cc
count_front (x ∷ xs) more (inr is) = let few = is.few in let long =
    length-append (x ∷ xs) more in inr (record {
      some = omega arith;
      few = omega arith;
      digits = (digits_of (x ∷ xs) more is).0;
      plain = elim is.plain [ inl one ↦ inl (omega arith) | inr apart ↦ inr apart ];
    })

count_or_not : (text : List ℕ) → IsCount text ⊎ (IsCount text → ⊥)
count_or_not text =
    elim (cases_lt 0 (length text)) [
      | inr none ↦ inr (λ is. let some = is.some in omega arith)
      | inl some ↦ elim (cases_lt 10 (length text)) [
        | inl many ↦ inr (λ is. let few = is.few in omega arith)
        | inr few ↦ elim (cases_Bool (list_all is_ascii_digit text)) [
          | inr other ↦ inr (λ is. false≢true (sym other ∙ is.digits))
          | inl digits ↦ elim (eqb_tells (length text) 1) [
            | inl one ↦ inl (record { some = some; few = few; digits = digits; plain = inl one.1 })
            | inr many ↦ elim (eqb_tells (get_or text 0 0) 48) [
              | inl is_zero ↦ inr
                  (λ is. elim is.plain [ inl one ↦ many.1 one | inr apart ↦ apart is_zero.1 ])
              | inr apart ↦ inl
                  (record { some = some; few = few; digits = digits; plain = inr apart.1 })
            ]
          ]
        ]
      ]
    ]

-- a byte that is not the next digit is the LF, or is an error
says : (text : List ℕ) (byte : ℕ) → IsCountFront text → (IsCount (text ++ byte ∷ []) → ⊥)
    → (a : Result ℕ TraceCause) × EndsCount text byte a
says text byte (inl none) bad =
    (Err BadCount, (record { begun = inl none; no_end = λ lf. none; no_count = bad }, refl))
says text byte (inr is) bad =
    elim (eqb_tells byte 10) [
      | inl lf ↦ (Ok (number_of text), (lf.1, is, refl))
      | inr other ↦ (
        Err BadCount,
        (record { begun = inr is; no_end = λ lf. absurd (other.1 lf); no_count = bad }, refl),
      )
    ]

no_front : (text : List ℕ) (byte : ℕ) (a : Result ℕ TraceCause) → EndsCount text byte a
    → IsCountFront (text ++ byte ∷ []) → ⊥
no_front text byte a ends (inl none) = omega (arith, ap length none, length-append text (byte ∷ []))
no_front text byte (Ok n) ends (inr is) =
    no_lf text [] (subst (λ b. IsCount (text ++ b ∷ [])) ends.0 is)
no_front text byte (Err cause) ends (inr is) = ends.0.no_count is

one_end : (text : List ℕ) (byte : ℕ) (a b : Result ℕ TraceCause) → EndsCount text byte a
    → EndsCount text byte b → a ≡ b
one_end text byte (Ok m) (Ok n) p q = ap Ok (p.2 ∙ sym q.2)
one_end text byte (Ok m) (Err f) p q = absurd (none_count (subst IsCount (q.0.no_end p.0) p.1))
one_end text byte (Err e) (Ok n) p q = absurd (none_count (subst IsCount (p.0.no_end q.0) q.1))
one_end text byte (Err e) (Err f) p q = ap Err (p.1 ∙ sym q.1)

pub count_grammar : IsGrammar counts
count_grammar = until_grammar IsCountFront EndsCount (record {
  none = inl refl;
  front = count_front;
  no_front = no_front;
  one = one_end;
  some = λ text byte is. elim (count_or_not (text ++ byte ∷ []))
      [ inl count ↦ inl (inr count) | inr bad ↦ inr (says text byte is bad) ];
})

pub a_count : (text : List ℕ) → IsCount text → IsItem counts (text ++ 10 ∷ []) (number_of text)
a_count text is = (text, 10, refl, inr is, (refl, is, refl))

pub counted_one : (a b m n : List ℕ) → IsCount a → IsCount b → a ++ 10 ∷ m ≡ b ++ 10 ∷ n
    → (a ≡ b) × (m ≡ n)
counted_one a b m n is_a is_b e =
    let one = one_item count_grammar (a ++ 10 ∷ []) (b ++ 10 ∷ []) m n (number_of a) (number_of b)
    (cc (append_assoc a (10 ∷ []) m, append_assoc b (10 ∷ []) n)) (a_count a is_a) (a_count b is_b)
    in
    let same : a ≡ b =
    same_front a b (10 ∷ []) (10 ∷ []) one.0
    (omega (arith, ap length one.0, length-append a (10 ∷ []), length-append b (10 ∷ []))) in (
      same,
      append_cancel_left (b ++ 10 ∷ []) m n
          (cc (one.0, append_assoc a (10 ∷ []) m, append_assoc b (10 ∷ []) n)),
    )
