-- Two runs over prefixes of the same bytes: the one with fewer values is a prefix of the other.
use Rattle.std.proofs.Common.{◌≡◌, ◌≢◌, ◌⊎◌, inl, inr, ⊎_elim, ℕ, ◌+◌, ◌<◌, ◌≤◌, List, [], ◌∷◌}
use Rattle.std.proofs.Common.{◌++◌, length}
use Rattle.std.proofs.Common.{sym, ◌∙◌, ap, subst, arith, append-nil, length-append}
use Rattle.std.proofs.lemmas.Bool.{cases_lt}
use Rattle.std.proofs.lemmas.List.{append_cancel_left, nil_from_length}
use Rattle.dap_frame.proofs.Ends.{IsReadable}
use Rattle.dap_input.specs.Validation.{Validation}
use Rattle.dap_input.proofs.Runs.{ValueLaws, Run, GoesOn, no_values, run_goes_on}

-- No values have no bytes.
pub no_bytes : (j : Validation) (before : List j.Value) (used : ℕ) (bytes : List ℕ)
    (values : List j.Value) → Run j before used bytes values → length values ≡ 0 → bytes ≡ []
unfolding Run
no_bytes j before used bytes [] run none = run
no_bytes j before used bytes (value ∷ values) run none = absurd (omega (arith, none))

module _ (j : Validation) (records : IsReadable j.records) (judged : ValueLaws j) where
  module _ (front other rest more : List ℕ) (values others : List j.Value)
      (run : Run j [] 0 front values) (longer : Run j [] 0 other others) (same : front ++ rest
      ≡ other ++ more) where
    abbrev On : Type 0
    On = GoesOn j [] 0 front values other others

    abbrev Back : Type 0
    Back = GoesOn j [] 0 other others front values

    either : On ⊎ Back
    either =
        ⊎_elim
        (λ less. inl
        (run_goes_on j records judged [] 0 front other rest more values others run longer same
        (omega arith)))
        (λ le. inr (run_goes_on j records judged [] 0 other front more rest others values longer run
        (sym same) le))
        (cases_lt (length front) (length other))

    values_on : (on : On) → length others ≡ length values + length on.last
    values_on on = ap (λ (t : List j.Value). length t) on.values_are ∙ length-append values on.last

    values_back : (on : Back) → length values ≡ length others + length on.last
    values_back on =
        ap (λ (t : List j.Value). length t) on.values_are ∙ length-append others on.last

    lengths : length front + length rest ≡ length other + length more
    lengths = sym (length-append front rest) ∙ ap length same ∙ length-append other more

    -- The bytes of fewer values are a prefix of those of more values.
    pub values_front : length values ≤ length others
        → (last : List j.Value) × (others ≡ values ++ last)
    values_front few =
        ⊎_elim
        (λ on. (on.last, on.values_are))
        (λ on.
        let none : on.last ≡ [] = nil_from_length on.last (omega (arith, few, values_back on)) in (
          [],
          sym (on.values_are ∙ ap (λ t. others ++ t) none ∙ append-nil others)
              ∙ sym (append-nil values),
        ))
        either

    -- After fewer values, some bytes remain.
    pub some_rest : length values < length others → rest ≢ []
    some_rest few none =
        ⊎_elim
        (λ on.
        let count : length rest ≡ 0 = ap length none in
        let bytes : length other ≡ length front + length on.behind =
        ap length on.bytes_are ∙ length-append front on.behind in
        let empty : length on.behind ≡ 0 = omega (arith, count, bytes, lengths) in
        let no_more : on.last ≡ [] =
        no_values j records values (0 + length front) on.behind on.last on.run empty in
        let no_count : length on.last ≡ 0 = ap (λ (t : List j.Value). length t) no_more in
        absurd (omega (arith, few, no_count, values_on on)))
        (λ on. absurd (omega (arith, few, values_back on)))
        either

    -- Equal numbers of values are equal values, of equal bytes.
    pub same_values : length values ≡ length others
        → (values ≡ others) × (front ≡ other) × (rest ≡ more)
    same_values count = all (⊎_elim on_so back_so either)
      where
        on_so : On → (values ≡ others) × (front ≡ other)
        on_so on =
            let none : length on.last ≡ 0 = omega (arith, count, values_on on) in (
              sym (on.values_are ∙ ap (λ t. values ++ t) (nil_from_length on.last none)
                  ∙ append-nil values),
              sym (on.bytes_are
                  ∙ ap (λ t. front ++ t)
                  (no_bytes j values (0 + length front) on.behind on.last on.run none)
                  ∙ append-nil front),
            )

        back_so : Back → (values ≡ others) × (front ≡ other)
        back_so on =
            let none : length on.last ≡ 0 = omega (arith, count, values_back on) in (
              on.values_are ∙ ap (λ t. others ++ t) (nil_from_length on.last none)
                  ∙ append-nil others,
              on.bytes_are
                  ∙ ap (λ t. other ++ t)
                  (no_bytes j others (0 + length other) on.behind on.last on.run none)
                  ∙ append-nil other,
            )

        all : (values ≡ others) × (front ≡ other)
            → (values ≡ others) × (front ≡ other) × (rest ≡ more)
        all so = (
          so.0,
          so.1,
          append_cancel_left other rest more (subst (λ t. t ++ rest ≡ other ++ more) so.1 same),
        )
