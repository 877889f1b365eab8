use Rattle.std.proofs.Common.{◌≡◌, refl, sym, ◌∙◌, rules}
use Rattle.dap_normalise.proofs.StreamAnswers.{ended, gone}
use Rattle.dap_normalise.proofs.StreamLoop.{at_start, few_taken, on, passed_taken}
use Rattle.dap_compare.proofs.StreamComparing.{both_ended, both_next, equal_counts, gave_up_at_end}
use Rattle.dap_compare.proofs.StreamComparing.{names_of, one_number}
use Rattle.dap_compare.proofs.StreamComparing.{passed_by, still_alike, texts_equal, told_apart}
use Rattle.dap_compare.proofs.StreamComparing.{told_by_a, told_by_b}
use Rattle.dap_compare.proofs.LeftTexts.{left_text}
use Rattle.dap_compare.proofs.comparing.compare_records.Goals as goal

pub records-init : goal.records-init
records-init g c =
    record {
      a = at_start g.A.Source c.args.reader_a.now c.requires.a;
      b = at_start g.B.Source c.args.reader_b.now c.requires.b;
      alike = refl;
    }

pub returns-in-Err-clause-outcome : goal.returns-in-Err-clause-outcome
returns-in-Err-clause-outcome g c =
    let was = c.records.invariant in
    told_by_a was.a was.b was.alike _ _ c.in-Err.refused _ c.of.ensures
    (c.in-Err.ensures.next _ _ _ _ _ was.a.represents)

pub returns-in-Err-clause-taken_a : goal.returns-in-Err-clause-taken_a
returns-in-Err-clause-taken_a g c =
    let was = c.records.invariant in
    few_taken was.a (c.in-Err.ensures.next _ _ _ _ _ was.a.represents)

pub returns-in-Err-next-clause-outcome : goal.returns-in-Err-next-clause-outcome
returns-in-Err-next-clause-outcome g c =
    let was = c.records.invariant in
    let passed = passed_by was.a was.b was.alike _ _ _ _ c.in-Ok.some
    (c.in-Ok.ensures.next _ _ _ _ _ was.a.represents) in
    told_by_b was.a was.b was.alike c.next.new.reader passed.0 passed.1 passed.2 _ _
    c.in-Err-next.refused _ c.of-in-Err-next.ensures
    (c.in-Err-next.ensures.next _ _ _ _ _ was.b.represents)

pub returns-in-Err-next-clause-taken_a : goal.returns-in-Err-next-clause-taken_a
returns-in-Err-next-clause-taken_a g c =
    let was = c.records.invariant in
    passed_taken was.a _ _ _ _ c.in-Ok.some (c.in-Ok.ensures.next _ _ _ _ _ was.a.represents)

pub returns-in-Err-next-clause-taken_b : goal.returns-in-Err-next-clause-taken_b
returns-in-Err-next-clause-taken_b g c =
    let was = c.records.invariant in
    few_taken was.b (c.in-Err-next.ensures.next _ _ _ _ _ was.b.represents)

pub returns-then-ne-clause-outcome : goal.returns-then-ne-clause-outcome
returns-then-ne-clause-outcome g c =
    let was = c.records.invariant in
    let apart : c.as_slice.result.now ≡ c.as_slice-in-records.result.now → ⊥ = search rules in
    told_apart was.a was.b was.alike _ _ _ _ _ _ _ _ c.in-Ok.some c.in-Ok-next.field-0
    (c.in-Ok.ensures.next _ _ _ _ _ was.a.represents)
    (c.in-Ok-next.ensures.next _ _ _ _ _ was.b.represents)
    c.clear.ensures.items c.clear-in-records.ensures.items
    (rw (c.as_slice.ensures.value, c.as_slice-in-records.ensures.value) at apart)
    _ c.number-number.ensures

pub returns-then-ne-clause-taken_a : goal.returns-then-ne-clause-taken_a
returns-then-ne-clause-taken_a g c =
    let was = c.records.invariant in
    passed_taken was.a _ _ _ _ c.in-Ok.some (c.in-Ok.ensures.next _ _ _ _ _ was.a.represents)

pub returns-then-ne-clause-taken_b : goal.returns-then-ne-clause-taken_b
returns-then-ne-clause-taken_b g c =
    let was = c.records.invariant in
    passed_taken was.b _ _ _ _ c.in-Ok-next.field-0
    (c.in-Ok-next.ensures.next _ _ _ _ _ was.b.represents)

pub returns-then-ne-clause-text_a : goal.returns-then-ne-clause-text_a
returns-then-ne-clause-text_a g c =
    let was = c.records.invariant in
    left_text was.a _ _ _ _ c.in-Ok.some (c.in-Ok.ensures.next _ _ _ _ _ was.a.represents)
    c.clear.ensures.items _ c.number-number.ensures

pub returns-then-ne-clause-text_b : goal.returns-then-ne-clause-text_b
returns-then-ne-clause-text_b g c =
    let was = c.records.invariant in
    left_text was.b _ _ _ _ c.in-Ok-next.field-0
    (c.in-Ok-next.ensures.next _ _ _ _ _ was.b.represents)
    c.clear-in-records.ensures.items _
    (c.number-number.ensures ∙ sym (one_number was.a was.b was.alike))

pub renaming_to-requires : goal.renaming_to-requires
renaming_to-requires g c =
    let was = c.records.invariant in
    let alike = texts_equal c.as_slice.ensures.value c.as_slice-in-records.ensures.value
    c.ne.ensures c.if-ne.false in
    let as_a = both_next was.a was.b was.alike _ _ _ _ _ _ _ _ c.in-Ok.some c.in-Ok-next.field-0
    (c.in-Ok.ensures.next _ _ _ _ _ was.a.represents)
    (c.in-Ok-next.ensures.next _ _ _ _ _ was.b.represents)
    c.clear.ensures.items c.clear-in-records.ensures.items alike in
    equal_counts was.a was.b was.alike
    (ended was.a (c.in-Ok.ensures.next _ _ _ _ _ was.a.represents) c.if-not-some_a.true)
    (ended was.b (c.in-Ok-next.ensures.next _ _ _ _ _ was.b.represents)
    (as_a ∙ c.if-not-some_a.true))

pub returns-in_default-clause-outcome : goal.returns-in_default-clause-outcome
returns-in_default-clause-outcome g c =
    let was = c.records.invariant in
    let alike = texts_equal c.as_slice.ensures.value c.as_slice-in-records.ensures.value
    c.ne.ensures c.if-ne.false in
    let as_a = both_next was.a was.b was.alike _ _ _ _ _ _ _ _ c.in-Ok.some c.in-Ok-next.field-0
    (c.in-Ok.ensures.next _ _ _ _ _ was.a.represents)
    (c.in-Ok-next.ensures.next _ _ _ _ _ was.b.represents)
    c.clear.ensures.items c.clear-in-records.ensures.items alike in
    gave_up_at_end was.a was.b was.alike
    (ended was.a (c.in-Ok.ensures.next _ _ _ _ _ was.a.represents) c.if-not-some_a.true)
    (ended was.b (c.in-Ok-next.ensures.next _ _ _ _ _ was.b.represents)
    (as_a ∙ c.if-not-some_a.true))

pub returns-in_default-clause-taken_a : goal.returns-in_default-clause-taken_a
returns-in_default-clause-taken_a g c =
    let was = c.records.invariant in
    passed_taken was.a _ _ _ _ c.in-Ok.some (c.in-Ok.ensures.next _ _ _ _ _ was.a.represents)

pub returns-in_default-clause-taken_b : goal.returns-in_default-clause-taken_b
returns-in_default-clause-taken_b g c =
    let was = c.records.invariant in
    passed_taken was.b _ _ _ _ c.in-Ok-next.field-0
    (c.in-Ok-next.ensures.next _ _ _ _ _ was.b.represents)

pub returns-then-not-some_a-clause-outcome : goal.returns-then-not-some_a-clause-outcome
returns-then-not-some_a-clause-outcome g c =
    let was = c.records.invariant in
    let alike = texts_equal c.as_slice.ensures.value c.as_slice-in-records.ensures.value
    c.ne.ensures c.if-ne.false in
    let as_a = both_next was.a was.b was.alike _ _ _ _ _ _ _ _ c.in-Ok.some c.in-Ok-next.field-0
    (c.in-Ok.ensures.next _ _ _ _ _ was.a.represents)
    (c.in-Ok-next.ensures.next _ _ _ _ _ was.b.represents)
    c.clear.ensures.items c.clear-in-records.ensures.items alike in
    let one = ended was.a (c.in-Ok.ensures.next _ _ _ _ _ was.a.represents) c.if-not-some_a.true in
    let two = ended was.b (c.in-Ok-next.ensures.next _ _ _ _ _ was.b.represents)
    (as_a ∙ c.if-not-some_a.true) in
    both_ended was.a was.b was.alike one two _
    (c.in-Ok-renaming_to.ensures.pairs was.a.messages was.b.messages
    (names_of was.a one) (names_of was.b two))

pub returns-then-not-some_a-clause-taken_a : goal.returns-then-not-some_a-clause-taken_a
returns-then-not-some_a-clause-taken_a g c =
    let was = c.records.invariant in
    passed_taken was.a _ _ _ _ c.in-Ok.some (c.in-Ok.ensures.next _ _ _ _ _ was.a.represents)

pub returns-then-not-some_a-clause-taken_b : goal.returns-then-not-some_a-clause-taken_b
returns-then-not-some_a-clause-taken_b g c =
    let was = c.records.invariant in
    passed_taken was.b _ _ _ _ c.in-Ok-next.field-0
    (c.in-Ok-next.ensures.next _ _ _ _ _ was.b.represents)

pub records-smaller : goal.records-smaller
records-smaller g c =
    let was = c.records.invariant in
    (gone was.a (c.in-Ok.ensures.next _ _ _ _ _ was.a.represents) c.if-not-some_a.false).shorter

pub records-preserved : goal.records-preserved
records-preserved g c =
    let was = c.records.invariant in
    let alike = texts_equal c.as_slice.ensures.value c.as_slice-in-records.ensures.value
    c.ne.ensures c.if-ne.false in
    let as_a = both_next was.a was.b was.alike _ _ _ _ _ _ _ _ c.in-Ok.some c.in-Ok-next.field-0
    (c.in-Ok.ensures.next _ _ _ _ _ was.a.represents)
    (c.in-Ok-next.ensures.next _ _ _ _ _ was.b.represents)
    c.clear.ensures.items c.clear-in-records.ensures.items alike in
    let one = gone was.a (c.in-Ok.ensures.next _ _ _ _ _ was.a.represents) c.if-not-some_a.false in
    let two = gone was.b (c.in-Ok-next.ensures.next _ _ _ _ _ was.b.represents)
    (as_a ∙ c.if-not-some_a.false) in
    record {
      a = on was.a one;
      b = on was.b two;
      alike = still_alike was.a was.b was.alike _ _ _ _ _ _ _ _ one two c.requires.limits
          c.clear.ensures.items c.clear-in-records.ensures.items alike;
    }
