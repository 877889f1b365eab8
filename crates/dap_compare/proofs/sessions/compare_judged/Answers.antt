use Rattle.std.proofs.Common.{◌≡◌, refl, ◌∙◌, rules}
use Rattle.dap_stored.specs.Sessions.{messages_of}
use Rattle.dap_compare.proofs.StreamComparing.{texts_equal}
use Rattle.dap_compare.proofs.SessionComparing.{both_ended, both_next, differ_first, equal_counts}
use Rattle.dap_compare.proofs.SessionComparing.{has_ended, has_next, on, reached_none, still_alike}
use Rattle.dap_compare.proofs.SessionComparing.{text_at}
use Rattle.dap_compare.proofs.sessions.compare_judged.Goals as goal

pub records-init : goal.records-init
records-init g c =
    record {
      a = reached_none (messages_of c.args.a.now) c.requires.new_a refl refl;
      b = reached_none (messages_of c.args.b.now) c.requires.new_b c.requires.same_limits
          c.requires.same_mode;
      alike = refl;
    }

pub returns-then-ne-clause-verdict : goal.returns-then-ne-clause-verdict
returns-then-ne-clause-verdict g c =
    let was = c.records.invariant in
    let apart : c.as_slice.result.now ≡ c.as_slice-in-records.result.now → ⊥ = search rules in
    differ_first was.a was.b was.alike _ _ _ _ _ _
    c.append_next.ensures.mode c.append_next-in-records.ensures.mode
    c.clear.ensures.items c.clear-in-records.ensures.items c.in_ok-some_a.some_a _
    (c.in_ok-some_a.ensures.next was.a.normal was.a.represents)
    (c.in_ok-append_next.ensures.next was.b.normal was.b.represents)
    (rw (c.as_slice.ensures.value, c.as_slice-in-records.ensures.value) at apart) _ refl

pub returns-then-ne-clause-text_a : goal.returns-then-ne-clause-text_a
returns-then-ne-clause-text_a g c =
    let was = c.records.invariant.a in
    text_at was _ _ _ c.in_ok-some_a.some_a
    (c.in_ok-some_a.ensures.next was.normal was.represents) c.append_next.ensures.mode
    c.clear.ensures.items _ refl

pub returns-then-ne-clause-text_b : goal.returns-then-ne-clause-text_b
returns-then-ne-clause-text_b g c =
    let was = c.records.invariant.b in
    text_at was _ _ _ c.in_ok-append_next.field-0
    (c.in_ok-append_next.ensures.next was.normal was.represents)
    c.append_next-in-records.ensures.mode c.clear-in-records.ensures.items _ refl

pub between-requires : goal.between-requires
between-requires g c =
    let was = c.records.invariant in
    let one = c.in_ok-some_a.ensures.next was.a.normal was.a.represents in
    let two = c.in_ok-append_next.ensures.next was.b.normal was.b.represents in
    let equal = texts_equal c.as_slice.ensures.value c.as_slice-in-records.ensures.value
    c.ne.ensures c.if-ne.false in
    let as_a = both_next was.a was.b was.alike _ _ _ _ _ _ c.append_next.ensures.mode
    c.append_next-in-records.ensures.mode c.clear.ensures.items c.clear-in-records.ensures.items
    c.in_ok-some_a.some_a c.in_ok-append_next.field-0 one two equal in
    equal_counts was.a was.b was.alike (has_ended was.a one c.if-not-some_a.true)
    (has_ended was.b two (as_a ∙ c.if-not-some_a.true)) _ _ c.names.ensures
    c.names-then-not-some_a.ensures

pub returns-then-not-some_a-clause-verdict : goal.returns-then-not-some_a-clause-verdict
returns-then-not-some_a-clause-verdict g c =
    let was = c.records.invariant in
    let one = c.in_ok-some_a.ensures.next was.a.normal was.a.represents in
    let two = c.in_ok-append_next.ensures.next was.b.normal was.b.represents in
    let equal = texts_equal c.as_slice.ensures.value c.as_slice-in-records.ensures.value
    c.ne.ensures c.if-ne.false in
    let as_a = both_next was.a was.b was.alike _ _ _ _ _ _ c.append_next.ensures.mode
    c.append_next-in-records.ensures.mode c.clear.ensures.items c.clear-in-records.ensures.items
    c.in_ok-some_a.some_a c.in_ok-append_next.field-0 one two equal in
    both_ended was.a was.b was.alike (has_ended was.a one c.if-not-some_a.true)
    (has_ended was.b two (as_a ∙ c.if-not-some_a.true)) _ _ c.names.ensures
    c.names-then-not-some_a.ensures
    c.in-Ok.renaming c.in-Ok.ensures.represents

pub records-preserved : goal.records-preserved
records-preserved g c =
    let was = c.records.invariant in
    let one = c.in_ok-some_a.ensures.next was.a.normal was.a.represents in
    let two = c.in_ok-append_next.ensures.next was.b.normal was.b.represents in
    let equal = texts_equal c.as_slice.ensures.value c.as_slice-in-records.ensures.value
    c.ne.ensures c.if-ne.false in
    let as_a = both_next was.a was.b was.alike _ _ _ _ _ _ c.append_next.ensures.mode
    c.append_next-in-records.ensures.mode c.clear.ensures.items c.clear-in-records.ensures.items
    c.in_ok-some_a.some_a c.in_ok-append_next.field-0 one two equal in
    let gone_a = has_next was.a one c.if-not-some_a.false in
    let gone_b = has_next was.b two (as_a ∙ c.if-not-some_a.false) in
    record {
      a = on was.a gone_a c.append_next.ensures.mode c.append_next.ensures.limits;
      b = on was.b gone_b c.append_next-in-records.ensures.mode
          c.append_next-in-records.ensures.limits;
      alike = still_alike was.a was.b was.alike _ _ _ _ _ _ c.append_next.ensures.mode
          c.append_next-in-records.ensures.mode c.clear.ensures.items
          c.clear-in-records.ensures.items c.requires.limits c.requires.accepted_a
          c.requires.accepted_b gone_a gone_b equal;
    }
