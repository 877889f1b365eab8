use Rattle.std.proofs.Common.{false, ◌∙◌, ap, arith, length, length-drop, option_map, sym}
use Rattle.dap_tokens.specs.{Models.{labels_of, token_of}, Tokens.parts_from}
use Rattle.dap_tokens.proofs.Starts.{count_some, label_of}
use Rattle.dap_naming.proofs.Limits.{same_fault}
use Rattle.dap_naming.proofs.Literals.{run_step}
use Rattle.dap_naming.proofs.Writing.{literal_step, token_step, full_step}
use Rattle.dap_naming.proofs.texts.name_parts.Goals as goal

pub parts-preserved-then-run-gt0 : goal.parts-preserved-then-run-gt0
parts-preserved-then-run-gt0 c =
    let labels = labels_of c.args.labels.now in
    record {
      read = run_step labels c.args.numbers.now c.parts.numbers
          (parts_from labels 0 false c.args.text.now) c.parts.after_digit
          c.ends_in_digit-after_digit.result c.parts.rest.now c.split_part.result.0.now
          c.split_part.result.1.now c.literal_run-run.result c.args.named.now.items
          c.parts.named.items c.extend_from_slice.new.self.items c.parts.invariant.read
          c.literal_run-run.ensures c.if-run-gt0.true c.split_part.ensures.part
          c.split_part.ensures.rest c.ends_in_digit-after_digit.ensures
          c.in_ok-extend_from_slice.ensures.items;
      limit = c.parts.invariant.limit;
    }

pub parts-preserved-in-None : goal.parts-preserved-in-None
parts-preserved-in-None c =
    let labels = labels_of c.args.labels.now in
    record {
      read = literal_step labels c.args.numbers.now c.parts.numbers
          (parts_from labels 0 false c.args.text.now) c.parts.after_digit
          c.is_ascii_hexdigit-after_digit.result c.parts.rest.now _ _ c.args.named.now.items
          c.parts.named.items c.push.new.named.items c.parts.invariant.read
          c.in-Some.ensures.cases.0
          (sym c.token_at.ensures ∙ ap (option_map token_of) c.in-None.is)
          c.is_ascii_hexdigit-after_digit.ensures.value c.in_ok-push-in-None.ensures;
      limit = c.parts.invariant.limit;
    }

pub name_token-requires : goal.name_token-requires
name_token-requires c =
    let t = token_of c.in-Some-token_at.token in
    c.requires t.form t.label (label_of (labels_of c.args.labels.now) c.parts.after_digit
    c.parts.rest.now t (sym c.token_at.ensures ∙ ap (option_map token_of) c.in-Some-token_at.is))

pub parts-smaller : goal.parts-smaller
parts-smaller c =
    let rest = c.parts.rest.now in
    let t = token_of c.in-Some-token_at.token in
    let some = count_some (labels_of c.args.labels.now) c.parts.after_digit rest t
    (sym c.token_at.ensures ∙ ap (option_map token_of) c.in-Some-token_at.is) in
    let left = ap length c.split_part-in-Some-token_at.ensures.rest in
    let all = ap length c.in-Some.ensures.cases.0 in
    omega (arith, some, left, all, length-drop t.count rest)

pub parts-preserved : goal.parts-preserved
parts-preserved c =
    let labels = labels_of c.args.labels.now in
    let part = c.split_part-in-Some-token_at in
    let named = c.in_ok-name_token-in-Some-token_at.ensures in
    record {
      read = token_step labels c.args.numbers.now c.parts.numbers c.name_token.new.numbers
          (parts_from labels 0 false c.args.text.now) c.parts.after_digit c.parts.rest.now
          part.result.0.now part.result.1.now _ _ (token_of c.in-Some-token_at.token)
          c.args.named.now.items c.parts.named.items c.name_token.new.named.items
          c.parts.invariant.read c.in-Some.ensures.cases.0
          (sym c.token_at.ensures ∙ ap (option_map token_of) c.in-Some-token_at.is)
          part.ensures.part part.ensures.rest named.writes c.parts.invariant.limit named.few;
      limit = named.limit ∙ c.parts.invariant.limit;
    }

pub returns-in_err-name_token-in-Some-token_at-clause-full :
    goal.returns-in_err-name_token-in-Some-token_at-clause-full
returns-in_err-name_token-in-Some-token_at-clause-full c =
    let labels = labels_of c.args.labels.now in
    let part = c.split_part-in-Some-token_at in
    let failed = c.in_err-name_token-in-Some-token_at in
    let passed = c.from_residual-in_err-name_token-in-Some-token_at in
    λ e. full_step labels c.args.numbers.now c.parts.numbers
    (parts_from labels 0 false c.args.text.now) c.parts.after_digit c.parts.rest.now
    part.result.0.now _ _ (token_of c.in-Some-token_at.token) c.args.named.now.items
    c.parts.named.items c.parts.invariant.read c.in-Some.ensures.cases.0
    (sym c.token_at.ensures ∙ ap (option_map token_of) c.in-Some-token_at.is) part.ensures.part
    c.parts.invariant.limit
    (c.name_token.ensures.full
    (same_fault c.name_token.result passed.result failed.field-0.0 failed.was passed.ensures.1 e))
