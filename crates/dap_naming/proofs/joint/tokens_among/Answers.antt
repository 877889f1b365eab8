use Rattle.std.proofs.Common.{◌++◌, ◌∙◌, ap, sym, false, map, option_map, [], ◌∷◌}
use Rattle.std.proofs.lemmas.List.{map-append}
use Rattle.dap_tokens.specs.Models.{labels_of, token_of}
use Rattle.dap_tokens.specs.Tokens.{parts_from}
use Rattle.dap_naming.specs.Joint.{id_of, tokens_in}
use Rattle.dap_naming.proofs.Joining.{byte_read, token_read, token_shorter}
use Rattle.dap_naming.proofs.joint.tokens_among.Goals as goal

pub parts-preserved-in-None : goal.parts-preserved-in-None
parts-preserved-in-None c =
    let labels = labels_of c.args.labels.now in
    byte_read labels c.parts.after_digit c.is_ascii_hexdigit-after_digit.result c.parts.rest.now
    _ _ (map id_of c.parts.tokens.items) (tokens_in (parts_from labels 0 false c.args.text.now))
    c.parts.invariant c.in-Some.ensures.cases.0
    (sym c.token_at.ensures ∙ ap (option_map token_of) c.in-None.is)
    c.is_ascii_hexdigit-after_digit.ensures.value

pub parts-preserved : goal.parts-preserved
parts-preserved c =
    let labels = labels_of c.args.labels.now in
    let others = c.split_part.result.1.now in
    let token = c.in-Some-token_at.token in
    let labelled = c.in_ok-labelled_token-in-Some-token_at.field-0 in
    ap (λ ts. ts ++ tokens_in (parts_from labels 0 false others))
    (ap (map id_of) c.in_ok-push-in-Some-token_at.ensures.items
    ∙ map-append id_of c.parts.tokens.items (labelled ∷ []))
    ∙ token_read labels c.parts.after_digit c.parts.rest.now c.split_part.result.0.now others
    _ _ (token_of token) (id_of labelled) (map id_of c.parts.tokens.items)
    (tokens_in (parts_from labels 0 false c.args.text.now)) c.parts.invariant
    c.in-Some.ensures.cases.0
    (sym c.token_at.ensures ∙ ap (option_map token_of) c.in-Some-token_at.is)
    c.split_part.ensures.part c.split_part.ensures.rest
    c.in_ok-labelled_token-in-Some-token_at.ensures

pub parts-smaller : goal.parts-smaller
parts-smaller c =
    token_shorter (labels_of c.args.labels.now) c.parts.after_digit c.parts.rest.now
    c.split_part.result.1.now _ _ (token_of c.in-Some-token_at.token) c.in-Some.ensures.cases.0
    (sym c.token_at.ensures ∙ ap (option_map token_of) c.in-Some-token_at.is)
    c.split_part.ensures.rest
