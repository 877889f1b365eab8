use Rattle.std.proofs.Common.{◌≢◌, ◌<◌, length, Some, None, ⊎_elim, sym, ◌∙◌, subst, arith}
use Rattle.std.proofs.lemmas.Bool.{eqb-true, eqb-false}
use Rattle.std.proofs.lemmas.List.{take_rest}
use Rattle.memchr.specs.Find.{FindsNeedle}
use Rattle.dap_words.proofs.NextPlaces.{place_found, no_place, too_long, empty_text}
use Rattle.dap_words.proofs.occurrences.next_place.Goals as goal

pub returns-then-is_empty : goal.returns-then-is_empty
returns-then-is_empty c =
    let x = c.args.text.now in
    let s = c.args.bytes.now in
    let from = c.args.from in
    ⊎_elim (λ e. empty_text x s from (eqb-true (length x) 0 (sym c.is_empty.ensures ∙ e)) c.requires)
    (λ p. too_long x s from c.requires (subst (λ r. length r < length x) (take_rest s from) p.1))
    c.then-is_empty.either

pub returns-in-Some : goal.returns-in-Some
returns-in-Some c =
    let x = c.args.text.now in
    let s = c.args.bytes.now in
    let at = c.in-Some.at in
    let any : length x ≢ 0 = eqb-false (length x) 0 (sym c.if-is_empty.ensures) in
    let some : 0 < length x = omega arith in
    let finds = subst (λ r. FindsNeedle r x 0 (Some at)) (take_rest s c.args.from)
    c.in-Some.ensures in
    place_found x s c.args.from at some finds.0 finds.1

pub returns-in-None : goal.returns-in-None
returns-in-None c =
    let x = c.args.text.now in
    let s = c.args.bytes.now in
    no_place x s c.args.from c.requires
    (subst (λ r. FindsNeedle r x 0 None) (take_rest s c.args.from) c.in-None.ensures)
