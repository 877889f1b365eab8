use Rattle.std.proofs.Common.{◌∙◌, ap, sym, Some}
use Rattle.std.proofs.lemmas.Str.{IsUtf8-string_bytes}
use Rattle.std.specs.Prelude.{string_bytes}
use Rattle.dap_tree.specs.View.{view}
use Rattle.dap_tree.proofs.WithoutIds.{data-without, no_id_without}
use Rattle.dap_tree.proofs.Writing.{depth_from_sound, text_of_tokens, tokens_read_back}
use Rattle.dap_tree.proofs.write.write_tree.Goals as goal

pub returns-clause-text : goal.returns-clause-text
returns-clause-text c =
    let reported = rw c.unwrap.ensures at c.from_utf8.ensures.ok in
    let is = ap (λ v. v.items) reported ∙ c.into_inner.ensures.items in
    let empty = c.in_ok-write.ensures.before ∙ c.new-out.ensures.before ∙ c.new.ensures.items in
    text_of_tokens (view c.args.tree.now) c.new-out.result.tokens c.write.new.out.tokens _
    (string_bytes c.unwrap.result) c.new-out.ensures.tokens empty c.in_ok-write.ensures.ok is

pub returns-clause-reads_back : goal.returns-clause-reads_back
returns-clause-reads_back c =
    let d = view c.args.tree.now in
    let reported = rw c.unwrap.ensures at c.from_utf8.ensures.ok in
    let is = ap (λ v. v.items) reported ∙ c.into_inner.ensures.items in
    let empty = c.in_ok-write.ensures.before ∙ c.new-out.ensures.before ∙ c.new.ensures.items in
    let reads =
    tokens_read_back d c.new-out.result.tokens c.write.new.out.tokens _
    (string_bytes c.unwrap.result) c.new-out.ensures.tokens empty c.in_ok-write.ensures.ok is
    c.into_inner.ensures.reads_back (depth_from_sound d c.requires) in
    ((IsUtf8-string_bytes c.unwrap.result, reads ∙ ap Some (sym (data-without d))), no_id_without d)
