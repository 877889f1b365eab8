use Rattle.std.proofs.Common.{◌++◌, [], Some, refl, sym, ap, ap₂, ◌∙◌, subst, rules}
use Rattle.std.specs.Prelude.{IsUtf8}
use Rattle.json.specs.Print.{print}
use Rattle.dap_tree.specs.View.{view}
use Rattle.dap_tree.specs.WrittenTokens.{WritesDoc}
use Rattle.dap_tree.proofs.WithoutIds.{data-without, no_id_without}
use Rattle.dap_tree.proofs.Writing.{depth_from_sound, text_of_tokens, tokens_read_back}
use Rattle.dap_tree.proofs.write.write_tree_to.Goals as goal

pub returns-clause-text : goal.returns-clause-text
returns-clause-text c =
    let d = view c.args.tree.now in
    let old = c.new-writer.result.tokens in
    let new = c.write-written.new.out.tokens in
    let written : WritesDoc d old new = search rules in
    let before = c.write-written.ensures.before ∙ c.new-writer.ensures.before
    ∙ ap (λ v. v.items) c.replace.ensures.value in
    let spelled =
    text_of_tokens d old new [] (print new) c.new-writer.ensures.tokens refl written refl in
    c.into_inner.ensures.items ∙ ap₂ (λ xs ys. xs ++ ys) before spelled

pub returns-clause-reads_back : goal.returns-clause-reads_back
returns-clause-reads_back c =
    let d = view c.args.tree.now in
    let old = c.new-writer.result.tokens in
    let new = c.write-written.new.out.tokens in
    let written : WritesDoc d old new = search rules in
    let spelled =
    text_of_tokens d old new [] (print new) c.new-writer.ensures.tokens refl written refl in
    let reads =
    tokens_read_back d old new [] (print new) c.new-writer.ensures.tokens refl written refl
    c.into_inner.ensures.reads_back (depth_from_sound d c.requires) in (
      (
        subst IsUtf8 spelled c.into_inner.ensures.utf8,
        rw spelled at reads ∙ ap Some (sym (data-without d)),
      ),
      no_id_without d,
    )
