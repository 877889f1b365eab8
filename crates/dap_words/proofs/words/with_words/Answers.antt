use Rattle.std.proofs.Common.{◌≡◌, sym, subst, IsUtf8, rules}
use Rattle.dap_words.specs.Words.{pairs_of, replaced}
use Rattle.dap_words.proofs.ReplacedTexts.{replaced_is}
use Rattle.dap_words.proofs.WordsUtf8.{replaced_utf8, strings_utf8}
use Rattle.dap_words.proofs.words.with_words.Goals as goal

pub unwrap-requires : goal.unwrap-requires
unwrap-requires c =
    let text = c.args.text.now in
    let pairs = pairs_of c.args.words.now in
    let same : c.replace_words.new.out.items ≡ replaced pairs text = search rules in
    c.from_utf8.ensures.succeeds (subst IsUtf8 (sym same)
    (replaced_utf8 pairs text (replaced pairs text) (strings_utf8 c.args.words.now) c.utf8.text
    (replaced_is pairs text)))
