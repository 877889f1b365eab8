use Rattle.std.proofs.Common.{◌≡◌, ◌∙◌, sym, ap, ℕ, List, ◌++◌, take, length, IsUtf8, string_bytes}
use Rattle.std.proofs.Common.{subst, rules, refl}
use Rattle.std.proofs.Math.Seq.{take-append_seam}
use Rattle.std.proofs.lemmas.Str.{IsUtf8-string_bytes}
use Rattle.dap_words.specs.Long.{long}
use Rattle.dap_words.proofs.Utf8.{long_utf8}
use Rattle.dap_words.proofs.long_runs.long.Goals as goal

taken : (k n : ℕ) (xs ys : List ℕ) → n ≡ length xs → take k (take n (xs ++ ys)) ≡ take k xs
taken k n xs ys e = rw (e, take-append_seam) refl

pub unwrap-requires : goal.unwrap-requires
unwrap-requires c =
    let len : c.into_bytes-bytes.result.len ≡ length c.shorten_runs-kept.new.bytes =
    search rules in
    let from : c.deref_mut.result.now ≡ string_bytes c.args.text = c.deref_mut.ensures.value
    ∙ ap (λ v. v.items) c.into_bytes-bytes.ensures.value in
    let same = c.truncate.ensures.items ∙ taken _ _ _ _ len ∙ c.shorten_runs-kept.ensures.kept
    ∙ ap long from in
    c.from_utf8.ensures.succeeds (subst IsUtf8 (sym same) (long_utf8 (string_bytes c.args.text)
    (IsUtf8-string_bytes c.args.text)))
