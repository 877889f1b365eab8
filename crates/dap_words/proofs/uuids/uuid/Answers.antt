use Rattle.std.proofs.Common.{◌≡◌, ◌∙◌, sym, ap, ℕ, List, ◌++◌, take, length, IsUtf8, string_bytes}
use Rattle.std.proofs.Common.{subst, rules}
use Rattle.std.proofs.Math.Seq.{take-append_seam}
use Rattle.std.proofs.lemmas.Str.{IsUtf8-string_bytes}
use Rattle.dap_words.specs.Uuids.{uuid}
use Rattle.dap_words.proofs.Utf8.{uuid_utf8}
use Rattle.dap_words.proofs.uuids.uuid.Goals as goal

whole_utf8 : (n : ℕ) (xs ys : List ℕ) → n ≡ length xs → IsUtf8 xs → IsUtf8 (take n (xs ++ ys))
whole_utf8 n xs ys e u = rw (e, take-append_seam) u

pub unwrap-requires : goal.unwrap-requires
unwrap-requires c =
    let len : c.into_bytes-bytes.result.len ≡ length c.clear_uuids.new.bytes = search rules in
    let from : c.deref_mut.result.now ≡ string_bytes c.args.text = c.deref_mut.ensures.value
    ∙ ap (λ v. v.items) c.into_bytes-bytes.ensures.value in
    let cleared : IsUtf8 c.clear_uuids.new.bytes =
    subst IsUtf8 (sym (c.clear_uuids.ensures ∙ ap uuid from))
    (uuid_utf8 (string_bytes c.args.text) (IsUtf8-string_bytes c.args.text)) in
    c.from_utf8.ensures.succeeds (whole_utf8 _ _ _ len cleared)
