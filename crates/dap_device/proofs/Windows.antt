-- The unread part of a buffer.
use Rattle.std.proofs.Common.{◌≡◌, ℕ, ◌-◌, ◌+◌, ◌≤◌, List, drop, take, length, sym, ◌∙◌, ap, arith}
use Rattle.std.proofs.Common.{length-take}
use Rattle.std.specs.Prelude.{slice_range}
use Rattle.std.proofs.lemmas.List.{drop-drop, drop-take}

-- The unread part after some of it is skipped.
pub skipped : (buffer : List ℕ) (start end count : ℕ)
    → count ≤ length (slice_range buffer start end)
    → slice_range buffer (start + count) end ≡ drop count (slice_range buffer start end)
skipped buffer start end count few =
    let behind : ℕ = end - (start + count) in
    let within : count + behind ≡ end - start =
    omega (arith, few, length-take (end - start) (drop start buffer)) in
    ap (take behind) (sym (drop-drop count start buffer))
    ∙ sym (drop-take count behind (drop start buffer))
    ∙ ap (λ n. drop count (take n (drop start buffer))) within
