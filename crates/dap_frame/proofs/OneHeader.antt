-- A header part has one list of lines and states one thing.
use Rattle.std.proofs.Common.{◌≡◌, ℕ, ◌+◌, ◌-◌, ◌<◌, ◌≤◌, ⊎_elim, true, List, [], ◌∷◌, ◌++◌, length}
use Rattle.std.proofs.Common.{take, drop, get_or, Result, refl, sym, ap, ◌∙◌, subst, arith, nat_eq}
use Rattle.std.proofs.lemmas.List.{take-append-le, take_at, append_assoc, append_cancel_left}
use Rattle.std.proofs.lemmas.List.{length-append, length-take, take-take, drop_at}
use Rattle.std.proofs.lemmas.List.{get_or-append-add}
use Rattle.std.proofs.lemmas.Bool.{false≢true, cases_lt}
use Rattle.std.proofs.Math.Seq.{take-append-add}
use Rattle.std.specs.List.{ends_with, AllByRecursion}
use lib.Pointwise.{pointwise}
use Rattle.dap_frame.specs.declared.limits.FrameLimits.{FrameLimits}
use Rattle.dap_frame.specs.declared.fault.FrameFault.{FrameFault}
use Rattle.dap_frame.specs.Lines.{ends_at, IsFirstEnd, header_end, Lacks, line_end, ended}
use Rattle.dap_frame.specs.Frame.{HeaderGivesLength, BeginsWith, parsed_length}
use Rattle.dap_frame.proofs.MarkEnds.{ends_at_front}
use Rattle.dap_frame.proofs.ByteEnds.{same_mark}

-- a line is followed by its end
ends_behind : (line rest : List ℕ)
    → ends_at line_end (line ++ (line_end ++ rest)) (length line + 2) ≡ true
ends_behind line rest =
    ap (λ xs. ends_with nat_eq xs line_end) (take-append-add line (line_end ++ rest) 2)
    ∙ ap (λ n. pointwise nat_eq line_end (drop n (line ++ line_end)))
    (let e : length (line ++ line_end) - 2
    ≡ length line = omega (arith, length-append line line_end) in e)
    ∙ ap (pointwise nat_eq line_end) (drop_at line line_end (length line) refl) ∙ same_mark line_end

not_shorter : (l m r s : List ℕ) → Lacks line_end m → l ++ (line_end ++ r) ≡ m ++ (line_end ++ s)
    → length l < length m
    → ⊥
not_shorter l m r s lacks e short =
    ⊎_elim
    (λ (one : length m < length l + 2).
    let next : length l + 1 ≡ length m + 0 = omega arith in
    let wrong : 10 ≡ 13 =
    sym (get_or-append-add l (line_end ++ r) 1 0) ∙ ap (λ xs. get_or xs (length l + 1) 0) e
    ∙ ap (λ n. get_or (m ++ (line_end ++ s)) n 0) next
    ∙ get_or-append-add m (line_end ++ s) 0 0 in
    omega arith)
    (λ (long : length l + 2 ≤ length m).
    let whole = ends_behind l r in
    let same = ends_at_front line_end m (m ++ (line_end ++ s)) (length l + 2) (length l + 2)
    (omega arith) (sym (take-append-le (length l + 2) m (line_end ++ s) long)) in
    false≢true (sym (lacks (length l + 2) long) ∙ same
    ∙ ap (λ xs. ends_at line_end xs (length l + 2)) (sym e) ∙ whole))
    (cases_lt (length m) (length l + 2))

same_line : (l m r s : List ℕ) → Lacks line_end l → Lacks line_end m
    → l ++ (line_end ++ r) ≡ m ++ (line_end ++ s)
    → l ≡ m
same_line l m r s lacks_l lacks_m e =
    let up : length l < length m → ⊥ = not_shorter l m r s lacks_m e in
    let down : length m < length l → ⊥ = not_shorter m l s r lacks_l (sym e) in
    let len : length m ≡ length l =
    ⊎_elim (λ h. absurd (up h))
    (λ (le : length m
    ≤ length l). ⊎_elim (λ h. absurd (down h)) (λ (ge : length l ≤ length m). omega arith)
    (cases_lt (length m) (length l))) (cases_lt (length l) (length m)) in
    sym (take_at l (line_end ++ r) (length l) refl) ∙ ap (take (length l)) e
    ∙ take_at m (line_end ++ s) (length l) len

pub lines_unique : (ls ms : List (List ℕ)) → AllByRecursion (Lacks line_end) ls
    → AllByRecursion (Lacks line_end) ms
    → ended ls ++ line_end ≡ ended ms ++ line_end → ls ≡ ms
lines_unique [] [] p q e = refl
lines_unique [] (m ∷ ms) p q e =
    absurd (omega (
      arith,
      ap length e,
      length-append (m ++ line_end ++ ended ms) line_end,
      length-append (m ++ line_end) (ended ms),
      length-append m line_end,
    ))
lines_unique (l ∷ ls) [] p q e =
    absurd (omega (
      arith,
      ap length e,
      length-append (l ++ line_end ++ ended ls) line_end,
      length-append (l ++ line_end) (ended ls),
      length-append l line_end,
    ))
lines_unique (l ∷ ls) (m ∷ ms) p q e =
    let apart : (x : List ℕ) (xs : List (List ℕ))
    → (x ++ line_end ++ ended xs) ++ line_end ≡ x ++ (line_end ++ (ended xs ++ line_end)) =
    λ x xs.
    append_assoc (x ++ line_end) (ended xs) line_end
    ∙ append_assoc x line_end (ended xs ++ line_end) in
    let here = sym (apart l ls) ∙ e ∙ apart m ms in
    let same : l ≡ m = same_line l m (ended ls ++ line_end) (ended ms ++ line_end) p.0 q.0 here in
    let rest : line_end ++ (ended ls ++ line_end) ≡ line_end ++ (ended ms ++ line_end) =
    append_cancel_left m _ _ (ap (λ x. x ++ (line_end ++ (ended ls ++ line_end))) (sym same) ∙ here)
    in
    let more = lines_unique ls ms p.1 q.1 (append_cancel_left line_end _ _ rest) in
    ap (λ x. x ∷ ls) same ∙ ap (λ xs. m ∷ xs) more

pub says_one : (limits : FrameLimits) (header : List ℕ) (a b : Result ℕ FrameFault)
    → HeaderGivesLength limits header a
    → HeaderGivesLength limits header b → a ≡ b
says_one limits header a b p q =
    let same = lines_unique p.lines q.lines p.are_lines.each q.are_lines.each (sym p.are_lines.bytes
    ∙ q.are_lines.bytes) in
    p.said_so ∙ ap (parsed_length limits) same ∙ sym q.said_so

first_end_one : (mark x : List ℕ) (i j : ℕ) → IsFirstEnd mark x i → IsFirstEnd mark x j → i ≡ j
first_end_one mark x i j p q =
    let up : i < j → ⊥ = λ h. false≢true (sym (q.first i h) ∙ p.ends) in
    let down : j < i → ⊥ = λ h. false≢true (sym (p.first j h) ∙ q.ends) in
    ⊎_elim (λ h. absurd (up h))
    (λ (le : j ≤ i). ⊎_elim (λ h. absurd (down h)) (λ (ge : i ≤ j). omega arith) (cases_lt j i))
    (cases_lt i j)

pub begins_one : (limits : FrameLimits) (x : List ℕ) (i j : ℕ) (a b : Result ℕ FrameFault)
    → BeginsWith limits x i a
    → BeginsWith limits x j b → (i ≡ j) × (a ≡ b)
begins_one limits x i j a b p q =
    let same = first_end_one header_end x i j p.ended q.ended in (
      same,
      says_one limits (take j x) a b
          (subst (λ k. HeaderGivesLength limits (take k x) a) same p.says)
          q.says,
    )

-- a header part within the limit ends in the first bytes up to the limit
pub no_end : (limits : FrameLimits) (x : List ℕ) (len : ℕ) (said : Result ℕ FrameFault)
    → BeginsWith limits x len said
    → Lacks header_end (take limits.header x) → ⊥
no_end limits x len said begins lacks =
    let low = begins.within in
    let in_x = begins.ended.within in
    let within : len ≤ length (take limits.header x) = omega (arith, length-take limits.header x) in
    let same = ends_at_front header_end (take limits.header x) x len len (omega arith)
    (take-take len limits.header x begins.within) in
    false≢true (sym (lacks len within) ∙ same ∙ begins.ended.ends)
