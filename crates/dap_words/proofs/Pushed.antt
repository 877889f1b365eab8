-- A list of words after a push, and a word that may be pushed.
use Rattle.std.proofs.Common.{◌≡◌, ℕ, ◌==◌, Bool, true, false, cond, List, [], ◌∷◌, ◌++◌, length}
use Rattle.std.proofs.Common.{Option, Some, None, refl, ap, ◌∙◌}
use Rattle.dap_words.specs.Words.{Pair, pair_of, pairs_of, is_text_among}
use Rattle.dap_words.specs.Apart.{stays_apart}
use Rattle.dap_words.specs.declared.words.Word.{Word}
use Rattle.dap_words.proofs.OneMore.{pairs_push}
use Rattle.dap_words.specs.Kept.{cause_against}
use Rattle.dap_words.specs.declared.word_list.WordCause.{WordCause}
use Rattle.dap_words.specs.declared.word_list.WordCause.TheVariants as cause

-- a test of pairs holds after a push, whether or not its allocation succeeded
pub pushed_keeps : (b : Bool) (xs : List Word) (x : Word) (ys : List Word)
    → ys ≡ cond b (xs ++ x ∷ []) xs → (test : List Pair → Bool) → test (pairs_of xs) ≡ true
    → test (pairs_of xs ++ pair_of x ∷ []) ≡ true → test (pairs_of ys) ≡ true
pushed_keeps true xs x ys e test h more = ap test (ap pairs_of e ∙ pairs_push xs x) ∙ more
pushed_keeps false xs x ys e test h more = ap (λ zs. test (pairs_of zs)) e ∙ h

pub may_follow : (pairs : List Pair) (p : Pair) → cause_against pairs p ≡ None
    → (is_text_among p.text pairs ≡ false) × (stays_apart pairs p ≡ true)
may_follow pairs p h =
    go (length p.text == 0) (is_text_among p.text pairs) (stays_apart pairs p) h
  where
    go : (a b d : Bool)
        → cond a (Some cause.Empty) (cond b (Some cause.Repeated)
        (cond d None (Some cause.Meets))) ≡ None
        → (b ≡ false) × (d ≡ true)
    go true b d k = cc
    go false true d k = cc
    go false false true k = (refl, refl)
    go false false false k = cc
