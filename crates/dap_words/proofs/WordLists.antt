-- Texts of two machines that differ only in some texts of each become equal with the same words.
use Rattle.std.proofs.Common.{◌≡◌, ℕ, zero, suc, true, List, [], ◌∷◌, ◌++◌, refl, sym, ap, ap₂}
use Rattle.std.proofs.Common.{None}
use Rattle.std.proofs.Common.{◌∙◌}
use Rattle.dap_words.specs.Words.{Pair, none_begins, have_own_texts, Replaced, replaced}
use Rattle.dap_words.specs.Machines.{Piece, same, text_of, pair_at, words_of, written_by, none_in}
use Rattle.dap_words.specs.Machines.{AreFoundAtPlaces}
use Rattle.dap_words.proofs.Booleans.{and_left, and_right}
use Rattle.dap_words.proofs.WordSteps.{none_found, is_found}
use Rattle.dap_words.proofs.ReplacedTexts.{replaced_is_one, kept_byte, word_written}

bytes_kept : (pairs : List Pair) (l rest : List ℕ) → none_in pairs l rest ≡ true
    → replaced pairs (l ++ rest) ≡ l ++ replaced pairs rest
bytes_kept pairs [] rest h = refl
bytes_kept pairs (b ∷ l) rest h =
    kept_byte pairs b (l ++ rest) (none_found None pairs (b ∷ l ++ rest)
    (and_left (none_begins pairs (b ∷ l ++ rest)) (none_in pairs l rest) h))
    ∙ ap (λ t. b ∷ t) (bytes_kept pairs l rest
    (and_right (none_begins pairs (b ∷ l ++ rest)) (none_in pairs l rest) h))

-- the pieces with these words at the places
abbrev word_at : List (List ℕ) → ℕ → List ℕ
word_at [] k = []
word_at (w ∷ words) zero = w
word_at (w ∷ words) (suc k) = word_at words k

abbrev worded : List (List ℕ) → List Piece → List ℕ
worded words [] = []
worded words (same l ∷ pieces) = l ++ worded words pieces
worded words (text_of k ∷ pieces) = word_at words k ++ worded words pieces

its_word : (pairs : List Pair) (k : ℕ) → (pair_at pairs k).word ≡ word_at (words_of pairs) k
its_word [] k = refl
its_word (p ∷ pairs) zero = refl
its_word (p ∷ pairs) (suc k) = its_word pairs k

one_list : (pairs : List Pair) (pieces : List Piece) → have_own_texts pairs ≡ true
    → AreFoundAtPlaces pairs pieces
    → replaced pairs (written_by pairs pieces) ≡ worded (words_of pairs) pieces
one_list pairs [] h f = refl
one_list pairs (same l ∷ pieces) h f =
    bytes_kept pairs l (written_by pairs pieces) f.0
    ∙ ap (λ t. l ++ t) (one_list pairs pieces h f.1)
one_list pairs (text_of k ∷ pieces) h f =
    let p = pair_at pairs k in
    let rest = written_by pairs pieces in
    word_written pairs p (p.text ++ rest) rest refl f.0.begins
    (is_found pairs (p.text ++ rest) p h f.0)
    ∙ ap₂ (λ x y. x ++ y) (its_word pairs k) (one_list pairs pieces h f.1)

pub two_word_lists : (pairs others : List Pair) (pieces : List Piece) (s t : List ℕ)
    → have_own_texts pairs ≡ true → have_own_texts others ≡ true
    → words_of pairs ≡ words_of others → AreFoundAtPlaces pairs pieces
    → AreFoundAtPlaces others pieces → Replaced pairs (written_by pairs pieces) s
    → Replaced others (written_by others pieces) t → s ≡ t
two_word_lists pairs others pieces s t h k e f g q r =
    replaced_is_one pairs (written_by pairs pieces) s h q
    ∙ one_list pairs pieces h f
    ∙ ap (λ words. worded words pieces) e
    ∙ sym (one_list others pieces k g)
    ∙ sym (replaced_is_one others (written_by others pieces) t k r)
