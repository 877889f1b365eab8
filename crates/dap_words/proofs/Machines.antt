-- Texts of two machines that differ only in a text of each become equal with the same word.
use Rattle.std.proofs.Common.{◌≡◌, ℕ, true, not, List, [], ◌∷◌, ◌++◌}
use Rattle.std.proofs.Common.{refl, sym, ap, ◌∙◌}
use Rattle.dap_words.specs.Runs.{begins_with}
use Rattle.dap_words.specs.Words.{begins_here, Replaced, replaced}
use Rattle.dap_words.specs.Machines.{Part, literal, own_text, filled, none_within, only_at_places}
use Rattle.dap_words.specs.Machines.{IsReadAtPlaces, its_word}
use Rattle.dap_words.proofs.Booleans.{and_left, and_right, not_true}
use Rattle.dap_words.proofs.WordSteps.{prefix_here}
use Rattle.dap_words.proofs.ReplacedTexts.{replaced_is_one, kept_byte, word_written}

text_here : (x s : List ℕ) → begins_with (λ b. true) x ≡ true → begins_here x (x ++ s) ≡ true
text_here [] s h = cc
text_here (b ∷ x) s h = prefix_here (b ∷ x) s

literal_kept : (x w l rest : List ℕ) → none_within x l rest ≡ true
    → replaced (its_word x w) (l ++ rest) ≡ l ++ replaced (its_word x w) rest
literal_kept x w [] rest h = refl
literal_kept x w (b ∷ l) rest h =
    let no = not_true (begins_here x (b ∷ l ++ rest))
    (and_left (not (begins_here x (b ∷ l ++ rest))) (none_within x l rest) h) in
    kept_byte (its_word x w) b (l ++ rest) (rw no refl)
    ∙ ap (λ t. b ∷ t) (literal_kept x w l rest
    (and_right (not (begins_here x (b ∷ l ++ rest))) (none_within x l rest) h))

filled_with_word : (x w : List ℕ) (parts : List Part) → begins_with (λ b. true) x ≡ true
    → only_at_places x parts ≡ true → replaced (its_word x w) (filled x parts) ≡ filled w parts
filled_with_word x w [] some h = refl
filled_with_word x w (literal l ∷ parts) some h =
    literal_kept x w l (filled x parts)
    (and_left (none_within x l (filled x parts)) (only_at_places x parts) h)
    ∙ ap (λ t. l ++ t) (filled_with_word x w parts some
    (and_right (none_within x l (filled x parts)) (only_at_places x parts) h))
filled_with_word x w (own_text ∷ parts) some h =
    let here = text_here x (filled x parts) some in
    word_written (its_word x w) (record { text = x; word = w }) (x ++ filled x parts)
    (filled x parts) refl here (rw here refl)
    ∙ ap (λ t. w ++ t) (filled_with_word x w parts some h)

one_machine : (x w : List ℕ) (parts : List Part) (s : List ℕ) → IsReadAtPlaces x parts
    → Replaced (its_word x w) (filled x parts) s → s ≡ filled w parts
one_machine x w parts s h r =
    replaced_is_one (its_word x w) (filled x parts) s refl r
    ∙ filled_with_word x w parts h.some h.only

pub two_machines : (x y w : List ℕ) (parts : List Part) (s t : List ℕ) → IsReadAtPlaces x parts
    → IsReadAtPlaces y parts → Replaced (its_word x w) (filled x parts) s
    → Replaced (its_word y w) (filled y parts) t → s ≡ t
two_machines x y w parts s t h k q r =
    one_machine x w parts s h q ∙ sym (one_machine y w parts t k r)
