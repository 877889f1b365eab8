-- The words that a `Words` represents, and what holds for them.
use Rattle.std.specs.Prelude.{◌≡◌, ◌==◌, true, cond, List, length, Option, Some, None}
use Rattle.dap_words.specs.Words.{Pair, pairs_of, have_own_texts, is_text_among}
use Rattle.dap_words.specs.Apart.{are_apart, stays_apart}
use Rattle.dap_words.specs.declared.word_list.Words.{Words}
use Rattle.dap_words.specs.declared.word_list.WordCause.{WordCause}
use Rattle.dap_words.specs.declared.word_list.WordCause.TheVariants as cause

abbrev pub pairs_in : Words → List Pair
pairs_in w = pairs_of w.list.items

-- What holds for every list of words (own): no two replace the same text, and no word meets a text,
-- so a second pass changes nothing.
pub record AreSettled (pairs : List Pair) : Type 0 where
  pub own_texts : have_own_texts pairs ≡ true
  pub apart : are_apart pairs ≡ true

-- Why a pair may not follow the pairs of a list; `None` if it may.
abbrev pub cause_against : List Pair → Pair → Option WordCause
cause_against pairs p =
    cond (length p.text == 0) (Some cause.Empty)
    (cond (is_text_among p.text pairs) (Some cause.Repeated)
    (cond (stays_apart pairs p) None (Some cause.Meets)))
