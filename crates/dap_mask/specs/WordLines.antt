-- Lines that put words in the place of texts, as a program writes them.
use Rattle.std.specs.{Prelude.{◌≡◌, ℕ, true, List, [], ◌∷◌, ◌++◌, codes}, Str.is_utf8}
use Rattle.dap_tree.specs.Doc.{text as text_doc}
use Rattle.dap_tree.specs.Json.{text_of}
use Rattle.dap_words.specs.Words.{Pair}
use Rattle.dap_mask.specs.{Mask.{put, rule}, RuleText.line_said, Runs.{has_class, lines_of}}
use Rattle.dap_mask.specs.{Texts.all_of, declared.runs.ByteClass.TheVariants.InLine}

-- The line `word TEXT WORD` (own). TEXT and WORD are JSON strings.
abbrev pub word_line : Pair → List ℕ
word_line p =
    codes "word " ++ (text_of (text_doc p.text) ++ (codes " " ++ text_of (text_doc p.word)))

-- The bytes are one line of a rules file, without a line feed, and mean that the word of the pair
-- is put in the place of its text.
pub record IsLineOf (p : Pair) (l : List ℕ) : Type 0 where
  pub one : all_of (has_class InLine) l ≡ true
  pub utf8 : is_utf8 l ≡ true
  pub said : line_said l ≡ rule (put p)

-- A line after a line feed is one more line of the file.
abbrev pub OneMoreLine : Type 0
OneMoreLine = (s l : List ℕ) → all_of (has_class InLine) l ≡ true
    → lines_of (s ++ 10 ∷ l) ≡ lines_of s ++ l ∷ []
