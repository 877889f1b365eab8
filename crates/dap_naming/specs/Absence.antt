-- Contents in which a declaration finds no id.
use Rattle.std.specs.Prelude.{◌≡◌, ℕ, ◌⊎◌, false, List, ◌++◌, codes}
use Rattle.dap_tree.specs.Doc.{Doc}
use Rattle.dap_tokens.specs.declared.form.Form.{Form}
use Rattle.dap_tokens.specs.declared.form.Form.TheVariants.{Whole, Digits, Hex, Long, Uuid}
use Rattle.dap_mask.specs.Declarations.{Declaration, form_of}
use Rattle.dap_mask.specs.Rules.{rule_applies}

-- The part occurs in the list.
pub record Occurs (part xs : List ℕ) : Type 0 where
  pub before : List ℕ
  pub after : List ℕ
  pub are : xs ≡ before ++ (part ++ after)

abbrev pub Lacks : List ℕ → List ℕ → Type 0
Lacks part xs = Occurs part xs → ⊥

-- The content lacks tokens of the label in this form (own): a hexadecimal number starts with `0x`
-- or `0X`, and a name contains its label. Nothing is known of the other forms.
abbrev pub LacksTokens : Form → List ℕ → List ℕ → Type 0
LacksTokens Hex label content =
    Lacks (codes "0x") content × Lacks (codes "0X") content × Lacks label content
LacksTokens Whole label content = ⊥
LacksTokens Digits label content = ⊥
LacksTokens Long label content = ⊥
LacksTokens Uuid label content = ⊥

-- The declaration finds no id in the message with this content: its rule does not apply, or the
-- content lacks tokens.
abbrev pub FindsNothing : Declaration → Doc → List ℕ → Type 0
FindsNothing x d content = (rule_applies x.rule d ≡ false)
    ⊎ LacksTokens (form_of x.rule.verb) x.label content
