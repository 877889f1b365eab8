-- The models of the program's types.
use Rattle.std.specs.Prelude.{Option, Some, None, option_map, ℕ, List, cond, Bool, true, false}
use Rattle.dap_tokens.specs.Tokens.{Labels, Token}
use Rattle.dap_tokens.specs.declared.form.Form.{Form}
use Rattle.dap_tokens.specs.declared.form.Form.TheVariants.{Whole, Digits, Hex, Long, Uuid}
use Rattle.dap_tokens.specs.declared.labels.Labels.{Labels as ReadLabels}
use Rattle.dap_tokens.specs.declared.tokens.Token.{Token as ReadToken}

abbrev pub labels_of : ReadLabels → Labels
labels_of l Whole = option_map (λ t. t.now) l.whole
labels_of l Digits = option_map (λ t. t.now) l.digits
labels_of l Hex = option_map (λ t. t.now) l.hex
labels_of l Long = option_map (λ t. t.now) l.long
labels_of l Uuid = option_map (λ t. t.now) l.uuid

abbrev pub token_of : ReadToken → Token
token_of t = record { form = t.form; label = t.label.now; count = t.count }

abbrev pub same_form : Form → Form → Bool
same_form Whole Whole = true
same_form Digits Digits = true
same_form Hex Hex = true
same_form Long Long = true
same_form Uuid Uuid = true
same_form _ _ = false

-- The first label, if there is one. Otherwise the second one.
abbrev pub label_or : Option (List ℕ) → Option (List ℕ) → Option (List ℕ)
label_or None other = other
label_or (Some label) other = Some label

-- The labels with this one for the form, unless the form has one.
abbrev pub with_label : Form → List ℕ → Labels → Labels
with_label form label labels f =
    cond (same_form form f) (label_or (labels f) (Some label)) (labels f)

-- No form has a label.
abbrev pub no_labels : Labels
no_labels form = None
