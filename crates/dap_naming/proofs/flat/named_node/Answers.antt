use mir.Val.{SFits}
use Rattle.std.proofs.Common.{◌≡◌, ◌∙◌, List, ap, of_z, pos, refl, rules, sym, to_z, w64}
use Rattle.std.specs.Int.{w128}
use Rattle.std.proofs.lemmas.Int.{to_z-of_z}
use Rattle.std.proofs.lemmas.Result.{IfOk-weaker}
use Rattle.dap_tree.specs.Doc.{null, boolean, id, whole}
use Rattle.dap_flat.specs.Pieces.{leaf, piece_of}
use Rattle.dap_tokens.specs.Models.{labels_of}
use Rattle.dap_tokens.specs.declared.form.Form.TheVariants.{Whole}
use Rattle.dap_naming.specs.Documents.{Declared, here}
use Rattle.dap_naming.specs.Flat.{NamesLeaf}
use Rattle.dap_naming.proofs.FlatNames.{same_leaf, text_leaf, whole_leaf}
use Rattle.dap_naming.proofs.Heres.{label_of_form}
use Rattle.dap_naming.proofs.flat.named_node.Goals as goal

pub named_integer-requires : goal.named_integer-requires
named_integer-requires c = label_of_form (labels_of c.args.labels.now) Whole c.requires

pub named_integer-requires-in-Negative : goal.named_integer-requires-in-Negative
named_integer-requires-in-Negative c =
    label_of_form (labels_of c.args.labels.now) Whole c.requires

pub returns-in_ok-named_text-in-Text-clause-names
    : goal.returns-in_ok-named_text-in-Text-clause-names
returns-in_ok-named_text-in-Text-clause-names c rs is =
    text_leaf _ _ rs _ _ (labels_of c.args.labels.now) c.in-Text.text.now _ is
    (ap piece_of c.in-Text.is) refl c.in_ok-named_text-in-Text.ensures.names

pub returns-in-Unsigned-clause-names : goal.returns-in-Unsigned-clause-names
returns-in-Unsigned-clause-names c =
    let a = c.args.numbers.now in
    let b = c.named_integer.new.numbers in
    let labels = labels_of c.args.labels.now in
    let fits : SFits w128 c.from.result = search rules in
    let wide : to_z w128 (of_z w128 c.from.result) ≡ pos c.in-Unsigned.value =
    to_z-of_z w128 c.from.result fits ∙ c.from.ensures in
    IfOk-weaker c.named_integer.result _
    (λ n. (rs : List Declared) → labels ≡ here rs
    → NamesLeaf rs a b (piece_of c.args.node) (piece_of n))
    (λ n named rs is. whole_leaf a b rs _ (piece_of n) labels _ is
    (ap piece_of c.in-Unsigned.is ∙ ap (λ z. leaf (whole z)) (sym wide)) named)
    c.named_integer.ensures.names

pub returns-in-Negative-clause-names : goal.returns-in-Negative-clause-names
returns-in-Negative-clause-names c =
    let a = c.args.numbers.now in
    let b = c.named_integer-in-Negative.new.numbers in
    let labels = labels_of c.args.labels.now in
    let fits : SFits w128 c.from-in-Negative.result = search rules in
    let small : SFits w64 c.in-Negative.value = search rules in
    let wide : to_z w128 (of_z w128 c.from-in-Negative.result) ≡ c.in-Negative.value =
    to_z-of_z w128 c.from-in-Negative.result fits ∙ c.from-in-Negative.ensures
    ∙ to_z-of_z w64 c.in-Negative.value small in
    IfOk-weaker c.named_integer-in-Negative.result _
    (λ n. (rs : List Declared) → labels ≡ here rs
    → NamesLeaf rs a b (piece_of c.args.node) (piece_of n))
    (λ n named rs is. whole_leaf a b rs _ (piece_of n) labels _ is
    (ap piece_of c.in-Negative.is ∙ ap (λ z. leaf (whole z)) (sym wide)) named)
    c.named_integer-in-Negative.ensures.names

pub returns-in-Null-clause-names : goal.returns-in-Null-clause-names
returns-in-Null-clause-names c rs is =
    same_leaf _ _ rs _ _ null refl (ap piece_of c.in-Null.is) refl refl (λ n. refl)

pub returns-in-Bool-clause-names : goal.returns-in-Bool-clause-names
returns-in-Bool-clause-names c rs is =
    same_leaf _ _ rs _ _ (boolean c.in-Bool.value) refl (ap piece_of c.in-Bool.is) refl refl
    (λ n. refl)

pub returns-in-Id-clause-names : goal.returns-in-Id-clause-names
returns-in-Id-clause-names c rs is =
    same_leaf _ _ rs _ _ (id _ _) refl (ap piece_of c.in-Id.is) (ap piece_of c.in-Id.is) refl
    (λ n. refl)
