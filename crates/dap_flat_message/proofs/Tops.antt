-- A node is the start of a document.
use Rattle.std.proofs.Common.{◌≡◌, ℕ, List, get_or, Bool}
use Rattle.std.proofs.Common.{subst, Option, Some, refl, sym, ap, ◌∙◌}
use Rattle.dap_tree.specs.Doc.{Doc, null, boolean, whole, text, list, object, id, no_items}
use Rattle.dap_tree.specs.Doc.{no_members}
use Rattle.dap_profile.specs.declared.profile.Want.{Want}
use Rattle.dap_profile.specs.declared.profile.Want.TheVariants as want
use Rattle.dap_message.specs.Places.{is_object}
use Rattle.dap_message.specs.Rows.{has_type, is_null, cause_against}
use Rattle.dap_flat.specs.declared.node.Node.{Node}
use Rattle.dap_flat.specs.Finding.{Holds}
use Rattle.dap_flat.specs.Pieces.{piece_of}
use Rattle.dap_flat.proofs.Found.{stands_first}
use Rattle.dap_message.specs.Envelope.{text_value, boolean_value, id_number}
use Rattle.dap_message.specs.Rows.{is_true}
use Rattle.dap_flat_message.specs.Judging.{top_of, is_list, Begins}

-- a document of the same form, without its parts
abbrev pub top : Doc → Doc
top null = null
top (boolean b) = boolean b
top (whole z) = whole z
top (text s) = text s
top (list ds) = list no_items
top (object ms) = object no_members
top (id s z) = id s z

pub top_there : (ns : List Node) (at : ℕ) (d : Doc) (n x : Node) → Holds ns at d
    → get_or ns at x ≡ n → top_of (piece_of n) ≡ top d
top_there ns at null n x h there = ap top_of (stands_first ns at n x _ _ h there)
top_there ns at (boolean b) n x h there = ap top_of (stands_first ns at n x _ _ h there)
top_there ns at (whole z) n x h there = ap top_of (stands_first ns at n x _ _ h there)
top_there ns at (text s) n x h there = ap top_of (stands_first ns at n x _ _ h there)
top_there ns at (list ds) n x h there = ap top_of (stands_first ns at n x _ _ h there)
top_there ns at (object ms) n x h there = ap top_of (stands_first ns at n x _ _ h there)
top_there ns at (id s z) n x h there = ap top_of (stands_first ns at n x _ _ h there)

has_type-top : (w : Want) (d : Doc) → has_type w (top d) ≡ has_type w d
has_type-top w null = refl
has_type-top w (boolean b) = refl
has_type-top w (whole z) = refl
has_type-top w (text s) = refl
has_type-top want.Bool (list ds) = refl
has_type-top want.Whole (list ds) = refl
has_type-top want.Text (list ds) = refl
has_type-top want.Object (list ds) = refl
has_type-top want.List (list ds) = refl
has_type-top want.OwnSeq (list ds) = refl
has_type-top want.OtherSeq (list ds) = refl
has_type-top want.Frame (list ds) = refl
has_type-top want.Reference (list ds) = refl
has_type-top want.Thread (list ds) = refl
has_type-top want.Breakpoint (list ds) = refl
has_type-top want.Bool (object ms) = refl
has_type-top want.Whole (object ms) = refl
has_type-top want.Text (object ms) = refl
has_type-top want.Object (object ms) = refl
has_type-top want.List (object ms) = refl
has_type-top want.OwnSeq (object ms) = refl
has_type-top want.OtherSeq (object ms) = refl
has_type-top want.Frame (object ms) = refl
has_type-top want.Reference (object ms) = refl
has_type-top want.Thread (object ms) = refl
has_type-top want.Breakpoint (object ms) = refl
has_type-top w (id s z) = refl

is_null-top : (d : Doc) → is_null (top d) ≡ is_null d
is_null-top null = refl
is_null-top (boolean b) = refl
is_null-top (whole z) = refl
is_null-top (text s) = refl
is_null-top (list ds) = refl
is_null-top (object ms) = refl
is_null-top (id s z) = refl

pub is_object-top : (d : Doc) → is_object (top d) ≡ is_object d
is_object-top null = refl
is_object-top (boolean b) = refl
is_object-top (whole z) = refl
is_object-top (text s) = refl
is_object-top (list ds) = refl
is_object-top (object ms) = refl
is_object-top (id s z) = refl

pub cause-top : (w : Want) (needed : Bool) (d : Doc)
    → cause_against w needed (Some (top d)) ≡ cause_against w needed (Some d)
cause-top w needed d = rw (has_type-top w d, is_null-top d) refl

pub is_list-top : (d : Doc) → is_list (top d) ≡ is_list d
is_list-top null = refl
is_list-top (boolean b) = refl
is_list-top (whole z) = refl
is_list-top (text s) = refl
is_list-top (list ds) = refl
is_list-top (object ms) = refl
is_list-top (id s z) = refl

text_value-top : (d : Doc) → text_value (Some (top d)) ≡ text_value (Some d)
text_value-top null = refl
text_value-top (boolean b) = refl
text_value-top (whole z) = refl
text_value-top (text s) = refl
text_value-top (list ds) = refl
text_value-top (object ms) = refl
text_value-top (id s z) = refl

pub text_value_there : (ns : List Node) (at : ℕ) (x : Node) (found : Option ℕ) (d : Option Doc)
    → found ≡ Some at → Begins ns found d
    → text_value (Some (top_of (piece_of (get_or ns at x)))) ≡ text_value d
text_value_there ns at x found d is h =
    let there : Begins ns (Some at) d = subst (λ r. Begins ns r d) is h in
    ap (λ t. text_value (Some t)) (top_there ns at there.0 (get_or ns at x) x there.2 refl)
    ∙ text_value-top there.0 ∙ ap text_value (sym there.1)

boolean_value-top : (d : Doc) → boolean_value (Some (top d)) ≡ boolean_value (Some d)
boolean_value-top null = refl
boolean_value-top (boolean b) = refl
boolean_value-top (whole z) = refl
boolean_value-top (text s) = refl
boolean_value-top (list ds) = refl
boolean_value-top (object ms) = refl
boolean_value-top (id s z) = refl

pub boolean_value_there : (ns : List Node) (at : ℕ) (x : Node) (found : Option ℕ) (d : Option Doc)
    → found ≡ Some at → Begins ns found d
    → boolean_value (Some (top_of (piece_of (get_or ns at x)))) ≡ boolean_value d
boolean_value_there ns at x found d is h =
    let there : Begins ns (Some at) d = subst (λ r. Begins ns r d) is h in
    ap (λ t. boolean_value (Some t)) (top_there ns at there.0 (get_or ns at x) x there.2 refl)
    ∙ boolean_value-top there.0 ∙ ap boolean_value (sym there.1)

id_number-top : (d : Doc) → id_number (Some (top d)) ≡ id_number (Some d)
id_number-top null = refl
id_number-top (boolean b) = refl
id_number-top (whole z) = refl
id_number-top (text s) = refl
id_number-top (list ds) = refl
id_number-top (object ms) = refl
id_number-top (id s z) = refl

pub id_number_there : (ns : List Node) (at : ℕ) (x : Node) (found : Option ℕ) (d : Option Doc)
    → found ≡ Some at → Begins ns found d
    → id_number (Some (top_of (piece_of (get_or ns at x)))) ≡ id_number d
id_number_there ns at x found d is h =
    let there : Begins ns (Some at) d = subst (λ r. Begins ns r d) is h in
    ap (λ t. id_number (Some t)) (top_there ns at there.0 (get_or ns at x) x there.2 refl)
    ∙ id_number-top there.0 ∙ ap id_number (sym there.1)

is_true-top : (d : Doc) → is_true (Some (top d)) ≡ is_true (Some d)
is_true-top null = refl
is_true-top (boolean b) = refl
is_true-top (whole z) = refl
is_true-top (text s) = refl
is_true-top (list ds) = refl
is_true-top (object ms) = refl
is_true-top (id s z) = refl

pub is_true_there : (ns : List Node) (at : ℕ) (x : Node) (found : Option ℕ) (d : Option Doc)
    → found ≡ Some at → Begins ns found d
    → is_true (Some (top_of (piece_of (get_or ns at x)))) ≡ is_true d
is_true_there ns at x found d is h =
    let there : Begins ns (Some at) d = subst (λ r. Begins ns r d) is h in
    ap (λ t. is_true (Some t)) (top_there ns at there.0 (get_or ns at x) x there.2 refl)
    ∙ is_true-top there.0 ∙ ap is_true (sym there.1)
