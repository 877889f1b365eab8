-- The kind of a document, and the members that its kind has.
use Rattle.std.proofs.Common.{◌≡◌, ℤ, Bool, true, false, cond, Some, None, refl, sym, ap, ap₂, ◌∙◌}
use Rattle.std.proofs.Common.{codes}
use Rattle.std.specs.Option.{option_map_or}
use Rattle.dap_tree.specs.Doc.{Doc, get}
use Rattle.dap_profile.specs.RowRanges.{same_kind}
use Rattle.dap_profile.specs.declared.profile.Kind.{Kind}
use Rattle.dap_profile.specs.declared.profile.Kind.TheVariants.{Request, Response, Event}
use Rattle.dap_message.specs.AskedRows.{kind_of_tree}
use Rattle.dap_message.specs.Envelope.{kind_of, name_of, text_value, id_number, boolean_value}
use Rattle.dap_message.specs.Rows.{is_of_kind, name_key}
use Rattle.dap_message.proofs.AskedRows.{kind-reported}
use Rattle.dap_flat_message.specs.Made.{Answers}

pub of_kind : (j k : Kind) (d : Doc) → kind_of_tree d ≡ Some k → is_of_kind j d ≡ same_kind j k
of_kind j k d reported = kind-reported j d ∙ ap (λ o. option_map_or (same_kind j) o false) reported

itself : (k : Kind) → same_kind k k ≡ true
itself Request = refl
itself Response = refl
itself Event = refl

by_kind : (k : Kind)
    → k ≡ cond (same_kind Request k) Request (cond (same_kind Response k) Response Event)
by_kind Request = refl
by_kind Response = refl
by_kind Event = refl

pub has_kind : (d : Doc) (k : Kind) → kind_of_tree d ≡ Some k → is_of_kind k d ≡ true
has_kind d k reported = of_kind k k d reported ∙ itself k

pub kind_is : (d : Doc) (k : Kind) → kind_of_tree d ≡ Some k → k ≡ kind_of d
kind_is d k reported =
    by_kind k
    ∙ ap₂ (λ a b. cond a Request (cond b Response Event)) (sym (of_kind Request k d reported))
    (sym (of_kind Response k d reported))

pub name_is : (d : Doc) (k : Kind) → kind_of_tree d ≡ Some k
    → name_of d ≡ text_value (get (name_key k) d)
name_is d k reported = ap (λ j. text_value (get (name_key j) d)) (sym (kind_is d k reported))

pub no_answer : (d : Doc) (k : Kind) → kind_of_tree d ≡ Some k → same_kind Response k ≡ false
    → Answers (None, None) d
no_answer d k reported other =
    let not_one : is_of_kind Response d ≡ false = of_kind Response k d reported ∙ other in record {
      number = sym (ap (λ b. cond b (id_number (get (codes "request_seq") d)) None) not_one);
      number_there = sym not_one;
      success = sym (ap (λ b. cond b (boolean_value (get (codes "success") d)) None) not_one);
      success_there = sym not_one;
    }

pub an_answer : (d : Doc) (n : ℤ) (b : Bool) → kind_of_tree d ≡ Some Response
    → Some n ≡ id_number (get (codes "request_seq") d)
    → Some b ≡ boolean_value (get (codes "success") d) → Answers (Some n, Some b) d
an_answer d n b reported number success =
    let one : is_of_kind Response d ≡ true = of_kind Response Response d reported in record {
      number = number ∙ sym (ap (λ b. cond b (id_number (get (codes "request_seq") d)) None) one);
      number_there = sym one;
      success =
          success ∙ sym (ap (λ b. cond b (boolean_value (get (codes "success") d)) None) one);
      success_there = sym one;
    }
