-- A message whose parts were appended is stored.
use Rattle.std.proofs.Common.{◌≡◌, ℕ, ◌-◌, List, ◌++◌, length, take, drop, ap, ap₂, ◌∙◌, sym}
use Rattle.std.proofs.Common.{subst, arith, length-append}
use Rattle.std.proofs.Math.Logic.{∥∥₁_elim}
use Rattle.std.proofs.Math.Seq.{drop-append_seam, take-length}
use Rattle.std.proofs.Props.{props}
use mathlib.Core.Logic.{∥∥₁_map}
use Rattle.dap_tree.specs.Doc.{Doc}
use Rattle.dap_tree.specs.Json.{text_of}
use Rattle.dap_tree.specs.declared.side.Side.{Side}
use Rattle.dap_message.specs.Message.{Sent}
use Rattle.dap_flat.specs.Marks.{AppendsMarked, IsMarkedText}
use Rattle.dap_stored.specs.declared.head.Head.{Head}
use Rattle.dap_stored.specs.declared.head.Span.{Span}
use Rattle.dap_stored.specs.declared.parts.Parts.{Parts}
use Rattle.dap_stored.specs.Contents.{doc_in}
use Rattle.dap_stored.specs.Heads.{part, IsWithin, IsHeadOf, IsStored, Stores}
use Rattle.dap_stored.proofs.Growth.{starts_with_more}

-- the span of what was appended
pub record IsAdded {X : Type 0} (s : Span) (old new : List X) : Type 0 where
  pub start : s.start ≡ length old
  pub end : s.end ≡ length new

added_part : {X : Type 0} (s : Span) (old new more : List X) → new ≡ old ++ more → IsAdded s old new
    → part new s ≡ more
added_part {X} s old new more is added =
    let size : s.end - s.start ≡ length more =
    omega (arith, added.start, added.end, ap length is, length-append old more) in
    ap₂ (λ n k. take n (drop k new)) size added.start
    ∙ ap (λ xs. take (length more) (drop (length old) xs)) is
    ∙ ap (take (length more)) (drop-append_seam old more)
    ∙ take-length more

added_within : {X : Type 0} (s : Span) (old new more : List X) → new ≡ old ++ more
    → IsAdded s old new → IsWithin s new
added_within {X} s old new more is added = record {
  order = omega (arith, added.start, added.end, ap length is, length-append old more);
  end = omega (arith, added.end);
}

-- the spans of a head are those of what was appended
pub record HasAdded (h : Head) (old new : Parts) : Type 0 where
  pub name : IsAdded h.name old.names.items new.names.items
  pub content : IsAdded h.content old.text.items new.text.items
  pub marks : IsAdded h.marks old.marks.items new.marks.items

-- the text and the marks of this document were appended
abbrev pub AppendsDoc : Parts → Parts → Doc → Type 0
AppendsDoc old new d =
    AppendsMarked old.text.items new.text.items old.marks.items new.marks.items d

content_is : (old new : Parts) (h : Head) (d : Doc) → HasAdded h old new → AppendsDoc old new d
    → part new.text.items h.content ≡ text_of d
content_is old new h d added a =
    added_part h.content old.text.items new.text.items a.text a.text_added added.content
    ∙ a.marked.text_is

stored_new : (old new : Parts) (h : Head) (d : Doc) (named : List ℕ) → HasAdded h old new
    → AppendsDoc old new d → new.names.items ≡ old.names.items ++ named
    → doc_in h.side (text_of d) ≡ d → IsHeadOf h named d → IsStored new h
stored_new old new h d named added a more own head =
    let content = part new.text.items h.content in
    let doc : doc_in h.side content ≡ d =
    ap (doc_in h.side) (content_is old new h d added a) ∙ own in
    let name : part new.names.items h.name ≡ named =
    added_part h.name old.names.items new.names.items named more added.name in
    let text : content ≡ a.text =
    added_part h.content old.text.items new.text.items a.text a.text_added added.content in
    let marks : part new.marks.items h.marks ≡ a.marks =
    added_part h.marks old.marks.items new.marks.items a.marks a.marks_added added.marks in
    record {
      name_within = added_within h.name old.names.items new.names.items named more added.name;
      content_within = added_within h.content old.text.items new.text.items a.text a.text_added
          added.content;
      marks_within = added_within h.marks old.marks.items new.marks.items a.marks a.marks_added
          added.marks;
      message = record {
        head = subst (λ n. IsHeadOf h n (doc_in h.side content)) (sym name)
            (subst (IsHeadOf h named) (sym doc) head);
        marked = subst (λ xs. IsMarkedText content xs (doc_in h.side content)) (sym marks)
            (subst (λ xs. IsMarkedText xs a.marks (doc_in h.side content)) (sym text)
            (subst (IsMarkedText a.text a.marks) (sym doc) a.marked));
      };
    }

abbrev pub sent_as : Side → Doc → Sent
sent_as side d = record { side = side; doc = d }

pub stores_new : (old new : Parts) (h : Head) (side : Side) (d : Doc) (named : List ℕ)
    → HasAdded h old new → ∥ AppendsDoc old new d ∥₁
    → new.names.items ≡ old.names.items ++ named → h.side ≡ side → doc_in side (text_of d) ≡ d
    → IsHeadOf h named d → Stores old new (sent_as side d) h
stores_new old new h side d named added appends more same own head =
    let content : part new.text.items h.content ≡ text_of d =
    ∥∥₁_elim appends (hlevel props) (λ a. content_is old new h d added a) in
    let here : doc_in h.side (text_of d) ≡ d = ap (λ s. doc_in s (text_of d)) same ∙ own in
    record {
      grows = record {
        text = ∥∥₁_elim appends (hlevel props)
            (λ a. starts_with_more old.text.items new.text.items a.text a.text_added);
        names = starts_with_more old.names.items new.names.items named more;
        marks = ∥∥₁_elim appends (hlevel props)
            (λ a. starts_with_more old.marks.items new.marks.items a.marks a.marks_added);
      };
      stored = ∥∥₁_map appends (λ a. stored_new old new h d named added a more here head);
      is = ap₂ sent_as same (ap (doc_in h.side) content ∙ here);
    }
