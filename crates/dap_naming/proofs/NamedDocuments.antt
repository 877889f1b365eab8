-- Named documents have their numbers as ids, so that naming them again replaces the numbers.
use Rattle.std.proofs.Common.{◌≡◌, true, List, ◌++◌, refl, ap, ap₂, sym, ◌∙◌}
use Rattle.std.specs.Fmt.{decimal}
use Rattle.std.proofs.lemmas.List.{map-append}
use Rattle.dap_tree.specs.Doc.{Doc, null, boolean, whole, text, list, object, id, Items, no_items}
use Rattle.dap_tree.specs.Doc.{item, Members, no_members, member}
use Rattle.dap_tokens.specs.Naming.{Id, IsNumbering, Numbering, named_by}
use Rattle.dap_tokens.specs.Laws.{NamesAreRead, NamedTwice, EqualNamed}
use Rattle.dap_tokens.specs.declared.form.Form.TheVariants.{Whole}
use Rattle.dap_naming.specs.Documents.{Declared, here, below, inside, ids_of}
use Rattle.dap_naming.specs.Documents.{items_ids, members_ids, named_doc, named_items}
use Rattle.dap_naming.specs.Documents.{named_members, are_sound}
use Rattle.dap_naming.specs.Laws.{NamesOfDocAreRead, NamedDocTwice}
use Rattle.dap_naming.proofs.Lists.{same_append}
use Rattle.dap_naming.proofs.SoundRules.{sound-below, sound-inside, label-here, inside-named}
use Rattle.dap_naming.proofs.Values.{whole_read, whole_twice}

pub named-append : (number : Numbering) (is js : List Id)
    → named_by number (is ++ js) ≡ named_by number is ++ named_by number js
named-append number is js = map-append _ is js

abbrev pub followed : Numbering → Numbering → Numbering
followed number other = λ label v. other label (decimal (number label v))

module _ (read : NamesAreRead) (twice : NamedTwice) (equal : EqualNamed) (number : Numbering) (n
    : IsNumbering number) where
  mutual
    doc_read : (rs : List Declared) (d : Doc) → are_sound rs ≡ true
        → ids_of rs (named_doc rs number d) ≡ named_by number (ids_of rs d)
    doc_read rs null s = refl
    doc_read rs (boolean b) s = refl
    doc_read rs (whole z) s = whole_read (here rs Whole) number z n
    doc_read rs (text t) s = read (here rs) number t (label-here rs s) n
    doc_read rs (list ds) s = items_read rs ds s
    doc_read rs (object ms) s = members_read rs ms s
    doc_read rs (id sort z) s = refl

    items_read : (rs : List Declared) (ds : Items) → are_sound rs ≡ true
        → items_ids rs (named_items rs number ds) ≡ named_by number (items_ids rs ds)
    items_read rs no_items s = refl
    items_read rs (item d ds) s =
        same_append _ _ _ _
        (ap (λ qs. ids_of qs (named_doc (inside d rs) number d)) (inside-named rs number d s)
        ∙ doc_read (inside d rs) d (sound-inside d rs s))
        (items_read rs ds s)
        ∙ sym (named-append number (ids_of (inside d rs) d) (items_ids rs ds))

    members_read : (rs : List Declared) (ms : Members) → are_sound rs ≡ true
        → members_ids rs (named_members rs number ms) ≡ named_by number (members_ids rs ms)
    members_read rs no_members s = refl
    members_read rs (member k d ms) s =
        same_append _ _ _ _ (doc_read (below k rs) d (sound-below k rs s)) (members_read rs ms s)
        ∙ sym (named-append number (ids_of (below k rs) d) (members_ids rs ms))

  module _ (other : Numbering) where
    mutual
      doc_twice : (rs : List Declared) (d : Doc) → are_sound rs ≡ true
          → named_doc rs other (named_doc rs number d) ≡ named_doc rs (followed number other) d
      doc_twice rs null s = refl
      doc_twice rs (boolean b) s = refl
      doc_twice rs (whole z) s = ap whole (whole_twice (here rs Whole) number other z n)
      doc_twice rs (text t) s =
          ap text (twice (here rs) number other t (label-here rs s) n)
      doc_twice rs (list ds) s = ap list (items_twice rs ds s)
      doc_twice rs (object ms) s = ap object (members_twice rs ms s)
      doc_twice rs (id sort z) s = refl

      items_twice : (rs : List Declared) (ds : Items) → are_sound rs ≡ true
          → named_items rs other (named_items rs number ds)
          ≡ named_items rs (followed number other) ds
      items_twice rs no_items s = refl
      items_twice rs (item d ds) s =
          ap₂ item
          (ap (λ qs. named_doc qs other (named_doc (inside d rs) number d))
          (inside-named rs number d s)
          ∙ doc_twice (inside d rs) d (sound-inside d rs s))
          (items_twice rs ds s)

      members_twice : (rs : List Declared) (ms : Members) → are_sound rs ≡ true
          → named_members rs other (named_members rs number ms)
          ≡ named_members rs (followed number other) ms
      members_twice rs no_members s = refl
      members_twice rs (member k d ms) s =
          ap₂ (member k) (doc_twice (below k rs) d (sound-below k rs s)) (members_twice rs ms s)

module _ (read : NamesAreRead) (twice : NamedTwice) (equal : EqualNamed) where
  pub names_of_doc_are_read : NamesOfDocAreRead
  names_of_doc_are_read rs number d s n = doc_read read twice equal number n rs d s

  pub named_doc_twice : NamedDocTwice
  named_doc_twice rs number other d s n = doc_twice read twice equal number n other rs d s
