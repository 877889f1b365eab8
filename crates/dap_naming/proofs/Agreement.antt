-- Only the numbers of the ids of a document matter for its names.
use Rattle.std.proofs.Common.{◌≡◌, ℕ, ℤ, pos, List, [], ◌∷◌, ◌++◌, length}
use Rattle.std.proofs.Common.{Option, Some, None, refl, ap, ap₂, sym, ◌∙◌, append_assoc}
use Rattle.std.specs.Fmt.{decimal}
use Rattle.std.proofs.lemmas.List.{map-append, length-map}
use Rattle.dap_tree.specs.Doc.{Doc, null, boolean, whole, text, list, object, id, Items, no_items}
use Rattle.dap_tree.specs.Doc.{item, Members, no_members, member}
use Rattle.dap_tokens.specs.Tokens.{Part, literal, token, parts, name}
use Rattle.dap_tokens.specs.Values.{value, is_nothing}
use Rattle.dap_tokens.specs.Naming.{ids_of_parts, named_parts, Id, Numbering, numbered}
use Rattle.dap_tokens.specs.declared.form.Form.TheVariants.{Whole}
use Rattle.dap_naming.specs.Numbers.{number}
use Rattle.dap_naming.specs.Documents.{Declared, here, below, inside, ids_of, items_ids}
use Rattle.dap_naming.specs.Documents.{members_ids, named_doc, named_items, named_members}
use Rattle.dap_naming.specs.Documents.{named_whole, ids_of_whole, integer_text}
use Rattle.dap_naming.specs.Messages.{Message, ids_of_all, named_each, named_all}
use Rattle.dap_naming.specs.Laws.{OnlyOwnIdsMatter, NamesOfPrefix}
use Rattle.dap_naming.proofs.Lists.{by_bool, head_of, tail_of, same_cons, same_append}
use Rattle.dap_naming.proofs.Lists.{front_of, rest_of}
use Rattle.dap_naming.proofs.Numbers.{each_among, numbered_in_prefix}

-- ---- strings and integers

parts_agree : (f g : Numbering) (ps : List Part)
    → numbered f (ids_of_parts ps) ≡ numbered g (ids_of_parts ps)
    → named_parts f ps ≡ named_parts g ps
parts_agree f g [] h = refl
parts_agree f g (literal b ∷ ps) h = ap (λ s. b ∷ s) (parts_agree f g ps h)
parts_agree f g (token form label t ∷ ps) h =
    by_bool (is_nothing (value label form t))
    (λ e. let k = rw e at h in rw e (ap (λ s. t ++ s) (parts_agree f g ps k)))
    (λ e. let k = rw e at h in
    rw e (same_append _ _ _ _ (ap (λ (n : List ℕ × ℕ). name label (decimal n.1)) (head_of k))
    (parts_agree f g ps (tail_of k))))

whole_agrees : (o : Option (List ℕ)) (f g : Numbering) (z : ℤ)
    → numbered f (ids_of_whole o z) ≡ numbered g (ids_of_whole o z)
    → named_whole o f z ≡ named_whole o g z
whole_agrees None f g z h = refl
whole_agrees (Some label) f g z h =
    by_bool (is_nothing (integer_text z))
    (λ e. rw e refl)
    (λ e. let k = rw e at h in rw e (ap (λ (t : List ℕ × ℕ). pos t.1) (head_of k)))

-- ---- documents

pub numbered-append : (f : Numbering) (is js : List Id)
    → numbered f (is ++ js) ≡ numbered f is ++ numbered f js
numbered-append f is js = map-append _ is js

as_many : (f g : Numbering) (is : List Id) → length (numbered f is) ≡ length (numbered g is)
as_many f g is = length-map is _ ∙ sym (length-map is _)

front_agrees : (f g : Numbering) (is js : List Id)
    → numbered f (is ++ js) ≡ numbered g (is ++ js) → numbered f is ≡ numbered g is
front_agrees f g is js h =
    front_of _ (numbered f js) _ (numbered g js) (as_many f g is)
    (sym (numbered-append f is js) ∙ (h ∙ numbered-append g is js))

rest_agrees : (f g : Numbering) (is js : List Id)
    → numbered f (is ++ js) ≡ numbered g (is ++ js) → numbered f js ≡ numbered g js
rest_agrees f g is js h =
    rest_of (numbered f is) _ (numbered g is) _ (as_many f g is)
    (sym (numbered-append f is js) ∙ (h ∙ numbered-append g is js))

module _ (f g : Numbering) where
  mutual
    doc_agrees : (rs : List Declared) (d : Doc)
        → numbered f (ids_of rs d) ≡ numbered g (ids_of rs d) → named_doc rs f d ≡ named_doc rs g d
    doc_agrees rs null h = refl
    doc_agrees rs (boolean b) h = refl
    doc_agrees rs (whole z) h = ap whole (whole_agrees (here rs Whole) f g z h)
    doc_agrees rs (text s) h = ap text (parts_agree f g (parts (here rs) s) h)
    doc_agrees rs (list ds) h = ap list (items_agree rs ds h)
    doc_agrees rs (object ms) h = ap object (members_agree rs ms h)
    doc_agrees rs (id sort z) h = refl

    items_agree : (rs : List Declared) (ds : Items)
        → numbered f (items_ids rs ds) ≡ numbered g (items_ids rs ds)
        → named_items rs f ds ≡ named_items rs g ds
    items_agree rs no_items h = refl
    items_agree rs (item d ds) h =
        ap₂ item
        (doc_agrees (inside d rs) d (front_agrees f g (ids_of (inside d rs) d) (items_ids rs ds) h))
        (items_agree rs ds (rest_agrees f g (ids_of (inside d rs) d) (items_ids rs ds) h))

    members_agree : (rs : List Declared) (ms : Members)
        → numbered f (members_ids rs ms) ≡ numbered g (members_ids rs ms)
        → named_members rs f ms ≡ named_members rs g ms
    members_agree rs no_members h = refl
    members_agree rs (member k d ms) h =
        ap₂ (member k)
        (doc_agrees (below k rs) d (front_agrees f g (ids_of (below k rs) d) (members_ids rs ms) h))
        (members_agree rs ms (rest_agrees f g (ids_of (below k rs) d) (members_ids rs ms) h))

pub only_own_ids_matter : OnlyOwnIdsMatter
only_own_ids_matter rs f g d h = doc_agrees f g rs d h

-- ---- lists of messages

pub each_agrees : (f g : Numbering) (ms : List Message)
    → numbered f (ids_of_all ms) ≡ numbered g (ids_of_all ms) → named_each f ms ≡ named_each g ms
each_agrees f g [] h = refl
each_agrees f g (m ∷ ms) h =
    let first = doc_agrees f g m.0 m.1
    (front_agrees f g (ids_of m.0 m.1) (ids_of_all ms) h) in
    same_cons _ _ _ _ (ap (λ d. (m.0, d)) first)
    (each_agrees f g ms (rest_agrees f g (ids_of m.0 m.1) (ids_of_all ms) h))

pub ids-append : (ms ns : List Message)
    → ids_of_all (ms ++ ns) ≡ ids_of_all ms ++ ids_of_all ns
ids-append [] ns = refl
ids-append (m ∷ ms) ns =
    ap (λ is. ids_of m.0 m.1 ++ is) (ids-append ms ns)
    ∙ sym (append_assoc (ids_of m.0 m.1) (ids_of_all ms) (ids_of_all ns))

pub names_of_prefix : NamesOfPrefix
names_of_prefix ms ns =
    let is = ids_of_all ms in
    let js = ids_of_all ns in
    let same : named_each (number (is ++ js)) ms ≡ named_all ms =
    each_agrees (number (is ++ js)) (number is) ms (numbered_in_prefix is js is (each_among is)) in
    map-append _ ms ns
    ∙ ap (λ (xs : List Message). xs ++ named_each (number (ids_of_all (ms ++ ns))) ns)
    (ap (λ ks. named_each (number ks) ms) (ids-append ms ns) ∙ same)
