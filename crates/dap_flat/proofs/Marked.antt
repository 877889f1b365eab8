-- The text of a document with other numbers at its marks is that of the document with these ids.
use Rattle.std.proofs.Common.{◌≡◌, ℕ, ℤ, pos, ◌+◌, ◌-◌, ◌<◌, Bool, true, false, List, [], ◌∷◌, ◌++◌}
use Rattle.std.proofs.Common.{length, map, take, drop, get_or, refl, sym, ap, ap₂, ◌∙◌, arith}
use Rattle.std.proofs.Common.{append_assoc, length-append, decimal}
use Rattle.std.specs.Fmt.{signed_decimal}
use Rattle.std.proofs.lemmas.List.{at_drop_more, take-append-drop}
use Rattle.std.proofs.Math.Seq.{take-append_seam, drop-append_seam}
use Rattle.json.specs.Token.{Token}
use Rattle.json.specs.Token as token
use Rattle.json.specs.Print.{print, print_from, separator, token_text, begins, ends, escape}
use Rattle.serde_json.specs.Find.{of_integer}
use Rattle.serde_json.specs.Written.{number_text}
use Rattle.serde_json.proofs.Texts.{print-outline}
use Rattle.dap_tree.specs.Doc.{Doc}
use Rattle.dap_tree.specs.Ids.{with_ids}
use Rattle.dap_tree.specs.Json.{data_of, text_of}
use Rattle.dap_tree.specs.declared.sort.Sort.{Sort}
use Rattle.dap_flat.specs.declared.marks.Mark.{Mark}
use Rattle.dap_flat.specs.declared.node.Node.{Node}
use Rattle.dap_flat.specs.declared.node.Node.TheVariants as node
use Rattle.dap_flat.specs.Ids.{ids_in, numbered}
use Rattle.dap_flat.specs.Lengths.{comma_length, node_length, ends_value}
use Rattle.dap_flat.specs.Marks.{digits_length, id_at, spliced, IsMarkedText, nodes_marks}
use Rattle.dap_flat.specs.Pieces.{piece_of, Represents}
use Rattle.dap_flat.proofs.IdPieces.{all_numbered, pieces_ids}
use Rattle.dap_flat.proofs.NodeLengths.{with_comma, without_comma, quoted_length, key_length}
use Rattle.dap_flat.proofs.NodeLengths.{number_is}
use Rattle.dap_flat.proofs.Spelling.{spell, pieces_spell}

-- ---- the ids

marks_ids : (at : ℕ) (comes : Bool) (ns : List Node)
    → map id_at (nodes_marks at comes ns) ≡ ids_in (map piece_of ns)
marks_ids at comes [] = refl
marks_ids at comes (node.Id s z ∷ ns) =
    ap (λ is. (s, z) ∷ is) (marks_ids (at + node_length comes [] (node.Id s z)) true ns)
marks_ids at comes (n ∷ ns) = marks_ids (at + node_length comes [] n) (ends_value n) ns

-- ---- the text of the remaining nodes, which comes after `pre`

-- the text of nodes, and with other numbers
abbrev text_from : Bool → List Node → List ℕ
text_from comes ns = print_from comes (spell (map piece_of ns))

abbrev numbered_from : Bool → List Node → List ℤ → List ℕ
numbered_from comes ns is = print_from comes (spell (numbered (map piece_of ns) is))

-- the text from the place `at` on is `pre` and that of the nodes, which starts at `start`
abbrev Splices : ℕ → ℕ → List ℕ → Bool → List Node → List ℤ → Type 0
Splices at start pre comes ns is = start ≡ at + length pre
    → spliced at (pre ++ text_from comes ns) (nodes_marks start comes ns) is
    ≡ pre ++ numbered_from comes ns is

-- the text of a token, and the comma before it
abbrev written : Bool → Token → List ℕ
written comes t = separator comes t ++ token_text t

regrouped : (a b c d : List ℕ) → a ++ (b ++ (c ++ d)) ≡ (a ++ (b ++ c)) ++ d
regrouped a b c d = ap (λ xs. a ++ xs) (sym (append_assoc b c d)) ∙ sym (append_assoc a (b ++ c) d)

token_passed : (at start size : ℕ) (pre : List ℕ) (comes : Bool) (t : Token) (ns : List Node)
    (is : List ℤ) → length (written comes t) ≡ size
    → Splices at (start + size) (pre ++ written comes t) (ends t) ns is
    → start ≡ at + length pre
    → spliced at (pre ++ print_from comes (t ∷ spell (map piece_of ns)))
    (nodes_marks (start + size) (ends t) ns) is
    ≡ pre ++ print_from comes (t ∷ spell (numbered (map piece_of ns) is))
unfolding print_from
token_passed at start size pre comes t ns is long rest begin =
    let w = written comes t in
    let next : start + size ≡ at + length (pre ++ w) =
    omega (arith, begin, long, length-append pre w) in
    ap (λ xs. spliced at xs (nodes_marks (start + size) (ends t) ns) is)
    (regrouped pre (separator comes t) (token_text t) (text_from (ends t) ns))
    ∙ rest next
    ∙ sym (regrouped pre (separator comes t) (token_text t) (numbered_from (ends t) ns is))

begun : (comes : Bool) (t : Token) (k : ℕ) → begins t ≡ true → length (token_text t) ≡ k
    → length (written comes t) ≡ comma_length comes + k
begun comes t k opens long =
    omega (arith, with_comma comes t opens, long, length-append (separator comes t) (token_text t))

closed : (comes : Bool) (t : Token) → begins t ≡ false → length (token_text t) ≡ 1
    → length (written comes t) ≡ 1
closed comes t closes long =
    omega (
      arith,
      without_comma comes t closes,
      long,
      length-append (separator comes t) (token_text t),
    )

abbrev number_token : ℤ → Token
number_token z = token.number (number_text (of_integer z))

id_passed : (at start : ℕ) (pre : List ℕ) (comes : Bool) (s : Sort) (z : ℤ) (ns : List Node)
    (is : List ℤ)
    → Splices (start + comma_length comes + length (signed_decimal z))
    (start + (comma_length comes + length (signed_decimal z))) [] true ns (drop 1 is)
    → start ≡ at + length pre
    → spliced at (pre ++ text_from comes (node.Id s z ∷ ns))
    (nodes_marks start comes (node.Id s z ∷ ns)) is
    ≡ pre ++ numbered_from comes (node.Id s z ∷ ns) is
unfolding print_from
id_passed at start pre comes s z ns is rest begin =
    let y = get_or is 0 z in
    let comma = separator comes (number_token z) in
    let digits = number_text (of_integer z) in
    let left = text_from true ns in
    let right = numbered_from true ns (drop 1 is) in
    let width = length (signed_decimal z) in
    let end = start + comma_length comes + width in
    let front = pre ++ comma in
    let gap : (start + comma_length comes) - at ≡ length front =
    omega (arith, begin, with_comma comes (number_token z) refl, length-append pre comma) in
    let wide : width ≡ length digits = ap length (sym (number_is z)) in
    let grouped : pre ++ (comma ++ (digits ++ left)) ≡ front ++ (digits ++ left) =
    sym (append_assoc pre comma (digits ++ left)) in
    let before : take ((start + comma_length comes) - at) (pre ++ (comma ++ (digits ++ left)))
    ≡ front =
    ap₂ (λ n xs. take n xs) gap grouped ∙ take-append_seam front (digits ++ left) in
    let marked : drop ((start + comma_length comes) - at) (pre ++ (comma ++ (digits ++ left)))
    ≡ digits ++ left =
    ap₂ (λ n xs. drop n xs) gap grouped ∙ drop-append_seam front (digits ++ left) in
    let after : drop width (drop ((start + comma_length comes) - at)
    (pre ++ (comma ++ (digits ++ left)))) ≡ left =
    ap₂ (λ n xs. drop n xs) wide marked ∙ drop-append_seam digits left in
    let next : start + (comma_length comes + width) ≡ end + 0 = omega arith in
    ap₂ (λ xs ys. xs ++ (signed_decimal y ++ spliced end ys
    (nodes_marks (start + (comma_length comes + width)) true ns) (drop 1 is))) before after
    ∙ ap (λ xs. front ++ (signed_decimal y ++ xs)) (rest next)
    ∙ append_assoc pre comma (signed_decimal y ++ right)
    ∙ ap (λ xs. pre ++ (comma ++ (xs ++ right))) (sym (number_is y))

-- ---- all nodes

spliced_nodes : (at start : ℕ) (pre : List ℕ) (comes : Bool) (ns : List Node) (is : List ℤ)
    → Splices at start pre comes ns is
spliced_nodes at start pre comes [] is begin = refl
spliced_nodes at start pre comes (node.Null ∷ ns) is begin =
    let t = token.null in
    token_passed at start (comma_length comes + 4) pre comes t ns is (begun comes t 4 refl refl)
    (spliced_nodes at (start + (comma_length comes + 4)) (pre ++ written comes t) true ns is)
    begin
spliced_nodes at start pre comes (node.Bool true ∷ ns) is begin =
    let t = token.boolean true in
    token_passed at start (comma_length comes + 4) pre comes t ns is (begun comes t 4 refl refl)
    (spliced_nodes at (start + (comma_length comes + 4)) (pre ++ written comes t) true ns is)
    begin
spliced_nodes at start pre comes (node.Bool false ∷ ns) is begin =
    let t = token.boolean false in
    token_passed at start (comma_length comes + 5) pre comes t ns is (begun comes t 5 refl refl)
    (spliced_nodes at (start + (comma_length comes + 5)) (pre ++ written comes t) true ns is)
    begin
spliced_nodes at start pre comes (node.Unsigned n ∷ ns) is begin =
    let t = number_token (pos n) in let k = length (decimal n) in
    token_passed at start (comma_length comes + k) pre comes t ns is (begun comes t k refl refl)
    (spliced_nodes at (start + (comma_length comes + k)) (pre ++ written comes t) true ns is)
    begin
spliced_nodes at start pre comes (node.Negative z ∷ ns) is begin =
    let t = number_token z in let k = length (signed_decimal z) in
    token_passed at start (comma_length comes + k) pre comes t ns is
    (begun comes t k refl (ap length (number_is z)))
    (spliced_nodes at (start + (comma_length comes + k)) (pre ++ written comes t) true ns is)
    begin
spliced_nodes at start pre comes (node.Text s ∷ ns) is begin =
    let t = token.string s.now in let k = length (escape s.now) + 2 in
    token_passed at start (comma_length comes + k) pre comes t ns is
    (begun comes t k refl (quoted_length s.now))
    (spliced_nodes at (start + (comma_length comes + k)) (pre ++ written comes t) true ns is)
    begin
spliced_nodes at start pre comes (node.List n ∷ ns) is begin =
    let t = token.begin_array in
    token_passed at start (comma_length comes + 1) pre comes t ns is (begun comes t 1 refl refl)
    (spliced_nodes at (start + (comma_length comes + 1)) (pre ++ written comes t) false ns is)
    begin
spliced_nodes at start pre comes (node.EndList ∷ ns) is begin =
    let t = token.end_array in
    token_passed at start 1 pre comes t ns is (closed comes t refl refl)
    (spliced_nodes at (start + 1) (pre ++ written comes t) true ns is) begin
spliced_nodes at start pre comes (node.Object n ∷ ns) is begin =
    let t = token.begin_object in
    token_passed at start (comma_length comes + 1) pre comes t ns is (begun comes t 1 refl refl)
    (spliced_nodes at (start + (comma_length comes + 1)) (pre ++ written comes t) false ns is)
    begin
spliced_nodes at start pre comes (node.EndObject ∷ ns) is begin =
    let t = token.end_object in
    token_passed at start 1 pre comes t ns is (closed comes t refl refl)
    (spliced_nodes at (start + 1) (pre ++ written comes t) true ns is) begin
spliced_nodes at start pre comes (node.Name s ∷ ns) is begin =
    let t = token.key s.now in let k = length (escape s.now) + 3 in
    token_passed at start (comma_length comes + k) pre comes t ns is
    (begun comes t k refl (key_length s.now))
    (spliced_nodes at (start + (comma_length comes + k)) (pre ++ written comes t) false ns is)
    begin
spliced_nodes at start pre comes (node.Id s z ∷ ns) is begin =
    id_passed at start pre comes s z ns is
    (spliced_nodes (start + comma_length comes + length (signed_decimal z))
    (start + (comma_length comes + length (signed_decimal z))) [] true ns (drop 1 is))
    begin

pub marked_text : (ns : List Node) (d : Doc) → Represents ns d
    → IsMarkedText (text_of d) (nodes_marks 0 false ns) d
marked_text ns d shows = record {
  text_is = refl;
  ids_are = marks_ids 0 false ns ∙ ap ids_in shows ∙ pieces_ids d;
  splices = λ is.
      ap (λ xs. spliced 0 xs (nodes_marks 0 false ns) is)
      (sym (ap (λ ps. print (spell ps)) shows ∙ ap print (pieces_spell d)
      ∙ print-outline (data_of d)))
      ∙ spliced_nodes 0 0 [] false ns is refl
      ∙ ap (λ ps. print (spell ps)) (ap (λ ps. numbered ps is) shows ∙ all_numbered d is)
      ∙ (ap print (pieces_spell (with_ids d is)) ∙ print-outline (data_of (with_ids d is)));
}

-- ---- for the loops

pub extends_more : {X : Type 0} (old now more : List X) → take (length old) now ≡ old
    → take (length old) (now ++ more) ≡ old
extends_more {X} old now more is =
    let rest = drop (length old) now in
    let whole : now ≡ old ++ rest =
    sym (take-append-drop (length old) now) ∙ ap (λ xs. xs ++ rest) is in
    ap (λ xs. take (length old) (xs ++ more)) whole
    ∙ ap (take (length old)) (append_assoc old rest more)
    ∙ take-append_seam old (rest ++ more)

-- the next mark, and those after it
next_spliced : (at : ℕ) (text : List ℕ) (ms : List Mark) (i : ℕ) (x : Mark) (is : List ℤ)
    → i < length ms
    → spliced at text (drop i ms) is
    ≡ take ((get_or ms i x).at - at) text
    ++ (signed_decimal (get_or is 0 (get_or ms i x).number)
    ++ spliced ((get_or ms i x).at + digits_length (get_or ms i x))
    (drop (digits_length (get_or ms i x)) (drop ((get_or ms i x).at - at) text))
    (drop (i + 1) ms) (drop 1 is))
next_spliced at text ms i x is within =
    at_drop_more (λ ks. spliced at text ks is) ms i x within

pub extends_through : {X : Type 0} (old now new : List X) → take (length old) now ≡ old
    → take (length now) new ≡ now → take (length old) new ≡ old
extends_through {X} old now new first second =
    let rest = drop (length now) new in
    ap (take (length old)) (sym (take-append-drop (length now) new) ∙ ap (λ xs. xs ++ rest) second)
    ∙ extends_more old now rest first

-- the text before the next mark and its number were copied
pub number_copied : (all out new : List ℕ) (at end : ℕ) (text left : List ℕ) (ms : List Mark)
    (i : ℕ) (x : Mark) (is rest : List ℤ) → i < length ms
    → new ≡ out ++ (take ((get_or ms i x).at - at) text
    ++ signed_decimal (get_or is 0 (get_or ms i x).number))
    → rest ≡ drop 1 is
    → left ≡ drop (digits_length (get_or ms i x)) (drop ((get_or ms i x).at - at) text)
    → end ≡ (get_or ms i x).at + digits_length (get_or ms i x)
    → out ++ spliced at text (drop i ms) is ≡ all
    → new ++ spliced end left (drop (i + 1) ms) rest ≡ all
number_copied all out new at end text left ms i x is rest within put others behind next sofar =
    let m = get_or ms i x in
    let ks = drop (i + 1) ms in
    let front = take (m.at - at) text in
    let digits = signed_decimal (get_or is 0 m.number) in
    let after = drop (digits_length m) (drop (m.at - at) text) in
    let more = spliced (m.at + digits_length m) after ks (drop 1 is) in
    let same : spliced end left ks rest ≡ more =
    ap₂ (λ e t. spliced e t ks rest) next behind
    ∙ ap (λ ns. spliced (m.at + digits_length m) after ks ns) others in
    ap₂ (λ xs ys. xs ++ ys) put same
    ∙ append_assoc out (front ++ digits) more
    ∙ ap (λ xs. out ++ xs) (append_assoc front digits more)
    ∙ ap (λ xs. out ++ xs) (sym (next_spliced at text ms i x is within))
    ∙ sofar
