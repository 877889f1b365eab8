-- The ids of a document are those of its pieces.
use Rattle.std.proofs.Common.{◌≡◌, ℕ, ℤ, ◌+◌, suc, List, [], ◌∷◌, ◌++◌, length, drop, refl, sym, ap}
use Rattle.std.proofs.Common.{ap₂}
use Rattle.std.proofs.Common.{◌∙◌, append_assoc, append-nil, length-append}
use Rattle.std.proofs.lemmas.List.{drop-drop, take_more_set, drop-set-lt, map-append}
use Rattle.std.proofs.Math.Seq.{drop-cons}
use Rattle.std.proofs.Common.{◌<◌, map, take, set, get_or, arith}
use Rattle.dap_flat.specs.declared.node.Node.{Node}
use Rattle.dap_flat.specs.declared.node.Node.TheVariants.{Id}
use Rattle.dap_tree.specs.Doc.{Doc, null, boolean, whole, text, list, object, id, Items, no_items}
use Rattle.dap_tree.specs.Doc.{item, Members, no_members, member}
use Rattle.dap_tree.specs.Ids.{ids, items_ids, members_ids, id_count, items_id_count}
use Rattle.dap_tree.specs.Ids.{members_id_count, with_ids, items_with_ids, members_with_ids}
use Rattle.dap_tree.specs.Ids.{Extends}
use Rattle.dap_tree.specs.declared.sort.Sort.{Sort}
use Rattle.dap_flat.specs.Pieces.{Piece, begin_list, end_list, begin_object, end_object, name}
use Rattle.dap_flat.specs.Pieces.{piece_of, pieces, items_pieces, members_pieces}
use Rattle.dap_flat.specs.Ids.{piece_ids, ids_in, with_number, after_piece, numbered}

pub ids_in-append : (ps qs : List Piece) → ids_in (ps ++ qs) ≡ ids_in ps ++ ids_in qs
ids_in-append [] qs = refl
ids_in-append (p ∷ ps) qs =
    ap (λ is. piece_ids p ++ is) (ids_in-append ps qs)
    ∙ sym (append_assoc (piece_ids p) (ids_in ps) (ids_in qs))

mutual
  pub pieces_ids : (d : Doc) → ids_in (pieces d) ≡ ids d
  pieces_ids null = refl
  pieces_ids (boolean b) = refl
  pieces_ids (whole z) = refl
  pieces_ids (text s) = refl
  pieces_ids (list ds) =
      ids_in-append (items_pieces ds) (end_list ∷ []) ∙ append-nil _ ∙ items_pieces_ids ds
  pieces_ids (object ms) =
      ids_in-append (members_pieces ms) (end_object ∷ []) ∙ append-nil _ ∙ members_pieces_ids ms
  pieces_ids (id s z) = refl

  items_pieces_ids : (ds : Items) → ids_in (items_pieces ds) ≡ items_ids ds
  items_pieces_ids no_items = refl
  items_pieces_ids (item d ds) =
      ids_in-append (pieces d) (items_pieces ds)
      ∙ ap₂ (λ xs ys. xs ++ ys) (pieces_ids d) (items_pieces_ids ds)

  members_pieces_ids : (ms : Members) → ids_in (members_pieces ms) ≡ members_ids ms
  members_pieces_ids no_members = refl
  members_pieces_ids (member k d ms) =
      ids_in-append (pieces d) (members_pieces ms)
      ∙ ap₂ (λ xs ys. xs ++ ys) (pieces_ids d) (members_pieces_ids ms)

-- ---- other numbers

-- the pieces of a value with other numbers, and those after it with the remaining numbers
mutual
  pub numbered_pieces : (d : Doc) (ns : List ℤ) (qs : List Piece)
      → numbered (pieces d ++ qs) ns ≡ pieces (with_ids d ns) ++ numbered qs (drop (id_count d) ns)
  numbered_pieces null ns qs = refl
  numbered_pieces (boolean b) ns qs = refl
  numbered_pieces (whole z) ns qs = refl
  numbered_pieces (text s) ns qs = refl
  numbered_pieces (list ds) ns qs =
      ap₂ (λ n ps. begin_list n ∷ ps) (sym (items_length ds ns))
      (ap (λ ps. numbered ps ns) (append_assoc (items_pieces ds) (end_list ∷ []) qs)
      ∙ numbered_items ds ns (end_list ∷ qs)
      ∙ sym (append_assoc (items_pieces (items_with_ids ds ns)) (end_list ∷ []) _))
  numbered_pieces (object ms) ns qs =
      ap₂ (λ n ps. begin_object n ∷ ps) (sym (members_length ms ns))
      (ap (λ ps. numbered ps ns) (append_assoc (members_pieces ms) (end_object ∷ []) qs)
      ∙ numbered_members ms ns (end_object ∷ qs)
      ∙ sym (append_assoc (members_pieces (members_with_ids ms ns)) (end_object ∷ []) _))
  numbered_pieces (id s z) ns qs = refl

  pub numbered_items : (ds : Items) (ns : List ℤ) (qs : List Piece)
      → numbered (items_pieces ds ++ qs) ns
      ≡ items_pieces (items_with_ids ds ns) ++ numbered qs (drop (items_id_count ds) ns)
  numbered_items no_items ns qs = refl
  numbered_items (item d ds) ns qs =
      ap (λ ps. numbered ps ns) (append_assoc (pieces d) (items_pieces ds) qs)
      ∙ numbered_pieces d ns (items_pieces ds ++ qs)
      ∙ ap (λ ps. pieces (with_ids d ns) ++ ps) (numbered_items ds (drop (id_count d) ns) qs
      ∙ ap (λ ms. items_pieces (items_with_ids ds (drop (id_count d) ns)) ++ numbered qs ms)
      (drop-drop (items_id_count ds) (id_count d) ns))
      ∙ sym (append_assoc (pieces (with_ids d ns)) _ _)

  pub numbered_members : (ms : Members) (ns : List ℤ) (qs : List Piece)
      → numbered (members_pieces ms ++ qs) ns
      ≡ members_pieces (members_with_ids ms ns) ++ numbered qs (drop (members_id_count ms) ns)
  numbered_members no_members ns qs = refl
  numbered_members (member k d ms) ns qs =
      ap (λ ps. name k ∷ ps)
      (ap (λ ps. numbered ps ns) (append_assoc (pieces d) (members_pieces ms) qs)
      ∙ numbered_pieces d ns (members_pieces ms ++ qs)
      ∙ ap (λ ps. pieces (with_ids d ns) ++ ps) (numbered_members ms (drop (id_count d) ns) qs
      ∙ ap (λ is. members_pieces (members_with_ids ms (drop (id_count d) ns)) ++ numbered qs is)
      (drop-drop (members_id_count ms) (id_count d) ns))
      ∙ sym (append_assoc (pieces (with_ids d ns)) _ _))

  pub items_length : (ds : Items) (ns : List ℤ)
      → length (items_pieces (items_with_ids ds ns)) ≡ length (items_pieces ds)
  items_length no_items ns = refl
  items_length (item d ds) ns =
      length-append (pieces (with_ids d ns)) _
      ∙ ap₂ (λ m n. m + n) (pieces_length d ns) (items_length ds (drop (id_count d) ns))
      ∙ sym (length-append (pieces d) (items_pieces ds))

  pub members_length : (ms : Members) (ns : List ℤ)
      → length (members_pieces (members_with_ids ms ns)) ≡ length (members_pieces ms)
  members_length no_members ns = refl
  members_length (member k d ms) ns =
      ap suc (length-append (pieces (with_ids d ns)) _
      ∙ ap₂ (λ m n. m + n) (pieces_length d ns) (members_length ms (drop (id_count d) ns))
      ∙ sym (length-append (pieces d) (members_pieces ms)))

  pub pieces_length : (d : Doc) (ns : List ℤ) → length (pieces (with_ids d ns)) ≡ length (pieces d)
  pieces_length null ns = refl
  pieces_length (boolean b) ns = refl
  pieces_length (whole z) ns = refl
  pieces_length (text s) ns = refl
  pieces_length (list ds) ns =
      ap suc (length-append (items_pieces (items_with_ids ds ns)) (end_list ∷ [])
      ∙ ap (λ n. n + 1) (items_length ds ns)
      ∙ sym (length-append (items_pieces ds) (end_list ∷ [])))
  pieces_length (object ms) ns =
      ap suc (length-append (members_pieces (members_with_ids ms ns)) (end_object ∷ [])
      ∙ ap (λ n. n + 1) (members_length ms ns)
      ∙ sym (length-append (members_pieces ms) (end_object ∷ [])))
  pieces_length (id s z) ns = refl

pub all_numbered : (d : Doc) (ns : List ℤ) → numbered (pieces d) ns ≡ pieces (with_ids d ns)
all_numbered d ns =
    ap (λ ps. numbered ps ns) (sym (append-nil (pieces d))) ∙ numbered_pieces d ns []
    ∙ append-nil (pieces (with_ids d ns))

-- the next node has its number
pub one_numbered : (ns : List Node) (i : ℕ) (d y : Node) (rest after : List ℤ) → i < length ns
    → piece_of y ≡ with_number (piece_of (get_or ns i d)) rest
    → after ≡ after_piece (piece_of (get_or ns i d)) rest
    → map piece_of (take (i + 1) (set ns i y))
    ++ numbered (map piece_of (drop (i + 1) (set ns i y))) after
    ≡ map piece_of (take i ns) ++ numbered (map piece_of (drop i ns)) rest
one_numbered ns i d y rest after within put left =
    let x = get_or ns i d in
    let front : map piece_of (take (i + 1) (set ns i y))
    ≡ map piece_of (take i ns) ++ piece_of y ∷ [] =
    ap (map piece_of) (take_more_set ns i y within) ∙ map-append piece_of (take i ns) (y ∷ []) in
    let back : drop (i + 1) (set ns i y) ≡ drop (i + 1) ns =
    drop-set-lt (i + 1) ns i y (omega arith) in
    let next : suc i ≡ i + 1 = omega arith in
    let now : drop i ns ≡ x ∷ drop (i + 1) ns =
    drop-cons ns i d within ∙ ap (λ j. x ∷ drop j ns) next in
    let behind : numbered (map piece_of (drop (i + 1) (set ns i y))) after
    ≡ numbered (map piece_of (drop (i + 1) ns)) (after_piece (piece_of x) rest) =
    ap₂ (λ ks js. numbered (map piece_of ks) js) back left in
    ap₂ (λ xs ys. xs ++ ys) front behind
    ∙ append_assoc (map piece_of (take i ns)) (piece_of y ∷ []) _
    ∙ ap (λ p. map piece_of (take i ns) ++ (p ∷ numbered (map piece_of (drop (i + 1) ns))
    (after_piece (piece_of x) rest))) put
    ∙ ap (λ ks. map piece_of (take i ns) ++ numbered (map piece_of ks) rest) (sym now)

-- a document with an id among the remaining nodes has an id
pub some_id : (before found : List (Sort × ℤ)) (ns : List Node) (i : ℕ) (d : Node) (s : Sort)
    (z : ℤ) → i < length ns → get_or ns i d ≡ Id s z → Extends before found
    → found ++ ids_in (map piece_of (drop i ns)) ≡ before ++ ids_in (map piece_of ns)
    → ids_in (map piece_of ns) ≡ [] → ⊥
some_id before found ns i d s z within is more all none =
    let rest = ids_in (map piece_of (drop (suc i) ns)) in
    let next : ids_in (map piece_of (drop i ns)) ≡ (s, z) ∷ rest =
    ap (λ ks. ids_in (map piece_of ks))
    (drop-cons ns i d within ∙ ap (λ x. x ∷ drop (suc i) ns) is) in
    let grown : length found ≡ length before + length more.0 =
    ap length more.1 ∙ length-append before more.0 in
    let counts : length found + suc (length rest) ≡ length before + 0 =
    sym (length-append found ((s, z) ∷ rest)) ∙ ap (λ is. length (found ++ is)) (sym next)
    ∙ ap length all ∙ length-append before (ids_in (map piece_of ns))
    ∙ ap (λ is. length before + length is) none in
    omega (arith, grown, counts)
