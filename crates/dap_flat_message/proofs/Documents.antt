-- The pieces of a document, read back, are the document.
use Rattle.std.proofs.Common.{◌≡◌, ℕ, zero, suc, ◌<◌, ◌≤◌, List, [], ◌∷◌, ◌++◌, length, take, drop}
use Rattle.std.proofs.Common.{refl, sym, ap, ap₂, ◌∙◌, arith, length-append, append_assoc}
use Rattle.std.proofs.Common.{append-nil}
use Rattle.std.proofs.Math.Seq.{take-append_seam, drop-append_seam}
use Rattle.std.proofs.lemmas.List.{length-map}
use Rattle.dap_tree.specs.Doc.{Doc, null, boolean, whole, text, list, object, id, Items, no_items}
use Rattle.dap_tree.specs.Doc.{item, Members, no_members, member}
use Rattle.dap_flat.specs.declared.node.Node.{Node}
use Rattle.dap_flat_message.specs.Document.{first_size, document_in, items_in, members_in, document_of}
use Rattle.dap_flat.specs.Pieces.{Piece, end_list, end_object}
use Rattle.dap_flat.specs.Pieces.{piece_of, pieces, items_pieces, members_pieces, Represents}

some_piece : (d : Doc) → 0 < length (pieces d)
some_piece null = omega arith
some_piece (boolean b) = omega arith
some_piece (whole z) = omega arith
some_piece (text s) = omega arith
some_piece (list ds) = omega arith
some_piece (object ms) = omega arith
some_piece (id s z) = omega arith

first_is : (d : Doc) (qs : List Piece) → first_size (pieces d ++ qs) ≡ length (pieces d)
first_is null qs = refl
first_is (boolean b) qs = refl
first_is (whole z) qs = refl
first_is (text s) qs = refl
first_is (list ds) qs = omega (arith, length-append (items_pieces ds) (end_list ∷ []))
first_is (object ms) qs = omega (arith, length-append (members_pieces ms) (end_object ∷ []))
first_is (id s z) qs = refl

after_first : (d : Doc) (qs : List Piece)
    → drop (first_size (pieces d ++ qs)) (pieces d ++ qs) ≡ qs
after_first d qs =
    ap (λ k. drop k (pieces d ++ qs)) (first_is d qs) ∙ drop-append_seam (pieces d) qs

inside : (ps qs : List Piece) (p : Piece) → take (length ps) ((ps ++ p ∷ []) ++ qs) ≡ ps
inside ps qs p =
    ap (take (length ps)) (append_assoc ps (p ∷ []) qs) ∙ take-append_seam ps (p ∷ qs)

one_item : (n : ℕ) (ps : List Piece) → 0 < length ps
    → items_in (suc n) ps ≡ item (document_in n ps) (items_in n (drop (first_size ps) ps))
one_item n [] some = absurd (omega (arith, some))
one_item n (p ∷ ps) some = refl

mutual
  document_back : (n : ℕ) (d : Doc) (qs : List Piece) → length (pieces d) ≤ n
      → document_in n (pieces d ++ qs) ≡ d
  document_back zero d qs within = absurd (omega (arith, within, some_piece d))
  document_back (suc n) null qs within = refl
  document_back (suc n) (boolean b) qs within = refl
  document_back (suc n) (whole z) qs within = refl
  document_back (suc n) (text s) qs within = refl
  document_back (suc n) (list ds) qs within =
      ap list (ap (items_in n) (inside (items_pieces ds) qs end_list)
      ∙ items_back n ds (omega (arith, within, length-append (items_pieces ds) (end_list ∷ []))))
  document_back (suc n) (object ms) qs within =
      ap object (ap (members_in n) (inside (members_pieces ms) qs end_object)
      ∙ members_back n ms
      (omega (arith, within, length-append (members_pieces ms) (end_object ∷ []))))
  document_back (suc n) (id s z) qs within = refl

  items_back : (n : ℕ) (ds : Items) → length (items_pieces ds) < n
      → items_in n (items_pieces ds) ≡ ds
  items_back zero ds within = absurd (omega (arith, within))
  items_back (suc n) no_items within = refl
  items_back (suc n) (item d ds) within =
      let all = length-append (pieces d) (items_pieces ds) in
      one_item n (pieces d ++ items_pieces ds) (omega (arith, all, some_piece d))
      ∙ ap₂ item (document_back n d (items_pieces ds) (omega (arith, within, all)))
      (ap (items_in n) (after_first d (items_pieces ds))
      ∙ items_back n ds (omega (arith, within, all, some_piece d)))

  members_back : (n : ℕ) (ms : Members) → length (members_pieces ms) < n
      → members_in n (members_pieces ms) ≡ ms
  members_back zero ms within = absurd (omega (arith, within))
  members_back (suc n) no_members within = refl
  members_back (suc n) (member k d ms) within =
      let all = length-append (pieces d) (members_pieces ms) in
      ap₂ (λ e left. member k e left)
      (document_back n d (members_pieces ms) (omega (arith, within, all)))
      (ap (members_in n) (after_first d (members_pieces ms))
      ∙ members_back n ms (omega (arith, within, all)))

-- The document that nodes represent is read back from them.
pub document_represented : (ns : List Node) (d : Doc) → Represents ns d → document_of ns ≡ d
document_represented ns d shown =
    ap (document_in (suc (length ns))) (shown ∙ sym (append-nil (pieces d)))
    ∙ document_back (suc (length ns)) d []
    (omega (arith, sym (length-map ns piece_of) ∙ ap length shown))
