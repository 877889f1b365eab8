-- Nodes that are added after others.
use Rattle.std.proofs.Common.{◌≡◌, List, [], ◌∷◌, ◌++◌, refl, sym, ap, ap₂, ◌∙◌, append_assoc}
use Rattle.std.proofs.Common.{append-nil, ℕ, ◌+◌, ◌-◌, length, set, length-append, arith}
use Rattle.std.proofs.Math.Seq.{set-append_seam}
use Rattle.std.proofs.lemmas.List.{length-map}
use Rattle.std.proofs.lemmas.List.{map-append}
use Rattle.dap_tree.specs.Doc.{Doc, Items, no_items, item, Members, no_members, member}
use Rattle.dap_flat.specs.declared.node.Node.{Node}
use Rattle.dap_flat.specs.Order.{more_items, more_members}
use Rattle.dap_flat.specs.Pieces.{Piece, name, piece_of, pieces, items_pieces, members_pieces}
use Rattle.dap_flat.specs.Pieces.{Appends}

pub adds_none : (old : List Node) → Appends old old []
adds_none old = record { more = []; added = sym (append-nil old); shows = refl }

pub adds_one : (old new : List Node) (x : Node) → new ≡ old ++ x ∷ []
    → Appends old new (piece_of x ∷ [])
adds_one old new x e = record { more = x ∷ []; added = e; shows = refl }

pub adds_then : (a b c : List Node) (ps qs : List Piece) → Appends a b ps → Appends b c qs
    → Appends a c (ps ++ qs)
adds_then a b c ps qs f g = record {
  more = f.more ++ g.more;
  added = g.added ∙ ap (λ xs. xs ++ g.more) f.added ∙ append_assoc a f.more g.more;
  shows = map-append piece_of f.more g.more ∙ ap₂ (λ xs ys. xs ++ ys) f.shows g.shows;
}

pub adds_same : (a b : List Node) (ps qs : List Piece) → ps ≡ qs → Appends a b ps → Appends a b qs
adds_same a b ps qs e f = record { more = f.more; added = f.added; shows = f.shows ∙ e }

pub more_items-pieces : (ds : Items) (d : Doc)
    → items_pieces (more_items ds d) ≡ items_pieces ds ++ pieces d
more_items-pieces no_items d = append-nil (pieces d)
more_items-pieces (item e ds) d =
    ap (λ ps. pieces e ++ ps) (more_items-pieces ds d)
    ∙ sym (append_assoc (pieces e) (items_pieces ds) (pieces d))

pub more_members-pieces : (ms : Members) (k : List ℕ) (d : Doc)
    → members_pieces (more_members ms k d) ≡ members_pieces ms ++ name k ∷ pieces d
more_members-pieces no_members k d = ap (λ ps. name k ∷ ps) (append-nil (pieces d))
more_members-pieces (member l e ms) k d =
    ap (λ ps. name l ∷ (pieces e ++ ps)) (more_members-pieces ms k d)
    ∙ ap (λ ps. name l ∷ ps) (sym (append_assoc (pieces e) (members_pieces ms) (name k ∷ pieces d)))

-- ---- a start that gets the number of pieces inside

pub set_begin : (old more : List Node) (x y : Node)
    → set ((old ++ x ∷ []) ++ more) (length old) y ≡ (old ++ y ∷ []) ++ more
set_begin old more x y =
    ap (λ ns. set ns (length old) y) (append_assoc old (x ∷ []) more)
    ∙ set-append_seam old x more y ∙ sym (append_assoc old (y ∷ []) more)

pub adds_begin : (old a b c : List Node) (x y : Node) (ps : List Piece) (at : ℕ)
    → a ≡ old ++ x ∷ [] → Appends a b ps → at ≡ length old → c ≡ set b at y
    → Appends old c (piece_of y ∷ ps)
adds_begin old a b c x y ps at opened inside here e =
    let is : b ≡ (old ++ x ∷ []) ++ inside.more =
    inside.added ∙ ap (λ ns. ns ++ inside.more) opened in
    adds_then old (old ++ y ∷ []) c (piece_of y ∷ []) ps (adds_one old _ y refl) (record {
      more = inside.more;
      added = e ∙ ap₂ (λ ns i. set ns i y) is here ∙ set_begin old inside.more x y;
      shows = inside.shows;
    })

pub adds_length : (a b : List Node) (ps : List Piece) → Appends a b ps
    → length b ≡ length a + length ps
adds_length a b ps f =
    ap length f.added ∙ length-append a f.more
    ∙ ap (λ n. length a + n) (sym (length-map f.more piece_of) ∙ ap length f.shows)

pub adds_whole : (old opened inside patched closed : List Node) (x y z : Node) (ps : List Piece)
    (at : ℕ) → opened ≡ old ++ x ∷ [] → Appends opened inside ps → at ≡ length old
    → patched ≡ set inside at y → closed ≡ patched ++ z ∷ []
    → Appends old closed (piece_of y ∷ (ps ++ piece_of z ∷ []))
adds_whole old opened inside patched closed x y z ps at first f here second third =
    adds_then old patched closed (piece_of y ∷ ps) (piece_of z ∷ [])
    (adds_begin old opened inside patched x y ps at first f here second)
    (adds_one patched closed z third)

pub inside_is : (old opened inside : List Node) (x : Node) (ps : List Piece) (at len : ℕ)
    → opened ≡ old ++ x ∷ [] → Appends opened inside ps → at ≡ length old → len ≡ length inside
    → len - at - 1 ≡ length ps
inside_is old opened inside x ps at len first f here there =
    let one = ap length first ∙ length-append old (x ∷ []) in
    let all = adds_length opened inside ps f in
    omega (arith, one, all, here, there)
