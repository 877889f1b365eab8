-- The lines of the leaves of a document, found among its nodes.
use Rattle.std.proofs.Common.{◌≡◌, ℕ, suc, ◌+◌, ◌<◌, ◌≤◌, List, [], ◌∷◌, ◌++◌, length, get_or}
use Rattle.std.proofs.Common.{Option, Some, None, take, map, inl, inr, refl, sym, ◌∙◌, ap, ap₂}
use Rattle.std.proofs.Common.{subst, arith, codes, append_assoc, append-nil, length-append, ◌⊎◌}
use Rattle.std.proofs.Common.{option_map}
use Rattle.std.specs.Borrow.{Bor}
use Rattle.std.proofs.Math.Seq.{take-append_seam}
use Rattle.std.proofs.lemmas.List.{length-map}
use Rattle.std.proofs.lemmas.List.Concat.{flat_map-append}
use Rattle.dap_difference.specs.Lines.{name_text, path_text, step_text}
use Rattle.dap_difference.specs.Shown.{path_of, step_of}
use Rattle.dap_difference.specs.declared.difference.Step.{Step as CodeStep}
use Rattle.dap_difference.specs.declared.difference.Step.TheVariants.{Member, Item}
use Rattle.dap_tree.specs.Doc.{Doc, null, boolean, whole, text, list, object, id, Items, no_items}
use Rattle.dap_tree.specs.Doc.{item, Members, no_members, member}
use Rattle.dap_tree.specs.{Json.text_of, Path.{Step, name as name_step, place}}
use Rattle.dap_flat.specs.Finding.{Stand, Holds}
use Rattle.dap_flat.specs.Pieces.{Appends, Piece, Represents}
use Rattle.dap_flat.specs.Pieces.{begin_list, begin_object, end_list, end_object, name}
use Rattle.dap_flat.specs.Pieces.{items_pieces, leaf, members_pieces, piece_of, pieces}
use Rattle.dap_flat.specs.declared.node.Node.{Node}
use Rattle.dap_flat.proofs.Found.{behind_first, first_part, second_part, stands_first}
use Rattle.dap_flat_message.specs.Judging.{top_of}
use Rattle.dap_show.specs.Leaves.{Lengthens, leaf_line, leaf_lines, line_of}
use Rattle.dap_show.specs.Leaves.{printed_path, steps_text}
use Rattle.dap_show.specs.LeafWalk.{Parts, PartsLeft, PushesDocument, PushesParts, elements}
use Rattle.dap_show.specs.LeafWalk.{inside_of, members, part_from, parts_lines, parts_pieces}

-- ---- lines that are appended up to a limit

-- Lines that exceed the limit already.
pub stays_long : (limit : ℕ) (old more : List ℕ) → limit < length old → Lengthens limit old old more
stays_long limit old more past = inr (past, omega (arith, past))

pub nothing_more : (limit : ℕ) (old : List ℕ) → Lengthens limit old old []
nothing_more limit old = inl (sym (append-nil old))

pub then_lengthens : (limit : ℕ) (old mid new a b : List ℕ) → Lengthens limit old mid a
    → Lengthens limit mid new b → Lengthens limit old new (a ++ b)
then_lengthens limit old mid new a b (inl one) (inl two) =
    inl (two ∙ ap (λ t. t ++ b) one ∙ append_assoc old a b)
then_lengthens limit old mid new a b (inl one) (inr two) =
    inr (two.0, omega (arith, two.1, ap length one, length-append old a, length-append a b))
then_lengthens limit old mid new a b (inr one) (inl two) =
    inr (
      omega (arith, one.0, ap length two, length-append mid b),
      omega (arith, one.1, length-append a b),
    )
then_lengthens limit old mid new a b (inr one) (inr two) =
    inr (two.0, omega (arith, one.1, length-append a b))

-- ---- the text of a path

pub path_printed : (p : List Step) → printed_path (steps_text p) ≡ path_text p
path_printed [] = refl
path_printed (name_step k ∷ p) = refl
path_printed (place n ∷ p) = refl

pub line_is : (p : List Step) (path : List ℕ) (d : Doc) → steps_text p ≡ path
    → line_of path d ≡ leaf_line p d
line_is p path d same =
    ap (λ t. codes "  " ++ t ++ codes " " ++ text_of d ++ codes "\n")
    (ap printed_path (sym same) ∙ path_printed p)

pub step_pushed : (p : List Step) (s : Step) (path pushed : List ℕ) → steps_text p ≡ path
    → pushed ≡ path ++ step_text s → steps_text (p ++ s ∷ []) ≡ pushed
step_pushed p s path pushed same is =
    flat_map-append step_text p (s ∷ [])
    ∙ ap₂ (λ a b. a ++ b) same (append-nil (step_text s)) ∙ sym is

-- The text of one step, by the text of the path that has only this step.
pub member_step : (step : CodeStep) (s : Bor (List ℕ)) (old dotted new : List ℕ)
    → step ≡ Member s → dotted ≡ old ++ codes "."
    → new ≡ dotted ++ path_text (path_of (step ∷ [])) → new ≡ old ++ step_text (step_of step)
member_step step s old dotted new is dot more =
    more ∙ ap₂ (λ t x. t ++ path_text (path_of (x ∷ []))) dot is
    ∙ append_assoc old (codes ".") (path_text (path_of (Member s ∷ [])))
    ∙ ap (λ t. old ++ (codes "." ++ t)) (append-nil (name_text s.now))
    ∙ ap (λ x. old ++ step_text (step_of x)) (sym is)

pub place_step : (step : CodeStep) (n : ℕ) (old new : List ℕ) → step ≡ Item n
    → new ≡ old ++ path_text (path_of (step ∷ [])) → new ≡ old ++ step_text (step_of step)
place_step step n old new is more =
    more ∙ ap (λ x. old ++ path_text (path_of (x ∷ []))) is
    ∙ ap (λ t. old ++ t) (append-nil (step_text (place n)))
    ∙ ap (λ x. old ++ step_text (step_of x)) (sym is)

-- The step that was appended is cut off.
pub step_cut : (path pushed after left step : List ℕ) (len : ℕ) → pushed ≡ path ++ step
    → after ≡ pushed → len ≡ length path → left ≡ take len after → left ≡ path
step_cut path pushed after left step len is kept count cut =
    cut ∙ ap₂ take count (kept ∙ is) ∙ take-append_seam path step

-- ---- what starts at a place

-- The pieces are among the nodes.
stands_within : (ns : List Node) (at : ℕ) (ps : List Piece) → Stand ns at ps
    → at + length ps ≤ length ns
stands_within ns at ps s =
    omega (
      arith,
      s.here,
      ap length s.all,
      length-append s.front (s.inside ++ s.behind),
      length-append s.inside s.behind,
      ap length s.shows,
      length-map s.inside piece_of,
    )

some_pieces : (d : Doc) → 0 < length (pieces d)
some_pieces null = omega arith
some_pieces (boolean b) = omega arith
some_pieces (whole z) = omega arith
some_pieces (text s) = omega arith
some_pieces (list ds) = omega arith
some_pieces (object ms) = omega arith
some_pieces (id s z) = omega arith

-- A document starts at a node.
pub holds_within : (ns : List Node) (at : ℕ) (d : Doc) → Holds ns at d → at < length ns
holds_within ns at d h = omega (arith, stands_within ns at (pieces d) h, some_pieces d)

-- The nodes of a document that were appended to none represent it.
pub all_appended : (old new : List Node) (d : Doc) → old ≡ [] → Appends old new (pieces d)
    → Represents new d
all_appended old new d none a =
    ap (map piece_of) (a.added ∙ ap (λ ns. ns ++ a.more) none) ∙ a.shows

-- ---- the first piece of a document

-- The document has one line, and its first piece has these pieces after it.
abbrev IsOneLine : List Step → Doc → Piece → List Piece → ℕ → Type 0
IsOneLine p d q qs n = (leaf_lines p d ≡ leaf_line p (top_of q)) × (length qs ≡ n)

abbrev HasParts : List Step → Doc → List Piece → Type 0
HasParts p d qs = (ps : Parts) × (leaf_lines p d ≡ parts_lines p 0 ps) × (qs ≡ parts_pieces ps)

abbrev IsShaped : List Step → Doc → Piece → List Piece → Option ℕ → Type 0
IsShaped p d q qs None = IsOneLine p d q qs 0
IsShaped p d q qs (Some n) = (n ≡ 0 → IsOneLine p d q qs 1) × (0 < n → HasParts p d qs)

-- The document starts with the piece.
record StartsWith (p : List Step) (d : Doc) (q : Piece) : Type 0 where
  rest : List Piece
  is : pieces d ≡ q ∷ rest
  is_value : (at n : ℕ) → part_from at n q ≡ Some (place n, at)
  shaped : IsShaped p d q rest (inside_of q)

scalar : (p : List Step) (d : Doc) → pieces d ≡ leaf d ∷ [] → leaf_lines p d ≡ leaf_line p d
    → StartsWith p d (leaf d)
scalar p d is line =
    record { rest = []; is = is; is_value = λ at n. refl; shaped = (line, refl) }

starts_with : (p : List Step) (d : Doc) → (q : Piece) × StartsWith p d q
starts_with p null = (leaf null, scalar p null refl refl)
starts_with p (boolean b) = (leaf (boolean b), scalar p (boolean b) refl refl)
starts_with p (whole z) = (leaf (whole z), scalar p (whole z) refl refl)
starts_with p (text s) = (leaf (text s), scalar p (text s) refl refl)
starts_with p (id s z) = (leaf (id s z), scalar p (id s z) refl refl)
starts_with p (list no_items) = (
  begin_list 0,
  record {
    rest = end_list ∷ [];
    is = refl;
    is_value = λ at n. refl;
    shaped = (λ none. (refl, refl), λ some. absurd (omega (arith, some)));
  },
)
starts_with p (list (item e rest)) =
    let some : 0 < length (pieces e ++ items_pieces rest) =
    omega (arith, some_pieces e, length-append (pieces e) (items_pieces rest)) in (
      begin_list (length (items_pieces (item e rest))),
      record {
        rest = items_pieces (item e rest) ++ end_list ∷ [];
        is = refl;
        is_value = λ at n. refl;
        shaped = (
          λ none. absurd (omega (arith, none, some)),
          λ more. (elements (item e rest), refl, refl),
        );
      },
    )
starts_with p (object no_members) = (
  begin_object 0,
  record {
    rest = end_object ∷ [];
    is = refl;
    is_value = λ at n. refl;
    shaped = (λ none. (refl, refl), λ some. absurd (omega (arith, some)));
  },
)
starts_with p (object (member k e rest)) = (
  begin_object (length (members_pieces (member k e rest))),
  record {
    rest = members_pieces (member k e rest) ++ end_object ∷ [];
    is = refl;
    is_value = λ at n. refl;
    shaped = (
      λ none. absurd (omega (arith, none)),
      λ more. (members (member k e rest), refl, refl),
    );
  },
)

module _ (ns : List Node) (at : ℕ) (x : Node) (p : List Step) where
  abbrev Q : Piece
  Q = piece_of (get_or ns at x)

  started : (d : Doc) → Holds ns at d → StartsWith p d Q
  started d h =
      let s = starts_with p d in
      subst (StartsWith p d)
      (sym (stands_first ns at (get_or ns at x) x s.0 s.1.rest (subst (Stand ns at) s.1.is h) refl))
      s.1

  shape_is : (d : Doc) (s : StartsWith p d Q) (o : Option ℕ) → o ≡ inside_of Q
      → IsShaped p d Q s.rest o
  shape_is d s o is = subst (IsShaped p d Q s.rest) (sym is) s.shaped

  one_line : (limit : ℕ) (path old new : List ℕ) → Lengthens limit old new (line_of path (top_of Q))
      → (d : Doc) (n : ℕ) (s : StartsWith p d Q) → IsOneLine p d Q s.rest n → steps_text p ≡ path
      → Lengthens limit old new (leaf_lines p d) × (at + 1 + n ≡ at + length (pieces d))
  one_line limit path old new pushed d n s one same = (
    subst (Lengthens limit old new) (line_is p path (top_of Q) same ∙ sym one.0) pushed,
    omega (arith, one.1, ap length s.is),
  )

module _ (limit : ℕ) (ns : List Node) (at : ℕ) (x : Node) (path old new : List ℕ) where
  pub leaf_pushed : None ≡ inside_of (piece_of (get_or ns at x))
      → Lengthens limit old new (line_of path (top_of (piece_of (get_or ns at x))))
      → PushesDocument limit ns at path old new (at + 1)
  leaf_pushed is pushed d p h same =
      let s = started ns at x p d h in
      let one = one_line ns at x p limit path old new pushed d 0 s
      (shape_is ns at x p d s None is) same in
      (one.0, omega (arith, one.1))

  pub empty_pushed : Some 0 ≡ inside_of (piece_of (get_or ns at x))
      → Lengthens limit old new (line_of path (top_of (piece_of (get_or ns at x))))
      → PushesDocument limit ns at path old new (at + 2)
  empty_pushed is pushed d p h same =
      let s = started ns at x p d h in
      let one = one_line ns at x p limit path old new pushed d 1 s
      ((shape_is ns at x p d s (Some 0) is).0 refl) same in
      (one.0, omega (arith, one.1))

  pub parts_pushed : (n end : ℕ) → Some n ≡ inside_of (piece_of (get_or ns at x)) → 0 < n
      → PushesParts limit ns (at + 1) path old new end → PushesDocument limit ns at path old new end
  parts_pushed n end is some pushed d p h same =
      let s = started ns at x p d h in
      let parts = (shape_is ns at x p d s (Some n) is).1 some in
      let holds =
      behind_first ns at (piece_of (get_or ns at x)) s.rest (subst (Stand ns at) s.is h) in
      let inner = pushed parts.0 p (subst (Stand ns (at + 1)) parts.2 holds) same in (
        subst (Lengthens limit old new) (sym parts.1) inner.0,
        omega (arith, inner.1, ap length s.is, ap length parts.2),
      )

-- ---- the parts of an array or object

-- The document of the next part starts at `start`, after its step s, and the rest comes after it.
record NextPart (ns : List Node) (p : List Step) (at n : ℕ) (ps : Parts) (s : Step) (start : ℕ) :
    Type 0 where
  part : Doc
  rest : Parts
  holds : Stand ns start (pieces part ++ parts_pieces rest)
  lines : parts_lines p n ps ≡ leaf_lines (p ++ s ∷ []) part ++ parts_lines p (suc n) rest
  count : at + length (parts_pieces ps)
      ≡ start + (length (pieces part) + length (parts_pieces rest))

abbrev IsNext : List Node → List Step → ℕ → ℕ → Parts → Option (Step × ℕ) → Type 0
IsNext ns p at n ps None = (parts_lines p n ps ≡ []) × (length (parts_pieces ps) ≡ 1)
IsNext ns p at n ps (Some next) = NextPart ns p at n ps next.0 next.1

module _ (ns : List Node) (p : List Step) (at n : ℕ) (x : Node) where
  abbrev Next : Parts → Piece → Type 0
  Next ps q = IsNext ns p at n ps (part_from at n q)

  by_first : (ps : Parts) (q : Piece) (qs : List Piece) → Stand ns at (q ∷ qs) → Next ps q
      → Next ps (piece_of (get_or ns at x))
  by_first ps q qs h is =
      subst (Next ps) (sym (stands_first ns at (get_or ns at x) x q qs h refl)) is

  next_part : (ps : Parts) → Stand ns at (parts_pieces ps) → Next ps (piece_of (get_or ns at x))
  next_part (elements no_items) h = by_first (elements no_items) end_list [] h (refl, refl)
  next_part (members no_members) h = by_first (members no_members) end_object [] h (refl, refl)
  next_part (elements (item e rest)) h =
      let others = items_pieces rest ++ end_list ∷ [] in
      let joined = append_assoc (pieces e) (items_pieces rest) (end_list ∷ []) in
      let value = subst (Stand ns at) joined h in
      let s = started ns at x p e (first_part ns at (pieces e) others value) in
      let next : NextPart ns p at n (elements (item e rest)) (place n) at = record {
        part = e;
        rest = elements rest;
        holds = value;
        lines = refl;
        count = omega (arith, ap length joined, length-append (pieces e) others);
      } in
      subst (IsNext ns p at n (elements (item e rest))) (sym (s.is_value at n)) next
  next_part (members (member k e rest)) h =
      let others = members_pieces rest ++ end_object ∷ [] in
      let joined = append_assoc (pieces e) (members_pieces rest) (end_object ∷ []) in
      let parts = (pieces e ++ members_pieces rest) ++ end_object ∷ [] in
      by_first (members (member k e rest)) (name k) parts h
      (record {
        part = e;
        rest = members rest;
        holds = subst (Stand ns (at + 1)) joined (behind_first ns at (name k) parts h);
        lines = refl;
        count = omega (arith, ap length joined, length-append (pieces e) others);
      })

  next_is : (ps : Parts) (o : Option (Step × ℕ)) → Stand ns at (parts_pieces ps)
      → o ≡ part_from at n (piece_of (get_or ns at x)) → IsNext ns p at n ps o
  next_is ps o h is = subst (IsNext ns p at n ps) (sym is) (next_part ps h)

abbrev start_of : Option (Step × ℕ) → ℕ
start_of None = 0
start_of (Some next) = next.1

-- The document of the next part starts at the place, or after the name there.
pub part_starts : (at n : ℕ) (q : Piece) (s : Step) (start : ℕ)
    → Some (s, start) ≡ part_from at n q → (at ≡ start) ⊎ (at < start)
part_starts at n (leaf d) s start is = inl (sym (ap start_of is))
part_starts at n (begin_list m) s start is = inl (sym (ap start_of is))
part_starts at n end_list s start is = absurd (cc)
part_starts at n (begin_object m) s start is = inl (sym (ap start_of is))
part_starts at n end_object s start is = absurd (cc)
part_starts at n (name k) s start is =
    let same : start ≡ at + 1 = ap start_of is in inr (omega (arith, same))

-- The place after the part comes after the place at which it starts.
pub part_moves : (at start end len : ℕ) → at < len → (at ≡ start) ⊎ (at < start)
    → (start ≤ end) × (start < len → start < end) → at < end
part_moves at start end len within (inl same) ends =
    omega (arith, same, ends.1 (omega (arith, same, within)))
part_moves at start end len within (inr past) ends = omega (arith, past, ends.0)

-- The step and the place that the code finds.
abbrev pub stepped : Option (CodeStep × ℕ) → Option (Step × ℕ)
stepped o = option_map (λ part. (step_of part.0, part.1)) o

pub no_part : (o : Option (CodeStep × ℕ)) (q : Option (Step × ℕ)) → stepped o ≡ q → o ≡ None
    → None ≡ q
no_part o q same is = sym (ap stepped is) ∙ same

pub a_part : (o : Option (CodeStep × ℕ)) (q : Option (Step × ℕ)) (s : CodeStep) (start : ℕ)
    → stepped o ≡ q → o ≡ Some (s, start) → Some (step_of s, start) ≡ q
a_part o q s start same is = sym (ap stepped is) ∙ same

some_parts : (ps : Parts) → 0 < length (parts_pieces ps)
some_parts (elements ds) = omega (arith, length-append (items_pieces ds) (end_list ∷ []))
some_parts (members ms) = omega (arith, length-append (members_pieces ms) (end_object ∷ []))

module _ (limit : ℕ) (ns : List Node) (from : ℕ) (path old : List ℕ) (ps : Parts) (p : List Step)
  where
    pub all_parts : Stand ns from (parts_pieces ps) → PartsLeft limit ns from from 0 old old ps p
    all_parts s = record {
      left = ps;
      holds = s;
      done = [];
      split = refl;
      appended = nothing_more limit old;
      count = refl;
    }

    module _ (at n : ℕ) (now : List ℕ) (l : PartsLeft limit ns from at n old now ps p) where
      -- There is a node at the place: the start of a part, or the end.
      pub parts_within : at < length ns
      parts_within =
          omega (arith, stands_within ns at (parts_pieces l.left) l.holds, some_parts l.left)

      pub parts_ended : (x : Node) → None ≡ part_from at n (piece_of (get_or ns at x))
          → Lengthens limit old now (parts_lines p 0 ps)
          × (at + 1 ≡ from + length (parts_pieces ps))
      parts_ended x is =
          let last = next_is ns p at n x l.left None l.holds is in (
            subst (Lengthens limit old now)
                (sym (l.split ∙ ap (λ t. l.done ++ t) last.0 ∙ append-nil l.done)) l.appended,
            omega (arith, l.count, last.1),
          )

      pub part_passed : (x : Node) (s : Step) (start m end : ℕ) (pushed new : List ℕ)
          → Some (s, start) ≡ part_from at n (piece_of (get_or ns at x)) → steps_text p ≡ path
          → m ≡ suc n → pushed ≡ path ++ step_text s
          → PushesDocument limit ns start pushed now new end
          → PartsLeft limit ns from end m old new ps p
      part_passed x s start m end pushed new is same next grown document =
          let part = next_is ns p at n x l.left (Some (s, start)) l.holds is in
          let others = parts_pieces part.rest in
          let lines = leaf_lines (p ++ s ∷ []) part.part in
          let inner = document part.part (p ++ s ∷ [])
          (first_part ns start (pieces part.part) others part.holds)
          (step_pushed p s path pushed same grown) in
          record {
            left = part.rest;
            holds = subst (λ i. Stand ns i others) (sym inner.1)
                (second_part ns start (pieces part.part) others part.holds);
            done = l.done ++ lines;
            split = l.split ∙ ap (λ t. l.done ++ t) part.lines
                ∙ sym (append_assoc l.done lines (parts_lines p (suc n) part.rest))
                ∙ ap (λ i. (l.done ++ lines) ++ parts_lines p i part.rest) (sym next);
            appended = then_lengthens limit old now new l.done lines l.appended inner.0;
            count = omega (arith, l.count, part.count, inner.1);
          }
