-- Names in parts of a list of nodes.
use Rattle.std.proofs.Common.{◌≡◌, ◌∙◌, ℕ, ◌+◌, ◌<◌, List, [], ◌∷◌, ◌++◌, length, take, drop}
use Rattle.std.proofs.Common.{get_or, set, refl, sym, ap, ap₂, subst, arith, append_assoc}
use Rattle.std.proofs.Common.{append-nil, length-append, ℤ}
use Rattle.std.proofs.Math.Seq.{take-append_seam, drop-append_seam}
use Rattle.std.proofs.lemmas.List.{map-append, length-map}
use Rattle.dap_tokens.specs.Naming.{Id, Numbering, ids, named}
use Rattle.dap_tokens.specs.Tokens.{Labels}
use Rattle.dap_tokens.specs.declared.form.Form.TheVariants.{Whole}
use Rattle.dap_tree.specs.Doc.{Doc, null, boolean, whole, text, list, object, id, Items, no_items}
use Rattle.dap_tree.specs.Doc.{item, Members, no_members, member}
use Rattle.dap_flat.specs.declared.node.Node.{Node}
use Rattle.dap_flat.specs.Finding.{Holds, Stand}
use Rattle.dap_flat.specs.Pieces.{Piece, leaf, begin_list, end_list, begin_object, end_object, name}
use Rattle.dap_flat.specs.Pieces.{piece_of, pieces, items_pieces, members_pieces, Represents}
use Rattle.dap_flat.specs.Placing.{size}
use Rattle.dap_flat.proofs.Found.{stands_first, first_part, second_part, size_there}
use Rattle.dap_flat.proofs.Position.{name_or, parts}
use Rattle.dap_flat_message.specs.{Judging.top_of, Marking.Replaced}
use Rattle.dap_flat_message.proofs.Replacing.{one_replaced, replaced_then, same_again, stands_now}
use Rattle.dap_flat_message.proofs.Heads.{holds_whole}
use Rattle.dap_mask.specs.{Declarations.Declaration, FlatMasking.IsTold}
use Rattle.dap_mask.proofs.FlatChanges.{shown_whole}
use Rattle.dap_naming.specs.Documents.{Declared, below, inside, ids_of, items_ids, members_ids}
use Rattle.dap_naming.specs.Documents.{named_doc, named_items, named_members, named_whole, here}
use Rattle.dap_naming.specs.Documents.{ids_of_whole}
use Rattle.dap_naming.specs.Flat.{NamesWithin, Stretch, of_doc, of_items, of_members, NamesStretch}
use Rattle.dap_naming.specs.Flat.{NamesValue, NamesLeaf, NamesWhole, SoFar, NamesNodes}
use Rattle.dap_naming.specs.Flat.{FitsNodes}
use Rattle.dap_naming.specs.Known.{FitsLimit, Names, limit_of}
use Rattle.dap_naming.specs.Sessions.{rules_for}
use Rattle.dap_naming.specs.declared.value_numbers.ValueNumbers.{ValueNumbers}
use Rattle.dap_naming.proofs.Limits.{fits_none, fits_then}
use Rattle.dap_naming.proofs.LimitsInTrees.{few_unruled}
use Rattle.dap_naming.proofs.MoreParts.{no_ids, same_doc}
use Rattle.dap_naming.proofs.Writing.{names_none, names_then, names_like}

-- ---- names within the limit

pub within_none : (a : ValueNumbers) (P : Numbering → Type 0) → ((n : Numbering) → P n)
    → NamesWithin a a [] P
within_none a P h = record { names = names_none a P h; few = fits_none a }

within_then : (a b c : ValueNumbers) (js ks : List Id) (P Q R : Numbering → Type 0)
    → limit_of b ≡ limit_of a → NamesWithin a b js P → NamesWithin b c ks Q
    → ((n : Numbering) → P n → Q n → R n) → NamesWithin a c (js ++ ks) R
within_then a b c js ks P Q R same f g join = record {
  names = names_then a b c js ks P Q R f.names g.names join;
  few = fits_then a b js P f.names same ks f.few g.few;
}

pub within_like : (a b : ValueNumbers) (js : List Id) (P Q : Numbering → Type 0)
    → NamesWithin a b js P → ((n : Numbering) → P n → Q n) → NamesWithin a b js Q
within_like a b js P Q f to = record { names = names_like a b js P Q f.names to; few = f.few }

-- ---- a part of a part

front_is : (old a b c d : List Node) (i : ℕ) → old ≡ a ++ b → old ≡ c ++ d → i ≡ length a
    → i ≡ length c → a ≡ c
front_is old a b c d i is also first second =
    sym (take-append_seam a b) ∙ ap₂ (λ n xs. take n xs) (sym first) (sym is)
    ∙ ap₂ (λ n xs. take n xs) second also ∙ take-append_seam c d

behind_is : (old a b c d : List Node) (i : ℕ) → old ≡ a ++ b → old ≡ c ++ d → i ≡ length a
    → i ≡ length c → b ≡ d
behind_is old a b c d i is also first second =
    sym (drop-append_seam a b) ∙ ap₂ (λ n xs. drop n xs) (sym first) (sym is)
    ∙ ap₂ (λ n xs. drop n xs) second also ∙ drop-append_seam c d

inner : (old new : List Node) (at i : ℕ) (pre ps qs post all changed : List Piece)
    → Stand old at all → all ≡ pre ++ (ps ++ post) → changed ≡ pre ++ (qs ++ post)
    → i ≡ at + length pre → Replaced old new i ps qs → Replaced old new at all changed
inner old new at i pre ps qs post all changed s is changes here r =
    let one = parts s.inside pre (ps ++ post) (s.shows ∙ is) in
    let two = parts one.back ps post one.second in
    let pre_long : length one.front ≡ length pre =
    sym (length-map one.front piece_of) ∙ ap length one.first in
    let old_is : old ≡ (s.front ++ one.front) ++ (one.back ++ s.behind) =
    s.all ∙ ap (λ xs. s.front ++ (xs ++ s.behind)) one.all
    ∙ ap (λ xs. s.front ++ xs) (append_assoc one.front one.back s.behind)
    ∙ sym (append_assoc s.front one.front (one.back ++ s.behind)) in
    let i_is : i ≡ length (s.front ++ one.front) =
    omega (arith, here, s.here, pre_long, length-append s.front one.front) in
    let fronts : r.front ≡ s.front ++ one.front =
    front_is old r.front (r.inside ++ r.behind) (s.front ++ one.front) (one.back ++ s.behind) i
    r.was old_is r.here i_is in
    let rests : r.inside ++ r.behind ≡ one.back ++ s.behind =
    behind_is old r.front (r.inside ++ r.behind) (s.front ++ one.front) (one.back ++ s.behind) i
    r.was old_is r.here i_is in
    let back_is : one.back ++ s.behind ≡ two.front ++ (two.back ++ s.behind) =
    ap (λ xs. xs ++ s.behind) two.all ∙ append_assoc two.front two.back s.behind in
    let inside_long : length r.inside ≡ length two.front =
    sym (length-map r.inside piece_of) ∙ ap length (r.showed ∙ sym two.first)
    ∙ length-map two.front piece_of in
    let behinds : r.behind ≡ two.back ++ s.behind =
    behind_is (one.back ++ s.behind) r.inside r.behind two.front (two.back ++ s.behind)
    (length r.inside) (sym rests) back_is refl inside_long in record {
      front = s.front;
      inside = s.inside;
      put = one.front ++ (r.put ++ two.back);
      behind = s.behind;
      was = s.all;
      is =
          r.is ∙ ap₂ (λ xs ys. xs ++ (r.put ++ ys)) fronts behinds
          ∙ append_assoc s.front one.front (r.put ++ (two.back ++ s.behind))
          ∙ ap (λ xs. s.front ++ xs)
          (ap (λ xs. one.front ++ xs) (sym (append_assoc r.put two.back s.behind))
          ∙ sym (append_assoc one.front (r.put ++ two.back) s.behind));
      here = s.here;
      showed = s.shows;
      shows =
          map-append piece_of one.front (r.put ++ two.back)
          ∙ ap₂ (λ xs ys. xs ++ ys) one.first (map-append piece_of r.put two.back
          ∙ ap₂ (λ xs ys. xs ++ ys) r.shows two.second) ∙ sym changes;
      long =
          ap length changes ∙ length-append pre (qs ++ post)
          ∙ ap (λ n. length pre + n) (length-append qs post ∙ ap (λ n. n + length post) r.long
          ∙ sym (length-append ps post)) ∙ sym (length-append pre (ps ++ post))
          ∙ ap length (sym is);
    }

-- ---- one value after another

module _ (a now : ValueNumbers) (before mid : List Node) (from p : ℕ) where
  pub none_so_far : (all : Stretch) → now ≡ a → mid ≡ before → p ≡ from
      → Stand before from all.pieces → SoFar a now before mid from p all all
  none_so_far all same_numbers same_nodes start s = record {
    put = [];
    done = [];
    ids = refl;
    here = omega (arith, start);
    replaced = subst (λ ns. Replaced before ns from all.pieces all.pieces) (sym same_nodes)
        (same_again before from all.pieces s);
    names = subst (λ b. NamesWithin a b [] (λ n. all.named n ≡ all.named n)) (sym same_numbers)
        (within_none a (λ n. all.named n ≡ all.named n) (λ n. refl));
  }

  -- the pieces that are left
  at_left : (all left : Stretch) → SoFar a now before mid from p all left
      → Stand mid p left.pieces
  at_left all left l =
      subst (λ i. Stand mid i left.pieces) (sym l.here)
      (second_part mid from l.put left.pieces
      (stands_now before mid from all.pieces (l.put ++ left.pieces) l.replaced))

  all_done : (all left : Stretch) → SoFar a now before mid from p all left → left.ids ≡ []
      → ((n : Numbering) → left.named n ≡ left.pieces) → NamesStretch a now before mid from all
  all_done all left l none same = (
    l.put ++ left.pieces,
    l.replaced,
    subst (λ js. NamesWithin a now js (λ n. l.put ++ left.pieces ≡ all.named n))
        (sym (l.ids ∙ ap (λ js. l.done ++ js) none ∙ append-nil l.done))
        (within_like a now l.done (λ n. all.named n ≡ l.put ++ left.named n)
        (λ n. l.put ++ left.pieces ≡ all.named n) l.names
        (λ n h. sym (h ∙ ap (λ ps. l.put ++ ps) (same n)))),
  )

  module _ (then : ValueNumbers) (after : List Node) (i end : ℕ) (same : limit_of now ≡ limit_of a)
    where
      -- the next value, which starts at i after the pieces `pre`
      next : (all left rest : Stretch) (pre : List Piece) (rs : List Declared) (d : Doc)
          → SoFar a now before mid from p all left
          → left.pieces ≡ pre ++ (pieces d ++ rest.pieces) → left.ids ≡ ids_of rs d ++ rest.ids
          → ((n : Numbering) → left.named n ≡ pre ++ (pieces (named_doc rs n d) ++ rest.named n))
          → i ≡ p + length pre → NamesStretch now then mid after i (of_doc rs d)
          → end ≡ i + length (pieces d) → SoFar a then before after from end all rest
      next all left rest pre rs d l is ids named start v width =
          let s = stands_now before mid from all.pieces (l.put ++ left.pieces) l.replaced in
          let start_is : i ≡ from + length (l.put ++ pre) =
          omega (arith, start, l.here, length-append l.put pre) in
          let changed : Replaced mid after from (l.put ++ left.pieces)
          (((l.put ++ pre) ++ v.0) ++ rest.pieces) =
          inner mid after from i (l.put ++ pre) (pieces d) v.0 rest.pieces (l.put ++ left.pieces)
          (((l.put ++ pre) ++ v.0) ++ rest.pieces) s
          (ap (λ ps. l.put ++ ps) is ∙ sym (append_assoc l.put pre _))
          (append_assoc (l.put ++ pre) v.0 rest.pieces) start_is v.1 in record {
            put = (l.put ++ pre) ++ v.0;
            done = l.done ++ ids_of rs d;
            ids = l.ids ∙ ap (λ js. l.done ++ js) ids
                ∙ sym (append_assoc l.done (ids_of rs d) rest.ids);
            here = omega (arith, start_is, width, v.1.long, length-append (l.put ++ pre) v.0);
            replaced = replaced_then before mid after from all.pieces (l.put ++ left.pieces)
                (((l.put ++ pre) ++ v.0) ++ rest.pieces) l.replaced changed;
            names = within_then a now then l.done (ids_of rs d)
                (λ n. all.named n ≡ l.put ++ left.named n) (λ n. v.0 ≡ pieces (named_doc rs n d))
                (λ n. all.named n ≡ ((l.put ++ pre) ++ v.0) ++ rest.named n) same l.names v.2
                (λ n h q. h ∙ ap (λ ps. l.put ++ ps) (named n)
                ∙ sym (append_assoc l.put pre (pieces (named_doc rs n d) ++ rest.named n))
                ∙ ap (λ ps. (l.put ++ pre) ++ (ps ++ rest.named n)) (sym q)
                ∙ sym (append_assoc (l.put ++ pre) v.0 (rest.named n)));
          }

      pub one_item : (rs ts : List Declared) (ds left : Items) (x : Node)
          → SoFar a now before mid from p (of_items rs ds) (of_items rs left)
          → (piece_of (get_or mid p x) ≡ end_list → ⊥) → p < length mid
          → end ≡ p + size (piece_of (get_or mid p x)) → i ≡ p → IsTold mid p (λ d. inside d rs) ts
          → NamesValue ts now then mid after p
          → (more : Items) × SoFar a then before after from end (of_items rs ds) (of_items rs more)
      one_item rs ts ds no_items x l not_end within w start told named =
          absurd (not_end (stands_first mid p (get_or mid p x) x end_list []
          (at_left (of_items rs ds) (of_items rs no_items) l) refl))
      one_item rs ts ds (item d left) x l not_end within w start told named =
          let apart = append_assoc (pieces d) (items_pieces left) (end_list ∷ []) in
          let there : Stand mid p (pieces d ++ (of_items rs left).pieces) =
          subst (Stand mid p) apart (at_left (of_items rs ds) (of_items rs (item d left)) l) in
          let holds = first_part mid p (pieces d) (of_items rs left).pieces there in
          let width = size_there mid p x d (of_items rs left).pieces there within in
          let value : NamesStretch now then mid after p (of_doc (inside d rs) d) =
          subst (λ us. NamesStretch now then mid after p (of_doc us d)) (told d holds)
          (named d holds) in (
            left,
            next (of_items rs ds) (of_items rs (item d left)) (of_items rs left) [] (inside d rs) d
                l apart refl
                (λ n. append_assoc (pieces (named_doc (inside d rs) n d))
                (items_pieces (named_items rs n left)) (end_list ∷ []))
                (omega (arith, start))
                (subst (λ j. NamesStretch now then mid after j (of_doc (inside d rs) d)) (sym start)
                value)
                (omega (arith, start, w, width)),
          )

      pub one_member : (rs ts : List Declared) (ms left : Members) (n x : Node) (k : List ℕ)
          → SoFar a now before mid from p (of_members rs ms) (of_members rs left)
          → get_or mid p x ≡ n → piece_of n ≡ name k → i ≡ p + 1 → i < length mid
          → end ≡ i + size (piece_of (get_or mid i x)) → ts ≡ below k rs
          → NamesValue ts now then mid after i
          → (more : Members)
          × SoFar a then before after from end (of_members rs ms) (of_members rs more)
      one_member rs ts ms no_members n x k l there named start within w told value =
          let first : piece_of n ≡ end_object =
          stands_first mid p n x end_object []
          (at_left (of_members rs ms) (of_members rs no_members) l) there in absurd (cc)
      one_member rs ts ms (member k2 d left) n x k l there named start within w told value =
          let rest = (of_members rs left).pieces in
          let apart = append_assoc (pieces d) (members_pieces left) (end_object ∷ []) in
          let s : Stand mid p (name k2 ∷ (pieces d ++ rest)) =
          subst (λ ps. Stand mid p (name k2 ∷ ps)) apart
          (at_left (of_members rs ms) (of_members rs (member k2 d left)) l) in
          let first : piece_of n ≡ name k2 = stands_first mid p n x (name k2) _ s there in
          let same_name : k ≡ k2 = ap name_or (sym named ∙ first) in
          let after_name : Stand mid i (pieces d ++ rest) =
          subst (λ j. Stand mid j (pieces d ++ rest)) (sym start)
          (second_part mid p (name k2 ∷ []) (pieces d ++ rest) s) in
          let holds = first_part mid i (pieces d) rest after_name in
          let width = size_there mid i x d rest after_name within in
          let one : NamesStretch now then mid after i (of_doc (below k2 rs) d) =
          subst (λ us. NamesStretch now then mid after i (of_doc us d))
          (told ∙ ap (λ q. below q rs) same_name) (value d holds) in (
            left,
            next (of_members rs ms) (of_members rs (member k2 d left)) (of_members rs left)
                (name k2 ∷ []) (below k2 rs) d l (ap (λ ps. name k2 ∷ ps) apart) refl
                (λ m. ap (λ ps. name k2 ∷ ps) (append_assoc (pieces (named_doc (below k2 rs) m d))
                (members_pieces (named_members rs m left)) (end_object ∷ [])))
                start one (omega (arith, w, width)),
          )

  -- ---- the end of a list and of an object

  no_value_ends : (d : Doc) (qs : List Piece) (x : Node) → Stand mid p (pieces d ++ qs)
      → piece_of (get_or mid p x) ≡ end_list → ⊥
  no_value_ends null qs x s e = let first = stands_first mid p _ x _ _ s refl in cc
  no_value_ends (boolean b) qs x s e = let first = stands_first mid p _ x _ _ s refl in cc
  no_value_ends (whole z) qs x s e = let first = stands_first mid p _ x _ _ s refl in cc
  no_value_ends (text t) qs x s e = let first = stands_first mid p _ x _ _ s refl in cc
  no_value_ends (list ds) qs x s e = let first = stands_first mid p _ x _ _ s refl in cc
  no_value_ends (object ms) qs x s e = let first = stands_first mid p _ x _ _ s refl in cc
  no_value_ends (id t z) qs x s e = let first = stands_first mid p _ x _ _ s refl in cc

  pub items_done : (rs : List Declared) (ds left : Items) (x : Node)
      → SoFar a now before mid from p (of_items rs ds) (of_items rs left)
      → piece_of (get_or mid p x) ≡ end_list → NamesStretch a now before mid from (of_items rs ds)
  items_done rs ds no_items x l end =
      all_done (of_items rs ds) (of_items rs no_items) l refl (λ n. refl)
  items_done rs ds (item d left) x l end =
      absurd (no_value_ends d (of_items rs left).pieces x
      (subst (Stand mid p) (append_assoc (pieces d) (items_pieces left) (end_list ∷ []))
      (at_left (of_items rs ds) (of_items rs (item d left)) l)) end)

  pub members_done : (rs : List Declared) (ms left : Members) (n x : Node)
      → SoFar a now before mid from p (of_members rs ms) (of_members rs left)
      → get_or mid p x ≡ n → piece_of n ≡ end_object
      → NamesStretch a now before mid from (of_members rs ms)
  members_done rs ms no_members n x l there end =
      all_done (of_members rs ms) (of_members rs no_members) l refl (λ m. refl)
  members_done rs ms (member k d left) n x l there end =
      let first : piece_of n ≡ name k =
      stands_first mid p n x (name k) _
      (at_left (of_members rs ms) (of_members rs (member k d left)) l) there in absurd (cc)

-- ---- a document

module _ (a b : ValueNumbers) (before after : List Node) (at : ℕ) (rs : List Declared) where
  -- the number of pieces is unchanged
  as_long : (ps qs us : List Piece) (x : Piece) → length qs ≡ length (ps ++ x ∷ [])
      → qs ≡ us ++ x ∷ [] → length ps ≡ length us
  as_long ps qs us x long is =
      omega (arith, long, ap length is, length-append ps (x ∷ []), length-append us (x ∷ []))

  pub list_named : (ds : Items) → Holds before at (list ds)
      → NamesStretch a b before after (at + 1) (of_items rs ds)
      → NamesStretch a b before after at (of_doc rs (list ds))
  list_named ds s v =
      let begin = begin_list (length (items_pieces ds)) in (
        begin ∷ v.0,
        inner before after at (at + 1) (begin ∷ []) (of_items rs ds).pieces v.0 []
            (pieces (list ds)) (begin ∷ v.0) s
            (ap (λ ps. begin ∷ ps) (sym (append-nil (of_items rs ds).pieces)))
            (ap (λ ps. begin ∷ ps) (sym (append-nil v.0))) refl v.1,
        within_like a b (items_ids rs ds) (λ n. v.0 ≡ (of_items rs ds).named n)
            (λ n. begin ∷ v.0 ≡ (of_doc rs (list ds)).named n) v.2
            (λ n h. ap₂ (λ j ps. begin_list j ∷ ps)
            (as_long (items_pieces ds) v.0 (items_pieces (named_items rs n ds)) end_list v.1.long
            h) h),
      )

  pub object_named : (ms : Members) → Holds before at (object ms)
      → NamesStretch a b before after (at + 1) (of_members rs ms)
      → NamesStretch a b before after at (of_doc rs (object ms))
  object_named ms s v =
      let begin = begin_object (length (members_pieces ms)) in (
        begin ∷ v.0,
        inner before after at (at + 1) (begin ∷ []) (of_members rs ms).pieces v.0 []
            (pieces (object ms)) (begin ∷ v.0) s
            (ap (λ ps. begin ∷ ps) (sym (append-nil (of_members rs ms).pieces)))
            (ap (λ ps. begin ∷ ps) (sym (append-nil v.0))) refl v.1,
        within_like a b (members_ids rs ms) (λ n. v.0 ≡ (of_members rs ms).named n)
            (λ n. begin ∷ v.0 ≡ (of_doc rs (object ms)).named n) v.2
            (λ n h. ap₂ (λ j ps. begin_object j ∷ ps)
            (as_long (members_pieces ms) v.0 (members_pieces (named_members rs n ms)) end_object
            v.1.long h) h),
      )

  pub value_unruled : rs ≡ [] → b ≡ a → after ≡ before → (d : Doc) → Holds before at d
      → NamesStretch a b before after at (of_doc rs d)
  value_unruled none same_numbers same_nodes d h =
      subst (λ c. NamesStretch a c before after at (of_doc rs d)) (sym same_numbers)
      (subst (λ ns. NamesStretch a a before ns at (of_doc rs d)) (sym same_nodes) (
        pieces d,
        same_again before at (pieces d) h,
        record {
          names = subst (λ ts. Names a a (ids_of ts d) (λ n. pieces d ≡ pieces (named_doc ts n d)))
              (sym none)
              (subst (λ js. Names a a js (λ n. pieces d ≡ pieces (named_doc [] n d)))
              (sym (no_ids d))
              (names_none a (λ n. pieces d ≡ pieces (named_doc [] n d))
              (λ n. ap pieces (sym (same_doc n d)))));
          few = few_unruled a rs d none;
        },
      ))

  all_named : (d : Doc) → at ≡ 0 → Represents before d → length after ≡ length before
      → NamesStretch a b before after at (of_doc rs d)
      → Names a b (ids_of rs d) (λ n. Represents after (named_doc rs n d))
  all_named d start shows long v =
      names_like a b (ids_of rs d) (λ n. v.0 ≡ pieces (named_doc rs n d))
      (λ n. Represents after (named_doc rs n d)) v.2.names
      (λ n h. shown_whole before after d (named_doc rs n d) shows long
      (subst (λ qs. Replaced before after 0 (pieces d) qs) h
      (subst (λ i. Replaced before after i (pieces d) v.0) start v.1)))

-- ---- one node

module _ (a b : ValueNumbers) (ns : List Node) (at : ℕ) (n x : Node) (rs : List Declared) where
  pub leaf_named : NamesLeaf rs a b (piece_of (get_or ns at x)) (piece_of n)
      → NamesValue rs a b ns (set ns at n) at
  leaf_named l d h = of d h
    where
      no_leaf : (p : Piece) (ps : List Piece) → Stand ns at (p ∷ ps)
          → leaf (top_of p) ≡ p
      no_leaf p ps s =
          let first : piece_of (get_or ns at x) ≡ p =
          stands_first ns at (get_or ns at x) x p ps s refl in
          let same : leaf l.0 ≡ p = sym l.1 ∙ first in
          ap (λ q. leaf (top_of q)) (sym same) ∙ same

      one : (e : Doc) → Stand ns at (leaf e ∷ [])
          → ((m : Numbering) → pieces (named_doc rs m e) ≡ leaf (named_doc rs m e) ∷ [])
          → (qs : List Piece) × Replaced ns (set ns at n) at (leaf e ∷ []) qs
          × NamesWithin a b (ids_of rs e) (λ m. qs ≡ pieces (named_doc rs m e))
      one e s alone =
          let first : piece_of (get_or ns at x) ≡ leaf e =
          stands_first ns at (get_or ns at x) x (leaf e) [] s refl in
          let same : l.0 ≡ e = ap top_of (sym l.1 ∙ first) in (
            leaf l.2 ∷ [],
            one_replaced ns at n x (leaf e) (leaf l.2) [] s (λ _. l.3),
            within_like a b (ids_of rs e) (λ m. l.2 ≡ named_doc rs m e)
                (λ m. leaf l.2 ∷ [] ≡ pieces (named_doc rs m e))
                (subst (λ y. NamesWithin a b (ids_of rs y) (λ m. l.2 ≡ named_doc rs m y)) same l.4)
                (λ m q. ap (λ y. leaf y ∷ []) q ∙ sym (alone m)),
          )

      of : (e : Doc) → Holds ns at e → NamesStretch a b ns (set ns at n) at (of_doc rs e)
      of null s = one null s (λ m. refl)
      of (boolean c) s = one (boolean c) s (λ m. refl)
      of (whole z) s = one (whole z) s (λ m. refl)
      of (text t) s = one (text t) s (λ m. refl)
      of (list ds) s = let no = no_leaf _ _ s in absurd (cc)
      of (object ms) s = let no = no_leaf _ _ s in absurd (cc)
      of (id t z) s = one (id t z) s (λ m. refl)

-- ---- what is named in one node

module _ (a b : ValueNumbers) (rs : List Declared) (p q : Piece) where
  pub text_leaf : (labels : Labels) (s t : List ℕ) → labels ≡ here rs
      → p ≡ leaf (text s) → q ≡ leaf (text t)
      → NamesWithin a b (ids labels s) (λ n. t ≡ named labels n s) → NamesLeaf rs a b p q
  text_leaf labels s t is was now h = (
    text s,
    was,
    text t,
    now,
    within_like a b (ids (here rs) s) (λ n. t ≡ named (here rs) n s)
        (λ n. text t ≡ text (named (here rs) n s))
        (subst (λ (l : Labels). NamesWithin a b (ids l s) (λ n. t ≡ named l n s)) is h)
        (λ n e. ap text e),
  )

  pub whole_leaf : (labels : Labels) (z : ℤ) → labels ≡ here rs
      → p ≡ leaf (whole z) → NamesWhole (labels Whole) a b z q → NamesLeaf rs a b p q
  whole_leaf labels z is was h = (
    whole z,
    was,
    whole h.0,
    h.1,
    within_like a b (ids_of_whole (here rs Whole) z) (λ n. h.0 ≡ named_whole (here rs Whole) n z)
        (λ n. whole h.0 ≡ whole (named_whole (here rs Whole) n z))
        (subst (λ (l : Labels). NamesWithin a b (ids_of_whole (l Whole) z)
        (λ n. h.0 ≡ named_whole (l Whole) n z)) is h.2)
        (λ n e. ap whole e),
  )

  pub same_leaf : (d : Doc) → b ≡ a → p ≡ leaf d → q ≡ leaf d → ids_of rs d ≡ []
      → ((n : Numbering) → named_doc rs n d ≡ d) → NamesLeaf rs a b p q
  same_leaf d same was now none stays = (
    d,
    was,
    d,
    now,
    subst (λ c. NamesWithin a c (ids_of rs d) (λ n. d ≡ named_doc rs n d)) (sym same)
        (subst (λ js. NamesWithin a a js (λ n. d ≡ named_doc rs n d)) (sym none)
        (within_none a (λ n. d ≡ named_doc rs n d) (λ n. sym (stays n)))),
  )

-- ---- a whole message

module _ (a b : ValueNumbers) (before after : List Node) (xs : List Declaration)
    (rs : List Declared) (told : IsTold before 0 (rules_for xs) rs) where
  pub flat_named : length after ≡ length before → NamesValue rs a b before after 0
      → NamesNodes a b xs before after
  flat_named long named d shows =
      let holds = holds_whole before d shows in
      subst (λ ts. Names a b (ids_of ts d) (λ n. Represents after (named_doc ts n d)))
      (told d holds)
      (all_named a b before after 0 rs d refl shows long (named d holds))

  pub flat_few : NamesValue rs a b before after 0 → FitsNodes a xs before
  flat_few named d shows =
      let holds = holds_whole before d shows in
      subst (λ ts. FitsLimit a (ids_of ts d)) (told d holds) (named d holds).2.few
