-- The envelope of a message, found a member at a time.
use Rattle.std.proofs.Common.{◌≡◌, ℕ, ◌+◌, ◌<◌, List, [], ◌∷◌, ◌++◌, length, get_or, Bool, true}
use Rattle.std.proofs.Common.{false, cond, Option, Some, None, refl, sym, ap, ◌∙◌, subst}
use Rattle.std.proofs.Common.{option_map}
use Rattle.std.proofs.Common.{append_assoc, append-nil, arith, bytes_eq, nat_cmp, is_eq, Ordering}
use Rattle.std.proofs.Common.{Less}
use Rattle.std.proofs.Common.{Equal, Greater}
use Rattle.std.proofs.lemmas.Map.Text.{is_eq-slice_cmp}
use Rattle.std.specs.Cmp.Lexicographic.{slice_cmp}
use Rattle.std.specs.Option.{option_or}
use Rattle.std.specs.Ordering.{match_ordering}
use Rattle.dap_tree.specs.Doc.{Doc, null, boolean, whole, text, list, object, id, Members}
use Rattle.dap_tree.specs.Doc.{no_members, member}
use Rattle.dap_message.specs.Places.{is_object}
use Rattle.dap_flat.specs.declared.node.Node.{Node}
use Rattle.dap_flat.specs.Finding.{Stand, Holds, HoldsMembers}
use Rattle.dap_flat.specs.Pieces.{begin_object, end_object, name}
use Rattle.dap_flat.specs.Pieces.{piece_of, pieces, members_pieces, Represents}
use Rattle.dap_flat.specs.Placing.{size}
use Rattle.dap_flat.proofs.Position.{name_or}
use Rattle.dap_flat.proofs.Found.{stands_first, behind_first, second_part, size_there}
use Rattle.dap_flat_message.specs.Heads.{note}
use Rattle.dap_flat_message.specs.Judging.{top_of}
use Rattle.dap_flat_message.specs.Places.{place_after, place_in, place_of, word, place_at, put_at}
use Rattle.dap_flat_message.specs.Places.{HasPlaces, KeyLeft, EnvelopeLeft}
use Rattle.dap_flat_message.specs.declared.members.Envelope.{Envelope}
use Rattle.dap_flat_message.specs.declared.members.Key.{Key}
use Rattle.dap_flat_message.specs.declared.members.Key.TheVariants as key
use Rattle.dap_flat_message.proofs.Tops.{top_there, is_object-top}

pub holds_whole : (ns : List Node) (d : Doc) → Represents ns d → Holds ns 0 d
holds_whole ns d shows = record {
  front = [];
  inside = ns;
  behind = [];
  all = sym (append-nil ns);
  here = refl;
  shows = shows;
}

-- ---- one name

same : (o : Ordering) (e : Doc) (found : Option ℕ) → is_eq o ≡ true
    → match_ordering o (place_after e found) (Some 1) (place_after e found) ≡ Some 1
same Less e found h = cc
same Equal e found h = refl
same Greater e found h = cc

different : (o : Ordering) (e : Doc) (found : Option ℕ) → is_eq o ≡ false
    → match_ordering o (place_after e found) (Some 1) (place_after e found) ≡ place_after e found
different Less e found h = refl
different Equal e found h = cc
different Greater e found h = refl

after : (p end : ℕ) (e : Doc) (found : Option ℕ) → p + 1 + length (pieces e) ≡ end
    → option_map (λ i. p + i) (place_after e found) ≡ option_map (λ i. end + i) found
after p end e None wide = refl
after p end e (Some i) wide =
    let is : p + (1 + length (pieces e) + i) ≡ end + i = omega (arith, wide) in ap Some is

noted_new : (p end : ℕ) (k l : List ℕ) (ms : Members) (e : Doc) (rest : Members) (b : Bool)
    → p + 1 + length (pieces e) ≡ end → KeyLeft p k ms (member l e rest) None → bytes_eq k l ≡ b
    → KeyLeft end k ms rest (cond b (Some (p + 1)) None)
noted_new p end k l ms e rest true wide left is =
    left ∙ ap (option_map (λ i. p + i))
    (same (slice_cmp nat_cmp k l) e (place_in k rest) (is_eq-slice_cmp k l ∙ is))
noted_new p end k l ms e rest false wide left is =
    left ∙ ap (option_map (λ i. p + i))
    (different (slice_cmp nat_cmp k l) e (place_in k rest) (is_eq-slice_cmp k l ∙ is))
    ∙ after p end e (place_in k rest) wide

noted : (p end : ℕ) (k l : List ℕ) (ms : Members) (e : Doc) (rest : Members) (found now : Option ℕ)
    → p + 1 + length (pieces e) ≡ end → KeyLeft p k ms (member l e rest) found
    → now ≡ note k l (p + 1) found → KeyLeft end k ms rest now
noted p end k l ms e rest None now wide left is =
    subst (KeyLeft end k ms rest) (sym is)
    (noted_new p end k l ms e rest (bytes_eq k l) wide left refl)
noted p end k l ms e rest (Some j) now wide left is =
    subst (KeyLeft end k ms rest) (sym is) left

-- ---- a value put at a key

put_same : (k : List ℕ) (i : ℕ) (found : Option ℕ) → bytes_eq k k ≡ true
    → option_or found (Some i) ≡ note k k i found
put_same k i None is = sym (ap (λ b. cond b (Some i) None) is)
put_same k i (Some j) is = refl

put_other : (k l : List ℕ) (i : ℕ) (found : Option ℕ) → bytes_eq k l ≡ false
    → found ≡ note k l i found
put_other k l i None is = sym (ap (λ b. cond b (Some i) None) is)
put_other k l i (Some j) is = refl

pub put_noted : (k j : Key) (i : ℕ) (e : Envelope)
    → place_at j (put_at k (option_or (place_at k e) (Some i)) e)
    ≡ note (word j) (word k) i (place_at j e)
put_noted key.Kind key.Kind i e = put_same (word key.Kind) i e.kind refl
put_noted key.Command key.Command i e = put_same (word key.Command) i e.command refl
put_noted key.Event key.Event i e = put_same (word key.Event) i e.event refl
put_noted key.Seq key.Seq i e = put_same (word key.Seq) i e.seq refl
put_noted key.RequestSeq key.RequestSeq i e = put_same (word key.RequestSeq) i e.request_seq refl
put_noted key.Success key.Success i e = put_same (word key.Success) i e.success refl
put_noted key.Message key.Message i e = put_same (word key.Message) i e.message refl
put_noted key.Arguments key.Arguments i e = put_same (word key.Arguments) i e.arguments refl
put_noted key.Body key.Body i e = put_same (word key.Body) i e.body refl
put_noted k j i e = put_other (word j) (word k) i (place_at j e) refl

pub none_noted : (j : Key) (l : List ℕ) (i : ℕ) (e : Envelope) → bytes_eq (word j) l ≡ false
    → place_at j e ≡ note (word j) l i (place_at j e)
none_noted j l i e is = put_other (word j) l i (place_at j e) is

-- ---- all names

pub value_then : (ns : List Node) (p : ℕ) (l : List ℕ) (e : Doc) (rest : Members)
    → HoldsMembers ns p (member l e rest)
    → Stand ns (p + 1) (pieces e ++ (members_pieces rest ++ end_object ∷ []))
value_then ns p l e rest s =
    subst (Stand ns (p + 1)) (append_assoc (pieces e) (members_pieces rest) (end_object ∷ []))
    (behind_first ns p (name l) ((pieces e ++ members_pieces rest) ++ end_object ∷ []) s)

pub all_left : (ns : List Node) (e : Envelope) (ms : Members)
    → ((j : Key) → place_at j e ≡ None) → HoldsMembers ns 1 ms → EnvelopeLeft ns 1 ms e
all_left ns e ms none h = record {
  left = ms;
  holds = h;
  keys = λ j. ap (λ o. option_or o (option_map (λ i. 1 + i) (place_in (word j) ms)))
      (sym (none j));
}

passed : (ns : List Node) (p end : ℕ) (k : List ℕ) (ms left : Members) (n x : Node)
    (old new : Envelope) → HoldsMembers ns p left
    → ((j : Key) → KeyLeft p (word j) ms left (place_at j old)) → get_or ns p x ≡ n
    → piece_of n ≡ name k → p + 1 < length ns
    → end ≡ p + 1 + size (piece_of (get_or ns (p + 1) x))
    → ((j : Key) → place_at j new ≡ note (word j) k (p + 1) (place_at j old))
    → EnvelopeLeft ns end ms new
passed ns p end k ms no_members n x old new h keys there named within wide notes =
    let first : piece_of n ≡ end_object = stands_first ns p n x end_object [] h there in absurd (cc)
passed ns p end k ms (member l v rest) n x old new h keys there named within wide notes =
    let first : piece_of n ≡ name l =
    stands_first ns p n x (name l) ((pieces v ++ members_pieces rest) ++ end_object ∷ []) h there in
    let equal : k ≡ l = ap name_or (sym named ∙ first) in
    let value = value_then ns p l v rest h in
    let width = size_there ns (p + 1) x v (members_pieces rest ++ end_object ∷ []) value within in
    let end_is : p + 1 + length (pieces v) ≡ end = omega (arith, wide, width) in record {
      left = rest;
      holds = subst (λ i. HoldsMembers ns i rest) end_is
          (second_part ns (p + 1) (pieces v) (members_pieces rest ++ end_object ∷ []) value);
      keys = λ j. noted p end (word j) l ms v rest (place_at j old) (place_at j new) end_is (keys j)
          (notes j ∙ ap (λ k. note (word j) k (p + 1) (place_at j old)) equal);
    }

pub envelope_passed : (ns : List Node) (p end : ℕ) (k : List ℕ) (ms : Members) (n x : Node)
    (old new : Envelope) → EnvelopeLeft ns p ms old → get_or ns p x ≡ n → piece_of n ≡ name k
    → p + 1 < length ns → end ≡ p + 1 + size (piece_of (get_or ns (p + 1) x))
    → ((j : Key) → place_at j new ≡ note (word j) k (p + 1) (place_at j old))
    → EnvelopeLeft ns end ms new
envelope_passed ns p end k ms n x old new l there named within wide notes =
    passed ns p end k ms l.left n x old new l.holds l.keys there named within wide notes

-- ---- the end

none_left : (ns : List Node) (p : ℕ) (k : List ℕ) (left : Members) (n x : Node)
    → HoldsMembers ns p left → get_or ns p x ≡ n → piece_of n ≡ end_object
    → place_in k left ≡ None
none_left ns p k no_members n x h there ended = refl
none_left ns p k (member l e rest) n x h there ended =
    let first : piece_of n ≡ name l =
    stands_first ns p n x (name l) ((pieces e ++ members_pieces rest) ++ end_object ∷ []) h there in
    absurd (cc)

or_none : (found : Option ℕ) → option_or found None ≡ found
or_none None = refl
or_none (Some i) = refl

all_found : (ns : List Node) (p : ℕ) (ms : Members) (n x : Node) (e : Envelope)
    → EnvelopeLeft ns p ms e → get_or ns p x ≡ n → piece_of n ≡ end_object
    → HasPlaces e (object ms)
all_found ns p ms n x e l there end j =
    sym (l.keys j ∙ ap (λ o. option_or (place_at j e) (option_map (λ i. p + i) o))
    (none_left ns p (word j) l.left n x l.holds there end) ∙ or_none (place_at j e))

object_inside : (ns : List Node) (d : Doc) → Holds ns 0 d → is_object d ≡ true
    → (ms : Members) × (d ≡ object ms) × HoldsMembers ns 1 ms
object_inside ns null h is = absurd (cc)
object_inside ns (boolean b) h is = absurd (cc)
object_inside ns (whole z) h is = absurd (cc)
object_inside ns (text s) h is = absurd (cc)
object_inside ns (list ds) h is = absurd (cc)
object_inside ns (object ms) h is =
    (ms, refl, behind_first ns 0 (begin_object (length (members_pieces ms))) _ h)
object_inside ns (id s z) h is = absurd (cc)

object_there : (ns : List Node) (x : Node) (d : Doc) → Holds ns 0 d
    → is_object (top_of (piece_of (get_or ns 0 x))) ≡ is_object d
object_there ns x d h =
    ap is_object (top_there ns 0 d (get_or ns 0 x) x h refl) ∙ is_object-top d

pub envelope_ended : (ns : List Node) (p : ℕ) (n x y : Node) (e : Envelope) (d : Doc)
    → ((ms : Members) → HoldsMembers ns 1 ms → EnvelopeLeft ns p ms e)
    → is_object (top_of (piece_of (get_or ns 0 y))) ≡ true → get_or ns p x ≡ n
    → piece_of n ≡ end_object → Represents ns d → HasPlaces e d
envelope_ended ns p n x y e d left is there end shows =
    let h = holds_whole ns d shows in
    let inside = object_inside ns d h (sym (object_there ns y d h) ∙ is) in
    subst (HasPlaces e) (sym inside.1)
    (all_found ns p inside.0 n x e (left inside.0 inside.2) there end)

no_place : (k : List ℕ) (d : Doc) → is_object d ≡ false → place_of k d ≡ None
no_place k null is = refl
no_place k (boolean b) is = refl
no_place k (whole z) is = refl
no_place k (text s) is = refl
no_place k (list ds) is = refl
no_place k (object ms) is = absurd (cc)
no_place k (id s z) is = refl

pub no_envelope : (ns : List Node) (x : Node) (e : Envelope) (d : Doc)
    → is_object (top_of (piece_of (get_or ns 0 x))) ≡ false
    → ((j : Key) → place_at j e ≡ None) → Represents ns d → HasPlaces e d
no_envelope ns x e d is none shows j =
    none j ∙ sym (no_place (word j) d (sym (object_there ns x d (holds_whole ns d shows)) ∙ is))
